use Rattle.std.proofs.Common.{false, sym, ap, ◌∙◌}
use Rattle.std.specs.Option.{option_map_or}
use Rattle.sf_inode.specs.declared.node.Node.{Node}
use Rattle.sf_inode.specs.Nodes.{is_file_content}
use Rattle.sf_keeps.proofs.KeepsLinked.{keeps_linked}
use Rattle.sf_keeps.proofs.tree_laws.new_name.Goals as goal

pub returns : goal.returns
returns c = λ s t p dir n id node k at is_dir free here file fewer.
    keeps_linked s t k p dir n id node at is_dir free here (sym (ap (λ o. option_map_or (λ (it : Node). is_file_content it.content) o false) here) ∙ file) fewer
