use Rattle.std.proofs.Common.{rules, arith}
use Rattle.std.proofs.lemmas.Grind.{common_steps}
use Rattle.sf_plain.proofs.Undone.{set_nowhere}
use Rattle.sf_plain.proofs.tree.PlainTree.set_object.Goals.{in-Some+in-File-1, in-Some+in-Directory-1, in_default+in-File-1, in_default+in-Directory-1}
use Rattle.sf_plain.proofs.tree.PlainTree.set_object.Goals as goal

pub returns : goal.returns
returns c =
    elim c.match-get_mut.branch [
      | in-Some+in-File-1 w ↦ search rules
      | in-Some+in-Directory-1 w ↦ search rules
      | in_default+in-File-1 w ↦ grind (arith, common_steps, set_nowhere)
      | in_default+in-Directory-1 w ↦ search (rules, set_nowhere)
    ]
