use Rattle.sf_keeps.proofs.KeepsMoved.{keeps_moved, keeps_replaced}
use Rattle.sf_keeps.proofs.tree_laws.moved_path.Goals as goal

pub returns-clause-to_nothing : goal.returns-clause-to_nothing
returns-clause-to_nothing c = λ s t p dir n id q to m k at there at_to is_dir apart free. keeps_moved s t p dir n id q to m k at there at_to is_dir apart free

pub returns-clause-in_place : goal.returns-clause-in_place
returns-clause-in_place c = λ s t p dir n id q to m target k at there at_to is_dir apart stood bare other. keeps_replaced s t p dir n id q to m k at there at_to is_dir apart target stood bare other
