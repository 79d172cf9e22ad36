use Rattle.std.proofs.Common.{refl, ap, ◌∙◌, Some, cond}
use Rattle.std.specs.BTreeMap.{get, is_at}
use Rattle.sf_path.specs.Order.{path_cmp, path_total}
use Rattle.sf_path.specs.Names.{Path}
use Rattle.sf_call.specs.Tree.{Tree, label_at}
use Rattle.sf_plain.proofs.Undone.{exact_paths}
use Rattle.sf_plain.proofs.Undone.{undone, same_tree}
use Rattle.sf_plain.proofs.tree.PlainTree.add.Goals as goal

-- the path was absent, was added and is removed again
pub returns-in-Err-clause-err : goal.returns-in-Err-clause-err
returns-in-Err-clause-err c =
    let path = c.args.path.now in
    let names = undone path_total exact_paths c.self.inside.names c.insert.new.self c.remove.new.self path c.args.label
    c.in_ok-insert.ensures.was_ordered c.remove.ensures.ordered
    (ap (λ (t : Tree). label_at t.names path) c.self.view_is ∙ c.requires)
    (λ q. c.in_ok-insert.ensures.updates.0 q ∙ ap (λ (p : Path). cond (is_at (path_cmp p) q) (Some c.args.label) (get path_cmp c.self.inside.names q)) c.in_ok-name.ensures)
    c.remove.ensures.updates.0 in
    same_tree _ _ names c.in-Err.ensures.err refl ∙ c.self.view_is
