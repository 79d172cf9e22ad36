use Rattle.std.proofs.Common.{sym, ap, ◌∙◌, cond}
use Rattle.std.specs.Ordering.{nat_cmp}
use Rattle.std.specs.Cmp.{nat_cmp_total}
use Rattle.std.specs.BTreeMap.{is_at}
use Rattle.std.specs.FinMap.{nat_cmp-IsAntisymmetric}
use Rattle.sf_call.specs.Tree.{Tree, handle_of}
use Rattle.sf_plain.proofs.Undone.{put_back, same_tree}
use Rattle.sf_plain.proofs.tree.PlainTree.add_opened.Goals as goal

-- the handle was inserted, the path was not, and the replaced handle is restored
pub returns-in-Err-clause-err : goal.returns-in-Err-clause-err
returns-in-Err-clause-err c =
    let whole = c.self-2.view_is ∙ c.in-Err.ensures.err in
    let handles = put_back nat_cmp_total nat_cmp-IsAntisymmetric c.self.inside.handles c.insert.new.self c.put_back.new.handles c.args.number c.args.handle c.in_ok-replaced.replaced
    c.in_ok-replaced.ensures.was_ordered c.put_back.ensures.ordered (sym c.in_ok-replaced.ensures.old)
    c.in_ok-replaced.ensures.updates.0
    (λ q. c.put_back.ensures.found q ∙ ap (λ (t : Tree). cond (is_at (nat_cmp c.args.number) q) c.in_ok-replaced.replaced (handle_of t.handles q)) whole) in
    same_tree _ _ (ap (λ (t : Tree). t.names) whole) (ap (λ (t : Tree). t.objects) whole) handles ∙ c.self.view_is
