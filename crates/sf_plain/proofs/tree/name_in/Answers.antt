use Rattle.std.proofs.Common.{sym, ap, ◌∙◌, arith}
use Rattle.std.specs.List.{slice_get}
use Rattle.std.specs.Bool.{IsTrue}
use Rattle.sf_plain.proofs.Children.{no_front, other_length, name_below}
use Rattle.sf_plain.proofs.tree.name_in.Goals.{else-begins_with-via-then-begins_with+else-saturating_sub-eq1, else-begins_with-via-else-begins_with}
use Rattle.sf_plain.proofs.tree.name_in.Goals as goal

pub returns-else-begins_with : goal.returns-else-begins_with
returns-else-begins_with c =
    elim c.else-begins_with.branch [
      | else-begins_with-via-then-begins_with+else-saturating_sub-eq1 w ↦
          other_length c.args.directory.now c.args.path.now (λ e. w.if-saturating_sub-eq1.false (omega (arith, e, w.saturating_sub.ensures, w.len.ensures, w.len-then-begins_with.ensures)))
      | else-begins_with-via-else-begins_with w ↦ no_front c.args.directory.now c.args.path.now (λ is. let yes : IsTrue c.begins_with.result = c.begins_with.ensures.1 is in let not_so = w.if-begins_with.false in cc)
    ]

pub returns-then-saturating_sub-eq1 : goal.returns-then-saturating_sub-eq1
returns-then-saturating_sub-eq1 c =
    name_below c.args.directory.now c.args.path.now c.name.result.now (c.begins_with.ensures.0 c.if-begins_with.true)
    (omega (arith, c.if-saturating_sub-eq1.true, c.saturating_sub.ensures, c.len.ensures, c.len-then-begins_with.ensures))
    (ap (slice_get c.args.path.now) (sym c.len-then-saturating_sub-eq1.ensures) ∙ c.name.ensures)
