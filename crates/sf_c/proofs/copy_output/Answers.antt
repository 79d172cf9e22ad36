use Rattle.std.proofs.Common.{◌≡◌, length, pos, refl, inl, inr, rules}
use mir.Syntax.{w64}
use mir.Val.{to_z}
use Rattle.sf_c.proofs.copy_output.Goals as goal

pub returns-in_default : goal.returns-in_default
returns-in_default c = inr (c.in_default.ensures.none, refl, refl)

pub returns : goal.returns
returns c =
    let output = c.in-Some.output.now in
    let shown : to_z w64 (length output) ≡ pos (length output) = search rules in
    inl (output, c.in-Some.ensures.some, shown, c.copy_front.ensures)
