use Rattle.std.proofs.Common.{◌+◌, ◌-◌, ◌∙◌, ℕ, List, length, drop, arith, sym, ap}
use Rattle.std.specs.Prelude.{slice_range}
use Rattle.std.proofs.lemmas.List.{length-take, length-drop}
use Rattle.bytes.proofs.Ranges.{slice_range-slice_range}
use Rattle.sf_field.specs.Strings.{owned}
use Rattle.sf_field.proofs.byte_string.ByteString.part.Goals as goal

pub returns : goal.returns
returns c =
    let inside = c.self.inside in
    let from = inside.from + c.args.from in
    let to = inside.from + c.args.to in
    let len = ap (λ (x : List ℕ). length x) c.self.view_is in
    let front = length-take (inside.to - inside.from) (drop inside.from (owned inside.whole)) in
    let cut = length-drop inside.from (owned inside.whole) in
    ap (λ v. slice_range v.items from to) c.in_ok-try_clone-in-Some.ensures
    ∙ ap (λ w. slice_range (owned w) from to) (sym c.in-Some.is)
    ∙ sym (slice_range-slice_range (owned inside.whole) inside.from inside.to c.args.from c.args.to (omega (arith, c.if-from-to.true)) (omega (arith, c.requires.1, len, front, cut, c.self.invariant.0, c.self.invariant.1)))
    ∙ ap (λ (x : List ℕ). slice_range x c.args.from c.args.to) c.self.view_is
