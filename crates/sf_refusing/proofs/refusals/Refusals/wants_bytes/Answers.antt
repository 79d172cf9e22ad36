use Rattle.std.proofs.Common.{◌≡◌, ◌<◌, ◌⊎◌, ℕ, List, [], length, slice_get, Some, refl, sym, subst, arith, inl, inr}
use Rattle.std.proofs.lemmas.Option.{slice_get_read}
use Rattle.sf_refusing.specs.declared.passage.Passage.{Passage}
use Rattle.std.proofs.lemmas.Bool.{false≢true}
use Rattle.sf_wire.specs.declared.cutting.Cut.TheVariants as cut
use Rattle.sf_wire.specs.Packets.{IsCut}
use Rattle.sf_refusing.specs.Journal.{log_of}
use Rattle.sf_refusing.specs.Fronts.{IsPassageAt}
use Rattle.sf_refusing.proofs.Sessions.{held_more}
use Rattle.sf_refusing.proofs.refusals.Refusals.wants_bytes.Goals as goal

pub returns-in-More : goal.returns-in-More
returns-in-More g c = λ journal H own.
    let p : Passage = c.index.result.now in
    let here : slice_get c.args.self.now.passages.items c.in-Some.at ≡ Some p = slice_get_read c.args.self.now.passages.items (length c.args.self.now.passages.items) c.in-Some.at p refl (omega (arith, c.in-Some.ensures.some.1, c.len.ensures, c.args.self.now.passages.ok.0)) c.index.ensures in
    let at : IsPassageAt journal c.args.session p = subst (λ (n : ℕ). IsPassageAt journal n p) c.in-Some.ensures.some.0 (H.0.each c.in-Some.at p here) in
    let more : IsCut p.held.items cut.More = subst (λ (b : List ℕ). IsCut b cut.More) c.as_slice.ensures c.in-More.ensures.found in (
      (λ yes. ((c.wants_bytes.ensures (log_of journal) H.1).0 c.if-not-wants_bytes.false, held_more journal c.args.session p.held.items p.output.items (at.served own) more)),
      (λ both. refl),
    )

pub returns-in_default : goal.returns-in_default
returns-in_default g c = λ journal H own.
    let p : Passage = c.index.result.now in
    let here : slice_get c.args.self.now.passages.items c.in-Some.at ≡ Some p = slice_get_read c.args.self.now.passages.items (length c.args.self.now.passages.items) c.in-Some.at p refl (omega (arith, c.in-Some.ensures.some.1, c.len.ensures, c.args.self.now.passages.ok.0)) c.index.ensures in
    let at : IsPassageAt journal c.args.session p = subst (λ (n : ℕ). IsPassageAt journal n p) c.in-Some.ensures.some.0 (H.0.each c.in-Some.at p here) in (
      (λ yes. absurd (false≢true yes)),
      (λ both.
          let more : IsCut p.held.items cut.More = both.1 p.held.items (at.served own).received in
          absurd (c.in_default.not-More (c.cut.ensures.only cut.More (subst (λ (b : List ℕ). IsCut b cut.More) (sym c.as_slice.ensures) more)))),
    )

pub returns-in-None : goal.returns-in-None
returns-in-None g c = λ journal H own.
    let none : (c.args.session ≡ 0) ⊎ (length c.args.self.now.passages.items < c.args.session) = elim c.in-None.ensures.none [ inl z ↦ inl z | inr lt ↦ inr (omega (arith, lt, c.len.ensures, c.args.self.now.passages.ok.0)) ] in (
      (λ yes. ((c.wants_bytes.ensures (log_of journal) H.1).0 c.if-not-wants_bytes.false, held_more journal c.args.session [] [] ((H.0.others c.args.session none).served own) (inl (omega arith)))),
      (λ both. refl),
    )
