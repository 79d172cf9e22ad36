use Rattle.std.proofs.Common.{◌≡◌, ◌<◌, ◌⊎◌, ℕ, List, [], length, slice_get, Some, refl, ap, sym, ◌∙◌, subst, arith, inl, inr}
use Rattle.std.proofs.lemmas.Option.{slice_get_read}
use Rattle.sf_refusing.specs.declared.passage.Passage.{Passage}
use Rattle.std.proofs.lemmas.Bool.{eqb-true, eqb-false}
use Rattle.std.proofs.lemmas.List.{nil_from_length}
use Rattle.sf_refusing.specs.Journal.{log_of}
use Rattle.sf_refusing.specs.Refusing.{IsNextOutput}
use Rattle.sf_refusing.specs.Fronts.{IsPassageAt}
use Rattle.sf_refusing.proofs.Sessions.{next_all, next_first}
use Rattle.sf_refusing.proofs.refusals.Refusals.output.Goals as goal

pub returns-in_default-clause-some : goal.returns-in_default-clause-some
returns-in_default-clause-some g c = λ journal H own.
    let unsent = c.in_ok-output.ensures.some (log_of journal) H.1 in
    let none : (c.args.session ≡ 0) ⊎ (length c.args.self.now.passages.items < c.args.session) = elim c.in_default.ensures.none [ inl z ↦ inl z | inr lt ↦ inr (omega (arith, lt, c.len.ensures, c.args.self.now.passages.ok.0)) ] in
    (unsent.0, next_all journal c.args.session [] [] c.in_ok-output.output.now refl ((H.0.others c.args.session none).served own) unsent.1)

pub returns-then-is_empty-clause-some : goal.returns-then-is_empty-clause-some
returns-then-is_empty-clause-some g c = λ journal H own.
    let unsent = c.in_ok-output.ensures.some (log_of journal) H.1 in
    let p : Passage = c.index-passage.result.now in
    let here : slice_get c.args.self.now.passages.items c.in-Some.at ≡ Some p = slice_get_read c.args.self.now.passages.items (length c.args.self.now.passages.items) c.in-Some.at p refl (omega (arith, c.in-Some.ensures.some.1, c.len.ensures, c.args.self.now.passages.ok.0)) c.index-passage.ensures in
    let at : IsPassageAt journal c.args.session p = subst (λ (n : ℕ). IsPassageAt journal n p) c.in-Some.ensures.some.0 (H.0.each c.in-Some.at p here) in
    let empty : p.output.items ≡ [] = nil_from_length p.output.items (eqb-true (length p.output.items) 0 (sym c.is_empty.ensures ∙ c.if-is_empty.true)) in
    (unsent.0, next_all journal c.args.session p.held.items p.output.items c.in_ok-output.output.now empty (at.served own) unsent.1)

pub returns-clause-some : goal.returns-clause-some
returns-clause-some g c = λ journal H own.
    let unsent = c.in_ok-output.ensures.some (log_of journal) H.1 in
    let p : Passage = c.index-passage.result.now in
    let here : slice_get c.args.self.now.passages.items c.in-Some.at ≡ Some p = slice_get_read c.args.self.now.passages.items (length c.args.self.now.passages.items) c.in-Some.at p refl (omega (arith, c.in-Some.ensures.some.1, c.len.ensures, c.args.self.now.passages.ok.0)) c.index-passage.ensures in
    let at : IsPassageAt journal c.args.session p = subst (λ (n : ℕ). IsPassageAt journal n p) c.in-Some.ensures.some.0 (H.0.each c.in-Some.at p here) in
    let first : IsNextOutput journal c.args.session p.output.items = next_first journal c.args.session p.held.items p.output.items
    (λ empty. eqb-false (length p.output.items) 0 (sym c.is_empty.ensures ∙ c.if-is_empty.false) (ap (λ (b : List ℕ). length b) empty)) (at.served own) in
    (unsent.0, subst (λ (b : List ℕ). IsNextOutput journal c.args.session b) (sym c.as_slice.ensures) first)
