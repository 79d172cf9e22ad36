-- What a call of C's returns: a number in 64 bits, with the contents of the handles.
use Rattle.std.proofs.Common.{◌≡◌, ℤ, Option, Some, sym, subst}
use mir.Syntax.{w64}
use mir.Val.{SFits, to_z, of_z}
use Rattle.std.proofs.lemmas.Int.{to_z-of_z}
use Rattle.sf_engine.specs.Views.{EngineView}
use Rattle.sf_refusing.specs.declared.refusals.Refusals.{Refusals}
use Rattle.sf_c.specs.Journals.{InBoth, OfBoth}

pub stored : (P : ℤ → Type 0) (n : ℤ) → SFits w64 n → P n → P (to_z w64 (of_z w64 n))
stored P n fits is = subst P (sym (to_z-of_z w64 n fits)) is

pub of_both : (P : EngineView → Refusals → Type 0) {before : Option EngineView} {rules : Option Refusals} {e e' : EngineView} {r r' : Refusals}
    → before ≡ Some e → rules ≡ Some r → e' ≡ e → r' ≡ r → P e' r' → OfBoth before rules P
of_both P {e = e} {e' = e'} {r = r} is is_r same same_r says = (e, r, is, is_r, subst (λ (x : EngineView). P x r) same (subst (λ (x : Refusals). P e' x) same_r says))

pub in_both : (P : ℤ → EngineView → Refusals → EngineView → Refusals → Type 0) (n : ℤ) {before after : Option EngineView} {rules rules' : Option Refusals} {e e' new : EngineView} {r r' new_r : Refusals}
    → SFits w64 n → before ≡ Some e → rules ≡ Some r → after ≡ Some new → rules' ≡ Some new_r → e' ≡ e → r' ≡ r → P n e' r' new new_r
    → InBoth before rules (P (to_z w64 (of_z w64 n))) after rules'
in_both P n {e = e} {e' = e'} {new = new} {r = r} {new_r = new_r} fits is is_r put put_r same same_r done =
    let led = subst (λ (x : EngineView). P n x r new new_r) same (subst (λ (x : Refusals). P n e' x new new_r) same_r done) in
    (e, r, new, new_r, is, is_r, put, put_r, stored (λ (m : ℤ). P m e r new new_r) n fits led)
