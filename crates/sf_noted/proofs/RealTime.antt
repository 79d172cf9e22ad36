-- The calls of a prefix precede those without a record in it.
use Rattle.std.proofs.Common.{◌≡◌, ◌⊎◌, ℕ, List, [], ◌∷◌, ◌++◌, sym, ap, ◌∙◌, subst, inl, inr, ⊎_elim}
use mathlib.Core.Logic.{dite}
use native.Mathlib.Decide.{ℕ_discrete}
use Rattle.sf_call.specs.declared.record.Record.{Record}
use Rattle.sf_call.specs.declared.record.Record.TheVariants.{Did, Left}
use Rattle.sf_call.specs.Histories.{IsNewNumber}
use Rattle.sf_audit.specs.Audits.{CallRecord, call_records, IsIn}
use Rattle.sf_roll.specs.Seen.{IsPrefixOf}
use Rattle.sf_noted.specs.Seen.{Precedes}
use Rattle.sf_noted.proofs.Records.{records_append, own_did, other_did}

in_front : (xs ys : List CallRecord) (a : CallRecord) → IsIn xs a → IsIn (xs ++ ys) a
in_front [] ys a i = absurd i
in_front (x ∷ xs) ys a (inl e) = inl e
in_front (x ∷ xs) ys a (inr i) = inr (in_front xs ys a i)

in_either : (xs ys : List CallRecord) (a : CallRecord) → IsIn (xs ++ ys) a → IsIn xs a ⊎ IsIn ys a
in_either [] ys a i = inr i
in_either (x ∷ xs) ys a (inl e) = inl (inl e)
in_either (x ∷ xs) ys a (inr i) = ⊎_elim (λ l. inl (inr l)) (λ r. inr r) (in_either xs ys a i)

-- no call of a new number is among the records
not_in : (t : ℕ) (a : CallRecord) (rs : List Record) → IsNewNumber a.number rs → IsIn (call_records t rs) a → ⊥
not_in t a [] new i = absurd i
not_in t a (Left s ∷ rs) new i = not_in t a rs new.1 i
not_in t a (Did number s moment request given ∷ rs) new i =
    let is : (xs : List CallRecord) → call_records t (Did number s moment request given ∷ rs) ≡ xs → IsIn xs a = λ xs e. subst (λ (l : List CallRecord). IsIn l a) e i in
    dite (ℕ_discrete s t)
    (λ same. ⊎_elim
    (λ (x : (record { number = number; request = request; reply = given }) ≡ a). new.0 (ap (λ (c : CallRecord). c.number) x))
    (λ (x : IsIn (call_records t rs) a). not_in t a rs new.1 x)
    (is _ (own_did t number s moment request given rs same)))
    (λ apart. not_in t a rs new.1 (is _ (other_did t number s moment request given rs apart)))

pub precedes : (history earlier seen : List Record) → IsPrefixOf earlier seen → IsPrefixOf seen history → (s t : ℕ) (first second : CallRecord) → IsIn (call_records s earlier) first → IsNewNumber second.number seen → IsIn (call_records t history) second
    → Precedes history (s, first) (t, second)
precedes history earlier seen was now s t first second i new j =
    let calls = λ (u : ℕ). records_append u seen now.0 in
    let early = records_append s earlier was.0 in
    let first_in = subst (λ (l : List CallRecord). IsIn l first) (sym (ap (call_records s) was.1 ∙ early)) (in_front (call_records s earlier) (call_records s was.0) first i) in
    let second_in = in_either (call_records t seen) (call_records t now.0) second (subst (λ (l : List CallRecord). IsIn l second) (ap (call_records t) now.1 ∙ calls t) j) in
    (seen, now.0, now.1, first_in, ⊎_elim (λ x. absurd (not_in t second seen new x)) (λ x. x) second_in)
