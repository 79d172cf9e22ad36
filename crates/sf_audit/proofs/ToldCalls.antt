-- Answered calls compared with those of the records.
use Rattle.std.proofs.Common.{◌≡◌, ◌≢◌, ◌↔◌, inl, inr, ℕ, ◌<◌, ◌≤◌, ◌+◌, List, [], ◌∷◌, length, drop, get_or, Option, Some, None, refl, sym, ◌∙◌, ap, subst, map, Bool, false, IsTrue, ◌==◌, arith}
use Rattle.std.proofs.lemmas.List.{drop_more, at_drop_all}
use Rattle.sf_audit.specs.declared.transcript.AnsweredCall.{AnsweredCall}
use Rattle.std.specs.List.{cons_option, AllByRecursion}
use Rattle.sf_audit.specs.Audits.{CallRecord, call_record, IsIn, IsWithin}

within_fewer : (x : CallRecord) (xs ys : List CallRecord) → IsWithin (x ∷ xs) ys → IsWithin xs ys
within_fewer x [] ys h = tt
within_fewer x (z ∷ zs) [] h = absurd h
within_fewer x (z ∷ zs) (y ∷ ys) h = elim h [ inl p ↦ inr p.1 | inr t ↦ inr (within_fewer x (z ∷ zs) ys t) ]

pub within_takes : (o : Option CallRecord) (x : CallRecord) (xs ys : List CallRecord) → o ≡ Some x → IsWithin (x ∷ xs) (cons_option o ys) ↔ IsWithin xs ys
within_takes None x xs ys e = absurd cc
within_takes (Some y) x xs ys e =
    let same : x ≡ y = cc in
    ((λ h. elim h [ inl p ↦ p.1 | inr t ↦ within_fewer x xs ys t ]), (λ h. inl (same, h)))

pub within_passes : (o : Option CallRecord) (x : CallRecord) (xs ys : List CallRecord) → (o ≢ Some x) → IsWithin (x ∷ xs) (cons_option o ys) ↔ IsWithin (x ∷ xs) ys
within_passes None x xs ys ne = ((λ h. h), (λ h. h))
within_passes (Some y) x xs ys ne = ((λ h. elim h [ inl p ↦ absurd (ne (ap Some (sym p.0))) | inr t ↦ t ]), (λ h. inr h))

-- every element of a list is in the list
pub in_itself : (xs : List CallRecord) → AllByRecursion (IsIn xs) xs
in_itself xs = all_in xs xs (λ d h. h)
  where
    all_in : (xs ys : List CallRecord) → ((d : CallRecord) → IsIn xs d → IsIn ys d) → AllByRecursion (IsIn ys) xs
    all_in [] ys f = tt
    all_in (x ∷ xs) ys f = (f x (inl refl), all_in xs ys (λ d h. f d (inr h)))

pub within_itself : (xs : List CallRecord) → IsWithin xs xs
within_itself [] = tt
within_itself (x ∷ xs) = inl (refl, within_itself xs)

-- A loop step past the item x: what is required of the remaining list is equivalent.
pub goes_on : {A B X : Type 0} (F : List X → Type 0) (xs : List X) (i : ℕ) (x : X) → i < length xs → x ≡ get_or xs i x → A ↔ F (drop i xs) → F (x ∷ drop (i + 1) xs) ↔ B → A ↔ B
goes_on F xs i x lt is now next =
    let at : drop i xs ≡ x ∷ drop (i + 1) xs = drop_more xs i x lt ∙ ap (λ y. y ∷ drop (i + 1) xs) (sym is) in
    ((λ a. next.0 (subst F at (now.0 a))), (λ b. now.1 (subst F (sym at) (next.1 b))))

-- or the loop ends, since that is impossible
pub ends_here : {A X : Type 0} (F : List X → Type 0) (xs : List X) (i : ℕ) (x : X) → i < length xs → x ≡ get_or xs i x → A ↔ F (drop i xs) → (F (x ∷ drop (i + 1) xs) → ⊥) → A → ⊥
ends_here F xs i x lt is now never a =
    let at : drop i xs ≡ x ∷ drop (i + 1) xs = drop_more xs i x lt ∙ ap (λ y. y ∷ drop (i + 1) xs) (sym is) in
    never (subst F at (now.0 a))

-- only the empty list is a subsequence of the empty list
pub none_left : (b : Bool) (es : List AnsweredCall) → b ≡ (length es == 0) → IsTrue b ↔ IsWithin (map call_record es) []
none_left b [] e = ((λ h. tt), (λ h. e))
none_left b (x ∷ xs) e = ((λ h. absurd (let some : (length (x ∷ xs) == 0) ≡ false = grind arith in cc)), (λ h. absurd h))

-- at the end nothing remains
pub at_the_end : {A X : Type 0} (F : List X → Type 0) (xs : List X) (i : ℕ) → length xs ≤ i → A ↔ F (drop i xs) → A ↔ F []
at_the_end F xs i past now =
    let at : drop i xs ≡ [] = at_drop_all (λ ys. ys) xs i past in
    ((λ a. subst F at (now.0 a)), (λ b. now.1 (subst F (sym at) b)))
