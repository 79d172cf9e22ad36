-- The numbers of the calls that pass a test.
use Rattle.std.specs.Prelude.{◌≡◌, ◌≢◌, ◌≤◌, ℕ, nat_eq, Bool, true, false, cond, ◌||◌, T, List, [], ◌∷◌, length, map, filter, Some, None, refl}
use Rattle.std.specs.Option.{option_map_or}
use Rattle.std.proofs.Common.{sym, ap, subst, ◌∙◌, arith, eqb-true}
use Rattle.std.specs.List.{AllByRecursion}
use Rattle.std.specs.List.Sorted.{IsStrictlySortedBy}
use Rattle.std.specs.declared.cmp.Ordering.{Ordering}
use Rattle.std.specs.declared.cmp.Ordering.TheVariants.{Less}
use Rattle.std.specs.Ordering.{nat_cmp, is_lt}
use Rattle.std.specs.Cmp.{tied_itself, nat_cmp_total}
use Rattle.std.specs.Map.{lookup}
use Rattle.std.specs.BTreeMap.{is_at}
use Rattle.std.specs.FinMap.{is_sorted}
use Rattle.std.specs.FinMap.Entries.{below_all}
use Rattle.sf_call.specs.declared.call.Call.{Call}
use Rattle.sf_call.proofs.Laws.{and_first, and_second}
use Rattle.sf_keeps.proofs.Laws.{at_is}
use Rattle.sf_walk.specs.Steps.{is_one_of}
use Rattle.sf_core.proofs.Maps.{apart_at}

-- no number occurs twice
abbrev pub AreApart : List ℕ → Type 0
AreApart [] = Unit {0}
AreApart (n ∷ ns) = (is_one_of n ns ≡ false) × AreApart ns

not_less : (m : ℕ) → T (is_lt (nat_cmp m m)) → ⊥
not_less m h = subst (λ o. T (is_lt o)) (tied_itself nat_cmp_total m) h

is_less : (o : Ordering) → T (is_lt o) → o ≡ Less
is_less Less h = refl
is_less _ h = absurd h

-- a key below all of these is none of them
none_below : (x : ℕ) (es : List (ℕ × Call)) → T (below_all nat_cmp x es) → lookup (is_at (nat_cmp x)) es ≡ None
none_below x [] h = refl
none_below x (e ∷ es) h =
    let ne : x ≢ e.0 = λ same. not_less x (subst (λ k. T (is_lt (nat_cmp x k))) (sym same) (and_first (is_lt (nat_cmp x e.0)) (below_all nat_cmp x es) h)) in
    ap (λ b. cond b (Some e.1) (lookup (is_at (nat_cmp x)) es)) (apart_at x e.0 ne) ∙ none_below x es (and_second (is_lt (nat_cmp x e.0)) (below_all nat_cmp x es) h)

module _ (test : ℕ × Call → Bool) where
  abbrev numbers : List (ℕ × Call) → List ℕ
  numbers es = map (λ (e : ℕ × Call). e.0) (filter test es)

  -- a number is in the list exactly if its call exists and passes
  pub among : (es : List (ℕ × Call)) → T (is_sorted nat_cmp es) → (k : ℕ)
      → is_one_of k (map (λ (e : ℕ × Call). e.0) (filter test es)) ≡ option_map_or (λ (c : Call). test (k, c)) (lookup (is_at (nat_cmp k)) es) false
  among [] s k = refl
  among (e ∷ es) s k =
      let rest = among es (and_second (below_all nat_cmp e.0 es) (is_sorted nat_cmp es) s) k in
      let none : k ≡ e.0 → is_one_of k (numbers es) ≡ false = λ same.
      rest ∙ ap (λ o. option_map_or (λ (c : Call). test (k, c)) o false) (ap (λ i. lookup (is_at (nat_cmp i)) es) same ∙ none_below e.0 es (and_first (below_all nat_cmp e.0 es) (is_sorted nat_cmp es) s)) in
      let same_test : k ≡ e.0 → test (k, e.1) ≡ test e = λ same. ap (λ i. test (i, e.1)) same in
      elim (nat_eq k e.0) as (λ b. nat_eq k e.0 ≡ b → is_one_of k (numbers (e ∷ es)) ≡ option_map_or (λ (c : Call). test (k, c)) (cond b (Some e.1) (lookup (is_at (nat_cmp k)) es)) false) [
        | true ↦ λ at. elim (test e) as (λ t. test e ≡ t → is_one_of k (map (λ (x : ℕ × Call). x.0) (cond t (e ∷ filter test es) (filter test es))) ≡ test (k, e.1)) [
          | true ↦ λ t. ap (λ b. b || is_one_of k (numbers es)) at ∙ sym (same_test (eqb-true k e.0 at) ∙ t)
          | false ↦ λ t. none (eqb-true k e.0 at) ∙ sym (same_test (eqb-true k e.0 at) ∙ t)
        ] refl
        | false ↦ λ at. elim (test e) as (λ t. is_one_of k (map (λ (x : ℕ × Call). x.0) (cond t (e ∷ filter test es) (filter test es))) ≡ option_map_or (λ (c : Call). test (k, c)) (lookup (is_at (nat_cmp k)) es) false) [
          | true ↦ ap (λ b. b || is_one_of k (numbers es)) at ∙ rest
          | false ↦ rest
        ]
      ] refl
      ∙ ap (λ b. option_map_or (λ (c : Call). test (k, c)) (cond b (Some e.1) (lookup (is_at (nat_cmp k)) es)) false) (sym (at_is k e.0))

  all_below : (x : ℕ) (es : List (ℕ × Call)) → T (below_all nat_cmp x es) → AllByRecursion (λ y. nat_cmp x y ≡ Less) (map (λ (e : ℕ × Call). e.0) (filter test es))
  all_below x [] h = tt
  all_below x (e ∷ es) h =
      let rest = all_below x es (and_second (is_lt (nat_cmp x e.0)) (below_all nat_cmp x es) h) in
      elim (test e) as (λ b. AllByRecursion (λ y. nat_cmp x y ≡ Less) (map (λ (k : ℕ × Call). k.0) (cond b (e ∷ filter test es) (filter test es)))) [
        | true ↦ (is_less (nat_cmp x e.0) (and_first (is_lt (nat_cmp x e.0)) (below_all nat_cmp x es) h), rest)
        | false ↦ rest
      ]

  -- the list is ascending
  pub numbers_rise : (es : List (ℕ × Call)) → T (is_sorted nat_cmp es) → IsStrictlySortedBy nat_cmp (map (λ (e : ℕ × Call). e.0) (filter test es))
  unfolding IsStrictlySortedBy
  numbers_rise [] s = tt
  numbers_rise (e ∷ es) s =
      let rest = numbers_rise es (and_second (below_all nat_cmp e.0 es) (is_sorted nat_cmp es) s) in
      elim (test e) as (λ b. IsStrictlySortedBy nat_cmp (map (λ (k : ℕ × Call). k.0) (cond b (e ∷ filter test es) (filter test es)))) [
        | true ↦ (all_below e.0 es (and_first (below_all nat_cmp e.0 es) (is_sorted nat_cmp es) s), rest)
        | false ↦ rest
      ]

  -- it is no longer than the list for a weaker test
  pub numbers_few : (passes : Call → Bool) → ((e : ℕ × Call) → test e ≡ true → passes e.1 ≡ true) → (es : List (ℕ × Call))
      → length (map (λ (e : ℕ × Call). e.0) (filter test es)) ≤ length (filter (λ (e : ℕ × Call). passes e.1) es)
  numbers_few passes h [] = omega arith
  numbers_few passes h (e ∷ es) =
      let r = numbers_few passes h es in
      elim (test e) as (λ b. test e ≡ b → length (map (λ (x : ℕ × Call). x.0) (cond b (e ∷ filter test es) (filter test es))) ≤ length (cond (passes e.1) (e ∷ filter (λ (x : ℕ × Call). passes x.1) es) (filter (λ (x : ℕ × Call). passes x.1) es))) [
        | true ↦ λ t. subst (λ b. length (e.0 ∷ map (λ (x : ℕ × Call). x.0) (filter test es)) ≤ length (cond b (e ∷ filter (λ (x : ℕ × Call). passes x.1) es) (filter (λ (x : ℕ × Call). passes x.1) es)))
            (sym (h e t)) (omega (arith, r))
        | false ↦ λ t. elim (passes e.1) as (λ b. length (map (λ (x : ℕ × Call). x.0) (filter test es)) ≤ length (cond b (e ∷ filter (λ (x : ℕ × Call). passes x.1) es) (filter (λ (x : ℕ × Call). passes x.1) es))) [
          | true ↦ omega (arith, r)
          | false ↦ r
        ]
      ] refl

-- ascending numbers are distinct
not_above : (x : ℕ) (ns : List ℕ) → AllByRecursion (λ y. nat_cmp x y ≡ Less) ns → is_one_of x ns ≡ false
not_above x [] h = refl
not_above x (n ∷ ns) h = elim (nat_eq x n) as (λ b. nat_eq x n ≡ b → (b || is_one_of x ns) ≡ false) [
  | true ↦ λ e. absurd (not_less x (subst (λ k. T (is_lt (nat_cmp x k))) (sym (eqb-true x n e)) (subst (λ o. T (is_lt o)) (sym h.0) tt)))
  | false ↦ λ e. not_above x ns h.1
] refl

pub rising_apart : (ns : List ℕ) → IsStrictlySortedBy nat_cmp ns → AreApart ns
unfolding IsStrictlySortedBy
rising_apart [] h = tt
rising_apart (n ∷ ns) h = (not_above n ns h.0, rising_apart ns h.1)
