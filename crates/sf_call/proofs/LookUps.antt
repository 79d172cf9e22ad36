-- Lookups in maps after insertions, settings, removals and filters.
use Rattle.std.proofs.Common.{◌≡◌, ◌≢◌, Bool, true, false, T, cond, List, [], ◌∷◌, filter, Option, Some, None, refl, sym, ap, ◌∙◌}
use Rattle.std.specs.declared.cmp.Ordering.{Ordering}
use Rattle.std.specs.declared.cmp.Ordering.TheVariants.{Less, Equal, Greater}
use Rattle.std.specs.Ordering.{is_eq, is_lt}
use Rattle.std.specs.Cmp.{IsTotalOrder}
use Rattle.std.specs.Map.{lookup, remove_entry, set_value}
use Rattle.std.specs.BTreeMap.{insert_entry, is_at}
use Rattle.std.specs.FinMap.{IsAntisymmetric, is_sorted}
use Rattle.std.specs.FinMap.Entries.{find-put, below_all}
use Rattle.sf_call.proofs.Orders.{find_is}
use Rattle.sf_call.proofs.Ordered.{put_is, and_first, and_second}
use Rattle.sf_call.proofs.MovedNames.{is_equal}

-- after an insertion
pub lookup-put : {K X : Type 0} (R : K → K → Ordering) → IsTotalOrder R → (es : List (K × X)) (k : K) (v : X) (q : K) → lookup (is_at (R q)) (insert_entry R es k v) ≡ cond (is_at (R q) k) (Some v) (lookup (is_at (R q)) es)
lookup-put {K = K} {X = X} R o es k v q =
    ap (λ (fs : List (K × X)). lookup (is_at (R q)) fs) (put_is R es k v) ∙ find_is R _ q ∙ find-put R o q k v es
    ∙ ap (cond (is_at (R q) k) (Some v)) (sym (find_is R es q))

none_behind : {X : Type 0} (b : Bool) (x : X) (o : Option X) → cond b (Some x) o ≡ None → o ≡ None
none_behind true x o e = cc
none_behind false x o e = e

-- if a key is found, a value set at it is found
pub set_there : {K X : Type 0} (at : K → Bool) (es : List (K × X)) (v w : X) → lookup at es ≡ Some v → lookup at (set_value at es w) ≡ Some w
set_there at [] v w there = cc
set_there at (e ∷ es) v w there =
    elim (at e.0) as (λ b. at e.0 ≡ b → cond b (Some e.1) (lookup at es) ≡ Some v → lookup at (cond b ((e.0, w) ∷ es) (e ∷ set_value at es w)) ≡ Some w) [
      | true ↦ λ here k. rw here
      | false ↦ λ other k. rw other (set_there at es v w k)
    ] refl there

module _ {K X : Type 0} where
  -- if a key is not found, it is not found after a setting, a removal or a filter
  pub none_set : (at test : K → Bool) (es : List (K × X)) (w : X) → lookup at es ≡ None → lookup at (set_value test es w) ≡ None
  none_set at test [] w none = none
  none_set at test (e ∷ es) w none =
      elim (test e.0) as (λ b. lookup at (cond b ((e.0, w) ∷ es) (e ∷ set_value test es w)) ≡ None) [
        | true ↦ elim (at e.0) as (λ b. cond b (Some e.1) (lookup at es) ≡ None → cond b (Some w) (lookup at es) ≡ None) [
          | true ↦ λ k. cc
          | false ↦ λ k. k
        ] none
        | false ↦ elim (at e.0) as (λ b. cond b (Some e.1) (lookup at es) ≡ None → cond b (Some e.1) (lookup at (set_value test es w)) ≡ None) [
          | true ↦ λ k. k
          | false ↦ λ k. none_set at test es w k
        ] none
      ]

  pub none_removed : (at test : K → Bool) (es : List (K × X)) → lookup at es ≡ None → lookup at (remove_entry test es) ≡ None
  none_removed at test [] none = none
  none_removed at test (e ∷ es) none =
      elim (test e.0) as (λ b. lookup at (cond b es (e ∷ remove_entry test es)) ≡ None) [
        | true ↦ none_behind (at e.0) e.1 (lookup at es) none
        | false ↦ elim (at e.0) as (λ b. cond b (Some e.1) (lookup at es) ≡ None → cond b (Some e.1) (lookup at (remove_entry test es)) ≡ None) [
          | true ↦ λ k. k
          | false ↦ λ k. none_removed at test es k
        ] none
      ]

  pub none_filtered : (at : K → Bool) (p : K × X → Bool) (es : List (K × X)) → lookup at es ≡ None → lookup at (filter p es) ≡ None
  none_filtered at p [] none = none
  none_filtered at p (e ∷ es) none =
      elim (p e) as (λ b. lookup at (cond b (e ∷ filter p es) (filter p es)) ≡ None) [
        | true ↦ elim (at e.0) as (λ b. cond b (Some e.1) (lookup at es) ≡ None → cond b (Some e.1) (lookup at (filter p es)) ≡ None) [
          | true ↦ λ k. k
          | false ↦ λ k. none_filtered at p es k
        ] none
        | false ↦ none_filtered at p es (none_behind (at e.0) e.1 (lookup at es) none)
      ]

pub not_at : (r : Ordering) → T (is_lt r) → is_eq r ≡ false
not_at Less t = refl
not_at Equal t = absurd t
not_at Greater t = absurd t

-- no entry is found at a key that equals one below all
pub lookup_below : {K X : Type 0} (R : K → K → Ordering) → IsTotalOrder R → (q k : K) (es : List (K × X)) → R q k ≡ Equal → T (below_all R k es) → lookup (is_at (R q)) es ≡ None
lookup_below R o q k [] e h = refl
lookup_below R o q k (f ∷ es) e h =
    ap (λ b. cond b (Some f.1) (lookup (is_at (R q)) es)) (ap is_eq (o.congr q k f.0 e) ∙ not_at (R k f.0) (and_first (is_lt (R k f.0)) (below_all R k es) h))
    ∙ lookup_below R o q k es e (and_second (is_lt (R k f.0)) (below_all R k es) h)

module _ {K X : Type 0} (R : K → K → Ordering) (exact : IsAntisymmetric R) where
  -- no entry is found at a key below all
  pub none_below : (q : K) (es : List (K × X)) → T (below_all R q es) → lookup (is_at (R q)) es ≡ None
  none_below q [] below = refl
  none_below q (e ∷ es) below =
      ap (λ b. cond b (Some e.1) (lookup (is_at (R q)) es)) (not_at (R q e.0) (and_first (is_lt (R q e.0)) (below_all R q es) below))
      ∙ none_below q es (and_second (is_lt (R q e.0)) (below_all R q es) below)

  -- an entry found after a removal was found before it
  pub found_removed : (test : K → Bool) (es : List (K × X)) (q : K) (v : X) → T (is_sorted R es) → lookup (is_at (R q)) (remove_entry test es) ≡ Some v → lookup (is_at (R q)) es ≡ Some v
  found_removed test [] q v sorted e = e
  found_removed test (x ∷ es) q v sorted e =
      let below = and_first (below_all R x.0 es) (is_sorted R es) sorted in
      elim (test x.0) as (λ b. lookup (is_at (R q)) (cond b es (x ∷ remove_entry test es)) ≡ Some v → cond (is_at (R q) x.0) (Some x.1) (lookup (is_at (R q)) es) ≡ Some v) [
        | true ↦ λ k. elim (is_at (R q) x.0) as (λ b. is_at (R q) x.0 ≡ b → cond b (Some x.1) (lookup (is_at (R q)) es) ≡ Some v) [
          | true ↦ λ tied. let same : q ≡ x.0 = exact q x.0 (is_equal (R q x.0) tied) in
              let none : lookup (is_at (R x.0)) es ≡ None = none_below x.0 es below in
              let here : lookup (is_at (R q)) es ≡ lookup (is_at (R x.0)) es = ap (λ (y : K). lookup (is_at (R y)) es) same in cc
          | false ↦ λ other. k
        ] refl
        | false ↦ elim (is_at (R q) x.0) as (λ b. cond b (Some x.1) (lookup (is_at (R q)) (remove_entry test es)) ≡ Some v → cond b (Some x.1) (lookup (is_at (R q)) es) ≡ Some v) [
          | true ↦ λ k. k
          | false ↦ λ k. found_removed test es q v (and_second (below_all R x.0 es) (is_sorted R es) sorted) k
        ]
      ] e

  -- a removal leaves nothing at its key
  pub removed_itself : (p : K) (es : List (K × X)) → T (is_sorted R es) → lookup (is_at (R p)) (remove_entry (is_at (R p)) es) ≡ None
  removed_itself p [] sorted = refl
  removed_itself p (x ∷ xs) sorted =
      elim (is_at (R p) x.0) as (λ b. is_at (R p) x.0 ≡ b → lookup (is_at (R p)) (cond b xs (x ∷ remove_entry (is_at (R p)) xs)) ≡ None) [
        | true ↦ λ tied.
            let same : p ≡ x.0 = exact p x.0 (is_equal (R p x.0) tied) in
            ap (λ (k : K). lookup (is_at (R k)) xs) same ∙ none_below x.0 xs (and_first (below_all R x.0 xs) (is_sorted R xs) sorted)
        | false ↦ λ other.
            ap (λ b. cond b (Some x.1) (lookup (is_at (R p)) (remove_entry (is_at (R p)) xs))) other
            ∙ removed_itself p xs (and_second (below_all R x.0 xs) (is_sorted R xs) sorted)
      ] refl

  -- a removal leaves the other keys alone
  pub other_removed : (p q : K) (es : List (K × X)) → q ≢ p → lookup (is_at (R q)) (remove_entry (is_at (R p)) es) ≡ lookup (is_at (R q)) es
  other_removed p q [] other = refl
  other_removed p q (x ∷ es) other =
      elim (is_at (R p) x.0) as (λ b. is_at (R p) x.0 ≡ b → lookup (is_at (R q)) (cond b es (x ∷ remove_entry (is_at (R p)) es)) ≡ cond (is_at (R q) x.0) (Some x.1) (lookup (is_at (R q)) es)) [
        | true ↦ λ tied. let same : p ≡ x.0 = exact p x.0 (is_equal (R p x.0) tied) in
            elim (is_at (R q) x.0) as (λ b. is_at (R q) x.0 ≡ b → lookup (is_at (R q)) es ≡ cond b (Some x.1) (lookup (is_at (R q)) es)) [
              | true ↦ λ also. absurd (other (exact q x.0 (is_equal (R q x.0) also) ∙ sym same))
              | false ↦ λ _. refl
            ] refl
        | false ↦ λ _. ap (cond (is_at (R q) x.0) (Some x.1)) (other_removed p q es other)
      ] refl

  -- an insertion or a setting leaves the other keys alone
  pub other_put : IsTotalOrder R → (es : List (K × X)) (p : K) (v : X) (q : K) → q ≢ p → lookup (is_at (R q)) (insert_entry R es p v) ≡ lookup (is_at (R q)) es
  other_put o es p v q other =
      lookup-put R o es p v q
      ∙ elim (is_at (R q) p) as (λ b. is_at (R q) p ≡ b → cond b (Some v) (lookup (is_at (R q)) es) ≡ lookup (is_at (R q)) es) [
        | true ↦ λ tied. absurd (other (exact q p (is_equal (R q p) tied)))
        | false ↦ λ _. refl
      ] refl

  pub other_set : (es : List (K × X)) (p : K) (v : X) (q : K) → q ≢ p → lookup (is_at (R q)) (set_value (is_at (R p)) es v) ≡ lookup (is_at (R q)) es
  other_set [] p v q other = refl
  other_set (x ∷ es) p v q other =
      elim (is_at (R p) x.0) as (λ b. is_at (R p) x.0 ≡ b → lookup (is_at (R q)) (cond b ((x.0, v) ∷ es) (x ∷ set_value (is_at (R p)) es v)) ≡ cond (is_at (R q) x.0) (Some x.1) (lookup (is_at (R q)) es)) [
        | true ↦ λ tied. let same : p ≡ x.0 = exact p x.0 (is_equal (R p x.0) tied) in
            elim (is_at (R q) x.0) as (λ b. is_at (R q) x.0 ≡ b → cond b (Some v) (lookup (is_at (R q)) es) ≡ cond b (Some x.1) (lookup (is_at (R q)) es)) [
              | true ↦ λ also. absurd (other (exact q x.0 (is_equal (R q x.0) also) ∙ sym same))
              | false ↦ λ _. refl
            ] refl
        | false ↦ λ _. ap (cond (is_at (R q) x.0) (Some x.1)) (other_set es p v q other)
      ] refl
