-- The number of open handles of an object, before and after a change of the handles.
use Rattle.std.specs.Prelude.{◌≡◌, ◌≢◌, ℕ, ◌+◌, ◌<◌, ◌^◌, nat_eq, Bool, cond, T, List, [], ◌∷◌, length, Some, None, refl}
use Rattle.std.proofs.Common.{sym, ap, subst, ◌∙◌, inl, inr, arith}
use Rattle.std.proofs.lemmas.Bool.{cases_eq, cond-false}
use Rattle.std.specs.List.{sum_by}
use Rattle.std.proofs.lemmas.List.Sums.{sum_by-cons, count_by-le-length}
use Rattle.std.specs.declared.cmp.Ordering.{Ordering}
use Rattle.std.specs.declared.cmp.Ordering.TheVariants.{Less, Equal, Greater}
use Rattle.std.specs.Ordering.{nat_cmp, is_lt}
use Rattle.std.specs.Cmp.{ranked}
use Rattle.std.specs.Map.{lookup, set_value}
use Rattle.std.specs.BTreeMap.{is_at}
use Rattle.std.specs.FinMap.{is_sorted}
use Rattle.std.specs.FinMap.Entries.{below_all}
use Rattle.sf_call.specs.declared.handle.Handle.{Handle}
use Rattle.sf_call.specs.Tree.{Tree, handle_of}
use Rattle.sf_call.specs.Changes.{changed}
use Rattle.sf_call.specs.Changes.Change.{OpenHandle, SetHandle, CloseHandle}
use Rattle.sf_call.proofs.Laws.{and_first, and_second, sum_removed, sum_inserted}
use Rattle.sf_keeps.specs.Keeps.{times_open}
use Rattle.sf_keeps.proofs.Through.{by_test}
use Rattle.sf_keeps.proofs.SetsAt.{number_keys, apart}
use Rattle.sf_keeps.proofs.Shown.{nat_at_itself}

-- ---- a sum over the values of entries, if one is set to a value of the same weight
module _ {K X : Type 0} (g : X → ℕ) where
  abbrev weight : K × X → ℕ
  weight e = g e.1

  sum_set : (test : K → Bool) (es : List (K × X)) (v u : X) → lookup test es ≡ Some v → g u ≡ g v → sum_by weight (set_value test es u) ≡ sum_by weight es
  sum_set test [] v u l s = cc
  sum_set test (e ∷ es) v u l s =
      elim (by_test (test e.0) l) [
        | inl a ↦ let w : e.1 ≡ v = cc in rw a.0 (sum_by-cons weight (e.0, u) es ∙ ap (λ x. x + sum_by weight es) (s ∙ sym (ap g w)) ∙ sym (sum_by-cons weight e es))
        | inr a ↦ rw a.0 (sum_by-cons weight e (set_value test es u) ∙ ap (λ x. g e.1 + x) (sum_set test es v u a.1 s) ∙ sym (sum_by-cons weight e es))
      ]

-- ---- the most numbers in a range
is_less : (r : Ordering) → T (is_lt r) → Less ≡ r
is_less Less p = refl
is_less Equal p = absurd p
is_less Greater p = absurd p

pub nat_below : (a b : ℕ) → T (is_lt (nat_cmp a b)) → a < b
nat_below a b p = ranked a b Less (is_less (nat_cmp a b) p)

module _ {X : Type 0} where
  after_first : (e : ℕ × X) (es : List (ℕ × X)) (q : ℕ) (v : X) → q ≢ e.0 → lookup (is_at (nat_cmp q)) es ≡ Some v → lookup (is_at (nat_cmp q)) (e ∷ es) ≡ Some v
  after_first e es q v ne l = cond-false _ _ _ (apart number_keys q e.0 ne) ∙ l

  -- entries above one number and below another
  pub between : (es : List (ℕ × X)) (low high : ℕ) → T (below_all nat_cmp low es) → T (is_sorted nat_cmp es) → ((q : ℕ) (v : X) → lookup (is_at (nat_cmp q)) es ≡ Some v → q < high) → low < high → low + length es < high
  between [] low high below sorted within less = omega (arith, less)
  between (e ∷ es) low high below sorted within less =
      let first = nat_below low e.0 (and_first (is_lt (nat_cmp low e.0)) (below_all nat_cmp low es) below) in
      let here = within e.0 e.1 (ap (λ b. cond b (Some e.1) (lookup (is_at (nat_cmp e.0)) es)) (nat_at_itself e.0)) in
      let rest = between es e.0 high (and_first (below_all nat_cmp e.0 es) (is_sorted nat_cmp es) sorted) (and_second (below_all nat_cmp e.0 es) (is_sorted nat_cmp es) sorted)
      (λ q v l. elim (cases_eq q e.0) [ inl t ↦ subst (λ (x : ℕ). x < high) (sym t) here | inr ne ↦ within q v (after_first e es q v ne l) ]) here in
      omega (arith, first, rest)

  pub few : (es : List (ℕ × X)) (high : ℕ) → 0 < high → T (is_sorted nat_cmp es) → ((q : ℕ) (v : X) → lookup (is_at (nat_cmp q)) es ≡ Some v → (0 < q) × (q < high)) → length es < high
  few [] high some sorted within = some
  few (e ∷ es) high some sorted within =
      let here = within e.0 e.1 (ap (λ b. cond b (Some e.1) (lookup (is_at (nat_cmp e.0)) es)) (nat_at_itself e.0)) in
      let first : 0 < e.0 = here.0 in
      let rest = between es e.0 high (and_first (below_all nat_cmp e.0 es) (is_sorted nat_cmp es) sorted) (and_second (below_all nat_cmp e.0 es) (is_sorted nat_cmp es) sorted)
      (λ q v l. elim (cases_eq q e.0) [ inl t ↦ subst (λ (x : ℕ). x < high) (sym t) here.1 | inr ne ↦ (within q v (after_first e es q v ne l)).1 ]) here.1 in
      omega (arith, first, rest)

-- ---- the number of open handles of an inode number
abbrev opens_of : ℕ → Handle → ℕ
opens_of label h = cond (nat_eq h.label label) 1 0

module _ (t : Tree) (number : ℕ) (h : Handle) (label : ℕ) where
  pub opened_times : handle_of t.handles number ≡ None → times_open (changed t (OpenHandle number h)) label ≡ opens_of label h + times_open t label
  opened_times free = sum_inserted (opens_of label) nat_cmp t.handles number h free

  pub closed_times : handle_of t.handles number ≡ Some h → times_open t label ≡ opens_of label h + times_open (changed t (CloseHandle number)) label
  closed_times there = sum_removed (opens_of label) (is_at (nat_cmp number)) t.handles h there

  pub set_times : (after : Handle) → handle_of t.handles number ≡ Some h → after.label ≡ h.label → times_open (changed t (SetHandle number after)) label ≡ times_open t label
  set_times after there same = sum_set (opens_of label) (is_at (nat_cmp number)) t.handles h after there (ap (λ (l : ℕ). cond (nat_eq l label) 1 0) same)

-- Handle numbers are above 0 and fit 64 bits, which limits the number of handles.
pub few_handles : (t : Tree) (label : ℕ) → T (is_sorted nat_cmp t.handles) → ((number : ℕ) (h : Handle) → handle_of t.handles number ≡ Some h → (0 < number) × (number < 2 ^ 64)) → times_open t label < 2 ^ 64
few_handles t label sorted numbers =
    let most = few t.handles (2 ^ 64) (omega arith) sorted numbers in
    let counted = count_by-le-length (λ (e : ℕ × Handle). nat_eq e.1.label label) t.handles in
    omega (arith, most, counted)
