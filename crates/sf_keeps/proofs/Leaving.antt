-- The tree after the end of a session is that after each of its handles was closed.
use Rattle.std.specs.Prelude.{◌≡◌, ℕ, nat_eq, Bool, true, false, cond, not, ◌||◌, List, [], ◌∷◌, filter, Some, None, refl}
use Rattle.std.proofs.Common.{sym, ap, ◌∙◌, eqb-true, eq-eqb, inl, inr}
use Rattle.std.proofs.lemmas.Bool.{cases_Bool}
use Rattle.std.specs.List.{list_any}
use Rattle.std.specs.Ordering.{nat_cmp}
use Rattle.std.specs.Cmp.{nat_cmp_total}
use Rattle.std.specs.Map.{lookup, remove_entry, set_value}
use Rattle.std.specs.BTreeMap.{is_at}
use Rattle.std.specs.FinMap.{nat_cmp-IsAntisymmetric}
use Rattle.sf_call.specs.declared.handle.Handle.{Handle}
use Rattle.sf_call.specs.Attributes.{Object}
use Rattle.sf_call.specs.Tree.{Tree, object_of, handle_of, is_used, kept}
use Rattle.sf_call.specs.Handles.{handle_in}
use Rattle.sf_call.specs.Changes.{Change as change, changed}
use Rattle.sf_call.specs.Calls.{leave}
use Rattle.sf_call.proofs.Laws.{sorted_filtered}
use Rattle.sf_keeps.specs.Shows.{View, Shows}
use Rattle.sf_keeps.proofs.Through.{by_test}
use Rattle.sf_keeps.proofs.Keyed.{lookup_any}
use Rattle.sf_keeps.proofs.Orderly.{same_sorted}
use Rattle.sf_keeps.proofs.Less.{kept_object, cond_used, handle_here}
use Rattle.sf_keeps.proofs.Whole.{or_grows_right}

-- ---- filtered lists
module _ {X : Type 0} where
  filter_again : (p q : X → Bool) → ((x : X) → p x ≡ true → q x ≡ true) → (xs : List X) → filter p (filter q xs) ≡ filter p xs
  filter_again p q h [] = refl
  filter_again p q h (x ∷ xs) =
      elim (q x) as (λ b. q x ≡ b → filter p (cond b (x ∷ filter q xs) (filter q xs)) ≡ cond (p x) (x ∷ filter p xs) (filter p xs)) [
        | true ↦ λ e. ap (λ (r : List X). cond (p x) (x ∷ r) r) (filter_again p q h xs)
        | false ↦ λ e. filter_again p q h xs ∙ elim (p x) as (λ b. p x ≡ b → filter p xs ≡ cond b (x ∷ filter p xs) (filter p xs)) [
          | true ↦ λ f. let g = h x f in cc
          | false ↦ λ f. refl
        ] refl
      ] refl

  any_filtered : (f p : X → Bool) (xs : List X) → list_any f (filter p xs) ≡ true → list_any f xs ≡ true
  any_filtered f p [] = λ e. e
  any_filtered f p (x ∷ xs) =
      elim (p x) as (λ b. list_any f (cond b (x ∷ filter p xs) (filter p xs)) ≡ true → (f x || list_any f xs) ≡ true) [
        | true ↦ or_grows_right (f x) (list_any f (filter p xs)) (list_any f xs) (any_filtered f p xs)
        | false ↦ λ e. elim (f x) as (λ b. (b || list_any f xs) ≡ true) [ true ↦ refl | false ↦ any_filtered f p xs e ]
      ]

  filter_whole : (f : X → Bool) (xs : List X) → list_any f xs ≡ false → filter (λ x. not (f x)) xs ≡ xs
  filter_whole f [] = λ e. refl
  filter_whole f (x ∷ xs) =
      elim (f x) as (λ b. (b || list_any f xs) ≡ false → cond (not b) (x ∷ filter (λ x. not (f x)) xs) (filter (λ x. not (f x)) xs) ≡ x ∷ xs) [
        | true ↦ λ e. cc
        | false ↦ λ e. ap (λ (r : List X). x ∷ r) (filter_whole f xs e)
      ]

module _ {K X : Type 0} (test : K → Bool) where
  filter_removed : (q : X → Bool) (es : List (K × X)) (v : X) → lookup test es ≡ Some v → q v ≡ false → filter (λ e. q e.1) (remove_entry test es) ≡ filter (λ e. q e.1) es
  filter_removed q [] v l f = refl
  filter_removed q (e ∷ es) v l f =
      elim (by_test (test e.0) l) [
        | inl a ↦ let w : v ≡ e.1 = cc in rw a.0 (sym (ap (λ b. cond b (e ∷ filter (λ e. q e.1) es) (filter (λ e. q e.1) es)) (sym (ap q w) ∙ f)))
        | inr a ↦ rw a.0 (ap (λ (r : List (K × X)). cond (q e.1) (e ∷ r) r) (filter_removed q es v a.1 f))
      ]

  pub removed_set : (es : List (K × X)) (v : X) → remove_entry test (set_value test es v) ≡ remove_entry test es
  removed_set [] v = refl
  removed_set (e ∷ es) v = elim (cases_Bool (test e.0)) [
    | inl t ↦ simp t
    | inr t ↦ simp t (ap (λ (r : List (K × X)). e ∷ r) (removed_set es v))
  ]

-- ---- the tree after the end of a session
module _ (t : Tree) (session : ℕ) where
  abbrev stays : ℕ × Handle → Bool
  stays e = not (nat_eq e.1.session session)

  -- one handle of the session closed before
  pub leave_closed : (number : ℕ) (h : Handle) → handle_of t.handles number ≡ Some h → h.session ≡ session → leave (changed t (change.CloseHandle number)) session ≡ leave t session
  leave_closed number h there own =
      let rest = remove_entry (is_at (nat_cmp number)) t.handles in
      let handles : filter stays rest ≡ filter stays t.handles = filter_removed (is_at (nat_cmp number)) (λ (x : Handle). not (nat_eq x.session session)) t.handles h there (ap not (eq-eqb h.session session own)) in
      let objects = filter_again (λ (e : ℕ × Object). is_used t.names (filter stays rest) e.0) (λ (e : ℕ × Object). is_used t.names rest e.0)
      (λ e. or_grows_right (list_any (λ n. nat_eq n.1 e.0) t.names) (list_any (λ x. nat_eq x.1.label e.0) (filter stays rest)) (list_any (λ x. nat_eq x.1.label e.0) rest) (any_filtered (λ x. nat_eq x.1.label e.0) stays rest)) t.objects
      ∙ ap (λ (hs : List (ℕ × Handle)). filter (λ (e : ℕ × Object). is_used t.names hs e.0) t.objects) handles in
      λ i. record { names = t.names; objects = objects i; handles = handles i }

-- it has no handle of the session
pub leave_none : (view : View) (t : Tree) → Shows view t → (session : ℕ) → ((number : ℕ) → view.opens session number ≡ None) → leave t session ≡ t
leave_none view t h session none =
    let free : list_any (λ (e : ℕ × Handle). nat_eq e.1.session session) t.handles ≡ false =
    elim (list_any (λ (e : ℕ × Handle). nat_eq e.1.session session) t.handles) as (λ b. list_any (λ (e : ℕ × Handle). nat_eq e.1.session session) t.handles ≡ b → b ≡ false) [
      | true ↦ λ e.
          let w = lookup_any nat_cmp nat_cmp_total (λ (x : Handle). nat_eq x.session session) t.handles h.ordered.handles e in
          let there : handle_in t session w.0 ≡ Some w.1 = ap (λ (a : ℕ). handle_in t a w.0) (sym (eqb-true w.1.session session w.3)) ∙ handle_here t w.0 w.1 w.2 in
          let no : handle_in t session w.0 ≡ None = h.by.handles session w.0 ∙ none w.0 in cc
      | false ↦ λ e. refl
    ] refl in
    let handles : filter (stays t session) t.handles ≡ t.handles = filter_whole (λ (e : ℕ × Handle). nat_eq e.1.session session) t.handles free in
    let objects : (kept t).objects ≡ t.objects = same_sorted nat_cmp nat_cmp_total nat_cmp-IsAntisymmetric (kept t).objects t.objects
    (sorted_filtered nat_cmp (λ e. is_used t.names t.handles e.0) t.objects h.ordered.objects) h.ordered.objects
    (λ l. kept_object t l ∙ cond_used (is_used t.names t.handles l) (object_of t.objects l) (h.used l)) in
    (λ i. kept (record { names = t.names; objects = t.objects; handles = handles i })) ∙ (λ i. record { names = t.names; objects = objects i; handles = t.handles })
