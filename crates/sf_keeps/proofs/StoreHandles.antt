-- A store's handles, and its observable part, after a handle was inserted, set or removed.
use Rattle.std.specs.Prelude.{◌≡◌, ℕ, nat_eq, Bool, true, false, cond, T, ◌&&◌, List, [], ◌∷◌, option_map, option_and_then, Option, Some, None, refl}
use Rattle.std.proofs.Common.{sym, ap, subst, ◌∙◌, inl, inr, eq-eqb}
use Rattle.std.specs.Ordering.{nat_cmp}
use Rattle.std.specs.Cmp.{nat_cmp_total}
use Rattle.std.specs.Map.{lookup, set_value, remove_entry}
use Rattle.std.specs.BTreeMap.{is_at, insert_entry}
use Rattle.std.specs.FinMap.{is_sorted}
use Rattle.sf_path.specs.Names.{Name}
use Rattle.sf_call.proofs.Laws.{sorted_put, sorted_set, sorted_removed}
use Rattle.sf_inode.specs.declared.handle.OpenHandle.{OpenHandle}
use Rattle.sf_keeps.specs.Shows.{with_opens}
use Rattle.sf_inode.specs.Stores.{StoreState, open_handle_at, handles_of, shown_handle, with_sessions, handles_put, handle_put, handle_dropped, with_last, listed_by, listed_at, handle_listed}
use Rattle.sf_keeps.specs.Keeps.{view_of}
use Rattle.sf_keeps.proofs.Through.{found_through}
use Rattle.sf_keeps.proofs.SetsAt.{SetsAt, number_keys, nat_eq_itself, nat_eq_apart, at_or_beside, set_is, some_found, inserted_at, value_at, removed_at}
use Rattle.sf_keeps.proofs.Shown.{nat_same, nat_at_itself}
use Rattle.sf_keeps.proofs.StoreLaws.{same_view}

-- the two tests of numbers are equal
pub at_is : (a b : ℕ) → is_at (nat_cmp a) b ≡ nat_eq a b
at_is a b = elim (is_at (nat_cmp a) b) as (λ z. is_at (nat_cmp a) b ≡ z → z ≡ nat_eq a b) [
  | true ↦ λ e. sym (eq-eqb a b (nat_same a b e))
  | false ↦ λ e. sym (nat_eq_apart a b (λ h. let f = ap (is_at (nat_cmp a)) h in let g = nat_at_itself a in cc))
] refl

abbrev Handles : Type 0
Handles = List (ℕ × OpenHandle)

abbrev Sessions : Type 0
Sessions = List (ℕ × Handles)

abbrev found : ℕ → Handles → Option OpenHandle
found number handles = lookup (is_at (nat_cmp number)) handles

-- each session's handles are in order
abbrev pub AreOrdered : Sessions → Type 0
AreOrdered sessions = (session : ℕ) (handles : Handles) → lookup (is_at (nat_cmp session)) sessions ≡ Some handles → T (is_sorted nat_cmp handles)

-- one handle has changed, and all are in order
pub record HandleSet (s : StoreState) (new : Sessions) (session number : ℕ) (r : Option OpenHandle) : Type 0 where
  pub at : (a b : ℕ) → open_handle_at (with_sessions s new) a b ≡ cond (nat_eq session a && nat_eq number b) r (open_handle_at s a b)
  pub sessions : T (is_sorted nat_cmp new)
  pub handles : AreOrdered new

module _ (s : StoreState) (session number : ℕ) (r : Option OpenHandle) (handles : Handles) (new : Sessions)
    (outer : SetsAt (handles_of s) (handles_of (with_sessions s new)) session (Some handles)) (inner : SetsAt (open_handle_at s session) (λ b. found b handles) number r)
    (others : AreOrdered s.sessions) (ordered : T (is_sorted nat_cmp new)) (own : T (is_sorted nat_cmp handles)) where
  handle_changed : (a b : ℕ) → open_handle_at (with_sessions s new) a b ≡ cond (nat_eq session a && nat_eq number b) r (open_handle_at s a b)
  handle_changed = at_or_beside _ session
      (λ b. simp (outer.at, nat_eq_itself) (set_is inner b))
      (λ a ne b. simp (outer.beside a ne, nat_eq_apart session a ne))

  handles_ordered : AreOrdered new
  handles_ordered a hs e = elim (some_found outer a e) [
    | inl f ↦ subst (λ (x : Handles). T (is_sorted nat_cmp x)) f.1 own
    | inr f ↦ others a hs f.1
  ]

  handle_set : HandleSet s new session number r
  handle_set = record { at = handle_changed; sessions = ordered; handles = handles_ordered }

module _ (s : StoreState) (ordered : T (is_sorted nat_cmp s.sessions)) (own : AreOrdered s.sessions) (session number : ℕ) where
  -- its handles are those in its list
  of_session : {r : Option OpenHandle} {after : ℕ → Option OpenHandle} (o : Option Handles) → handles_of s session ≡ o → SetsAt (λ b. option_and_then (found b) o) after number r → SetsAt (open_handle_at s session) after number r
  of_session {r = r} {after = after} o e set = subst (λ (x : Option Handles). SetsAt (λ b. option_and_then (found b) x) after number r) (sym e) set

  -- ---- an inserted handle
  put_at : (h : OpenHandle) (o : Option Handles) → handles_of s session ≡ o → (new : Sessions) × (handles_put s session number h o ≡ with_sessions s new) × HandleSet s new session number (Some h)
  put_at h None e =
      let new = insert_entry nat_cmp s.sessions session ((number, h) ∷ []) in (
        new,
        refl,
        handle_set s session number (Some h) ((number, h) ∷ []) new (inserted_at number_keys s.sessions session ((number, h) ∷ [])) (of_session None e (inserted_at number_keys [] number h)) own
            (sorted_put nat_cmp nat_cmp_total s.sessions session ((number, h) ∷ []) ordered) tt,
      )
  put_at h (Some handles) e =
      let more = insert_entry nat_cmp handles number h in
      let new = set_value (is_at (nat_cmp session)) s.sessions more in (
        new,
        refl,
        handle_set s session number (Some h) more new (value_at number_keys s.sessions session handles more e) (of_session (Some handles) e (inserted_at number_keys handles number h)) own
            (sorted_set nat_cmp (is_at (nat_cmp session)) more s.sessions ordered) (sorted_put nat_cmp nat_cmp_total handles number h (own session handles e)),
      )

  pub put_handle_set : (h : OpenHandle) → (new : Sessions) × (handle_put s session number h ≡ with_sessions s new) × HandleSet s new session number (Some h)
  put_handle_set h = put_at h (handles_of s session) refl

  -- ---- an existing handle
  module _ (h : OpenHandle) (at : open_handle_at s session number ≡ Some h) where
    pub its_session : (handles : Handles) × (handles_of s session ≡ Some handles) × (found number handles ≡ Some h)
    its_session = found_through (handles_of s session) at

    -- another list of the session's handles
    changed_set : (r : Option OpenHandle) (handles : Handles) → T (is_sorted nat_cmp handles) → SetsAt (λ b. found b its_session.0) (λ b. found b handles) number r
        → HandleSet s (set_value (is_at (nat_cmp session)) s.sessions handles) session number r
    changed_set r handles sorted inner =
        handle_set s session number r handles (set_value (is_at (nat_cmp session)) s.sessions handles) (value_at number_keys s.sessions session its_session.0 handles its_session.1)
        (of_session (Some its_session.0) its_session.1 inner) own (sorted_set nat_cmp (is_at (nat_cmp session)) handles s.sessions ordered) sorted

    pub dropped_set : (new : Sessions) × (handle_dropped s session number (handles_of s session) ≡ with_sessions s new) × HandleSet s new session number None
    dropped_set =
        let handles = its_session.0 in
        let sorted = own session handles its_session.1 in
        let less = remove_entry (is_at (nat_cmp number)) handles in (
          set_value (is_at (nat_cmp session)) s.sessions less,
          ap (handle_dropped s session number) its_session.1,
          changed_set None less (sorted_removed nat_cmp (is_at (nat_cmp number)) handles sorted) (removed_at number_keys handles number sorted),
        )

    pub listed_set : (name : Name) → (new : Sessions) × (handle_listed s session number name ≡ with_sessions s new) × HandleSet s new session number (Some (with_last name h))
    listed_set name =
        let handles = its_session.0 in
        let sorted = own session handles its_session.1 in
        let after = set_value (is_at (nat_cmp number)) handles (with_last name h) in (
          set_value (is_at (nat_cmp session)) s.sessions after,
          ap (listed_at s session number name) its_session.1 ∙ ap (λ (o : Option OpenHandle). with_sessions s (set_value (is_at (nat_cmp session)) s.sessions (listed_by number name handles o))) its_session.2,
          changed_set (Some (with_last name h)) after (sorted_set nat_cmp (is_at (nat_cmp number)) (with_last name h) handles sorted) (value_at number_keys handles number h (with_last name h) its_session.2),
        )

-- ---- the observable part
cond_mapped : {A B : Type 0} (f : A → B) (b : Bool) (x y : Option A) → option_map f (cond b x y) ≡ cond b (option_map f x) (option_map f y)
cond_mapped f true x y = refl
cond_mapped f false x y = refl

pub view_set : (s : StoreState) (new : Sessions) (session number : ℕ) (r : Option OpenHandle) → HandleSet s new session number r → view_of (with_sessions s new) ≡ with_opens (view_of s) session number (option_map (shown_handle session) r)
view_set s new session number r set =
    same_view (with_opens (view_of s) session number (option_map (shown_handle session) r)) (view_of (with_sessions s new)) (λ x m. refl) (λ x. refl) refl
    (at_or_beside _ session
    (λ b. ap (option_map (shown_handle session)) (set.at session b) ∙ cond_mapped (shown_handle session) (nat_eq session session && nat_eq number b) r (open_handle_at s session b))
    (λ a ne b. ap (option_map (shown_handle a)) (set.at a b) ∙ simp (nat_eq_apart session a ne)))
