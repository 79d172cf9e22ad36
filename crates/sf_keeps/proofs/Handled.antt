-- A view after a handle was opened, set or closed.
use Rattle.std.specs.Prelude.{if◌then◌else◌, ◌≡◌, ◌≢◌, ℕ, nat_eq, Bool, true, false, cond, ◌&&◌, ◌||◌, List, option_and_then, Option, Some, None, refl}
use Rattle.std.proofs.Common.{sym, ap, ◌∙◌, inl, inr, eq-eqb}
use Rattle.std.proofs.lemmas.Bool.{cases_eq}
use Rattle.std.specs.Ordering.{nat_cmp}
use Rattle.std.specs.Cmp.{nat_cmp_total}
use Rattle.std.specs.Map.{remove_entry}
use Rattle.std.specs.BTreeMap.{is_at}
use Rattle.sf_call.specs.declared.handle.Handle.{Handle}
use Rattle.sf_call.specs.Attributes.{Object}
use Rattle.sf_call.specs.Tree.{Tree, IsOrderedTree, handle_of, is_used}
use Rattle.sf_call.specs.Handles.{if_of}
use Rattle.sf_call.specs.Changes.{changed}
use Rattle.sf_call.specs.Changes.Change.{OpenHandle, SetHandle, CloseHandle}
use Rattle.sf_call.proofs.Laws.{ordered_changed}
use Rattle.sf_keeps.specs.Shows.{View, ShowsBy, Shows, with_shown, changed_opens, with_opens}
use Rattle.sf_keeps.proofs.Through.{none_there}
use Rattle.sf_keeps.proofs.Keyed.{lookup_any, any_lookup, any-removed}
use Rattle.sf_keeps.proofs.Sound.{HasNoEntry, IsBare}
use Rattle.sf_keeps.proofs.SetsAt.{SetsAt, number_keys, nat_eq_itself, nat_eq_apart, at_or_beside, inserted_at, value_at, removed_at}
use Rattle.sf_keeps.proofs.Less.{is_named, is_opened, OthersUsed, IsClosed, kept_used, handle_there, handle_here, shows_kept, shows_kept_used}
use Rattle.sf_keeps.proofs.Whole.{or_grows_right}

-- common facts of handles and a changed handle
module _ (view : View) (t : Tree) (h : ShowsBy view t) (session number : ℕ) (r : Option Handle) (of : (x : Handle) → r ≡ Some x → x.session ≡ session)
    (others : (a : ℕ) → session ≢ a → view.opens a number ≡ None) (handles : List (ℕ × Handle)) (found : SetsAt (handle_of t.handles) (handle_of handles) number r) where
  own : (v : Option Handle) → r ≡ v → option_and_then (if_of session) v ≡ v
  own None e = refl
  own (Some x) e = ap (λ y. if y then Some x else None) (eq-eqb x.session session (of x e))

  foreign : (a : ℕ) → session ≢ a → (v : Option Handle) → r ≡ v → option_and_then (if_of a) v ≡ None
  foreign a ne None e = refl
  foreign a ne (Some x) e = ap (λ y. if y then Some x else None) (nat_eq_apart x.session a (λ f. ne (sym (of x e) ∙ f)))

  no_and : (z : Bool) (x y : Option Handle) → cond (z && false) x y ≡ y
  no_and true x y = refl
  no_and false x y = refl

  at_number : (a : ℕ) → option_and_then (if_of a) r ≡ cond (nat_eq session a && true) r (view.opens a number)
  at_number = at_or_beside _ session (simp nat_eq_itself (own r refl)) (λ a ne. simp (nat_eq_apart session a ne) (foreign a ne r refl ∙ sym (others a ne)))

  opens_changed : (a b : ℕ) → option_and_then (if_of a) (handle_of handles b) ≡ changed_opens view.opens session number r a b
  opens_changed a = at_or_beside _ number (simp (found.at, nat_eq_itself) (at_number a))
      (λ b ne. simp (nat_eq_apart number b ne) (ap (option_and_then (if_of a)) (found.beside b ne) ∙ h.handles a b ∙ sym (no_and (nat_eq session a) r (view.opens a b))))

  pub by_opens : ShowsBy (with_opens view session number r) (record t { handles = handles })
  by_opens = record { names = h.names; objects = h.objects; found = h.found; handles = opens_changed; sound = h.sound }

-- no handle has the number
module _ (view : View) (t : Tree) (h : Shows view t) where
  pub free_number : (number : ℕ) → ((a : ℕ) → view.opens a number ≡ None) → handle_of t.handles number ≡ None
  free_number number free = none_there (handle_of t.handles number) (λ x e. let there = sym (h.by.handles x.session number) ∙ handle_here t number x e in let none = free x.session in cc)

  -- more handles, more open inodes
  opened_more : (number : ℕ) (handle : Handle) (l : ℕ) → handle_of t.handles number ≡ None → is_opened t l ≡ true → is_opened (changed t (OpenHandle number handle)) l ≡ true
  opened_more number handle l free any =
      let w = lookup_any nat_cmp nat_cmp_total (λ x. nat_eq x.label l) t.handles h.ordered.handles any in
      any_lookup nat_cmp (λ x. nat_eq x.label l) (changed t (OpenHandle number handle)).handles w.0 w.1
      ((inserted_at number_keys t.handles number handle).beside w.0 (λ e. let f = ap (handle_of t.handles) e in let g = w.2 in cc) ∙ w.2) w.3

  pub shows_open : (number : ℕ) (handle : Handle) → ((a : ℕ) → view.opens a number ≡ None) → Shows (with_opens view handle.session number (Some handle)) (changed t (OpenHandle number handle))
  shows_open number handle free = record {
    by = by_opens view t h.by handle.session number (Some handle) (λ x e. let same : handle ≡ x = cc in ap (λ (y : Handle). y.session) (sym same)) (λ a _. free a) (changed t (OpenHandle number handle)).handles
        (inserted_at number_keys t.handles number handle);
    ordered = ordered_changed t (OpenHandle number handle) h.ordered;
    used = λ l u e. or_grows_right (is_named t l) (is_opened t l) (is_opened (changed t (OpenHandle number handle)) l) (opened_more number handle l (free_number number free)) (h.used l u e);
  }

  -- an open handle, and none of another session with its number
  module _ (session number : ℕ) (handle : Handle) (opens : view.opens session number ≡ Some handle) where
    there : (handle_of t.handles number ≡ Some handle) × (handle.session ≡ session)
    there = handle_there t session number handle (h.by.handles session number ∙ opens)

    alone : (a : ℕ) → session ≢ a → view.opens a number ≡ None
    alone a ne = sym (h.by.handles a number) ∙ ap (option_and_then (if_of a)) there.0 ∙ ap (λ z. if z then Some handle else None) (ap (λ z. nat_eq z a) there.1 ∙ nat_eq_apart session a ne)

    -- ---- another handle of the same object
    opened_set : (after : Handle) (l : ℕ) → after.label ≡ handle.label → is_opened t l ≡ true → is_opened (changed t (SetHandle number after)) l ≡ true
    opened_set after l same any =
        let w = lookup_any nat_cmp nat_cmp_total (λ x. nat_eq x.label l) t.handles h.ordered.handles any in
        let put : SetsAt (handle_of t.handles) (handle_of (changed t (SetHandle number after)).handles) number (Some after) = value_at number_keys t.handles number handle after there.0 in
        elim (cases_eq number w.0) [
          | inl e ↦
              let is : Some handle ≡ Some w.1 = sym there.0 ∙ ap (handle_of t.handles) e ∙ w.2 in
              let one : handle ≡ w.1 = cc in
              any_lookup nat_cmp (λ x. nat_eq x.label l) (changed t (SetHandle number after)).handles number after put.at (ap (λ z. nat_eq z l) (same ∙ ap (λ (x : Handle). x.label) one) ∙ w.3)
          | inr ne ↦ any_lookup nat_cmp (λ x. nat_eq x.label l) (changed t (SetHandle number after)).handles w.0 w.1 (put.beside w.0 ne ∙ w.2) w.3
        ]

    pub shows_listed : (after : Handle) → after.session ≡ session → after.label ≡ handle.label → Shows (with_opens view session number (Some after)) (changed t (SetHandle number after))
    shows_listed after own same = record {
      by = by_opens view t h.by session number (Some after) (λ x e. let is : after ≡ x = cc in ap (λ (y : Handle). y.session) (sym is) ∙ own) alone (changed t (SetHandle number after)).handles
          (value_at number_keys t.handles number handle after there.0);
      ordered = ordered_changed t (SetHandle number after) h.ordered;
      used = λ l u e. or_grows_right (is_named t l) (is_opened t l) (is_opened (changed t (SetHandle number after)) l) (opened_set after l same) (h.used l u e);
    }

    -- ---- the handle closed
    abbrev closed : Tree
    closed = record t { handles = remove_entry (is_at (nat_cmp number)) t.handles }

    pub by_closed : ShowsBy (with_opens view session number None) closed
    by_closed = by_opens view t h.by session number None (λ x e. cc) alone closed.handles (removed_at number_keys t.handles number h.ordered.handles)

    ordered_closed : IsOrderedTree closed
    ordered_closed = record { names = h.ordered.names; objects = h.ordered.objects; handles = (ordered_changed t (CloseHandle number) h.ordered).handles }

    others_closed : OthersUsed closed handle.label
    others_closed l u ne e = ap (λ b. is_named t l || b) (any-removed (λ x. nat_eq x.label l) (is_at (nat_cmp number)) t.handles handle there.0 (nat_eq_apart handle.label l ne)) ∙ h.used l u e

    -- it was the last use of the inode
    pub shows_closed_last : (c : ℕ) (o : Object) → view.shown c ≡ Some (handle.label, o) → HasNoEntry view.step c → (view.root ≡ c → ⊥) → IsBare view.step c → IsClosed (with_opens view session number None) handle.label
        → Shows (with_shown (with_opens view session number None) c None) (changed t (CloseHandle number))
    shows_closed_last c o is free other bare last = record {
      by = shows_kept (with_opens view session number None) closed by_closed ordered_closed c handle.label o is free other bare others_closed last;
      ordered = ordered_changed t (CloseHandle number) h.ordered;
      used = kept_used closed;
    }

    -- the inode still has a link or an open handle
    pub shows_closed : (c : ℕ) (o : Object) → view.shown c ≡ Some (handle.label, o) → is_used closed.names closed.handles handle.label ≡ true → Shows (with_opens view session number None) (changed t (CloseHandle number))
    shows_closed c o is still = record {
      by = shows_kept_used (with_opens view session number None) closed by_closed ordered_closed c handle.label o is others_closed still;
      ordered = ordered_changed t (CloseHandle number) h.ordered;
      used = kept_used closed;
    }
