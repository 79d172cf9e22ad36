-- A view of a whole tree after each change of objects and names.
use Rattle.std.specs.Prelude.{◌≡◌, ℕ, nat_eq, Bool, true, false, T, ◌||◌, [], ◌∷◌, ◌++◌, option_and_then, is_some, Option, Some, None, refl}
use Rattle.std.proofs.Common.{sym, ap, ◌∙◌, inl, inr, eq-eqb}
use Rattle.std.proofs.lemmas.Bool.{or_left}
use Rattle.std.specs.Map.{remove_entry}
use Rattle.std.specs.BTreeMap.{is_at}
use Rattle.std.specs.FinMap.{is_sorted}
use Rattle.sf_path.specs.Names.{Name, Path}
use Rattle.sf_path.specs.Order.{path_cmp, path_total}
use Rattle.sf_call.specs.declared.handle.Handle.{Handle}
use Rattle.sf_call.specs.Attributes.{Object}
use Rattle.sf_call.specs.Tree.{Tree, IsOrderedTree, directory_metadata, label_at, object_of, handle_of, is_used}
use Rattle.sf_call.specs.Changes.{changed}
use Rattle.sf_call.specs.Changes.Change.{SetObject, NewPath, GonePath}
use Rattle.sf_call.proofs.Laws.{ordered_changed, same_tree}
use Rattle.sf_keeps.specs.Steps.{walk, changed_step}
use Rattle.sf_keeps.specs.Shows.{View, ShowsBy, Shows, AllUsed, label_by, is_directory_by, with_step, with_shown}
use Rattle.sf_keeps.proofs.Walks.{walk-append, to_it}
use Rattle.sf_keeps.proofs.Keyed.{lookup_any, any_lookup, any-removed}
use Rattle.sf_keeps.proofs.SetsAt.{number_keys, path_keys, nat_eq_apart, some_found, inserted_at, value_at}
use Rattle.sf_keeps.proofs.Sound.{HasNoEntry, IsBare}
use Rattle.sf_keeps.proofs.Shown.{shows_object, shows_more}
use Rattle.sf_keeps.proofs.Less.{is_named, is_opened, OthersUsed, IsClosed, kept_used, handle_there, handle_here, shows_less, shows_kept, shows_kept_used}

-- ---- another object
-- an object that exists after the change existed before
pub object_before : (t : Tree) (label : ℕ) (o old : Object) → object_of t.objects label ≡ Some old → (l : ℕ) (u : Object) → object_of (changed t (SetObject label o)).objects l ≡ Some u → (v : Object) × (object_of t.objects l ≡ Some v)
object_before t label o old there l u e =
    elim (some_found (value_at number_keys t.objects label old o there) l e) [
      | inl a ↦ (old, ap (object_of t.objects) (sym a.0) ∙ there)
      | inr a ↦ (u, a.1)
    ]

pub shows_set : (view : View) (t : Tree) → Shows view t → (d label : ℕ) (old o : Object) → view.shown d ≡ Some (label, old) → is_some (directory_metadata old) ≡ is_some (directory_metadata o)
    → Shows (with_shown view d (Some (label, o))) (changed t (SetObject label o))
shows_set view t h d label old o at kind = record {
  by = shows_object view t h.by d label old o at kind;
  ordered = ordered_changed t (SetObject label o) h.ordered;
  used = λ l u e. let b = object_before t label o old (h.by.objects d label old at) l u e in h.used l b.0 b.1;
}

-- ---- a new entry
pub or_grows : (a b c : Bool) → (a ≡ true → c ≡ true) → a || b ≡ true → c || b ≡ true
or_grows true b c h e = ap (λ x. x || b) (h refl)
or_grows false b true h e = refl
or_grows false b false h e = e

pub or_grows_right : (a b c : Bool) → (b ≡ true → c ≡ true) → a || b ≡ true → a || c ≡ true
or_grows_right true b c h e = refl
or_grows_right false b c h e = h e

pub named_more : (t : Tree) (q : Path) (label l : ℕ) (o : Object) → T (is_sorted path_cmp t.names) → label_at t.names q ≡ None → is_named t l ≡ true → is_named (changed t (NewPath q label o)) l ≡ true
named_more t q label l o sorted free any =
    let w = lookup_any path_cmp path_total (λ v. nat_eq v l) t.names sorted any in
    any_lookup path_cmp (λ v. nat_eq v l) (changed t (NewPath q label o)).names w.0 w.1
    ((inserted_at path_keys t.names q label).beside w.0 (λ e. let f = ap (label_at t.names) e in let g = w.2 in cc) ∙ w.2) w.3

new_named : (t : Tree) (q : Path) (label : ℕ) (o : Object) → is_named (changed t (NewPath q label o)) label ≡ true
new_named t q label o = any_lookup path_cmp (λ v. nat_eq v label) (changed t (NewPath q label o)).names q label
    (inserted_at path_keys t.names q label).at (eq-eqb label label refl)

used_entry : (t : Tree) (q : Path) (label : ℕ) (o : Object) → T (is_sorted path_cmp t.names) → label_at t.names q ≡ None → AllUsed t → AllUsed (changed t (NewPath q label o))
used_entry t q label o sorted free used l u e =
    elim (some_found (inserted_at number_keys t.objects label o) l e) [
      | inl a ↦ ap (λ (z : ℕ). is_used (changed t (NewPath q label o)).names t.handles z) (sym a.0) ∙ or_left _ _ (new_named t q label o)
      | inr a ↦ or_grows (is_named t l) (is_opened t l) (is_named (changed t (NewPath q label o)) l) (λ any. named_more t q label l o sorted free any) (used l u a.1)
    ]

module _ (view : View) (t : Tree) (h : Shows view t) where
  -- a path extended by a name resolves to the inode of the name
  pub one_more : (p : Path) (d : ℕ) (n : Name) → walk view.step view.root p ≡ Some d → walk view.step view.root (p ++ n ∷ []) ≡ view.step d n
  one_more p d n at = walk-append view.step view.root p (n ∷ []) ∙ ap (option_and_then (λ y. walk view.step y (n ∷ []))) at ∙ to_it (view.step d n)

  pub free_name : (p : Path) (d : ℕ) (n : Name) → walk view.step view.root p ≡ Some d → view.step d n ≡ None → label_at t.names (p ++ n ∷ []) ≡ None
  free_name p d n at free = h.by.names (p ++ n ∷ []) ∙ ap (option_and_then (label_by view.shown)) (one_more p d n at ∙ free)

  pub label_there : (p : Path) (d : ℕ) (n : Name) (c label : ℕ) (o : Object) → walk view.step view.root p ≡ Some d → view.step d n ≡ Some c → view.shown c ≡ Some (label, o) → label_at t.names (p ++ n ∷ []) ≡ Some label
  label_there p d n c label o at there is =
      h.by.names (p ++ n ∷ []) ∙ ap (option_and_then (label_by view.shown)) (one_more p d n at ∙ there) ∙ ap (λ (v : Option (ℕ × Object)). option_and_then (λ w. Some w.0) v) is

  pub shows_new : (p : Path) (d : ℕ) (n : Name) (c label : ℕ) (o : Object) → walk view.step view.root p ≡ Some d → is_directory_by view.shown d ≡ true → view.step d n ≡ None → view.shown c ≡ None → object_of t.objects label ≡ None
      → Shows (with_step (with_shown view c (Some (label, o))) d n (Some c)) (changed t (NewPath (p ++ n ∷ []) label o))
  shows_new p d n c label o at is free new fresh = record {
    by = shows_more view t h.by p d n c label o at is free new fresh;
    ordered = ordered_changed t (NewPath (p ++ n ∷ []) label o) h.ordered;
    used = used_entry t (p ++ n ∷ []) label o h.ordered.names (free_name p d n at free) h.used;
  }

  -- ---- one entry fewer
  module _ (p : Path) (d : ℕ) (n : Name) (c label : ℕ) (o : Object) (at : walk view.step view.root p ≡ Some d) (there : view.step d n ≡ Some c) (bare : IsBare view.step c) (is : view.shown c ≡ Some (label, o)) where
    abbrev less : Tree
    less = record t { names = remove_entry (is_at (path_cmp (p ++ n ∷ []))) t.names }

    ordered_less : IsOrderedTree less
    ordered_less = record { names = (ordered_changed t (GonePath (p ++ n ∷ [])) h.ordered).names; objects = h.ordered.objects; handles = h.ordered.handles }

    others_less : OthersUsed less label
    others_less l u ne e =
        ap (λ b. b || is_opened t l) (any-removed (λ v. nat_eq v l) (is_at (path_cmp (p ++ n ∷ []))) t.names label (label_there p d n c label o at there is) (nat_eq_apart label l ne)) ∙ h.used l u e

    by_less : ShowsBy (with_step view d n None) less
    by_less = shows_less view t h.by p d n c h.ordered.names at there bare

    -- no other entry or handle refers to the inode
    pub shows_gone : HasNoEntry (changed_step view.step d n None) c → IsBare (changed_step view.step d n None) c → IsClosed view label
        → Shows (with_shown (with_step view d n None) c None) (changed t (GonePath (p ++ n ∷ [])))
    shows_gone free still closed = record {
      by = shows_kept (with_step view d n None) less by_less ordered_less c label o is free (λ e. h.by.sound.top d n (there ∙ ap Some (sym e))) still others_less closed;
      ordered = ordered_changed t (GonePath (p ++ n ∷ [])) h.ordered;
      used = kept_used less;
    }

    -- another entry or handle refers to the inode
    pub shows_gone_used : is_used less.names t.handles label ≡ true → Shows (with_step view d n None) (changed t (GonePath (p ++ n ∷ [])))
    shows_gone_used used = record {
      by = shows_kept_used (with_step view d n None) less by_less ordered_less c label o is others_less used;
      ordered = ordered_changed t (GonePath (p ++ n ∷ [])) h.ordered;
      used = kept_used less;
    }

-- ---- one tree
module _ (view : View) (s t : Tree) (hs : Shows view s) (ht : Shows view t) where
  object_in_both : (l : ℕ) (o : Object) → object_of s.objects l ≡ Some o → object_of t.objects l ≡ Some o
  object_in_both l o e = let w = hs.by.found l o e in ht.by.objects w.0 l o w.1

  handle_in_both : (q : ℕ) (x : Handle) → handle_of s.handles q ≡ Some x → handle_of t.handles q ≡ Some x
  handle_in_both q x e = (handle_there t x.session q x (ht.by.handles x.session q ∙ sym (hs.by.handles x.session q) ∙ handle_here s q x e)).0

same_option : {A : Type 0} (a b : Option A) → ((x : A) → a ≡ Some x → b ≡ Some x) → ((x : A) → b ≡ Some x → a ≡ Some x) → a ≡ b
same_option None None f g = refl
same_option None (Some y) f g = g y refl
same_option (Some x) b f g = sym (f x refl)

-- a view has at most one tree
pub shows_one : (view : View) (s t : Tree) → Shows view s → Shows view t → s ≡ t
shows_one view s t hs ht = same_tree s t hs.ordered ht.ordered (record {
  names = λ q. hs.by.names q ∙ sym (ht.by.names q);
  objects = λ l. same_option _ _ (object_in_both view s t hs ht l) (object_in_both view t s ht hs l);
  handles = λ q. same_option _ _ (handle_in_both view s t hs ht q) (handle_in_both view t s ht hs q);
})
