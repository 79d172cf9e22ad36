-- A view without an entry, and without an unused inode.
use Rattle.std.specs.Prelude.{◌≡◌, ◌≢◌, ℕ, nat_eq, Bool, true, false, cond, T, ◌||◌, List, [], ◌∷◌, ◌++◌, option_map, option_and_then, Option, Some, None, if◌then◌else◌, refl}
use Rattle.std.proofs.Common.{sym, ap, ◌∙◌, inl, inr, eqb-true, eq-eqb}
use Rattle.std.specs.List.{list_any}
use Rattle.std.specs.Ordering.{nat_cmp}
use Rattle.std.specs.Cmp.{nat_cmp_total}
use Rattle.std.specs.Map.{remove_entry}
use Rattle.std.specs.BTreeMap.{is_at}
use Rattle.std.specs.FinMap.{is_sorted}
use Rattle.std.proofs.lemmas.Bool.{cond-false, false_from_ne_true}
use Rattle.std.proofs.lemmas.Option.{cond_some}
use Rattle.std.proofs.lemmas.Map.Entries.{lookup-filter-keys}
use Rattle.sf_path.specs.Names.{Name, Path}
use Rattle.sf_path.specs.Order.{path_cmp, path_total}
use Rattle.sf_call.specs.declared.handle.Handle.{Handle}
use Rattle.sf_call.specs.Attributes.{Object}
use Rattle.sf_call.specs.Tree.{Tree, IsOrderedTree, label_at, object_of, handle_of, is_used, kept}
use Rattle.sf_call.specs.Handles.{handle_in, if_of}
use Rattle.sf_keeps.specs.Steps.{walk}
use Rattle.sf_keeps.specs.Shows.{View, ShowsBy, AllUsed, label_by, changed_shown, with_step, with_shown}
use Rattle.sf_keeps.proofs.Through.{found_through, found_as}
use Rattle.sf_keeps.proofs.Keyed.{lookup_any, any_lookup}
use Rattle.sf_keeps.proofs.SetsAt.{SetsAt, path_keys, removed_at, sets, set_seen, set_found, at_or_beside}
use Rattle.sf_keeps.proofs.Sound.{HasNoEntry, IsBare, never_reached, sound_less, sound_dropped}
use Rattle.sf_keeps.proofs.Shown.{labels_along, names_led, some_label, nat_same}

module _ (view : View) (t : Tree) (s : ShowsBy view t) where
  pub shows_less : (p : Path) (d : ℕ) (n : Name) (c : ℕ) → T (is_sorted path_cmp t.names) → walk view.step view.root p ≡ Some d → view.step d n ≡ Some c → IsBare view.step c
      → ShowsBy (with_step view d n None) (record t { names = remove_entry (is_at (path_cmp (p ++ n ∷ []))) t.names })
  shows_less p d n c ordered at there bare = record {
    names = names_led view t s p d n None (label_by view.shown) (remove_entry (is_at (path_cmp (p ++ n ∷ []))) t.names) (record {
      at = at;
      is = s.sound.owns d c n there;
      clear = λ x e. cc;
      ended = λ k. ap (option_and_then (λ x. view.step x k)) there ∙ bare k;
      ends = λ k. refl;
      alike = λ q y e. refl;
      value = None;
      here = refl;
      set = removed_at path_keys t.names (p ++ n ∷ []) ordered;
    });
    objects = s.objects;
    found = s.found;
    handles = s.handles;
    sound = sound_less view.step d n view.shown view.root s.sound;
  }

  -- ---- a deleted inode
  -- the same objects but one
  pub shows_dropped : (c label : ℕ) (o : Object) (objects : List (ℕ × Object)) → view.shown c ≡ Some (label, o) → HasNoEntry view.step c → IsBare view.step c → (view.root ≡ c → ⊥)
      → SetsAt (object_of t.objects) (object_of objects) label None → ShowsBy (with_shown view c None) (record t { objects = objects })
  shows_dropped c label o objects at free bare other gone =
      let shown = sets view.shown c None in
      let labels = set_seen (option_map (λ (x : ℕ × Object). x.0)) shown in
      record {
        names = λ q. s.names q ∙ sym (labels_along view t s (label_by (changed_shown view.shown c None)) (λ q y e. labels.beside y (λ h. never_reached view.step view.root c q free other (e ∙ ap Some (sym h)))) q);
        objects = λ i l u e. elim (set_found shown i e) [
          | inl a ↦ cc
          | inr a ↦ gone.beside l (λ h. a.0 (s.sound.labels c i label o u at (a.1 ∙ ap (λ z. Some (z, u)) (sym h)))) ∙ s.objects i l u a.1
        ];
        found = λ l u e. elim (set_found gone l e) [
          | inl a ↦ cc
          | inr a ↦ let w = s.found l u a.1 in (w.0, shown.beside w.0 (λ h. a.0 (some_label label l o u (sym at ∙ ap view.shown h ∙ w.1))) ∙ w.1)
        ];
        handles = s.handles;
        sound = sound_dropped view.step view.shown view.root c s.sound free bare other;
      }

-- ---- used objects
abbrev pub is_named : Tree → ℕ → Bool
is_named t label = list_any (λ e. nat_eq e.1 label) t.names

abbrev pub is_opened : Tree → ℕ → Bool
is_opened t label = list_any (λ e. nat_eq e.1.label label) t.handles

-- each object of the tree but this one has a link or an open handle
abbrev pub OthersUsed : Tree → ℕ → Type 0
OthersUsed t label = (l : ℕ) (u : Object) → label ≢ l → object_of t.objects l ≡ Some u → is_used t.names t.handles l ≡ true

pub kept_object : (t : Tree) (l : ℕ) → object_of (kept t).objects l ≡ cond (is_used t.names t.handles l) (object_of t.objects l) None
kept_object t l = lookup-filter-keys (is_at (nat_cmp l)) (λ k. is_used t.names t.handles k) (is_used t.names t.handles l) (λ k e. ap (λ z. is_used t.names t.handles z) (sym (nat_same l k e))) t.objects

pub kept_used : (t : Tree) → AllUsed (kept t)
kept_used t l u e =
    elim (is_used t.names t.handles l) as (λ b. cond b (object_of t.objects l) None ≡ Some u → b ≡ true) [ true ↦ λ f. refl | false ↦ λ f. cc ] (sym (kept_object t l) ∙ e)

pub cond_used : (b : Bool) (o : Option Object) → ((u : Object) → o ≡ Some u → b ≡ true) → cond b o None ≡ o
cond_used true o h = refl
cond_used false None h = refl
cond_used false (Some u) h = let e = h u refl in cc

-- the session's handle is the one with this number, and vice versa
pub handle_there : (t : Tree) (session number : ℕ) (h : Handle) → handle_in t session number ≡ Some h → (handle_of t.handles number ≡ Some h) × (h.session ≡ session)
handle_there t session number h e =
    let w = found_through (handle_of t.handles number) e in
    let same = cond_some (nat_eq w.0.session session) w.0 h w.2 in
    (w.1 ∙ ap Some same.1, ap (λ (x : Handle). x.session) (sym same.1) ∙ eqb-true w.0.session session same.0)

pub handle_here : (t : Tree) (number : ℕ) (h : Handle) → handle_of t.handles number ≡ Some h → handle_in t h.session number ≡ Some h
handle_here t number h e = ap (option_and_then (if_of h.session)) e ∙ ap (λ b. if b then Some h else None) (eq-eqb h.session h.session refl)

-- no handle opens the inode number
abbrev pub IsClosed : View → ℕ → Type 0
IsClosed view label = (session number : ℕ) (h : Handle) → view.opens session number ≡ Some h → h.label ≡ label → ⊥

module _ (view : View) (t : Tree) (s : ShowsBy view t) where
  -- the same objects by lookups
  pub shows_same : (objects : List (ℕ × Object)) → ((l : ℕ) → object_of objects l ≡ object_of t.objects l) → ShowsBy view (record t { objects = objects })
  shows_same objects same = record {
    names = s.names;
    objects = λ i l u e. same l ∙ s.objects i l u e;
    found = λ l u e. s.found l u (sym (same l) ∙ e);
    handles = s.handles;
    sound = s.sound;
  }

  pub opened_by : (session number : ℕ) (h : Handle) → view.opens session number ≡ Some h → is_opened t h.label ≡ true
  opened_by session number h e =
      any_lookup nat_cmp (λ x. nat_eq x.label h.label) t.handles number h (handle_there t session number h (s.handles session number ∙ e)).0 (eq-eqb h.label h.label refl)

  pub closed_by : (label : ℕ) → T (is_sorted nat_cmp t.handles) → IsClosed view label → is_opened t label ≡ false
  closed_by label ordered closed =
      false_from_ne_true (is_opened t label) (λ e.
      let w = lookup_any nat_cmp nat_cmp_total (λ x. nat_eq x.label label) t.handles ordered e in
      closed w.1.session w.0 w.1 (sym (s.handles w.1.session w.0) ∙ handle_here t w.0 w.1 w.2) (eqb-true w.1.label label w.3))

  -- a path of the inode number resolves to the inode
  pub led_by : (c label : ℕ) (o : Object) → view.shown c ≡ Some (label, o) → (q : Path) → label_at t.names q ≡ Some label → walk view.step view.root q ≡ Some c
  led_by c label o at q e =
      let w = found_through (walk view.step view.root q) (sym (s.names q) ∙ e) in
      let v = found_as (view.shown w.0) w.2 in
      w.1 ∙ ap Some (s.sound.labels w.0 c label v.0.1 o (v.1 ∙ (λ i. Some (v.2 i, v.0.1))) at)

  module _ (ordered : IsOrderedTree t) (c label : ℕ) (o : Object) (at : view.shown c ≡ Some (label, o)) where
    -- no path has the inode number of an inode that no path resolves to
    pub unnamed : ((q : Path) → walk view.step view.root q ≡ Some c → ⊥) → is_named t label ≡ false
    unnamed unreached =
        false_from_ne_true (is_named t label) (λ e.
        let w = lookup_any path_cmp path_total (λ v. nat_eq v label) t.names ordered.names e in
        unreached w.0 (led_by c label o at w.0 (w.2 ∙ ap Some (eqb-true w.1 label w.3))))

    -- an unused inode is deleted
    pub shows_kept : HasNoEntry view.step c → (view.root ≡ c → ⊥) → IsBare view.step c → OthersUsed t label → IsClosed view label → ShowsBy (with_shown view c None) (kept t)
    shows_kept free other bare used closed =
        let gone : is_used t.names t.handles label ≡ false = ap (λ b. b || is_opened t label) (unnamed (λ q. never_reached view.step view.root c q free other)) ∙ closed_by label ordered.handles closed in
        shows_dropped view t s c label o (kept t).objects at free bare other (record {
          at = kept_object t label ∙ cond-false _ _ _ gone;
          beside = λ l ne. kept_object t l ∙ cond_used (is_used t.names t.handles l) (object_of t.objects l) (λ u f. used l u ne f);
        })

    -- a used inode stays
    pub shows_kept_used : OthersUsed t label → is_used t.names t.handles label ≡ true → ShowsBy view (kept t)
    shows_kept_used used there =
        shows_same (kept t).objects (λ l. kept_object t l ∙ cond_used (is_used t.names t.handles l) (object_of t.objects l)
        (at_or_beside (λ i. (u : Object) → object_of t.objects i ≡ Some u → is_used t.names t.handles i ≡ true) label (λ _ _. there) (λ i ne u f. used i u ne f) l))
