-- A view after an inode or an entry has changed.
use Rattle.std.specs.Prelude.{◌≡◌, ◌≢◌, ℕ, true, List, [], ◌∷◌, ◌++◌, option_map, option_and_then, unwrap_or, is_some, Option, Some, None, refl}
use Rattle.std.proofs.Common.{sym, ap, ◌∙◌, inl, inr}
use Rattle.std.specs.Ordering.{nat_cmp}
use Rattle.std.specs.BTreeMap.{is_at}
use Rattle.sf_path.specs.Names.{Name, Path}
use Rattle.sf_path.specs.Order.{same_path}
use Rattle.sf_call.specs.Attributes.{Object}
use Rattle.sf_call.specs.Tree.{Tree, directory_metadata, after_front, label_at, object_of}
use Rattle.sf_call.specs.Changes.{changed}
use Rattle.sf_call.specs.Changes.Change.{SetObject, NewPath}
use Rattle.sf_call.proofs.Laws.{after_front-append, append-after_front}
use Rattle.sf_keeps.specs.Steps.{EntryMap, walk, changed_step}
use Rattle.sf_keeps.specs.Shows.{View, ShowsBy, label_by, is_directory_by, changed_shown, with_step, with_shown}
use Rattle.sf_keeps.proofs.Through.{none_there}
use Rattle.sf_keeps.proofs.Walks.{walk-append, Avoids, LeadsOnce, led, to_it, walk_changed}
use Rattle.sf_keeps.proofs.Once.{leads_once}
use Rattle.sf_keeps.proofs.SetsAt.{SetsAt, number_keys, path_keys, itself, sets, unchanged, set_found, set_seen, inserted_at, value_at}
use Rattle.sf_keeps.proofs.Sound.{HasNoEntry, IsBare, is_directory_shown, directory_there, reached_there, kind_more, sound_shown, sound_more}

pub same_path_itself : (p : Path) → same_path p p ≡ true
same_path_itself = itself path_keys

-- the numbers of two inodes with equal objects
pub some_label : (a b : ℕ) (o u : Object) → ◌≡◌ {A = Option (ℕ × Object)} (Some (a, o)) (Some (b, u)) → a ≡ b
some_label a b o u e = ap (λ (w : Option (ℕ × Object)). unwrap_or (option_map (λ x. x.0) w) a) e

pub nat_same : (a b : ℕ) → is_at (nat_cmp a) b ≡ true → a ≡ b
nat_same = number_keys.same

pub nat_at_itself : (a : ℕ) → is_at (nat_cmp a) a ≡ true
nat_at_itself = itself number_keys

no_some : {A : Type 0} (x : A) (o : Option A) → o ≡ Some x → o ≡ None → ⊥
no_some x o e f = cc

append_nil : (p : Path) → p ++ [] ≡ p
append_nil [] = refl
append_nil (n ∷ p) = λ i. n ∷ append_nil p i

pub after_front-self : (p : Path) → after_front p p ≡ Some []
after_front-self p = ap (after_front p) (sym (append_nil p)) ∙ after_front-append p []

-- a path that is not below p, or is further below it, is not p
path_none : (p q : Path) → after_front p q ≡ None → p ≢ q
path_none p q e h = let f = ap (after_front p) h in let g = after_front-self p in cc

path_further : (p q : Path) (k : Name) (r : Path) → after_front p q ≡ Some (k ∷ r) → p ≢ q
path_further p q k r e h = let f = ap (after_front p) h in let g = after_front-self p in cc

-- resolution fails after it
abbrev Ends : EntryMap → Option ℕ → Type 0
Ends step o = (k : Name) → option_and_then (λ x. step x k) o ≡ None

-- A name of a directory now refers to r. No path continues from r, and none continued from the old
-- inode. Inodes with paths keep their numbers, and the path has r's.
pub record LeadsTo (view : View) (t : Tree) (p : Path) (d : ℕ) (n : Name) (r : Option ℕ) (label : ℕ → Option ℕ) (names : List (Path × ℕ)) : Type 0 where
  pub at : walk view.step view.root p ≡ Some d
  pub is : is_directory_by view.shown d ≡ true
  pub clear : (x : ℕ) → r ≡ Some x → Avoids view.step x d
  pub ended : Ends view.step (view.step d n)
  pub ends : Ends view.step r
  pub alike : (q : Path) (y : ℕ) → walk view.step view.root q ≡ Some y → label y ≡ label_by view.shown y
  pub value : Option ℕ
  pub here : option_and_then label r ≡ value
  pub set : SetsAt (label_at t.names) (label_at names) (p ++ n ∷ []) value

module _ (view : View) (t : Tree) (s : ShowsBy view t) where
  -- only one path leads to a directory
  pub once : (p : Path) (d : ℕ) → is_directory_by view.shown d ≡ true → walk view.step view.root p ≡ Some d → LeadsOnce view.step view.root p d
  once p d is at = leads_once view.step view.shown view.root s.sound p d is at

  -- ---- an object set at the number of an inode
  module _ (d label : ℕ) (o : Object) (objects : List (ℕ × Object)) (put : SetsAt (object_of t.objects) (object_of objects) label (Some o)) where
    seen : SetsAt view.shown (changed_shown view.shown d (Some (label, o))) d (Some (label, o))
    seen = sets view.shown d (Some (label, o))

    objects_set : ((i : ℕ) (u : Object) → d ≢ i → view.shown i ≡ Some (label, u) → ⊥) → (i l : ℕ) (u : Object) → changed_shown view.shown d (Some (label, o)) i ≡ Some (l, u) → object_of objects l ≡ Some u
    objects_set fresh i l u e = elim (set_found seen i e) [
      | inl a ↦ sym (ap (option_and_then (λ (z : ℕ × Object). object_of objects z.0)) a.1) ∙ put.at ∙ ap (option_map (λ (z : ℕ × Object). z.1)) a.1
      | inr a ↦ put.beside l (λ h. fresh i u a.0 (a.1 ∙ ap (λ z. Some (z, u)) (sym h))) ∙ s.objects i l u a.1
    ]

    found_set : ((l : ℕ) (u : Object) → label ≢ l → view.shown d ≡ Some (l, u) → ⊥) → (l : ℕ) (u : Object) → object_of objects l ≡ Some u → (id : ℕ) × (changed_shown view.shown d (Some (label, o)) id ≡ Some (l, u))
    found_set other l u e = elim (set_found put l e) [
      | inl a ↦ (d, seen.at ∙ (λ i. option_map (λ (z : Object). (a.0 i, z)) (a.1 i)))
      | inr a ↦ let w = s.found l u a.1 in (w.0, seen.beside w.0 (λ h. other l u a.0 (ap view.shown h ∙ w.1)) ∙ w.1)
    ]

  -- another object of an inode
  pub shows_object : (d label : ℕ) (old o : Object) → view.shown d ≡ Some (label, old) → is_some (directory_metadata old) ≡ is_some (directory_metadata o) → ShowsBy (with_shown view d (Some (label, o))) (changed t (SetObject label o))
  shows_object d label old o at kind =
      let fresh : (i : ℕ) (u : Object) → d ≢ i → view.shown i ≡ Some (label, u) → ⊥ = λ i u ne e. ne (s.sound.labels d i label old u at e) in
      let objects = (changed t (SetObject label o)).objects in
      let put : SetsAt (object_of t.objects) (object_of objects) label (Some o) = value_at number_keys t.objects label old o (s.objects d label old at) in
      let same : (i : ℕ) → label_by (changed_shown view.shown d (Some (label, o))) i ≡ label_by view.shown i = unchanged (set_seen (option_map (λ (x : ℕ × Object). x.0)) (sets view.shown d (Some (label, o)))) (ap (option_map (λ (x : ℕ × Object). x.0)) at) in
      record {
        names = λ q. s.names q ∙ ap (λ (f : ℕ → Option ℕ). option_and_then f (walk view.step view.root q)) (λ i x. sym (same x) i);
        objects = objects_set d label o objects put fresh;
        found = found_set d label o objects put (λ l u ne e. ne (some_label label l old u (sym at ∙ e)));
        handles = s.handles;
        sound = sound_shown view.step view.shown view.root d s.sound label o (λ _. ap is_directory_shown at ∙ kind) fresh;
      }

  -- ---- one entry fewer
  -- the inode of a path that continues from p by the name n
  pub below : (p : Path) (d : ℕ) (n : Name) → walk view.step view.root p ≡ Some d → (q r : Path) → after_front (p ++ n ∷ []) q ≡ Some r → walk view.step view.root q ≡ option_and_then (λ c. walk view.step c r) (view.step d n)
  below p d n at q r e =
      ap (walk view.step view.root) (append-after_front (p ++ n ∷ []) q r e) ∙ walk-append view.step view.root (p ++ n ∷ []) r
      ∙ ap (option_and_then (λ y. walk view.step y r)) (walk-append view.step view.root p (n ∷ []) ∙ ap (option_and_then (λ y. option_and_then (λ z. Some z) (view.step y n))) at)
      ∙ ap (option_and_then (λ y. walk view.step y r)) (to_it (view.step d n))

  ends_there : (k : Name) (w : Path) (o : Option ℕ) → option_and_then (λ x. view.step x k) o ≡ None → option_and_then (λ x. walk view.step x (k ∷ w)) o ≡ None
  ends_there k w None e = refl
  ends_there k w (Some x) e = ap (option_and_then (λ y. walk view.step y w)) e

  pub labels_along : (label : ℕ → Option ℕ) → ((q : Path) (y : ℕ) → walk view.step view.root q ≡ Some y → label y ≡ label_by view.shown y)
      → (q : Path) → option_and_then label (walk view.step view.root q) ≡ option_and_then (label_by view.shown) (walk view.step view.root q)
  labels_along label alike q = elim (walk view.step view.root q) as (λ w. walk view.step view.root q ≡ w → option_and_then label w ≡ option_and_then (label_by view.shown) w) [ None ↦ λ e. refl | Some y ↦ alike q y ] refl

  -- the inodes of paths after a name refers to r
  module _ (p : Path) (d : ℕ) (n : Name) (r : Option ℕ) (label : ℕ → Option ℕ) (names : List (Path × ℕ)) (new : LeadsTo view t p d n r label names) where
    named_on : (q : Path) (w : Option Path) → after_front (p ++ n ∷ []) q ≡ w → label_at names q ≡ option_and_then label (led view.step r w (walk view.step view.root q))
    named_on q None e = new.set.beside q (path_none (p ++ n ∷ []) q e) ∙ s.names q ∙ sym (labels_along label new.alike q)
    named_on q (Some []) e =
        ap (label_at names) (append-after_front (p ++ n ∷ []) q [] e ∙ append_nil (p ++ n ∷ [])) ∙ new.set.at ∙ sym (ap (option_and_then label) (to_it r) ∙ new.here)
    named_on q (Some (k ∷ w)) e =
        new.set.beside q (path_further (p ++ n ∷ []) q k w e) ∙ s.names q
        ∙ ap (option_and_then (label_by view.shown)) (below p d n new.at q (k ∷ w) e ∙ ends_there k w (view.step d n) (new.ended k))
        ∙ sym (ap (option_and_then label) (ends_there k w r (new.ends k)))

    pub names_led : (q : Path) → label_at names q ≡ option_and_then label (walk (changed_step view.step d n r) view.root q)
    names_led q =
        named_on q (after_front (p ++ n ∷ []) q) refl
        ∙ ap (option_and_then label) (sym (walk_changed view.step d n r new.clear p view.root q new.at (once p d new.is new.at)))

  -- ---- a new inode with its entry
  new_bare : (c : ℕ) → view.shown c ≡ None → IsBare view.step c
  new_bare c new m = none_there (view.step c m) (λ y e. directory_there view.shown c (s.sound.owns c y m e) new)

  new_free : (c : ℕ) → view.shown c ≡ None → HasNoEntry view.step c
  new_free c new x m e = s.sound.to x c m e new

  new_clear : (d c : ℕ) → view.shown c ≡ None → (view.shown d ≡ None → ⊥) → (x : ℕ) → Some c ≡ Some x → Avoids view.step x d
  new_clear d c new there x e [] w = let h : d ≡ c = cc in there (ap view.shown h ∙ new)
  new_clear d c new there x e (m ∷ q) w = let b = ap (option_and_then (λ y. walk view.step y q)) (new_bare c new m) in let h : c ≡ x = cc in let f = ap (λ y. walk view.step y (m ∷ q)) h in cc

  pub shows_more : (p : Path) (d : ℕ) (n : Name) (c label : ℕ) (o : Object) → walk view.step view.root p ≡ Some d → is_directory_by view.shown d ≡ true → view.step d n ≡ None → view.shown c ≡ None → object_of t.objects label ≡ None
      → ShowsBy (with_step (with_shown view c (Some (label, o))) d n (Some c)) (changed t (NewPath (p ++ n ∷ []) label o))
  shows_more p d n c label o at is free new fresh =
      let kind : (view.shown c ≡ None → ⊥) → is_directory_by view.shown c ≡ is_directory_shown (Some (label, o)) = λ there. absurd (there new) in
      let d_there = reached_there view.step view.shown view.root s.sound p d at in
      let other : (i : ℕ) (u : Object) → c ≢ i → view.shown i ≡ Some (label, u) → ⊥ = λ i u ne e. no_some u _ (s.objects i label u e) fresh in
      let after = changed t (NewPath (p ++ n ∷ []) label o) in
      let put : SetsAt (object_of t.objects) (object_of after.objects) label (Some o) = inserted_at number_keys t.objects label o in
      let shown = sets view.shown c (Some (label, o)) in
      let labels = set_seen (option_map (λ (x : ℕ × Object). x.0)) shown in
      record {
        names = names_led p d n (Some c) (label_by (changed_shown view.shown c (Some (label, o)))) after.names (record {
          at = at;
          is = is;
          clear = new_clear d c new d_there;
          ended = λ k. ap (option_and_then (λ x. view.step x k)) free;
          ends = new_bare c new;
          alike = λ q y e. labels.beside y (λ h. reached_there view.step view.shown view.root s.sound q y e (ap view.shown (sym h) ∙ new));
          value = Some label;
          here = labels.at;
          set = inserted_at path_keys t.names (p ++ n ∷ []) label;
        });
        objects = objects_set c label o after.objects put other;
        found = found_set c label o after.objects put (λ l u ne e. no_some (l, u) (view.shown c) e new);
        handles = s.handles;
        sound = sound_more view.step d n (changed_shown view.shown c (Some (label, o))) view.root (sound_shown view.step view.shown view.root c s.sound label o kind other) c (λ _. new_free c new)
            (λ h. directory_there view.shown view.root s.sound.rooted (ap view.shown h ∙ new)) (kind_more view.step view.shown view.root c s.sound label o kind d d_there ∙ is) (λ h. no_some (label, o) _ shown.at h);
      }
