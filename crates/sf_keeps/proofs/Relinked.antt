-- A move in two changes of entries: the old entry is removed, and the new one refers to its inode.
use Rattle.std.specs.Prelude.{◌≡◌, ◌≢◌, ℕ, nat_eq, Bool, true, cond, ◌&&◌, List, [], ◌∷◌, ◌++◌, option_and_then, is_none, Option, Some, None, refl}
use Rattle.std.specs.Option.{option_or}
use Rattle.std.proofs.Common.{sym, ap, ◌∙◌, append_assoc, eqb-true, eq-eqb}
use Rattle.sf_path.specs.Names.{Name, Path}
use Rattle.sf_path.specs.Order.{path_cmp, path_total}
use Rattle.sf_call.specs.Attributes.{Object}
use Rattle.sf_call.specs.Tree.{Tree, IsOrderedTree, after_front, label_at, object_of, is_used, kept}
use Rattle.sf_call.specs.Moves.{moved}
use Rattle.sf_call.specs.Changes.{changed}
use Rattle.sf_call.specs.Changes.Change.{Move}
use Rattle.sf_call.proofs.Laws.{after_front-append, append-after_front, at_old, lookup-moved, moved_to_new, moved_outside, ordered_changed}
use Rattle.sf_keeps.specs.Steps.{EntryMap, walk, changed_step}
use Rattle.sf_keeps.specs.Shows.{View, ShowsBy, Shows, label_by, is_directory_by, with_step, with_shown}
use Rattle.sf_keeps.proofs.Walks.{walk-append, Avoids, LeadsOnce, led, walk_changed, walk_apart}
use Rattle.sf_keeps.proofs.Keyed.{lookup_any, any_lookup}
use Rattle.sf_keeps.proofs.Sound.{HasNoEntry, IsBare, no_entry_left, sound_less, sound_more}
use Rattle.sf_keeps.proofs.Shown.{once}
use Rattle.sf_keeps.proofs.Less.{is_named, is_opened, OthersUsed, IsClosed, kept_object, kept_used, cond_used, shows_same, shows_kept, shows_kept_used}
use Rattle.sf_keeps.proofs.Whole.{one_more, or_grows}

-- the inode of a path after a move
abbrev pub led_after_move : EntryMap → ℕ → Path → Path → Option Path → Option Path → Option ℕ
led_after_move step root old q None None = walk step root q
led_after_move step root old q None (Some r) = None
led_after_move step root old q (Some rest) before = walk step root (old ++ rest)

-- whether neither is a prefix of a path
abbrev is_after : Option Path → Option Path → Bool
is_after a b = is_none a && is_none b

at_rest : (x : Option ℕ) (a : Option Path) (y : Option ℕ) (r : Path) → option_or x (cond (is_after a (Some r)) y None) ≡ x
at_rest None None y r = refl
at_rest None (Some s) y r = refl
at_rest (Some v) None y r = refl
at_rest (Some v) (Some s) y r = refl

longer : (p : Path) (n : Name) (s : Path) → (p ++ n ∷ []) ++ s ≡ p → ⊥
longer [] n s = λ e. cc
longer (k ∷ p) n s = λ e. let t : (p ++ n ∷ []) ++ s ≡ p = cc in longer p n s t

module _ (step : EntryMap) (root : ℕ) (po : Path) (no : Name) (from : ℕ) (pn : Path) (nn : Name) (to c : ℕ)
    (at_from : walk step root po ≡ Some from) (once_from : LeadsOnce step root po from) (there : step from no ≡ Some c)
    (at_to : walk step root pn ≡ Some to) (once_to : LeadsOnce step root pn to)
    (not_inside : after_front (po ++ no ∷ []) (pn ++ nn ∷ []) ≡ None) where
  abbrev taken : EntryMap
  taken = changed_step step from no None

  abbrev pub relinked : EntryMap
  relinked = changed_step taken to nn (Some c)

  at_old_path : walk step root (po ++ no ∷ []) ≡ Some c
  at_old_path = walk-append step root po (no ∷ []) ∙ ap (option_and_then (λ y. walk step y (no ∷ []))) at_from ∙ ap (option_and_then (λ z. Some z)) there

  below : (s : Path) → walk step root ((po ++ no ∷ []) ++ s) ≡ walk step c s
  below s = walk-append step root (po ++ no ∷ []) s ∙ ap (option_and_then (λ y. walk step y s)) at_old_path

  clear_of_from : Avoids step c from
  clear_of_from s w = longer po no s (once_from ((po ++ no ∷ []) ++ s) (below s ∙ w))

  -- the path to the new directory is not below old
  outside : after_front (po ++ no ∷ []) pn ≡ None
  outside =
      elim (after_front (po ++ no ∷ []) pn) as (λ o. after_front (po ++ no ∷ []) pn ≡ o → o ≡ None) [
        | None ↦ λ e. refl
        | Some s ↦ λ e.
            let h = append-after_front (po ++ no ∷ []) pn s e in
            let f = ap (λ (p : Path). after_front (po ++ no ∷ []) (p ++ nn ∷ [])) h ∙ ap (after_front (po ++ no ∷ [])) (append_assoc (po ++ no ∷ []) s (nn ∷ []))
            ∙ after_front-append (po ++ no ∷ []) (s ++ nn ∷ []) in cc
      ] refl

  walk_taken : (q : Path) → walk taken root q ≡ led step None (after_front (po ++ no ∷ []) q) (walk step root q)
  walk_taken q = walk_changed step from no None (λ x e. cc) po root q at_from once_from

  at_to_taken : walk taken root pn ≡ Some to
  at_to_taken = walk_taken pn ∙ ap (λ o. led step None o (walk step root pn)) outside ∙ at_to

  once_to_taken : LeadsOnce taken root pn to
  once_to_taken q w =
      elim (after_front (po ++ no ∷ []) q) as (λ o. led step None o (walk step root q) ≡ Some to → q ≡ pn) [
        | None ↦ λ e. once_to q e
        | Some s ↦ λ e. cc
      ] (sym (walk_taken q) ∙ w)

  below_taken : (s : Path) → walk taken c s ≡ walk step c s
  below_taken s = walk_apart step from no None s c clear_of_from

  clear_of_to : (x : ℕ) → Some c ≡ Some x → Avoids taken x to
  clear_of_to x e s w =
      let h : c ≡ x = cc in
      let at_s : walk step c s ≡ Some to = sym (below_taken s) ∙ ap (λ y. walk taken y s) h ∙ w in
      let p = once_to ((po ++ no ∷ []) ++ s) (below s ∙ at_s) in
      let f = after_front-append (po ++ no ∷ []) s in
      let g = ap (after_front (po ++ no ∷ [])) p in
      let o = outside in cc

  pub walk_relinked : (q : Path) → walk relinked root q ≡ led_after_move step root (po ++ no ∷ []) q (after_front (pn ++ nn ∷ []) q) (after_front (po ++ no ∷ []) q)
  walk_relinked q =
      walk_changed taken to nn (Some c) clear_of_to pn root q at_to_taken once_to_taken
      ∙ elim (after_front (pn ++ nn ∷ []) q) as (λ o. led taken (Some c) o (walk taken root q) ≡ led_after_move step root (po ++ no ∷ []) q o (after_front (po ++ no ∷ []) q)) [
        | None ↦ walk_taken q ∙ elim (after_front (po ++ no ∷ []) q) as (λ o. led step None o (walk step root q) ≡ led_after_move step root (po ++ no ∷ []) q None o) [
          | None ↦ refl
          | Some s ↦ refl
        ]
        | Some rest ↦ below_taken rest ∙ sym (below rest)
      ]

  -- the names are the inode numbers of paths, before and after
  pub names_moved : (names : List (Path × ℕ)) (label : ℕ → Option ℕ) → ((q : Path) → label_at names q ≡ option_and_then label (walk step root q))
      → (q : Path) → label_at (moved names (po ++ no ∷ []) (pn ++ nn ∷ [])) q ≡ option_and_then label (walk relinked root q)
  names_moved names label are q =
      lookup-moved names (po ++ no ∷ []) (pn ++ nn ∷ []) q
      ∙ elim (after_front (pn ++ nn ∷ []) q) as (λ o. option_or (at_old names (po ++ no ∷ []) o) (cond (is_after (after_front (po ++ no ∷ []) q) o) (label_at names q) None) ≡ option_and_then label (led_after_move step root (po ++ no ∷ []) q o (after_front (po ++ no ∷ []) q))) [
        | None ↦ elim (after_front (po ++ no ∷ []) q) as (λ o. cond (is_after o None) (label_at names q) None ≡ option_and_then label (led_after_move step root (po ++ no ∷ []) q None o)) [
          | None ↦ are q
          | Some s ↦ refl
        ]
        | Some rest ↦ at_rest (label_at names ((po ++ no ∷ []) ++ rest)) (after_front (po ++ no ∷ []) q) (label_at names q) rest ∙ are ((po ++ no ∷ []) ++ rest)
      ]
      ∙ ap (option_and_then label) (sym (walk_relinked q))

-- ---- the view after the move
module _ (view : View) (t : Tree) (h : Shows view t) (po : Path) (on : Name) (from : ℕ) (pn : Path) (nn : Name) (to c : ℕ)
    (at_from : walk view.step view.root po ≡ Some from) (there : view.step from on ≡ Some c) (at_to : walk view.step view.root pn ≡ Some to) (is_to : is_directory_by view.shown to ≡ true)
    (not_inside : after_front (po ++ on ∷ []) (pn ++ nn ∷ []) ≡ None) where
  abbrev old : Path
  old = po ++ on ∷ []

  abbrev new : Path
  new = pn ++ nn ∷ []

  abbrev pub relinked_view : View
  relinked_view = with_step (with_step view from on None) to nn (Some c)

  abbrev moved_tree : Tree
  moved_tree = record t { names = moved t.names old new }

  by_moved : ShowsBy relinked_view moved_tree
  by_moved = record {
    names = names_moved view.step view.root po on from pn nn to c at_from (once view t h.by po from (h.by.sound.owns from c on there) at_from) there at_to (once view t h.by pn to is_to at_to) not_inside t.names (label_by view.shown) h.by.names;
    objects = h.by.objects;
    found = h.by.found;
    handles = h.by.handles;
    sound = sound_more (changed_step view.step from on None) to nn view.shown view.root (sound_less view.step from on view.shown view.root h.by.sound) c
        (λ is. no_entry_left view.step from on view.shown view.root h.by.sound c is there)
        (λ e. h.by.sound.top from on (there ∙ ap Some (sym e))) is_to (h.by.sound.to from c on there);
  }

  ordered_moved : IsOrderedTree moved_tree
  ordered_moved = record { names = (ordered_changed t (Move old new) h.ordered).names; objects = h.ordered.objects; handles = h.ordered.handles }

  -- the inode number of a path has a path after the move, unless the path was at or below new and
  -- not below old
  named_after : (q : Path) (l : ℕ) → label_at t.names q ≡ Some l → ((r : Path) → after_front old q ≡ None → after_front new q ≡ Some r → ⊥) → is_named moved_tree l ≡ true
  named_after q l at clear =
      elim (after_front old q) as (λ o. after_front old q ≡ o → is_named moved_tree l ≡ true) [
        | Some r ↦ λ e. any_lookup path_cmp (λ v. nat_eq v l) (moved t.names old new) (new ++ r) l
            (moved_to_new t.names old new r ∙ ap (label_at t.names) (sym (append-after_front old q r e)) ∙ at) (eq-eqb l l refl)
        | None ↦ λ e. elim (after_front new q) as (λ o. after_front new q ≡ o → is_named moved_tree l ≡ true) [
          | Some r ↦ λ f. absurd (clear r e f)
          | None ↦ λ f. any_lookup path_cmp (λ v. nat_eq v l) (moved t.names old new) q l (moved_outside t.names old new q e f ∙ at) (eq-eqb l l refl)
        ] refl
      ] refl

  named_before : (l : ℕ) → is_named t l ≡ true → (q : Path) × (label_at t.names q ≡ Some l)
  named_before l any =
      let w = lookup_any path_cmp path_total (λ v. nat_eq v l) t.names h.ordered.names any in
      (w.0, w.2 ∙ ap Some (eqb-true w.1 l w.3))

  -- the inode of a path at or below new, before
  below_new : (q r : Path) → after_front new q ≡ Some r → walk view.step view.root q ≡ option_and_then (λ y. walk view.step y r) (view.step to nn)
  below_new q r e =
      ap (walk view.step view.root) (append-after_front new q r e) ∙ walk-append view.step view.root new r
      ∙ ap (option_and_then (λ y. walk view.step y r)) (one_more view t h pn to nn at_to)

  -- ---- to an absent path
  module _ (free : view.step to nn ≡ None) where
    nothing_there : (q r : Path) (l : ℕ) → label_at t.names q ≡ Some l → after_front new q ≡ Some r → ⊥
    nothing_there q r l at e =
        let w = below_new q r e ∙ ap (option_and_then (λ y. walk view.step y r)) free in
        let g : label_at t.names q ≡ None = h.by.names q ∙ ap (option_and_then (label_by view.shown)) w in cc

    used_moved : (l : ℕ) (u : Object) → object_of t.objects l ≡ Some u → is_used moved_tree.names t.handles l ≡ true
    used_moved l u e = or_grows (is_named t l) (is_opened t l) (is_named moved_tree l)
        (λ any. let q = named_before l any in named_after q.0 l q.1 (λ r _ f. nothing_there q.0 r l q.1 f)) (h.used l u e)

    pub shows_move : Shows relinked_view (changed t (Move old new))
    shows_move = record {
      by = shows_same relinked_view moved_tree by_moved (kept moved_tree).objects (λ l. kept_object moved_tree l ∙ cond_used (is_used moved_tree.names t.handles l) (object_of t.objects l) (λ u e. used_moved l u e));
      ordered = ordered_changed t (Move old new) h.ordered;
      used = kept_used moved_tree;
    }

  -- ---- replacing another inode without entries
  module _ (target label : ℕ) (o : Object) (stood : view.step to nn ≡ Some target) (is : view.shown target ≡ Some (label, o)) (bare : IsBare view.step target) where
    only_target : (q r : Path) (l : ℕ) → label ≢ l → label_at t.names q ≡ Some l → after_front new q ≡ Some r → ⊥
    only_target q [] l ne at e =
        let w = below_new q [] e ∙ ap (option_and_then (λ y. walk view.step y [])) stood in
        let g : label_at t.names q ≡ Some label = h.by.names q ∙ ap (option_and_then (label_by view.shown)) w ∙ ap (λ (v : Option (ℕ × Object)). option_and_then (λ x. Some x.0) v) is in
        let same : label ≡ l = cc in ne same
    only_target q (k ∷ r) l ne at e =
        let w = below_new q (k ∷ r) e ∙ ap (option_and_then (λ y. walk view.step y (k ∷ r))) stood ∙ ap (option_and_then (λ y. walk view.step y r)) (bare k) in
        let g : label_at t.names q ≡ None = h.by.names q ∙ ap (option_and_then (label_by view.shown)) w in cc

    others_moved : OthersUsed moved_tree label
    others_moved l u ne e = or_grows (is_named t l) (is_opened t l) (is_named moved_tree l)
        (λ any. let q = named_before l any in named_after q.0 l q.1 (λ r _ f. only_target q.0 r l ne q.1 f)) (h.used l u e)

    -- no other entry or handle refers to the replaced inode
    pub shows_replaced : HasNoEntry relinked_view.step target → IsBare relinked_view.step target → IsClosed view label → Shows (with_shown relinked_view target None) (changed t (Move old new))
    shows_replaced gone still closed = record {
      by = shows_kept relinked_view moved_tree by_moved ordered_moved target label o is gone (λ e. h.by.sound.top to nn (stood ∙ ap Some (sym e))) still others_moved closed;
      ordered = ordered_changed t (Move old new) h.ordered;
      used = kept_used moved_tree;
    }

    -- another entry or handle refers to it
    pub shows_replaced_used : is_used moved_tree.names t.handles label ≡ true → Shows relinked_view (changed t (Move old new))
    shows_replaced_used used = record {
      by = shows_kept_used relinked_view moved_tree by_moved ordered_moved target label o is others_moved used;
      ordered = ordered_changed t (Move old new) h.ordered;
      used = kept_used moved_tree;
    }
