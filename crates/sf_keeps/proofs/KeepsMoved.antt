-- What a store represents after an entry was moved.
use Rattle.std.specs.Prelude.{◌≡◌, ◌≢◌, ℕ, ◌-◌, ◌<◌, true, false, List, [], ◌∷◌, ◌++◌, option_and_then, Some, None, refl}
use Rattle.std.specs.Option.{option_map_or}
use Rattle.std.proofs.Common.{sym, ap, subst, ◌∙◌, arith, inl, inr}
use Rattle.std.proofs.lemmas.Bool.{cases_Bool}
use Rattle.sf_path.specs.Names.{Name, Path}
use Rattle.sf_path.specs.Order.{path_cmp}
use Rattle.std.specs.Map.{remove_entry}
use Rattle.std.specs.BTreeMap.{is_at}
use Rattle.sf_call.specs.Tree.{Tree, label_at, links, after_front}
use Rattle.sf_call.specs.Changes.{changed}
use Rattle.sf_call.specs.Changes.Change.{Move}
use Rattle.sf_call.proofs.Laws.{after_front-append, links_less, links_same, links_moved, is_link_itself, is_link_other}
use Rattle.sf_inode.specs.declared.node.Node.{Node}
use Rattle.sf_inode.specs.declared.node.Content.TheVariants as content
use Rattle.sf_inode.specs.Nodes.{is_directory_content, is_bare_content, more_content, less_content, with_content, without_name, is_unused}
use Rattle.sf_keeps.specs.Steps.{EntryMap, walk, changed_step}
use Rattle.sf_keeps.specs.Shows.{View, Shows, label_by, with_step}
use Rattle.sf_inode.specs.Stores.{StoreState, node_in, child_of, entry_put, moved_entry, relinked, relinked_from, entry_key}
use Rattle.sf_keeps.specs.Keeps.{view_of, Keeps}
use Rattle.sf_keeps.proofs.Sound.{IsBare}
use Rattle.sf_keeps.proofs.Shown.{below}
use Rattle.sf_keeps.proofs.InOrder.{InOrder}
use Rattle.sf_keeps.proofs.StoreMoves.{still_there, view_moved, in_order_moved, is_relinked, target_there, shows_relinked, shows_relinked_gone, shows_relinked_used, MovesEntry}
use Rattle.sf_keeps.proofs.Openings.{closed_label, entry_node, both_zero, path_label, one_entry, used_still}
use Rattle.sf_keeps.proofs.Whole.{one_more, free_name}
use Rattle.sf_keeps.proofs.Counted.{marks_of, marked, keeps_marked, marked_same}
use Rattle.sf_keeps.proofs.CountedSteps.{bare_moved, bare_apart, none_replaced}
use Rattle.sf_keeps.proofs.Forgotten.{directory_at, entry_above, bare_at, keeps_forgotten, marks_entries}
use Rattle.sf_keeps.proofs.KeepsNames.{away}

module _ (s : StoreState) (t : Tree) (po : Path) (od : ℕ) (on : Name) (c : ℕ) (pn : Path) (nd : ℕ) (nn : Name) (k : Keeps s t)
    (at_from : walk (child_of s.nodes) s.root po ≡ Some od) (there : child_of s.nodes od on ≡ Some c) (at_to : walk (child_of s.nodes) s.root pn ≡ Some nd)
    (is_dir : option_map_or (λ (it : Node). is_directory_content it.content) (node_in s.nodes nd) false ≡ true) (not_inside : after_front (po ++ on ∷ []) (pn ++ nn ∷ []) ≡ None) where
  from : (node : Node) × (node_in s.nodes od ≡ Some node)
  from = entry_above s.nodes od c on there

  to : (node : Node) × (es : List (Name × ℕ)) × (node_in s.nodes nd ≡ Some node) × (node.content ≡ content.Directory es)
  to = directory_at s.nodes nd is_dir

  abbrev move : MovesEntry s
  move = record {
    from = record { path = po; id = od; node = from.0; leads = at_from; is_node = from.1 };
    name = on;
    into = record { path = pn; id = nd; node = to.0; leads = at_to; is_node = to.2 };
    new_name = nn;
    child = c;
    there = there;
    entries = to.1;
    directory = to.3;
    not_inside = not_inside;
  }

  abbrev moved : EntryMap
  moved = changed_step (changed_step (child_of s.nodes) od on None) nd nn (Some c)

  abbrev after : Tree
  after = changed t (Move (po ++ on ∷ []) (pn ++ nn ∷ []))

  marks_moved : (i : ℕ) → marks_of (moved_entry s (entry_key od on) (entry_key nd nn) c).nodes i ≡ marks_of s.nodes i
  marks_moved i =
      let f = still_there (with_content (more_content nn c)) s nd od to.0 from.0 to.2 from.1 in
      marks_entries (less_content on) (entry_put s nd nn c) od f.0 f.1 i ∙ marks_entries (more_content nn c) s nd to.0 to.2 i

  ordered_moved : InOrder (moved_entry s (entry_key od on) (entry_key nd nn) c).nodes
  ordered_moved = in_order_moved s t k.shows k.entries move

  is_view : view_of (moved_entry s (entry_key od on) (entry_key nd nn) c) ≡ with_step (with_step (view_of s) od on None) nd nn (Some c)
  is_view = view_moved s t k.shows k.entries move

  abbrev old : Path
  old = po ++ on ∷ []

  abbrev new : Path
  new = pn ++ nn ∷ []

  to_away : (id l o : ℕ) → marks_of s.nodes id ≡ Some (l, 0, o) → nd ≢ id
  to_away = away s t k move.into

  bares : (id l o : ℕ) → marks_of s.nodes id ≡ Some (l, 0, o) → IsBare (child_of s.nodes) id → IsBare moved id
  bares id l o e = bare_moved (child_of s.nodes) od on nd nn c id (to_away id l o e)

  -- the number of paths, without those of the replaced inode, if none are below it
  counted_paths : ((name : Name) (rest : Path) → label_at t.names (new ++ name ∷ rest) ≡ None) → (label : ℕ) → links after.names label ≡ links (remove_entry (is_at (path_cmp new)) t.names) label
  counted_paths nothing label = links_moved t.names old new k.shows.ordered.names not_inside nothing label

  below_new : (name : Name) (rest : Path) → walk (child_of s.nodes) s.root (new ++ name ∷ rest) ≡ option_and_then (λ y. walk (child_of s.nodes) y (name ∷ rest)) (child_of s.nodes nd nn)
  below_new name rest = below (view_of s) t k.shows.by pn nd nn at_to (new ++ name ∷ rest) (name ∷ rest) (after_front-append new (name ∷ rest))

  -- ---- to an absent path
  pub keeps_moved : child_of s.nodes nd nn ≡ None → Keeps (relinked s od on nd nn) (changed t (Move (po ++ on ∷ []) (pn ++ nn ∷ [])))
  keeps_moved none =
      let is : relinked s od on nd nn ≡ moved_entry s (entry_key od on) (entry_key nd nn) c = ap (λ o. relinked_from s (entry_key od on) (entry_key nd nn) o (child_of s.nodes nd nn)) there ∙ ap (relinked_from s (entry_key od on) (entry_key nd nn) (Some c)) none in
      let shows = shows_relinked s t k.shows k.entries move none in
      let nothing : (name : Name) (rest : Path) → label_at t.names (new ++ name ∷ rest) ≡ None =
      λ name rest. k.shows.by.names (new ++ name ∷ rest) ∙ ap (option_and_then (label_by (view_of s).shown)) (below_new name rest ∙ ap (option_and_then (λ y. walk (child_of s.nodes) y (name ∷ rest))) none) in
      let free = free_name (view_of s) t k.shows pn nd nn at_to none in
      subst (λ (x : StoreState). Keeps x after) (sym is)
      (keeps_marked s (moved_entry s (entry_key od on) (entry_key nd nn) c) t after k (record {
        step = moved;
        marks = marks_of s.nodes;
        shows = subst (λ (x : StoreState). Shows (view_of x) after) is shows;
        steps = λ x m. ap (λ (v : View). v.step x m) is_view;
        says = marks_moved;
        sessions = refl;
        handles = refl;
        marked = marked_same moved (links after.names) (marked s t k) bares
            (λ label. counted_paths nothing label ∙ links_same t.names label new free);
        ordered = ordered_moved;
      }))

  -- ---- replacing another
  module _ (target : ℕ) (stood_at : child_of s.nodes nd nn ≡ Some target) (is_bare : option_map_or (λ (it : Node). is_bare_content it.content) (node_in s.nodes target) false ≡ true) (other : c ≡ target → ⊥) where
    gone : (node : Node) × (node_in s.nodes target ≡ Some node) × (0 < node.names)
    gone = entry_node s t k nd target nn stood_at

    bare : IsBare (child_of s.nodes) target
    bare = bare_at s.nodes target is_bare

    nothing : (name : Name) (rest : Path) → label_at t.names (new ++ name ∷ rest) ≡ None
    nothing name rest =
        k.shows.by.names (new ++ name ∷ rest) ∙ ap (option_and_then (label_by (view_of s).shown))
        (below_new name rest ∙ ap (option_and_then (λ y. walk (child_of s.nodes) y (name ∷ rest))) stood_at ∙ ap (option_and_then (λ y. walk (child_of s.nodes) y rest)) (bare name))

    at_new : label_at t.names new ≡ Some gone.0.label
    at_new = path_label s t k new target gone.0 gone.1 (one_more (view_of s) t k.shows pn nd nn at_to ∙ stood_at)

    own : gone.0.names - 1 ≡ links after.names gone.0.label
    own = omega (arith, k.linked target gone.0 gone.1, counted_paths nothing gone.0.label, links_less t.names gone.0.label new gone.0.label at_new, is_link_itself gone.0.label)

    shows_there : Shows (view_of (relinked s od on nd nn)) after
    shows_there = elim (cases_Bool (is_unused (without_name gone.0))) [
      | inl e ↦
          let none = both_zero (gone.0.names - 1) gone.0.opens e in
          shows_relinked_gone s t k.shows k.entries move target gone.0 stood_at gone.1 bare
          (none_replaced (child_of s.nodes) od on nd nn c target (one_entry s t k target gone.0 gone.1 (omega (arith, gone.2, none.0))) stood_at other)
          (closed_label s t k gone.0.label (sym (k.counted target gone.0 gone.1) ∙ none.1)) e
      | inr e ↦ shows_relinked_used s t k.shows k.entries move target gone.0 stood_at gone.1 bare
          (used_still s t k after.names target (gone.0.names - 1) gone.0 gone.1 own e) e
    ]

    pub keeps_replaced : Keeps (relinked s od on nd nn) (changed t (Move (po ++ on ∷ []) (pn ++ nn ∷ [])))
    keeps_replaced =
        let is = is_relinked s t k.shows k.entries move target gone.0 stood_at gone.1 bare in
        subst (λ (x : StoreState). Keeps x after) (sym is)
        (keeps_forgotten s t after k (record {
          mid = moved_entry s (entry_key od on) (entry_key nd nn) c;
          step = moved;
          id = target;
          node = gone.0;
          here = target_there s t k.shows k.entries move target gone.0 stood_at gone.1 bare;
          ordered = ordered_moved;
          steps = λ x m. ap (λ (v : View). v.step x m) is_view;
          marks = marks_moved;
          sessions = refl;
          gone = bare_moved (child_of s.nodes) od on nd nn c target (bare_apart (child_of s.nodes) nd target nn target stood_at bare) bare;
          bares = bares;
          others = λ label apart. omega (arith, counted_paths nothing label, links_less t.names label new gone.0.label at_new, is_link_other label gone.0.label (λ same. apart (sym same)));
          own = own;
          handles = refl;
          shows = subst (λ (x : StoreState). Shows (view_of x) after) is shows_there;
        }))
