-- What a store represents after a new link of a file.
use Rattle.std.specs.Prelude.{◌≡◌, ◌≢◌, ℕ, ◌+◌, ◌-◌, ◌<◌, ◌^◌, min, nat_eq, true, false, cond, List, [], ◌∷◌, ◌++◌, is_some, option_map, option_and_then, Option, Some, None, refl}
use Rattle.std.specs.Option.{option_map_or}
use Rattle.std.proofs.Common.{sym, ap, subst, ◌∙◌, arith}
use Rattle.std.proofs.Math.Nat.{min-eq_left}
use Rattle.sf_path.specs.Names.{Name, Path}
use Rattle.sf_call.specs.declared.metadata.Metadata.{Metadata}
use Rattle.sf_call.specs.Attributes.{Object}
use Rattle.sf_call.specs.Tree.{Tree, directory_metadata, label_at, links}
use Rattle.sf_call.specs.Changes.{changed}
use Rattle.sf_call.specs.Changes.Change.{NewName}
use Rattle.sf_call.proofs.Laws.{ordered_changed, links_more, is_link_itself, is_link_other}
use Rattle.sf_inode.specs.declared.node.Node.{Node}
use Rattle.sf_inode.specs.declared.node.Content.{Content}
use Rattle.sf_inode.specs.declared.node.Content.TheVariants as content
use Rattle.sf_inode.specs.Nodes.{child_in, object_in, is_directory_content, is_file_content, more_content, with_content, with_name}
use Rattle.sf_inode.specs.Stores.{StoreState, node_in, child_of, shown_node, shown_of, entry_put, linked}
use Rattle.sf_keeps.specs.Steps.{EntryMap, walk, changed_step}
use Rattle.sf_keeps.specs.Shows.{View, ShowsBy, Shows, label_by, is_directory_by, with_step}
use Rattle.sf_keeps.specs.Keeps.{view_of, Keeps}
use Rattle.sf_keeps.proofs.Walks.{Avoids}
use Rattle.sf_keeps.proofs.Sound.{IsBare, sound_more, is_directory_shown}
use Rattle.sf_keeps.proofs.SetsAt.{set_is, set_seen, path_keys, inserted_at}
use Rattle.sf_keeps.proofs.Shown.{names_led}
use Rattle.sf_keeps.proofs.Less.{is_named, is_opened}
use Rattle.sf_keeps.proofs.Whole.{or_grows, named_more, free_name}
use Rattle.sf_keeps.proofs.StoreLaws.{view_unseen, edited_node, shows_directory}
use Rattle.sf_keeps.proofs.StoreMoves.{view_put}
use Rattle.sf_keeps.proofs.InOrder.{InOrder, node_in_order, in_order_put, more_in_order}
use Rattle.sf_keeps.proofs.Openings.{counted_handle, one_node}
use Rattle.sf_keeps.proofs.Counted.{Mark, mark_of, marks_of, marked, keeps_marked, marked_left}
use Rattle.sf_keeps.proofs.CountedSteps.{bare_more}
use Rattle.sf_keeps.proofs.Forgotten.{directory_at, mark_node, marks_entries, in_order_entries}
use Rattle.sf_keeps.proofs.KeepsNames.{away}

-- ---- the observable part
module _ (view : View) (t : Tree) (h : Shows view t) (p : Path) (d : ℕ) (n : Name) (c label : ℕ) (o : Object) (at : walk view.step view.root p ≡ Some d) (is : is_directory_by view.shown d ≡ true)
    (free : view.step d n ≡ None) (here : view.shown c ≡ Some (label, o)) (file : is_directory_by view.shown c ≡ false) (bare : IsBare view.step c) where
  abbrev path : Path
  path = p ++ n ∷ []

  other : d ≡ c → ⊥
  other e = let yes = ap (is_directory_by view.shown) (sym e) ∙ is in cc

  -- resolution fails after an inode without entries
  clear : (x : ℕ) → Some c ≡ Some x → Avoids view.step x d
  clear x e [] w = let a : c ≡ x = cc in let b : x ≡ d = cc in other (sym (a ∙ b))
  clear x e (m ∷ q) w = let a : c ≡ x = cc in let b = ap (λ (y : ℕ). option_and_then (λ z. walk view.step z q) (view.step y m)) (sym a) ∙ ap (option_and_then (λ z. walk view.step z q)) (bare m) in cc

  by_linked : ShowsBy (with_step view d n (Some c)) (changed t (NewName path label))
  by_linked = record {
    names = names_led view t h.by p d n (Some c) (label_by view.shown) (changed t (NewName path label)).names (record {
      at = at;
      is = is;
      clear = clear;
      ended = λ k. ap (option_and_then (λ x. view.step x k)) free;
      ends = bare;
      alike = λ q y e. refl;
      value = Some label;
      here = ap (option_map (λ (v : ℕ × Object). v.0)) here;
      set = inserted_at path_keys t.names path label;
    });
    objects = h.by.objects;
    found = h.by.found;
    handles = h.by.handles;
    sound = sound_more view.step d n view.shown view.root h.by.sound c (λ yes. absurd (cc)) (λ e. let yes = ap (is_directory_by view.shown) (sym e) ∙ h.by.sound.rooted in cc) is (λ e. cc);
  }

  shows_linked : label_at t.names path ≡ None → Shows (with_step view d n (Some c)) (changed t (NewName path label))
  shows_linked none = record {
    by = by_linked;
    ordered = ordered_changed t (NewName path label) h.ordered;
    used = λ l u e. or_grows (is_named t l) (is_opened t l) (is_named (changed t (NewName path label)) l) (λ any. named_more t path label l o h.ordered.names none any) (h.used l u e);
  }

-- ---- the store
module _ (s : StoreState) (t : Tree) (k : Keeps s t) (p : Path) (d : ℕ) (n : Name) (c : ℕ) (node : Node) (at : walk (child_of s.nodes) s.root p ≡ Some d)
    (is_dir : option_map_or (λ (it : Node). is_directory_content it.content) (node_in s.nodes d) false ≡ true) (free : child_of s.nodes d n ≡ None) (here : node_in s.nodes c ≡ Some node)
    (file : is_file_content node.content ≡ true) (fewer : node.names < 1024) where
  to : (above : Node) × (es : List (Name × ℕ)) × (node_in s.nodes d ≡ Some above) × (above.content ≡ content.Directory es)
  to = directory_at s.nodes d is_dir

  abbrev mid : StoreState
  mid = entry_put s d n c

  abbrev step : EntryMap
  step = changed_step (child_of s.nodes) d n (Some c)

  is : is_directory_by (shown_of s.nodes) d ≡ true
  is = shows_directory s.nodes d to.0 to.1 to.2 to.3

  no_directory : (m : Metadata) (z : Content) → is_file_content z ≡ true → is_some (directory_metadata (object_in m z)) ≡ false
  no_directory m (content.Directory es) e = cc
  no_directory m (content.File contents) e = refl

  no_entries : (z : Content) (m : Name) → is_file_content z ≡ true → child_in z m ≡ None
  no_entries (content.Directory es) m e = cc
  no_entries (content.File contents) m e = refl

  is_file : is_directory_by (shown_of s.nodes) c ≡ false
  is_file = ap (λ (v : Option Node). is_directory_shown (option_map shown_node v)) here ∙ no_directory node.metadata node.content file

  bare : IsBare (child_of s.nodes) c
  bare m = ap (option_and_then (λ (z : Node). child_in z.content m)) here ∙ no_entries node.content m file

  apart : d ≢ c
  apart e = let yes = ap (is_directory_by (shown_of s.nodes)) (sym e) ∙ is in let no = is_file in cc

  still : node_in mid.nodes c ≡ Some node
  still = (edited_node (with_content (more_content n c)) s d to.0 to.2).beside c apart ∙ here

  view_linked : view_of (linked s d n c) ≡ with_step (view_of s) d n (Some c)
  view_linked = view_unseen with_name mid c node still (λ m. refl) refl ∙ view_put s d n c to.0 to.1 to.2 to.3

  abbrev after : Tree
  after = changed t (NewName (p ++ n ∷ []) node.label)

  none : label_at t.names (p ++ n ∷ []) ≡ None
  none = free_name (view_of s) t k.shows p d n at free

  marks : (i : ℕ) → marks_of (linked s d n c).nodes i ≡ cond (nat_eq c i) (Some (node.label, min (node.names + 1) (2 ^ 64 - 1), node.opens)) (marks_of s.nodes i)
  marks i =
      set_is (set_seen (option_map mark_of) (edited_node with_name mid c node still)) i
      ∙ ap (cond (nat_eq c i) (Some (node.label, min (node.names + 1) (2 ^ 64 - 1), node.opens))) (marks_entries (more_content n c) s d to.0 to.2 i)

  ordered_mid : InOrder mid.nodes
  ordered_mid = in_order_entries (more_content n c) s d to.0 to.2 k.entries (more_in_order n c to.0.content (node_in_order s.nodes d to.0 k.entries to.2))

  own : min (node.names + 1) (2 ^ 64 - 1) ≡ links after.names node.label
  own =
      min-eq_left (omega (arith, fewer))
      ∙ omega (arith, k.linked c node here, links_more t.names node.label (p ++ n ∷ []) node.label none, is_link_itself node.label)

  pub keeps_linked : Keeps (linked s d n c) after
  keeps_linked =
      keeps_marked s (linked s d n c) t after k (record {
        step = step;
        marks = λ i. cond (nat_eq c i) (Some (node.label, min (node.names + 1) (2 ^ 64 - 1), node.opens)) (marks_of s.nodes i);
        shows = subst (λ (v : View). Shows v after) (sym view_linked)
            (shows_linked (view_of s) t k.shows p d n c node.label (object_in node.metadata node.content) at is free (ap (option_map shown_node) here) is_file bare none);
        steps = λ x m. ap (λ (v : View). v.step x m) view_linked;
        says = marks;
        sessions = refl;
        handles = refl;
        marked = marked_left step (links after.names) (marked s t k) c (ap (option_map mark_of) here)
            (min (node.names + 1) (2 ^ 64 - 1)) false (bare_more (child_of s.nodes) d n c c apart bare) (λ id l o e. bare_more (child_of s.nodes) d n c id (away s t k (record { path = p; id = d; node = to.0; leads = at; is_node = to.2 }) id l o e))
            (λ id l b o ne e. omega (
              arith,
              links_more t.names l (p ++ n ∷ []) node.label none,
              is_link_other l node.label (λ same.
                  let w = mark_node s.nodes id (l, b, o) e in ne (one_node s t k c id node w.0 here w.1 (same ∙ sym (ap (λ (z : Mark). z.0) w.2)))),
            ))
            own (λ _. refl) (counted_handle s t k);
        ordered = in_order_put (edited_node with_name mid c node still) ordered_mid (node_in_order mid.nodes c node ordered_mid still);
      })
