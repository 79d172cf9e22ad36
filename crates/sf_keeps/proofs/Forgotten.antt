-- What a store represents after an inode has lost an entry.
use Rattle.std.specs.Prelude.{◌≡◌, ◌≢◌, ℕ, ◌-◌, nat_eq, Bool, true, false, cond, ◌&&◌, List, [], ◌∷◌, option_map, option_and_then, slice_set, Option, Some, None, refl}
use Rattle.std.specs.Option.{option_map_or}
use Rattle.std.proofs.Common.{sym, ap, subst, ◌∙◌, inl, inr}
use Rattle.std.proofs.lemmas.Bool.{cases_Bool, and_right}
use Rattle.std.specs.Map.{lookup}
use Rattle.sf_path.specs.Names.{Name}
use Rattle.sf_path.specs.Order.{same_name}
use Rattle.sf_call.specs.Tree.{Tree, is_nil, links}
use Rattle.sf_inode.specs.declared.node.Node.{Node}
use Rattle.sf_inode.specs.declared.node.Content.{Content}
use Rattle.sf_inode.specs.declared.node.Content.TheVariants as content
use Rattle.sf_inode.specs.Nodes.{child_in, is_directory_content, is_bare_content, with_content, without_name, is_unused}
use Rattle.sf_keeps.specs.Steps.{EntryMap}
use Rattle.sf_keeps.specs.Shows.{View, Shows}
use Rattle.sf_inode.specs.Stores.{StoreState, node_in, child_of, with_nodes, edited, released_if, forgotten}
use Rattle.sf_keeps.specs.Keeps.{view_of, Keeps}
use Rattle.sf_keeps.proofs.Through.{found_through, found_as}
use Rattle.sf_keeps.proofs.SetsAt.{SetsAt, set_is, set_twice, set_seen}
use Rattle.sf_keeps.proofs.Sound.{IsBare}
use Rattle.sf_keeps.proofs.StoreLaws.{view_stays, view_goes, edited_node, set_node, seen_same}
use Rattle.sf_keeps.proofs.Openings.{counted_handle, one_node}
use Rattle.sf_keeps.proofs.Counted.{Mark, mark_of, marks_of, marked, keeps_marked, marked_left}
use Rattle.sf_keeps.proofs.InOrder.{InOrder, IsInOrder, node_in_order, in_order_put}

-- ---- the inode of a slot
pub directory_at : (nodes : List (Option Node)) (d : ℕ) → option_map_or (λ (it : Node). is_directory_content it.content) (node_in nodes d) false ≡ true
    → (node : Node) × (es : List (Name × ℕ)) × (node_in nodes d ≡ Some node) × (node.content ≡ content.Directory es)
directory_at nodes d is =
    elim (node_in nodes d) as (λ o. node_in nodes d ≡ o → option_map_or (λ (it : Node). is_directory_content it.content) o false ≡ true → (node : Node) × (es : List (Name × ℕ)) × (node_in nodes d ≡ Some node) × (node.content ≡ content.Directory es)) [
      | None ↦ λ e f. absurd (cc)
      | Some node ↦ λ e f. elim node.content as (λ c. node.content ≡ c → is_directory_content c ≡ true → (node : Node) × (es : List (Name × ℕ)) × (node_in nodes d ≡ Some node) × (node.content ≡ content.Directory es)) [
        | content.Directory es ↦ λ g _. (node, es, e, g)
        | content.File contents ↦ λ g h. absurd (cc)
      ] refl f
    ] refl is

-- an inode with an entry exists
pub entry_above : (nodes : List (Option Node)) (d c : ℕ) (n : Name) → child_of nodes d n ≡ Some c → (node : Node) × (node_in nodes d ≡ Some node)
entry_above nodes d c n there = let w = found_through (node_in nodes d) there in (w.0, w.1)

bare_nil : (es : List (Name × ℕ)) (m : Name) → is_nil es ≡ true → lookup (same_name m) es ≡ None
bare_nil [] m e = refl
bare_nil (x ∷ es) m e = absurd (cc)

bare_content : (c : Content) (m : Name) → is_bare_content c ≡ true → child_in c m ≡ None
bare_content (content.Directory es) m e = bare_nil es m e
bare_content (content.File contents) m e = refl

-- a file or an empty directory has no entries
pub bare_at : (nodes : List (Option Node)) (c : ℕ) → option_map_or (λ (it : Node). is_bare_content it.content) (node_in nodes c) false ≡ true → IsBare (child_of nodes) c
bare_at nodes c is m =
    elim (node_in nodes c) as (λ o. option_map_or (λ (it : Node). is_bare_content it.content) o false ≡ true → option_and_then (λ (z : Node). child_in z.content m) o ≡ None) [
      | None ↦ λ e. refl
      | Some node ↦ λ e. bare_content node.content m e
    ] is

-- the inode of a count
pub mark_node : (nodes : List (Option Node)) (id : ℕ) (v : Mark) → marks_of nodes id ≡ Some v → (node : Node) × (node_in nodes id ≡ Some node) × (mark_of node ≡ v)
mark_node nodes id v at = found_as (node_in nodes id) at

-- ---- an inode without entries that refer to it
kept_released : {A : Type 0} (f : StoreState → A) (s : StoreState) (id : ℕ) (o : Option Node) → ((nodes : List (Option Node)) → f (with_nodes s nodes) ≡ f s) → f (released_if s id o) ≡ f s
kept_released f s id None same = refl
kept_released f s id (Some node) same =
    elim (is_unused node) as (λ b. f (cond b (with_nodes s (slice_set s.nodes id None)) s) ≡ f s) [ true ↦ same (slice_set s.nodes id None) | false ↦ refl ]

module _ (s : StoreState) (c : ℕ) (node : Node) (here : node_in s.nodes c ≡ Some node) (bare : IsBare (child_of s.nodes) c) where
  abbrev pub mark_left : Option Mark
  mark_left = cond (is_unused (without_name node)) None (Some (node.label, node.names - 1, node.opens))

  abbrev unnamed : StoreState
  unnamed = edited without_name s c

  pub steps_forgotten : (x : ℕ) (m : Name) → child_of (forgotten s c).nodes x m ≡ child_of s.nodes x m
  steps_forgotten x m = elim (cases_Bool (is_unused (without_name node))) [
    | inl e ↦ ap (λ (v : View). v.step x m) (view_goes without_name s c node here (λ m. refl) refl bare e)
    | inr e ↦ ap (λ (v : View). v.step x m) (view_stays without_name s c node here (λ m. refl) refl e)
  ]

  less : SetsAt (node_in s.nodes) (node_in unnamed.nodes) c (Some (without_name node))
  less = edited_node without_name s c node here

  marks_released : (b : Bool) → SetsAt (marks_of s.nodes) (marks_of (cond b (with_nodes unnamed (slice_set unnamed.nodes c None)) unnamed).nodes) c (cond b None (Some (node.label, node.names - 1, node.opens)))
  marks_released true = set_seen (option_map mark_of) (set_twice less (set_node unnamed.nodes c (without_name node) None less.at))
  marks_released false = set_seen (option_map mark_of) less

  pub marks_forgotten : SetsAt (marks_of s.nodes) (marks_of (forgotten s c).nodes) c mark_left
  marks_forgotten = subst (λ (o : Option Node). SetsAt (marks_of s.nodes) (marks_of (released_if unnamed c o).nodes) c mark_left) (sym less.at) (marks_released (is_unused (without_name node)))

  -- the entries of the other inodes stay
  pub in_order_forgotten : InOrder s.nodes → InOrder (forgotten s c).nodes
  in_order_forgotten h =
      let ordered = in_order_put less h (node_in_order s.nodes c node h here) in
      subst (λ (o : Option Node). InOrder (released_if unnamed c o).nodes) (sym less.at)
      (elim (is_unused (without_name node)) as (λ b. InOrder (cond b (with_nodes unnamed (slice_set unnamed.nodes c None)) unnamed).nodes) [
        | true ↦ in_order_put (set_node unnamed.nodes c (without_name node) None less.at) ordered tt
        | false ↦ ordered
      ])

-- an open inode is not unused
opened_stays : (names opens : ℕ) → nat_eq opens 0 ≡ false → nat_eq names 0 && nat_eq opens 0 ≡ false
opened_stays names opens e = and_right (nat_eq names 0) (nat_eq opens 0) e

-- An inode loses a link: the store in which it is without its entry, the entries then, and the
-- facts about the inode and the tree.
pub record LosesName (s : StoreState) (t after : Tree) : Type 0 where
  pub mid : StoreState
  pub step : EntryMap
  pub id : ℕ
  pub node : Node
  pub here : node_in mid.nodes id ≡ Some node
  pub ordered : InOrder mid.nodes
  pub steps : (x : ℕ) (m : Name) → child_of mid.nodes x m ≡ step x m
  pub marks : (i : ℕ) → marks_of mid.nodes i ≡ marks_of s.nodes i
  pub sessions : mid.sessions ≡ s.sessions
  pub gone : IsBare step id
  pub bares : (i l o : ℕ) → marks_of s.nodes i ≡ Some (l, 0, o) → IsBare (child_of s.nodes) i → IsBare step i
  pub others : (label : ℕ) → label ≢ node.label → links after.names label ≡ links t.names label
  pub own : node.names - 1 ≡ links after.names node.label
  pub handles : after.handles ≡ t.handles
  pub shows : Shows (view_of (forgotten mid id)) after

pub keeps_forgotten : (s : StoreState) (t after : Tree) → Keeps s t → (f : LosesName s t after) → Keeps (forgotten f.mid f.id) after
keeps_forgotten s t after k f =
    let mid = f.mid in
    let step = f.step in
    let c = f.id in
    let node = f.node in
    let here = f.here in
    let bare : IsBare (child_of mid.nodes) c = λ m. f.steps c m ∙ f.gone m in
    let unnamed = edited without_name mid c in
    let at : marks_of s.nodes c ≡ Some (mark_of node) = sym (f.marks c) ∙ ap (option_map mark_of) here in
    let was = mark_node s.nodes c (mark_of node) at in
    keeps_marked s (forgotten mid c) t after k (record {
      step = step;
      marks = λ i. cond (nat_eq c i) (mark_left mid c node here bare) (marks_of s.nodes i);
      shows = f.shows;
      steps = λ x m. steps_forgotten mid c node here bare x m ∙ f.steps x m;
      says = λ i. set_is (marks_forgotten mid c node here bare) i ∙ ap (cond (nat_eq c i) (mark_left mid c node here bare)) (f.marks i);
      sessions = kept_released (λ (x : StoreState). x.sessions) unnamed c (node_in unnamed.nodes c) (λ _. refl) ∙ f.sessions;
      handles = f.handles;
      marked = marked_left step (links after.names) (marked s t k) c at
          (node.names - 1) (is_unused (without_name node)) f.gone f.bares
          (λ id l b o other e. f.others l (λ same.
          let w = mark_node s.nodes id (l, b, o) e in
          other (one_node s t k c id was.0 w.0 was.1 w.1 (ap (λ (z : Mark). z.0) was.2 ∙ sym same ∙ sym (ap (λ (z : Mark). z.0) w.2)))))
          f.own (opened_stays (node.names - 1) node.opens) (counted_handle s t k);
      ordered = in_order_forgotten mid c node here bare f.ordered;
    })

-- an entry changes no inode's counts
pub marks_entries : (f : Content → Content) (s : StoreState) (d : ℕ) (above : Node) → node_in s.nodes d ≡ Some above → (i : ℕ) → marks_of (edited (with_content f) s d).nodes i ≡ marks_of s.nodes i
marks_entries f s d above here = seen_same (edited_node (with_content f) s d above here) here mark_of refl

-- entries in order stay so after a change of one directory
pub in_order_entries : (f : Content → Content) (s : StoreState) (d : ℕ) (above : Node) → node_in s.nodes d ≡ Some above → InOrder s.nodes → IsInOrder (f above.content) → InOrder (edited (with_content f) s d).nodes
in_order_entries f s d above here h own = in_order_put (edited_node (with_content f) s d above here) h own
