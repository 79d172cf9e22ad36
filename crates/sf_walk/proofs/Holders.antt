-- What the store's methods preserve of holders and of the count of lookups.
use Rattle.std.specs.Prelude.{◌≡◌, ℕ, zero, suc, ◌+◌, ◌-◌, ◌^◌, min, nat_eq, true, false, cond, List, Option, Some, None, slice_set, if◌then◌else◌, refl}
use Rattle.std.specs.Option.{option_map_or}
use Rattle.std.proofs.Common.{sym, ap, subst, ◌∙◌, eqb-true, eq-eqb}
use Rattle.sf_path.specs.Names.{Name}
use Rattle.sf_call.specs.declared.metadata.FileType.{FileType}
use Rattle.sf_call.specs.declared.metadata.FileType.TheVariants as file_type
use Rattle.sf_inode.specs.declared.node.Node.{Node}
use Rattle.sf_inode.specs.declared.node.Content.{Content}
use Rattle.sf_inode.specs.declared.node.Content.TheVariants as content
use Rattle.sf_inode.specs.declared.handle.OpenHandle.{OpenHandle}
use Rattle.sf_inode.specs.declared.handle.Marks.{Marks}
use Rattle.sf_inode.specs.Nodes.{blocks_left_in, new_content, less_content, more_content, with_content, with_bytes, with_opened, without_name, is_unused}
use Rattle.sf_inode.specs.Stores.{NewEntry, StoreState, node_in, child_of, edited_by, edited, blocks_left_at, bytes_set, entry_taken, entry_put, moved_entry, relinked_from, relinked, with_nodes, released_if, released, unlinked_from, unlinked, handles_of, handles_put, handle_put, new_handle, after_open_node, after_open, handle_dropped, closed_by, closed, open_handle_at, Inserted, entry_key}
use Rattle.sf_keeps.proofs.Laws.{node_in-set}
use Rattle.sf_walk.specs.Served.{IsAsBefore, KeepsRest, HoldersStay, IsAlike, LookedUp, after_look_ups}
use Rattle.sf_walk.proofs.LookUps.{looked_nodes, looked_root}

-- a change of an inode that preserves its holder, its label and its number of blocks left
abbrev pub LeavesAt : (Node → Node) → Node → Type 0
LeavesAt f node = ((f node).holder ≡ node.holder) × ((f node).label ≡ node.label) × (blocks_left_in (f node).content ≡ blocks_left_in node.content)

abbrev pub LeavesHolder : (Node → Node) → Type 0
LeavesHolder f = (node : Node) → LeavesAt f node

pub apart : (a b : ℕ) → nat_eq a b ≡ false → a ≡ b → ⊥
apart a b e h = let t = eq-eqb a b h in cc

-- ---- holders
as_it_was : (N : Option ℕ → ℕ → Type 0) (o : Option Node) (node : Node) → o ≡ Some node → IsAsBefore N o node
as_it_was N None node e = cc
as_it_was N (Some was) node e = let w : node ≡ was = cc in (ap (λ (x : Node). x.holder) w, ap (λ (x : Node). x.label) w, ap (λ (x : Node). blocks_left_in x.content) w)

pub marked_alike : (N : Option ℕ → ℕ → Type 0) (o : Option Node) (n m : Node) → m.holder ≡ n.holder → m.label ≡ n.label → blocks_left_in m.content ≡ blocks_left_in n.content → IsAsBefore N o n → IsAsBefore N o m
marked_alike N None n m eh el ec h = (subst (λ (l : ℕ). N m.holder l) (sym el) (subst (λ (k : Option ℕ). N k n.label) (sym eh) h.0), ec ∙ h.1)
marked_alike N (Some was) n m eh el ec h = (eh ∙ h.0, el ∙ h.1, ec ∙ h.2)

-- no inode changed
pub stays_same : {N : Option ℕ → ℕ → Type 0} (old new : StoreState) → new.nodes ≡ old.nodes → KeepsRest N old new
stays_same {N} old new e = record { node = λ id node at. as_it_was N (node_in old.nodes id) node (sym (ap (λ (ns : List (Option Node)). node_in ns id) e) ∙ at) }

pub stays_looked : {N : Option ℕ → ℕ → Type 0} (old new : StoreState) (most : ℕ) → LookedUp old new most → KeepsRest N old new
stays_looked old new most h = stays_same old new (looked_nodes old new most h)

-- if no inode is new, none is new of any kind
pub stays_none_new : {N : Option ℕ → ℕ → Type 0} (old new : StoreState) → HoldersStay old new → KeepsRest N old new
stays_none_new {N} old new h = record { node = λ id node at. none_new N (node_in old.nodes id) node (h.node id node at) }
  where
    none_new : (N : Option ℕ → ℕ → Type 0) (o : Option Node) (node : Node) → IsAsBefore (λ holder label. ⊥) o node → IsAsBefore N o node
    none_new N None node e = absurd e.0
    none_new N (Some was) node e = e

-- one inode changed, except for its holder and its label
pub stays_edited_at : {N : Option ℕ → ℕ → Type 0} (f : Node → Node) (old s : StoreState) (id : ℕ) → ((n : Node) → node_in s.nodes id ≡ Some n → LeavesAt f n) → KeepsRest N old s → KeepsRest N old (edited f s id)
stays_edited_at {N} f old s id leaves h =
    elim (node_in s.nodes id) as (λ o. node_in s.nodes id ≡ o → KeepsRest N old (with_nodes s (edited_by f s.nodes id o))) [
      | None ↦ λ e. record { node = h.node }
      | Some n ↦ λ e. record {
        node = λ i m at.
            elim (nat_eq id i) as (λ b. nat_eq id i ≡ b → cond b (Some (f n)) (node_in s.nodes i) ≡ Some m → IsAsBefore N (node_in old.nodes i) m) [
              | true ↦ λ q w. let same : m ≡ f n = cc in
                  let here : IsAsBefore N (node_in old.nodes i) n = subst (λ (k : ℕ). IsAsBefore N (node_in old.nodes k) n) (eqb-true id i q) (h.node id n e) in
                  marked_alike N (node_in old.nodes i) n m (ap (λ (x : Node). x.holder) same ∙ (leaves n e).0) (ap (λ (x : Node). x.label) same ∙ (leaves n e).1) (ap (λ (x : Node). blocks_left_in x.content) same ∙ (leaves n e).2) here
              | false ↦ λ q w. h.node i m w
            ] refl (sym (node_in-set s.nodes id n (Some (f n)) e i) ∙ at);
      }
    ] refl

pub stays_edited : {N : Option ℕ → ℕ → Type 0} (f : Node → Node) → LeavesHolder f → (old s : StoreState) (id : ℕ) → KeepsRest N old s → KeepsRest N old (edited f s id)
stays_edited f leaves old s id h = stays_edited_at f old s id (λ n e. leaves n) h

-- the blocks left of contents after a change of entries, and of bytes
less_left : (n : Name) (c : Content) → blocks_left_in (less_content n c) ≡ blocks_left_in c
less_left n (content.Directory es) = refl
less_left n (content.File contents) = refl

pub more_left : (n : Name) (id : ℕ) (c : Content) → blocks_left_in (more_content n id c) ≡ blocks_left_in c
more_left n id (content.Directory es) = refl
more_left n id (content.File contents) = refl

none_left : (stored : List ℕ) (c : Content) → blocks_left_in (with_bytes stored c) ≡ 0
none_left stored (content.Directory es) = refl
none_left stored (content.File contents) = refl

pub new_left : (kind : FileType) → blocks_left_in (new_content kind) ≡ 0
new_left file_type.Directory = refl
new_left file_type.File = refl

-- a file has other bytes, and had no blocks left
pub stays_stored : {N : Option ℕ → ℕ → Type 0} (old s : StoreState) (id : ℕ) (stored : List ℕ) → blocks_left_at s.nodes id ≡ 0 → KeepsRest N old s → KeepsRest N old (bytes_set s id stored)
stays_stored {N} old s id stored none h =
    stays_edited_at (with_content (with_bytes stored)) old s id
    (λ n e. (refl, refl, none_left stored n.content ∙ sym (sym (ap (λ (o : Option Node). option_map_or (λ (node : Node). blocks_left_in node.content) o 0) e) ∙ none))) h

-- an inode was deleted, or not
pub stays_released : {N : Option ℕ → ℕ → Type 0} (old s : StoreState) (id : ℕ) → KeepsRest N old s → KeepsRest N old (released s id)
stays_released {N} old s id h =
    elim (node_in s.nodes id) as (λ o. node_in s.nodes id ≡ o → KeepsRest N old (released_if s id o)) [
      | None ↦ λ e. h
      | Some n ↦ λ e. elim (is_unused n) as (λ b. KeepsRest N old (if b then with_nodes s (slice_set s.nodes id None) else s)) [
        | true ↦ record {
          node = λ i m at. elim (nat_eq id i) as (λ b. cond b None (node_in s.nodes i) ≡ Some m → IsAsBefore N (node_in old.nodes i) m) [
            | true ↦ λ w. cc
            | false ↦ λ w. h.node i m w
          ] (sym (node_in-set s.nodes id n None e i) ∙ at);
        }
        | false ↦ h
      ]
    ] refl

pub stays_unlinked : {N : Option ℕ → ℕ → Type 0} (old s : StoreState) (dir : ℕ) (n : Name) → KeepsRest N old s → KeepsRest N old (unlinked s dir n)
stays_unlinked {N} old s dir n h =
    elim (child_of s.nodes dir n) as (λ o. KeepsRest N old (unlinked_from s dir n o)) [
      | None ↦ h
      | Some id ↦ stays_released old (edited without_name (entry_taken s dir n) id) id
          (stays_edited without_name (λ node. (refl, refl, refl)) old (entry_taken s dir n) id (stays_edited (with_content (less_content n)) (λ node. (refl, refl, less_left n node.content)) old s dir h))
    ]

pub stays_relinked : {N : Option ℕ → ℕ → Type 0} (old s : StoreState) (dir : ℕ) (n : Name) (to : ℕ) (m : Name) → KeepsRest N old s → KeepsRest N old (relinked s dir n to m)
stays_relinked {N} old s dir n to m h =
    elim (child_of s.nodes dir n) as (λ o. KeepsRest N old (relinked_from s (entry_key dir n) (entry_key to m) o (child_of s.nodes to m))) [
      | None ↦ h
      | Some id ↦
          let moved : KeepsRest N old (moved_entry s (entry_key dir n) (entry_key to m) id) =
          stays_edited (with_content (less_content n)) (λ node. (refl, refl, less_left n node.content)) old (entry_put s to m id) dir (stays_edited (with_content (more_content m id)) (λ node. (refl, refl, more_left m id node.content)) old s to h) in
          elim (child_of s.nodes to m) as (λ r. KeepsRest N old (relinked_from s (entry_key dir n) (entry_key to m) (Some id) r)) [
            | None ↦ moved
            | Some target ↦ stays_released old (edited without_name (moved_entry s (entry_key dir n) (entry_key to m) id) target) target (stays_edited without_name (λ node. (refl, refl, refl)) old (moved_entry s (entry_key dir n) (entry_key to m) id) target moved)
          ]
    ]

pub stays_inserted : {N : Option ℕ → ℕ → Type 0} (old s new : StoreState) (e : NewEntry) (node : Node) → s.nodes ≡ old.nodes → Inserted s new e node → N node.holder node.label → blocks_left_in node.content ≡ 0 → KeepsRest N old new
stays_inserted {N} old s new e node same did is_new none_of = record {
  node = λ i m at.
      elim (nat_eq e.id i) as (λ b. nat_eq e.id i ≡ b → IsAsBefore N (node_in old.nodes i) m) [
        | true ↦ λ q.
            let is : m ≡ node = let a = did.at in let b = ap (node_in new.nodes) (eqb-true e.id i q) in cc in
            let none : node_in old.nodes i ≡ None = ap (node_in old.nodes) (sym (eqb-true e.id i q)) ∙ ap (λ (ns : List (Option Node)). node_in ns e.id) (sym same) ∙ did.fresh in
            subst (λ (o : Option Node). IsAsBefore N o m) (sym none) (marked_alike N None node m (ap (λ (x : Node). x.holder) is) (ap (λ (x : Node). x.label) is) (ap (λ (x : Node). blocks_left_in x.content) is) (is_new, none_of))
        | false ↦ λ q. let before : KeepsRest N old (edited (with_content (more_content e.name e.id)) s e.dir) = stays_edited (with_content (more_content e.name e.id)) (λ x. (refl, refl, more_left e.name e.id x.content)) old s e.dir (stays_same old s same) in
            before.node i m (sym (did.others i (λ same'. apart e.id i q (sym same'))) ∙ at)
      ] refl;
}

pub put_nodes : (s : StoreState) (session number : ℕ) (h : OpenHandle) → (handle_put s session number h).nodes ≡ s.nodes
put_nodes s session number h = elim (handles_of s session) as (λ o. (handles_put s session number h o).nodes ≡ s.nodes) [ None ↦ refl | Some hs ↦ refl ]

-- with the same inodes
pub stays_alike : {N : Option ℕ → ℕ → Type 0} (old mid new : StoreState) → new.nodes ≡ mid.nodes → KeepsRest N old mid → KeepsRest N old new
stays_alike old mid new e h = record { node = λ i m at. h.node i m (sym (ap (λ (ns : List (Option Node)). node_in ns i) e) ∙ at) }

pub stays_opened : {N : Option ℕ → ℕ → Type 0} (old s : StoreState) (session number id : ℕ) (marks : Marks) → KeepsRest N old s → KeepsRest N old (after_open s session number id marks)
stays_opened {N} old s session number id marks h =
    elim (node_in s.nodes id) as (λ o. KeepsRest N old (option_map_or (λ (node : Node). after_open_node s session number (new_handle id marks node)) o s)) [
      | None ↦ h
      | Some n ↦
          let handle : OpenHandle = record { node = id; label = n.label; marks = marks; listed = None } in
          stays_edited (λ it. with_opened (min (it.opens + 1) (2 ^ 64 - 1)) it) (λ node. (refl, refl, refl)) old (handle_put s session number handle) id
          (stays_alike old s (handle_put s session number handle) (put_nodes s session number handle) h)
    ]

dropped_nodes : (s : StoreState) (session number : ℕ) → (handle_dropped s session number (handles_of s session)).nodes ≡ s.nodes
dropped_nodes s session number = elim (handles_of s session) as (λ o. (handle_dropped s session number o).nodes ≡ s.nodes) [ None ↦ refl | Some hs ↦ refl ]

pub stays_closed : {N : Option ℕ → ℕ → Type 0} (old s : StoreState) (session number : ℕ) → KeepsRest N old s → KeepsRest N old (closed s session number)
stays_closed {N} old s session number h =
    let mid = handle_dropped s session number (handles_of s session) in
    let kept : KeepsRest N old mid = stays_alike old s mid (dropped_nodes s session number) h in
    elim (open_handle_at s session number) as (λ o. KeepsRest N old (closed_by mid o)) [
      | None ↦ kept
      | Some x ↦ stays_released old (edited (λ node. with_opened (node.opens - 1) node) mid x.node) x.node (stays_edited (λ node. with_opened (node.opens - 1) node) (λ node. (refl, refl, refl)) old mid x.node kept)
    ]

-- ---- only lookups
after_sessions : (k : ℕ) (s : StoreState) → (after_look_ups k s).sessions ≡ s.sessions
after_sessions zero s = refl
after_sessions (suc k) s = after_sessions k s

pub alike_looked : (old new : StoreState) (most : ℕ) → LookedUp old new most → IsAlike old new
alike_looked old new most h = record {
  nodes = λ id. ap (λ (ns : List (Option Node)). node_in ns id) (looked_nodes old new most h);
  root = looked_root old new most h;
  sessions = ap (λ (s : StoreState). s.sessions) h.state ∙ after_sessions h.count old;
}
