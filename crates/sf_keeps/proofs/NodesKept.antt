-- The inodes that stay when handles are closed.
use Rattle.std.specs.Prelude.{◌≡◌, ℕ, ◌-◌, true, false, if◌then◌else◌, List, [], ◌∷◌, slice_set, option_map, option_and_then, Option, Some, None, refl}
use Rattle.std.specs.Option.{option_map_or}
use Rattle.std.proofs.Common.{sym, ap, subst, ◌∙◌, inl, inr}
use Rattle.std.specs.Ordering.{nat_cmp}
use Rattle.std.specs.Map.{remove_entry}
use Rattle.std.specs.BTreeMap.{is_at}
use Rattle.sf_path.specs.Names.{Path}
use Rattle.sf_call.specs.Tree.{Tree, label_at}
use Rattle.sf_inode.specs.declared.node.Node.{Node}
use Rattle.sf_inode.specs.declared.handle.OpenHandle.{OpenHandle}
use Rattle.sf_inode.specs.Nodes.{is_directory_content, with_opened, is_unused}
use Rattle.sf_inode.specs.Stores.{StoreState, node_in, child_of, holder_of, is_directory_at, with_nodes, with_sessions, edited_by, edited, released_if, released, after_close, each_let_go, closed_each, closed_all, handles_of}
use Rattle.sf_keeps.specs.Steps.{walk}
use Rattle.sf_keeps.specs.Keeps.{Keeps, WasThere, KeepsNodes}
use Rattle.sf_keeps.proofs.SetsAt.{some_found, gone_found}
use Rattle.sf_keeps.proofs.StoreLaws.{set_node}
use Rattle.sf_keeps.proofs.Openings.{one_node}
use Rattle.sf_keeps.proofs.Finding.{reached_node, label_found}

was_there : (o : Option Node) (node : Node) → o ≡ Some node → WasThere o node
was_there None node e = cc
was_there (Some was) node e = let w : node ≡ was = cc in (ap (λ (x : Node). x.holder) w, ap (λ (x : Node). x.label) w, ap (λ (x : Node). x.content) w)

kept_alike : (o : Option Node) (n m : Node) → m.holder ≡ n.holder → m.label ≡ n.label → m.content ≡ n.content → WasThere o n → WasThere o m
kept_alike None n m a b c h = absurd h
kept_alike (Some was) n m a b c h = (a ∙ h.0, b ∙ h.1, c ∙ h.2)

kept_same : (old new : StoreState) → new.nodes ≡ old.nodes → KeepsNodes old new
kept_same old new e = record { node = λ id node at. was_there (node_in old.nodes id) node (sym (ap (λ (ns : List (Option Node)). node_in ns id) e) ∙ at) }

kept_edited : (f : Node → Node) → ((node : Node) → ((f node).holder ≡ node.holder) × ((f node).label ≡ node.label) × ((f node).content ≡ node.content)) → (old s : StoreState) (id : ℕ) → KeepsNodes old s → KeepsNodes old (edited f s id)
kept_edited f leaves old s id h =
    elim (node_in s.nodes id) as (λ o. node_in s.nodes id ≡ o → KeepsNodes old (with_nodes s (edited_by f s.nodes id o))) [
      | None ↦ λ e. record { node = h.node }
      | Some n ↦ λ e. record {
        node = λ i m at.
            elim (some_found (set_node s.nodes id n (Some (f n)) e) i at) [
              | inl q ↦
                  let here : WasThere (node_in old.nodes i) n = subst (λ (k : ℕ). WasThere (node_in old.nodes k) n) q.0 (h.node id n e) in
                  let l = leaves n in
                  subst (λ (x : Node). WasThere (node_in old.nodes i) x) q.1 (kept_alike (node_in old.nodes i) n (f n) l.0 l.1 l.2 here)
              | inr q ↦ h.node i m q.1
            ];
      }
    ] refl

kept_released : (old s : StoreState) (id : ℕ) → KeepsNodes old s → KeepsNodes old (released s id)
kept_released old s id h =
    elim (node_in s.nodes id) as (λ o. node_in s.nodes id ≡ o → KeepsNodes old (released_if s id o)) [
      | None ↦ λ e. h
      | Some n ↦ λ e. elim (is_unused n) as (λ b. KeepsNodes old (if b then with_nodes s (slice_set s.nodes id None) else s)) [
        | true ↦ record { node = λ i m at. h.node i m (gone_found (set_node s.nodes id n None e) i at).1 }
        | false ↦ h
      ]
    ] refl

kept_let_go : (old s : StoreState) (id : ℕ) → KeepsNodes old s → KeepsNodes old (after_close s id)
kept_let_go old s id h =
    kept_released old (edited (λ node. with_opened (node.opens - 1) node) s id) id
    (kept_edited (λ node. with_opened (node.opens - 1) node) (λ node. (refl, refl, refl)) old s id h)

kept_each : (old s : StoreState) (handles : List (ℕ × OpenHandle)) → KeepsNodes old s → KeepsNodes old (each_let_go s handles)
kept_each old s [] h = h
kept_each old s (e ∷ handles) h = kept_each old (after_close s e.1.node) handles (kept_let_go old s e.1.node h)

pub nodes_kept : (s : StoreState) (session : ℕ) → KeepsNodes s (closed_all s session)
nodes_kept s session =
    elim (handles_of s session) as (λ o. KeepsNodes s (closed_each s session o)) [
      | None ↦ kept_same s s refl
      | Some handles ↦ kept_each s (with_sessions s (remove_entry (is_at (nat_cmp session)) s.sessions)) handles (kept_same s (with_sessions s (remove_entry (is_at (nat_cmp session)) s.sessions)) refl)
    ]

each_looks : (s : StoreState) (handles : List (ℕ × OpenHandle)) → (each_let_go s handles).look_ups ≡ s.look_ups
each_looks s [] = refl
each_looks s (e ∷ handles) =
    each_looks (after_close s e.1.node) handles
    ∙ elim (node_in (edited (λ node. with_opened (node.opens - 1) node) s e.1.node).nodes e.1.node) as (λ o. (released_if (edited (λ node. with_opened (node.opens - 1) node) s e.1.node) e.1.node o).look_ups ≡ s.look_ups) [
      | None ↦ refl
      | Some n ↦ elim (is_unused n) as (λ b. (if b then with_nodes (edited (λ node. with_opened (node.opens - 1) node) s e.1.node) (slice_set (edited (λ node. with_opened (node.opens - 1) node) s e.1.node).nodes e.1.node None)
          else edited (λ node. with_opened (node.opens - 1) node) s e.1.node).look_ups ≡ s.look_ups) [ true ↦ refl | false ↦ refl ]
    ]

pub looks_kept : (s : StoreState) (session : ℕ) → (closed_all s session).look_ups ≡ s.look_ups
looks_kept s session = elim (handles_of s session) as (λ o. (closed_each s session o).look_ups ≡ s.look_ups) [
  | None ↦ refl
  | Some handles ↦ each_looks (with_sessions s (remove_entry (is_at (nat_cmp session)) s.sessions)) handles
]

-- ---- each existing inode
module _ (old new : StoreState) (nodes : KeepsNodes old new) where
  pub directory_kept : (l : ℕ) (node : Node) → node_in new.nodes l ≡ Some node → is_directory_at old.nodes l ≡ true → is_directory_at new.nodes l ≡ true
  directory_kept l node at dir =
      elim (node_in old.nodes l) as (λ (o : Option Node). WasThere o node → option_map_or (λ (x : Node). is_directory_content x.content) o false ≡ true → is_directory_at new.nodes l ≡ true) [
        | None ↦ λ h d. absurd h
        | Some was ↦ λ h d. ap (λ (o : Option Node). option_map_or (λ (x : Node). is_directory_content x.content) o false) at ∙ ap is_directory_content h.2 ∙ d
      ] (nodes.node l node at) dir

  pub holder_kept : (l : ℕ) (node : Node) → node_in new.nodes l ≡ Some node → holder_of new.nodes l ≡ holder_of old.nodes l
  holder_kept l node at =
      elim (node_in old.nodes l) as (λ (o : Option Node). WasThere o node → holder_of new.nodes l ≡ option_and_then (λ (x : Node). x.holder) o) [
        | None ↦ λ h. absurd h
        | Some was ↦ λ h. ap (option_and_then (λ (x : Node). x.holder)) at ∙ h.0
      ] (nodes.node l node at)

  pub holder_was : (l n : ℕ) → holder_of new.nodes l ≡ Some n → holder_of old.nodes l ≡ Some n
  holder_was l n h =
      elim (node_in new.nodes l) as (λ (o : Option Node). node_in new.nodes l ≡ o → option_and_then (λ (x : Node). x.holder) o ≡ Some n → holder_of old.nodes l ≡ Some n) [
        | None ↦ λ e x. absurd (let z : ⊥ = cc in z)
        | Some node ↦ λ e x. sym (holder_kept l node e) ∙ h
      ] refl h

-- ---- a path with the same inode number leads to the same inode
module _ (old new : StoreState) (t u : Tree) (keeps : Keeps old t) (keeps' : Keeps new u) (nodes : KeepsNodes old new) (names : u.names ≡ t.names) where
  same_node : (l id : ℕ) (was node : Node) → node_in old.nodes l ≡ Some was → node.label ≡ was.label → (o : Option Node) → node_in old.nodes id ≡ o → WasThere o node → id ≡ l
  same_node l id was node at label None e is = absurd is
  same_node l id was node at label (Some w) e is = one_node old t keeps id l w was e at (sym is.1 ∙ label)

  found_node : (l : ℕ) (was : Node) (o : Option ℕ) → node_in old.nodes l ≡ Some was → option_map (λ (x : Node). x.label) (option_and_then (node_in new.nodes) o) ≡ Some was.label
      → (o ≡ Some l) × ((node : Node) × (node_in new.nodes l ≡ Some node))
  found_node l was None at e = absurd (let z : ⊥ = cc in z)
  found_node l was (Some id) at e =
      elim (node_in new.nodes id) as (λ (m : Option Node). node_in new.nodes id ≡ m → option_map (λ (x : Node). x.label) m ≡ Some was.label → (Some id ≡ Some l) × ((node : Node) × (node_in new.nodes l ≡ Some node))) [
        | None ↦ λ a b. absurd (let z : ⊥ = cc in z)
        | Some node ↦ λ a b.
            let label : node.label ≡ was.label = cc in
            let same = same_node l id was node at label (node_in old.nodes id) refl (nodes.node id node a) in
            (ap Some same, (node, ap (node_in new.nodes) (sym same) ∙ a))
      ] refl e

  pub way_kept : (q : Path) (l : ℕ) → walk (child_of old.nodes) old.root q ≡ Some l → (walk (child_of new.nodes) new.root q ≡ Some l) × ((node : Node) × (node_in new.nodes l ≡ Some node))
  way_kept q l w =
      let was = reached_node old t keeps q l w in
      let label = label_found old t keeps q ∙ ap (λ (o : Option ℕ). option_map (λ (x : Node). x.label) (option_and_then (node_in old.nodes) o)) w ∙ ap (option_map (λ (x : Node). x.label)) was.1 in
      found_node l was.0 (walk (child_of new.nodes) new.root q) was.1 (sym (label_found new u keeps' q) ∙ ap (λ ns. label_at ns q) names ∙ label)
