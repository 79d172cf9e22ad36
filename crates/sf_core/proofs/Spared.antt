-- A decision preserves the paths of all other calls: no inode that another call holds is removed or
-- replaced.
use Rattle.std.specs.Prelude.{◌≡◌, ◌≢◌, ◌⊎◌, ◌<◌, ℕ, true, false, cond, List, [], ◌∷◌, option_map, option_and_then, Option, Some, None, IsSome, refl}
use Rattle.std.specs.Option.{option_map_or}
use Rattle.std.proofs.Common.{sym, ap, subst, ◌∙◌, inl, inr}
use Rattle.sf_path.specs.Names.{Path}
use Rattle.sf_reply.specs.declared.reply.Reply.{Reply}
use Rattle.sf_call.specs.declared.request.Request.{Request}
use Rattle.sf_field.specs.declared.operation.PathOp.TheVariants as path_op
use Rattle.sf_field.specs.declared.operation.PairOp.TheVariants as pair_op
use Rattle.sf_call.specs.declared.request.Request.TheVariants as request
use Rattle.sf_call.specs.declared.record.Record.{Record}
use Rattle.sf_call.specs.declared.record.Record.TheVariants.{Did}
use Rattle.sf_call.specs.declared.metadata.Metadata.{Metadata}
use Rattle.sf_call.specs.declared.metadata.FileType.TheVariants as file_type
use Rattle.sf_call.specs.Tree.{Tree, label_at, object_of, after_front}
use Rattle.sf_call.specs.Calls.{answer_to, apply}
use Rattle.sf_laws.specs.Own.{IsOwnPath}
use Rattle.sf_laws.proofs.Laws.{other_labels, kinds_stay}
use Rattle.sf_call.specs.Allowed.{file_type_of}
use Rattle.sf_call.specs.Histories.{after, replay, IsLegal, IsNewNumber}
use Rattle.sf_call.proofs.Laws.{after_told, no_object, same_path_is, front_itself}
use Rattle.std.specs.Ordering.{is_eq}
use Rattle.std.specs.Cmp.{tied_itself}
use Rattle.sf_path.specs.Order.{same_path, path_total}
use Rattle.sf_inode.specs.declared.node.Node.{Node}
use Rattle.sf_inode.specs.declared.node.Content.{Content}
use Rattle.sf_inode.specs.declared.node.Content.TheVariants as content
use Rattle.sf_inode.specs.Nodes.{object_in, is_directory_content}
use Rattle.sf_inode.specs.Stores.{StoreState, node_in, child_of, holder_of, is_directory_at}
use Rattle.sf_keeps.specs.Steps.{walk}
use Rattle.sf_keeps.specs.Keeps.{Keeps}
use Rattle.sf_keeps.proofs.Laws.{object_there, one_node, reached_node, label_found}
use Rattle.sf_walk.specs.declared.finding.Located.TheVariants as located
use Rattle.sf_call.specs.Requests.{target_of}
use Rattle.sf_call.specs.Requests.Target.{ByHandle, OnPath, OnPaths}
use Rattle.sf_walk.specs.Ways.{way_from, missing}
use Rattle.sf_walk.specs.Served.{IsAsBefore, NodesStay, IsRefused, IsCarriedOut}
use Rattle.sf_walk.specs.declared.finding.Ways.{Ways}
use Rattle.sf_call.specs.Routes.Route.{Along}
use Rattle.sf_walk.specs.Steps.{IsFreeThere, AreFree}
use Rattle.sf_walk.proofs.Laws.{has_entry}
use Rattle.sf_core.proofs.Maps.{by_test}

-- the paths that a rename changes begin with one of its paths
pub own_either : (r : Request) (old new q : Path) → target_of r ≡ OnPaths old new → IsOwnPath r q → IsSome (after_front old q) ⊎ IsSome (after_front new q)
own_either (request.OnPaths pair_op.Rename a b) old new q e own = let f : a ≡ old = cc in let g : b ≡ new = cc in rw (← f, ← g) own
own_either (request.OnPaths pair_op.PosixRename a b) old new q e own = let f : a ≡ old = cc in let g : b ≡ new = cc in rw (← f, ← g) own
own_either (request.OnPaths pair_op.Link a b) old new q e own = let g : new ≡ q = cc in inr (rw (g, front_itself q) refl)
own_either _ old new q e own = cc

-- a request on one path has this path
own_is : (r : Request) (q path : Path) → target_of r ≡ OnPath path → IsOwnPath r q → q ≡ path
own_is (request.OnPath path_op.Stat p) q path e own = absurd own
own_is _ q path e own = first_of (cc, search own)

-- a call by handle has no path
by_handle : (r : Request) (handle : ℕ) (q : Path) → target_of r ≡ ByHandle handle → IsOwnPath r q → ⊥
by_handle (request.OnPath op p) h q e own = cc
by_handle _ h q e own = first_of (cc, search own)

-- no call on the root's path changes the root's label
root_by : (t : Tree) (session number moment : ℕ) (r : Request) → target_of r ≡ OnPath [] → label_at (apply t session number moment r).tree.names [] ≡ label_at t.names []
root_by t session number moment (request.OnPath (path_op.Mkdir attrs) []) e = refl
root_by t session number moment (request.OnPath path_op.Rmdir []) e = refl
root_by t session number moment (request.OnPath path_op.Remove []) e = refl
root_by t session number moment (request.OnPath (path_op.Open flags attrs) []) e = refl
root_by t session number moment r e = other_labels t session number moment r [] (λ own. first_of (cc, search own))

-- an inode that path resolution finds is located there
pub located_at : (nodes : List (Option Node)) (q : Path) (above x l : ℕ) → walk (child_of nodes) x q ≡ Some l → (parent : ℕ) × (way_from nodes above x q ≡ located.At parent l)
located_at nodes [] above x l e = (above, let same : x ≡ l = cc in ap (located.At above) same)
located_at nodes (n ∷ q) above x l e =
    elim (child_of nodes x n) as (λ o. child_of nodes x n ≡ o → option_and_then (λ y. walk (child_of nodes) y q) o ≡ Some l
    → (parent : ℕ) × (cond (is_directory_at nodes x) (option_map_or (λ y. way_from nodes x y q) o (missing x q)) located.NoWay ≡ located.At parent l)) [
      | Some y ↦ λ f w. let r = located_at nodes q x y l w in (r.0, ap (λ b. cond b (way_from nodes x y q) located.NoWay) (has_entry nodes x n y f) ∙ r.1)
      | None ↦ λ f w. cc
    ] refl e

kind_directory : (m : Metadata) (c : Content) → is_directory_content c ≡ true → file_type_of (object_in m c) ≡ file_type.Directory
kind_directory m (content.Directory es) e = refl
kind_directory m _ e = cc

directory_kind : (m : Metadata) (c : Content) → file_type_of (object_in m c) ≡ file_type.Directory → is_directory_content c ≡ true
directory_kind m (content.Directory es) e = refl
directory_kind m _ e = cc

directory_is : (nodes : List (Option Node)) (l : ℕ) (node : Node) → node_in nodes l ≡ Some node → is_directory_at nodes l ≡ is_directory_content node.content
directory_is nodes l node at = ap (λ (o : Option Node). option_map_or (λ (x : Node). is_directory_content x.content) o false) at

module _ (old mid : StoreState) (history : List Record) (n session moment : ℕ) (r : Request) (given : Reply)
    (legal : IsLegal history) (above : 0 < n) (fresh : IsNewNumber n history) (keeps : Keeps old (replay history))
    (served : IsRefused old mid (replay history) given ⊎ IsCarriedOut mid (replay history) (answer_to (replay history) session n moment r) given)
    (stays : NodesStay n old mid) where
  t : Tree
  t = replay history

  -- the tree after the record
  pub keeps_after : Keeps mid (after (replay history) (Did n session moment r given))
  keeps_after = elim served [
    | inl e ↦ subst (λ (u : Tree). Keeps mid u) (ap (λ (g : Reply). after (replay history) (Did n session moment r g)) (sym e.told)) e.tree
    | inr e ↦ subst (λ (u : Tree). Keeps mid u) (sym (after_told (replay history) session n moment r) ∙ ap (λ (g : Reply). after (replay history) (Did n session moment r g)) (sym e.told)) e.tree
  ]

  node_of : (q : Path) (l : ℕ) → walk (child_of old.nodes) old.root q ≡ Some l → (was : Node) × (node_in old.nodes l ≡ Some was) × (label_at (replay history).names q ≡ Some was.label)
  node_of q l w =
      let was = reached_node old (replay history) keeps q l w in
      (was.0, was.1, label_found old (replay history) keeps q ∙ ap (λ (o : Option ℕ). option_map (λ (x : Node). x.label) (option_and_then (node_in old.nodes) o)) w ∙ ap (option_map (λ (x : Node). x.label)) was.1)

  -- an inode with the label of an earlier inode is that inode
  same_node : (l id : ℕ) (was node : Node) → node_in old.nodes l ≡ Some was → node.label ≡ was.label → (o : Option Node) → node_in old.nodes id ≡ o → IsAsBefore (λ holder label. (holder ≡ None) × (label ≡ n)) o node → id ≡ l
  same_node l id was node at label None e is =
      let some = object_there old (replay history) keeps l was at in
      let none = no_object history n legal above fresh in
      let same : n ≡ was.label = sym is.0.1 ∙ label in
      let x = ap (object_of (replay history).objects) same in
      cc
  same_node l id was node at label (Some w) e is = one_node old (replay history) keeps id l w was e at (sym is.1 ∙ label)

  found_node : (q : Path) (l : ℕ) (was : Node) (o : Option ℕ) → node_in old.nodes l ≡ Some was → walk (child_of mid.nodes) mid.root q ≡ o
      → option_map (λ (x : Node). x.label) (option_and_then (node_in mid.nodes) o) ≡ Some was.label → (o ≡ Some l) × ((node : Node) × (node_in mid.nodes l ≡ Some node) × (node.label ≡ was.label))
  found_node q l was None at w e = cc
  found_node q l was (Some id) at w e =
      elim (node_in mid.nodes id) as (λ (m : Option Node). node_in mid.nodes id ≡ m → option_map (λ (x : Node). x.label) m ≡ Some was.label
      → (Some id ≡ Some l) × ((node : Node) × (node_in mid.nodes l ≡ Some node) × (node.label ≡ was.label))) [
        | None ↦ λ f g. cc
        | Some node ↦ λ f g.
            let label : node.label ≡ was.label = cc in
            let same = same_node l id was node at label (node_in old.nodes id) refl (stays.node id node f) in
            (ap Some same, (node, ap (node_in mid.nodes) (sym same) ∙ f, label))
      ] refl e

  -- a path with the same label leads to the same inode
  pub leads_still : (q : Path) (l : ℕ) → walk (child_of old.nodes) old.root q ≡ Some l → label_at (after (replay history) (Did n session moment r given)).names q ≡ label_at (replay history).names q
      → (walk (child_of mid.nodes) mid.root q ≡ Some l) × ((node : Node) × (node_in mid.nodes l ≡ Some node))
  leads_still q l w same =
      let was = node_of q l w in
      let f = found_node q l was.0 (walk (child_of mid.nodes) mid.root q) was.1 refl
      (sym (label_found mid (after (replay history) (Did n session moment r given)) keeps_after q) ∙ same ∙ was.2) in
      (f.0, (f.1.0, f.1.1))

  -- what was a directory is a directory
  pub directory_still : (l : ℕ) (was node : Node) → node_in old.nodes l ≡ Some was → node_in mid.nodes l ≡ Some node → is_directory_at old.nodes l ≡ true → is_directory_at mid.nodes l ≡ true
  directory_still l was node at now dir = elim served [
    | inl e ↦ ap (λ (o : Option Node). option_map_or (λ (x : Node). is_directory_content x.content) o false) (e.alike.nodes l) ∙ dir
    | inr e ↦
        let content_was : is_directory_content was.content ≡ true = sym (directory_is old.nodes l was at) ∙ dir in
        let marks : node.label ≡ was.label = (subst (λ (o : Option Node). IsAsBefore (λ holder label. (holder ≡ None) × (label ≡ n)) o node) at (stays.node l node now)).1 in
        let before = object_there old (replay history) keeps l was at in
        let after_is = ap (object_of (apply (replay history) session n moment r).tree.objects) (sym marks) ∙ object_there mid (apply (replay history) session n moment r).tree e.tree l node now in
        let kind = kinds_stay (record { history = history; session = session; number = n; moment = moment; request = r; legal = legal; above = above; fresh = fresh }) was.label (object_in was.metadata was.content) (object_in node.metadata node.content) before after_is in
        directory_is mid.nodes l node now ∙ directory_kind node.metadata node.content (kind ∙ kind_directory was.metadata was.content content_was)
  ]

  -- what the tree's answer preserves, the record preserves
  pub label_after : (q : Path) → label_at (apply (replay history) session n moment r).tree.names q ≡ label_at (replay history).names q
      → label_at (after (replay history) (Did n session moment r given)).names q ≡ label_at (replay history).names q
  label_after q same = elim served [
    | inl e ↦ ap (λ (g : Reply). label_at (after (replay history) (Did n session moment r g)).names q) e.told
    | inr e ↦
        ap (λ (g : Reply). label_at (after (replay history) (Did n session moment r g)).names q) e.told ∙ ap (λ (u : Tree). label_at u.names q) (after_told (replay history) session n moment r)
        ∙ same
  ]

  -- a call by handle changes no label
  pub label_by_handle : (handle : ℕ) → target_of r ≡ ByHandle handle → (q : Path) → label_at (after (replay history) (Did n session moment r given)).names q ≡ label_at (replay history).names q
  label_by_handle handle e q = label_after q (other_labels (replay history) session n moment r q (λ own. by_handle r handle q e own))

  -- the path that another call holds isn't the call's, or nothing changes there
  module _ (path : Path) (is_path : target_of r ≡ OnPath path) (ways : Ways) (way : ways.path ≡ way_from old.nodes old.root old.root path) (free : AreFree (holder_of old.nodes) n (Along path) ways) where
    apart : (l holder : ℕ) → walk (child_of old.nodes) old.root path ≡ Some l → holder_of old.nodes l ≡ Some holder → n ≢ holder → path ≡ []
    apart l holder w held other = by path w way free
      where
        by : (p : Path) → walk (child_of old.nodes) old.root p ≡ Some l → ways.path ≡ way_from old.nodes old.root old.root p → AreFree (holder_of old.nodes) n (Along p) ways → p ≡ []
        by [] w way free = refl
        by (x ∷ p) w way free = absurd (other (subst (IsFreeThere (holder_of old.nodes) n) (way ∙ (located_at old.nodes (x ∷ p) old.root old.root l w).1) free holder held))

    own_or_not : (q : Path) → (q ≡ path) ⊎ (IsOwnPath r q → ⊥)
    own_or_not q = by_test (same_path q path) (λ e. inl (same_path_is q path e))
        (λ e. inr (λ own. let x : false ≡ true = sym e ∙ ap (λ y. same_path y path) (own_is r q path is_path own) ∙ ap is_eq (tied_itself path_total path) in cc))

    pub label_still : (q : Path) (l holder : ℕ) → walk (child_of old.nodes) old.root q ≡ Some l → holder_of old.nodes l ≡ Some holder → n ≢ holder
        → label_at (after (replay history) (Did n session moment r given)).names q ≡ label_at (replay history).names q
    label_still q l holder w held other = label_after q (elim (own_or_not q) [
      | inl e ↦
          let root : path ≡ [] = apart l holder (ap (walk (child_of old.nodes) old.root) (sym e) ∙ w) held other in
          ap (label_at (apply (replay history) session n moment r).tree.names) (e ∙ root) ∙ root_by (replay history) session n moment r (is_path ∙ ap OnPath root) ∙ ap (label_at (replay history).names) (sym (e ∙ root))
      | inr ne ↦ other_labels (replay history) session n moment r q ne
    ])
