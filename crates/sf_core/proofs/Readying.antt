-- Before a call is helped from the root: its paths are resolved, and no blocks are left to copy
-- into the file whose length it sets.
use Rattle.std.specs.Prelude.{◌≡◌, ◌≢◌, ℕ, true, Bool, if◌then◌else◌, List, [], ◌∷◌, Option, Some, None, refl}
use Rattle.std.specs.Option.{option_map_or}
use Rattle.std.proofs.Common.{sym, ap, ◌∙◌, inl, inr}
use Rattle.sf_path.specs.Names.{Path}
use Rattle.sf_call.specs.declared.call.Call.{Call}
use Rattle.sf_inode.specs.declared.node.Node.{Node}
use Rattle.sf_inode.specs.Nodes.{blocks_left_in, with_content, with_left, with_holder}
use Rattle.sf_inode.specs.Stores.{StoreState, node_in, holder_of, is_file_at, blocks_left_at, left_set, edited}
use Rattle.sf_keeps.proofs.Laws.{edited_apart, left_there}
use Rattle.sf_coupling.proofs.Laws.{same_or_not}
use Rattle.sf_walk.specs.declared.files.Writer.{Writer}
use Rattle.sf_walk.specs.declared.finding.Ways.{Ways}
use Rattle.sf_walk.specs.declared.finding.Located.TheVariants as located
use Rattle.sf_walk.specs.Files.{HasNoWriter, IsWriter}
use Rattle.sf_call.specs.Routes.{Route, route_of}
use Rattle.sf_call.specs.Routes.Route.{NoPath, Along, Between}
use Rattle.sf_walk.specs.Ways.{way_from, missing, request_names, AreWays, IsLocated}
use Rattle.sf_walk.specs.Served.{LookedUp, IsAsBefore, NodesStay}
use Rattle.sf_walk.proofs.Laws.{IsSameGround, same_trans, same_held}
use Rattle.sf_core.specs.Parts.{PartsView}
use Rattle.sf_core.specs.Sound.{writer_of_file}
use Rattle.sf_core.specs.Finishing.{write_finished, IsSettledWhereFree, IsReadyToHelp}
use Rattle.sf_core.proofs.Maps.{none_some}
use Rattle.sf_core.proofs.SparedFiles.{holder_after}
use Rattle.sf_core.proofs.Writers.{files_held, files_looked, writer_is, writer_holds}
use Rattle.sf_core.proofs.BlockSteps.{ground_left, writer_apart}
use Rattle.sf_core.proofs.Finished.{ground_looked}
use Rattle.sf_core.proofs.FreeFiles.{left_where}

-- ---- paths in two stores with the same directories
module _ (s t : StoreState) (g : IsSameGround s t) where
  way_same : (path : Path) (up x : ℕ) → way_from t.nodes up x path ≡ way_from s.nodes up x path
  way_same [] up x = refl
  way_same (n ∷ path) up x = λ i. if g.directory x i then option_map_or (λ y. way_same path x y i) (g.step x n i) (missing x path) else located.NoWay

  way_root : (path : Path) → way_from t.nodes t.root t.root path ≡ way_from s.nodes s.root s.root path
  way_root path = way_same path t.root t.root ∙ ap (λ r. way_from s.nodes r r path) g.root

  pub ways_same : (r : Route) (ways : Ways) → AreWays s r ways → AreWays t r ways
  ways_same NoPath ways w = (w.0, tt)
  ways_same (Along path) ways w = (w.0, w.1 ∙ sym (way_root path))
  ways_same (Between old new) ways w = (w.0, (w.1.0 ∙ sym (way_root old), λ there. w.1.1 there ∙ sym (way_root new)))

pub finished_ground : (s : StoreState) (node : ℕ) → IsSameGround s (edited (with_holder None) (left_set s node 0) node)
finished_ground s node = same_trans s (left_set s node 0) (edited (with_holder None) (left_set s node 0) node) (ground_left 0 s node) (same_held None (left_set s node 0) node)

if_free : (nodes : List (Option Node)) (id : ℕ) → is_file_at nodes id ≡ true → holder_of nodes id ≡ None → writer_of_file nodes id ≡ None
if_free nodes id file none = ap (λ (b : Bool). if b then holder_of nodes id else None) file ∙ none

module _ (p : PartsView) (c : Call) (ways : Ways) (looked : StoreState) (settled : IsSettledWhereFree p.store) (are_located : IsLocated p.store c.request ways) (looks : LookedUp p.store looked (request_names c.request)) where
  settled_looked : IsSettledWhereFree looked
  settled_looked id free = let f = files_looked p.store looked (request_names c.request) looks in f.0.left id ∙ settled id (sym (f.1 id) ∙ free)

  ground : IsSameGround p.store looked
  ground = ground_looked p.store looked (request_names c.request) looks

  pub ready_alone : HasNoWriter looked c.request ways.path → IsReadyToHelp p (record p { store = looked }) c ways
  ready_alone none = record {
    finishes = record { ways = ways; looked = looked; located = are_located; looks = looks; finished = inl (none, refl) };
    same = refl;
    located = ways_same p.store looked ground (route_of c.request) ways are_located;
    cut = λ parent node cuts there. left_where looked node (λ file. settled_looked node (if_free looked.nodes node file (none parent node cuts there file)));
    settled = settled_looked;
  }

  module _ (w : Writer) (is : IsWriter looked c.request ways.path w) where
    abbrev ended : StoreState
    ended = edited (with_holder None) (left_set looked w.node 0) w.node

    apart : (i : ℕ) → i ≢ w.node → node_in ended.nodes i ≡ node_in looked.nodes i
    apart i ne = edited_apart (with_holder None) (left_set looked w.node 0) w.node i ne ∙ edited_apart (with_content (with_left 0)) looked w.node i ne

    none_left : blocks_left_at ended.nodes w.node ≡ 0
    none_left = (files_held None (left_set looked w.node 0) w.node).left w.node ∙ left_there 0 looked w.node is.file

    pub ready_finished : IsReadyToHelp p (write_finished (record p { store = looked }) w.number w.node) c ways
    ready_finished = record {
      finishes = record { ways = ways; looked = looked; located = are_located; looks = looks; finished = inr (w, is, refl) };
      same = refl;
      located = ways_same p.store ended (same_trans p.store looked ended ground (finished_ground looked w.node)) (route_of c.request) ways are_located;
      cut = λ parent node cuts there.
          let e : located.At parent node ≡ located.At is.parent w.node = sym there ∙ is.there in
          let same : node ≡ w.node = cc in
          ap (blocks_left_at ended.nodes) same ∙ none_left;
      settled = λ id free. elim (same_or_not id w.node) [
        | inl e ↦ ap (blocks_left_at ended.nodes) e ∙ none_left
        | inr ne ↦ ap (λ (o : Option Node). option_map_or (λ (x : Node). blocks_left_in x.content) o 0) (apart id ne) ∙ settled_looked id (sym (writer_apart looked ended id (apart id ne)) ∙ free)
      ];
    }

-- ---- after a decision, files that are not held have no blocks left to copy
module _ (s t : StoreState) (n : ℕ) (stays : NodesStay n s t) (settled : IsSettledWhereFree s) where
  left_still : (id : ℕ) (node : Node) → node_in t.nodes id ≡ Some node → (o : Option Node) → node_in s.nodes id ≡ o → IsAsBefore (λ holder label. (holder ≡ None) × (label ≡ n)) o node → (blocks_left_at s.nodes id ≡ 0 → blocks_left_at t.nodes id ≡ 0)
  left_still id node at None e is zero = ap (λ (o : Option Node). option_map_or (λ (x : Node). blocks_left_in x.content) o 0) at ∙ is.1
  left_still id node at (Some x) e is zero =
      ap (λ (o : Option Node). option_map_or (λ (y : Node). blocks_left_in y.content) o 0) at ∙ is.2 ∙ sym (ap (λ (o : Option Node). option_map_or (λ (y : Node). blocks_left_in y.content) o 0) e) ∙ zero

  pub settled_decided : IsSettledWhereFree t
  settled_decided id free = left_where t id (λ file.
      elim (node_in t.nodes id) as (λ o. node_in t.nodes id ≡ o → blocks_left_at t.nodes id ≡ 0) [
        | None ↦ λ at. ap (λ (o : Option Node). option_map_or (λ (x : Node). blocks_left_in x.content) o 0) at
        | Some node ↦ λ at. left_still id node at (node_in s.nodes id) refl (stays.node id node at)
            (elim (writer_of_file s.nodes id) as (λ o. writer_of_file s.nodes id ≡ o → blocks_left_at s.nodes id ≡ 0) [
              | None ↦ λ e. settled id e
              | Some m ↦ λ e.
                  let held = holder_after s t n stays id m node at (writer_holds s.nodes id m e).1 in
                  absurd (none_some m (sym free ∙ writer_is t.nodes id m file held))
            ] refl)
      ] refl)
