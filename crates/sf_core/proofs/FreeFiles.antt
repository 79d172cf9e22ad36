-- A file that no other call holds has no blocks left to copy.
use Rattle.std.specs.Prelude.{◌≡◌, ℕ, zero, suc, true, false, List, [], ◌∷◌, option_map, option_and_then, is_some, Option, Some, None, refl}
use Rattle.std.specs.Option.{option_map_or}
use Rattle.std.proofs.Common.{sym, ap, subst, ◌∙◌}
use Rattle.sf_path.specs.Names.{Path}
use Rattle.sf_call.specs.declared.call.Call.{Call}
use Rattle.sf_call.specs.declared.call.Stage.{Stage}
use Rattle.sf_call.specs.declared.call.Stage.TheVariants as stage
use Rattle.sf_call.specs.declared.record.Record.{Record}
use Rattle.sf_call.specs.declared.request.Request.{Request}
use Rattle.sf_field.specs.declared.operation.PathOp.TheVariants as path_op
use Rattle.sf_call.specs.declared.request.Request.TheVariants as request
use Rattle.sf_call.specs.declared.metadata.Metadata.{Metadata}
use Rattle.sf_call.specs.Attributes.{Object}
use Rattle.sf_call.specs.Tree.{Tree, directory_metadata}
use Rattle.sf_inode.specs.declared.node.Node.{Node}
use Rattle.sf_inode.specs.declared.node.Content.{Content}
use Rattle.sf_inode.specs.declared.node.Content.TheVariants as content
use Rattle.sf_inode.specs.Nodes.{object_in, is_directory_content}
use Rattle.sf_inode.specs.Stores.{StoreState, node_in, holder_of, shown_node, is_directory_at, is_file_at, blocks_left_at}
use Rattle.sf_keeps.specs.Keeps.{Keeps}
use Rattle.sf_coupling.specs.Walks.{IsFree}
use Rattle.sf_walk.specs.declared.finding.Ways.{Ways}
use Rattle.sf_walk.specs.declared.finding.Located.{Located}
use Rattle.sf_walk.specs.declared.finding.Located.TheVariants as located
use Rattle.sf_call.specs.Routes.{Route, route_of}
use Rattle.sf_walk.specs.Routes.{IsPosition}
use Rattle.sf_call.specs.Routes.Route.{NoPath, Along}
use Rattle.sf_walk.specs.Routes.IsPosition.{Starts}
use Rattle.sf_walk.specs.Ways.{AreWays}
use Rattle.sf_walk.specs.Files.{IsFileFree, IsSettled, file_handle, cuts_file}
use Rattle.sf_walk.specs.Served.{LookedUp, after_look_ups}
use Rattle.sf_walk.specs.Steps.AdvancesOne.{TakesRoot}
use Rattle.sf_walk.specs.Steps.{walker, AdvancesOne, AdvancesTo, IsFreeThere, AreFree}
use Rattle.sf_core.specs.Cores.{call_at}
use Rattle.sf_core.specs.Progress.{waiting_reply, IsCopying}
use Rattle.sf_core.specs.Parts.{PartsView}
use Rattle.sf_core.specs.Sound.{writer_of_file, Sound}
use Rattle.sf_core.proofs.Maps.{by_test, some_eq}
use Rattle.sf_core.proofs.Writers.{no_directory, writer_holds}
use Rattle.sf_core.proofs.SparedFiles.{file_writer, no_file}
use Rattle.sf_core.proofs.Finished.{not_copying}

-- the root is a directory
pub root_kept : (s : StoreState) (t : Tree) → Keeps s t → is_directory_at s.nodes s.root ≡ true
root_kept s t keeps = by_node (node_in s.nodes s.root) keeps.shows.by.sound.rooted
  where
    by_node : (o : Option Node) → is_some (option_and_then (λ (w : ℕ × Object). directory_metadata w.1) (option_map shown_node o)) ≡ true → option_map_or (λ (it : Node). is_directory_content it.content) o false ≡ true
    by_node None is = is
    by_node (Some it) is = by_content it.metadata it.content is
      where
        by_content : (m : Metadata) (z : Content) → is_some (directory_metadata (object_in m z)) ≡ true → is_directory_content z ≡ true
        by_content m (content.Directory entries) is = refl
        by_content m (content.File contents) is = is

-- if it is required of a file alone
pub left_where : (s : StoreState) (node : ℕ) → (is_file_at s.nodes node ≡ true → blocks_left_at s.nodes node ≡ 0) → blocks_left_at s.nodes node ≡ 0
left_where s node each = by_test (is_file_at s.nodes node) (λ e. each e) (λ e. no_file (node_in s.nodes node) e)

file_free_counted : (k : ℕ) (s : StoreState) (c : Call) → IsFileFree s c → IsFileFree (after_look_ups k s) c
file_free_counted zero s c h = h
file_free_counted (suc k) s c h = let w = file_free_counted k s c h in record { free = w.free }

pub file_free_looked : (s t : StoreState) (most : ℕ) (c : Call) → LookedUp s t most → IsFileFree s c → IsFileFree t c
file_free_looked s t most c looked h = subst (λ (x : StoreState). IsFileFree x c) (sym looked.state) (file_free_counted looked.count s c h)

-- ---- a call on a path uses no file by a handle
pub only_fresh : (r : Route) (g : Stage) → r ≡ NoPath → IsPosition r g → g ≡ stage.Fresh
only_fresh r g e (Starts o is) = refl
only_fresh r g e _ = cc

walked_on : (g after : Stage) → AdvancesOne g after → after ≡ stage.Fresh → ⊥
walked_on g after (TakesRoot node) e = cc
walked_on g after _ e = cc

no_path_moved : (g after : Stage) → IsPosition NoPath after → AdvancesOne g after → ⊥
no_path_moved g after is on = walked_on g after on (only_fresh NoPath after refl is)

pub handle_route : (r : Request) (number : ℕ) → file_handle r ≡ Some number → route_of r ≡ NoPath
handle_route (request.OnPath op path) number e = cc
handle_route _ number e = cc

pub no_handle_moved : (r : Request) (g after : Stage) → IsPosition (route_of r) after → AdvancesOne g after → (number : ℕ) → file_handle r ≡ Some number → ⊥
no_handle_moved r g after is on number e = no_path_moved g after (subst (λ (x : Route). IsPosition x after) (handle_route r number e) is) on

pub file_free_moved : (s t : StoreState) (c : Call) (after : Stage) → AdvancesTo s t (walker c.number (route_of c.request) c.stage) after → IsFileFree t c
file_free_moved s t c after moves = record { free = λ number x own opens is. absurd (no_handle_moved c.request c.stage after moves.position moves.walks number own) }

module _ (p : PartsView) (h : List Record) (sound : Sound p h) (c : Call) (at : call_at p.calls c.number ≡ Some c) (undecided : waiting_reply c ≡ None) where
  left_free : (node : ℕ) → IsFree (holder_of p.store.nodes) c.number node → blocks_left_at p.store.nodes node ≡ 0
  left_free node free = elim (writer_of_file p.store.nodes node) as (λ o. writer_of_file p.store.nodes node ≡ o → blocks_left_at p.store.nodes node ≡ 0) [
    | None ↦ λ e. sound.copied.copies.settled node e
    | Some m ↦ λ e.
        let f = file_writer p.store p.calls sound.copied.copies node m e in
        let same : c.number ≡ m = free m (writer_holds p.store.nodes node m e).1 in
        let own : f.0 ≡ c = some_eq f.0 c (sym f.2 ∙ ap (call_at p.calls) (sym same) ∙ at) in
        absurd (not_copying p h sound c.number c at undecided (subst (λ (x : Call). IsCopying x.stage) own (subst IsCopying (sym f.3) tt)))
  ] refl

  left_root : (node : ℕ) → node ≡ p.store.root → blocks_left_at p.store.nodes node ≡ 0
  left_root node e = left_where p.store node (λ file. absurd (no_directory p.store.nodes node file (ap (is_directory_at p.store.nodes) e ∙ root_kept p.store _ sound.history.tree)))

  by_path : (ways : Ways) (path : Path) → AreWays p.store (Along path) ways → AreFree (holder_of p.store.nodes) c.number (Along path) ways → (parent node : ℕ) → ways.path ≡ located.At parent node → blocks_left_at p.store.nodes node ≡ 0
  by_path ways [] w free parent node there = left_root node (let e : located.At parent node ≡ located.At p.store.root p.store.root = sym there ∙ w.1 in cc)
  by_path ways (x ∷ path) w free parent node there = left_free node (subst (λ (f : Located). IsFreeThere (holder_of p.store.nodes) c.number f) there free)

  on_path_by : (r : Request) (ways : Ways) → AreWays p.store (route_of r) ways → AreFree (holder_of p.store.nodes) c.number (route_of r) ways → (parent node : ℕ) → cuts_file r ≡ true → ways.path ≡ located.At parent node → blocks_left_at p.store.nodes node ≡ 0
  on_path_by (request.OnPath (path_op.SetStat attrs) path) ways w free parent node cuts there = by_path ways path w free parent node there
  on_path_by (request.OnPath (path_op.Open flags attrs) path) ways w free parent node cuts there = by_path ways path w free parent node there
  on_path_by _ ways w free parent node cuts there = cc

  -- so a call that is decided finds its files complete
  pub settled_free : IsFileFree p.store c → (ways : Ways) → AreWays p.store (route_of c.request) ways → AreFree (holder_of p.store.nodes) c.number (route_of c.request) ways → IsSettled p.store c.session c.request ways.path
  settled_free file ways w free = record {
    by_handle = λ number x own opens. left_where p.store x.node (λ is. left_free x.node (file.free number x own opens is));
    on_path = λ parent node cuts there. on_path_by c.request ways w free parent node cuts there;
  }
