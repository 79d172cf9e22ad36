-- A step of path resolution, with lock coupling.
use Rattle.std.specs.Prelude.{◌≡◌, ◌≢◌, ◌⊎◌, ◌<◌, ◌+◌, ℕ, Bool, false, nat_eq, ◌||◌, if◌then◌else◌, List, [], ◌∷◌, length, take, slice_get, Option, Some, None}
use Rattle.sf_path.specs.Names.{Name, Path}
use Rattle.sf_call.specs.declared.call.Reached.{Reached}
use Rattle.sf_call.specs.declared.call.Stage.{Stage}
use Rattle.sf_call.specs.declared.call.Stage.TheVariants as stage
use Rattle.sf_inode.specs.declared.node.Node.{Node}
use Rattle.sf_inode.specs.Nodes.{with_holder}
use Rattle.sf_inode.specs.Stores.{StoreState, child_of, holder_of, is_directory_at, looked_up, edited}
use Rattle.sf_keeps.specs.Steps.{walk}
use Rattle.sf_coupling.specs.Walks.{HeldPath, IsFree, LeadsTo}
use Rattle.sf_coupling.specs.Stepping.{TakesPath}
use Rattle.sf_walk.specs.declared.finding.Ways.{Ways}
use Rattle.sf_walk.specs.declared.finding.Located.{Located}
use Rattle.sf_walk.specs.declared.finding.Located.TheVariants as located
use Rattle.sf_walk.specs.declared.walking.Walk.{Walk}
use Rattle.sf_walk.specs.declared.walking.Walk.TheVariants.{Moved, Blocked, Ready}
use Rattle.sf_call.specs.Routes.{Route}
use Rattle.sf_walk.specs.Routes.{IsPosition, reached, paths_on, held_paths_of, nodes_of, namespace}
use Rattle.sf_call.specs.Routes.Route.{NoPath, Along, Between}
use Rattle.sf_walk.specs.Ways.{IsThere, AreWays}
use Rattle.sf_walk.specs.Served.{LookedUp}

-- a call that resolves paths: its number, its route, and its position on it
pub record Walker : Type 0 where
  pub number : ℕ
  pub route : Route
  pub at : Stage

abbrev pub walker : ℕ → Route → Stage → Walker
walker number route at = record { number = number; route = route; at = at }

-- The path that a call follows next, and its position on it. On two paths that is the old one up to
-- its parent, and then the new one.
pub data GoesFrom : Route → Stage → Path → Reached → Type 0 where
  OnOne : (path : Path) (walked node : ℕ)
      → GoesFrom (Along path) (stage.At walked node) path (reached walked node)
  Together : (old new : Path) (walked node : ℕ)
      → GoesFrom (Between old new) (stage.At walked node) old (reached walked node)
  OldEnd : (old new : Path) (common from to : Reached) → from.walked + 1 < length old
      → GoesFrom (Between old new) (stage.Ends common from to) old from
  NewEnd : (old new : Path) (common from to : Reached) → from.walked + 1 ≡ length old
      → GoesFrom (Between old new) (stage.Ends common from to) new to

-- the names that a call on a path looks up next: none for the root, or one more than it has
-- resolved
pub data LooksUp : Route → Stage → Path → Type 0 where
  Root : (r : Route) (path : Path) (rest : List Path) → paths_on r ≡ path ∷ rest
      → LooksUp r stage.Fresh []
  Next : (r : Route) (at : Stage) (path : Path) (from : Reached) → GoesFrom r at path from
      → LooksUp r at (take (from.walked + 1) path)

-- A step resolves one more component. It acquires the root, or proceeds from the directory that the
-- call holds, or from one of its two ends. Where two paths part, both ends are at the common
-- directory.
pub data AdvancesOne : Stage → Stage → Type 0 where
  TakesRoot : (node : ℕ) → AdvancesOne stage.Fresh (stage.At 0 node)
  PartsAtRoot : (to : Reached) → to.walked ≡ 0 → AdvancesOne stage.Fresh (stage.Ends to to to)
  GoesOn : (walked node : ℕ) (to : Reached) → to.walked ≡ walked + 1
      → AdvancesOne (stage.At walked node) (stage.At to.walked to.node)
  Parts : (walked node : ℕ) (to : Reached) → to.walked ≡ walked + 1
      → AdvancesOne (stage.At walked node) (stage.Ends to to to)
  OldGoesOn : (common old new to : Reached) → to.walked ≡ old.walked + 1
      → AdvancesOne (stage.Ends common old new) (stage.Ends common to new)
  NewGoesOn : (common old new to : Reached) → to.walked ≡ new.walked + 1
      → AdvancesOne (stage.Ends common old new) (stage.Ends common old to)

-- ---- the store
abbrev pub is_one_of : ℕ → List ℕ → Bool
is_one_of x [] = false
is_one_of x (y ∷ ys) = nat_eq x y || is_one_of x ys

-- an inode is released, unless it is in the list
abbrev pub free_unless : List ℕ → ℕ → StoreState → StoreState
free_unless kept node s = if is_one_of node kept then s else edited (with_holder None) s node

-- all these inodes are released, except those in the list `kept`
abbrev pub let_go : List ℕ → List ℕ → StoreState → StoreState
let_go kept [] s = s
let_go kept (node ∷ nodes) s = let_go kept nodes (free_unless kept node s)

abbrev pub entered : Stage → StoreState → StoreState
entered stage.Fresh s = s
entered other s = looked_up s

-- lock coupling: the next inode is acquired, and then those no longer held are released
abbrev pub handed_over : ℕ → Stage → Stage → ℕ → StoreState → StoreState
handed_over number was now node s =
    let_go (nodes_of now) (nodes_of was) (edited (with_holder (Some number)) s node)

-- the call acquired a further directory, which no other call held
pub record AdvancesTo (old new : StoreState) (w : Walker) (after : Stage) : Type 0 where
  pub held_path : HeldPath
  pub takes : TakesPath held_path (held_paths_of w.route w.at) (held_paths_of w.route after)
  pub leads : LeadsTo (namespace old) held_path
  pub free : IsFree (holder_of old.nodes) w.number held_path.node
  pub position : IsPosition w.route after
  pub walks : AdvancesOne w.at after
  pub state : new ≡ handed_over w.number w.at after held_path.node (entered w.at old)

-- another call holds the inode of the next component
pub record WaitsFor (old new : StoreState) (w : Walker) (holder : ℕ) : Type 0 where
  pub to : Path
  pub node : ℕ
  pub looks : LooksUp w.route w.at to
  pub leads : walk (child_of old.nodes) old.root to ≡ Some node
  pub held : holder_of old.nodes node ≡ Some holder
  pub other : w.number ≢ holder
  pub looked : LookedUp old new 1

-- the next component is no directory
abbrev pub LeadsNowhere : List (Option Node) → ℕ → Option Name → Type 0
LeadsNowhere nodes node None = Unit {0}
LeadsNowhere nodes node (Some name) =
    (child : ℕ) → child_of nodes node name ≡ Some child → is_directory_at nodes child ≡ false

-- path resolution ends if only the last name is left, or if the next component is no directory
abbrev pub EndsAt : List (Option Node) → Path → Reached → Type 0
EndsAt nodes path at = (at.walked + 1 ≡ length path)
    ⊎ ((at.walked + 1 < length path) × LeadsNowhere nodes at.node (slice_get path at.walked))

-- A call may be decided: at once, if it has no path or the root's; otherwise at the position at
-- which its path resolution `ends`.
pub data MayDecideWhere (ends : Path → Reached → Type 0) : Route → Stage → Type 0 where
  AtOnce : MayDecideWhere ends NoPath stage.Fresh
  AtRoot : MayDecideWhere ends (Along []) stage.Fresh
  AtEnd : (r : Route) (at : Stage) (path : Path) (from : Reached) → GoesFrom r at path from
      → ends path from → MayDecideWhere ends r at

abbrev pub MayDecideAt : List (Option Node) → Route → Stage → Type 0
MayDecideAt nodes = MayDecideWhere (EndsAt nodes)

-- no other call holds the inode that was found
abbrev pub IsFreeThere : (ℕ → Option ℕ) → ℕ → Located → Type 0
IsFreeThere holder number located.NoWay = Unit {0}
IsFreeThere holder number (located.Missing parent) = Unit {0}
IsFreeThere holder number (located.At parent node) = IsFree holder number node

-- no other call holds the inode of the call's path, or of its new path; nothing is required at the
-- root
abbrev pub AreFree : (ℕ → Option ℕ) → ℕ → Route → Ways → Type 0
AreFree holder number NoPath ways = Unit {0}
AreFree holder number (Along []) ways = Unit {0}
AreFree holder number (Along (name ∷ path)) ways = IsFreeThere holder number ways.path
AreFree holder number (Between old new) ways = IsFreeThere holder number ways.new

-- if a call on two paths found an inode at the old path, it holds that path's parent
abbrev pub HoldsParent : Route → Stage → Ways → Type 0
HoldsParent (Between old new) at ways = IsThere ways.path
    → (common : Reached) × (from : Reached) × (to : Reached)
    × (at ≡ stage.Ends common from to) × (from.walked + 1 ≡ length old)
HoldsParent other at ways = Unit {0}

-- the call can be decided now, with these results of path resolution
pub record DecidesNow (old new : StoreState) (w : Walker) (ways : Ways) : Type 0 where
  pub may : MayDecideAt old.nodes w.route w.at
  pub located : AreWays new w.route ways
  pub free : AreFree (holder_of old.nodes) w.number w.route ways
  pub holds : HoldsParent w.route w.at ways
  pub looked : LookedUp old new 2

abbrev pub Advances : StoreState → StoreState → Walker → Walk → Type 0
Advances old new w (Moved after) = AdvancesTo old new w after
Advances old new w (Blocked holder) = WaitsFor old new w holder
Advances old new w (Ready ways) = DecidesNow old new w ways
