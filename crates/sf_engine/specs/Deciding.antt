-- Where path resolution stops, so that a call may take effect.
use Rattle.std.specs.Prelude.{◌≡◌, ◌<◌, ◌≤◌, ◌+◌, ◌⊎◌, ℕ, false, length, take}
use Rattle.sf_path.specs.Names.{Path}
use Rattle.sf_call.specs.declared.record.Record.{Record}
use Rattle.sf_call.specs.declared.record.Record.TheVariants.{Did, Left}
use Rattle.sf_call.specs.Tree.{Tree, is_directory}
use Rattle.sf_call.specs.Routes.{Route, route_of}
use Rattle.sf_walk.specs.Routes.{PartAt}
use Rattle.sf_call.specs.Routes.Route.{NoPath, Along, Between}
use Rattle.sf_core.specs.Progress.{EndsWalk}
pub use Rattle.sf_core.specs.Sure.{IsSure}
unfoldable pub use Rattle.sf_core.specs.Sure.{AreSure}

-- the components resolved by this many moves are fewer than the path's, and name no directory
abbrev pub StopsOnWay : Tree → Path → ℕ → Type 0
StopsOnWay tree path moves =
    (0 < moves) × (moves < length path) × (is_directory tree (take moves path) ≡ false)

-- The moves after which a call stops. The first move takes the root, and each further one resolves
-- a component. A call without a path stops at once. A call on one path stops once all components
-- but the last are resolved, or the next one is missing or no directory. A call on two paths stops
-- if its old path stops before its parent. Otherwise it resolves that parent, and then its new path
-- from the last common directory.
abbrev pub WalkStops : Tree → Route → ℕ → Type 0
WalkStops tree NoPath moves = moves ≡ 0
WalkStops tree (Along path) moves = (moves ≡ length path) ⊎ StopsOnWay tree path moves
WalkStops tree (Between old new) moves =
    StopsOnWay tree old moves
    ⊎ ((count : ℕ) × PartAt old new count × ((walked : ℕ) × (count ≤ walked)
    × (moves + count ≡ length old + walked) × EndsWalk tree new walked))

-- the same of a record's call
abbrev pub WalkHasStopped : Tree → ℕ → Record → Type 0
WalkHasStopped tree moves (Did number session moment request given) =
    WalkStops tree (route_of request) moves
WalkHasStopped tree moves (Left session) = ⊥
