-- The position of a call on its paths.
use Rattle.std.specs.Prelude.{◌≡◌, ◌≢◌, ◌<◌, ◌≤◌, ◌+◌, ℕ, false, List, [], ◌∷◌, length, take, slice_get}
use Rattle.sf_path.specs.Names.{Path}
use Rattle.sf_call.specs.declared.call.Reached.{Reached}
use Rattle.sf_call.specs.declared.call.Stage.{Stage}
use Rattle.sf_call.specs.declared.call.Stage.TheVariants as stage
use Rattle.sf_call.specs.Routes.{Route, are_nested}
use Rattle.sf_call.specs.Routes.Route.{NoPath, Along, Between}
use Rattle.sf_inode.specs.Stores.{StoreState, child_of, is_directory_at}
use Rattle.sf_keeps.specs.Steps.{walk}
use Rattle.sf_coupling.specs.Walks.{Namespace, HeldPath, Holds, LeadsTo}

-- both paths have the same first `count` names, and then differ
pub record PartAt (old new : Path) (count : ℕ) : Type 0 where
  pub alike : take count old ≡ take count new
  pub short : count < length old
  pub short_new : count < length new
  pub apart : slice_get old count ≢ slice_get new count

abbrev pub reached : ℕ → ℕ → Reached
reached walked node = record { walked = walked; node = node }

-- After its two paths have parted, a call holds the last common directory and one directory on each
-- path. The end on the old path proceeds first. The other stays at the common directory until the
-- first reaches the old path's parent.
pub record AreEnds (old new : Path) (common from to : Reached) : Type 0 where
  pub part : PartAt old new common.walked
  pub old_below : common.walked ≤ from.walked
  pub new_below : common.walked ≤ to.walked
  pub short : from.walked < length old
  pub short_new : to.walked < length new
  pub in_turn : from.walked + 1 < length old → to.walked ≡ common.walked

-- two paths of a route part: neither is a prefix of the other
abbrev pub IsRoute : Route → Type 0
IsRoute NoPath = Unit {0}
IsRoute (Along path) = Unit {0}
IsRoute (Between old new) = are_nested old new ≡ false

-- the position of a call on its route; a call that is copying has none
pub data IsPosition : Route → Stage → Type 0 where
  Starts : (r : Route) → IsRoute r → IsPosition r stage.Fresh
  IsOn : (path : Path) (walked node : ℕ) → walked < length path
      → IsPosition (Along path) (stage.At walked node)
  IsBefore : (old new : Path) (walked node count : ℕ) → PartAt old new count → walked < count
      → IsPosition (Between old new) (stage.At walked node)
  IsApart : (old new : Path) (common from to : Reached) → AreEnds old new common from to
      → IsPosition (Between old new) (stage.Ends common from to)

-- the directories that a call has reached, with the length of the path to each
abbrev pub reached_at : Stage → List Reached
reached_at stage.Fresh = []
reached_at (stage.At walked node) = reached walked node ∷ []
reached_at (stage.Ends common from to) = common ∷ from ∷ to ∷ []
reached_at (stage.Copies node left) = []

abbrev pub paths_on : Route → List Path
paths_on NoPath = []
paths_on (Along path) = path ∷ []
paths_on (Between old new) = old ∷ old ∷ new ∷ []

-- this prefix of the path leads to the inode
abbrev pub held_path_on : Path → Reached → HeldPath
held_path_on path at = record { path = take at.walked path; node = at.node }

abbrev pub held_paths_on : List Reached → List Path → List HeldPath
held_paths_on [] paths = []
held_paths_on (r ∷ at) [] = []
held_paths_on (r ∷ at) (path ∷ paths) = held_path_on path r ∷ held_paths_on at paths

-- the paths that a call holds on its route
abbrev pub held_paths_of : Route → Stage → List HeldPath
held_paths_of route at = held_paths_on (reached_at at) (paths_on route)

-- the inodes that a call holds: directories, or the file that it copies into
abbrev pub nodes_in : List Reached → List ℕ
nodes_in [] = []
nodes_in (r ∷ at) = r.node ∷ nodes_in at

abbrev pub nodes_of : Stage → List ℕ
nodes_of (stage.Copies node left) = node ∷ []
nodes_of at = nodes_in (reached_at at)

-- the directories and paths of a store
abbrev pub namespace : StoreState → Namespace
namespace s = record {
  leads = λ path. walk (child_of s.nodes) s.root path;
  is_directory = is_directory_at s.nodes;
}

-- A call holds its route: the prefixes that it has resolved lead to the directories that it holds.
pub record HoldsWay (s : StoreState) (route : Route) (at : Stage) : Type 0 where
  pub position : IsPosition route at
  pub leads : (held_path : HeldPath) → Holds (held_paths_of route at) held_path
      → LeadsTo (namespace s) held_path
