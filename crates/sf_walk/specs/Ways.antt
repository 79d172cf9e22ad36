-- Path resolution in the store.
use Rattle.std.specs.Prelude.{Some, ◌≡◌, ℕ, ◌+◌, ◌-◌, if◌then◌else◌, List, [], ◌∷◌, length, Option, slice_index_or}
use Rattle.std.specs.Option.{option_map_or}
use Rattle.sf_path.specs.Names.{Name, Path}
use Rattle.sf_call.specs.declared.request.Request.{Request}
use Rattle.sf_call.specs.Requests.{Target, target_of}
use Rattle.sf_call.specs.Requests.Target.{ByHandle, OnPath, OnPaths}
use Rattle.sf_inode.specs.declared.node.Node.{Node}
use Rattle.sf_inode.specs.Stores.{StoreState, child_of, is_directory_at}
use Rattle.sf_call.specs.Routes.{Route, route_kind, route_of}
use Rattle.sf_call.specs.Routes.Route.{NoPath, Along, Between}
use Rattle.sf_call.specs.declared.route.RouteKind.TheVariants as kind
use Rattle.sf_walk.specs.declared.finding.Ways.{Ways}
use Rattle.sf_walk.specs.declared.finding.Located.{Located}
use Rattle.sf_walk.specs.declared.finding.Located.TheVariants as located
use Rattle.sf_call.specs.Attributes.{Object}
use Rattle.sf_inode.specs.Nodes.{object_in}

-- a component is missing: the last one of the path, or an earlier one
abbrev pub missing : ℕ → Path → Located
missing x [] = located.Missing x
missing x (m ∷ p) = located.NoWay

-- resolves a path from the inode x, which has its entry in the directory `above`
abbrev pub way_from : List (Option Node) → ℕ → ℕ → Path → Located
way_from nodes above x [] = located.At above x
way_from nodes above x (n ∷ p) =
    if is_directory_at nodes x then option_map_or (λ y. way_from nodes x y p) (child_of nodes x n)
    (missing x p) else located.NoWay

-- the last name of a path
abbrev pub last_name_of : Path → Name
last_name_of path = slice_index_or path (length path - 1) []

-- the inode number and the object that are found at an inode
abbrev pub found_node : Node → Option (ℕ × Object)
found_node node = Some (node.label, object_in node.metadata node.content)

-- the number of names in the paths
abbrev pub target_names : Target → ℕ
target_names (ByHandle handle) = 0
target_names (OnPath path) = length path
target_names (OnPaths old new) = length old + length new

-- the number of names in the paths of a route
abbrev pub names_on : Route → ℕ
names_on NoPath = 0
names_on (Along path) = length path
names_on (Between old new) = length old + length new

abbrev pub request_names : Request → ℕ
request_names request = target_names (target_of request)

-- the result without a path
abbrev pub no_path : Ways
no_path = record { kind = kind.NoPath; path = located.NoWay; new = located.NoWay }

-- the result for one path
abbrev pub along : Located → Ways
along path = record { kind = kind.Along; path = path; new = located.NoWay }

-- the result for two paths
abbrev pub between : Located → Located → Ways
between path new = record { kind = kind.Between; path = path; new = new }

-- an inode was found
abbrev pub IsThere : Located → Type 0
IsThere (located.NoWay) = ⊥
IsThere (located.Missing parent) = ⊥
IsThere (located.At parent node) = Unit {0}

-- the paths of the route lead there; the new path is unconstrained if the old one leads to no inode
abbrev pub Lead : StoreState → Route → Ways → Type 0
Lead s NoPath ways = Unit {0}
Lead s (Along path) ways = ways.path ≡ way_from s.nodes s.root s.root path
Lead s (Between old new) ways = (ways.path ≡ way_from s.nodes s.root s.root old)
    × (IsThere ways.path → ways.new ≡ way_from s.nodes s.root s.root new)

-- the result is of the route's kind, and the paths of the route lead there
abbrev pub AreWays : StoreState → Route → Ways → Type 0
AreWays s route ways = (ways.kind ≡ route_kind route) × Lead s route ways

abbrev pub IsLocated : StoreState → Request → Ways → Type 0
IsLocated s request ways = AreWays s (route_of request) ways
