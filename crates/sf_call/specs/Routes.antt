-- The paths that a call resolves by lock coupling (its route).
use Rattle.std.specs.Prelude.{Bool, true, false, ◌||◌, if◌then◌else◌, is_some}
use Rattle.sf_path.specs.Names.{Path}
use Rattle.sf_call.specs.declared.request.Request.{Request}
use Rattle.sf_call.specs.declared.route.RequestPaths.{RequestPaths}
use Rattle.sf_call.specs.declared.route.RequestPaths.TheVariants.{OnePath, TwoPaths}
use Rattle.sf_call.specs.declared.route.RequestPaths.TheVariants as request_paths
use Rattle.sf_call.specs.declared.route.RouteKind.{RouteKind}
use Rattle.sf_call.specs.declared.route.RouteKind.TheVariants as kind
use Rattle.sf_call.specs.declared.route.RoutePaths.{RoutePaths}
use Rattle.sf_call.specs.declared.route.RoutePaths.TheVariants as paths
use Rattle.sf_call.specs.Requests.{Target, target_of}
use Rattle.sf_call.specs.Requests.Target.{ByHandle, OnPath, OnPaths}
use Rattle.sf_call.specs.Tree.{after_front, is_nil}

-- no path, one path, or two paths that diverge
pub data Route : Type 0 where
  NoPath : Route
  Along : (path : Path) → Route
  Between : (old : Path) → (new : Path) → Route

-- whether one path is a prefix of the other
abbrev pub are_nested : Path → Path → Bool
are_nested old new = is_some (after_front old new) || is_some (after_front new old)

-- whether one path is the root
abbrev pub is_rooted : Path → Path → Bool
is_rooted old new = is_nil old || is_nil new

-- The route of a call on two paths: none if one is the root, the old path alone if one is a prefix
-- of the other, and otherwise both.
abbrev pub route_between : Path → Path → Route
route_between old new =
    if is_rooted old new then NoPath else if are_nested old new then Along old else Between old new

abbrev pub route_at : Target → Route
route_at (ByHandle handle) = NoPath
route_at (OnPath path) = Along path
route_at (OnPaths old new) = route_between old new

abbrev pub route_of : Request → Route
route_of request = route_at (target_of request)

-- the route of a request with these paths
abbrev pub route_along : RequestPaths → Route
route_along request_paths.NoPath = NoPath
route_along (OnePath path) = Along path.now
route_along (TwoPaths old new) = route_between old.now new.now

-- whether the route has no path
abbrev pub walks_nothing : Route → Bool
walks_nothing NoPath = true
walks_nothing route = false

-- the kind of a route
abbrev pub route_kind : Route → RouteKind
route_kind NoPath = kind.NoPath
route_kind (Along path) = kind.Along
route_kind (Between old new) = kind.Between

-- the route that a value of `RoutePaths` represents
abbrev pub route_in : RoutePaths → Route
route_in paths.NoPath = NoPath
route_in (paths.Along path) = Along path.now
route_in (paths.Between old new) = Between old.now new.now
