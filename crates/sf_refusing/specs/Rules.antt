-- The requests that a rule matches.
use Rattle.std.specs.Prelude.{ℕ, nat_eq, List, [], ◌∷◌, ◌++◌, Bool, true, ◌&&◌, Option, Some, None}
use Rattle.std.specs.List.{list_any}
use Rattle.sf_path.specs.Names.{Path}
use Rattle.sf_path.specs.Order.{same_path}
use Rattle.sf_request.specs.declared.request.WireRequest.{WireRequest}
use Rattle.sf_field.specs.declared.operation.PathOp.TheVariants as path_op
use Rattle.sf_field.specs.declared.operation.PairOp.TheVariants as pair_op
use Rattle.sf_field.specs.declared.operation.HandleOp.TheVariants as handle_op
use Rattle.sf_request.specs.declared.request.WireRequest.TheVariants as request
use Rattle.sf_session.specs.Asking.{path_at}
use Rattle.sf_refusing.specs.declared.rule.RequestKind.{RequestKind}
use Rattle.sf_refusing.specs.declared.rule.RequestKind.TheVariants as kind
use Rattle.sf_refusing.specs.declared.rule.Rule.{Rule}
use Rattle.sf_refusing.specs.contracts.rule.RequestKindPartialEq.TheImpl.{ghosts}

abbrev pub kind_asked : WireRequest → RequestKind
kind_asked (request.OnPath (path_op.Open flags attrs) filename) = kind.Open
kind_asked (request.ByHandle handle_op.Close handle) = kind.Close
kind_asked (request.ByHandle (handle_op.Read offset len) handle) = kind.Read
kind_asked (request.Write handle offset bytes) = kind.Write
kind_asked (request.LStat path) = kind.LStat
kind_asked (request.ByHandle handle_op.FStat handle) = kind.FStat
kind_asked (request.OnPath (path_op.SetStat attrs) path) = kind.SetStat
kind_asked (request.ByHandle (handle_op.FSetStat attrs) handle) = kind.FSetStat
kind_asked (request.OnPath path_op.OpenDir path) = kind.OpenDir
kind_asked (request.ByHandle handle_op.ReadDir handle) = kind.ReadDir
kind_asked (request.OnPath path_op.Remove path) = kind.Remove
kind_asked (request.OnPath (path_op.Mkdir attrs) path) = kind.Mkdir
kind_asked (request.OnPath path_op.Rmdir path) = kind.Rmdir
kind_asked (request.RealPath path) = kind.RealPath
kind_asked (request.OnPath path_op.Stat path) = kind.Stat
kind_asked (request.OnPaths pair_op.Rename old new) = kind.Rename
kind_asked (request.OnPaths pair_op.PosixRename old new) = kind.PosixRename
kind_asked (request.OnPaths pair_op.Link old new) = kind.Link

-- the path of a text, if it is valid
abbrev pub as_list : Option Path → List Path
as_list None = []
as_list (Some path) = path ∷ []

abbrev pub path_in : List ℕ → List Path
path_in text = as_list (path_at text)

-- the paths that a request names
abbrev pub paths_of : WireRequest → List Path
paths_of (request.OnPath op path) = path_in path
paths_of (request.OnPaths op old new) = path_in old ++ path_in new
paths_of (request.ByHandle op handle) = []
paths_of (request.Write handle offset bytes) = []
paths_of (request.LStat path) = path_in path
paths_of (request.RealPath path) = path_in path

-- a missing part of a rule matches anything
abbrev pub is_any_or : {A : Type 0} → Option A → (A → Bool) → Bool
is_any_or None test = true
is_any_or (Some wanted) test = test wanted

abbrev pub names_path : List Path → Path → Bool
names_path paths path = list_any (λ named. same_path named path) paths

-- whether a rule matches a request of this kind that names these paths
abbrev pub fits : Rule → (session : ℕ) → RequestKind → List Path → Bool
fits rule session asked paths = is_any_or rule.session (λ wanted. nat_eq wanted session)
    && is_any_or rule.kind (λ wanted. ghosts.eq wanted asked)
    && is_any_or rule.path (names_path paths)

-- whether a rule matches a session's request
abbrev pub is_for : Rule → (session : ℕ) → WireRequest → Bool
is_for rule session request = fits rule session (kind_asked request) (paths_of request)
