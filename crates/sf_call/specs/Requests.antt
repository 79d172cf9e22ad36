-- The target of a request, and the kind of its reply.
use Rattle.std.specs.Prelude.{ℕ}
use Rattle.sf_path.specs.Names.{Path}
use Rattle.sf_call.specs.declared.request.Request.{Request}
use Rattle.sf_field.specs.declared.operation.PathOp.TheVariants as path_op
use Rattle.sf_field.specs.declared.operation.HandleOp.TheVariants as handle_op
use Rattle.sf_call.specs.declared.request.Request.TheVariants as request

-- a handle, one path or two paths
pub data Target : Type 0 where
  ByHandle : (handle : ℕ) → Target
  OnPath : (path : Path) → Target
  OnPaths : (old : Path) → (new : Path) → Target

abbrev pub target_of : Request → Target
target_of (request.OnPath op path) = OnPath path
target_of (request.OnPaths op old new) = OnPaths old new
target_of (request.ByHandle op handle) = ByHandle handle
target_of (request.Write handle offset bytes) = ByHandle handle

-- the reply on success: a status, attributes, a handle, file data or names; each request may also
-- fail with a status
pub data Wanted : Type 0 where
  StatusAlone : Wanted
  Attributes : Wanted
  NewHandle : Wanted
  Bytes : Wanted
  Entries : Wanted

abbrev pub wanted_by : Request → Wanted
wanted_by (request.OnPath path_op.Stat path) = Attributes
wanted_by (request.OnPath (path_op.SetStat attrs) path) = StatusAlone
wanted_by (request.OnPath (path_op.Mkdir attrs) path) = StatusAlone
wanted_by (request.OnPath path_op.Rmdir path) = StatusAlone
wanted_by (request.OnPath path_op.Remove path) = StatusAlone
wanted_by (request.OnPath path_op.OpenDir path) = NewHandle
wanted_by (request.OnPath (path_op.Open flags attrs) path) = NewHandle
wanted_by (request.OnPaths op old new) = StatusAlone
wanted_by (request.ByHandle handle_op.Close handle) = StatusAlone
wanted_by (request.ByHandle handle_op.FStat handle) = Attributes
wanted_by (request.ByHandle (handle_op.FSetStat attrs) handle) = StatusAlone
wanted_by (request.ByHandle (handle_op.Read offset len) handle) = Bytes
wanted_by (request.ByHandle handle_op.ReadDir handle) = Entries
wanted_by (request.Write handle offset bytes) = StatusAlone
