-- The ranges of the values of a call.
use Rattle.std.specs.Prelude.{ℕ, ◌<◌, ◌^◌}
use Rattle.sf_path.specs.Names.{IsPath}
use Rattle.sf_field.specs.Attributes.{AttrsFit}
use Rattle.sf_field.specs.Fields.{AreBytes}
use Rattle.sf_call.specs.declared.request.Request.{Request}
use Rattle.sf_field.specs.declared.operation.PathOp.TheVariants as path_op
use Rattle.sf_field.specs.declared.operation.HandleOp.TheVariants as handle_op
use Rattle.sf_call.specs.declared.request.Request.TheVariants.{OnPath, OnPaths, ByHandle, Write}

-- each field of a request is in the range of its type
abbrev pub IsRequest : Request → Type 0
IsRequest (OnPath path_op.Stat path) = IsPath path
IsRequest (OnPath (path_op.SetStat attrs) path) = IsPath path × AttrsFit attrs
IsRequest (OnPath (path_op.Mkdir attrs) path) = IsPath path × AttrsFit attrs
IsRequest (OnPath path_op.Rmdir path) = IsPath path
IsRequest (OnPath path_op.Remove path) = IsPath path
IsRequest (OnPath path_op.OpenDir path) = IsPath path
IsRequest (OnPath (path_op.Open flags attrs) path) = IsPath path × AttrsFit attrs
IsRequest (OnPaths op old new) = IsPath old × IsPath new
IsRequest (ByHandle handle_op.Close handle) = handle < 2 ^ 64
IsRequest (ByHandle handle_op.FStat handle) = handle < 2 ^ 64
IsRequest (ByHandle (handle_op.FSetStat attrs) handle) = (handle < 2 ^ 64) × AttrsFit attrs
IsRequest (ByHandle (handle_op.Read offset len) handle) =
    (handle < 2 ^ 64) × (offset < 2 ^ 64) × (len < 2 ^ 32)
IsRequest (ByHandle handle_op.ReadDir handle) = handle < 2 ^ 64
IsRequest (Write handle offset bytes) = (handle < 2 ^ 64) × (offset < 2 ^ 64) × AreBytes bytes

-- so are the call's number, its session's number, its timestamp (seconds since 1970) and its
-- request
pub record IsCall (number session moment : ℕ) (request : Request) : Type 0 where
  pub number_fits : number < 2 ^ 64
  pub session_fits : session < 2 ^ 64
  pub moment_fits : moment < 2 ^ 32
  pub request_fits : IsRequest request
