-- The fields of a request are in range, as its type holds them.
use denote.Laws.{Is}
use mir.Val.{Val}
use Rattle.std.specs.Prelude.{List}
use Rattle.sf_path.proofs.Laws.{held_path}
use Rattle.sf_field.proofs.Laws.{held_attrs, held_bytes}
use Rattle.sf_call.specs.Values.{IsRequest}
use Rattle.sf_call.specs.declared.request.Request.{Request}
use Rattle.sf_field.specs.declared.operation.PathOp.TheVariants as path_op
use Rattle.sf_field.specs.declared.operation.HandleOp.TheVariants as handle_op
use Rattle.sf_call.specs.declared.request.Request.TheVariants.{OnPath, OnPaths, ByHandle, Write}
use Rattle.sf_call.specs.contracts.request.Request.{the_row}

pub held_request : (request : Request) (vs : List Val) → Is the_row request vs → IsRequest request
held_request (OnPath path_op.Stat path) vs is = held_path path _ is.1.1.1.1.1.0
held_request (OnPath (path_op.SetStat attrs) path) vs is = (held_path path _ is.1.1.1.1.1.0, held_attrs attrs _ is.1.1.1.1.0.1.1.1.1.0)
held_request (OnPath (path_op.Mkdir attrs) path) vs is = (held_path path _ is.1.1.1.1.1.0, held_attrs attrs _ is.1.1.1.1.0.1.1.1.1.0)
held_request (OnPath path_op.Rmdir path) vs is = held_path path _ is.1.1.1.1.1.0
held_request (OnPath path_op.Remove path) vs is = held_path path _ is.1.1.1.1.1.0
held_request (OnPath path_op.OpenDir path) vs is = held_path path _ is.1.1.1.1.1.0
held_request (OnPath (path_op.Open flags attrs) path) vs is = (held_path path _ is.1.1.1.1.1.0, held_attrs attrs _ is.1.1.1.1.0.1.1.1.1.1.0)
held_request (OnPaths op old new) vs is = (held_path old _ is.1.1.1.1.1.0, held_path new _ is.1.1.1.1.1.1.0)
held_request (ByHandle handle_op.Close handle) vs is = is.1.1.1.1.1.0.1
held_request (ByHandle handle_op.FStat handle) vs is = is.1.1.1.1.1.0.1
held_request (ByHandle (handle_op.FSetStat attrs) handle) vs is = (is.1.1.1.1.1.0.1, held_attrs attrs _ is.1.1.1.1.0.1.1.1.1.0)
held_request (ByHandle (handle_op.Read offset len) handle) vs is = (is.1.1.1.1.1.0.1, is.1.1.1.1.0.1.1.1.1.0.1, is.1.1.1.1.0.1.1.1.1.1.0.1)
held_request (ByHandle handle_op.ReadDir handle) vs is = is.1.1.1.1.1.0.1
held_request (Write handle offset bytes) vs is = (is.1.1.1.1.0.1, is.1.1.1.1.1.0.1, held_bytes bytes _ is.1.1.1.1.1.1.0)
