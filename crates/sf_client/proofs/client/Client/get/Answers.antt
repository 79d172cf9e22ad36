use Rattle.std.proofs.lemmas.Result.{err_from_is_err_and}
use Rattle.sf_field.specs.Attributes.{no_attrs}
use Rattle.sf_field.specs.declared.operation.PathOp.TheVariants as path_op
use Rattle.sf_request.specs.declared.request.WireRequest.TheVariants as request
use Rattle.sf_client.specs.Calls.{to_read, ReadsAll, items_of}
use Rattle.sf_client.proofs.Runs.{by_handle_unopened, by_handle_done, closes_items}
use Rattle.sf_client.proofs.client.Client.get.Goals as goal

pub returns-in_err-handle : goal.returns-in_err-handle
returns-in_err-handle g c =
    let p = err_from_is_err_and c.from_residual.result c.from_residual.ensures.1 in
    rw (p.1, p.2) (by_handle_unopened ReadsAll (request.OnPath (path_op.Open to_read no_attrs) c.args.path.now) _ _ c.in_err-handle.field-0.0 c.in_err-handle.ensures)

pub returns : goal.returns
returns g c = by_handle_done ReadsAll (record { number = c.in_ok-handle.handle; client = c.open_file.new.self; exchanged = c.in_ok-handle.ensures }) (items_of c.read_all-bytes.result) _ (items_of c.closed.result) _ c.read_all-bytes.ensures (closes_items c.in_ok-handle.handle c.read_all-bytes.result c.read_all-bytes.new.self _ _ c.closed.ensures)
