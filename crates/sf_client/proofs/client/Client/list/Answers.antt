use Rattle.std.proofs.lemmas.Result.{err_from_is_err_and}
use Rattle.sf_field.specs.declared.operation.PathOp.TheVariants as path_op
use Rattle.sf_request.specs.declared.request.WireRequest.TheVariants as request
use Rattle.sf_client.specs.Calls.{ListsAll, items_of}
use Rattle.sf_client.proofs.Runs.{by_handle_unopened, by_handle_done, closes_items}
use Rattle.sf_client.proofs.client.Client.list.Goals as goal

pub returns-in_err-handle : goal.returns-in_err-handle
returns-in_err-handle g c =
    let p = err_from_is_err_and c.from_residual.result c.from_residual.ensures.1 in
    rw (p.1, p.2) (by_handle_unopened ListsAll (request.OnPath path_op.OpenDir c.args.path.now) _ _ c.in_err-handle.field-0.0 c.in_err-handle.ensures)

pub returns : goal.returns
returns g c = by_handle_done ListsAll (record { number = c.in_ok-handle.handle; client = c.open_directory.new.self; exchanged = c.in_ok-handle.ensures }) (items_of c.list_all-entries.result) _ (items_of c.closed.result) _ c.list_all-entries.ensures (closes_items c.in_ok-handle.handle c.list_all-entries.result c.list_all-entries.new.self _ _ c.closed.ensures)
