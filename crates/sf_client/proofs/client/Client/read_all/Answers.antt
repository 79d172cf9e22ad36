use Rattle.std.proofs.Common.{arith}
use Rattle.std.proofs.lemmas.Result.{err_from_is_err_and}
use Rattle.sf_client.specs.Calls.{items_of}
use Rattle.sf_client.proofs.Reading.{sized, unsized}
use Rattle.sf_client.proofs.client.Client.read_all.Goals as goal

pub returns-in_err-size : goal.returns-in_err-size
returns-in_err-size g c =
    let p = err_from_is_err_and c.from_residual.result c.from_residual.ensures.1 in
    rw (p.1, p.2) (unsized c.args.handle _ _ c.in_err-size.field-0.0 c.in_err-size.ensures)

pub returns : goal.returns
returns g c = sized c.args.handle _ _ _ c.in_ok-size.size (items_of c.read_pieces.result) c.in_ok-size.ensures (let large = c.if-size-gt-MOST_GATHERED.false in omega (arith, large)) c.read_pieces.ensures
