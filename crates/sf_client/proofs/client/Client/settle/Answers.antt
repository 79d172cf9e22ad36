use Rattle.std.proofs.lemmas.Result.{err_from_is_err_and}
use Rattle.sf_client.proofs.Steps.{settled_err, settled_ok}
use Rattle.sf_client.proofs.client.Client.settle.Goals as goal

pub returns-in_err-reply-clause-comes : goal.returns-in_err-reply-clause-comes
returns-in_err-reply-clause-comes g c =
    let p = err_from_is_err_and c.from_residual-in_err-reply.result c.from_residual-in_err-reply.ensures.1 in
    rw (p.1, p.2) (settled_err _ c.args.pending c.in_err-reply.field-0.0 c.requires c.in_ok-send.ensures.ok c.in_err-reply.ensures)

pub returns-in-None-clause-comes : goal.returns-in-None-clause-comes
returns-in-None-clause-comes g c = settled_ok _ c.args.pending c.in_ok-reply.reply c.requires c.in_ok-send.ensures.ok c.in_ok-reply.ensures

pub returns-in-Some-clause-comes : goal.returns-in-Some-clause-comes
returns-in-Some-clause-comes g c = λ q is pending. (c.in_ok-reply.reply, c.in-Some.ensures, settled_ok _ c.args.pending c.in_ok-reply.reply c.requires c.in_ok-send.ensures.ok c.in_ok-reply.ensures q is pending)
