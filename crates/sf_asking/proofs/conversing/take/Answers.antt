use Rattle.std.proofs.Common.{List, ℕ, refl, inl, inr, subst}
use Rattle.std.proofs.lemmas.Result.{err_from_is_err_and}
use Rattle.sf_asking.specs.Asking.{IsTaken}
use Rattle.sf_asking.proofs.conversing.take.Goals as goal

pub returns-in_default : goal.returns-in_default
returns-in_default g c = (refl, inr (inl (c.in_default.ensures.none, refl)))

pub returns-in_err-reply : goal.returns-in_err-reply
returns-in_err-reply g c =
    let p = err_from_is_err_and c.from_residual.result c.from_residual.ensures.1 in
    rw (p.1, p.2) (refl, inl (c.in-Some.output.now, c.in-Some.ensures.some, c.in_err-reply.ensures.err))

pub returns-in-Ok : goal.returns-in-Ok
returns-in-Ok g c =
    subst (λ (output : List ℕ). IsTaken g.E.Sftp.has_log c.args.session output c.args.engine.now c.apply.new.self) c.in_ok-reply.ensures.ok
    (c.in-Some.ensures.some, (_, (c.in-Ok.ensures.on, tt)))

pub returns-in-Err : goal.returns-in-Err
returns-in-Err g c = (c.in-Err.ensures.err, inr (inr (_, _, (c.in-Err.ensures.on, c.in-Err.ensures.err), c.fault_for.ensures)))
