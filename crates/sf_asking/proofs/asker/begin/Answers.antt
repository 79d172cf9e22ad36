use Rattle.std.proofs.Common.{inl, inr}
use Rattle.std.proofs.lemmas.Result.{err_from_is_err_and}
use Rattle.sf_asking.proofs.asker.begin.Goals as goal

pub returns-in_err-session : goal.returns-in_err-session
returns-in_err-session g c =
    let p = err_from_is_err_and c.from_residual.result c.from_residual.ensures.1 in
    rw (p.1, p.2) (inl c.in_err-session.ensures)

pub returns-in_err-welcome : goal.returns-in_err-welcome
returns-in_err-welcome g c =
    let p = err_from_is_err_and c.from_residual-in_err-welcome.result c.from_residual-in_err-welcome.ensures.1 in
    rw (p.1, p.2) (inr (_, _, c.in_ok-session.ensures, c.in_err-welcome.ensures))

pub returns : goal.returns
returns g c = (_, c.in_ok-session.ensures, c.in_ok-welcome.ensures)
