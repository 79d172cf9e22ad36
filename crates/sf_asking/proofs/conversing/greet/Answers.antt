use Rattle.std.proofs.Common.{inl, inr}
use Rattle.std.proofs.lemmas.Result.{err_from_is_err_and}
use Rattle.sf_asking.proofs.conversing.greet.Goals as goal

pub returns-in_err-say_init : goal.returns-in_err-say_init
returns-in_err-say_init g c =
    let p = err_from_is_err_and c.from_residual.result c.from_residual.ensures.1 in
    rw (p.1, p.2) (inl c.in_err-say_init.ensures)

pub returns-in_err-take_all : goal.returns-in_err-take_all
returns-in_err-take_all g c =
    let p = err_from_is_err_and c.from_residual-in_err-take_all.result c.from_residual-in_err-take_all.ensures.1 in
    rw (p.1, p.2) (inr (_, c.in_ok-say_init.ensures, c.in_err-take_all.ensures))
