use Rattle.std.proofs.Common.{sym, subst, ◌∙◌, arith}
use Rattle.sf_request.specs.Requests.{Asks}
use Rattle.sf_request.proofs.AskedLaws.{asked_found, asked_only}
use Rattle.sf_request.proofs.reading.read_request.Goals as goal

pub returns-clause-found : goal.returns-clause-found
returns-clause-found c = subst (Asks c.args.body.now) (sym c.asked_of.ensures) (asked_found c.args.body.now (λ i. omega (arith, c.type_inv.body i)))

pub returns-clause-only : goal.returns-clause-only
returns-clause-only c = λ other h. c.asked_of.ensures ∙ asked_only c.args.body.now other (λ i. omega (arith, c.type_inv.body i)) h
