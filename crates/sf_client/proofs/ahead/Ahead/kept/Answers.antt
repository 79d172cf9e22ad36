use Rattle.std.proofs.Common.{inr, arith}
use Rattle.sf_client.specs.declared.fault.ClientFault.TheVariants as fault
use Rattle.sf_client.proofs.ahead.Ahead.kept.Goals as goal

pub returns-in-Some : goal.returns-in-Some
returns-in-Some c = (fault.Status c.in-Some.code, λ none. c.in-Some.ensures, inr (omega (arith, c.if-self-gt0.false), c.stop.ensures))
