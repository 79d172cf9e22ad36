use Rattle.std.proofs.Common.{◌≡◌, length, refl, ◌∙◌, arith}
use Rattle.std.proofs.lemmas.Bool.Decides.{nat_tests}
use Rattle.sf_line.proofs.Writing.{none_sent, more_sent, front_sent, all_sent, fault_sent}
use Rattle.sf_line.proofs.line.write_all.Goals as goal

pub loop-rest-init : goal.loop-rest-init
loop-rest-init g c = record { sent = none_sent _ _ _; incoming = refl; failures = omega arith }

pub loop-rest-preserved : goal.loop-rest-preserved
loop-rest-preserved g c =
    let wrote = c.in_ok-n.ensures in
    record {
      sent = more_sent _ _ c.in_ok-n.n c.loop-rest.invariant.sent wrote.within wrote.added wrote.calls;
      incoming = wrote.incoming ∙ c.loop-rest.invariant.incoming;
      failures = omega (arith, wrote.failures, c.loop-rest.invariant.failures);
    }

pub returns-in_err-n-clause-front : goal.returns-in_err-n-clause-front
returns-in_err-n-clause-front g c = fault_sent _ _ c.loop-rest.invariant.sent c.in_err-n.ensures.err c.in_err-n.ensures.calls

pub returns-clause-front : goal.returns-clause-front
returns-clause-front g c = front_sent c.loop-rest.invariant.sent

pub returns-clause-written : goal.returns-clause-written
returns-clause-written g c =
    let none : length c.loop-rest.rest.now ≡ 0 = grind (arith, nat_tests, c.loop-rest-test.ensures) in
    (all_sent c.loop-rest.invariant.sent none).0

pub returns-clause-calls : goal.returns-clause-calls
returns-clause-calls g c =
    let none : length c.loop-rest.rest.now ≡ 0 = grind (arith, nat_tests, c.loop-rest-test.ensures) in
    (all_sent c.loop-rest.invariant.sent none).1
