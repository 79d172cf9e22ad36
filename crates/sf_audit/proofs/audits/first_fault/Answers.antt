use Rattle.sf_audit.proofs.Faults.{one_more, first_wrong}
use Rattle.sf_audit.proofs.audits.first_fault.Goals as goal

pub loop-transcript-preserved : goal.loop-transcript-preserved
loop-transcript-preserved c =
    one_more c.args.records.now c.args.transcripts.now c.loop-transcript.transcript-index c.transcript-item.result c.loop-transcript-test.true c.transcript-item.is c.loop-transcript.invariant c.in_default.ensures.none

pub returns-in-Some-clause-some : goal.returns-in-Some-clause-some
returns-in-Some-clause-some c =
    first_wrong c.args.records.now c.args.transcripts.now c.loop-transcript.transcript-index c.transcript-item.result c.in-Some.fault c.loop-transcript-test.true c.transcript-item.is c.loop-transcript.invariant c.in-Some.ensures.some
