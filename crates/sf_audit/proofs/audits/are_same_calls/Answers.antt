use Rattle.std.proofs.Common.{◌≡◌, ◌+◌, map, drop}
use Rattle.sf_audit.specs.Audits.{call_record, call_records}
use Rattle.sf_audit.proofs.ToldCalls.{goes_on, ends_here}
use Rattle.sf_audit.proofs.audits.are_same_calls.Goals as goal

pub returns-in-None : goal.returns-in-None
returns-in-None c =
    ((λ h. absurd cc), (λ a. absurd (ends_here (λ rs. map call_record c.loop-entry.left.now ≡ call_records c.args.session rs) c.args.records.now c.loop-entry.entry-index c.entry-item.result c.loop-entry-test.true c.entry-item.is c.loop-entry.invariant (c.in-None.ensures (drop (c.loop-entry.entry-index + 1) c.args.records.now)) a)))

pub loop-entry-preserved : goal.loop-entry-preserved
loop-entry-preserved c =
    goes_on (λ rs. map call_record c.loop-entry.left.now ≡ call_records c.args.session rs) c.args.records.now c.loop-entry.entry-index c.entry-item.result c.loop-entry-test.true c.entry-item.is c.loop-entry.invariant (c.in-Some.ensures (drop (c.loop-entry.entry-index + 1) c.args.records.now))
