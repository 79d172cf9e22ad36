use Rattle.std.proofs.Common.{◌+◌, map, drop}
use Rattle.sf_audit.specs.Audits.{call_record, call_records, IsWithin}
use Rattle.sf_audit.proofs.ToldCalls.{goes_on, none_left, at_the_end}
use Rattle.sf_audit.proofs.audits.are_in_order.Goals as goal

pub loop-entry-preserved : goal.loop-entry-preserved
loop-entry-preserved c =
    goes_on (λ rs. IsWithin (map call_record c.loop-entry.left.now) (call_records c.args.session rs)) c.args.records.now c.loop-entry.entry-index c.entry-item.result c.loop-entry-test.true c.entry-item.is c.loop-entry.invariant (c.past_record-left.ensures (drop (c.loop-entry.entry-index + 1) c.args.records.now))

pub returns : goal.returns
returns c =
    let here = none_left c.is_empty.result c.loop-entry.left.now c.is_empty.ensures in
    let now = at_the_end (λ rs. IsWithin (map call_record c.loop-entry.left.now) (call_records c.args.session rs)) c.args.records.now c.loop-entry.entry-index c.loop-entry-test.false c.loop-entry.invariant in
    ((λ h. now.1 (here.0 h)), (λ a. here.1 (now.0 a)))
