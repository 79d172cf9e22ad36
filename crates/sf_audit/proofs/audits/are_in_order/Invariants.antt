use Rattle.std.proofs.Common.{◌↔◌, map, drop}
use Rattle.sf_audit.specs.Audits.{call_record, call_records, IsWithin}
use Rattle.sf_audit.proofs.audits.are_in_order.Given as goal

-- the records so far contain the calls that no longer remain
abbrev pub invariant-loop-entry : goal.invariant-loop-entry
invariant-loop-entry l =
    IsWithin (map call_record l.calls) (call_records l.session l.records) ↔ IsWithin (map call_record l.left) (call_records l.session (drop l.entry-index l.records))
