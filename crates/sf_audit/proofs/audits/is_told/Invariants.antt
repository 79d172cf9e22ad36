use Rattle.std.proofs.Common.{◌↔◌, drop}
use Rattle.sf_audit.specs.Audits.{call_record, call_records, IsIn}
use Rattle.sf_audit.proofs.audits.is_told.Given as goal

-- none of the records so far is of the call
abbrev pub invariant-loop-entry : goal.invariant-loop-entry
invariant-loop-entry l =
    IsIn (call_records l.session l.records) (call_record l.call) ↔ IsIn (call_records l.session (drop l.entry-index l.records)) (call_record l.call)
