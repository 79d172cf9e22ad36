use Rattle.std.proofs.Common.{◌≡◌, ◌↔◌, map, drop}
use Rattle.sf_audit.specs.Audits.{call_record, call_records}
use Rattle.sf_audit.proofs.audits.are_same_calls.Given as goal

-- the records so far are the calls that no longer remain
abbrev pub invariant-loop-entry : goal.invariant-loop-entry
invariant-loop-entry l =
    (map call_record l.calls ≡ call_records l.session l.records) ↔ (map call_record l.left ≡ call_records l.session (drop l.entry-index l.records))
