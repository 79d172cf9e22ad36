use Rattle.std.proofs.Common.{◌↔◌, map, drop}
use Rattle.std.specs.List.{AllByRecursion}
use Rattle.sf_audit.specs.Audits.{call_record, call_records, IsIn}
use Rattle.sf_audit.proofs.audits.are_told.Given as goal

-- the records contain the calls so far
abbrev pub invariant-loop-call : goal.invariant-loop-call
invariant-loop-call l =
    AllByRecursion (IsIn (call_records l.session l.records)) (map call_record l.calls)
    ↔ AllByRecursion (IsIn (call_records l.session l.records)) (map call_record (drop l.call-index l.calls))
