use Rattle.std.specs.List.{AllByRecursion}
use Rattle.sf_audit.specs.Audits.{Follows}
use Rattle.std.proofs.Common.{take}
use Rattle.sf_audit.proofs.audits.first_fault.Given as goal

-- the transcripts so far match the records
abbrev pub invariant-loop-transcript : goal.invariant-loop-transcript
invariant-loop-transcript l = AllByRecursion (Follows l.records) (take l.transcript-index l.transcripts)
