use Rattle.std.proofs.Common.{◌≡◌, ◌+◌}
use Rattle.sf_audit.specs.Audits.{fronts}
use Rattle.std.proofs.Common.{take}
use Rattle.sf_audit.proofs.audits.are_few.Given as goal

-- what remains, plus the fronts so far, is the limit
abbrev pub invariant-loop-transcript : goal.invariant-loop-transcript
invariant-loop-transcript l = l.left + fronts l.records (take l.transcript-index l.transcripts) ≡ l.most
