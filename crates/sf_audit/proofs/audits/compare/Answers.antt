use Rattle.sf_audit.proofs.Faults.{faulty_disagrees}
use Rattle.sf_audit.proofs.audits.compare.Goals as goal

pub returns-in-Some-clause-ok : goal.returns-in-Some-clause-ok
returns-in-Some-clause-ok c = ((λ e. absurd cc), (λ a. absurd (faulty_disagrees _ _ _ c.in-Some.ensures.some a.each)))
