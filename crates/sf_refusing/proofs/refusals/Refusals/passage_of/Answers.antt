use Rattle.std.proofs.Common.{refl}
use Rattle.sf_refusing.specs.declared.refusals.Refusals.{Refusals}
use Rattle.sf_refusing.proofs.Sessions.{pushed_has, same_has}
use Rattle.sf_refusing.proofs.refusals.Refusals.passage_of.Goals as goal

pub passages-preserved : goal.passages-preserved
passages-preserved c = λ journal H.
    let now : Refusals = record { alloc = c.passages.self.alloc; passages = c.push.new.self; rules = c.passages.self.rules } in
    pushed_has c.passages.self now journal c.new.result c.in_ok-push.ensures.items refl c.new.ensures.held c.new.ensures.output c.new.ensures.begun (c.passages.invariant journal H)

pub returns-in_err-push-clause-has : goal.returns-in_err-push-clause-has
returns-in_err-push-clause-has c = λ journal H.
    let now : Refusals = record { alloc = c.passages.self.alloc; passages = c.push.new.self; rules = c.passages.self.rules } in
    same_has c.passages.self now journal c.in_err-push.ensures.items refl (c.passages.invariant journal H)
