use Rattle.std.proofs.Common.{inr}
use Rattle.sf_walk.proofs.Trimmed.{served_trimmed}
use Rattle.sf_walk.proofs.Rooted.{wanted_then}
use Rattle.sf_walk.proofs.calls.decide.Goals as goal

pub returns-in-Ok-clause-served : goal.returns-in-Ok-clause-served
returns-in-Ok-clause-served c = λ t kept fresh. inr (served_trimmed c.answer.new.store c.trim.new.self t _ c.in-Ok.replies.0 (c.in-Ok.ensures.served t kept fresh) c.trim.ensures.nodes c.trim.ensures.rest)

pub returns-in-Ok-clause-sure : goal.returns-in-Ok-clause-sure
returns-in-Ok-clause-sure c = λ t kept fresh _. served_trimmed c.answer.new.store c.trim.new.self t _ c.in-Ok.replies.0 (c.in-Ok.ensures.served t kept fresh) c.trim.ensures.nodes c.trim.ensures.rest

pub returns-in-Err-clause-sure : goal.returns-in-Err-clause-sure
returns-in-Err-clause-sure c = λ t kept fresh sure. absurd (wanted_then _ _ (c.in-Err.ensures.wants t kept fresh) c.in-Err.ensures.sure sure)
