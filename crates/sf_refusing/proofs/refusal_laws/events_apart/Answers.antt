use Rattle.sf_refusing.proofs.RefusalLaws.{apart_all}
use Rattle.sf_refusing.proofs.refusal_laws.events_apart.Goals as goal

pub returns : goal.returns
returns c = λ refusals journal entries H. apart_all refusals entries journal H
