-- A session of `stdio` is a conversation.
use Rattle.std.proofs.Common.{[], Result, Ok, Err}
use Rattle.std.specs.Prelude.{IfOk, IfErr}
use Rattle.sf_session.specs.declared.cause.Cause.{Cause}
use Rattle.sf_session.specs.declared.fault.ServeFault.{ServeFault}
use Rattle.sf_engine.specs.HasLog.{HasLog}
use Rattle.sf_alone.specs.OnEngine.{IoState, ServesLine, StopsEarly}
use Rattle.sf_alone.specs.Talks.{ConversesTo}
use Rattle.sf_alone.proofs.Laws.{talk_of, talked_whole, talked_some}
use Rattle.sf_program.specs.Statuses.{ServingComesTo}

pub comes_talked : (start now : IoState) (outcome : Result Cause ServeFault) → HasLog start.engine [] → ServingComesTo start now outcome → ConversesTo (talk_of start) (talk_of now) outcome
comes_talked start now (Ok cause) has comes = talked_whole start now cause has comes
comes_talked start now (Err fault) has comes = talked_some start now fault has comes

-- the outcome of serving, by its two clauses
pub comes_to : (start now : IoState) (outcome : Result Cause ServeFault) → IfOk outcome (λ cause. ServesLine start now cause) → IfErr outcome (λ fault. StopsEarly start now fault) → ServingComesTo start now outcome
comes_to start now (Ok cause) served stopped = served
comes_to start now (Err fault) served stopped = stopped
