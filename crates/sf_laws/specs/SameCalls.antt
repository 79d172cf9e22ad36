-- The calls of a history, without their replies.
use Rattle.std.specs.Prelude.{◌≢◌, ℕ, List, map}
use Rattle.std.specs.List.{AllByRecursion}
use Rattle.sf_reply.specs.declared.reply.Reply.TheVariants as reply
use Rattle.sf_call.specs.declared.request.Request.{Request}
use Rattle.sf_call.specs.declared.record.Record.{Record}
use Rattle.sf_call.specs.declared.record.Record.TheVariants.{Did, Left}

-- a call of a session at a timestamp, or the end of a session
pub data AskedCall : Type 0 where
  Asked : (number session moment : ℕ) → (request : Request) → AskedCall
  Leaving : (session : ℕ) → AskedCall

abbrev pub call_asked : Record → AskedCall
call_asked (Did number session moment request given) = Asked number session moment request
call_asked (Left session) = Leaving session

abbrev pub calls_asked : List Record → List AskedCall
calls_asked history = map call_asked history

-- the record is not a call that ran out of memory
abbrev pub HadMemory : Record → Type 0
HadMemory (Did number session moment request given) = given ≢ reply.NoMemory
HadMemory (Left session) = Unit {0}

abbrev pub AllHadMemory : List Record → Type 0
AllHadMemory history = AllByRecursion HadMemory history
