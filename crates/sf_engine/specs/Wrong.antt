-- Wrong logs, each for one reason. Session 1 is fed INIT and MKDIR of `/a`, with the id
-- 7, and in `shared_record` once more, with the id 9.
use Rattle.std.specs.Prelude.{ℕ, List, [], ◌∷◌, ◌++◌, Vec, false}
use Rattle.std.specs.Global.{Global}
use Rattle.sf_reply.specs.declared.reply.Reply.{Reply}
use Rattle.sf_reply.specs.declared.reply.Reply.TheVariants as reply
use Rattle.sf_reply.specs.declared.reply.StatusCode.TheVariants.{Success, Failure}
use Rattle.sf_call.specs.declared.request.Request.{Request}
use Rattle.sf_field.specs.declared.operation.PathOp.TheVariants as path_op
use Rattle.sf_call.specs.declared.request.Request.TheVariants as request
use Rattle.sf_call.specs.declared.record.Record.{Record}
use Rattle.sf_call.specs.declared.record.Record.TheVariants.{Did}
use Rattle.sf_laws.specs.Examples.{a, no_attrs}
use Rattle.sf_session.specs.Responses.{Response, Version, ByCall}
use Rattle.sf_engine.specs.declared.event.Event.TheVariants.{Open}
use Rattle.sf_engine.specs.declared.event.EngineFault.TheVariants.{Sessions}
use Rattle.sf_engine.specs.Promise.{Entry, SessionOpened, BytesFed, CallBegun, CallMoved, CallBlocked, CallDecided, ReplyWritten, SessionIdle, EventRefused}

-- INIT, for the version 3
abbrev pub init_packet : List ℕ
init_packet = 0 ∷ 0 ∷ 0 ∷ 5 ∷ 1 ∷ 0 ∷ 0 ∷ 0 ∷ 3 ∷ []

abbrev pub mkdir : Request
mkdir = request.OnPath (path_op.Mkdir no_attrs) (a ∷ [])

abbrev pub succeeded : Reply
succeeded = reply.Status Success

abbrev pub made : Record
made = Did 1 1 100 mkdir succeeded

-- the session opens, is fed these bytes, and receives VERSION
abbrev pub begun_with : Vec ℕ Global → List Entry
begun_with bytes = SessionOpened 1 ∷ BytesFed 1 bytes ∷ ReplyWritten 1 100 Version false ∷ []

-- its first call is decided
abbrev pub first_decided : List Entry
first_decided = CallBegun 1 100 1 ∷ CallMoved 1 100 [] ∷ CallDecided 1 100 (made ∷ []) ∷ []

-- one record for two requests
abbrev pub shared_record : Vec ℕ Global → List Entry
shared_record bytes = begun_with bytes ++ (first_decided
    ++ (ReplyWritten 1 100 (ByCall 7 1 mkdir succeeded) false ∷ CallBegun 1 100 2
    ∷ CallDecided 1 100 [] ∷ ReplyWritten 1 100 (ByCall 9 1 mkdir succeeded) false ∷ []))

-- a record of a request that no client sent: no call has begun
abbrev pub unsent_request : Vec ℕ Global → List Entry
unsent_request bytes = begun_with bytes ++ (CallDecided 1 100 (made ∷ []) ∷ [])

-- another reply than the record's
abbrev pub other_reply : Vec ℕ Global → List Entry
other_reply bytes = begun_with bytes ++ (first_decided
    ++ (ReplyWritten 1 100 (ByCall 7 1 mkdir (reply.Status Failure)) false ∷ []))

-- an idle turn while a whole packet, INIT, is not read yet
abbrev pub idle_turn : Vec ℕ Global → List Entry
idle_turn bytes = SessionOpened 1 ∷ BytesFed 1 bytes ∷ SessionIdle 1 100 ∷ []

-- a call that moves four times, though its bound is four steps
abbrev pub endless_call : Vec ℕ Global → List Entry
endless_call bytes = begun_with bytes
    ++ (CallBegun 1 100 1 ∷ CallMoved 1 100 [] ∷ CallMoved 1 100 [] ∷ CallMoved 1 100 []
    ∷ CallMoved 1 100 [] ∷ CallDecided 1 100 (made ∷ []) ∷ [])

-- two calls, each blocked by the other
abbrev pub blocked_calls : List Entry
blocked_calls = SessionOpened 1 ∷ SessionOpened 2 ∷ CallBegun 1 100 1 ∷ CallBegun 2 100 2
    ∷ CallBlocked 1 100 2 ∷ CallBlocked 2 100 1 ∷ []

-- too many sessions, before any has opened
abbrev pub early_refusal : List Entry
early_refusal = EventRefused Open Sessions ∷ []
