-- The observable state of a session, and its operations.
use Rattle.std.specs.Prelude.{◌≡◌, ℕ, ◌≤◌, ◌⊎◌, List, [], ◌++◌, length, drop, Bool, true, false, Option, Some, None}
use Rattle.sf_wire.specs.declared.cutting.Cut.TheVariants as cut
use Rattle.sf_wire.specs.declared.cutting.BadCut.TheVariants as bad
use Rattle.sf_field.specs.Fields.{packet}
use Rattle.sf_wire.specs.Packets.{IsBody, IsCut}
use Rattle.sf_reply.specs.Replies.{version_body}
use Rattle.sf_reply.specs.declared.reply.Reply.{Reply}
use Rattle.sf_reply.specs.declared.reply.Reply.TheVariants as reply
use Rattle.sf_reply.specs.declared.reply.StatusCode.TheVariants.{Failure}
use Rattle.sf_call.specs.declared.fault.BeginFault.{BeginFault}
use Rattle.sf_call.specs.declared.fault.BeginFault.TheVariants as fault
use Rattle.sf_call.specs.declared.fault.JoinFault.{JoinFault}
use Rattle.sf_call.specs.declared.fault.JoinFault.TheVariants as join
use Rattle.sf_call.specs.declared.request.Request.{Request}
use Rattle.sf_session.specs.declared.fault.ServeFault.{ServeFault}
use Rattle.sf_session.specs.declared.fault.ServeFault.TheVariants as serving
use Rattle.sf_session.specs.declared.asking.Ask.{Ask}
use Rattle.sf_session.specs.declared.asking.Ask.TheVariants as ask
use Rattle.sf_session.specs.declared.cause.Cause.{Cause}
use Rattle.sf_session.specs.declared.cause.Cause.TheVariants.{ZeroLength, TooLong}
use Rattle.sf_session.specs.declared.front.Front.{Front}
use Rattle.sf_session.specs.declared.front.Front.TheVariants as front
use Rattle.sf_session.specs.declared.session.Next.{Next}
use Rattle.sf_session.specs.declared.session.Next.TheVariants as next
use Rattle.sf_session.specs.Limits.{local_body}
use Rattle.sf_session.specs.Asking.{AsksFor}

-- The observable state of a session:
-- - `unread`: the bytes not yet processed; `output`: the bytes to be sent;
-- - `begun`: whether its first packet was processed;
-- - `waiting`: the id of the pending request;
-- - `ended`: why it ended.
pub record SessionView : Type 0 where
  pub unread : List ℕ
  pub output : List ℕ
  pub begun : Bool
  pub waiting : Option ℕ
  pub ended : Option Cause

-- the capacity in bytes that is reserved for a call's reply before the call executes
abbrev pub reply_room : ℕ
reply_room = 1088

abbrev pub new_session : SessionView
new_session = record { unread = []; output = []; begun = false; waiting = None; ended = None }

-- the bytes begin with the body's packet; `rest` follows it
pub record Begins (bytes body rest : List ℕ) : Type 0 where
  pub is_body : IsBody body
  pub whole : bytes ≡ packet body ++ rest

-- the bytes begin with a wrong length
abbrev pub BeginsWrong : List ℕ → Cause → Type 0
BeginsWrong bytes cause =
    (IsCut bytes (cut.Bad bad.ZeroLength) × (cause ≡ ZeroLength))
    ⊎ (IsCut bytes (cut.Bad bad.TooLong) × (cause ≡ TooLong))

-- what the unread bytes begin with, and the length of the first packet
abbrev pub Fronts : Bool → List ℕ → Front → Type 0
Fronts begun bytes front.More = IsCut bytes cut.More
Fronts begun bytes (front.Wrong cause) = BeginsWrong bytes cause
Fronts begun bytes (front.Asks a len) = (body : List ℕ) × Begins bytes body (drop len bytes)
    × AsksFor begun body a × (len ≤ length bytes)

-- the packet that answers a body without a call
abbrev pub LocalPacket : Ask → List ℕ → Type 0
LocalPacket ask.Version text = text ≡ packet version_body
LocalPacket (ask.Local id reply) text = text ≡ packet (local_body id reply)
LocalPacket _ text = ⊥

-- a body was answered without a call
pub record AnswersLocally (v w : SessionView) : Type 0 where
  pub body : List ℕ
  pub rest : List ℕ
  pub asked : Ask
  pub text : List ℕ
  pub begins : Begins v.unread body rest
  pub asks : AsksFor v.begun body asked
  pub local_packet : LocalPacket asked text
  pub now : w ≡ record {
    unread = rest;
    output = v.output ++ text;
    begun = true;
    waiting = None;
    ended = None;
  }

-- a body requires a call
pub record AsksCall (v : SessionView) (request : Request) (w : SessionView) : Type 0 where
  pub body : List ℕ
  pub rest : List ℕ
  pub id : ℕ
  pub begins : Begins v.unread body rest
  pub asks : AsksFor v.begun body (ask.Call id request)
  pub now : w ≡ record {
    unread = rest;
    output = v.output;
    begun = true;
    waiting = Some id;
    ended = None;
  }

-- the bytes begin with a wrong length, or with a body that ends the session
abbrev pub EndsBy : Bool → List ℕ → Cause → Type 0
EndsBy begun bytes cause = BeginsWrong bytes cause
    ⊎ ((body : List ℕ) × (rest : List ℕ) × Begins bytes body rest
    × AsksFor begun body (ask.End cause))

-- after its end, a session returns its cause again
abbrev pub NextGives : SessionView → Next → SessionView → Type 0
NextGives v next.More w = (v.ended ≡ None) × IsCut v.unread cut.More × (w ≡ v)
NextGives v next.Local w = (v.ended ≡ None) × AnswersLocally v w
NextGives v (next.Call request) w = (v.ended ≡ None) × AsksCall v request w
NextGives v (next.Ended cause) w = ((v.ended ≡ Some cause) × (w ≡ v))
    ⊎ ((v.ended ≡ None) × EndsBy v.begun v.unread cause
    × (w ≡ record {
      unread = [];
      output = v.output;
      begun = v.begun;
      waiting = None;
      ended = Some cause;
    }))

-- the reply to a call that could not start
abbrev pub refusal_of : BeginFault → Reply
refusal_of fault.OutOfMemory = reply.NoMemory
refusal_of fault.NumbersSpent = reply.Status Failure

-- the error of serving a session that could not join
abbrev pub join_refusal : JoinFault → ServeFault
join_refusal join.OutOfMemory = serving.OutOfMemory
join_refusal join.Sessions = serving.Sessions
join_refusal join.NumbersSpent = serving.NumbersSpent
