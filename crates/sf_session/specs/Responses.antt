-- The answers to a session's bodies, and the records of these answers.
use Rattle.std.specs.Prelude.{◌^◌, ◌-◌, ℕ, nat_eq, List, [], ◌∷◌, Bool, true, false}
use Rattle.std.specs.List.{flat_map}
use Rattle.sf_field.specs.Fields.{packet}
use Rattle.sf_reply.specs.declared.reply.Reply.{Reply}
use Rattle.sf_reply.specs.Replies.{reply_body, version_body}
use Rattle.sf_call.specs.declared.request.Request.{Request}
use Rattle.sf_call.specs.declared.record.Record.{Record}
use Rattle.sf_call.specs.declared.record.Record.TheVariants.{Did, Left}
use Rattle.sf_call.specs.declared.fault.BeginFault.{BeginFault}
use Rattle.sf_session.specs.declared.asking.Ask.{Ask}
use Rattle.sf_session.specs.declared.asking.Ask.TheVariants as ask
use Rattle.sf_session.specs.declared.local_reply.LocalReply.{LocalReply}
use Rattle.sf_session.specs.Limits.{local_body}
use Rattle.sf_session.specs.Asking.{AsksFor}
use Rattle.sf_session.specs.Sessions.{refusal_of}

-- the maximum number of calls
abbrev pub most_calls : ℕ
most_calls = 2 ^ 63 - 1

-- The answer to a body: VERSION, a reply without a file-system call, the reply of the call with
-- this number, or a refusal because the call could not start.
pub data Response : Type 0 where
  Version : Response
  Locally : (id : ℕ) → (reply : LocalReply) → Response
  ByCall : (id number : ℕ) → (request : Request) → (reply : Reply) → Response
  Refused : (id : ℕ) → (request : Request) → (fault : BeginFault) → Response

-- what the body required
abbrev pub ask_behind : Response → Ask
ask_behind Version = ask.Version
ask_behind (Locally id reply) = ask.Local id reply
ask_behind (ByCall id number request reply) = ask.Call id request
ask_behind (Refused id request fault) = ask.Call id request

-- the packet that is sent as the answer
abbrev pub packet_for : Response → List ℕ
packet_for Version = packet version_body
packet_for (Locally id reply) = packet (local_body id reply)
packet_for (ByCall id number request reply) = packet (reply_body id reply)
packet_for (Refused id request fault) = packet (reply_body id (refusal_of fault))

-- the output of a session, packet by packet
unfoldable pub transcript : List Response → List ℕ
transcript answers = flat_map packet_for answers

-- whether the session has processed its first packet
abbrev pub has_begun : List (List ℕ) → Bool
has_begun [] = false
has_begun (body ∷ bodies) = true

-- what each body requires, in order
unfoldable pub AreAsked : Bool → List (List ℕ) → List Ask → Type 0
AreAsked begun [] [] = Unit {0}
AreAsked begun (body ∷ bodies) (a ∷ asks) = AsksFor begun body a × AreAsked true bodies asks
AreAsked begun [] (a ∷ asks) = ⊥
AreAsked begun (body ∷ bodies) [] = ⊥

-- the list if the condition holds, else the empty list
abbrev pub if_so : {A : Type 0} → Bool → List A → List A
if_so true xs = xs
if_so false xs = []

-- a call with its reply
pub record RepliedCall : Type 0 where
  pub number : ℕ
  pub request : Request
  pub reply : Reply

-- a session's calls in a history, in order
abbrev pub recorded_by : ℕ → Record → List RepliedCall
recorded_by session (Did number s moment request reply) =
    if_so (nat_eq s session) (record { number = number; request = request; reply = reply } ∷ [])
recorded_by session (Left s) = []

abbrev pub recorded_in : ℕ → List Record → List RepliedCall
recorded_in session history = flat_map (recorded_by session) history

-- the calls among a session's answers, in order
abbrev pub calls_answered : Response → List RepliedCall
calls_answered Version = []
calls_answered (Locally id reply) = []
calls_answered (ByCall id number request reply) =
    record { number = number; request = request; reply = reply } ∷ []
calls_answered (Refused id request fault) = []

abbrev pub answered_in : List Response → List RepliedCall
answered_in answers = flat_map calls_answered answers

-- A session's pending reply: none; or the reply to a call with this request id, which is not yet
-- recorded, or is.
pub data Due : Type 0 where
  NothingDue : Due
  Unrecorded : (id : ℕ) → (request : Request) → Due
  Recorded : (id : ℕ) → (call : RepliedCall) → Due

abbrev pub asked_due : Due → List Ask
asked_due NothingDue = []
asked_due (Unrecorded id request) = ask.Call id request ∷ []
asked_due (Recorded id call) = ask.Call id call.request ∷ []

abbrev pub recorded_due : Due → List RepliedCall
recorded_due NothingDue = []
recorded_due (Unrecorded id request) = []
recorded_due (Recorded id call) = call ∷ []
