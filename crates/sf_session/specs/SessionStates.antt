-- The state of a session: what it received, answered and sent, and its current call.
use Rattle.std.specs.Prelude.{◌≡◌, ◌≤◌, ◌⊎◌, ℕ, List, [], ◌∷◌, ◌++◌, length, take, drop, map, Bool, true, false, if◌then◌else◌}
use Rattle.std.specs.List.{AllByRecursion, flat_map}
use Rattle.sf_field.specs.Fields.{packet}
use Rattle.sf_wire.specs.Packets.{IsBody}
use Rattle.sf_reply.specs.declared.reply.Reply.{Reply}
use Rattle.sf_call.specs.declared.request.Request.{Request}
use Rattle.sf_call.specs.ReplyKinds.{longest_packet}
use Rattle.sf_session.specs.declared.asking.Ask.{Ask}
use Rattle.sf_session.specs.declared.asking.Ask.TheVariants as ask
use Rattle.sf_session.specs.declared.cause.Cause.{Cause}
use Rattle.sf_session.specs.declared.cause.Cause.TheVariants.{Closed}
use Rattle.sf_session.specs.Sessions.{EndsBy}
use Rattle.sf_session.specs.Responses.{Response, ByCall, ask_behind, packet_for, transcript, has_begun, AreAsked}

-- The phases of a session: idle; a call is executing and has made `moves` steps; a call is decided
-- and its reply is not yet written; ended. A call has the id of its request, its number, its
-- timestamp and its request.
pub data Phase : Type 0 where
  Resting : Phase
  UnderWay : (id number moment : ℕ) → (request : Request) → (moves : ℕ) → Phase
  Decided : (id number : ℕ) → (request : Request) → (reply : Reply) → Phase
  Gone : (cause : Cause) → Phase

-- The state of a session after a trace:
-- - `stream`: the bytes received; `unread`: those not yet processed;
-- - `bodies`: the bodies processed; `answers`: their answers;
-- - `sent`: the bytes sent;
-- - `closed`: whether it was closed during its call.
pub record SessionState : Type 0 where
  pub stream : List ℕ
  pub unread : List ℕ
  pub bodies : List (List ℕ)
  pub answers : List Response
  pub sent : List ℕ
  pub closed : Bool
  pub phase : Phase

abbrev pub new_state : SessionState
new_state = record {
  stream = [];
  unread = [];
  bodies = [];
  answers = [];
  sent = [];
  closed = false;
  phase = Resting;
}

abbrev pub with_phase : SessionState → Phase → SessionState
with_phase t phase = record t { phase = phase }

-- the bytes to be sent: the transcript after the bytes already sent
abbrev pub unsent : SessionState → List ℕ
unsent t = drop (length t.sent) (transcript t.answers)

-- whether the session has not ended
abbrev pub is_here_in : Phase → Bool
is_here_in Resting = true
is_here_in (UnderWay id number moment request moves) = true
is_here_in (Decided id number request reply) = true
is_here_in (Gone cause) = false

abbrev pub is_here : SessionState → Bool
is_here t = is_here_in t.phase

-- the session accepts input: it was not closed and has not ended
abbrev pub TakesBytes : SessionState → Type 0
TakesBytes t = (t.closed ≡ false) × (is_here t ≡ true)

abbrev pub TakesNone : SessionState → Type 0
TakesNone t = (t.closed ≡ true) ⊎ (is_here t ≡ false)

abbrev pub fed : SessionState → List ℕ → SessionState
fed t bytes = record t { stream = t.stream ++ bytes; unread = t.unread ++ bytes }

-- the reply of a decided call is written
abbrev pub with_answer : SessionState → Response → SessionState
with_answer t answer = record t { answers = t.answers ++ answer ∷ []; phase = Resting }

-- the first `n` of the bytes to be sent were sent
abbrev pub sent_more : SessionState → ℕ → SessionState
sent_more t n = record t { sent = t.sent ++ take n (unsent t) }

-- the session ends, and unread bytes are dropped
abbrev pub left_for : SessionState → Cause → SessionState
left_for t cause = record t { unread = []; phase = Gone cause }

-- closing: an idle session ends at once, one with a pending call after its reply, and an ended one
-- is unchanged
abbrev pub closed_now : SessionState → Phase → SessionState
closed_now t Resting = left_for t Closed
closed_now t (UnderWay id n m q moves) = record t { closed = true }
closed_now t (Decided id n q reply) = record t { closed = true }
closed_now t (Gone cause) = t

abbrev pub left_if_closed : Bool → SessionState → SessionState
left_if_closed closed t = if closed then left_for t Closed else t

abbrev pub with_reply_written : SessionState → (id number : ℕ) → Request → Reply → SessionState
with_reply_written t id n q reply = left_if_closed t.closed (with_answer t (ByCall id n q reply))

-- the pending call, which has no reply yet
abbrev pub pending : Phase → List Ask
pending Resting = []
pending (UnderWay id n m q moves) = ask.Call id q ∷ []
pending (Decided id n q reply) = ask.Call id q ∷ []
pending (Gone cause) = []

-- what a session's bodies required
abbrev pub asks_of : List Response → Phase → List Ask
asks_of answers phase = map ask_behind answers ++ pending phase

-- The remainder of a stream: the unread bytes. An ended session has none; its remainder begins with
-- the body or the wrong length that ended it, or is arbitrary if it was closed.
abbrev pub IsRest : Bool → Phase → (unread rest : List ℕ) → Type 0
IsRest begun Resting unread rest = unread ≡ rest
IsRest begun (UnderWay id n m q moves) unread rest = unread ≡ rest
IsRest begun (Decided id n q reply) unread rest = unread ≡ rest
IsRest begun (Gone cause) unread rest = (unread ≡ []) × ((cause ≡ Closed) ⊎ EndsBy begun rest cause)

-- The stream is the packets of the processed bodies and a remainder. Each body requires what it was
-- answered.
pub record IsRead (t : SessionState) : Type 0 where
  pub rest : List ℕ
  pub are_bodies : AllByRecursion IsBody t.bodies
  pub stream : t.stream ≡ flat_map packet t.bodies ++ rest
  pub left : IsRest (has_begun t.bodies) t.phase t.unread rest
  pub asked : AreAsked false t.bodies (asks_of t.answers t.phase)

-- the packet that is sent as the answer is at most as long as the longest reply
abbrev pub HasShortPacket : Response → Type 0
HasShortPacket answer = length (packet_for answer) ≤ longest_packet
