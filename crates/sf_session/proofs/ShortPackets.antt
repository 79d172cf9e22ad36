-- The lengths of the packets that a session sends without a call, or to refuse one.
use Rattle.std.proofs.Common.{◌≡◌, ℕ, ◌+◌, ◌≤◌, List, ◌++◌, length, Result, Ok, Err, OnOk, OnErr, Bool, true, false, Option, Some, None, is_none, if◌then◌else◌, nat_lt, refl, ap, sym, subst, arith, inl, inr}
use Rattle.std.specs.Option.{option_map_or}
use Rattle.std.proofs.lemmas.Bool.{ltb-false}
use Rattle.std.proofs.lemmas.List.{length-append}
use Rattle.sf_field.specs.Attributes.{no_attrs}
use Rattle.sf_field.specs.Fields.{packet}
use Rattle.sf_path.specs.declared.fault.PathFault.{PathFault}
use Rattle.sf_path.specs.declared.fault.PathFault.TheVariants.{TooLong}
use Rattle.sf_path.specs.Names.{text_of}
use Rattle.sf_path.specs.Normal.{norm, fault_of}
use Rattle.sf_path.proofs.Laws.{length-text_of-norm}
use Rattle.sf_request.specs.declared.request.WireRequest.{WireRequest}
use Rattle.sf_request.specs.declared.request.WireRequest.TheVariants as wire
use Rattle.sf_request.specs.declared.request.Asked.{Asked}
use Rattle.sf_request.specs.declared.request.Asked.TheVariants as asked
use Rattle.sf_reply.specs.declared.reply.Reply.TheVariants as reply
use Rattle.sf_reply.specs.declared.reply.StatusCode.{StatusCode}
use Rattle.sf_reply.specs.declared.reply.StatusCode.TheVariants.{Failure, BadMessage, OpUnsupported}
use Rattle.sf_reply.specs.Replies.{reply_body, version_body}
use Rattle.sf_reply.proofs.Laws.{plain_short, length-one_name}
use Rattle.sf_call.specs.declared.fault.BeginFault.{BeginFault}
use Rattle.sf_call.specs.declared.fault.BeginFault.TheVariants as fault
use Rattle.sf_call.specs.declared.request.Request.{Request}
use Rattle.sf_call.specs.ReplyKinds.{longest_packet}
use Rattle.sf_session.specs.declared.asking.Ask.{Ask}
use Rattle.sf_session.specs.declared.asking.Ask.TheVariants as ask
use Rattle.sf_session.specs.declared.cause.Cause.TheVariants.{OldVersion}
use Rattle.sf_session.specs.declared.front.Front.TheVariants.{Asks}
use Rattle.sf_session.specs.declared.session.Next.{Next}
use Rattle.sf_session.specs.declared.session.Next.TheVariants as next
use Rattle.sf_session.specs.declared.local_reply.LocalReply.{LocalReply}
use Rattle.sf_session.specs.declared.local_reply.LocalReply.TheVariants.{Plain}
use Rattle.sf_session.specs.Limits.{local_body}
use Rattle.sf_session.specs.Asking.{AsksFor, failure, call_of, real_path_reply, request_ask, later_ask, first_ask, ask_in}
use Rattle.sf_session.specs.Sessions.{SessionView, Fronts, AnswersLocally, LocalPacket, NextGives, refusal_of}

pub version_short : length (packet version_body) ≤ longest_packet
version_short = omega arith

status_short : (id : ℕ) (code : StatusCode) → length (packet (reply_body id (reply.Status code))) ≤ longest_packet
status_short id code = omega (arith, plain_short id (reply.Status code) tt)

pub refusal_short : (id : ℕ) (f : BeginFault) → length (packet (reply_body id (refusal_of f))) ≤ longest_packet
refusal_short id fault.OutOfMemory = omega (arith, plain_short id reply.NoMemory tt)
refusal_short id fault.NumbersSpent = status_short id Failure

-- ---- what a body requires

-- the packet of a local reply is short
abbrev IsShortAsk : Ask → Type 0
IsShortAsk (ask.Local id given) = length (packet (local_body id given)) ≤ longest_packet
IsShortAsk _ = Unit {0}

-- a text without a fault is short, and so is its normal form
unless_long : (b : Bool) (others : Option PathFault) → (if b then Some TooLong else others) ≡ None → b ≡ false
unless_long true others e = absurd cc
unless_long false others e = refl

short_text : (text : List ℕ) → fault_of text ≡ None → length text ≤ 4096
short_text text none = ltb-false 4096 (length text) (unless_long (nat_lt 4096 (length text)) _ none)

real_path_short : (id : ℕ) (text : List ℕ) (found : Option PathFault) → (found ≡ None → length text ≤ 4096) → IsShortAsk (option_map_or (λ path. ask.Local id (Plain (real_path_reply path))) (if is_none found then Some (norm text) else None) (failure id))
real_path_short id text (Some f) short = status_short id Failure
real_path_short id text None short =
    let name = text_of (norm text) in
    omega (arith, length-one_name id (record { filename = name; longname = name; attrs = no_attrs }) refl, length-text_of-norm text, short refl)

call_short : (id : ℕ) (call : Option Request) → IsShortAsk (option_map_or (ask.Call id) call (failure id))
call_short id None = status_short id Failure
call_short id (Some request) = tt

request_short : (id : ℕ) (request : WireRequest) → IsShortAsk (request_ask id request)
request_short id (wire.RealPath text) = real_path_short id text (fault_of text) (short_text text)
request_short id request = call_short id (call_of request)

later_short : (a : Asked) → IsShortAsk (later_ask a)
later_short (asked.Init version) = tt
later_short asked.NoVersion = tt
later_short asked.NoId = tt
later_short (asked.Unknown id) = status_short id OpUnsupported
later_short (asked.BadFields id) = status_short id BadMessage
later_short (asked.Request id request) = request_short id request
later_short (asked.Limits id) = omega arith

first_short : (a : Asked) → IsShortAsk (first_ask a)
first_short (asked.Init version) = elim (nat_lt version 3) as (λ b. IsShortAsk (if b then ask.End OldVersion else ask.Version)) [ true ↦ tt | false ↦ tt ]
first_short asked.NoVersion = tt
first_short asked.NoId = tt
first_short (asked.Unknown id) = tt
first_short (asked.BadFields id) = tt
first_short (asked.Request id request) = tt
first_short (asked.Limits id) = tt

ask_short : (begun : Bool) (a : Asked) → IsShortAsk (ask_in begun a)
ask_short true a = later_short a
ask_short false a = first_short a

asked_short : (begun : Bool) (body : List ℕ) (a : Ask) → AsksFor begun body a → IsShortAsk a
asked_short begun body a asks = subst IsShortAsk (sym asks.2) (ask_short begun asks.0)

-- the packet of a reply without a call is short
pub local_short : (begun : Bool) (body : List ℕ) (id : ℕ) (given : LocalReply) → AsksFor begun body (ask.Local id given) → length (packet (local_body id given)) ≤ longest_packet
local_short begun body id given asks = asked_short begun body (ask.Local id given) asks

-- also for the first packet of the unread bytes
pub front_short : (begun : Bool) (bytes : List ℕ) (id len : ℕ) (given : LocalReply) → Fronts begun bytes (Asks (ask.Local id given) len) → length (packet (local_body id given)) ≤ longest_packet
front_short begun bytes id len given (body, begins, asks, within) = local_short begun body id given asks

-- ---- what a session's next packet adds to its output

packet_by : (a : Ask) (text : List ℕ) → IsShortAsk a → LocalPacket a text → length text ≤ longest_packet
packet_by ask.Version text short is = subst (λ (t : List ℕ). length t ≤ longest_packet) (sym is) version_short
packet_by (ask.Local id given) text short is = subst (λ (t : List ℕ). length t ≤ longest_packet) (sym is) short
packet_by (ask.Call id request) text short is = absurd is
packet_by (ask.End cause) text short is = absurd is

pub answered_short : (v w : SessionView) → AnswersLocally v w → length w.output ≤ length v.output + longest_packet
answered_short v w a =
    omega (arith, ap (λ (s : SessionView). length s.output) a.now, length-append v.output a.text, packet_by a.asked a.text (asked_short v.begun a.body a.asked a.asks) a.local_packet)

same_output : (v w : SessionView) → w.output ≡ v.output → length w.output ≤ length v.output + longest_packet
same_output v w e = omega (arith, ap (λ (bytes : List ℕ). length bytes) e)

pub next_short : (v w : SessionView) (n : Next) → NextGives v n w → length w.output ≤ length v.output + longest_packet
next_short v w next.More g = same_output v w (ap (λ (s : SessionView). s.output) g.2)
next_short v w next.Local g = answered_short v w g.1
next_short v w (next.Call request) g = same_output v w (ap (λ (s : SessionView). s.output) g.1.now)
next_short v w (next.Ended cause) (inl g) = same_output v w (ap (λ (s : SessionView). s.output) g.1)
next_short v w (next.Ended cause) (inr g) = same_output v w (ap (λ (s : SessionView). s.output) g.2)

-- also if it is appended, or not
pub written_short : {A B : Type 0} (r : Result A B) (old new text : List ℕ) → OnOk r (new ≡ old ++ text) → OnErr r (new ≡ old) → length text ≤ longest_packet → length new ≤ length old + longest_packet
written_short (Ok x) old new text ok err short = omega (arith, ap (λ (bytes : List ℕ). length bytes) ok, length-append old text, short)
written_short (Err e) old new text ok err short = omega (arith, ap (λ (bytes : List ℕ). length bytes) err)
