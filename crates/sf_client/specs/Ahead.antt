-- No public clause cites this module.
-- Pipelining: requests are sent before the replies to earlier ones arrive.
use Rattle.std.specs.Prelude.{◌≡◌, ◌<◌, ◌+◌, ◌-◌, ◌≤◌, ◌⊎◌, ℕ, List, ◌++◌, length, Bool, true, false, Option, Some, None, Result, Ok, Err}
use Rattle.sf_field.specs.Fields.{packet}
use Rattle.sf_request.specs.declared.request.WireRequest.{WireRequest}
use Rattle.sf_request.specs.Requests.{request_body}
use Rattle.sf_reply.specs.declared.reply.Entry.{Entry}
use Rattle.sf_reply.specs.declared.reply.Reply.{Reply}
use Rattle.sf_client.specs.declared.ahead.Ahead.{Ahead}
use Rattle.sf_client.specs.declared.pending.PendingReply.{PendingReply}
use Rattle.sf_client.specs.declared.fault.ClientFault.{ClientFault}
use Rattle.sf_client.specs.declared.fault.ClientFault.TheVariants as fault
use Rattle.sf_client.specs.Pending.{is_answer, is_expected, error_code_of}
use Rattle.sf_client.specs.Exchanges.{ClientView, Sent, Took, HasNoReply, id_after}
use Rattle.sf_client.specs.Outcomes.{Broke, EndsCallBy}

-- the maximum number of requests in flight
abbrev pub most_ahead : ℕ
most_ahead = 64

-- another request may be sent
pub record MaySendMore (a : Ahead) : Type 0 where
  pub room : a.waiting < most_ahead
  pub kept : a.dropped ≡ 0
  pub going : a.stopped ≡ None

-- A reply was discarded; or none was to be discarded, and this error stops the sending.
abbrev pub Misses : ClientFault → Ahead → Ahead → Type 0
Misses f a b =
    ((0 < a.dropped) × (b ≡ record a { waiting = a.waiting - 1; dropped = a.dropped - 1 }))
    ⊎ ((a.dropped ≡ 0) × (b ≡ record a {
      waiting = a.waiting - 1;
      dropped = a.waiting - 1;
      stopped = Some f;
    }))

-- how a reply is handled
abbrev pub KeepsReply : Ahead → Reply → Option Reply → Ahead → Type 0
KeepsReply a r (Some x) b =
    (x ≡ r) × (error_code_of r ≡ None) × (a.dropped ≡ 0) × (b ≡ record a { waiting = a.waiting - 1 })
KeepsReply a r None b = (f : ClientFault) × ((a.dropped ≡ 0) → EndsCallBy r f) × Misses f a b

-- A client and its requests in flight.
pub record ClientAhead : Type 0 where
  pub client : ClientView
  pub ahead : Ahead

abbrev pub sender : ClientView → Ahead → ClientAhead
sender client ahead = record { client = client; ahead = ahead }

-- the effect of sending another request; if memory ran out none was sent
abbrev pub SendsOn : ClientAhead → WireRequest → Result Bool ClientFault → ClientAhead → Type 0
SendsOn x q (Ok true) y = Sent x.client (packet (request_body x.ahead.id q)) y.client
    × (y.ahead ≡ record x.ahead { id = id_after x.ahead.id; waiting = x.ahead.waiting + 1 })
SendsOn x q (Ok false) y = (y.client ≡ x.client)
    × (y.ahead ≡ record x.ahead { dropped = x.ahead.waiting; stopped = Some fault.OutOfMemory })
SendsOn x q (Err f) y = (f ≡ fault.Stream) × Broke x.client y.client

-- the effect of receiving the oldest pending reply
abbrev pub TakesOn : ClientAhead → PendingReply → Result (Option Reply) ClientFault → ClientAhead
    → Type 0
TakesOn x d (Ok (Some r)) y =
    (is_answer d r ≡ true) × (x.ahead.dropped ≡ 0) × Took x.client r y.client
    × (y.ahead ≡ record x.ahead { waiting = x.ahead.waiting - 1 })
TakesOn x d (Ok None) y =
    (r : Reply) × (f : ClientFault) × (is_expected d r ≡ true) × Took x.client r y.client
    × ((x.ahead.dropped ≡ 0) → EndsCallBy r f) × Misses f x.ahead y.ahead
TakesOn x d (Err fault.Stream) y = Broke x.client y.client
TakesOn x d (Err fault.Protocol) y =
    (y.client.failed ≡ true) × (y.client.outgoing ≡ x.client.outgoing)
    × HasNoReply x.client.incoming x.client.next d
TakesOn x d (Err _) y = ⊥

-- memory ran out for a reply: nothing more is sent
abbrev pub RunsShort : Ahead → Ahead → Type 0
RunsShort a b = b ≡ record a { dropped = a.waiting; stopped = Some fault.OutOfMemory }

-- A chunk was appended. After a short one the pending replies are discarded.
abbrev pub GathersPiece : List ℕ → List ℕ → List ℕ → Ahead → Ahead → Type 0
GathersPiece old piece now a b = ((now ≡ old ++ piece)
    × (((length piece < 32768) × (b ≡ record a { dropped = a.waiting }))
    ⊎ ((32768 ≤ length piece) × (b ≡ a)))) ⊎ RunsShort a b

abbrev pub GathersNames : List Entry → List Entry → List Entry → Ahead → Ahead → Type 0
GathersNames old part now a b = ((now ≡ old ++ part) × (b ≡ a)) ⊎ RunsShort a b
