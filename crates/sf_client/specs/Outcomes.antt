-- The effects of a call.
use Rattle.std.specs.Prelude.{◌≡◌, ◌≤◌, ◌⊎◌, ℕ, List, [], ◌∷◌, true, false, Option, Result, Ok, Err}
use Rattle.std.specs.Io.KnownBytes.{Consumes}
use Rattle.sf_line.specs.Lines.{Rose}
use Rattle.sf_field.specs.Fields.{packet}
use Rattle.sf_reply.specs.Replies.{reply_body}
use Rattle.sf_request.specs.Requests.{request_body}
use Rattle.sf_request.specs.declared.request.WireRequest.{WireRequest}
use Rattle.sf_reply.specs.declared.reply.Reply.{Reply}
use Rattle.sf_client.specs.declared.fault.ClientFault.{ClientFault}
use Rattle.sf_client.specs.declared.fault.ClientFault.TheVariants as fault
use Rattle.sf_client.specs.declared.pending.PendingReply.{PendingReply}
use Rattle.sf_client.specs.Pending.{Refuses, TakesMemory, is_expected}
use Rattle.sf_client.specs.Exchanges.{ClientView, Exchange, Exchanged, Unanswered, Sent, Took, HasNoReply}

abbrev pub asked : WireRequest → Reply → Exchange
asked q r = record { request = q; reply = r }

-- The transport's error count rose, and the client has failed.
pub record Broke (v w : ClientView) : Type 0 where
  pub failed : w.failed ≡ true
  pub grew : v.failures ≤ w.failures
  pub rose : Rose v.failures w.failures

-- the reply ends its call with this error: it is an error status, or memory ran out for it
abbrev pub EndsCallBy : Reply → ClientFault → Type 0
EndsCallBy r (fault.Status code) = Refuses r code
EndsCallBy r fault.OutOfMemory = TakesMemory r
EndsCallBy r _ = ⊥

-- The effect of a call of one request that is sent without allocation:
-- - its reply was received, with this result, an error status, or data or names without memory for
--   them;
-- - the transport failed;
-- - the expected reply didn't arrive.
abbrev pub SettlesRequest : {X : Type 0} → (X → Reply) → ClientView → WireRequest
    → Result X ClientFault → ClientView → Type 0
SettlesRequest as_reply v q (Ok x) w = Exchanged v (asked q (as_reply x) ∷ []) w
SettlesRequest as_reply v q (Err fault.Stream) w = Broke v w
SettlesRequest as_reply v q (Err fault.Protocol) w = Unanswered v [] q [] w
SettlesRequest as_reply v q (Err f) w =
    (r : Reply) × EndsCallBy r f × Exchanged v (asked q r ∷ []) w

-- The same for a request whose packet is allocated. If memory runs out for it nothing is sent. A
-- client that had failed before does nothing.
abbrev pub Comes : {X : Type 0} → (X → Reply) → ClientView → WireRequest → Result X ClientFault
    → ClientView → Type 0
Comes as_reply v q (Err fault.OutOfMemory) w = (v.failed ≡ false)
    × ((w ≡ v) ⊎ SettlesRequest as_reply v q (Err fault.OutOfMemory) w)
Comes as_reply v q (Err fault.Failed) w = (v.failed ≡ true) × (w ≡ v)
Comes as_reply v q result w = SettlesRequest as_reply v q result w

-- the effect of receiving a reply
abbrev pub TakesReply : ClientView → PendingReply → Result Reply ClientFault → ClientView → Type 0
TakesReply v d (Ok r) w = (is_expected d r ≡ true) × Took v r w
TakesReply v d (Err fault.Stream) w = Broke v w
TakesReply v d (Err fault.Protocol) w =
    (w.failed ≡ true) × (w.outgoing ≡ v.outgoing) × HasNoReply v.incoming v.next d
TakesReply v d (Err fault.OutOfMemory) w =
    (r : Reply) × (is_expected d r ≡ true) × TakesMemory r × Took v r w
TakesReply v d (Err _) w = ⊥

-- the effect of sending a request with an id, without waiting for its reply
abbrev pub Sends : ClientView → ℕ → WireRequest → Result (Unit {0}) ClientFault → ClientView
    → Type 0
Sends v id q (Ok x) w = Sent v (packet (request_body id q)) w
Sends v id q (Err fault.Stream) w = Broke v w
Sends v id q (Err fault.OutOfMemory) w = w ≡ v
Sends v id q (Err _) w = ⊥

-- the effect of reading a reply with an id
abbrev pub ReadsPending : Option (List ℕ) → Option (List ℕ) → ℕ → PendingReply
    → Result Reply ClientFault → Type 0
ReadsPending incoming incoming' id d (Ok r) =
    (is_expected d r ≡ true) × Consumes incoming incoming' (packet (reply_body id r))
ReadsPending incoming incoming' id d (Err fault.Stream) = Unit {0}
ReadsPending incoming incoming' id d (Err fault.Protocol) = HasNoReply incoming id d
ReadsPending incoming incoming' id d (Err fault.OutOfMemory) =
    (r : Reply) × (is_expected d r ≡ true) × TakesMemory r
    × Consumes incoming incoming' (packet (reply_body id r))
ReadsPending incoming incoming' id d (Err _) = ⊥

-- Why no session was opened: the transport's error count rose, VERSION didn't arrive, or memory ran
-- out.
abbrev pub MayNotStart : ClientFault → ℕ → ℕ → Type 0
MayNotStart fault.Stream failed failed' = Rose failed failed'
MayNotStart fault.Protocol failed failed' = Unit {0}
MayNotStart fault.OutOfMemory failed failed' = Unit {0}
MayNotStart _ failed failed' = ⊥
