-- Requests that were sent, and the replies received for them.
use Rattle.std.specs.Prelude.{◌≡◌, ◌≤◌, ◌+◌, ◌-◌, ◌^◌, ℕ, List, [], ◌∷◌, ◌++◌, length, Bool, true, false, Option, IfSome, map, ◌==◌, if◌then◌else◌}
use Rattle.std.specs.List.{AllByRecursion}
use Rattle.std.specs.Io.KnownBytes.{Appends, Consumes}
use Rattle.sf_request.specs.declared.request.WireRequest.{WireRequest}
use Rattle.sf_request.specs.Requests.{request_body, init_body}
use Rattle.sf_reply.specs.declared.reply.Reply.{Reply}
use Rattle.sf_reply.specs.Replies.{reply_body, version_body, ReplyFits}
use Rattle.sf_field.specs.Fields.{packet, max_body}
use Rattle.sf_client.specs.declared.pending.PendingReply.{PendingReply}
use Rattle.sf_client.specs.Pending.{pending_of, is_expected}

-- The observable state of a client:
-- - `next`: the id of the oldest pending reply; if none is pending, of the next request;
-- - `failed`: whether it has failed;
-- - `incoming`, `outgoing`: the input not yet read and the output so far, if the transport exposes
--   them;
-- - `failures`: the number of failed calls of the transport.
pub record ClientView : Type 0 where
  pub next : ℕ
  pub failed : Bool
  pub incoming : Option (List ℕ)
  pub outgoing : Option (List ℕ)
  pub failures : ℕ

pub record Exchange : Type 0 where
  pub request : WireRequest
  pub reply : Reply

-- ids are 1, 2, 3 and so on, modulo 2^32
abbrev pub id_after : ℕ → ℕ
id_after id = if id == 2 ^ 32 - 1 then 0 else id + 1

unfoldable pub last_id : {X : Type 0} → ℕ → List X → ℕ
last_id id [] = id
last_id id (x ∷ xs) = last_id (id_after id) xs

abbrev pub requests_of : List Exchange → List WireRequest
requests_of xs = map (λ (x : Exchange). x.request) xs

-- the packets of the requests, and of the replies with the same ids
unfoldable pub requests_from : ℕ → List WireRequest → List ℕ
requests_from id [] = []
requests_from id (q ∷ qs) = packet (request_body id q) ++ requests_from (id_after id) qs

unfoldable pub replies_from : ℕ → List Exchange → List ℕ
replies_from id [] = []
replies_from id (x ∷ xs) = packet (reply_body id x.reply) ++ replies_from (id_after id) xs

-- the reply is of the expected kind or an error status
abbrev pub IsExpected : Exchange → Type 0
IsExpected x = is_expected (pending_of x.request) x.reply ≡ true

-- The client sent these requests in order and received their replies. It also sent `later`
-- requests; their replies are pending.
pub record SentAhead (v : ClientView) (xs : List Exchange) (later : List WireRequest)
    (w : ClientView) : Type 0 where
  pub began : v.failed ≡ false
  pub going : w.failed ≡ false
  pub next : w.next ≡ last_id v.next xs
  pub wrote : Appends v.outgoing w.outgoing (requests_from v.next (requests_of xs ++ later))
  pub read : Consumes v.incoming w.incoming (replies_from v.next xs)
  pub pending : AllByRecursion IsExpected xs
  pub failures : v.failures ≤ w.failures

-- No reply is pending.
abbrev pub Exchanged : ClientView → List Exchange → ClientView → Type 0
Exchanged v xs w = SentAhead v xs [] w

-- The input doesn't begin with an expected reply with this id.
abbrev pub HasNoReply : Option (List ℕ) → ℕ → PendingReply → Type 0
HasNoReply incoming id d = IfSome incoming (λ input. (r : Reply) (rest : List ℕ) → ReplyFits r
    → is_expected d r ≡ true → length (reply_body id r) ≤ max_body
    → input ≡ packet (reply_body id r) ++ rest → ⊥)

-- The expected reply to a request didn't arrive. The client has failed.
pub record Spoilt (v : ClientView) (q : WireRequest) (w : ClientView) : Type 0 where
  pub failed : w.failed ≡ true
  pub outgoing : w.outgoing ≡ v.outgoing
  pub none : HasNoReply v.incoming v.next (pending_of q)

-- After these exchanges a request, and possibly later ones, was sent, and the expected reply didn't
-- arrive.
abbrev pub Unanswered : ClientView → List Exchange → WireRequest → List WireRequest → ClientView
    → Type 0
Unanswered v xs q later w = (u : ClientView) × SentAhead v xs (q ∷ later) u × Spoilt u q w

-- These bytes were sent.
pub record Sent (v : ClientView) (bytes : List ℕ) (w : ClientView) : Type 0 where
  pub wrote : Appends v.outgoing w.outgoing bytes
  pub client : w ≡ record v { outgoing = w.outgoing; failures = w.failures }
  pub failures : v.failures ≤ w.failures

-- A reply was received, with the id of the oldest request in flight.
pub record Took (v : ClientView) (r : Reply) (w : ClientView) : Type 0 where
  pub same : w.failed ≡ v.failed
  pub next : w.next ≡ id_after v.next
  pub outgoing : w.outgoing ≡ v.outgoing
  pub read : Consumes v.incoming w.incoming (packet (reply_body v.next r))
  pub failures : v.failures ≤ w.failures

-- INIT was sent, and VERSION was received.
pub record IsGreeted (incoming outgoing incoming' outgoing' : Option (List ℕ)) : Type 0 where
  pub wrote : Appends outgoing outgoing' (packet init_body)
  pub read : Consumes incoming incoming' (packet version_body)

-- a client that has opened its session
pub record IsStarted (incoming outgoing : Option (List ℕ)) (v : ClientView) : Type 0 where
  pub next : v.next ≡ 1
  pub going : v.failed ≡ false
  pub greeted : IsGreeted incoming outgoing v.incoming v.outgoing

-- the input doesn't begin with VERSION
abbrev pub HasNoVersion : Option (List ℕ) → Type 0
HasNoVersion incoming =
    IfSome incoming (λ input. (rest : List ℕ) → input ≡ packet version_body ++ rest → ⊥)
