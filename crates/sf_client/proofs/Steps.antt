-- One request and its reply.
use Rattle.std.proofs.Common.{◌≡◌, ◌^◌, ◌<◌, ◌≤◌, ℕ, List, [], ◌∷◌, ◌++◌, length, take, true, false, Option, Some, None, Result, Ok, Err, inl, inr, refl, sym, ap, subst, ◌∙◌, append_assoc, arith, lit<, lit≤}
use Rattle.std.specs.Io.KnownBytes.{Consumes}
use Rattle.std.proofs.lemmas.Bool.{cases_lt}
use Rattle.std.proofs.lemmas.List.{take_at}
use Rattle.sf_line.specs.Lines.{Rose}
use Rattle.sf_field.specs.Fields.{be32, packet}
use Rattle.sf_request.specs.declared.request.WireRequest.{WireRequest}
use Rattle.sf_request.specs.Requests.{request_body}
use Rattle.sf_reply.specs.declared.reply.Reply.{Reply}
use Rattle.sf_reply.specs.declared.reply.Reply.TheVariants as reply
use Rattle.sf_reply.specs.declared.reply.StatusCode.TheVariants as status
use Rattle.sf_reply.specs.Replies.{reply_body, version_body}
use Rattle.sf_reply.specs.Reading.{IsReply}
use Rattle.sf_client.specs.declared.pending.PendingReply.{PendingReply}
use Rattle.sf_client.specs.declared.pending.PendingReply.TheVariants as pending
use Rattle.sf_client.specs.declared.fault.ClientFault.{ClientFault}
use Rattle.sf_client.specs.declared.fault.ClientFault.TheVariants as fault
use Rattle.sf_client.specs.Packets.{HasNoPacket}
use Rattle.sf_client.specs.Pending.{pending_of, is_answer, is_expected}
use Rattle.sf_client.specs.Exchanges.{ClientView, Exchanged, SentAhead, Sent, HasNoReply, HasNoVersion, last_id}
use Rattle.sf_client.specs.Outcomes.{asked, Broke, Comes, SettlesRequest, TakesReply}
use Rattle.sf_client.proofs.Exchanging.{exchanged_none, sent_more, took_one}
use Rattle.sf_client.proofs.Filling.{header_is, if_known, same_number}

-- ---- no reply

-- if the input doesn't begin with a packet, it doesn't begin with a reply
pub no_packet : (a : Option (List ℕ)) (id : ℕ) (d : PendingReply) → HasNoPacket a → HasNoReply a id d
no_packet None id d h = tt
no_packet (Some input) id d h = λ r rest fits pending short e. h (reply_body id r) rest (record { some = omega arith; short = short }) e

-- the body of the first packet
same_body : (a b x y : List ℕ) → length a ≤ 262144 → length b ≤ 262144 → packet a ++ x ≡ packet b ++ y → a ≡ b
same_body a b x y short_a short_b e =
    let parts = header_is a x (be32 (length b)) (b ++ y) refl (e ∙ append_assoc (be32 (length b)) b y) in
    let len : length a ≡ length b = same_number (length a) (length b) (omega arith) (omega arith) (sym parts.0) in
    sym (take_at a x (length b) len) ∙ ap (take (length b)) (sym parts.1) ∙ take_at b y (length b) refl

-- if the packet's body encodes no expected reply, the input doesn't begin with one
pub no_expected : (a b : Option (List ℕ)) (id : ℕ) (d : PendingReply) (body : List ℕ) → Consumes a b (packet body) → length body ≤ 262144 → id < 2 ^ 32 → ((r : Reply) → IsReply body id r → is_expected d r ≡ true → ⊥)
    → HasNoReply a id d
no_expected a b id d body read short fits none = if_known _ a b (packet body) read (λ left is r rest reply_fits pending small e.
    none r (record { id_fits = fits; fits = reply_fits; parts = same_body body (reply_body id r) left rest short small e }) pending)

-- the packet's body encodes a reply
pub a_reply : (a b : Option (List ℕ)) (id : ℕ) (body : List ℕ) (r : Reply) → Consumes a b (packet body) → IsReply body id r → Consumes a b (packet (reply_body id r))
a_reply a b id body r read is = subst (λ (t : List ℕ). Consumes a b (packet t)) is.parts read

-- ---- one exchange

-- the packet of one request was sent, and no other is in flight
sent_alone : {v u : ClientView} {bytes : List ℕ} (q : WireRequest) → v.failed ≡ false → Sent v bytes u → bytes ≡ packet (request_body v.next q) → SentAhead v [] (q ∷ []) u
unfolding last_id
sent_alone {v} {u} q began sent is = sent_more v.next q (exchanged_none v began) refl (subst (λ (t : List ℕ). Sent v t u) is sent)

rose_since : (a b c : ℕ) → a ≤ b → b ≤ c → Rose b c → Rose a c
rose_since a b c le grew (inl more) = inl (omega arith)
rose_since a b c le grew (inr end) = elim (cases_lt a c) [ inl lt ↦ inl lt | inr ge ↦ inr (omega arith) ]

pub broke_since : (u v w : ClientView) → u.failures ≤ v.failures → Broke v w → Broke u w
broke_since u v w le broke = record { failed = broke.failed; grew = omega (arith, broke.grew); rose = rose_since u.failures v.failures w.failures le broke.grew broke.rose }

-- the reply arrived, or it didn't, or memory ran out for it
pub settled_ok : {v u : ClientView} {bytes : List ℕ} (w : ClientView) (d : PendingReply) (r : Reply) → v.failed ≡ false → Sent v bytes u → TakesReply u d (Ok r) w
    → (q : WireRequest) → bytes ≡ packet (request_body v.next q) → d ≡ pending_of q → Exchanged v (asked q r ∷ []) w
settled_ok w d r began sent takes q is pending = took_one (sent_alone q began sent is) (rw (← pending) takes.0) takes.1

pub settled_err : {v u : ClientView} {bytes : List ℕ} (w : ClientView) (d : PendingReply) (f : ClientFault) → v.failed ≡ false → Sent v bytes u → TakesReply u d (Err f) w
    → (q : WireRequest) → bytes ≡ packet (request_body v.next q) → d ≡ pending_of q → SettlesRequest {X = Reply} (λ r. r) v q (Err f) w
settled_err {v} {u} w d fault.Stream began sent takes q is pending = broke_since v u w sent.failures takes
settled_err {u = u} w d fault.Protocol began sent takes q is pending = (u, sent_alone q began sent is, record { failed = takes.0; outgoing = takes.1; none = rw (← pending) takes.2 })
settled_err w d fault.OutOfMemory began sent takes q is pending = (takes.0, takes.2, settled_ok w d takes.0 began sent (takes.1, takes.3) q is pending)
settled_err w d _ began sent takes q is pending = absurd takes

pub answer_expected : (d : PendingReply) (r : Reply) → is_answer d r ≡ true → is_expected d r ≡ true
answer_expected d r answer = rw answer refl

pub success_is : (r : Reply) → is_answer pending.Success r ≡ true → r ≡ reply.Status status.Success
success_is (reply.Status status.Success) e = refl
success_is _ e = cc

-- an error's effect doesn't depend on the kind of result
pub same_fault : {X Y : Type 0} (as_reply : X → Reply) (other : Y → Reply) (v w : ClientView) (q : WireRequest) (f : ClientFault) → SettlesRequest as_reply v q (Err f) w → SettlesRequest other v q (Err f) w
same_fault as_reply other v w q fault.Stream h = h
same_fault as_reply other v w q _ h = h

pub settled_comes : {X : Type 0} (as_reply : X → Reply) (v w : ClientView) (q : WireRequest) (result : Result X ClientFault) → v.failed ≡ false → SettlesRequest as_reply v q result w → Comes as_reply v q result w
settled_comes as_reply v w q (Err fault.OutOfMemory) began h = (began, inr h)
settled_comes as_reply v w q (Err fault.Failed) began h = absurd h.1
settled_comes as_reply v w q _ began h = h

-- ---- VERSION

pub no_version : (a : Option (List ℕ)) → HasNoPacket a → HasNoVersion a
no_version None h = tt
no_version (Some input) h = λ rest e. h version_body rest (record { some = lit< tt; short = lit≤ tt }) e

pub other_version : (a b : Option (List ℕ)) (body : List ℕ) → Consumes a b (packet body) → length body ≤ 262144 → (body ≡ version_body → ⊥) → HasNoVersion a
other_version a b body read short other = if_known _ a b (packet body) read (λ left is rest e. other (same_body body version_body left rest short (lit≤ tt) e))
