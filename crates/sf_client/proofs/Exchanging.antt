-- Sequences of exchanges, and pipelined requests.
use Rattle.std.proofs.Common.{◌≡◌, ℕ, List, [], ◌∷◌, ◌++◌, Option, true, false, refl, sym, ap, subst, ◌∙◌, append_assoc, append-nil, arith}
use Rattle.std.specs.List.{AllByRecursion}
use Rattle.std.specs.Io.KnownBytes.{Appends, Consumes}
use Rattle.std.proofs.KnownBytes.{Appends-nil, Consumes-nil, Appends-trans, Consumes-trans}
use Rattle.std.proofs.lemmas.List.{map-append}
use Rattle.sf_field.specs.Fields.{packet}
use Rattle.sf_request.specs.declared.request.WireRequest.{WireRequest}
use Rattle.sf_request.specs.Requests.{request_body}
use Rattle.sf_reply.specs.declared.reply.Reply.{Reply}
use Rattle.sf_reply.specs.Replies.{reply_body}
use Rattle.sf_client.specs.Pending.{pending_of, is_expected}
use Rattle.sf_client.specs.Exchanges.{ClientView, Exchange, Exchanged, SentAhead, Unanswered, Sent, Took, IsExpected, id_after, last_id, requests_of, requests_from, replies_from}
use Rattle.sf_client.specs.Outcomes.{asked}

-- ---- lists

pub last_id-append : {X : Type 0} (id : ℕ) (xs ys : List X) → last_id id (xs ++ ys) ≡ last_id (last_id id xs) ys
unfolding last_id
last_id-append id [] ys = refl
last_id-append id (x ∷ xs) ys = last_id-append (id_after id) xs ys

-- as many requests as exchanges
last_id-requests : (id : ℕ) (xs : List Exchange) → last_id id (requests_of xs) ≡ last_id id xs
unfolding last_id
last_id-requests id [] = refl
last_id-requests id (x ∷ xs) = last_id-requests (id_after id) xs

requests-append : (id : ℕ) (ps qs : List WireRequest) → requests_from id (ps ++ qs) ≡ requests_from id ps ++ requests_from (last_id id ps) qs
unfolding requests_from last_id
requests-append id [] qs = refl
requests-append id (p ∷ ps) qs = ap (λ (t : List ℕ). packet (request_body id p) ++ t) (requests-append (id_after id) ps qs) ∙ sym (append_assoc (packet (request_body id p)) (requests_from (id_after id) ps) (requests_from (last_id (id_after id) ps) qs))

replies-append : (id : ℕ) (xs ys : List Exchange) → replies_from id (xs ++ ys) ≡ replies_from id xs ++ replies_from (last_id id xs) ys
unfolding replies_from last_id
replies-append id [] ys = refl
replies-append id (x ∷ xs) ys = ap (λ (t : List ℕ). packet (reply_body id x.reply) ++ t) (replies-append (id_after id) xs ys) ∙ sym (append_assoc (packet (reply_body id x.reply)) (replies_from (id_after id) xs) (replies_from (last_id (id_after id) xs) ys))

pub all-append : {X : Type 0} (P : X → Type 0) (xs ys : List X) → AllByRecursion P xs → AllByRecursion P ys → AllByRecursion P (xs ++ ys)
all-append P [] ys p q = q
all-append P (x ∷ xs) ys p q = (p.0, all-append P xs ys p.1 q)

pub all-map : {X : Type 0} (P Q : X → Type 0) (xs : List X) → ((x : X) → P x → Q x) → AllByRecursion P xs → AllByRecursion Q xs
all-map P Q [] f p = tt
all-map P Q (x ∷ xs) f p = (f x p.0, all-map P Q xs f p.1)

-- the oldest request in flight is answered
pub requests-shift : (xs : List Exchange) (q : WireRequest) (r : Reply) (qs : List WireRequest) → requests_of (xs ++ asked q r ∷ []) ++ qs ≡ requests_of xs ++ q ∷ qs
requests-shift xs q r qs = ap (λ (t : List WireRequest). t ++ qs) (map-append (λ (x : Exchange). x.request) xs (asked q r ∷ [])) ∙ append_assoc (requests_of xs) (q ∷ []) qs

-- ---- exchanges

pub exchanged_none : (v : ClientView) → v.failed ≡ false → Exchanged v [] v
unfolding last_id requests_from replies_from
exchanged_none v going = record { began = going; going = going; next = refl; wrote = Appends-nil v.outgoing; read = Consumes-nil v.incoming; pending = tt; failures = omega arith }

-- the packets of requests sent in two parts
requests_in_parts : (id : ℕ) (xs ys : List Exchange) (later : List WireRequest) → requests_from id (requests_of (xs ++ ys) ++ later) ≡ requests_from id (requests_of xs ++ []) ++ requests_from (last_id id xs) (requests_of ys ++ later)
requests_in_parts id xs ys later =
    let parts : requests_of (xs ++ ys) ++ later ≡ requests_of xs ++ (requests_of ys ++ later) =
    ap (λ (t : List WireRequest). t ++ later) (map-append (λ (x : Exchange). x.request) xs ys) ∙ append_assoc (requests_of xs) (requests_of ys) later in
    ap (requests_from id) parts ∙ requests-append id (requests_of xs) (requests_of ys ++ later) ∙ ap (λ (n : ℕ). requests_from id (requests_of xs) ++ requests_from n (requests_of ys ++ later)) (last_id-requests id xs)
    ∙ ap (λ (t : List WireRequest). requests_from id t ++ requests_from (last_id id xs) (requests_of ys ++ later)) (sym (append-nil (requests_of xs)))

pub ahead_then : (u v w : ClientView) (xs ys : List Exchange) (later : List WireRequest) → Exchanged u xs v → SentAhead v ys later w → SentAhead u (xs ++ ys) later w
ahead_then u v w xs ys later p q =
    let wrote : Appends v.outgoing w.outgoing (requests_from (last_id u.next xs) (requests_of ys ++ later)) = subst (λ (n : ℕ). Appends v.outgoing w.outgoing (requests_from n (requests_of ys ++ later))) p.next q.wrote in
    let read : Consumes v.incoming w.incoming (replies_from (last_id u.next xs) ys) = subst (λ (n : ℕ). Consumes v.incoming w.incoming (replies_from n ys)) p.next q.read in
    record {
      began = p.began;
      going = q.going;
      next = q.next ∙ ap (λ (n : ℕ). last_id n ys) p.next ∙ sym (last_id-append u.next xs ys);
      wrote = subst (Appends u.outgoing w.outgoing) (sym (requests_in_parts u.next xs ys later)) (Appends-trans _ _ _ _ _ p.wrote wrote);
      read = subst (Consumes u.incoming w.incoming) (sym (replies-append u.next xs ys)) (Consumes-trans _ _ _ _ _ p.read read);
      pending = all-append IsExpected xs ys p.pending q.pending;
      failures = omega (arith, p.failures, q.failures);
    }

pub exchanged_then : (u v w : ClientView) (xs ys : List Exchange) → Exchanged u xs v → Exchanged v ys w → Exchanged u (xs ++ ys) w
exchanged_then u v w xs ys p q = ahead_then u v w xs ys [] p q

pub unanswered_then : (u v w : ClientView) (xs ys : List Exchange) (q : WireRequest) (later : List WireRequest) → Exchanged u xs v → Unanswered v ys q later w → Unanswered u (xs ++ ys) q later w
unanswered_then u v w xs ys q later p h = (h.0, ahead_then u v h.0 xs ys (q ∷ later) p h.1, h.2)

-- ---- one more request, and one more reply

-- one more request was sent, with the next id
pub sent_more : {v u w : ClientView} {xs : List Exchange} {qs : List WireRequest} (id : ℕ) (q : WireRequest) → SentAhead v xs qs u → id ≡ last_id v.next (requests_of xs ++ qs) → Sent u (packet (request_body id q)) w
    → SentAhead v xs (qs ++ q ∷ []) w
unfolding requests_from
sent_more {v} {u} {w} {xs} {qs} id q ahead is sent =
    let next : w.next ≡ u.next = ap (λ (z : ClientView). z.next) sent.client in
    let failed : w.failed ≡ u.failed = ap (λ (z : ClientView). z.failed) sent.client in
    let incoming : w.incoming ≡ u.incoming = ap (λ (z : ClientView). z.incoming) sent.client in
    let sum = requests_of xs ++ qs in
    let one : packet (request_body id q) ≡ requests_from (last_id v.next sum) (q ∷ []) = ap (λ (n : ℕ). packet (request_body n q)) is ∙ sym (append-nil (packet (request_body (last_id v.next sum) q))) in
    let all : requests_from v.next sum ++ packet (request_body id q) ≡ requests_from v.next (requests_of xs ++ (qs ++ q ∷ [])) =
    ap (λ (t : List ℕ). requests_from v.next sum ++ t) one ∙ sym (requests-append v.next sum (q ∷ [])) ∙ ap (requests_from v.next) (append_assoc (requests_of xs) qs (q ∷ [])) in
    record {
      began = ahead.began;
      going = failed ∙ ahead.going;
      next = next ∙ ahead.next;
      wrote = subst (Appends v.outgoing w.outgoing) all (Appends-trans _ _ _ _ _ ahead.wrote sent.wrote);
      read = subst (λ (t : Option (List ℕ)). Consumes v.incoming t (replies_from v.next xs)) (sym incoming) ahead.read;
      pending = ahead.pending;
      failures = omega (arith, ahead.failures, sent.failures);
    }

-- the oldest pending reply was received
pub took_one : {v u w : ClientView} {xs : List Exchange} {q : WireRequest} {qs : List WireRequest} {r : Reply} → SentAhead v xs (q ∷ qs) u → is_expected (pending_of q) r ≡ true → Took u r w → SentAhead v (xs ++ asked q r ∷ []) qs w
unfolding replies_from last_id
took_one {v} {u} {w} {xs} {q} {qs} {r} ahead pending took =
    let one : packet (reply_body u.next r) ≡ replies_from (last_id v.next xs) (asked q r ∷ []) = ap (λ (n : ℕ). packet (reply_body n r)) ahead.next ∙ sym (append-nil (packet (reply_body (last_id v.next xs) r))) in
    let all : replies_from v.next xs ++ packet (reply_body u.next r) ≡ replies_from v.next (xs ++ asked q r ∷ []) = ap (λ (t : List ℕ). replies_from v.next xs ++ t) one ∙ sym (replies-append v.next xs (asked q r ∷ [])) in
    let wrote : Appends v.outgoing w.outgoing (requests_from v.next (requests_of xs ++ q ∷ qs)) = subst (λ (t : Option (List ℕ)). Appends v.outgoing t (requests_from v.next (requests_of xs ++ q ∷ qs))) (sym took.outgoing) ahead.wrote in
    record {
      began = ahead.began;
      going = took.same ∙ ahead.going;
      next = took.next ∙ ap id_after ahead.next ∙ sym (last_id-append v.next xs (asked q r ∷ []));
      wrote = subst (λ (t : List WireRequest). Appends v.outgoing w.outgoing (requests_from v.next t)) (sym (requests-shift xs q r qs)) wrote;
      read = subst (Consumes v.incoming w.incoming) all (Consumes-trans _ _ _ _ _ ahead.read took.read);
      pending = all-append IsExpected xs (asked q r ∷ []) ahead.pending (pending, tt);
      failures = omega (arith, ahead.failures, took.failures);
    }
