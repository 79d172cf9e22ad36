-- Whole calls with a handle.
use Rattle.std.proofs.Common.{◌≡◌, ◌≢◌, ◌⊎◌, ℕ, List, [], ◌∷◌, ◌++◌, true, Some, Result, Ok, Err, inl, inr, refl, sym, ap, subst, ◌∙◌, arith}
use Rattle.std.specs.Global.{Vec}
use Rattle.sf_field.specs.Fields.{be64}
use Rattle.sf_request.specs.declared.request.WireRequest.{WireRequest}
use Rattle.sf_field.specs.declared.operation.HandleOp.TheVariants as handle_op
use Rattle.sf_request.specs.declared.request.WireRequest.TheVariants as request
use Rattle.sf_reply.specs.declared.reply.Reply.{Reply}
use Rattle.sf_reply.specs.declared.reply.Reply.TheVariants as reply
use Rattle.sf_reply.specs.declared.reply.StatusCode.{StatusCode}
use Rattle.sf_reply.specs.declared.reply.StatusCode.TheVariants.{Success, EndOfFile}
use Rattle.sf_client.specs.declared.fault.ClientFault.{ClientFault}
use Rattle.sf_client.specs.declared.fault.ClientFault.TheVariants as fault
use Rattle.sf_client.specs.Exchanges.{ClientView, Exchange, Exchanged}
use Rattle.sf_client.specs.Outcomes.{asked, Comes, SettlesRequest}
use Rattle.sf_client.specs.Pending.{Refuses}
use Rattle.sf_client.specs.Calls.{DoesCall, ended_by, EndsAtLast, ByHandle, ClosesAfter, after_closing, items_of}
use Rattle.sf_client.proofs.Exchanging.{exchanged_none, exchanged_then, unanswered_then}
use Rattle.sf_client.proofs.Steps.{broke_since}

-- ---- a call with a handle

-- the only request of a call ended it
pub at_first : {X Y : Type 0} (v w : ClientView) (S : List Exchange → Result X ClientFault → Type 0) (as_reply : Y → Reply) (q : WireRequest) (f : ClientFault) → ((xs : List Exchange) → EndsAtLast q xs f → S xs (Err f)) → Comes as_reply v q (Err f) w
    → DoesCall S v (Err f) w
at_first v w S as_reply q fault.Stream into h = h
at_first v w S as_reply q fault.Protocol into h = ([], q, [], h)
at_first v w S as_reply q fault.Failed into h = h
at_first v w S as_reply q fault.OutOfMemory into h =
    elim h.1 [
      | inl same ↦ ([], into [] (inl (refl, refl)), subst (Exchanged v []) (sym same) (exchanged_none v h.0))
      | inr taken ↦ (_, into (asked q taken.0 ∷ []) (inr (taken.0, refl, taken.1)), taken.2)
    ]
at_first v w S as_reply q _ into h = (_, into (asked q h.0 ∷ []) (inr (h.0, refl, h.1)), h.2)

pub by_handle_unopened : {X : Type 0} (S : ℕ → List Exchange → Result X ClientFault → Type 0) (opening : WireRequest) (v w : ClientView) (f : ClientFault) → Comes reply.Handle v opening (Err f) w → DoesCall (ByHandle opening S) v (Err f) w
by_handle_unopened S opening v w f h = at_first v w (ByHandle opening S) reply.Handle opening f (λ xs ends. inl ends) h

-- A handle was opened.
pub record HandleOpened (opening : WireRequest) (v : ClientView) : Type 0 where
  pub number : ℕ
  pub client : ClientView
  pub exchanged : Exchanged v (asked opening (reply.Handle number) ∷ []) client

-- The client made exchanges that the script allows.
pub record ByScript {X : Type 0} (Script : List Exchange → Result X ClientFault → Type 0) (v : ClientView) (r : Result X ClientFault) (w : ClientView) : Type 0 where
  pub made : List Exchange
  pub script : Script made r
  pub exchanged : Exchanged v made w

-- all exchanges of a call with a handle
whole_call : {opening : WireRequest} {v m w : ClientView} {ys : List Exchange} (h : HandleOpened opening v) (r : Reply) → Exchanged h.client ys m → Exchanged m (asked (request.ByHandle handle_op.Close (be64 h.number)) r ∷ []) w
    → Exchanged v (asked opening (reply.Handle h.number) ∷ (ys ++ asked (request.ByHandle handle_op.Close (be64 h.number)) r ∷ [])) w
whole_call {opening} {v} {m} {w} {ys} h r used closed = exchanged_then v h.client w (asked opening (reply.Handle h.number) ∷ []) (ys ++ asked (request.ByHandle handle_op.Close (be64 h.number)) r ∷ []) h.exchanged (exchanged_then h.client m w ys _ used closed)

-- A call failed the client; or it made exchanges that its script allows.
came_to : {X : Type 0} {opening : WireRequest} {v : ClientView} (S : ℕ → List Exchange → Result X ClientFault → Type 0) (h : HandleOpened opening v) (outcome : Result X ClientFault) (m : ClientView) → DoesCall (S h.number) h.client outcome m
    → ((m.failed ≡ true) × DoesCall (ByHandle opening S) v outcome m)
    ⊎ (ByScript (S h.number) h.client outcome m × ((w : ClientView) → ByScript (ByHandle opening S) v outcome w → DoesCall (ByHandle opening S) v outcome w))
came_to {v = v} S h (Err fault.Stream) m used = inl (used.failed, broke_since v h.client m h.exchanged.failures used)
came_to {opening = opening} {v = v} S h (Err fault.Protocol) m used =
    inl (used.3.2.failed, (_, used.1, used.2, unanswered_then v h.client m (asked opening (reply.Handle h.number) ∷ []) used.0 used.1 used.2 h.exchanged used.3))
came_to S h (Err fault.Failed) m used = let going = h.exchanged.going in let failed = used.0 in absurd cc
came_to S h _ m used = inr (record { made = used.0; script = used.1; exchanged = used.2 }, λ w k. (k.made, k.script, k.exchanged))

-- CLOSE after these exchanges
closes : {X : Type 0} {opening : WireRequest} {v m : ClientView} (S : ℕ → List Exchange → Result X ClientFault → Type 0) (h : HandleOpened opening v) (outcome : Result X ClientFault) (closing : Result (Unit {0}) ClientFault) (w : ClientView)
    → ByScript (S h.number) h.client outcome m → (ByScript (ByHandle opening S) v outcome w → DoesCall (ByHandle opening S) v outcome w)
    → SettlesRequest {X = Unit {0}} (λ _. reply.Status Success) m (request.ByHandle handle_op.Close (be64 h.number)) closing w → DoesCall (ByHandle opening S) v (after_closing outcome closing) w
closes S h (Ok x) (Ok t) w used does c =
    (_, (h.number, used.made ++ asked (request.ByHandle handle_op.Close (be64 h.number)) (reply.Status Success) ∷ [], (used.made, used.script, refl), refl), whole_call h (reply.Status Success) used.exchanged c)
closes S h (Err first) (Ok t) w used does c = does (record {
  made = _;
  script = inr (h.number, used.made ++ asked (request.ByHandle handle_op.Close (be64 h.number)) (reply.Status Success) ∷ [], (used.made, reply.Status Success, inl used.script, refl), refl);
  exchanged = whole_call h (reply.Status Success) used.exchanged c;
})
closes {v = v} {m = m} S h outcome (Err fault.Stream) w used does c = broke_since v m w (omega (arith, h.exchanged.failures, used.exchanged.failures)) c
closes {opening = opening} {v = v} {m = m} S h outcome (Err fault.Protocol) w used does c =
    (_, request.ByHandle handle_op.Close (be64 h.number), [], unanswered_then v m w _ [] (request.ByHandle handle_op.Close (be64 h.number)) [] (exchanged_then v h.client m (asked opening (reply.Handle h.number) ∷ []) used.made h.exchanged used.exchanged) c)
closes S h (Ok x) (Err fault.Failed) w used does c = absurd c.1
closes S h (Ok x) (Err f) w used does c = (_, inr (h.number, used.made ++ asked (request.ByHandle handle_op.Close (be64 h.number)) c.0 ∷ [], (used.made, c.0, inr (x, used.script, c.1), refl), refl), whole_call h c.0 used.exchanged c.2)
closes S h (Err first) (Err f) w used does c = does (record {
  made = _;
  script = inr (h.number, used.made ++ asked (request.ByHandle handle_op.Close (be64 h.number)) c.0 ∷ [], (used.made, c.0, inl used.script, refl), refl);
  exchanged = whole_call h c.0 used.exchanged c.2;
})

pub by_handle_done : {X : Type 0} {opening : WireRequest} {v : ClientView} (S : ℕ → List Exchange → Result X ClientFault → Type 0) (h : HandleOpened opening v) (outcome : Result X ClientFault) (m : ClientView) (result : Result X ClientFault) (w : ClientView)
    → DoesCall (S h.number) h.client outcome m → ClosesAfter h.number outcome m result w → DoesCall (ByHandle opening S) v result w
by_handle_done {X} {opening} {v} S h outcome m result w used c =
    let call = ByHandle opening S in
    elim (came_to S h outcome m used) [
      | inl a ↦ elim c [
        | inl b ↦ subst (λ (r : Result X ClientFault). DoesCall call v r w) (sym b.1) (subst (DoesCall call v outcome) (sym b.2) a.1)
        | inr b ↦ let failed = a.0 in let going = b.0 in absurd cc
      ]
      | inr a ↦ elim c [
        | inl b ↦ let failed = b.0 in let going = a.0.exchanged.going in absurd cc
        | inr b ↦ subst (λ (r : Result X ClientFault). DoesCall call v r w) (sym b.2) (closes S h outcome b.1 w a.0 (a.1 w) b.3)
      ]
    ]

-- CLOSE does the same to a vector and to its items
items_after : {X : Type 0} (outcome : Result (Vec X) ClientFault) (closing : Result (Unit {0}) ClientFault) → items_of (after_closing outcome closing) ≡ after_closing (items_of outcome) closing
items_after outcome (Ok t) = refl
items_after outcome (Err fault.Stream) = refl
items_after outcome (Err fault.Protocol) = refl
items_after (Ok x) _ = refl
items_after (Err f) _ = refl

pub closes_items : {X : Type 0} (n : ℕ) (outcome : Result (Vec X) ClientFault) (v : ClientView) (result : Result (Vec X) ClientFault) (w : ClientView) → ClosesAfter n outcome v result w → ClosesAfter n (items_of outcome) v (items_of result) w
closes_items n outcome v result w (inl c) = inl (c.0, ap items_of c.1, c.2)
closes_items n outcome v result w (inr c) = inr (c.0, c.1, ap items_of c.2 ∙ items_after outcome c.1, c.3)

-- ---- reading to the end

eof_reply : (r : Reply) → Refuses r EndOfFile → r ≡ reply.Status EndOfFile
eof_reply (reply.Status Success) h = cc
eof_reply _ h = cc

eof_last : (q : WireRequest) (last : List Exchange) → EndsAtLast q last (fault.Status EndOfFile) → last ≡ asked q (reply.Status EndOfFile) ∷ []
eof_last q last (inl h) = let e = h.1 in absurd cc
eof_last q last (inr h) = h.1 ∙ ap (λ (r : Reply). asked q r ∷ []) (eof_reply h.0 h.2)

-- the reply that ended it successfully is STATUS EOF
pub eof_is : (q : WireRequest) (last : List Exchange) (f : ClientFault) → f ≡ fault.Status EndOfFile → EndsAtLast q last f → last ≡ asked q (reply.Status EndOfFile) ∷ []
eof_is q last f is h = eof_last q last (subst (EndsAtLast q last) is h)

-- a call that a reply ended, but not an error status, ran out of memory
pub not_refused : (q : WireRequest) (xs : List Exchange) (f : ClientFault) → ((code : StatusCode) → f ≢ fault.Status code) → EndsAtLast q xs f → f ≡ fault.OutOfMemory
not_refused q xs f other (inl e) = e.1
not_refused q xs (fault.Status code) other (inr e) = absurd (other code refl)
not_refused q xs fault.OutOfMemory other (inr e) = refl
not_refused q xs _ other (inr e) = absurd e.2

-- How this error ended a call, by the last of its requests that counts; EOF is a success.
pub record CallEnded {X : Type 0} (S : List Exchange → Result X ClientFault → Type 0) (xs : List Exchange) (x : X) (f : ClientFault) : Type 0 where
  pub request : WireRequest
  pub last : List Exchange
  pub ends : EndsAtLast request last f
  pub err : S xs (Err f)
  pub ok : f ≡ fault.Status EndOfFile → S xs (Ok x)

pub ended_does : {X : Type 0} {S : List Exchange → Result X ClientFault → Type 0} {v u : ClientView} {xs : List Exchange} {x : X} {f : ClientFault} → CallEnded S xs x f → Exchanged v xs u → DoesCall S v (ended_by (Some f) x) u
ended_does {xs = xs} {f = fault.Status EndOfFile} e ex = (xs, e.ok refl, ex)
ended_does {xs = xs} {f = fault.Status code} e ex = (xs, e.err, ex)
ended_does {xs = xs} {f = fault.OutOfMemory} e ex = (xs, e.err, ex)
ended_does {f = f} e ex = let memory = not_refused e.request e.last f (λ code is. cc) e.ends in absurd cc
