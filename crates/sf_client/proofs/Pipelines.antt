-- Pipelined requests and their replies, for any items that a call collects from these.
use Rattle.std.proofs.Common.{◌≡◌, ◌≢◌, ◌+◌, ◌-◌, ◌*◌, ◌^◌, ◌<◌, ◌≤◌, ℕ, zero, suc, List, [], ◌∷◌, ◌++◌, length, Bool, true, false, Option, Some, None, Result, Ok, Err, inl, inr, refl, sym, ap, subst, ◌∙◌, append_assoc, arith}
use Rattle.std.specs.List.{AllByRecursion}
use Rattle.std.proofs.lemmas.List.{length-append, nil_from_length}
use Rattle.sf_request.specs.declared.request.WireRequest.{WireRequest}
use Rattle.sf_reply.specs.declared.reply.Reply.{Reply}
use Rattle.sf_client.specs.declared.ahead.Ahead.{Ahead}
use Rattle.sf_client.specs.declared.pending.PendingReply.{PendingReply}
use Rattle.sf_client.specs.declared.fault.ClientFault.{ClientFault}
use Rattle.sf_client.specs.declared.fault.ClientFault.TheVariants as fault
use Rattle.sf_client.specs.Pending.{pending_of, is_expected}
use Rattle.sf_client.specs.Exchanges.{ClientView, Exchange, Exchanged, SentAhead, Took, HasNoReply, id_after, last_id, requests_of}
use Rattle.sf_client.specs.Outcomes.{asked, EndsCallBy}
use Rattle.sf_client.specs.Ahead.{ClientAhead, MaySendMore, sender, SendsOn, TakesOn, RunsShort}
use Rattle.sf_client.specs.Calls.{DoesCall, ended_by}
use Rattle.sf_client.proofs.Exchanging.{exchanged_none, sent_more, took_one, last_id-append, requests-shift, all-append}
use Rattle.sf_client.proofs.Steps.{broke_since, answer_expected}
use Rattle.sf_client.proofs.Runs.{CallEnded, ended_does}

-- ---- a pipeline and its state

-- A call collects items from arriving replies. Or it discards those in flight, and this error
-- stopped it, if any; otherwise it continues after them.
pub data PipelinePhase : Type 0 where
  Going : PipelinePhase
  Dropping : Option ClientFault → PipelinePhase

abbrev pub IsIn : PipelinePhase → Ahead → Type 0
IsIn Going a = (a.stopped ≡ None) × (a.dropped ≡ 0)
IsIn (Dropping by) a = (a.stopped ≡ by) × (a.dropped ≡ a.waiting)

-- What a pipelined call requests and collects. `Gathers x phase made coming`: these exchanges
-- yielded x, while these requests are in flight.
pub record Pipeline : Type 1 where
  pub IsOne : WireRequest → Type 0
  pub pending : PendingReply
  pub one_pending : (q : WireRequest) → IsOne q → pending_of q ≡ pending
  pub Gathered : Type 0
  pub Gathers : Gathered → PipelinePhase → List Exchange → List WireRequest → Type 0
  -- nothing more is discarded
  pub skipped : (x : Gathered) (made : List Exchange) → Gathers x (Dropping None) made [] → Gathers x Going made []
  -- memory runs out for sending another request
  pub short : (x : Gathered) (made : List Exchange) (coming : List WireRequest) → Gathers x Going made coming → Gathers x (Dropping (Some fault.OutOfMemory)) made coming
  -- the reply to the oldest request ends it
  pub stops : (x : Gathered) (made : List Exchange) (coming : List WireRequest) (e : Exchange) (f : ClientFault) → IsOne e.request → EndsCallBy e.reply f → Gathers x Going made (e.request ∷ coming)
      → Gathers x (Dropping (Some f)) (made ++ e ∷ []) coming
  -- the reply to the oldest request is discarded
  pub drops : (x : Gathered) (by : Option ClientFault) (made : List Exchange) (coming : List WireRequest) (e : Exchange) → IsOne e.request → Gathers x (Dropping by) made (e.request ∷ coming) → Gathers x (Dropping by) (made ++ e ∷ []) coming

-- The state of a pipeline that a client began: the exchanges so far, the items collected, and the
-- requests in flight.
pub record Position (p : Pipeline) (began : ClientView) (x : p.Gathered) (now : ClientAhead) : Type 0 where
  pub phase : PipelinePhase
  pub made : List Exchange
  pub coming : List WireRequest
  pub few : now.ahead.waiting ≤ 64
  pub sent : SentAhead began made coming now.client
  pub id : now.ahead.id ≡ last_id began.next (requests_of made ++ coming)
  pub waiting : now.ahead.waiting ≡ length coming
  pub ones : AllByRecursion p.IsOne coming
  pub is_in : IsIn phase now.ahead
  pub gathers : p.Gathers x phase made coming

pub starts : (p : Pipeline) (v : ClientView) (x : p.Gathered) (a : Ahead) → v.failed ≡ false → a ≡ record { id = v.next; waiting = 0; dropped = 0; stopped = None } → p.Gathers x Going [] [] → Position p v x (sender v a)
unfolding last_id
starts p v x a going is gathers =
    subst (λ (b : Ahead). Position p v x (sender v b)) (sym is)
    (record { phase = Going; made = []; coming = []; few = omega arith; sent = exchanged_none v going; id = refl; waiting = refl; ones = tt; is_in = (refl, refl); gathers = gathers })

-- ---- its phase

something : (qs : List WireRequest) (n : ℕ) → n ≡ length qs → 0 < n → (q : WireRequest) × (others : List WireRequest) × (qs ≡ q ∷ others)
something [] n is some = absurd (omega arith)
something (q ∷ qs) n is some = (q, qs, refl)

-- no request is in flight
pub nothing_coming : {p : Pipeline} {v : ClientView} {x : p.Gathered} {y : ClientAhead} (at : Position p v x y) → y.ahead.waiting ≡ 0 → at.coming ≡ []
nothing_coming at none = nil_from_length at.coming (sym at.waiting ∙ none)

-- it continues unless it was stopped or replies are to be discarded
pub goes_on : {p : Pipeline} {v : ClientView} {x : p.Gathered} {y : ClientAhead} (at : Position p v x y) → y.ahead.stopped ≡ None → y.ahead.dropped ≡ 0 → p.Gathers x Going at.made at.coming
goes_on {p} {v} {x} {y} at none kept =
    (elim at.phase as (λ (s : PipelinePhase). IsIn s y.ahead → p.Gathers x s at.made at.coming → p.Gathers x Going at.made at.coming) [
      | Going ↦ λ is h. h
      | Dropping by ↦ λ is h. let nil = nothing_coming at (sym is.1 ∙ kept) in
          let end = subst (λ (b : Option ClientFault). p.Gathers x (Dropping b) at.made at.coming) (sym is.0 ∙ none) h in
          subst (p.Gathers x Going at.made) (sym nil) (p.skipped x at.made (subst (p.Gathers x (Dropping None) at.made) nil end))
    ]) at.is_in at.gathers

-- the next reply counts unless it is to be discarded
counts : {p : Pipeline} {v : ClientView} {x : p.Gathered} {y : ClientAhead} (at : Position p v x y) → 0 < y.ahead.waiting → y.ahead.dropped ≡ 0 → (y.ahead.stopped ≡ None) × p.Gathers x Going at.made at.coming
counts {p} {v} {x} {y} at some kept =
    (elim at.phase as (λ (s : PipelinePhase). IsIn s y.ahead → p.Gathers x s at.made at.coming → (y.ahead.stopped ≡ None) × p.Gathers x Going at.made at.coming) [
      | Going ↦ λ is h. (is.0, h)
      | Dropping by ↦ λ is h. absurd (omega (arith, some, kept, is.1))
    ]) at.is_in at.gathers

-- the next reply is to be discarded
drops_one : {p : Pipeline} {v : ClientView} {x : p.Gathered} {y : ClientAhead} (at : Position p v x y) → 0 < y.ahead.dropped → (by : Option ClientFault) × IsIn (Dropping by) y.ahead × p.Gathers x (Dropping by) at.made at.coming
drops_one {p} {v} {x} {y} at more =
    (elim at.phase as (λ (s : PipelinePhase). IsIn s y.ahead → p.Gathers x s at.made at.coming → (by : Option ClientFault) × IsIn (Dropping by) y.ahead × p.Gathers x (Dropping by) at.made at.coming) [
      | Going ↦ λ is h. absurd (omega (arith, more, is.1))
      | Dropping by ↦ λ is h. (by, is, h)
    ]) at.is_in at.gathers

-- nothing is discarded if no reply is pending
pub none_dropped : {p : Pipeline} {v : ClientView} {x : p.Gathered} {y : ClientAhead} (at : Position p v x y) → y.ahead.waiting ≡ 0 → y.ahead.dropped ≡ 0
none_dropped {p} {v} {x} {y} at none =
    (elim at.phase as (λ (s : PipelinePhase). IsIn s y.ahead → y.ahead.dropped ≡ 0) [ Going ↦ λ is. is.1 | Dropping by ↦ λ is. is.1 ∙ none ]) at.is_in

pub stopped_by : {p : Pipeline} {v : ClientView} {x : p.Gathered} {y : ClientAhead} (at : Position p v x y) (f : ClientFault) → y.ahead.stopped ≡ Some f → y.ahead.waiting ≡ 0 → p.Gathers x (Dropping (Some f)) at.made []
stopped_by {p} {v} {x} {y} at f stopped none =
    subst (p.Gathers x (Dropping (Some f)) at.made) (nothing_coming at none)
    ((elim at.phase as (λ (s : PipelinePhase). IsIn s y.ahead → p.Gathers x s at.made at.coming → p.Gathers x (Dropping (Some f)) at.made at.coming) [
      | Going ↦ λ is h. let going = is.0 in absurd cc
      | Dropping by ↦ λ is h. subst (λ (b : Option ClientFault). p.Gathers x (Dropping b) at.made at.coming) (sym is.0 ∙ stopped) h
    ]) at.is_in at.gathers)

-- all replies were received
pub all_taken : {p : Pipeline} {v : ClientView} {x : p.Gathered} {y : ClientAhead} (at : Position p v x y) → y.ahead.waiting ≡ 0 → Exchanged v at.made y.client
all_taken {p} {v} {x} {y} at none = subst (λ (t : List WireRequest). SentAhead v at.made t y.client) (nothing_coming at none) at.sent

-- ---- one more request

pub sends : {p : Pipeline} {v : ClientView} {x : p.Gathered} {y z : ClientAhead} (at : Position p v x y) (q : WireRequest) (now : p.Gathered) → MaySendMore y.ahead → p.IsOne q → SendsOn y q (Ok true) z
    → (p.Gathers x Going at.made at.coming → p.Gathers now Going at.made (at.coming ++ q ∷ [])) → Position p v now z
unfolding last_id
sends {p} {v} {x} {y} {z} at q now room one h gathers = record {
  phase = Going;
  made = at.made;
  coming = at.coming ++ q ∷ [];
  few = omega (arith, room.room, ap (λ (a : Ahead). a.waiting) h.1);
  sent = sent_more y.ahead.id q at.sent at.id h.0;
  id = ap (λ (a : Ahead). a.id) h.1 ∙ ap id_after at.id ∙ sym (last_id-append v.next (requests_of at.made ++ at.coming) (q ∷ [])) ∙ ap (last_id v.next) (append_assoc (requests_of at.made) at.coming (q ∷ []));
  waiting = omega (arith, ap (λ (a : Ahead). a.waiting) h.1, at.waiting, length-append at.coming (q ∷ []));
  ones = all-append p.IsOne at.coming (q ∷ []) at.ones (one, tt);
  is_in = (ap (λ (a : Ahead). a.stopped) h.1 ∙ room.going, ap (λ (a : Ahead). a.dropped) h.1 ∙ room.kept);
  gathers = gathers (goes_on at room.going room.kept);
}

-- memory ran out for sending it
pub unsent : {p : Pipeline} {v : ClientView} {x : p.Gathered} {y z : ClientAhead} (at : Position p v x y) → MaySendMore y.ahead → (z.client ≡ y.client) × RunsShort y.ahead z.ahead → Position p v x z
unsent {p} {v} {x} {y} {z} at room h =
    subst (λ (u : ClientView). Position p v x (sender u z.ahead)) (sym h.0)
    (subst (λ (a : Ahead). Position p v x (sender y.client a)) (sym h.1)
    (record {
      phase = Dropping (Some fault.OutOfMemory);
      made = at.made;
      coming = at.coming;
      few = at.few;
      sent = at.sent;
      id = at.id;
      waiting = at.waiting;
      ones = at.ones;
      is_in = (refl, refl);
      gathers = p.short x at.made at.coming (goes_on at room.going room.kept);
    }))

-- another request was sent, or memory ran out for it
pub sends_on : {p : Pipeline} {v : ClientView} {x : p.Gathered} {y z : ClientAhead} (at : Position p v x y) (q : WireRequest) (sent : Bool) → MaySendMore y.ahead → p.IsOne q → SendsOn y q (Ok sent) z
    → (p.Gathers x Going at.made at.coming → p.Gathers x Going at.made (at.coming ++ q ∷ [])) → Position p v x z
sends_on {p} {v} {x} at q true room one h gathers = sends at q x room one h gathers
sends_on at q false room one h gathers = unsent at room h

-- ---- one more reply

-- A reply to the oldest request arrived.
pub record ReplyCame (y : ClientAhead) (d : PendingReply) (r : Reply) (z : ClientAhead) : Type 0 where
  pub some : 0 < y.ahead.waiting
  pub pending : is_expected d r ≡ true
  pub took : Took y.client r z.client
  pub id : z.ahead.id ≡ y.ahead.id
  pub waiting : z.ahead.waiting ≡ y.ahead.waiting - 1

replied : {p : Pipeline} {v : ClientView} {x : p.Gathered} {y z : ClientAhead} {r : Reply} (at : Position p v x y) (phase : PipelinePhase) (now : p.Gathered) → ReplyCame y p.pending r z → IsIn phase z.ahead
    → ((q : WireRequest) (others : List WireRequest) → p.IsOne q → p.Gathers x at.phase at.made (q ∷ others) → p.Gathers now phase (at.made ++ asked q r ∷ []) others) → Position p v now z
replied {p} {v} {x} {y} {z} {r} at phase now c is_in gathers =
    let old = something at.coming y.ahead.waiting at.waiting c.some in
    let ones = subst (AllByRecursion p.IsOne) old.2 at.ones in
    record {
      phase = phase;
      made = at.made ++ asked old.0 r ∷ [];
      coming = old.1;
      few = omega (arith, c.waiting, at.few);
      sent = took_one (subst (λ (t : List WireRequest). SentAhead v at.made t y.client) old.2 at.sent) (rw (p.one_pending old.0 ones.0) c.pending) c.took;
      id = c.id ∙ at.id ∙ ap (λ (t : List WireRequest). last_id v.next (requests_of at.made ++ t)) old.2 ∙ ap (last_id v.next) (sym (requests-shift at.made old.0 r old.1));
      waiting = omega (arith, c.waiting, at.waiting, ap length old.2);
      ones = ones.1;
      is_in = is_in;
      gathers = gathers old.0 old.1 ones.0 (subst (p.Gathers x at.phase at.made) old.2 at.gathers);
    }

-- the same, if the reply counts
counted : {p : Pipeline} {v : ClientView} {x : p.Gathered} {y z : ClientAhead} {r : Reply} (at : Position p v x y) (phase : PipelinePhase) (now : p.Gathered) → ReplyCame y p.pending r z → y.ahead.dropped ≡ 0
    → (y.ahead.stopped ≡ None → IsIn phase z.ahead) → ((q : WireRequest) (others : List WireRequest) → p.IsOne q → p.Gathers x Going at.made (q ∷ others) → p.Gathers now phase (at.made ++ asked q r ∷ []) others) → Position p v now z
counted {p} {v} {x} {y} {z} {r} at phase now c kept is_in gathers =
    let going = counts at c.some kept in
    let there : Position p v x y = record at { phase = Going; is_in = (going.0, kept); gathers = going.1 } in
    replied there phase now c (is_in going.0) gathers

answered : {d : PendingReply} {y z : ClientAhead} {a : Ahead} (r : Reply) → 0 < y.ahead.waiting → TakesOn y d (Ok (Some r)) z → a.id ≡ z.ahead.id → a.waiting ≡ z.ahead.waiting → ReplyCame y d r (sender z.client a)
answered {d} {y} {z} {a} r some h id waiting = record {
  some = some;
  pending = answer_expected d r h.0;
  took = h.2;
  id = id ∙ ap (λ (b : Ahead). b.id) h.3;
  waiting = waiting ∙ ap (λ (b : Ahead). b.waiting) h.3;
}

-- the items with those of this reply
abbrev pub GathersWith : (p : Pipeline) → p.Gathered → List Exchange → Reply → p.Gathered → PipelinePhase → Type 0
GathersWith p x made r now phase =
    (q : WireRequest) (others : List WireRequest) → p.IsOne q → p.Gathers x Going made (q ∷ others) → p.Gathers now phase (made ++ asked q r ∷ []) others

-- a reply arrived that counts
pub took_on : {p : Pipeline} {v : ClientView} {x : p.Gathered} {y z : ClientAhead} (at : Position p v x y) (r : Reply) (now : p.Gathered) → 0 < y.ahead.waiting → TakesOn y p.pending (Ok (Some r)) z → GathersWith p x at.made r now Going → Position p v now z
took_on at r now some h gathers = counted at Going now (answered r some h refl refl) h.1 (λ going. (ap (λ (b : Ahead). b.stopped) h.3 ∙ going, ap (λ (b : Ahead). b.dropped) h.3 ∙ h.1)) gathers

-- after it the replies in flight are discarded
pub took_short : {p : Pipeline} {v : ClientView} {x : p.Gathered} {y z : ClientAhead} {a : Ahead} (at : Position p v x y) (r : Reply) (now : p.Gathered) → 0 < y.ahead.waiting → TakesOn y p.pending (Ok (Some r)) z
    → a ≡ record z.ahead { dropped = z.ahead.waiting } → GathersWith p x at.made r now (Dropping None) → Position p v now (sender z.client a)
took_short {p} {v} {x} {y} {z} at r now some h is gathers =
    subst (λ (b : Ahead). Position p v now (sender z.client b)) (sym is)
    (counted at (Dropping None) now (answered r some h refl refl) h.1 (λ going. (ap (λ (b : Ahead). b.stopped) h.3 ∙ going, refl)) gathers)

-- memory ran out for it
pub took_no_room : {p : Pipeline} {v : ClientView} {x : p.Gathered} {y z : ClientAhead} {a : Ahead} (at : Position p v x y) (r : Reply) (now : p.Gathered) → 0 < y.ahead.waiting → TakesOn y p.pending (Ok (Some r)) z
    → RunsShort z.ahead a → GathersWith p x at.made r now (Dropping (Some fault.OutOfMemory)) → Position p v now (sender z.client a)
took_no_room {p} {v} {x} {y} {z} at r now some h is gathers =
    subst (λ (b : Ahead). Position p v now (sender z.client b)) (sym is)
    (counted at (Dropping (Some fault.OutOfMemory)) now (answered r some h refl refl) h.1 (λ going. (refl, refl)) gathers)

-- a reply was discarded, or stopped the sending
pub missed : {p : Pipeline} {v : ClientView} {x : p.Gathered} {y z : ClientAhead} (at : Position p v x y) → 0 < y.ahead.waiting → TakesOn y p.pending (Ok None) z → Position p v x z
missed {p} {v} {x} {y} {z} at some h =
    elim h.5 [
      | inl more ↦ let d = drops_one at more.0 in
          let there : Position p v x y = record at { phase = Dropping d.0; is_in = d.1; gathers = d.2 } in
          subst (λ (b : Ahead). Position p v x (sender z.client b)) (sym more.1) (replied there (Dropping d.0) x (record { some = some; pending = h.2; took = h.3; id = refl; waiting = refl }) (d.1.0, ap (λ (n : ℕ). n - 1) d.1.1) (λ q others one g. p.drops x d.0 at.made others (asked q h.0) one g))
      | inr none ↦ subst (λ (b : Ahead). Position p v x (sender z.client b)) (sym none.1)
          (counted at (Dropping (Some h.1)) x (record { some = some; pending = h.2; took = h.3; id = refl; waiting = refl }) none.0 (λ going. (refl, refl)) (λ q others one g. p.stops x at.made others (asked q h.0) h.1 one (h.4 none.0) g))
    ]

-- ---- its end

-- the expected reply to the oldest request didn't arrive
spoilt : {p : Pipeline} {v : ClientView} {x : p.Gathered} {y : ClientAhead} {X : Type 0} (S : List Exchange → Result X ClientFault → Type 0) (at : Position p v x y) (w : ClientView) → 0 < y.ahead.waiting
    → (w.failed ≡ true) × (w.outgoing ≡ y.client.outgoing) × HasNoReply y.client.incoming y.client.next p.pending → DoesCall S v (Err fault.Protocol) w
spoilt {p} {v} {x} {y} S at w some h =
    let old = something at.coming y.ahead.waiting at.waiting some in
    let ones = subst (AllByRecursion p.IsOne) old.2 at.ones in (
      at.made,
      old.0,
      old.1,
      (
        y.client,
        subst (λ (t : List WireRequest). SentAhead v at.made t y.client) old.2 at.sent,
        record { failed = h.0; outgoing = h.1; none = subst (HasNoReply y.client.incoming y.client.next) (sym (p.one_pending old.0 ones.0)) h.2 },
      ),
    )

pub failed : {p : Pipeline} {v : ClientView} {x : p.Gathered} {y : ClientAhead} {X : Type 0} (S : List Exchange → Result X ClientFault → Type 0) (at : Position p v x y) (f : ClientFault) (z : ClientAhead) → 0 < y.ahead.waiting
    → TakesOn y p.pending (Err f) z → DoesCall S v (Err f) z.client
failed {p} {v} {x} {y} S at fault.Stream z some h = broke_since v y.client z.client at.sent.failures h
failed S at fault.Protocol z some h = spoilt S at z.client some h
failed S at _ z some h = absurd h

-- an error stopped it, and all replies were received
pub ended : {p : Pipeline} {v : ClientView} {x : p.Gathered} {y : ClientAhead} (S : List Exchange → Result p.Gathered ClientFault → Type 0) (at : Position p v x y) → y.ahead.waiting ≡ 0 → y.ahead.stopped ≢ None
    → ((f : ClientFault) → p.Gathers x (Dropping (Some f)) at.made [] → CallEnded S at.made x f) → DoesCall S v (ended_by y.ahead.stopped x) y.client
ended {p} {v} {x} {y} S at none some ends =
    (elim y.ahead.stopped as (λ (s : Option ClientFault). y.ahead.stopped ≡ s → DoesCall S v (ended_by s x) y.client) [ None ↦ λ is. absurd (some is) | Some f ↦ λ is. ended_does (ends f (stopped_by at f is none)) (all_taken at none) ]) refl

-- A bound on the remaining steps. Until it is stopped, each reply that counts adds an item, and at
-- most 64 requests are in flight. Replies to be discarded arrive one after the other. After the
-- stop only replies arrive.
abbrev pub measure : Option ClientFault → ℕ → ℕ → ℕ → ℕ
measure None len zero waiting = 300 * (2 ^ 63 - len) + (192 - waiting)
measure None len (suc dropped) waiting = 300 * (2 ^ 63 - len) + (192 + waiting)
measure (Some f) len dropped waiting = waiting
