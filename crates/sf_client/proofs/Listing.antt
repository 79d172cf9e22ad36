-- Listing a directory, pipelined.
use Rattle.std.proofs.Common.{◌≡◌, ◌≢◌, ◌<◌, ℕ, List, [], ◌∷◌, ◌++◌, Bool, false, Option, None, Some, Ok, inl, inr, refl, sym, ap, subst, ◌∙◌, append_assoc, append-nil}
use Rattle.std.specs.List.{AllByRecursion}
use Rattle.sf_field.specs.Fields.{be64}
use Rattle.sf_request.specs.declared.request.WireRequest.{WireRequest}
use Rattle.sf_field.specs.declared.operation.HandleOp.TheVariants as handle_op
use Rattle.sf_request.specs.declared.request.WireRequest.TheVariants as request
use Rattle.sf_reply.specs.declared.reply.Entry.{Entry}
use Rattle.sf_reply.specs.declared.reply.Reply.TheVariants as reply
use Rattle.sf_reply.specs.declared.reply.StatusCode.TheVariants as status
use Rattle.sf_client.specs.declared.ahead.Ahead.{Ahead}
use Rattle.sf_client.specs.declared.pending.PendingReply.TheVariants as pending
use Rattle.sf_client.specs.declared.fault.ClientFault.{ClientFault}
use Rattle.sf_client.specs.declared.fault.ClientFault.TheVariants as fault
use Rattle.sf_client.specs.Pending.{pending_of}
use Rattle.sf_client.specs.Exchanges.{ClientView, Exchange}
use Rattle.sf_client.specs.Outcomes.{asked, EndsCallBy}
use Rattle.sf_client.specs.Ahead.{ClientAhead, MaySendMore, sender, GathersNames, SendsOn, TakesOn}
use Rattle.sf_client.specs.Calls.{DoesCall, EndsAtLast, IsListing, listings, all_entries, ListsAll, ended_by}
use Rattle.sf_client.proofs.Exchanging.{all-append}
use Rattle.sf_client.proofs.Runs.{CallEnded, eof_is}
use Rattle.sf_client.proofs.Pipelines.{PipelinePhase, Going, Dropping, Pipeline, Position, starts, sends_on, GathersWith, took_on, took_no_room, ended}

-- ---- parts

entries_more : (parts : List (List Entry)) (part : List Entry) → all_entries (parts ++ part ∷ []) ≡ all_entries parts ++ part
entries_more [] part = append-nil part
entries_more (x ∷ parts) part = ap (λ (t : List Entry). x ++ t) (entries_more parts part) ∙ sym (append_assoc x (all_entries parts) part)

listings_more : (n : ℕ) (parts : List (List Entry)) (part : List Entry) → listings n (parts ++ part ∷ []) ≡ listings n parts ++ asked (request.ByHandle handle_op.ReadDir (be64 n)) (reply.Names part) ∷ []
unfolding listings
listings_more n [] part = refl
listings_more n (x ∷ parts) part = ap (λ (t : List Exchange). asked (request.ByHandle handle_op.ReadDir (be64 n)) (reply.Names x) ∷ t) (listings_more n parts part)

-- ---- what was listed

-- These exchanges listed these entries, part by part.
pub record Parts (n : ℕ) (entries : List Entry) (made : List Exchange) : Type 0 where
  pub parts : List (List Entry)
  pub entries_are : entries ≡ all_entries parts
  pub made_are : made ≡ listings n parts

-- After some parts this error ended the listing, and later replies were discarded.
pub record ListEndedBy (f : ClientFault) (n : ℕ) (entries : List Entry) (made : List Exchange) : Type 0 where
  pub parts : List (List Entry)
  pub last : List Exchange
  pub after : List Exchange
  pub entries_are : f ≡ fault.Status status.EndOfFile → entries ≡ all_entries parts
  pub ends : EndsAtLast (request.ByHandle handle_op.ReadDir (be64 n)) last f
  pub after_are : AllByRecursion (IsListing n) after
  pub made_are : made ≡ (listings n parts ++ last) ++ after

-- replies are discarded only after an error
abbrev pub GathersEntries : ℕ → List Entry → PipelinePhase → List Exchange → List WireRequest → Type 0
GathersEntries n entries Going made coming = Parts n entries made
GathersEntries n entries (Dropping None) made coming = ⊥
GathersEntries n entries (Dropping (Some f)) made coming = ListEndedBy f n entries made

abbrev pub AsksNames : ℕ → WireRequest → Type 0
AsksNames n q = q ≡ request.ByHandle handle_op.ReadDir (be64 n)

pub list_short : (n : ℕ) (entries : List Entry) (made : List Exchange) (coming : List WireRequest) → GathersEntries n entries Going made coming → GathersEntries n entries (Dropping (Some fault.OutOfMemory)) made coming
list_short n entries made coming h =
    let nil : listings n h.parts ≡ (listings n h.parts ++ []) ++ [] = sym (append-nil (listings n h.parts ++ []) ∙ append-nil (listings n h.parts)) in
    record { parts = h.parts; last = []; after = []; entries_are = λ e. h.entries_are; ends = inl (refl, refl); after_are = tt; made_are = h.made_are ∙ nil }

pub list_stops : (n : ℕ) (entries : List Entry) (made : List Exchange) (coming : List WireRequest) (e : Exchange) (f : ClientFault) → AsksNames n e.request → EndsCallBy e.reply f → GathersEntries n entries Going made (e.request ∷ coming)
    → GathersEntries n entries (Dropping (Some f)) (made ++ e ∷ []) coming
list_stops n entries made coming e f one ends h =
    let last = asked (request.ByHandle handle_op.ReadDir (be64 n)) e.reply ∷ [] in
    record {
      parts = h.parts;
      last = last;
      after = [];
      entries_are = λ eof. h.entries_are;
      ends = inr (e.reply, refl, ends);
      after_are = tt;
      made_are = ap (λ (t : List Exchange). t ++ e ∷ []) h.made_are ∙ ap (λ (q : WireRequest). listings n h.parts ++ asked q e.reply ∷ []) one ∙ sym (append-nil (listings n h.parts ++ last));
    }

pub list_drops : (n : ℕ) (entries : List Entry) (by : Option ClientFault) (made : List Exchange) (coming : List WireRequest) (e : Exchange) → AsksNames n e.request → GathersEntries n entries (Dropping by) made (e.request ∷ coming)
    → GathersEntries n entries (Dropping by) (made ++ e ∷ []) coming
list_drops n entries None made coming e one h = h
list_drops n entries (Some f) made coming e one h = record {
  parts = h.parts;
  last = h.last;
  after = h.after ++ e ∷ [];
  entries_are = h.entries_are;
  ends = h.ends;
  after_are = all-append (IsListing n) h.after (e ∷ []) h.after_are (one, tt);
  made_are = ap (λ (t : List Exchange). t ++ e ∷ []) h.made_are ∙ append_assoc (listings n h.parts ++ h.last) h.after (e ∷ []);
}

-- READDIRs of a handle, and their entries
abbrev pub listing : ℕ → Pipeline
listing n = record {
  IsOne = AsksNames n;
  pending = pending.Names;
  one_pending = λ q one. ap pending_of one;
  Gathered = List Entry;
  Gathers = GathersEntries n;
  skipped = λ entries made h. absurd h;
  short = list_short n;
  stops = list_stops n;
  drops = list_drops n;
}

-- ---- its steps

pub list_starts : (n : ℕ) (v : ClientView) (entries : List Entry) (a : Ahead) → v.failed ≡ false → entries ≡ [] → a ≡ record { id = v.next; waiting = 0; dropped = 0; stopped = None } → Position (listing n) v entries (sender v a)
unfolding listings
list_starts n v entries a going nothing is = starts (listing n) v entries a going is (record { parts = []; entries_are = nothing; made_are = refl })

pub list_asked : {v : ClientView} {y z : ClientAhead} (n : ℕ) (entries : List Entry) (sent : Bool) → Position (listing n) v entries y → MaySendMore y.ahead → SendsOn y (request.ByHandle handle_op.ReadDir (be64 n)) (Ok sent) z → Position (listing n) v entries z
list_asked n entries sent at room h = sends_on at (request.ByHandle handle_op.ReadDir (be64 n)) sent room refl h (λ g. g)

part_more : (n : ℕ) (entries part now : List Entry) (made : List Exchange) → now ≡ entries ++ part → GathersWith (listing n) entries made (reply.Names part) now Going
part_more n entries part now made is = λ q others one g. record {
  parts = g.parts ++ part ∷ [];
  entries_are = is ∙ ap (λ (t : List Entry). t ++ part) g.entries_are ∙ sym (entries_more g.parts part);
  made_are = ap (λ (t : List Exchange). t ++ asked q (reply.Names part) ∷ []) g.made_are ∙ ap (λ (x : WireRequest). listings n g.parts ++ asked x (reply.Names part) ∷ []) one ∙ sym (listings_more n g.parts part);
}

-- the entries collected so far no longer count
part_lost : (n : ℕ) (entries part now : List Entry) (made : List Exchange) → GathersWith (listing n) entries made (reply.Names part) now (Dropping (Some fault.OutOfMemory))
part_lost n entries part now made = λ q others one g.
    let h = list_stops n entries made others (asked q (reply.Names part)) fault.OutOfMemory one (λ plain. plain) g in
    record { parts = h.parts; last = h.last; after = h.after; entries_are = λ e. absurd cc; ends = h.ends; after_are = h.after_are; made_are = h.made_are }

pub list_gathered : {v : ClientView} {y z : ClientAhead} {a : Ahead} (n : ℕ) (entries part now : List Entry) → Position (listing n) v entries y → 0 < y.ahead.waiting → TakesOn y pending.Names (Ok (Some (reply.Names part))) z
    → GathersNames entries part now z.ahead a → Position (listing n) v now (sender z.client a)
list_gathered {v} {y} {z} n entries part now at some h (inl k) =
    subst (λ (b : Ahead). Position (listing n) v now (sender z.client b)) (sym k.1) (took_on at (reply.Names part) now some h (part_more n entries part now at.made k.0))
list_gathered n entries part now at some h (inr k) = took_no_room at (reply.Names part) now some h k (part_lost n entries part now at.made)

list_ends : (n : ℕ) (entries : List Entry) (f : ClientFault) (made : List Exchange) → GathersEntries n entries (Dropping (Some f)) made [] → CallEnded (ListsAll n) made entries f
list_ends n entries f made h =
    let kept = listings n h.parts ++ h.last in
    let ends = h.ends in
    record {
      request = request.ByHandle handle_op.ReadDir (be64 n);
      last = h.last;
      ends = ends;
      err = (kept, h.after, (h.parts, h.last, ends, refl), h.after_are, h.made_are);
      ok = λ e. (
        kept,
        h.after,
        (h.parts, h.entries_are e, ap (λ (t : List Exchange). listings n h.parts ++ t) (eof_is (request.ByHandle handle_op.ReadDir (be64 n)) h.last f e ends)),
        h.after_are,
        h.made_are,
      );
    }

pub list_ended : {v : ClientView} {y : ClientAhead} (n : ℕ) (entries : List Entry) → Position (listing n) v entries y → y.ahead.waiting ≡ 0 → y.ahead.stopped ≢ None → DoesCall (ListsAll n) v (ended_by y.ahead.stopped entries) y.client
list_ended n entries at none some = ended (ListsAll n) at none some (λ f. list_ends n entries f at.made)
