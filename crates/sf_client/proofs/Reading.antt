-- Reading a file, pipelined.
use Rattle.std.proofs.Common.{◌≡◌, ◌≢◌, ◌+◌, ◌*◌, ◌<◌, ◌≤◌, ℕ, List, [], ◌∷◌, ◌++◌, length, Bool, true, false, Option, None, Some, Result, Ok, Err, rules, inl, inr, refl, sym, ap, subst, ◌∙◌, append_assoc, append-nil, arith}
use Rattle.std.specs.List.{concat}
use Rattle.std.proofs.lemmas.List.{length-append}
use Rattle.sf_field.specs.Fields.{be64}
use Rattle.sf_request.specs.declared.request.WireRequest.{WireRequest}
use Rattle.sf_field.specs.declared.operation.HandleOp.TheVariants as handle_op
use Rattle.sf_request.specs.declared.request.WireRequest.TheVariants as request
use Rattle.sf_reply.specs.declared.reply.Reply.{Reply}
use Rattle.sf_reply.specs.declared.reply.Reply.TheVariants as reply
use Rattle.sf_reply.specs.declared.reply.StatusCode.{StatusCode}
use Rattle.sf_reply.specs.declared.reply.StatusCode.TheVariants as status
use Rattle.sf_client.specs.declared.ahead.Ahead.{Ahead}
use Rattle.sf_client.specs.declared.pending.PendingReply.TheVariants as pending
use Rattle.sf_client.specs.declared.fault.ClientFault.{ClientFault}
use Rattle.sf_client.specs.declared.fault.ClientFault.TheVariants as fault
use Rattle.sf_client.specs.Pending.{Refuses, pending_of, is_answer}
use Rattle.sf_client.specs.Exchanges.{ClientView, Exchange}
use Rattle.sf_client.specs.Outcomes.{asked, EndsCallBy}
use Rattle.sf_client.specs.Ahead.{ClientAhead, MaySendMore, sender, GathersPiece, SendsOn, TakesOn}
use Rattle.sf_client.specs.Calls.{DoesCall, EndsAtLast, IsReadOf, KeepsSome, read_from, reads, Reads, ReadsAll, AsksSize, size_of, most_gathered, ended_by}
use Rattle.sf_client.proofs.Exchanging.{exchanged_then, unanswered_then}
use Rattle.sf_client.proofs.Steps.{broke_since}
use Rattle.sf_client.proofs.Runs.{CallEnded, at_first, eof_is, not_refused}
use Rattle.sf_client.proofs.Pipelines.{PipelinePhase, Going, Dropping, Pipeline, Position, starts, sends_on, GathersWith, took_on, took_short, took_no_room, ended}

-- an error status has no size
pub no_size : (r : Reply) (code : StatusCode) → Refuses r code → 0 ≡ size_of r
no_size (reply.Attrs attrs) code h = cc
no_size _ code h = refl

-- ---- chunks

concat_more : (pieces : List (List ℕ)) (piece : List ℕ) → concat (pieces ++ piece ∷ []) ≡ concat pieces ++ piece
concat_more [] piece = append-nil piece
concat_more (x ∷ pieces) piece = ap (λ (t : List ℕ). x ++ t) (concat_more pieces piece) ∙ sym (append_assoc x (concat pieces) piece)

reads_more : (n offset : ℕ) (pieces : List (List ℕ)) (piece : List ℕ) → reads n offset (pieces ++ piece ∷ []) ≡ reads n offset pieces ++ asked (read_from n (offset + length (concat pieces))) (reply.Data piece) ∷ []
unfolding reads
reads_more n offset [] piece = let none : offset + 0 ≡ offset = omega arith in rw none refl
reads_more n offset (x ∷ pieces) piece =
    let sum : offset + length x + length (concat pieces) ≡ offset + length (x ++ concat pieces) = omega (arith, length-append x (concat pieces)) in
    ap (λ (t : List Exchange). asked (read_from n offset) (reply.Data x) ∷ t) (reads_more n (offset + length x) pieces piece ∙ ap (λ (k : ℕ). reads n (offset + length x) pieces ++ asked (read_from n k) (reply.Data piece) ∷ []) sum)

-- one more exchange, which is kept
keeps_more : (n : ℕ) (xs kept : List Exchange) (x : Exchange) → IsReadOf n x.request → KeepsSome n xs kept → KeepsSome n (xs ++ x ∷ []) (kept ++ x ∷ [])
unfolding KeepsSome
keeps_more n [] kept x is h = (is, inl ([], ap (λ (t : List Exchange). t ++ x ∷ []) h, refl))
keeps_more n (y ∷ xs) kept x is (asks, inl h) = (asks, inl (h.0 ++ x ∷ [], ap (λ (t : List Exchange). t ++ x ∷ []) h.1, keeps_more n xs h.0 x is h.2))
keeps_more n (y ∷ xs) kept x is (asks, inr h) = (asks, inr (keeps_more n xs kept x is h))

-- one more exchange, with its reply discarded
drops_more : (n : ℕ) (xs kept : List Exchange) (x : Exchange) → IsReadOf n x.request → KeepsSome n xs kept → KeepsSome n (xs ++ x ∷ []) kept
unfolding KeepsSome
drops_more n [] kept x is h = (is, inr h)
drops_more n (y ∷ xs) kept x is (asks, inl h) = (asks, inl (h.0, h.1, drops_more n xs h.0 x is h.2))
drops_more n (y ∷ xs) kept x is (asks, inr h) = (asks, inr (drops_more n xs kept x is h))

-- ---- READs in flight

-- each continues at the end of the one before, if its chunk is complete
unfoldable pub Follows : ℕ → ℕ → List WireRequest → Type 0
Follows n offset [] = Unit {0}
Follows n offset (q ∷ qs) = (q ≡ read_from n offset) × Follows n (offset + 32768) qs

follows_more : (n offset : ℕ) (qs : List WireRequest) (next : ℕ) → next ≡ offset + length qs * 32768 → Follows n offset qs → Follows n offset (qs ++ read_from n next ∷ [])
unfolding Follows
follows_more n offset [] next is h = (let same : next ≡ offset = omega arith in ap (read_from n) same, tt)
follows_more n offset (q ∷ qs) next is h = (h.0, follows_more n (offset + 32768) qs next (omega arith) h.1)

-- ---- what was read

-- These exchanges read these bytes, chunk by chunk.
pub record Pieces (n : ℕ) (bytes : List ℕ) (kept : List Exchange) : Type 0 where
  pub pieces : List (List ℕ)
  pub bytes_are : bytes ≡ concat pieces
  pub kept_are : kept ≡ reads n 0 pieces

-- After some chunks this error ended the reading.
pub record ReadEndedBy (f : ClientFault) (n : ℕ) (bytes : List ℕ) (kept : List Exchange) : Type 0 where
  pub pieces : List (List ℕ)
  pub last : List Exchange
  pub bytes_are : f ≡ fault.Status status.EndOfFile → bytes ≡ concat pieces
  pub ends : EndsAtLast (read_from n (length (concat pieces))) last f
  pub kept_are : kept ≡ reads n 0 pieces ++ last

abbrev pub KeptIn : PipelinePhase → ℕ → List ℕ → List Exchange → List WireRequest → Type 0
KeptIn Going n bytes kept coming = Follows n (length bytes) coming × Pieces n bytes kept
KeptIn (Dropping None) n bytes kept coming = Pieces n bytes kept
KeptIn (Dropping (Some f)) n bytes kept coming = ReadEndedBy f n bytes kept

-- of the replies received these were kept
abbrev pub GathersBytes : ℕ → List ℕ → PipelinePhase → List Exchange → List WireRequest → Type 0
GathersBytes n bytes phase made coming = (kept : List Exchange) × KeepsSome n made kept × KeptIn phase n bytes kept coming

pub read_short : (n : ℕ) (bytes : List ℕ) (made : List Exchange) (coming : List WireRequest) → GathersBytes n bytes Going made coming → GathersBytes n bytes (Dropping (Some fault.OutOfMemory)) made coming
read_short n bytes made coming h =
    let so_far = h.2.1 in
    (h.0, h.1, record { pieces = so_far.pieces; last = []; bytes_are = λ e. so_far.bytes_are; ends = inl (refl, refl); kept_are = so_far.kept_are ∙ sym (append-nil (reads n 0 so_far.pieces)) })

pub read_stops : (n : ℕ) (bytes : List ℕ) (made : List Exchange) (coming : List WireRequest) (e : Exchange) (f : ClientFault) → IsReadOf n e.request → EndsCallBy e.reply f → GathersBytes n bytes Going made (e.request ∷ coming)
    → GathersBytes n bytes (Dropping (Some f)) (made ++ e ∷ []) coming
unfolding Follows
read_stops n bytes made coming e f one ends h =
    let so_far = h.2.1 in
    let asks : e.request ≡ read_from n (length (concat so_far.pieces)) = h.2.0.0 ∙ ap (λ (t : List ℕ). read_from n (length t)) so_far.bytes_are in (
      h.0 ++ e ∷ [],
      keeps_more n made h.0 e one h.1,
      record {
        pieces = so_far.pieces;
        last = asked (read_from n (length (concat so_far.pieces))) e.reply ∷ [];
        bytes_are = λ eof. so_far.bytes_are;
        ends = inr (e.reply, refl, ends);
        kept_are = ap (λ (t : List Exchange). t ++ e ∷ []) so_far.kept_are ∙ ap (λ (q : WireRequest). reads n 0 so_far.pieces ++ asked q e.reply ∷ []) asks;
      },
    )

pub read_drops : (n : ℕ) (bytes : List ℕ) (by : Option ClientFault) (made : List Exchange) (coming : List WireRequest) (e : Exchange) → IsReadOf n e.request → GathersBytes n bytes (Dropping by) made (e.request ∷ coming)
    → GathersBytes n bytes (Dropping by) (made ++ e ∷ []) coming
read_drops n bytes None made coming e one h = (h.0, drops_more n made h.0 e one h.1, h.2)
read_drops n bytes (Some f) made coming e one h = (h.0, drops_more n made h.0 e one h.1, h.2)

pub read_skipped : (n : ℕ) (bytes : List ℕ) (made : List Exchange) → GathersBytes n bytes (Dropping None) made [] → GathersBytes n bytes Going made []
unfolding Follows
read_skipped n bytes made h = (h.0, h.1, (tt, h.2))

-- READs of a handle, and their bytes
abbrev pub reading : ℕ → Pipeline
reading n = record {
  IsOne = IsReadOf n;
  pending = pending.Data 32768;
  one_pending = λ q one. ap pending_of one.1;
  Gathered = List ℕ;
  Gathers = GathersBytes n;
  skipped = read_skipped n;
  short = read_short n;
  stops = read_stops n;
  drops = read_drops n;
}

-- ---- its steps

pub read_starts : (n : ℕ) (v : ClientView) (bytes : List ℕ) (a : Ahead) → v.failed ≡ false → bytes ≡ [] → a ≡ record { id = v.next; waiting = 0; dropped = 0; stopped = None } → Position (reading n) v bytes (sender v a)
unfolding reads KeepsSome Follows
read_starts n v bytes a going nothing is = starts (reading n) v bytes a going is ([], refl, (tt, record { pieces = []; bytes_are = nothing; kept_are = refl }))

pub read_asked : {v : ClientView} {y z : ClientAhead} (n : ℕ) (bytes : List ℕ) (offset : ℕ) (sent : Bool) → Position (reading n) v bytes y → MaySendMore y.ahead → offset ≡ length bytes + y.ahead.waiting * 32768 → SendsOn y (read_from n offset) (Ok sent) z
    → Position (reading n) v bytes z
read_asked n bytes offset sent at room is h = sends_on at (read_from n offset) sent room (offset, refl) h (λ g. (g.0, g.1, (follows_more n (length bytes) at.coming offset (omega (arith, is, at.waiting)) g.2.0, g.2.1)))

-- one more chunk
piece_more : {n : ℕ} {bytes : List ℕ} {kept : List Exchange} (piece now : List ℕ) (q : WireRequest) → Pieces n bytes kept → now ≡ bytes ++ piece → q ≡ read_from n (length bytes) → Pieces n now (kept ++ asked q (reply.Data piece) ∷ [])
piece_more {n} {bytes} {kept} piece now q so_far is asks =
    let at : length bytes ≡ 0 + length (concat so_far.pieces) = omega (arith, ap length so_far.bytes_are) in
    record {
      pieces = so_far.pieces ++ piece ∷ [];
      bytes_are = is ∙ ap (λ (t : List ℕ). t ++ piece) so_far.bytes_are ∙ sym (concat_more so_far.pieces piece);
      kept_are = ap (λ (t : List Exchange). t ++ asked q (reply.Data piece) ∷ []) so_far.kept_are ∙ ap (λ (x : WireRequest). reads n 0 so_far.pieces ++ asked x (reply.Data piece) ∷ []) (asks ∙ ap (read_from n) at)
          ∙ sym (reads_more n 0 so_far.pieces piece);
    }

-- at most the number requested
data_most : (piece : List ℕ) → is_answer (pending.Data 32768) (reply.Data piece) ≡ true → length piece ≤ 32768
data_most piece h = search rules

-- a complete chunk arrived: the next READ continues at its end
piece_whole : (n : ℕ) (bytes piece now : List ℕ) (made : List Exchange) → now ≡ bytes ++ piece → length piece ≡ 32768 → GathersWith (reading n) bytes made (reply.Data piece) now Going
unfolding Follows
piece_whole n bytes piece now made is whole = λ q others one g.
    let end : length bytes + 32768 ≡ length now = omega (arith, ap length is, length-append bytes piece, whole) in
    (g.0 ++ asked q (reply.Data piece) ∷ [], keeps_more n made g.0 (asked q (reply.Data piece)) one g.1, (subst (λ (o : ℕ). Follows n o others) end g.2.0.1, piece_more piece now q g.2.1 is g.2.0.0))

piece_short : (n : ℕ) (bytes piece now : List ℕ) (made : List Exchange) → now ≡ bytes ++ piece → GathersWith (reading n) bytes made (reply.Data piece) now (Dropping None)
unfolding Follows
piece_short n bytes piece now made is = λ q others one g. (g.0 ++ asked q (reply.Data piece) ∷ [], keeps_more n made g.0 (asked q (reply.Data piece)) one g.1, piece_more piece now q g.2.1 is g.2.0.0)

-- the bytes collected so far no longer count
piece_lost : (n : ℕ) (bytes piece now : List ℕ) (made : List Exchange) → GathersWith (reading n) bytes made (reply.Data piece) now (Dropping (Some fault.OutOfMemory))
piece_lost n bytes piece now made = λ q others one g.
    let h = read_stops n bytes made others (asked q (reply.Data piece)) fault.OutOfMemory one (λ plain. plain) g in
    (h.0, h.1, record { pieces = h.2.pieces; last = h.2.last; bytes_are = λ e. absurd cc; ends = h.2.ends; kept_are = h.2.kept_are })

pub read_gathered : {v : ClientView} {y z : ClientAhead} {a : Ahead} (n : ℕ) (bytes piece now : List ℕ) → Position (reading n) v bytes y → 0 < y.ahead.waiting → TakesOn y (pending.Data 32768) (Ok (Some (reply.Data piece))) z → GathersPiece bytes piece now z.ahead a
    → Position (reading n) v now (sender z.client a)
read_gathered n bytes piece now at some h (inl (is, inl k)) = took_short at (reply.Data piece) now some h k.1 (piece_short n bytes piece now at.made is)
read_gathered {v} {y} {z} n bytes piece now at some h (inl (is, inr k)) =
    subst (λ (b : Ahead). Position (reading n) v now (sender z.client b)) (sym k.1)
    (took_on at (reply.Data piece) now some h (piece_whole n bytes piece now at.made is (let most = data_most piece h.0 in omega (arith, most, k.0))))
read_gathered n bytes piece now at some h (inr k) = took_no_room at (reply.Data piece) now some h k (piece_lost n bytes piece now at.made)

read_ends : (n : ℕ) (bytes : List ℕ) (f : ClientFault) (made : List Exchange) → GathersBytes n bytes (Dropping (Some f)) made [] → CallEnded (Reads n) made bytes f
read_ends n bytes f made h =
    let k = h.2 in
    let ends = k.ends in
    record {
      request = read_from n (length (concat k.pieces));
      last = k.last;
      ends = ends;
      err = (h.0, h.1, (k.pieces, k.last, ends, k.kept_are));
      ok = λ e. (
        h.0,
        h.1,
        (
          k.pieces,
          k.bytes_are e,
          k.kept_are ∙ ap (λ (t : List Exchange). reads n 0 k.pieces ++ t) (eof_is (read_from n (length (concat k.pieces))) k.last f e ends)
              ∙ ap (λ (t : List ℕ). reads n 0 k.pieces ++ asked (read_from n (length t)) (reply.Status status.EndOfFile) ∷ []) (sym (k.bytes_are e)),
        ),
      );
    }

pub read_ended : {v : ClientView} {y : ClientAhead} (n : ℕ) (bytes : List ℕ) → Position (reading n) v bytes y → y.ahead.waiting ≡ 0 → y.ahead.stopped ≢ None → DoesCall (Reads n) v (ended_by y.ahead.stopped bytes) y.client
read_ended n bytes at none some = ended (Reads n) at none some (λ f. read_ends n bytes f at.made)

-- ---- with FSTAT before

pub sized : (n : ℕ) (v u w : ClientView) (size : ℕ) (result : Result (List ℕ) ClientFault) → AsksSize n v (Ok size) u → size ≤ most_gathered → DoesCall (Reads n) u result w → DoesCall (ReadsAll n) v result w
sized n v u w size (Ok bytes) h small used = (_, (h.0, used.0, subst (λ (k : ℕ). k ≤ most_gathered) h.1 small, used.1, refl), exchanged_then v u w (asked (request.ByHandle handle_op.FStat (be64 n)) h.0 ∷ []) used.0 h.2 used.2)
sized n v u w size (Err fault.Stream) h small used = broke_since v u w h.2.failures used
sized n v u w size (Err fault.Protocol) h small used = (_, used.1, used.2, unanswered_then v u w (asked (request.ByHandle handle_op.FStat (be64 n)) h.0 ∷ []) used.0 used.1 used.2 h.2 used.3)
sized n v u w size (Err fault.Failed) h small used = let going = h.2.going in let failed = used.0 in absurd cc
sized n v u w size (Err f) h small used = (_, inr (inr (h.0, used.0, subst (λ (k : ℕ). k ≤ most_gathered) h.1 small, used.1, refl)), exchanged_then v u w (asked (request.ByHandle handle_op.FStat (be64 n)) h.0 ∷ []) used.0 h.2 used.2)

pub unsized : (n : ℕ) (v w : ClientView) (f : ClientFault) → AsksSize n v (Err f) w → DoesCall (ReadsAll n) v (Err f) w
unsized n v w f h = at_first v w (ReadsAll n) reply.Attrs (request.ByHandle handle_op.FStat (be64 n)) f (λ xs ends. inl (ends, not_refused (request.ByHandle handle_op.FStat (be64 n)) xs f h.0 ends)) h.1
