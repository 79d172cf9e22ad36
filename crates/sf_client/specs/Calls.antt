-- The exchanges of whole calls.
use Rattle.std.specs.Prelude.{◌≡◌, ◌≢◌, ◌≤◌, ◌<◌, ◌^◌, ◌+◌, ◌*◌, ◌/◌, ◌⊎◌, ℕ, zero, suc, List, [], ◌∷◌, ◌++◌, length, take, drop, true, false, Option, Some, None, Result, Ok, Err, unwrap_or}
use Rattle.std.specs.List.{AllByRecursion, concat, flat_map}
use Rattle.std.specs.Global.{Vec}
use Rattle.sf_field.specs.Fields.{be64}
use Rattle.sf_field.specs.declared.open_flags.OpenFlags.{OpenFlags}
use Rattle.sf_request.specs.declared.request.WireRequest.{WireRequest}
use Rattle.sf_field.specs.declared.operation.HandleOp.TheVariants as handle_op
use Rattle.sf_request.specs.declared.request.WireRequest.TheVariants as request
use Rattle.sf_reply.specs.declared.reply.Entry.{Entry}
use Rattle.sf_reply.specs.declared.reply.Reply.{Reply}
use Rattle.sf_reply.specs.declared.reply.Reply.TheVariants as reply
use Rattle.sf_reply.specs.declared.reply.StatusCode.{StatusCode}
use Rattle.sf_reply.specs.declared.reply.StatusCode.TheVariants.{Success, EndOfFile}
use Rattle.sf_client.specs.declared.fault.ClientFault.{ClientFault}
use Rattle.sf_client.specs.declared.fault.ClientFault.TheVariants as fault
use Rattle.sf_client.specs.Pending.{Refuses}
use Rattle.sf_client.specs.Exchanges.{ClientView, Exchange, Exchanged, Unanswered, requests_of}
use Rattle.sf_client.specs.Outcomes.{asked, Broke, Comes, EndsCallBy, SettlesRequest}

-- The effect of a call with the possible exchanges `Script`. It made such exchanges, and no reply
-- is pending; or the transport failed; or after some exchanges the expected reply didn't arrive.
abbrev pub DoesCall : {X : Type 0} → (List Exchange → Result X ClientFault → Type 0) → ClientView
    → Result X ClientFault → ClientView → Type 0
DoesCall Script v (Err fault.Stream) w = Broke v w
DoesCall Script v (Err fault.Protocol) w = (xs : List Exchange) × (q : WireRequest)
    × (later : List WireRequest) × Unanswered v xs q later w
DoesCall Script v (Err fault.Failed) w = (v.failed ≡ true) × (w ≡ v)
DoesCall Script v result w = (xs : List Exchange) × Script xs result × Exchanged v xs w

-- The last request ended the call with this error, or was not sent because memory ran out.
abbrev pub EndsAtLast : WireRequest → List Exchange → ClientFault → Type 0
EndsAtLast q last f =
    ((last ≡ []) × (f ≡ fault.OutOfMemory))
    ⊎ ((r : Reply) × (last ≡ asked q r ∷ []) × EndsCallBy r f)

-- The exchanges with a handle, followed by CLOSE. After a success CLOSE may end the call with an
-- error.
abbrev pub Closes : {X : Type 0} → (List Exchange → Result X ClientFault → Type 0) → ℕ
    → List Exchange → Result X ClientFault → Type 0
Closes {X} Script n xs (Ok x) = (ys : List Exchange) × Script ys (Ok x)
    × (xs ≡ ys ++ asked (request.ByHandle handle_op.Close (be64 n)) (reply.Status Success) ∷ [])
Closes {X} Script n xs (Err f) = (ys : List Exchange) × (r : Reply)
    × (Script ys (Err f) ⊎ ((x : X) × Script ys (Ok x) × EndsCallBy r f))
    × (xs ≡ ys ++ asked (request.ByHandle handle_op.Close (be64 n)) r ∷ [])

-- A request that opens a handle, exchanges with it, and CLOSE. CLOSE is missing only if no handle
-- was opened.
abbrev pub ByHandle : {X : Type 0} → WireRequest → (ℕ → List Exchange → Result X ClientFault
    → Type 0) → List Exchange → Result X ClientFault → Type 0
ByHandle opening Script xs (Ok x) = (n : ℕ) × (ys : List Exchange) × Closes (Script n) n ys (Ok x)
    × (xs ≡ asked opening (reply.Handle n) ∷ ys)
ByHandle opening Script xs (Err f) = EndsAtLast opening xs f
    ⊎ ((n : ℕ) × (ys : List Exchange) × Closes (Script n) n ys (Err f)
    × (xs ≡ asked opening (reply.Handle n) ∷ ys))

-- the flag READ
abbrev pub to_read : OpenFlags
to_read = record {
  read = true;
  write = false;
  append = false;
  create = false;
  truncate = false;
  exclusive = false;
}

-- the flags WRITE, CREAT and TRUNC
abbrev pub to_write : OpenFlags
to_write = record {
  read = false;
  write = true;
  append = false;
  create = true;
  truncate = true;
  exclusive = false;
}

-- READs of 32768 bytes, each from the end of the chunk before
abbrev pub read_from : ℕ → ℕ → WireRequest
read_from n offset = request.ByHandle (handle_op.Read offset 32768) (be64 n)

unfoldable pub reads : ℕ → ℕ → List (List ℕ) → List Exchange
reads n offset [] = []
reads n offset (piece ∷ pieces) =
    asked (read_from n offset) (reply.Data piece) ∷ reads n (offset + length piece) pieces

-- a file was read to its end, each READ from the end of the chunk before
abbrev pub ReadsOn : ℕ → List Exchange → Result (List ℕ) ClientFault → Type 0
ReadsOn n xs (Ok bytes) = (pieces : List (List ℕ)) × (bytes ≡ concat pieces)
    × (xs ≡ reads n 0 pieces ++ asked (read_from n (length bytes)) (reply.Status EndOfFile) ∷ [])
ReadsOn n xs (Err f) = (pieces : List (List ℕ)) × (last : List Exchange)
    × EndsAtLast (read_from n (length (concat pieces))) last f × (xs ≡ reads n 0 pieces ++ last)

abbrev pub IsReadOf : ℕ → WireRequest → Type 0
IsReadOf n q = (offset : ℕ) × (q ≡ read_from n offset)

-- The exchanges are READs. Some are kept, in order; the replies of the others were discarded.
unfoldable pub KeepsSome : ℕ → List Exchange → List Exchange → Type 0
KeepsSome n [] kept = kept ≡ []
KeepsSome n (x ∷ xs) kept = IsReadOf n x.request
    × (((others : List Exchange) × (kept ≡ x ∷ others) × KeepsSome n xs others)
    ⊎ KeepsSome n xs kept)

-- Pipelined READs; those kept read the file.
abbrev pub Reads : ℕ → List Exchange → Result (List ℕ) ClientFault → Type 0
Reads n xs r = (kept : List Exchange) × KeepsSome n xs kept × ReadsOn n kept r

-- the size in a reply to FSTAT, or 0
abbrev pub size_of : Reply → ℕ
size_of (reply.Attrs attrs) = unwrap_or attrs.size 0
size_of _ = 0

-- the effect of FSTAT; an error status yields 0
abbrev pub AsksSize : ℕ → ClientView → Result ℕ ClientFault → ClientView → Type 0
AsksSize n v (Ok size) w =
    (r : Reply) × (size ≡ size_of r)
    × Exchanged v (asked (request.ByHandle handle_op.FStat (be64 n)) r ∷ []) w
AsksSize n v (Err f) w = ((code : StatusCode) → f ≢ fault.Status code)
    × Comes reply.Attrs v (request.ByHandle handle_op.FStat (be64 n)) (Err f) w

-- the maximum size in bytes of a file to get
abbrev pub most_gathered : ℕ
most_gathered = 2 ^ 30

-- FSTAT returned a larger size.
abbrev pub IsTooLarge : ℕ → List Exchange → ClientFault → Type 0
IsTooLarge n xs f = (r : Reply) × (most_gathered < size_of r) × (f ≡ fault.TooLarge (size_of r))
    × (xs ≡ asked (request.ByHandle handle_op.FStat (be64 n)) r ∷ [])

-- FSTAT and the file's READs; no READs if the size is too large
abbrev pub ReadsAll : ℕ → List Exchange → Result (List ℕ) ClientFault → Type 0
ReadsAll n xs (Ok bytes) = (r : Reply) × (ys : List Exchange) × (size_of r ≤ most_gathered)
    × Reads n ys (Ok bytes) × (xs ≡ asked (request.ByHandle handle_op.FStat (be64 n)) r ∷ ys)
ReadsAll n xs (Err f) =
    (EndsAtLast (request.ByHandle handle_op.FStat (be64 n)) xs f × (f ≡ fault.OutOfMemory))
    ⊎ (IsTooLarge n xs f ⊎ ((r : Reply) × (ys : List Exchange) × (size_of r ≤ most_gathered)
    × Reads n ys (Err f) × (xs ≡ asked (request.ByHandle handle_op.FStat (be64 n)) r ∷ ys)))

-- chunks of 32768 bytes, the last one shorter: their number, and the WRITE of the k-th
abbrev pub count_of_pieces : List ℕ → ℕ
count_of_pieces bytes = (length bytes + 32767) / 32768

abbrev pub write_piece : ℕ → List ℕ → ℕ → WireRequest
write_piece n bytes k = request.Write (be64 n) (k * 32768) (take 32768 (drop (k * 32768) bytes))

-- the WRITEs of the first k chunks, each at its offset
unfoldable pub writes : ℕ → List ℕ → ℕ → List WireRequest
writes n bytes zero = []
writes n bytes (suc k) = writes n bytes k ++ write_piece n bytes k ∷ []

abbrev pub IsSuccess : Exchange → Type 0
IsSuccess x = x.reply ≡ reply.Status Success

-- The first error status has this code, or memory ran out.
abbrev pub EndsAtRefusal : List Exchange → ClientFault → Type 0
EndsAtRefusal xs (fault.Status code) = (before : List Exchange) × (x : Exchange)
    × (after : List Exchange)
    × AllByRecursion IsSuccess before × Refuses x.reply code × (xs ≡ before ++ x ∷ after)
EndsAtRefusal xs fault.OutOfMemory = Unit {0}
EndsAtRefusal xs _ = ⊥

-- All chunks were written, in order; or only the first k, if a WRITE returned an error status or
-- memory ran out.
abbrev pub WritesAll : List ℕ → ℕ → List Exchange → Result (Unit {0}) ClientFault → Type 0
WritesAll bytes n xs (Ok x) =
    (requests_of xs ≡ writes n bytes (count_of_pieces bytes)) × AllByRecursion IsSuccess xs
WritesAll bytes n xs (Err f) =
    (k : ℕ) × (k ≤ count_of_pieces bytes) × (requests_of xs ≡ writes n bytes k) × EndsAtRefusal xs f

-- a directory was listed to its end
unfoldable pub listings : ℕ → List (List Entry) → List Exchange
listings n [] = []
listings n (entries ∷ others) =
    asked (request.ByHandle handle_op.ReadDir (be64 n)) (reply.Names entries) ∷ listings n others

abbrev pub all_entries : List (List Entry) → List Entry
all_entries parts = flat_map (λ (entries : List Entry). entries) parts

abbrev pub ListsOn : ℕ → List Exchange → Result (List Entry) ClientFault → Type 0
ListsOn n xs (Ok entries) = (parts : List (List Entry)) × (entries ≡ all_entries parts)
    × (xs ≡ listings n parts
    ++ asked (request.ByHandle handle_op.ReadDir (be64 n)) (reply.Status EndOfFile) ∷ [])
ListsOn n xs (Err f) = (parts : List (List Entry)) × (last : List Exchange)
    × EndsAtLast (request.ByHandle handle_op.ReadDir (be64 n)) last f
    × (xs ≡ listings n parts ++ last)

abbrev pub IsListing : ℕ → Exchange → Type 0
IsListing n x = x.request ≡ request.ByHandle handle_op.ReadDir (be64 n)

-- Pipelined READDIRs; the replies after the last that counts were discarded.
abbrev pub ListsAll : ℕ → List Exchange → Result (List Entry) ClientFault → Type 0
ListsAll n xs r = (kept : List Exchange) × (after : List Exchange) × ListsOn n kept r
    × AllByRecursion (IsListing n) after × (xs ≡ kept ++ after)

-- a vector's items, on success
abbrev pub items_of : {X : Type 0} → Result (Vec X) ClientFault → Result (List X) ClientFault
items_of (Ok v) = Ok v.items
items_of (Err f) = Err f

-- the result of a call after CLOSE: the first error, unless the client failed in CLOSE
abbrev pub after_closing : {X : Type 0} → Result X ClientFault → Result (Unit {0}) ClientFault
    → Result X ClientFault
after_closing result (Ok x) = result
after_closing result (Err fault.Stream) = Err fault.Stream
after_closing result (Err fault.Protocol) = Err fault.Protocol
after_closing (Ok x) (Err f) = Err f
after_closing (Err first) (Err f) = Err first

-- CLOSE, and its effect on the result of a call. A client that has failed doesn't send it.
abbrev pub ClosesAfter : {X : Type 0} → ℕ → Result X ClientFault → ClientView → Result X ClientFault
    → ClientView → Type 0
ClosesAfter n outcome v result w = ((v.failed ≡ true) × (result ≡ outcome) × (w ≡ v))
    ⊎ ((v.failed ≡ false) × (closing : Result (Unit {0}) ClientFault)
    × (result ≡ after_closing outcome closing)
    × SettlesRequest (λ _. reply.Status Success) v (request.ByHandle handle_op.Close (be64 n))
    closing w)

-- EOF is not an error here: it ends the data
abbrev pub ended_by : {X : Type 0} → Option ClientFault → X → Result X ClientFault
ended_by (Some (fault.Status EndOfFile)) x = Ok x
ended_by (Some f) x = Err f
ended_by None x = Ok x

-- the replies with data or names
abbrev pub reply_by : {X : Type 0} → (X → Reply) → Result (Option X) ClientFault
    → Result (Option Reply) ClientFault
reply_by as_reply (Ok (Some x)) = Ok (Some (as_reply x))
reply_by as_reply (Ok None) = Ok None
reply_by as_reply (Err f) = Err f
