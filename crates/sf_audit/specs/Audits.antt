-- Agreement of the replies that sessions received with the records of a history.
use Rattle.std.specs.Prelude.{◌≡◌, ◌≢◌, ◌<◌, ◌≤◌, ◌⊎◌, ℕ, Bool, not, nat_eq, List, [], ◌∷◌, ◌++◌, map, drop, Option, Some, None, if◌then◌else◌}
use Rattle.std.specs.List.{filter_map, list_any, prefix_len, sum_by, AllByRecursion}
use Rattle.sf_reply.specs.declared.reply.Reply.{Reply}
use Rattle.sf_call.specs.declared.request.Request.{Request}
use Rattle.sf_call.specs.declared.record.Record.{Record}
use Rattle.sf_call.specs.declared.record.Record.TheVariants.{Did, Left}
use Rattle.sf_call.specs.Histories.{is_of}
use Rattle.sf_audit.specs.declared.transcript.AnsweredCall.{AnsweredCall}
use Rattle.sf_audit.specs.declared.transcript.Transcript.{Transcript}
use Rattle.sf_audit.specs.declared.audits.AuditFault.{AuditFault}
use Rattle.sf_audit.specs.declared.audits.AuditFault.TheVariants.{NotInHistory, OutOfOrder, Missing, FoldedCount}

-- a call's number, request and reply
pub record CallRecord : Type 0 where
  pub number : ℕ
  pub request : Request
  pub reply : Reply

-- an answered call as a record
abbrev pub call_record : AnsweredCall → CallRecord
call_record e = record { number = e.answer.number; request = e.request; reply = e.answer.reply }

-- the record's call, if it is the session's
abbrev pub call_record_of : ℕ → Record → Option CallRecord
call_record_of session (Did number s moment request given) =
    if nat_eq s session then Some (record { number = number; request = request; reply = given })
    else None
call_record_of session (Left s) = None

-- the session's calls among the records, in order
abbrev pub call_records : ℕ → List Record → List CallRecord
call_records session records = filter_map (call_record_of session) records

-- whether a record of the call is retained
abbrev pub is_kept : List Record → AnsweredCall → Bool
is_kept records e = list_any (is_of e.answer.number) records

-- the number of calls before the first with a retained record, and the calls from there on
abbrev pub front_len : List Record → Transcript → ℕ
front_len records t = prefix_len (λ e. not (is_kept records e)) t.calls.items

abbrev pub rest : List Record → Transcript → List CallRecord
rest records t = map call_record (drop (front_len records t) t.calls.items)

-- the calls from there on equal the session's records
abbrev pub Follows : List Record → Transcript → Type 0
Follows records t = rest records t ≡ call_records t.session records

-- the number of calls before the retained records, over all transcripts
abbrev pub fronts : List Record → List Transcript → ℕ
fronts records ts = sum_by (front_len records) ts

-- each transcript matches the records, and at most `folded` calls have no retained record
pub record AgreesWith (records : List Record) (folded : ℕ) (ts : List Transcript) : Type 0 where
  pub each : AllByRecursion (Follows records) ts
  pub few : fronts records ts ≤ folded

-- the call is an element of the list
abbrev pub IsIn : List CallRecord → CallRecord → Type 0
IsIn [] d = ⊥
IsIn (x ∷ xs) d = (x ≡ d) ⊎ IsIn xs d

-- the first list is a subsequence of the second
abbrev pub IsWithin : List CallRecord → List CallRecord → Type 0
IsWithin [] ys = Unit {0}
IsWithin (x ∷ xs) [] = ⊥
IsWithin (x ∷ xs) (y ∷ ys) = ((x ≡ y) × IsWithin xs ys) ⊎ IsWithin (x ∷ xs) ys

-- all calls from the first retained one on are in the records, with equal request and reply
abbrev pub AreInRecords : List Record → Transcript → Type 0
AreInRecords records t = AllByRecursion (IsIn (call_records t.session records)) (rest records t)

-- The fault of a transcript, from its first call with a retained record on:
-- - `NotInHistory`: a call is not in the records;
-- - `OutOfOrder`: all are, in another order;
-- - `Missing`: the records contain further calls of its session.
abbrev pub IsFaultOf : List Record → Transcript → AuditFault → Type 0
IsFaultOf records t NotInHistory = ¬ AreInRecords records t
IsFaultOf records t OutOfOrder =
    AreInRecords records t × ¬ IsWithin (rest records t) (call_records t.session records)
IsFaultOf records t Missing =
    IsWithin (rest records t) (call_records t.session records)
    × (rest records t ≢ call_records t.session records)
IsFaultOf records t FoldedCount = ⊥

-- the first transcript that disagrees with the records has this fault
pub record IsFirstFault (records : List Record) (ts : List Transcript)
    (fault : AuditFault) : Type 0 where
  pub before : List Transcript
  pub faulty : Transcript
  pub later : List Transcript
  pub whole : ts ≡ before ++ faulty ∷ later
  pub follow : AllByRecursion (Follows records) before
  pub wrong : IsFaultOf records faulty fault

-- all transcripts match the records, but too many calls have no retained record
pub record AreTooMany (records : List Record) (folded : ℕ) (ts : List Transcript) : Type 0 where
  pub follow : AllByRecursion (Follows records) ts
  pub many : folded < fronts records ts

abbrev pub IsAuditFault : List Record → ℕ → List Transcript → AuditFault → Type 0
IsAuditFault records folded ts FoldedCount = AreTooMany records folded ts
IsAuditFault records folded ts fault = IsFirstFault records ts fault
