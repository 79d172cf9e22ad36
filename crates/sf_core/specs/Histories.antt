-- The history of a core: all records ever added, in order. It is ghost state, and the core retains
-- only its last records.
use Rattle.std.specs.Prelude.{◌≡◌, ◌<◌, ◌≤◌, ◌+◌, ℕ, List, Option, Some, None}
use Rattle.std.specs.List.{count_by}
use Rattle.sf_reply.specs.declared.reply.Reply.{Reply}
use Rattle.sf_call.specs.declared.call.Call.{Call}
use Rattle.sf_call.specs.declared.record.Record.{Record}
use Rattle.sf_call.specs.Histories.{replay, IsLegal, IsNewNumber, IsPresent, IsAmong}
use Rattle.sf_book.specs.Books.{is_call, kept_of, gone_of}
use Rattle.sf_keeps.specs.Keeps.{Keeps}
use Rattle.sf_core.specs.Cores.{CoreView, call_at, session_at, joined, most_sessions}
use Rattle.sf_core.specs.Progress.{waiting_reply, did, undecided_in}

-- The core retains the last records of the history, and counts the calls of the earlier ones. The
-- store represents the tree at the history's end. The calls so far are those with a record and the
-- undecided ones. Undecided and future calls have no record; a call with a pending reply has one. A
-- session that is joined or will join hasn't left. At most `most_sessions` are joined.
pub record IsHistory (v : CoreView) (h : List Record) : Type 0 where
  pub legal : IsLegal h
  pub records : v.records ≡ kept_of v.keep h
  pub folded : v.folded ≡ count_by is_call (gone_of v.keep h)
  pub tree : Keeps v.store (replay h)
  pub counted : v.drawn ≡ count_by is_call h + undecided_in v.calls
  pub undecided : (number : ℕ) (c : Call) → call_at v.calls number ≡ Some c → waiting_reply c ≡ None
      → IsNewNumber number h
  pub decided : (number : ℕ) (c : Call) (given : Reply) → call_at v.calls number ≡ Some c
      → waiting_reply c ≡ Some given → IsAmong (did c given) h
  pub later : (number : ℕ) → v.drawn < number → IsNewNumber number h
  pub sessions : (session : ℕ) (number : Option ℕ) → session_at v.sessions session ≡ Some number
      → IsPresent session h
  pub newcomers : (session : ℕ) → v.joins < session → IsPresent session h
  pub few : joined v ≤ most_sessions
