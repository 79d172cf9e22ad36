-- No public clause cites this module.
-- The parts of a core.
use Rattle.std.specs.Prelude.{ℕ, List, Option}
use Rattle.sf_book.specs.Books.{BookView}
use Rattle.sf_call.specs.declared.call.Call.{Call}
use Rattle.sf_inode.specs.Stores.{StoreState}
use Rattle.sf_core.specs.Cores.{CoreView}

-- the store; the book of records; the sessions and the calls; and the numbers of calls and sessions
-- so far
pub record PartsView : Type 0 where
  pub store : StoreState
  pub book : BookView
  pub sessions : List (ℕ × Option ℕ)
  pub calls : List (ℕ × Call)
  pub drawn : ℕ
  pub joins : ℕ

abbrev pub core_of : PartsView → CoreView
core_of p = record {
  records = p.book.records;
  keep = p.book.keep;
  folded = p.book.folded;
  drawn = p.drawn;
  joins = p.joins;
  sessions = p.sessions;
  calls = p.calls;
  look_ups = p.store.look_ups;
  store = p.store;
}
