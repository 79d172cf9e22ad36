-- No public clause cites this module.
-- A call is helped from the root; the remaining blocks of a WRITE are copied first.
use Rattle.std.specs.Prelude.{◌≡◌, ◌⊎◌, ℕ, true, List, Some, None}
use Rattle.sf_call.specs.declared.call.Call.{Call}
use Rattle.sf_call.specs.declared.call.Stage.TheVariants as stage
use Rattle.sf_call.specs.Unanswered.{staged}
use Rattle.sf_inode.specs.Nodes.{with_holder}
use Rattle.sf_inode.specs.Stores.{StoreState, blocks_left_at, edited, left_set}
use Rattle.sf_walk.specs.declared.files.Writer.{Writer}
use Rattle.sf_walk.specs.declared.finding.Located.TheVariants as found
use Rattle.sf_walk.specs.declared.finding.Ways.{Ways}
use Rattle.sf_walk.specs.Ways.{request_names, IsLocated}
use Rattle.sf_walk.specs.Files.{HasNoWriter, IsWriter, cuts_file, file_handle}
use Rattle.sf_walk.specs.Steps.{is_one_of}
use Rattle.sf_walk.specs.Served.{LookedUp}
use Rattle.sf_core.specs.Cores.{call_at}
use Rattle.sf_core.specs.Parts.{PartsView}
use Rattle.sf_core.specs.Sound.{writer_of_file}

-- the remaining blocks were copied, the file is released, and the call's reply is still pending
abbrev pub write_finished : PartsView → ℕ → ℕ → PartsView
write_finished p number node = record p {
  store = edited (with_holder None) (left_set p.store node 0) node;
  calls = staged p.calls number stage.Fresh;
}

-- a file that no call holds has no blocks left to copy
abbrev pub IsSettledWhereFree : StoreState → Type 0
IsSettledWhereFree s = (id : ℕ) → writer_of_file s.nodes id ≡ None → blocks_left_at s.nodes id ≡ 0

-- each call's request is unchanged
abbrev pub KeepsRequests : PartsView → PartsView → Type 0
KeepsRequests p q = (n : ℕ) (d : Call) → call_at q.calls n ≡ Some d → (c : Call)
    × (call_at p.calls n ≡ Some c) × (d.request ≡ c.request)

-- the calls with these numbers have no handle of a file
abbrev pub AreOnPaths : PartsView → List ℕ → Type 0
AreOnPaths p numbers = (n : ℕ) (c : Call) → is_one_of n numbers ≡ true
    → call_at p.calls n ≡ Some c → file_handle c.request ≡ None

-- Before a call is helped its paths are resolved from the root. If it sets the length of a file
-- that another call holds, the remaining blocks of that WRITE are copied first.
pub record FinishesWriter (p q : PartsView) (c : Call) : Type 0 where
  pub ways : Ways
  pub looked : StoreState
  pub located : IsLocated p.store c.request ways
  pub looks : LookedUp p.store looked (request_names c.request)
  pub finished : (HasNoWriter looked c.request ways.path × (q ≡ record p { store = looked }))
      ⊎ ((w : Writer) × IsWriter looked c.request ways.path w
      × (q ≡ write_finished (record p { store = looked }) w.number w.node))

-- the paths were resolved before the remaining blocks were copied; now a file has no blocks left if
-- the call sets its length
pub record IsReadyToHelp (p q : PartsView) (c : Call) (ways : Ways) : Type 0 where
  pub finishes : FinishesWriter p q c
  pub same : finishes.ways ≡ ways
  pub located : IsLocated q.store c.request ways
  pub cut : (parent node : ℕ) → cuts_file c.request ≡ true → ways.path ≡ found.At parent node
      → blocks_left_at q.store.nodes node ≡ 0
  pub settled : IsSettledWhereFree q.store
