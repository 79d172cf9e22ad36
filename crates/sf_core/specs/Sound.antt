-- No public clause cites this module.
-- The invariant of a core: its history, its lock coupling, its files that are being written, and
-- its numbers.
use Rattle.std.specs.Prelude.{◌≡◌, ◌⊎◌, ◌<◌, ◌≤◌, ◌+◌, ℕ, T, if◌then◌else◌, List, [], length, Option, Some, None, option_and_then}
use Rattle.std.specs.Option.{option_map_or}
use Rattle.std.specs.Ordering.{nat_cmp}
use Rattle.std.specs.FinMap.{is_sorted}
use Rattle.sf_reply.specs.declared.reply.Reply.{Reply}
use Rattle.sf_call.specs.declared.call.Call.{Call}
use Rattle.sf_call.specs.declared.call.Stage.{Stage}
use Rattle.sf_call.specs.declared.call.Stage.TheVariants as stage
use Rattle.sf_call.specs.declared.record.Record.{Record}
use Rattle.sf_call.specs.declared.request.Request.TheVariants as request
use Rattle.sf_call.specs.Values.{IsCall}
use Rattle.sf_inode.specs.declared.node.Node.{Node}
use Rattle.sf_inode.specs.declared.handle.OpenHandle.{OpenHandle}
use Rattle.sf_inode.specs.Stores.{StoreState, holder_of, open_handle_at, blocks_left_at, is_directory_at, is_file_at}
use Rattle.sf_copying.specs.Copies.{Copying, copying, AreCopies, Copiers}
use Rattle.sf_coupling.specs.Walks.{HeldPath, walkers_at, AreWalks}
use Rattle.sf_call.specs.Routes.{route_of}
use Rattle.sf_walk.specs.Routes.{IsPosition, held_paths_of, namespace}
use Rattle.sf_core.specs.Cores.{call_at, session_at, last_number}
use Rattle.sf_core.specs.Progress.{waiting_reply, undecided_in, copy_of, IsCopying}
use Rattle.sf_core.specs.Histories.{IsHistory}
use Rattle.sf_core.specs.Parts.{PartsView, core_of}

-- the directories that a call holds
abbrev pub held_paths_at : Call → List HeldPath
held_paths_at c = held_paths_of (route_of c.request) c.stage

abbrev pub held_paths_in : List (ℕ × Call) → ℕ → List HeldPath
held_paths_in calls number = option_map_or held_paths_at (call_at calls number) []

-- the call that holds a directory, and the call that holds a file
abbrev pub walker_of : List (Option Node) → ℕ → Option ℕ
walker_of nodes id = if is_directory_at nodes id then holder_of nodes id else None

abbrev pub writer_of_file : List (Option Node) → ℕ → Option ℕ
writer_of_file nodes id = if is_file_at nodes id then holder_of nodes id else None

-- a call with a pending reply holds nothing, or is copying
abbrev pub IsAtRest : Stage → Type 0
IsAtRest at = (at ≡ stage.Fresh) ⊎ IsCopying at

-- Lock coupling: what the calls hold is as `AreWalks` says, and each undecided call is on its
-- route. A call with a pending reply holds no directory.
pub record Coupled (p : PartsView) : Type 0 where
  pub walks : AreWalks
      (walkers_at (namespace p.store) (held_paths_in p.calls) (walker_of p.store.nodes))
  pub positions : (number : ℕ) (c : Call) → call_at p.calls number ≡ Some c → waiting_reply c ≡ None
      → IsPosition (route_of c.request) c.stage
  pub waiting : (number : ℕ) (c : Call) (given : Reply) → call_at p.calls number ≡ Some c
      → waiting_reply c ≡ Some given → IsAtRest c.stage

-- the file that a call copies into
abbrev pub copying_at : Stage → Option Copying
copying_at (stage.Copies node left) = Some (copying node left)
copying_at at = None

abbrev pub copying_in : List (ℕ × Call) → ℕ → Option Copying
copying_in calls number = option_and_then (λ (c : Call). copying_at c.stage) (call_at calls number)

abbrev pub copying_scene : StoreState → List (ℕ × Call) → Copiers
copying_scene s calls = record {
  copying_of = copying_in calls;
  writer = writer_of_file s.nodes;
  left = blocks_left_at s.nodes;
}

-- a WRITE that is copying: its session's handle opens the file, and its reply is pending
pub record IsWriting (s : StoreState) (c : Call) (file : ℕ) : Type 0 where
  pub handle : ℕ
  pub offset : ℕ
  pub bytes : List ℕ
  pub write : c.request ≡ request.Write handle offset bytes
  pub opened : OpenHandle
  pub opens : open_handle_at s c.session handle ≡ Some opened
  pub leads : opened.node ≡ file
  pub given : Reply
  pub decided : waiting_reply c ≡ Some given

-- Each call that is copying is a WRITE and holds its file. No other file is held, and a file that
-- is not held has no blocks left to copy.
pub record Copied (p : PartsView) : Type 0 where
  pub copies : AreCopies (copying_scene p.store p.calls)
  pub writing : (number : ℕ) (c : Call) (node left : ℕ) → call_at p.calls number ≡ Some c
      → c.stage ≡ stage.Copies node left → IsWriting p.store c node

-- an unanswered call, which its session has
pub record IsCallOf (sessions : List (ℕ × Option ℕ)) (drawn number : ℕ) (c : Call) : Type 0 where
  pub is_number : c.number ≡ number
  pub above : 0 < number
  pub most : number ≤ drawn
  pub copied : waiting_reply c ≡ None → c.copy ≡ copy_of (route_of c.request) c.request
  pub is_call : IsCall number c.session c.moment c.request
  pub session : session_at sessions c.session ≡ Some (Some number)

pub record IsSessionOf (calls : List (ℕ × Call)) (joins session : ℕ)
    (number : Option ℕ) : Type 0 where
  pub above : 0 < session
  pub most : session ≤ joins
  pub busy : (n : ℕ) → number ≡ Some n → (c : Call) × (call_at calls n ≡ Some c)
      × (c.session ≡ session)

-- Each call belongs to a session, and each session's call exists. Numbers are in bounds. There is
-- room for the record of each undecided call and of each leaving.
pub record Ledger (p : PartsView) : Type 0 where
  pub calls : (number : ℕ) (c : Call) → call_at p.calls number ≡ Some c
      → IsCallOf p.sessions p.drawn number c
  pub sessions : (session : ℕ) (number : Option ℕ) → session_at p.sessions session ≡ Some number
      → IsSessionOf p.calls p.joins session number
  pub room : undecided_in p.calls + length p.sessions ≤ p.book.room
  pub drawn_fits : p.drawn ≤ last_number
  pub joins_fit : p.joins ≤ last_number
  pub calls_rise : T (is_sorted nat_cmp p.calls)
  pub sessions_rise : T (is_sorted nat_cmp p.sessions)

pub record Sound (p : PartsView) (h : List Record) : Type 0 where
  pub history : IsHistory (core_of p) h
  pub coupled : Coupled p
  pub copied : Copied p
  pub ledger : Ledger p

-- the invariant holds for some history
pub record IsCore (p : PartsView) : Type 0 where
  pub history : List Record
  pub sound : Sound p history
