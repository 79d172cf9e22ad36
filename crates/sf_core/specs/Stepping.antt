-- No public clause cites this module.
-- What each event does to the parts of a core.
use Rattle.std.specs.Prelude.{◌≡◌, ◌⊎◌, ◌<◌, ◌≤◌, ◌+◌, ◌^◌, ℕ, zero, suc, Bool, true, false, List, [], ◌∷◌, length, Option, Some, None, IsSome}
use Rattle.std.specs.Ordering.{nat_cmp}
use Rattle.std.specs.Map.{set_value, remove_entry}
use Rattle.std.specs.BTreeMap.{is_at, insert_entry}
use Rattle.sf_reply.specs.declared.reply.Reply.{Reply}
use Rattle.sf_call.specs.declared.request.Request.{Request}
use Rattle.sf_call.specs.declared.record.Record.TheVariants.{Left}
use Rattle.sf_call.specs.declared.call.Call.{Call}
use Rattle.sf_call.specs.declared.call.Stage.{Stage}
use Rattle.sf_call.specs.declared.call.Stage.TheVariants as stage
use Rattle.sf_call.specs.Tree.{Tree}
use Rattle.sf_call.specs.Calls.{answer_to}
use Rattle.sf_call.specs.Changes.{moved_by}
use Rattle.sf_call.specs.Unanswered.{at_stage, staged, answered}
use Rattle.sf_call.specs.Values.{IsCall}
use Rattle.sf_book.specs.Books.{put}
use Rattle.sf_inode.specs.Stores.{StoreState, IsFirst, closed_all}
use Rattle.sf_keeps.specs.Keeps.{Keeps}
use Rattle.sf_walk.specs.declared.walking.Walk.{Walk}
use Rattle.sf_walk.specs.declared.walking.Walk.TheVariants as walk
use Rattle.sf_walk.specs.Files.{IsFileFree, WaitsForFile}
use Rattle.sf_walk.specs.Served.{IsCarriedOut, IsRefused, IsUnused, NodesStay, may_want_memory}
use Rattle.sf_call.specs.Routes.{route_of}
use Rattle.sf_walk.specs.Routes.{nodes_of}
use Rattle.sf_walk.specs.Steps.{Advances, walker, let_go}
use Rattle.sf_core.specs.declared.parts.WalkOutcome.{WalkOutcome}
use Rattle.sf_core.specs.declared.parts.WalkOutcome.TheVariants as outcome
use Rattle.sf_core.specs.Cores.{call_at, session_at}
use Rattle.sf_core.specs.Progress.{did, is_write, new_call, overtaken, IsCopying}
use Rattle.sf_core.specs.Parts.{PartsView}
use Rattle.sf_core.specs.Sound.{IsCore}
use Rattle.sf_core.specs.Finishing.{FinishesWriter}

-- sets or clears the call of a session, if it is joined
abbrev pub session_set_by : List (ℕ × Option ℕ) → ℕ → Option ℕ → Option (Option ℕ)
    → List (ℕ × Option ℕ)
session_set_by sessions session number None = sessions
session_set_by sessions session number (Some before) =
    set_value (is_at (nat_cmp session)) sessions number

abbrev pub session_set : List (ℕ × Option ℕ) → ℕ → Option ℕ → List (ℕ × Option ℕ)
session_set sessions session number =
    session_set_by sessions session number (session_at sessions session)

-- a new store, and nothing else
pub record IsNewParts (p : PartsView) : Type 0 where
  pub store : IsFirst p.store
  pub look_ups : p.store.look_ups ≡ 0
  pub records : p.book.records ≡ []
  pub folded : p.book.folded ≡ 0
  pub sessions : p.sessions ≡ []
  pub calls : p.calls ≡ []
  pub drawn : p.drawn ≡ 0
  pub joins : p.joins ≡ 0

-- all but the book's room is unchanged, and the room is no smaller
pub record SameButRoom (p q : PartsView) : Type 0 where
  pub store : q.store ≡ p.store
  pub book : q.book ≡ record p.book { room = q.book.room }
  pub more : p.book.room ≤ q.book.room
  pub sessions : q.sessions ≡ p.sessions
  pub calls : q.calls ≡ p.calls
  pub drawn : q.drawn ≡ p.drawn
  pub joins : q.joins ≡ p.joins

-- a session joined
pub record JoinState (p q : PartsView) : Type 0 where
  pub store : q.store ≡ p.store
  pub book : q.book ≡ record p.book { room = q.book.room }
  pub room : length p.calls + length p.sessions + 1 ≤ q.book.room
  pub sessions : q.sessions ≡ insert_entry nat_cmp p.sessions (p.joins + 1) None
  pub calls : q.calls ≡ p.calls
  pub drawn : q.drawn ≡ p.drawn
  pub joins : q.joins ≡ p.joins + 1

-- a call began
pub record BeginState (p q : PartsView) (session : ℕ) (request : Request)
    (moment : ℕ) : Type 0 where
  pub store : q.store ≡ p.store
  pub book : q.book ≡ record p.book { room = q.book.room }
  pub room : length p.calls + length p.sessions + 1 ≤ q.book.room
  pub sessions : q.sessions ≡ session_set p.sessions session (Some (p.drawn + 1))
  pub calls : q.calls ≡ insert_entry nat_cmp p.calls (p.drawn + 1)
      (new_call (p.drawn + 1) session moment request)
  pub drawn : q.drawn ≡ p.drawn + 1
  pub joins : q.joins ≡ p.joins
  pub is_call : IsCall (p.drawn + 1) session moment request

abbrev pub walked_calls : List (ℕ × Call) → ℕ → Walk → List (ℕ × Call)
walked_calls calls number (walk.Moved after) = staged calls number after
walked_calls calls number (walk.Blocked holder) = calls
walked_calls calls number (walk.Ready found) = calls

-- a call took a step, or reached the point at which it decides
pub record Walked (p q : PartsView) (c : Call) (number : ℕ) (step : Walk) : Type 0 where
  pub advances : Advances p.store q.store (walker c.number (route_of c.request) c.stage) step
  pub book : q.book ≡ p.book
  pub sessions : q.sessions ≡ p.sessions
  pub calls : q.calls ≡ walked_calls p.calls number step
  pub drawn : q.drawn ≡ p.drawn
  pub joins : q.joins ≡ p.joins

-- The outcome of a session's call that is to proceed. It isn't the session's; its reply is pending,
-- with or without blocks to copy; another call holds its file; it is a WRITE that is to start; or
-- it took a step.
abbrev pub WalkComesTo : PartsView → PartsView → ℕ → ℕ → WalkOutcome → Type 0
WalkComesTo p q session number outcome.Foreign =
    (q ≡ p) × ((c : Call) → call_at p.calls number ≡ Some c → c.session ≡ session → ⊥)
WalkComesTo p q session number outcome.Waits = (q ≡ p) × (c : Call)
    × (call_at p.calls number ≡ Some c) × (c.session ≡ session) × IsSome c.reply
    × (c.stage ≡ stage.Fresh)
WalkComesTo p q session number outcome.Copies = (q ≡ p) × (c : Call)
    × (call_at p.calls number ≡ Some c) × (c.session ≡ session) × IsCopying c.stage
WalkComesTo p q session number (outcome.FileHeld holder) = (q ≡ p) × (c : Call)
    × (call_at p.calls number ≡ Some c) × (c.session ≡ session) × (c.reply ≡ None)
    × WaitsForFile p.store c holder
WalkComesTo p q session number outcome.Writes = (q ≡ p) × (c : Call)
    × (call_at p.calls number ≡ Some c) × (c.session ≡ session) × (c.reply ≡ None)
    × IsFileFree p.store c × (is_write c.request ≡ true)
WalkComesTo p q session number (outcome.Walked step) = (c : Call)
    × (call_at p.calls number ≡ Some c) × (c.session ≡ session) × (c.reply ≡ None)
    × IsFileFree p.store c × Walked p q c number step

-- the stage after a step
abbrev pub stage_after : Walk → Stage → Stage
stage_after (walk.Moved after) at = after
stage_after (walk.Blocked holder) at = at
stage_after (walk.Ready found) at = at

-- a sound core with this store; its call of this number is undecided and at this stage
pub record HasComeTo (p : PartsView) (number : ℕ) (s : StoreState) (c : Call)
    (at : Stage) : Type 0 where
  pub core : IsCore p
  pub store : p.store ≡ s
  pub call : call_at p.calls number ≡ Some (at_stage at c)
  pub undecided : c.reply ≡ None
  pub free : IsFileFree s c

-- the parts with the call of this number at this stage, and with this store
abbrev pub come_to : PartsView → ℕ → StoreState → Stage → PartsView
come_to p number s at = record p { store = s; calls = staged p.calls number at }

-- the call took a step, or reached the point at which it decides
abbrev pub IsWalked : WalkOutcome → Type 0
IsWalked (outcome.Walked walk) = Unit {0}
IsWalked _ = ⊥

-- whether a step moved the call
abbrev pub is_move : WalkOutcome → Bool
is_move (outcome.Walked (walk.Moved after)) = true
is_move _ = false

-- a step of a session's call
pub record CallStep (p : PartsView) (session number : ℕ) (result : WalkOutcome)
    (q : PartsView) : Type 0 where
  pub core : IsCore p
  pub fits : p.store.look_ups < 2 ^ 64
  pub comes : WalkComesTo p q session number result

-- n steps in sequence, all of which moved
unfoldable pub Moved : ℕ → PartsView → ℕ → ℕ → PartsView → Type 0
Moved zero p session number q = q ≡ p
Moved (suc n) p session number q = (mid : PartsView) × Moved n p session number mid
    × ((after : Stage) × CallStep mid session number (outcome.Walked (walk.Moved after)) q)

-- the outcome of the last of several steps, and the core's parts after it
pub record Ending : Type 0 where
  pub outcome : WalkOutcome
  pub parts : PartsView

abbrev pub ending : WalkOutcome → PartsView → Ending
ending result q = record { outcome = result; parts = q }

-- At most `most` steps: all but the last one moved, and the last one moved only if it is number
-- `most`.
pub record WalkState (p : PartsView) (session number most : ℕ) (e : Ending) : Type 0 where
  pub moves : ℕ
  pub mid : PartsView
  pub few : moves < most
  pub moved : Moved moves p session number mid
  pub last : CallStep mid session number e.outcome e.parts
  pub full : (after : Stage) → e.outcome ≡ outcome.Walked (walk.Moved after) → moves + 1 ≡ most

-- the store after a call releases all that it holds
abbrev pub freed : Stage → StoreState → StoreState
freed at s = let_go [] (nodes_of at) s

-- a call was answered on the store
pub record ServesCall (old new : StoreState) (c : Call) (given : Reply) : Type 0 where
  pub served : (t : Tree) → Keeps old t → IsUnused t c.number → IsRefused old new t given
      ⊎ IsCarriedOut new t (answer_to t c.session c.number c.moment c.request) given
  pub sure : (t : Tree) → Keeps old t → IsUnused t c.number
      → may_want_memory c.request (answer_to t c.session c.number c.moment c.request).reply ≡ false
      → IsCarriedOut new t (answer_to t c.session c.number c.moment c.request) given
  pub nodes : NodesStay c.number old new

-- A call was answered on the store: its record is the next one, and it releases all that it holds.
pub record Records (p q : PartsView) (c : Call) (given : Reply) : Type 0 where
  pub mid : StoreState
  pub serves : ServesCall p.store mid c given
  pub store : q.store ≡ freed c.stage mid
  pub book : q.book ≡ put p.book (did c given)
  pub drawn : q.drawn ≡ p.drawn
  pub joins : q.joins ≡ p.joins

-- a call is removed, and its record is the next one
abbrev pub gone : PartsView → Call → ℕ → Reply → PartsView
gone p c number given = record p {
  book = put p.book (did c given);
  sessions = session_set p.sessions c.session None;
  calls = remove_entry (is_at (nat_cmp number)) p.calls;
}

-- A call was decided, and is removed.
pub record FinishState (p q : PartsView) (c : Call) (number : ℕ) (given : Reply) : Type 0 where
  pub records : Records p q c given
  pub look_ups : q.store.look_ups ≡ p.store.look_ups
  pub sessions : q.sessions ≡ session_set p.sessions c.session None
  pub calls : q.calls ≡ remove_entry (is_at (nat_cmp number)) p.calls

-- a call began and its first step decided it: it was never among the unanswered calls
pub record AtOnceState (p q : PartsView) (session : ℕ) (request : Request) (moment : ℕ)
    (given : Reply) : Type 0 where
  pub mid : PartsView
  pub begun : BeginState p mid session request moment
  pub finished : FinishState mid q (new_call (p.drawn + 1) session moment request) (p.drawn + 1)
      given
  pub calls : q.calls ≡ p.calls

-- a call released all that it holds, and starts again at the root
abbrev pub set_back_by : PartsView → ℕ → Option Call → PartsView
set_back_by p number None = p
set_back_by p number (Some c) =
    record p { store = freed c.stage p.store; calls = staged p.calls number stage.Fresh }

abbrev pub set_back : PartsView → ℕ → PartsView
set_back p number = set_back_by p number (call_at p.calls number)

abbrev pub all_set_back : PartsView → List ℕ → PartsView
all_set_back p [] = p
all_set_back p (number ∷ numbers) = all_set_back (set_back p number) numbers

-- A call that held nothing was helped: it is decided, and its reply is pending until its session
-- fetches it.
pub record HelpState (p q : PartsView) (c : Call) (number : ℕ) (given : Reply) : Type 0 where
  pub records : Records p q c given
  pub look_ups : q.store.look_ups ≡ p.store.look_ups
  pub sessions : q.sessions ≡ p.sessions
  pub calls : q.calls ≡ answered p.calls number given

-- the call of this number was helped, if it has the second copy of its request
abbrev pub Helps : PartsView → PartsView → ℕ → Type 0
Helps p q number = (c : Call) → call_at p.calls number ≡ Some c → c.stage ≡ stage.Fresh
    → c.copy ≡ Some c.request
    → (mid : PartsView) × FinishesWriter p mid c
    × ((given : Reply) × HelpState mid q c number given)

-- the calls of all these numbers were helped, one after the other
abbrev pub HelpsAll : PartsView → List ℕ → PartsView → Type 0
HelpsAll p [] q = q ≡ p
HelpsAll p (number ∷ numbers) q = (mid : PartsView) × Helps p mid number × HelpsAll mid numbers q

-- Before a call is decided that moves an entry, the calls that it helps release all that they hold,
-- and are then helped.
abbrev pub Overtakes : PartsView → PartsView → Call → Type 0
Overtakes p q c = (t : Tree) → Keeps p.store t → (numbers : List ℕ)
    × (numbers ≡ overtaken p.calls c.number
    (moved_by (answer_to t c.session c.number c.moment c.request).changes))
    × HelpsAll (all_set_back p numbers) numbers q

-- a pending reply was fetched
pub record FetchState (p q : PartsView) (session number : ℕ) : Type 0 where
  pub store : q.store ≡ p.store
  pub book : q.book ≡ p.book
  pub sessions : q.sessions ≡ session_set p.sessions session None
  pub calls : q.calls ≡ remove_entry (is_at (nat_cmp number)) p.calls
  pub drawn : q.drawn ≡ p.drawn
  pub joins : q.joins ≡ p.joins

-- a session left
pub record LeaveState (p q : PartsView) (session : ℕ) : Type 0 where
  pub store : q.store ≡ closed_all p.store session
  pub book : q.book ≡ put p.book (Left session)
  pub sessions : q.sessions ≡ remove_entry (is_at (nat_cmp session)) p.sessions
  pub calls : q.calls ≡ p.calls
  pub drawn : q.drawn ≡ p.drawn
  pub joins : q.joins ≡ p.joins
