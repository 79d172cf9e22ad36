-- The step relation: what each event does to a core.
use Rattle.std.specs.Prelude.{◌≡◌, ◌≢◌, ◌⊎◌, ◌<◌, ◌≤◌, ◌+◌, ◌-◌, ◌^◌, ℕ, zero, suc, min, true, false, List, [], ◌∷◌, ◌++◌, filter_map, Some, None}
use Rattle.std.specs.Ordering.{nat_cmp}
use Rattle.std.specs.List.{AllByRecursion}
use Rattle.std.specs.List.Sorted.{IsStrictlySortedBy}
use Rattle.sf_reply.specs.declared.reply.Reply.{Reply}
use Rattle.sf_reply.specs.declared.reply.Reply.TheVariants as reply
use Rattle.sf_reply.specs.declared.reply.StatusCode.TheVariants.{Success}
use Rattle.sf_block.specs.Contents.{blocks_of}
use Rattle.sf_call.specs.declared.metadata.Metadata.{Metadata}
use Rattle.sf_call.specs.declared.handle.Handle.{Handle}
use Rattle.sf_call.specs.Tree.{Tree}
use Rattle.sf_call.specs.declared.request.Request.{Request}
use Rattle.sf_call.specs.declared.request.Request.TheVariants as request
use Rattle.sf_call.specs.declared.record.Record.{Record}
use Rattle.sf_call.specs.declared.record.Record.TheVariants.{Did, Left}
use Rattle.sf_call.specs.declared.call.Call.{Call}
use Rattle.sf_call.specs.declared.call.Stage.TheVariants as stage
use Rattle.sf_call.specs.Answers.{AnswerView}
use Rattle.sf_call.specs.declared.fault.JoinFault.{JoinFault}
use Rattle.sf_call.specs.declared.fault.JoinFault.TheVariants as join
use Rattle.sf_call.specs.declared.fault.BeginFault.{BeginFault}
use Rattle.sf_call.specs.declared.fault.BeginFault.TheVariants as begin
use Rattle.sf_call.specs.Changes.{moved_by}
use Rattle.sf_call.specs.Calls.{answer_to, start_of}
use Rattle.sf_call.specs.Handles.{opened}
use Rattle.sf_call.specs.Histories.{replay, IsNewNumber, IsAmong}
use Rattle.sf_inode.specs.Stores.{StoreState, child_of, holder_of}
use Rattle.sf_keeps.specs.Steps.{walk}
use Rattle.sf_coupling.specs.Walks.{HeldPath, Holds}
use Rattle.sf_call.specs.Routes.{route_of}
use Rattle.sf_walk.specs.Routes.{IsPosition, held_paths_of}
use Rattle.sf_walk.specs.Steps.{LooksUp, AdvancesOne}
use Rattle.sf_walk.specs.Files.{WaitsForFile, cuts_file}
use Rattle.sf_core.specs.Sure.{AreSure}
use Rattle.sf_core.specs.declared.fault.CoreFault.{CoreFault}
use Rattle.sf_core.specs.declared.fault.CoreFault.TheVariants as fault
use Rattle.sf_core.specs.declared.step.Step.{Step}
use Rattle.sf_core.specs.declared.step.Step.TheVariants.{Moved, Blocked, Answered, Stranger}
use Rattle.sf_core.specs.Lanes.{LaneView, at_rest}
use Rattle.sf_core.specs.Cores.{CoreView, LaneState, call_at, lane_state, joined, last_number, most_sessions}
use Rattle.sf_core.specs.Cores.LaneState.{NoLane, Idle, Busy}
use Rattle.sf_core.specs.Histories.{IsHistory}
use Rattle.sf_core.specs.Progress.{waiting_reply, left_of, bound_of, is_write, IsBehind, CopiesInto, IsCopying, MayDecide, did, new_call, SameCall, overtaken, names_in_records, record_number}
use Rattle.sf_call.specs.Attributes.Object.{File}

-- the lane's call, if the lane is this core's
pub record OwnCall (v : CoreView) (lane : LaneView) (c : Call) : Type 0 where
  pub slot : lane_state v lane.session ≡ Busy c
  pub session : c.session ≡ lane.session
  pub number : lane.call ≡ Some c.number

-- the same records are retained
pub record KeepsRecords (v w : CoreView) : Type 0 where
  pub records : w.records ≡ v.records
  pub keep : w.keep ≡ v.keep
  pub folded : w.folded ≡ v.folded

-- only the count of lookups differs, by `most` at most; every session's state is as before
pub record LooksOnly (v w : CoreView) (most : ℕ) : Type 0 where
  pub records : KeepsRecords v w
  pub drawn : w.drawn ≡ v.drawn
  pub joins : w.joins ≡ v.joins
  pub sessions : w.sessions ≡ v.sessions
  pub calls : w.calls ≡ v.calls
  pub slots : (s : ℕ) → lane_state w s ≡ lane_state v s
  pub joined : joined w ≡ joined v
  pub more : v.look_ups ≤ w.look_ups
  pub few : w.look_ups ≤ v.look_ups + most

-- One session's state is set. All other sessions, and the counts of sessions and calls, are
-- unchanged.
pub record SetsSlot (v w : CoreView) (session : ℕ) (slot : LaneState Call) : Type 0 where
  pub own : lane_state w session ≡ slot
  pub others : (s : ℕ) → s ≢ session → lane_state w s ≡ lane_state v s
  pub joined : joined w ≡ joined v
  pub drawn : w.drawn ≡ v.drawn
  pub joins : w.joins ≡ v.joins

-- the call advances: it acquired the root, or resolved one more component
pub record Goes (v w : CoreView) (lane : LaneView) (c d : Call) : Type 0 where
  pub own : OwnCall v lane c
  pub same : SameCall c d
  pub before : waiting_reply c ≡ None
  pub after : waiting_reply d ≡ None
  pub no_write : is_write c.request ≡ false
  pub walks : AdvancesOne c.stage d.stage
  pub less : left_of d < left_of c
  pub some : 0 < left_of d
  pub slot : SetsSlot v w lane.session (Busy d)
  pub records : KeepsRecords v w
  pub more : v.look_ups ≤ w.look_ups
  pub few : w.look_ups ≤ v.look_ups + 2

-- The components that the call c looks up next lead to an inode that the call d holds: d's number
-- is its holder. Either d resolved the same components, or it copies into that inode.
pub record HoldsWanted (s : StoreState) (c d : Call) : Type 0 where
  pub held_path : HeldPath
  pub looks : LooksUp (route_of c.request) c.stage held_path.path
  pub leads : walk (child_of s.nodes) s.root held_path.path ≡ Some held_path.node
  pub held : holder_of s.nodes held_path.node ≡ Some d.number
  pub stands : Holds (held_paths_of (route_of d.request) d.stage) held_path
      ⊎ CopiesInto d.stage held_path.node

-- the call d copies into the file that c's handle opens
pub record HoldsFile (s : StoreState) (c d : Call) : Type 0 where
  pub waits : WaitsForFile s c d.number
  pub copies : CopiesInto d.stage waits.handle.node

-- The call is blocked: another session's call holds what it needs. That call is undecided and looks
-- further down, or it is copying.
pub record IsBlocked (v w : CoreView) (lane : LaneView) (c : Call) (holder : ℕ) : Type 0 where
  pub own : OwnCall v lane c
  pub undecided : waiting_reply c ≡ None
  pub other : ℕ
  pub call : Call
  pub apart : other ≢ lane.session
  pub slot : lane_state v other ≡ Busy call
  pub holds : (waiting_reply call ≡ None) ⊎ IsCopying call.stage
  pub number : call.number ≡ holder
  pub wanted : HoldsWanted v.store c call ⊎ HoldsFile v.store c call
  pub deeper : IsBehind c call
  pub looks : LooksOnly v w 2

-- a core with its history, and a lane: before a step, and after it with the records that it added
pub record Before : Type 0 where
  pub core : CoreView
  pub history : List Record
  pub lane : LaneView

pub record After : Type 0 where
  pub core : CoreView
  pub added : List Record
  pub lane : LaneView

-- The call's record was already in the history, and its pending reply is fetched. A WRITE copies
-- its last block first.
pub record Fetches (b : Before) (a : After) (c : Call) (given : Reply) : Type 0 where
  pub own : OwnCall b.core b.lane c
  pub decided : waiting_reply c ≡ Some given
  pub one : left_of c ≡ 1
  pub recorded : IsAmong (did c given) b.history
  pub none : a.added ≡ []
  pub slot : SetsSlot b.core a.core b.lane.session Idle
  pub records : KeepsRecords b.core a.core
  pub look_ups : a.core.look_ups ≡ b.core.look_ups

-- the blocks that remain are all blocks that the call writes, except the first
abbrev pub LeavesBlocks : Tree → Call → ℕ → Type 0
LeavesBlocks t c left =
    (number offset : ℕ) (bytes : List ℕ) → c.request ≡ request.Write number offset bytes
    → (handle : Handle) (m : Metadata) (contents : List ℕ)
    → opened t c.session number ≡ Some (handle, File m contents)
    → left + 1 ≡ blocks_of (start_of handle contents offset) bytes

-- a WRITE that succeeds writes at most one block
abbrev pub IsOfOneBlock : Tree → Call → Reply → Type 0
IsOfOneBlock t c given =
    (number offset : ℕ) (bytes : List ℕ) → c.request ≡ request.Write number offset bytes
    → given ≡ reply.Status Success → (handle : Handle) (m : Metadata) (contents : List ℕ)
    → opened t c.session number ≡ Some (handle, File m contents)
    → blocks_of (start_of handle contents offset) bytes ≤ 1

-- The first step of a WRITE of more than one block. Its record is added, its reply is pending, and
-- its first block is copied. From now on it holds its file.
pub record StartsToWrite (b : Before) (a : After) (c d : Call) (given : Reply) : Type 0 where
  pub own : OwnCall b.core b.lane c
  pub same : SameCall c d
  pub undecided : waiting_reply c ≡ None
  pub decided : waiting_reply d ≡ Some given
  pub write : is_write c.request ≡ true
  pub position : IsPosition (route_of c.request) c.stage
  pub way : MayDecide (replay b.history) c.request c.stage
  pub copies : IsCopying d.stage
  pub new_number : IsNewNumber c.number b.history
  pub sure : AreSure b.history a.added
  pub records : a.added ≡ did c given ∷ []
  pub told : given ≡ (answer_to (replay b.history) c.session c.number c.moment c.request).reply
  pub blocks : LeavesBlocks (replay b.history) c (left_of d)
  pub some : 0 < left_of d
  pub less : left_of d < left_of c
  pub slot : SetsSlot b.core a.core b.lane.session (Busy d)
  pub keep : a.core.keep ≡ b.core.keep
  pub more : b.core.look_ups ≤ a.core.look_ups
  pub few : a.core.look_ups ≤ b.core.look_ups + 2
  pub lane : a.lane ≡ b.lane

-- a WRITE copies one more block, which isn't its last
pub record CopiesBlock (v w : CoreView) (lane : LaneView) (c d : Call) : Type 0 where
  pub own : OwnCall v lane c
  pub same : SameCall c d
  pub given : Reply
  pub had : waiting_reply c ≡ Some given
  pub has : waiting_reply d ≡ Some given
  pub before : IsCopying c.stage
  pub after : IsCopying d.stage
  pub one : left_of c ≡ left_of d + 1
  pub some : 0 < left_of d
  pub slot : SetsSlot v w lane.session (Busy d)
  pub records : KeepsRecords v w
  pub look_ups : w.look_ups ≡ v.look_ups

-- the record's call sets the length of a file: it truncates or extends it
abbrev pub CutsFile : Record → Type 0
CutsFile (Did number session moment request given) = cuts_file request ≡ true
CutsFile (Left session) = ⊥

abbrev pub HasCut : List Record → Type 0
HasCut records = (r : Record) × IsAmong r records × CutsFile r

-- The remaining blocks of another session's WRITE were copied, since a helped call sets the length
-- of its file. Its reply is still pending.
pub record IsFinished (v w : CoreView) (session : ℕ) (helped : List Record) : Type 0 where
  pub cut : HasCut helped
  pub before : Call
  pub after : Call
  pub given : Reply
  pub was : lane_state v session ≡ Busy before
  pub copying : IsCopying before.stage
  pub now : lane_state w session ≡ Busy after
  pub same : SameCall before after
  pub had : waiting_reply before ≡ Some given
  pub has : waiting_reply after ≡ Some given
  pub rests : after.stage ≡ stage.Fresh
  pub less : left_of after ≤ left_of before

-- another session's undecided call was helped: its record is among these, and its reply is pending
pub record IsHelped (v w : CoreView) (session : ℕ) (helped : List Record) : Type 0 where
  pub before : Call
  pub after : Call
  pub given : Reply
  pub was : lane_state v session ≡ Busy before
  pub undecided : waiting_reply before ≡ None
  pub now : lane_state w session ≡ Busy after
  pub same : SameCall before after
  pub decided : waiting_reply after ≡ Some given
  pub rests : after.stage ≡ stage.Fresh
  pub less : left_of after ≤ left_of before
  pub recorded : IsAmong (did before given) helped

-- the records of the undecided calls with these numbers, one for each, in this order
unfoldable pub AreRecordsOf : List (ℕ × Call) → List ℕ → List Record → Type 0
AreRecordsOf calls [] [] = Unit {0}
AreRecordsOf calls [] (r ∷ rs) = ⊥
AreRecordsOf calls (n ∷ ns) [] = ⊥
AreRecordsOf calls (n ∷ ns) (r ∷ rs) = ((c : Call) × (given : Reply) × (call_at calls n ≡ Some c)
    × (waiting_reply c ≡ None) × (r ≡ did c given)) × AreRecordsOf calls ns rs

-- The calls that a decision helps. If the call moves an entry, these are all other undecided calls
-- that have passed the old path, in ascending order of their numbers. Otherwise there are none.
pub record HelpsInOrder (v : CoreView) (h : List Record) (c : Call)
    (helped : List Record) : Type 0 where
  pub records : AreRecordsOf v.calls (overtaken v.calls c.number
      (moved_by (answer_to (replay h) c.session c.number c.moment c.request).changes)) helped
  pub rising : IsStrictlySortedBy nat_cmp (filter_map record_number helped)

-- the record is of another session's undecided call
abbrev pub IsOfOther : CoreView → ℕ → Record → Type 0
IsOfOther v session (Did number s moment request given) = (c : Call) × (s ≢ session)
    × (lane_state v s ≡ Busy c) × (waiting_reply c ≡ None)
    × (Did number s moment request given ≡ did c given)
IsOfOther v session (Left s) = ⊥

-- The linearization point: the call is decided. The records of the helped calls are added, then its
-- own. A WRITE decided by one step has at most one block. A call's reply is "Out of memory" in
-- place of the tree's reply only if the call allocates.
pub record Decides (b : Before) (a : After) (c : Call) (given : Reply) : Type 0 where
  pub own : OwnCall b.core b.lane c
  pub undecided : waiting_reply c ≡ None
  pub some : 0 < left_of c
  pub new_number : IsNewNumber c.number b.history
  pub position : IsPosition (route_of c.request) c.stage
  pub way : MayDecide (replay b.history) c.request c.stage
  pub one : IsOfOneBlock (replay b.history) c given
  pub helped : List Record
  pub order : HelpsInOrder b.core b.history c helped
  pub of_others : AllByRecursion (IsOfOther b.core b.lane.session) helped
  pub sure : AreSure b.history a.added
  pub records : a.added ≡ helped ++ did c given ∷ []
  pub keep : a.core.keep ≡ b.core.keep
  pub slot : lane_state a.core b.lane.session ≡ Idle
  pub others : (s : ℕ) → s ≢ b.lane.session → (lane_state a.core s ≡ lane_state b.core s)
      ⊎ IsHelped b.core a.core s helped ⊎ IsFinished b.core a.core s helped
  pub joined : joined a.core ≡ joined b.core
  pub drawn : a.core.drawn ≡ b.core.drawn
  pub joins : a.core.joins ≡ b.core.joins
  pub more : b.core.look_ups ≤ a.core.look_ups
  pub few : a.core.look_ups ≤ b.core.look_ups + (2 + names_in_records helped)

-- no record was added, and the lane is unchanged
pub record AddsNothing (b : Before) (a : After) : Type 0 where
  pub none : a.added ≡ []
  pub lane : a.lane ≡ b.lane

-- the answer is to the lane's call, and the lane is idle
pub record Answers (b : Before) (given : AnswerView) (a : After) : Type 0 where
  pub session : given.session ≡ b.lane.session
  pub number : b.lane.call ≡ Some given.number
  pub lane : a.lane ≡ at_rest b.lane

-- The call acquired the root or resolved one more component; or it is a WRITE that copied its first
-- block, or a further one that isn't its last.
abbrev pub MovesOn : Before → After → Type 0
MovesOn b a = (((c : Call) × (d : Call) × Goes b.core a.core b.lane c d) × AddsNothing b a)
    ⊎ ((c : Call) × (d : Call) × (given : Reply) × StartsToWrite b a c d given)
    ⊎ (((c : Call) × (d : Call) × CopiesBlock b.core a.core b.lane c d) × AddsNothing b a)

-- what a step does to a core and its lane, and the records that it adds
abbrev pub TakesStep : Before → Step → After → Type 0
TakesStep b Moved a = MovesOn b a
TakesStep b (Blocked holder) a =
    ((c : Call) × IsBlocked b.core a.core b.lane c holder) × AddsNothing b a
TakesStep b (Answered given) a =
    ((c : Call) × (Fetches b a c given.reply ⊎ Decides b a c given.reply)) × Answers b given a
TakesStep b Stranger a =
    ((c : Call) → OwnCall b.core b.lane c → ⊥) × (a.core ≡ b.core) × AddsNothing b a

-- a step from any history: it extends the history by the added records
abbrev pub StepsOn : CoreView → LaneView → Step → CoreView → LaneView → Type 0
StepsOn v lane s w lane' =
    (h : List Record) → IsHistory v h → (added : List Record) × IsHistory w (h ++ added)
    × TakesStep (record { core = v; history = h; lane = lane }) s (record {
      core = w;
      added = added;
      lane = lane';
    })

-- the outcome of the last of several steps, and the core and the lane after it
pub record WalkEnd : Type 0 where
  pub step : Step
  pub core : CoreView
  pub lane : LaneView

abbrev pub walk_end : Step → CoreView → LaneView → WalkEnd
walk_end s w lane = record { step = s; core = w; lane = lane }

-- n steps in sequence, all of which moved
unfoldable pub TakesMoves : ℕ → CoreView → LaneView → CoreView → Type 0
TakesMoves zero v lane w = w ≡ v
TakesMoves (suc n) v lane w =
    (mid : CoreView) × TakesMoves n v lane mid × StepsOn mid lane Moved w lane

-- At most `most` steps: all but the last one moved, and the last one moved only if it is number
-- `most`.
pub record Walks (v : CoreView) (lane : LaneView) (most : ℕ) (c : WalkEnd) : Type 0 where
  pub moves : ℕ
  pub mid : CoreView
  pub few : moves < most
  pub moved : TakesMoves moves v lane mid
  pub last : StepsOn mid lane c.step c.core c.lane
  pub full : c.step ≡ Moved → moves + 1 ≡ most

-- a session joins, under the next number
pub record Joins (v w : CoreView) : Type 0 where
  pub few : joined v < most_sessions
  pub unspent : v.joins < last_number
  pub was : lane_state v (v.joins + 1) ≡ NoLane
  pub own : lane_state w (v.joins + 1) ≡ Idle
  pub others : (s : ℕ) → s ≢ v.joins + 1 → lane_state w s ≡ lane_state v s
  pub joined : joined w ≡ joined v + 1
  pub joins : w.joins ≡ v.joins + 1
  pub records : KeepsRecords v w
  pub drawn : w.drawn ≡ v.drawn
  pub look_ups : w.look_ups ≡ v.look_ups

abbrev pub RefusesJoin : CoreView → JoinFault → Type 0
RefusesJoin v join.OutOfMemory = (joined v < most_sessions) × (v.joins < last_number)
RefusesJoin v join.Sessions = most_sessions ≤ joined v
RefusesJoin v join.NumbersSpent = (joined v < most_sessions) × (v.joins ≡ last_number)

-- a call begins, under the next number; it has resolved no component
pub record CallBegins (v w : CoreView) (lane : LaneView) (request : Request) (moment : ℕ)
    : Type 0 where
  pub idle : lane_state v lane.session ≡ Idle
  pub unspent : v.drawn < last_number
  pub own : lane_state w lane.session ≡ Busy (new_call (v.drawn + 1) lane.session moment request)
  pub fresh : (waiting_reply (new_call (v.drawn + 1) lane.session moment request) ≡ None)
      × (left_of (new_call (v.drawn + 1) lane.session moment request) ≡ bound_of request)
  pub others : (s : ℕ) → s ≢ lane.session → lane_state w s ≡ lane_state v s
  pub joined : joined w ≡ joined v
  pub drawn : w.drawn ≡ v.drawn + 1
  pub joins : w.joins ≡ v.joins
  pub records : KeepsRecords v w
  pub look_ups : w.look_ups ≡ v.look_ups

-- the lane with this call
abbrev pub begun : LaneView → ℕ → LaneView
begun lane number =
    record { session = lane.session; call = Some number; begun = min (lane.begun + 1) (2 ^ 64 - 1) }

-- a call begins, and its first step answers it
pub record AnswersAtOnce (v : CoreView) (lane : LaneView) (request : Request) (moment : ℕ)
    (c : WalkEnd) : Type 0 where
  pub mid : CoreView
  pub begins : CallBegins v mid lane request moment
  pub history : (h : List Record) → IsHistory v h → IsHistory mid h
  pub steps : StepsOn mid (begun lane mid.drawn) c.step c.core c.lane

-- why a call could not begin
abbrev pub RefusesCall : CoreView → BeginFault → Type 0
RefusesCall v begin.OutOfMemory = v.drawn < last_number
RefusesCall v begin.NumbersSpent = v.drawn ≡ last_number

abbrev pub RefusesBegin : CoreView → LaneView → CoreFault → Type 0
RefusesBegin v lane (fault.Refused f) = (lane_state v lane.session ≡ Idle) × RefusesCall v f
RefusesBegin v lane fault.Stranger = lane_state v lane.session ≢ Idle

-- the session leaves
pub record SessionLeaves (v w : CoreView) (session : ℕ) : Type 0 where
  pub idle : lane_state v session ≡ Idle
  pub own : lane_state w session ≡ NoLane
  pub others : (s : ℕ) → s ≢ session → lane_state w s ≡ lane_state v s
  pub joined : joined v ≡ joined w + 1
  pub drawn : w.drawn ≡ v.drawn
  pub joins : w.joins ≡ v.joins
  pub keep : w.keep ≡ v.keep
  pub look_ups : w.look_ups ≡ v.look_ups
