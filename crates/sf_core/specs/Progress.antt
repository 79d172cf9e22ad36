-- The progress of an unanswered call.
use Rattle.std.specs.Prelude.{◌≡◌, ◌⊎◌, ◌<◌, ◌+◌, ◌-◌, ℕ, Bool, true, false, not, nat_eq, nat_le, ◌&&◌, ◌||◌, if◌then◌else◌, List, [], ◌∷◌, length, take, map, sum, filter, Option, Some, None, is_none, is_some}
use Rattle.sf_path.specs.Names.{Path}
use Rattle.sf_reply.specs.declared.reply.Reply.{Reply}
use Rattle.sf_block.specs.Contents.{most_blocks}
use Rattle.sf_call.specs.declared.request.Request.{Request}
use Rattle.sf_call.specs.declared.request.Request.TheVariants as request
use Rattle.sf_call.specs.declared.record.Record.{Record}
use Rattle.sf_call.specs.declared.record.Record.TheVariants.{Did, Left}
use Rattle.sf_call.specs.declared.call.Call.{Call}
use Rattle.sf_call.specs.declared.call.Stage.{Stage}
use Rattle.sf_call.specs.declared.call.Stage.TheVariants as stage
use Rattle.sf_call.specs.Tree.{Tree, is_directory, after_front}
use Rattle.sf_call.specs.declared.call.Reached.{Reached}
use Rattle.sf_call.specs.Routes.{Route, route_of, walks_nothing}
use Rattle.sf_walk.specs.Routes.{paths_on, reached_at}
use Rattle.sf_call.specs.Routes.Route.{NoPath, Along, Between}
use Rattle.sf_walk.specs.Steps.{MayDecideWhere}
use Rattle.sf_walk.specs.Files.{holder_by}
use Rattle.sf_inode.specs.Stores.{StoreState}
use Rattle.sf_walk.specs.Ways.{request_names}
use Rattle.sf_call.specs.Requests.{Target}
use Rattle.sf_call.specs.Requests.Target.{ByHandle, OnPath, OnPaths}

-- the pending reply, if the call is decided
unfoldable pub waiting_reply : Call → Option Reply
waiting_reply c = c.reply

-- whether a call is a WRITE
abbrev pub is_write : Request → Bool
is_write (request.OnPath op path) = false
is_write (request.OnPaths op old new) = false
is_write (request.ByHandle op handle) = false
is_write (request.Write handle offset bytes) = true

-- Whether a session's call is decided as it begins: it looks up nothing, is no WRITE, and no call
-- holds a file that it reads or sets.
abbrev pub is_at_once : StoreState → ℕ → Request → Bool
is_at_once s session request =
    walks_nothing (route_of request)
    && (not (is_write request) && is_none (holder_by s session request))

-- the most blocks that a call copies: those of a WRITE's data, at any offset
abbrev pub blocks_in : Request → ℕ
blocks_in (request.OnPath op path) = 0
blocks_in (request.OnPaths op old new) = 0
blocks_in (request.ByHandle op handle) = 0
blocks_in (request.Write handle offset bytes) = most_blocks bytes

-- the most steps that a call takes, without those in which it is blocked
unfoldable pub bound_of : Request → ℕ
bound_of request = request_names request + 3 + blocks_in request

-- the most steps that remain to an undecided call; a call that copies has one for each remaining
-- block
abbrev pub steps_left_at : Request → Stage → ℕ
steps_left_at request stage.Fresh = request_names request + 3 + blocks_in request
steps_left_at request (stage.At walked node) = request_names request + 2 - walked
steps_left_at request (stage.Ends common old new) =
    request_names request + 2 - (old.walked + new.walked)
steps_left_at request (stage.Copies node left) = left

-- the steps that remain to a decided call: one for each remaining block, or one that fetches the
-- reply
abbrev pub left_decided : Stage → ℕ
left_decided (stage.Copies node left) = left
left_decided at = 1

abbrev pub left_by : Request → Stage → Option Reply → ℕ
left_by request at None = steps_left_at request at
left_by request at (Some given) = left_decided at

unfoldable pub left_of : Call → ℕ
left_of c = left_by c.request c.stage (waiting_reply c)

-- The depth at which a call looks next. On two paths that have parted, the old path comes first, up
-- to its parent, and then the new path.
abbrev pub depth_at : Route → Stage → ℕ
depth_at route stage.Fresh = 0
depth_at route (stage.At walked node) = walked + 1
depth_at route (stage.Copies node left) = 0
depth_at NoPath (stage.Ends common old new) = 0
depth_at (Along path) (stage.Ends common old new) = 0
depth_at (Between from to) (stage.Ends common old new) =
    if nat_le (length from) (old.walked + 1) then new.walked + 1 else old.walked + 1

abbrev pub depth_of : Call → ℕ
depth_of c = depth_at (route_of c.request) c.stage

-- the call copies into this file
abbrev pub CopiesInto : Stage → ℕ → Type 0
CopiesInto (stage.Copies file left) node = file ≡ node
CopiesInto at node = ⊥

-- the call is copying
abbrev pub IsCopying : Stage → Type 0
IsCopying (stage.Copies file left) = Unit {0}
IsCopying at = ⊥

-- The call c, which d blocks, is behind d: c looks less far down than d, or d is copying. A call
-- that is copying waits for no other.
abbrev pub IsBehind : Call → Call → Type 0
IsBehind c d = (IsCopying c.stage → ⊥) × (IsCopying d.stage ⊎ (depth_of c < depth_of d))

-- all components but the last are resolved, or all up to one that is missing or no directory
abbrev pub EndsWalk : Tree → Path → ℕ → Type 0
EndsWalk tree path walked = (walked + 1 ≡ length path)
    ⊎ ((walked + 1 < length path) × (is_directory tree (take (walked + 1) path) ≡ false))

-- the call may be decided, by the tree
abbrev pub MayDecideBy : Tree → Route → Stage → Type 0
MayDecideBy tree = MayDecideWhere (λ path from. EndsWalk tree path from.walked)

abbrev pub MayDecide : Tree → Request → Stage → Type 0
MayDecide tree request at = MayDecideBy tree (route_of request) at

-- the call's record
abbrev pub did : Call → Reply → Record
did c given = Did c.number c.session c.moment c.request given

-- A call on a path may be helped by another call, and a WRITE's record is written before its last
-- block. So these calls have a second copy of their request.
abbrev pub copy_by_handle : Request → Option Request
copy_by_handle (request.OnPath op path) = None
copy_by_handle (request.OnPaths op old new) = None
copy_by_handle (request.ByHandle op handle) = None
copy_by_handle (request.Write handle offset bytes) = Some (request.Write handle offset bytes)

abbrev pub copy_of : Route → Request → Option Request
copy_of NoPath request = copy_by_handle request
copy_of route request = Some request

abbrev pub new_call : ℕ → ℕ → ℕ → Request → Call
new_call number session moment request = record {
  number = number;
  session = session;
  moment = moment;
  request = request;
  stage = stage.Fresh;
  copy = copy_of (route_of request) request;
  reply = None;
}

-- the same call, at a later stage
pub record SameCall (c d : Call) : Type 0 where
  pub number : d.number ≡ c.number
  pub session : d.session ≡ c.session
  pub moment : d.moment ≡ c.moment
  pub request : d.request ≡ c.request

-- whether a path is a prefix of the first `walked` names of another
abbrev pub has_walked : Path → ℕ → Path → Bool
has_walked path walked old = nat_le (length old) walked && is_some (after_front old path)

abbrev pub are_past : List Reached → List Path → Path → Bool
are_past [] paths front = false
are_past (r ∷ at) [] front = false
are_past (r ∷ at) (path ∷ paths) front = has_walked path r.walked front || are_past at paths front

-- whether a path is a prefix of what the call has resolved
abbrev pub has_passed : Call → Path → Bool
has_passed c front = are_past (reached_at c.stage) (paths_on (route_of c.request)) front

-- the path that a rename moves
abbrev pub old_at : Target → Option Path
old_at (ByHandle handle) = None
old_at (OnPath path) = None
old_at (OnPaths old new) = Some old

-- the numbers of the other undecided calls that have passed a path
abbrev pub overtaken : List (ℕ × Call) → ℕ → Option Path → List ℕ
overtaken calls number None = []
overtaken calls number (Some old) = map (λ e. e.0) (filter (λ e. not (nat_eq e.0 number)
    && is_none (waiting_reply e.1) && has_passed e.1 old) calls)

-- the number of undecided calls
abbrev pub undecided_in : List (ℕ × Call) → ℕ
undecided_in calls = length (filter (λ e. is_none (waiting_reply e.1)) calls)

-- the number of names in the paths of the records' calls
abbrev pub names_in_record : Record → ℕ
names_in_record (Did number session moment request given) = request_names request
names_in_record (Left session) = 0

abbrev pub names_in_records : List Record → ℕ
names_in_records records = sum (map names_in_record records)

-- the numbers of the records' calls
abbrev pub record_number : Record → Option ℕ
record_number (Did number session moment request given) = Some number
record_number (Left session) = None
