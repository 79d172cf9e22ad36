-- The effect of a call on the store.
use Rattle.std.specs.Prelude.{◌≡◌, ℕ, zero, suc, ◌<◌, ◌≤◌, Bool, true, false, not, ◌&&◌, Option, Some, None, Ok, Err}
use Rattle.std.specs.declared.result.Result.{Result}
use Rattle.sf_reply.specs.declared.reply.Reply.{Reply}
use Rattle.sf_reply.specs.declared.reply.Reply.TheVariants as reply
use Rattle.sf_reply.specs.declared.reply.StatusCode.{StatusCode}
use Rattle.sf_reply.specs.declared.reply.StatusCode.TheVariants.{Success}
use Rattle.sf_path.specs.Order.{same_path}
use Rattle.sf_call.specs.declared.request.Request.{Request}
use Rattle.sf_field.specs.declared.operation.PathOp.TheVariants as path_op
use Rattle.sf_field.specs.declared.operation.PairOp.TheVariants as pair_op
use Rattle.sf_call.specs.declared.request.Request.TheVariants as request
use Rattle.sf_call.specs.Requests.{Wanted, wanted_by}
use Rattle.sf_call.specs.Requests.Wanted.{StatusAlone, Attributes, NewHandle, Bytes, Entries}
use Rattle.sf_call.specs.Tree.{Tree, object_of, handle_of, is_nil}
use Rattle.sf_call.specs.Changes.{done}
use Rattle.sf_call.specs.Calls.{Outcome}
use Rattle.sf_inode.specs.declared.node.Node.{Node}
use Rattle.sf_inode.specs.Nodes.{blocks_left_in}
use Rattle.sf_inode.specs.Stores.{StoreState, node_in, looked_up}
use Rattle.sf_keeps.specs.Keeps.{Keeps}

-- the store after k lookups
abbrev pub after_look_ups : ℕ → StoreState → StoreState
after_look_ups zero s = s
after_look_ups (suc k) s = looked_up (after_look_ups k s)

-- only lookups were made, at most `most`
pub record LookedUp (old new : StoreState) (most : ℕ) : Type 0 where
  pub count : ℕ
  pub few : count ≤ most
  pub state : new ≡ after_look_ups count old

-- at most `most` lookups were made
pub record MakesLookUps (old new : StoreState) (most : ℕ) : Type 0 where
  pub count : ℕ
  pub few : count ≤ most
  pub look_ups : new.look_ups ≡ (after_look_ups count old).look_ups

-- the stores differ at most in the count of lookups: inodes and handles are the same
pub record IsAlike (old new : StoreState) : Type 0 where
  pub nodes : (id : ℕ) → node_in new.nodes id ≡ node_in old.nodes id
  pub root : new.root ≡ old.root
  pub sessions : new.sessions ≡ old.sessions

-- An existing inode keeps its holder, its label and its number of blocks left to copy. A new inode
-- has a holder and a label as given, and no blocks left.
abbrev pub IsAsBefore : (Option ℕ → ℕ → Type 0) → Option Node → Node → Type 0
IsAsBefore new None node = new node.holder node.label × (blocks_left_in node.content ≡ 0)
IsAsBefore new (Some was) node = (node.holder ≡ was.holder) × (node.label ≡ was.label)
    × (blocks_left_in node.content ≡ blocks_left_in was.content)

pub record KeepsRest (new_as : Option ℕ → ℕ → Type 0) (old new : StoreState) : Type 0 where
  pub node : (id : ℕ) (node : Node) → node_in new.nodes id ≡ Some node
      → IsAsBefore new_as (node_in old.nodes id) node

-- each inode keeps its holder, its label and its number of blocks left; none is new
abbrev pub HoldersStay : StoreState → StoreState → Type 0
HoldersStay old new = KeepsRest (λ holder label. ⊥) old new

-- each inode keeps its holder, its label and its number of blocks left; a new one has no holder,
-- and `number` as its label
abbrev pub NodesStay : ℕ → StoreState → StoreState → Type 0
NodesStay number old new = KeepsRest (λ holder label. (holder ≡ None) × (label ≡ number)) old new

-- the number is above 0, and no label and no handle of the tree
pub record IsUnused (t : Tree) (number : ℕ) : Type 0 where
  pub above : 0 < number
  pub label : object_of t.objects number ≡ None
  pub handle : handle_of t.handles number ≡ None

-- the reply is the tree's, and the store represents the tree after the call
pub record IsCarriedOut (new : StoreState) (t : Tree) (answer : Outcome)
    (given : Reply) : Type 0 where
  pub told : given ≡ answer.reply
  pub tree : Keeps new (done t answer.changes)

-- The call is answered "Out of memory": no inode and no handle has changed, and the store
-- represents the same tree.
pub record IsRefused (old new : StoreState) (t : Tree) (given : Reply) : Type 0 where
  pub told : given ≡ reply.NoMemory
  pub alike : IsAlike old new
  pub tree : Keeps new t

-- a status other than success is a failure; every other reply is a success
abbrev pub is_good : StatusCode → Bool
is_good Success = true
is_good other = false

abbrev pub is_success : Reply → Bool
is_success (reply.Status code) = is_good code
is_success other = true

-- the result of a call; an allocation failure replaces only a success
abbrev pub ServesOutcome : {E : Type 0} → StoreState → Tree → Outcome → Result Reply E → Type 0
ServesOutcome new t answer (Ok given) = IsCarriedOut new t answer given
ServesOutcome new t answer (Err error) = is_success answer.reply ≡ true

-- The requests that allocate if they succeed: those that reply with more than a status and
-- attributes, create an inode or a handle, write bytes, or add a name.
abbrev pub wants_room : Wanted → Bool
wants_room StatusAlone = false
wants_room Attributes = false
wants_room NewHandle = true
wants_room Bytes = true
wants_room Entries = true

abbrev pub takes_memory : Request → Bool
takes_memory (request.OnPath (path_op.Mkdir attrs) path) = true
takes_memory (request.OnPaths pair_op.Rename old new) = true
takes_memory (request.OnPaths pair_op.PosixRename old new) = not (same_path old new)
takes_memory (request.OnPaths pair_op.Link old new) = true
takes_memory (request.Write handle offset bytes) = not (is_nil bytes)
takes_memory other = wants_room (wanted_by other)

-- whether "Out of memory" may replace this reply to the request
abbrev pub may_want_memory : Request → Reply → Bool
may_want_memory request given = takes_memory request && is_success given
