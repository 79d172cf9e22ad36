-- No public clause cites this module.
-- What the steps of a WRITE do to the parts of a core.
use Rattle.std.specs.Prelude.{◌≡◌, ◌⊎◌, ◌<◌, ◌+◌, ◌-◌, ℕ, zero, suc, false, List, Option, Some, None}
use Rattle.sf_reply.specs.declared.reply.Reply.{Reply}
use Rattle.sf_reply.specs.declared.reply.Reply.TheVariants as reply
use Rattle.sf_reply.specs.declared.reply.StatusCode.TheVariants.{Success}
use Rattle.sf_block.specs.Contents.{blocks_of}
use Rattle.sf_call.specs.declared.call.Call.{Call}
use Rattle.sf_call.specs.declared.call.Stage.TheVariants as stage
use Rattle.sf_call.specs.declared.record.Record.TheVariants.{Did}
use Rattle.sf_call.specs.declared.request.Request.TheVariants as request
use Rattle.sf_call.specs.Calls.{answer_to}
use Rattle.sf_call.specs.Tree.{Tree, is_nil}
use Rattle.sf_call.specs.Unanswered.{staged, answered}
use Rattle.sf_book.specs.Books.{put}
use Rattle.sf_inode.specs.Nodes.{with_holder}
use Rattle.sf_inode.specs.declared.handle.OpenHandle.{OpenHandle}
use Rattle.sf_inode.specs.Stores.{StoreState, open_handle_at, blocks_left_at, edited, left_set}
use Rattle.sf_keeps.specs.Keeps.{Keeps}
use Rattle.sf_walk.specs.declared.files.Copying.{Copying}
use Rattle.sf_walk.specs.declared.finding.Located.TheVariants as located
use Rattle.sf_walk.specs.Files.{CopiesIntoFile, IsSettled, IsWriteRequest, StartsWriting, start_by}
use Rattle.sf_walk.specs.Served.{IsCarriedOut, IsRefused}
use Rattle.sf_core.specs.Progress.{did}
use Rattle.sf_core.specs.declared.step.Step.{Step}
use Rattle.sf_core.specs.declared.step.Step.TheVariants.{Moved, Answered}
use Rattle.sf_core.specs.Lanes.{LaneView, at_rest}
use Rattle.sf_core.specs.Parts.{PartsView}
use Rattle.sf_core.specs.Cores.{call_at}
use Rattle.sf_core.specs.Finishing.{write_finished}
use Rattle.sf_core.specs.Stepping.{FinishState, FetchState}

-- A WRITE that may take its first step. It is the call of this number, and no other call has blocks
-- left to copy into its file.
pub record IsReadyToWrite (p : PartsView) (c : Call) (number : ℕ) : Type 0 where
  pub write : IsWriteRequest c.request
  pub settled : IsSettled p.store c.session c.request located.NoWay
  pub copied : c.copy ≡ Some c.request
  pub is_number : c.number ≡ number
  pub fresh : c.stage ≡ stage.Fresh

-- the store after the first step of a WRITE
pub record StartsWrite (old new : StoreState) (c : Call) (given : Reply) : Type 0 where
  pub served : (t : Tree) → Keeps old t → IsRefused old new t given
      ⊎ IsCarriedOut new t (answer_to t c.session c.number c.moment c.request) given
  pub starts : (number offset : ℕ) (bytes : List ℕ) (h : OpenHandle)
      → c.request ≡ request.Write number offset bytes
      → open_handle_at old c.session number ≡ Some h → StartsWriting old new h offset bytes
  pub sessions : new.sessions ≡ old.sessions
  pub look_ups : new.look_ups ≡ old.look_ups

-- A WRITE has started, and blocks remain. Its record is the next one, its reply is pending, and it
-- holds its file.
pub record WriteState (p q : PartsView) (c : Call) (number : ℕ) (given : Reply)
    (into : Copying) : Type 0 where
  pub mid : StoreState
  pub begins : StartsWrite p.store mid c given
  pub copied : CopiesIntoFile mid c into
  pub store : q.store ≡ edited (with_holder (Some number)) mid into.node
  pub book : q.book ≡ put p.book (did c given)
  pub sessions : q.sessions ≡ p.sessions
  pub calls : q.calls
      ≡ staged (answered p.calls number given) number (stage.Copies into.node into.left)
  pub drawn : q.drawn ≡ p.drawn
  pub joins : q.joins ≡ p.joins

-- a call copied one block into a file, and `left` blocks remain
abbrev pub part_copied : PartsView → ℕ → ℕ → ℕ → PartsView
part_copied p number node left = record p {
  store = left_set p.store node left;
  calls = staged p.calls number (stage.Copies node left);
}

abbrev pub HasBegunWrite : PartsView → PartsView → Call → ℕ → Type 0
HasBegunWrite p q c number = (given : Reply) × (into : Copying) × WriteState p q c number given into

-- the WRITE of this number holds its file: its record is the next one, and its reply is pending
abbrev pub file_held : PartsView → Call → ℕ → Reply → Reply → Copying → PartsView
file_held p c number given copy into = record p {
  store = edited (with_holder (Some number)) p.store into.node;
  book = put p.book (Did number c.session c.moment c.request given);
  calls = staged (answered p.calls number copy) number (stage.Copies into.node into.left);
}

-- one block was copied; the file is released if no block remains
abbrev pub block_copied : PartsView → ℕ → ℕ → ℕ → PartsView
block_copied p number node zero = write_finished p number node
block_copied p number node (suc k) = part_copied p number node (suc k)

-- The call of this number is copying: its stage and its file have the same number of blocks left,
-- and its reply is pending.
pub record CopiesNow (p : PartsView) (number node left : ℕ) : Type 0 where
  pub call : Call
  pub there : call_at p.calls number ≡ Some call
  pub is : call.stage ≡ stage.Copies node left
  pub left_is : blocks_left_at p.store.nodes node ≡ left
  pub some : 0 < left
  pub given : Reply
  pub waits : call.reply ≡ Some given

abbrev pub IsCopyingOn : PartsView → ℕ → Type 0
IsCopyingOn p number = (node : ℕ) × (left : ℕ) × CopiesNow p number node left

-- the call copied one block, and `left` blocks remain
pub record CopiedBlock (p q : PartsView) (number left : ℕ) : Type 0 where
  pub node : ℕ
  pub was : CopiesNow p number node (left + 1)
  pub now : q ≡ block_copied p number node left

-- n blocks were copied, one after the other, and more remain
unfoldable pub CopiedOn : ℕ → PartsView → ℕ → PartsView → Type 0
CopiedOn zero p number q = q ≡ p
CopiedOn (suc n) p number q = (mid : PartsView) × CopiedOn n p number mid
    × ((left : ℕ) × CopiedBlock mid q number (suc left))

-- all blocks were copied, in at most `most` steps, and this reply was fetched
pub record EndsCopying (p q : PartsView) (session number most : ℕ) (given : Reply) : Type 0 where
  pub count : ℕ
  pub few : count < most
  pub mid : PartsView
  pub copied : CopiedOn count p number mid
  pub last : PartsView
  pub ends : CopiedBlock mid last number 0
  pub told : ends.was.given ≡ given
  pub fetched : FetchState last q session number

-- a WRITE of at least one byte that succeeds writes one block
abbrev pub CopiesOne : StoreState → Call → Reply → Type 0
CopiesOne s c given = (number offset : ℕ) (bytes : List ℕ) (h : OpenHandle)
    → c.request ≡ request.Write number offset bytes → open_handle_at s c.session number ≡ Some h
    → is_nil bytes ≡ false → given ≡ reply.Status Success
    → blocks_of (start_by s h offset) bytes ≡ 1

-- A WRITE took its first step and up to `most - 1` further ones. The first step answered it; or it
-- copied all blocks and was answered; or blocks remain.
pub data WritesOn (p q : PartsView) (c : Call) (session number most : ℕ)
    : Option Reply → Type 0 where
  ByFirstStep : (given : Reply) → FinishState p q c number given → CopiesOne p.store c given
      → WritesOn p q c session number most (Some given)
  ToTheEnd : (given : Reply) (mid : PartsView) → HasBegunWrite p mid c number
      → EndsCopying mid q session number (most - 1) given
      → WritesOn p q c session number most (Some given)
  UpToThere : (mid : PartsView) → HasBegunWrite p mid c number → CopiedOn (most - 1) mid number q
      → WritesOn p q c session number most None

-- the last step moved the lane's call, or answered it and left the lane idle
abbrev pub ReportsStep : ℕ → LaneView → Option Reply → Step → LaneView → Type 0
ReportsStep number lane None step after = (step ≡ Moved) × (after ≡ lane)
ReportsStep number lane (Some given) step after = (step ≡ Answered (record {
  number = number;
  session = lane.session;
  reply = given;
})) × (after ≡ at_rest lane)
