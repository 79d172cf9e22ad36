-- The next block of a write is put in place.
use Rattle.std.proofs.Common.{◌≡◌, ◌≤◌, ◌<◌, ◌+◌, ◌/◌, ◌∙◌, ℕ, Bool, List, length, ap, sym, subst, arith}
use Rattle.std.specs.Prelude.{IsTrue}
use Rattle.sf_block.specs.Blocks.{FileBlocks, PendingWrite, TakesNext, Puts, HasPlace, IsHeld, EndsBefore, block_in, block_now}
use Rattle.sf_block.proofs.Waiting.{now_put, now_same}
use Rattle.sf_block.proofs.Holding.{held_put, ends_put, end_put}

pub record Places (old new : FileBlocks) (was now : PendingWrite) (number : ℕ) (block : List ℕ) (copied : Bool) : Type 0 where
  pub takes : TakesNext was now number block copied
  pub puts : Puts old new number block
  pub there : (k : ℕ) → was.first ≤ k → k < was.first + length was.fresh → HasPlace old k
  pub held : IsHeld old was.filled.from was.filled.bytes
  pub ends : EndsBefore was.filled was.first

module _ (old new : FileBlocks) (was now : PendingWrite) (number : ℕ) (block : List ℕ) (copied : Bool) (step : Places old new was now number block copied) where
  pub one_less : length was.fresh ≡ length now.fresh + 1
  one_less = ap (λ (x : List (List ℕ)). length x) step.takes.is ∙ omega arith

  ends : EndsBefore was.filled number
  ends some = step.ends some ∙ sym step.takes.at

  place : HasPlace old number
  place = step.there number (omega (arith, step.takes.at)) (omega (arith, step.takes.at, one_less))

  pub placed_now : (k : ℕ) → block_now new now.first now.fresh k ≡ block_now old was.first was.fresh k
  placed_now k =
      ap (λ n. block_now new n now.fresh k) step.takes.next
      ∙ now_put old new was.first was.fresh now.fresh block step.takes.is (subst (λ n. Puts old new n block) step.takes.at step.puts) k

  pub placed_held : IsHeld new now.filled.from now.filled.bytes
  placed_held = held_put old new number block step.puts was.filled now.filled copied ends step.takes.copies place step.held

  pub placed_ends : IsTrue copied → EndsBefore now.filled now.first
  placed_ends sure some =
      ends_put old new number block step.puts was.filled now.filled copied ends step.takes.copies sure step.held some
      ∙ omega (arith, step.takes.at, step.takes.next)

  pub placed_end : now.filled.from + length now.filled.bytes / 4096 ≤ now.first
  placed_end = omega (arith, step.takes.at, step.takes.next, end_put old new number block step.puts was.filled now.filled copied ends step.takes.copies step.held)

  -- other blocks with the same bytes are in place, and the same ones are pending
  pub settled_now : (later : FileBlocks) (left : PendingWrite) → ((k : ℕ) → block_in later k ≡ block_in new k) → left.first ≡ now.first → left.fresh ≡ now.fresh
      → (k : ℕ) → block_now later left.first left.fresh k ≡ block_now old was.first was.fresh k
  settled_now later left same first fresh k =
      ap (λ n. block_now later n left.fresh k) first
      ∙ ap (λ (waits : List (List ℕ)). block_now later now.first waits k) fresh
      ∙ now_same new later now.first now.fresh same k
      ∙ placed_now k
