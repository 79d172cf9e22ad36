use Rattle.std.proofs.Common.{◌≡◌, ◌+◌, ℕ}
use Rattle.sf_walk.specs.Files.{IsFileFree}
use Rattle.sf_core.specs.Parts.{PartsView}
use Rattle.sf_core.specs.Sound.{IsCore}
use Rattle.sf_core.specs.Stepping.{HasComeTo, Moved, come_to}
use Rattle.sf_core.proofs.parts.go_on.Given as goal

-- all steps moved
abbrev pub invariant-loop : goal.invariant-loop
invariant-loop l = record {
  walks : (p : PartsView) (number : ℕ) → HasComeTo p number l.fn.store l.call l.fn.stage
      → (moves : ℕ) × (moves + 1 ≡ l.counter) × Moved moves p l.call.session number (come_to p number l.store l.stage) × IsCore (come_to p number l.store l.stage)
      × IsFileFree l.store l.call;
}
