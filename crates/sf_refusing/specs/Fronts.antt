-- No public clause cites this module.
-- Deciding on the first packet that is buffered for a session.
use Rattle.std.specs.Prelude.{◌≢◌, ℕ, List, [], Bool}
use Rattle.sf_engine.specs.Promise.{Entry, WaitsForBytes}
use Rattle.sf_refusing.specs.declared.given.GivenRule.{GivenRule}
use Rattle.sf_refusing.specs.declared.passage.Passage.{Passage}
use Rattle.sf_refusing.specs.Journal.{Act, log_of}
use Rattle.sf_refusing.specs.Refusing.{AllMayHappen, ServesHere, AreGiven}

abbrev pub IsPassageAt : List Act → ℕ → Passage → Type 0
IsPassageAt journal session p = ServesHere journal session p.held.items p.output.items p.begun

-- a session that waits for bytes, before its next packet is decided
pub record StandsBefore {E : Type 0} (has_log : E → List Entry → Type 0) (engine : E)
    (journal : List Act) (session : ℕ) (p : Passage) (given : List GivenRule) : Type 0 where
  pub has : has_log engine (log_of journal)
  pub happened : AllMayHappen [] journal
  pub at : IsPassageAt journal session p
  pub rules : AreGiven journal given
  pub waits : WaitsForBytes (log_of journal) session

-- the session's buffers and the rules after this journal; other sessions are unchanged
pub record HoldsAfter (journal : List Act) (session : ℕ) (p : Passage) (given : List GivenRule)
    (after : List Act) : Type 0 where
  pub happened : AllMayHappen [] after
  pub at : IsPassageAt after session p
  pub rules : AreGiven after given
  pub others : (other : ℕ) (held output : List ℕ) (begun : Bool) → other ≢ session
      → ServesHere journal other held output begun → ServesHere after other held output begun

abbrev pub EngineHoldsAfter : {E : Type 0} → (E → List Entry → Type 0) → E → List Act → ℕ
    → Passage → List GivenRule → List Act → Type 0
EngineHoldsAfter has_log engine journal session p rules after =
    has_log engine (log_of after) × HoldsAfter journal session p rules after
