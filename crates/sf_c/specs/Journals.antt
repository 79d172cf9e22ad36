-- What each call of the library does to an engine and its refusals: the acts that it appends to
-- their journal.
use Rattle.std.specs.Prelude.{◌≡◌, ◌<◌, ◌≤◌, ◌-◌, ◌^◌, ◌++◌, ◌⊎◌, ◌↔◌, Bool, IsTrue, true, false, ℕ, zero, suc, ℤ, pos, negsuc, List, [], ◌∷◌, length, map, take, drop, Option, Some, None, Result, Ok, Err, OnErr}
use Rattle.sf_wire.specs.declared.cutting.Cut.TheVariants as cut
use Rattle.sf_wire.specs.Packets.{IsCut}
use Rattle.sf_engine.specs.declared.event.Event.TheVariants as event
use Rattle.sf_engine.specs.declared.event.Happened.{Happened}
use Rattle.sf_engine.specs.declared.event.Happened.TheVariants as happened
use Rattle.sf_engine.specs.declared.event.EngineFault.{EngineFault}
use Rattle.sf_engine.specs.Promise.{Entry, event_of, result_of, IsKnown, continues, AreTurnsOf, WaitsForBytes}
use Rattle.sf_engine.specs.Views.{EngineView}
use Rattle.sf_engine.specs.contracts.promise.EngineSftp.TheImpl.{ghosts}
use Rattle.sf_refusing.specs.declared.refusals.Refusals.{Refusals}
use Rattle.sf_refusing.specs.Journal.{Act, Received, Delivered, Made, log_of, received_in, taken_in}
use Rattle.sf_refusing.specs.Refusing.{Have, IsOwn, IsFed, IsTurn, IsNextOutput, MayRefuseFeed, MayRefuseSent}
use Rattle.sf_c.specs.declared.turns.Settled.{Settled}
use Rattle.sf_c.specs.Numbers.{IsNumber, leads_on, replies_of}

-- ---- an engine and its refusals advance

abbrev pub JournalGoesOn : (List Act → List Act → Type 0) → EngineView → Refusals → EngineView
    → Refusals → Type 0
JournalGoesOn AreActs old r new r' = (journal : List Act) → Have ghosts.has_log old r journal
    → (acts : List Act) × AreActs journal acts × Have ghosts.has_log new r' (journal ++ acts)

-- the same for the engine and the refusals that C holds
abbrev pub InBoth : Option EngineView → Option Refusals
    → (EngineView → Refusals → EngineView → Refusals → Type 0)
    → Option EngineView → Option Refusals → Type 0
InBoth before rules Leads after rules' =
    (old : EngineView) × (r : Refusals) × (new : EngineView) × (r' : Refusals)
    × (before ≡ Some old) × (rules ≡ Some r) × (after ≡ Some new) × (rules' ≡ Some r')
    × Leads old r new r'

-- ---- bytes in and out

-- The bytes were received, after the engine accepted an empty feed; or they were rejected.
abbrev pub ComeBytes : ℕ → List ℕ → Result Happened EngineFault → List Act → List Act → Type 0
ComeBytes session bytes (Ok h) journal acts = (asked : Entry) × IsFed session [] asked
    × (result_of asked ≡ Ok h) × (acts ≡ Made asked ∷ Received session bytes ∷ [])
ComeBytes session bytes (Err f) journal acts =
    MayRefuseFeed (log_of journal) session f × (acts ≡ [])

abbrev pub GoBytes : ℕ → ℕ → Result Happened EngineFault → List Act → List Act → Type 0
GoBytes session count (Ok h) journal acts = (h ≡ happened.Sent)
    × ((entries : List Entry) × (acts ≡ map Made entries ++ Delivered session count ∷ []))
GoBytes session count (Err f) journal acts =
    MayRefuseSent journal session count f × (acts ≡ [])

-- the result has this number; after an error the engine is unchanged
abbrev pub Moves : (Result Happened EngineFault → List Act → List Act → Type 0) → ℤ
    → EngineView → Refusals → EngineView → Refusals → Type 0
Moves AreBytes n old r new r' = (result : Result Happened EngineFault) × IsNumber result n
    × OnErr result (new ≡ old) × JournalGoesOn (AreBytes result) old r new r'

abbrev pub FeedsBytes : ℕ → List ℕ → ℤ → EngineView → Refusals → EngineView → Refusals → Type 0
FeedsBytes session bytes n = Moves (ComeBytes session bytes) n

abbrev pub SendsBytes : ℕ → ℕ → ℤ → EngineView → Refusals → EngineView → Refusals → Type 0
SendsBytes session count n = Moves (GoBytes session count) n

-- ---- turns

-- one turn of a session: a refusal, or a turn of the engine, perhaps after a packet was passed on
abbrev pub IsOneTurn : ℕ → ℕ → Result Happened EngineFault → List Act → List Act → Type 0
IsOneTurn session moment result journal acts =
    IsTurn journal session (λ entries. (e : Entry) × (entries ≡ e ∷ [])
    × (event_of e ≡ event.Turn session moment) × (result_of e ≡ result)) result acts

abbrev pub TurnsOnce : ℕ → ℕ → ℤ → EngineView → Refusals → EngineView → Refusals → Type 0
TurnsOnce session moment n old r new r' = (result : Result Happened EngineFault)
    × IsNumber result n × JournalGoesOn (IsOneTurn session moment result) old r new r'

-- The same, but the engine takes turns until the session's call is answered or blocked. No call has
-- as many as 2^64 - 1 steps.
abbrev pub IsManyTurns : ℕ → ℕ → Result Happened EngineFault → List Act → List Act → Type 0
IsManyTurns session moment result journal acts =
    IsTurn journal session (λ entries. AreTurnsOf session moment result entries
    × (continues result ≡ true → 2 ^ 64 - 1 ≤ length entries)) result acts

-- turns that wrote this many replies, one after another
abbrev pub HaveReplied : ℕ → ℕ → ℕ → List Act → List Act → Type 0
HaveReplied zero session moment journal acts = acts ≡ []
HaveReplied (suc replies) session moment journal acts = (front : List Act) × (back : List Act)
    × (acts ≡ front ++ back) × HaveReplied replies session moment journal front
    × IsManyTurns session moment (Ok happened.Wrote) (journal ++ front) back

-- Turns up to one that wrote no reply and made no progress, with fewer than `most` replies before
-- it; or turns that wrote `most` replies.
abbrev pub TurnsTo : ℕ → ℕ → ℕ → Option (Result Happened EngineFault) → List Act → List Act → Type 0
TurnsTo most session moment None journal acts = HaveReplied most session moment journal acts
TurnsTo most session moment (Some result) journal acts = (replies : ℕ) × (replies < most)
    × (front : List Act) × (back : List Act) × (acts ≡ front ++ back)
    × HaveReplied replies session moment journal front × (replies_of result ≡ 0)
    × IsManyTurns session moment result (journal ++ front) back

-- the turns after a first one, if it made progress
abbrev pub FollowsFirst : Bool → Result Happened EngineFault → ℕ → ℕ → ℕ → Settled → List Act
    → List Act → Type 0
FollowsFirst false first most session moment settled journal acts =
    (settled ≡ record { last = Some first; moved = false }) × (acts ≡ [])
FollowsFirst true first most session moment settled journal acts = (settled.moved ≡ true)
    × TurnsTo (most - replies_of first) session moment settled.last journal acts

-- A session was settled: by no turn if `most` is 0; otherwise by a first turn and those that follow
-- it.
abbrev pub AreSettled : ℕ → ℕ → ℕ → Settled → List Act → List Act → Type 0
AreSettled zero session moment settled journal acts =
    (settled ≡ record { last = None; moved = false }) × (acts ≡ [])
AreSettled (suc most) session moment settled journal acts = (first : Result Happened EngineFault)
    × (front : List Act) × (back : List Act) × (acts ≡ front ++ back)
    × IsOneTurn session moment first journal front
    × FollowsFirst (leads_on first) first (suc most) session moment settled (journal ++ front) back

-- the number of the turn without progress, or 6
abbrev pub IsLastNumber : Option (Result Happened EngineFault) → ℤ → Type 0
IsLastNumber None n = n ≡ pos 6
IsLastNumber (Some result) n = IsNumber result n

abbrev pub Settles : ℕ → ℕ → ℕ → ℤ → Bool → EngineView → Refusals → EngineView → Refusals → Type 0
Settles most session moment n moved old r new r' = (settled : Settled)
    × IsLastNumber settled.last n × (moved ≡ settled.moved)
    × JournalGoesOn (AreSettled most session moment settled) old r new r'

-- ---- reports

-- Whether a session needs input: it waits for bytes, and less than a packet of its bytes is held.
abbrev pub SaysItWaits : EngineView → Refusals → ℕ → Bool → Type 0
SaysItWaits engine r session wants = (journal : List Act) → Have ghosts.has_log engine r journal
    → IsOwn session journal → IsTrue wants ↔ (WaitsForBytes (log_of journal) session
    × ((held : List ℕ) → received_in session journal ≡ taken_in session journal ++ held
    → IsCut held cut.More))

-- the bytes to be sent to a session next
abbrev pub HasNext : EngineView → Refusals → ℕ → List ℕ → Type 0
HasNext engine r session output = (journal : List Act) → Have ghosts.has_log engine r journal
    → IsOwn session journal → IsKnown (log_of journal) session × IsNextOutput journal session output

abbrev pub KnowsNoSession : EngineView → Refusals → ℕ → Type 0
KnowsNoSession engine r session = (journal : List Act) → Have ghosts.has_log engine r journal
    → IsKnown (log_of journal) session → ⊥

-- as much of the output as fits was copied, and its length is returned
abbrev pub CopiesOutput : EngineView → Refusals → ℕ → List ℕ → ℤ → List ℕ → Type 0
CopiesOutput engine r session old n new =
    (output : List ℕ) × HasNext engine r session output × (n ≡ pos (length output))
    × (new ≡ take (length old) output ++ drop (length output) old)

-- a session's output was copied, or there is no such session
abbrev pub Outputs : EngineView → Refusals → ℕ → List ℕ → ℤ → List ℕ → Type 0
Outputs engine r session old n new = CopiesOutput engine r session old n new
    ⊎ (KnowsNoSession engine r session × (n ≡ negsuc 1) × (new ≡ old))

-- the same for the engine and the refusals that C holds
abbrev pub OfBoth : Option EngineView → Option Refusals → (EngineView → Refusals → Type 0) → Type 0
OfBoth engine rules Tells = (e : EngineView) × (r : Refusals) × (engine ≡ Some e)
    × (rules ≡ Some r) × Tells e r
