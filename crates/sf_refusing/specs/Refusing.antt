-- The promises about refused requests: a journal of them exists.
use Rattle.std.specs.Prelude.{◌≡◌, ◌<◌, ◌+◌, ◌-◌, ◌⊎◌, ℕ, nat_eq, nat_lt, min, List, [], ◌∷◌, ◌++◌, length, map, Bool, true, false, Some, slice_get, Result, Ok, Err}
use Rattle.std.specs.Global.{Vec}
use Rattle.std.specs.List.{AllByRecursion}
use Rattle.sf_field.specs.Fields.{packet}
use Rattle.sf_request.specs.declared.request.WireRequest.{WireRequest}
use Rattle.sf_request.specs.declared.request.Asked.TheVariants.{Request}
use Rattle.sf_request.specs.Requests.{Asks}
use Rattle.sf_reply.specs.declared.reply.StatusCode.{StatusCode}
use Rattle.sf_wire.specs.declared.cutting.Cut.TheVariants as cut
use Rattle.sf_wire.specs.declared.cutting.BadCut.{BadCut}
use Rattle.sf_wire.specs.Packets.{IsBody, IsCut}
use Rattle.sf_engine.specs.declared.event.Happened.{Happened}
use Rattle.sf_engine.specs.declared.event.Happened.TheVariants as happened
use Rattle.sf_engine.specs.declared.event.EngineFault.{EngineFault}
use Rattle.sf_engine.specs.declared.event.EngineFault.TheVariants as fault
use Rattle.sf_engine.specs.Promise.{Entry, BytesFed, BytesSent, of_session, IsKnown, IsUnsent, WaitsForBytes}
use Rattle.sf_refusing.specs.declared.rule.Rule.{Rule}
use Rattle.sf_refusing.specs.declared.given.GivenRule.{GivenRule}
use Rattle.sf_refusing.specs.declared.passage.Passage.{Passage}
use Rattle.sf_refusing.specs.declared.refusals.Refusals.{Refusals}
use Rattle.sf_refusing.specs.Journal.{Packet, Act, Made, Apart, PassedOn, RefusedBy, log_of, fed_by, received_in, taken_in, sent_in, delivered_in, rules_in, since_given, count_since, refused_in, rule_refuses}

-- ---- what may happen

-- the engine was fed these bytes for a session
pub record IsFed (session : ℕ) (bytes : List ℕ) (e : Entry) : Type 0 where
  pub fed : Vec ℕ
  pub items : fed.items ≡ bytes
  pub is : e ≡ BytesFed session fed

-- Bytes to which no rule is applied: none; an invalid length, with all that follows it; or a packet
-- that is its session's first one or that comes before any rule.
abbrev pub IsUnruled : List Act → ℕ → List ℕ → Type 0
IsUnruled front session bytes = (bytes ≡ []) ⊎ (((cause : BadCut) × IsCut bytes (cut.Bad cause))
    ⊎ (((taken_in session front ≡ []) ⊎ (rules_in front ≡ []))
    × ((body : List ℕ) × IsBody body × (bytes ≡ packet body))))

-- A packet is passed on, since no rule refuses it.
pub record MayPass (front : List Act) (p : Packet) (e : Entry) : Type 0 where
  pub is_body : IsBody p.body
  pub asks : Asks p.body p.asked
  pub fed : IsFed p.session (packet p.body) e
  pub passes : (number : ℕ) → rule_refuses front number p ≡ false

-- A request is refused. It isn't its session's first packet, all earlier requests were answered,
-- and this rule is the first one that refuses it.
pub record MayRefusePacket (front : List Act) (p : Packet) (id number : ℕ) (code : StatusCode)
    (e : Entry) : Type 0 where
  pub request : WireRequest
  pub asked : p.asked ≡ Request id request
  pub is_body : IsBody p.body
  pub asks : Asks p.body p.asked
  pub begun : 0 < length (taken_in p.session front)
  pub waits : WaitsForBytes (log_of front) p.session
  pub rule : Rule
  pub since : List Act
  pub given : since_given front number ≡ Some (rule, since)
  pub code_is : code ≡ rule.code
  pub refused : rule_refuses front number p ≡ true
  pub first : (other : ℕ) → other < number → rule_refuses front other p ≡ false
  pub sent : ℕ
  pub is : e ≡ BytesSent p.session sent

abbrev pub MayHappen : List Act → Act → Type 0
MayHappen front (Made e) = (session : ℕ) → IsUnruled front session (fed_by session e)
MayHappen front (PassedOn p e) = MayPass front p e
MayHappen front (RefusedBy p id number code e) = MayRefusePacket front p id number code e
MayHappen front act = Unit {0}

-- each of these events may happen after those before it
unfoldable pub AllMayHappen : List Act → List Act → Type 0
AllMayHappen front [] = Unit {0}
AllMayHappen front (act ∷ journal) = MayHappen front act × AllMayHappen (front ++ act ∷ []) journal

-- ---- one session

-- whether an event fed bytes to a session or removed its output
abbrev pub moves_bytes : ℕ → Entry → Bool
moves_bytes session (BytesFed s bytes) = nat_eq s session
moves_bytes session (BytesSent s n) = nat_eq s session
moves_bytes session e = false

-- the event wasn't made on the engine directly, or is no such event of this session
abbrev pub IsNotApart : ℕ → Act → Type 0
IsNotApart session (Apart e) = moves_bytes session e ≡ false
IsNotApart session act = Unit {0}

abbrev pub IsOwn : ℕ → List Act → Type 0
IsOwn session journal = AllByRecursion (IsNotApart session) journal

-- the engine's output for a session that isn't sent yet
abbrev pub HasUnsent : List Entry → ℕ → List ℕ → Type 0
HasUnsent log session =
    IsUnsent (of_session session log).wrote (of_session session log).sent

-- The bytes that a session received were fed to the engine or refused, in order, except those that
-- are buffered. Its output was sent, or is buffered here or in the engine.
pub record IsServedHere (journal : List Act) (session : ℕ) (held output : List ℕ) : Type 0 where
  pub received : received_in session journal ≡ taken_in session journal ++ held
  pub unsent : List ℕ
  pub in_engine : HasUnsent (log_of journal) session unsent
  pub gone : List ℕ
  pub count : length gone ≡ delivered_in session journal
  pub waits : sent_in session journal ≡ gone ++ output ++ unsent

-- The same, if no event on the engine directly feeds the session or removes its output.
pub record ServesHere (journal : List Act) (session : ℕ) (held output : List ℕ)
    (begun : Bool) : Type 0 where
  pub begun_is : begun ≡ nat_lt 0 (length (taken_in session journal))
  pub served : IsOwn session journal → IsServedHere journal session held output

-- ---- one rule

-- The rule with this number passed and refused as many as it may, of those that it has counted.
pub record IsGivenRule (journal : List Act) (number : ℕ) (given : GivenRule) : Type 0 where
  pub since : List Act
  pub is : since_given journal number ≡ Some (given.rule, since)
  pub passed : given.passed ≡ min given.rule.pass (count_since number given.rule since)
  pub refused : given.refused
      ≡ min given.rule.refuse (count_since number given.rule since - given.rule.pass)
  pub counted : given.refused ≡ refused_in number since

-- the same for each rule
pub record AreGiven (journal : List Act) (rules : List GivenRule) : Type 0 where
  pub count : length rules ≡ length (rules_in journal)
  pub each : (number : ℕ) (given : GivenRule) → slice_get rules number ≡ Some given
      → IsGivenRule journal number given

-- ---- all

-- The refusals have this journal.
pub record HasJournal (refusals : Refusals) (journal : List Act) : Type 0 where
  pub happened : AllMayHappen [] journal
  pub each : (i : ℕ) (p : Passage) → slice_get refusals.passages.items i ≡ Some p
      → ServesHere journal (i + 1) p.held.items p.output.items p.begun
  pub others : (session : ℕ) → (session ≡ 0) ⊎ (length refusals.passages.items < session)
      → ServesHere journal session [] [] false
  pub rules : AreGiven journal refusals.rules.items

-- the refusals have this journal, and the engine has its log
abbrev pub Have : {E : Type 0} → (E → List Entry → Type 0) → E → Refusals → List Act → Type 0
Have has_log engine refusals journal =
    HasJournal refusals journal × has_log engine (log_of journal)

-- ---- results

-- If the session waits for bytes, less than a packet of its bytes is buffered.
abbrev pub NoneIsHeld : List Act → ℕ → Type 0
NoneIsHeld journal session = WaitsForBytes (log_of journal) session → IsOwn session journal
    → (held : List ℕ) → received_in session journal ≡ taken_in session journal ++ held
    → IsCut held cut.More

-- the first buffered bytes were passed on
abbrev pub IsPassedOn : ℕ → Act → Type 0
IsPassedOn session (Made e) = 0 < length (fed_by session e)
IsPassedOn session (PassedOn p e) = p.session ≡ session
IsPassedOn session act = ⊥

-- One packet was passed on, or there was none.
abbrev pub PassesOn : List Act → ℕ → List Act → Type 0
PassesOn journal session [] = NoneIsHeld journal session
PassesOn journal session (act ∷ []) = IsPassedOn session act
PassesOn journal session (act ∷ other ∷ acts) = ⊥

-- one request was refused
abbrev pub IsRefusal : ℕ → List Act → Type 0
IsRefusal session acts = (p : Packet) × (id number : ℕ) × (code : StatusCode) × (e : Entry)
    × (p.session ≡ session) × (acts ≡ RefusedBy p id number code e ∷ [])

-- Whether the session's next packet was refused or passed on; or memory for it ran out.
abbrev pub MovesFront : List Act → ℕ → Result Bool EngineFault → List Act → Type 0
MovesFront journal session (Ok true) acts = IsRefusal session acts
MovesFront journal session (Ok false) acts = PassesOn journal session acts
MovesFront journal session (Err f) acts =
    (f ≡ fault.OutOfMemory) × (acts ≡ []) × WaitsForBytes (log_of journal) session

-- A turn of a session: a refusal; or turns of the engine, perhaps after a packet was passed on; or
-- nothing, since memory for a packet ran out.
abbrev pub IsTurn : List Act → ℕ → (List Entry → Type 0) → Result Happened EngineFault → List Act
    → Type 0
IsTurn journal session AreMade r acts = ((r ≡ Ok happened.Wrote) × IsRefusal session acts)
    ⊎ (((passed : List Act) × (entries : List Entry) × PassesOn journal session passed
    × AreMade entries × (acts ≡ passed ++ map Made entries))
    ⊎ ((r ≡ Err fault.OutOfMemory) × (acts ≡ []) × WaitsForBytes (log_of journal) session))

-- the output that is to be sent next
pub record IsNextOutput (journal : List Act) (session : ℕ) (output : List ℕ) : Type 0 where
  pub gone : List ℕ
  pub later : List ℕ
  pub count : length gone ≡ delivered_in session journal
  pub waits : sent_in session journal ≡ gone ++ output ++ later
  pub last : output ≡ [] → later ≡ []

-- Why a feed fails: as the engine's feed does, except that memory may run out for any known
-- session.
abbrev pub MayRefuseFeed : List Entry → ℕ → EngineFault → Type 0
MayRefuseFeed log session fault.OutOfMemory = IsKnown log session
MayRefuseFeed log session fault.NoSuchSession = ¬ IsKnown log session
MayRefuseFeed log session fault.Ended = IsKnown log session
    × (((of_session session log).closed ≡ true) ⊎ ((of_session session log).left ≡ true))
MayRefuseFeed log session f = ⊥

-- Why this many bytes can't be removed: the session is unknown, or its output is shorter.
abbrev pub MayRefuseSent : List Act → ℕ → ℕ → EngineFault → Type 0
MayRefuseSent journal session count fault.NoSuchSession = ¬ IsKnown (log_of journal) session
MayRefuseSent journal session count fault.NotSent = IsOwn session journal
    → length (sent_in session journal) < delivered_in session journal + count
MayRefuseSent journal session count f = ⊥
