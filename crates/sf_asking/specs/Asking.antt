-- Operations on an engine, defined by its events.
use Rattle.std.specs.Prelude.{◌≡◌, ◌<◌, ◌⊎◌, ◌^◌, ℕ, List, [], ◌∷◌, length, Option, Some, None, Result, Ok, Err}
use Rattle.sf_field.specs.Fields.{packet}
use Rattle.sf_request.specs.declared.request.WireRequest.{WireRequest}
use Rattle.sf_request.specs.Requests.{request_body, init_body}
use Rattle.sf_reply.specs.declared.reply.Reply.{Reply}
use Rattle.sf_reply.specs.Replies.{reply_body, ReplyFits}
use Rattle.sf_engine.specs.declared.event.Event.TheVariants as event
use Rattle.sf_engine.specs.declared.event.Happened.{Happened}
use Rattle.sf_engine.specs.declared.event.Happened.TheVariants as happened
use Rattle.sf_engine.specs.declared.event.EngineFault.{EngineFault}
use Rattle.sf_engine.specs.declared.event.EngineFault.TheVariants as engine
use Rattle.sf_engine.specs.Promise.{Entry}
use Rattle.sf_trees.specs.declared.fault.TreeFault.{TreeFault}
use Rattle.sf_trees.specs.declared.fault.TreeFault.TheVariants as fault
use Rattle.sf_trees.specs.Operations.{Operation, Begins, Asks, Ends}
use Rattle.sf_trees.specs.Lengths.{id, strings_of, most_strings}
use Rattle.sf_asking.specs.Askers.{AskerView}
use Rattle.sf_asking.specs.Logs.{EventLeads, FeedsBy, TurnsLead, HoldsOutput, HasNoSession}

-- the error for an engine's error
abbrev pub fault_for : EngineFault → TreeFault
fault_for engine.OutOfMemory = fault.OutOfMemory
fault_for engine.NoSuchSession = fault.Reply
fault_for engine.Sessions = fault.Sessions
fault_for engine.Ended = fault.Reply
fault_for engine.NumbersSpent = fault.NumbersSpent
fault_for engine.NotSent = fault.Reply

-- why turns with this result wrote no reply
abbrev pub stuck_by : Result Happened EngineFault → Option TreeFault
stuck_by (Ok happened.Wrote) = None
stuck_by (Ok (happened.Blocked call)) = Some fault.Blocked
stuck_by (Ok other) = Some fault.Reply
stuck_by (Err f) = Some (fault_for f)

-- memory to read the output ran out, or the output isn't a reply's packet
abbrev pub MayMissReply : List ℕ → TreeFault → Type 0
MayMissReply output why = (why ≡ fault.OutOfMemory) ⊎ ((why ≡ fault.Reply)
    × ((r : Reply) → ReplyFits r → length (reply_body id r) < 2 ^ 32
    → output ≡ packet (reply_body id r) → ⊥))

-- the number of a session that opened
abbrev pub session_opened : Result Happened EngineFault → Result ℕ TreeFault
session_opened (Ok (happened.Opened session)) = Ok session
session_opened (Ok other) = Err fault.Reply
session_opened (Err f) = Err (fault_for f)

module _ {E : Type 0} (has_log : E → List Entry → Type 0) where
  -- bytes were fed, and then turns of the session with this timestamp had this result
  pub record Turned (session moment : ℕ) (bytes : List ℕ) (old : E)
      (r : Result Happened EngineFault) (new : E) : Type 0 where
    pub fed : E
    pub happened : Happened
    pub feeds : FeedsBy has_log old session bytes (Ok happened) fed
    pub turns : TurnsLead has_log session moment fed r new

  -- Memory for the bytes ran out, or the engine rejected them.
  abbrev pub IsUnfed : ℕ → List ℕ → E → TreeFault → E → Type 0
  IsUnfed session bytes old why new = (new ≡ old) × ((why ≡ fault.OutOfMemory)
      ⊎ ((f : EngineFault) × FeedsBy has_log old session bytes (Err f) new × (why ≡ fault_for f)))

  -- Bytes were fed, and turns wrote a reply; or the error.
  abbrev pub Converses : ℕ → ℕ → List ℕ → E → Result (Unit {0}) TreeFault → E
      → Type 0
  Converses session moment bytes old (Ok done) new =
      Turned session moment bytes old (Ok happened.Wrote) new
  Converses session moment bytes old (Err why) new = IsUnfed session bytes old why new
      ⊎ ((r : Result Happened EngineFault) × Turned session moment bytes old r new
      × (stuck_by r ≡ Some why))

  -- a session's whole output was taken
  abbrev pub IsTaken : ℕ → List ℕ → E → E → Type 0
  IsTaken session output old new = HoldsOutput has_log old session output
      × ((h : Happened) × EventLeads has_log old (event.Sent session (length output)) (Ok h) new)

  -- The session is unknown, or the engine rejected the event `Sent`.
  abbrev pub IsUntaken : ℕ → E → TreeFault → E → Type 0
  IsUntaken session old why new = (HasNoSession has_log old session × (why ≡ fault.Reply))
      ⊎ ((n : ℕ) × (f : EngineFault) × EventLeads has_log old (event.Sent session n) (Err f) new
      × (why ≡ fault_for f))

  -- One reply was taken, which was the session's whole output; or nothing changed, and the error.
  abbrev pub Gets : ℕ → E → Result Reply TreeFault → E → Type 0
  Gets session old (Ok r) new = IsTaken session (packet (reply_body id r)) old new
  Gets session old (Err why) new = (new ≡ old)
      × (((output : List ℕ) × HoldsOutput has_log old session output × MayMissReply output why)
      ⊎ IsUntaken session old why new)

  -- A request's packet was fed, turns wrote its reply, and the reply was taken as the session's
  -- whole output.
  abbrev pub IsAnsweredBy : ℕ → ℕ → WireRequest → E → Reply → E → Type 0
  IsAnsweredBy session moment q old r new = (wrote : E)
      × Converses session moment (packet (request_body id q)) old (Ok tt) wrote
      × Gets session wrote (Ok r) new

  -- The request is too long, and nothing was done.
  abbrev pub IsTooLong : WireRequest → E → TreeFault → E → Type 0
  IsTooLong q old why new = (most_strings < strings_of q) × (why ≡ fault.Path) × (new ≡ old)

  abbrev pub HasNoAnswer : ℕ → ℕ → WireRequest → E → TreeFault → E → Type 0
  HasNoAnswer session moment q old why new = IsTooLong q old why new
      ⊎ (Converses session moment (packet (request_body id q)) old (Err why) new
      ⊎ ((wrote : E)
      × Converses session moment (packet (request_body id q)) old (Ok tt) wrote
      × Gets session wrote (Err why) new))

  abbrev pub TakesAll : ℕ → E → Result (Unit {0}) TreeFault → E → Type 0
  TakesAll session old (Ok done) new = (output : List ℕ) × IsTaken session output old new
  TakesAll session old (Err why) new = (new ≡ old) × IsUntaken session old why new

  -- INIT was fed, turns wrote its answer, and the session's whole output was taken.
  abbrev pub GreetsSession : ℕ → ℕ → E → E → Type 0
  GreetsSession session moment old new = (wrote : E)
      × Converses session moment (packet init_body) old (Ok tt) wrote
      × TakesAll session wrote (Ok tt) new

  abbrev pub IsUngreeted : ℕ → ℕ → E → TreeFault → E → Type 0
  IsUngreeted session moment old why new =
      Converses session moment (packet init_body) old (Err why) new
      ⊎ ((wrote : E) × Converses session moment (packet init_body) old (Ok tt) wrote
      × TakesAll session wrote (Err why) new)

  abbrev pub Greets : ℕ → ℕ → E → Result (Unit {0}) TreeFault → E → Type 0
  Greets session moment old (Ok done) new = GreetsSession session moment old new
  Greets session moment old (Err why) new = IsUngreeted session moment old why new

  -- A session was closed, if it was open, and then turns wrote its pending reply, if any.
  abbrev pub IsClosed : ℕ → ℕ → E → E → Type 0
  IsClosed session moment old new = (closed : E) × (outcome left : Result Happened EngineFault)
      × EventLeads has_log old (event.Close session) outcome closed
      × TurnsLead has_log session moment closed left new

  -- A session was initialized; or that failed, and it was closed.
  abbrev pub Welcomes : ℕ → ℕ → E → Result (Unit {0}) TreeFault → E → Type 0
  Welcomes session moment old (Ok done) new = GreetsSession session moment old new
  Welcomes session moment old (Err why) new = (left : E)
      × IsUngreeted session moment old why left × IsClosed session moment left new

  abbrev pub Opens : E → Result ℕ TreeFault → E → Type 0
  Opens old result new = (r : Result Happened EngineFault)
      × EventLeads has_log old event.Open r new × (result ≡ session_opened r)

  -- A session opened and was initialized; or either failed.
  abbrev pub OpensGreeted : ℕ → E → Result ℕ TreeFault → E → Type 0
  OpensGreeted moment old (Ok session) new = (opened : E) × Opens old (Ok session) opened
      × Welcomes session moment opened (Ok tt) new
  OpensGreeted moment old (Err why) new = Opens old (Err why) new
      ⊎ ((session : ℕ) × (opened : E) × Opens old (Ok session) opened
      × Welcomes session moment opened (Err why) new)

  -- each operation, by the engine's events
  abbrev pub IsDone : ℕ → Operation → E → E → Type 0
  IsDone moment (Begins outcome) old new = OpensGreeted moment old outcome new
  IsDone moment (Asks session q (Ok r)) old new = IsAnsweredBy session moment q old r new
  IsDone moment (Asks session q (Err why)) old new = HasNoAnswer session moment q old why new
  IsDone moment (Ends session) old new = IsClosed session moment old new

  -- all operations, one after the other
  unfoldable pub AreDone : ℕ → List Operation → E → E → Type 0
  AreDone moment [] old new = new ≡ old
  AreDone moment (operation ∷ operations) old new = (mid : E)
      × IsDone moment operation old mid × AreDone moment operations mid new

  abbrev pub Reaches : AskerView E → List Operation → AskerView E → Type 0
  Reaches old operations new = (new.moment ≡ old.moment)
      × AreDone old.moment operations old.engine new.engine
