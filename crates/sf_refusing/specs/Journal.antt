-- The journal: all events in order, and its projections.
use Rattle.std.specs.Prelude.{◌+◌, ℕ, zero, suc, nat_eq, nat_lt, List, [], ◌∷◌, Bool, false, not, ◌&&◌, if◌then◌else◌, Option, Some, None}
use Rattle.std.specs.List.{flat_map, sum_by}
use Rattle.sf_field.specs.Fields.{packet}
use Rattle.sf_request.specs.declared.request.Asked.{Asked}
use Rattle.sf_request.specs.declared.request.Asked.TheVariants.{Request}
use Rattle.sf_reply.specs.declared.reply.StatusCode.{StatusCode}
use Rattle.sf_reply.specs.declared.reply.Reply.TheVariants.{Status}
use Rattle.sf_reply.specs.Replies.{reply_body}
use Rattle.sf_session.specs.Responses.{Response, transcript, if_so}
use Rattle.sf_engine.specs.Promise.{Entry, BytesFed, ReplyWritten, BytesSent, session_of}
use Rattle.sf_refusing.specs.declared.rule.Rule.{Rule}
use Rattle.sf_refusing.specs.Rules.{is_for}

-- a packet of a session, and what its body asks for
pub record Packet : Type 0 where
  pub session : ℕ
  pub body : List ℕ
  pub asked : Asked

-- The events. `Ruled`: a rule is added. `Received`: bytes come in for a session. `Delivered`: bytes
-- of its output were sent. `Made`: an event of the engine. `Apart`: an event that was made on the
-- engine directly. `PassedOn`: a packet was fed to the engine. `RefusedBy`: the rule with this
-- number refused the request with this id. The engine's output for the session was moved here
-- before, by its event `Sent`, so that the status follows it.
pub data Act : Type 0 where
  Ruled : (rule : Rule) → Act
  Received : (session : ℕ) → (bytes : List ℕ) → Act
  Delivered : (session count : ℕ) → Act
  Made : (entry : Entry) → Act
  Apart : (entry : Entry) → Act
  PassedOn : (packet : Packet) → (entry : Entry) → Act
  RefusedBy : (packet : Packet) → (id number : ℕ) → (code : StatusCode) → (entry : Entry) → Act

-- ---- the engine

abbrev pub logged : Act → List Entry
logged (Made e) = e ∷ []
logged (Apart e) = e ∷ []
logged (PassedOn p e) = e ∷ []
logged (RefusedBy p id number code e) = e ∷ []
logged act = []

-- the engine's log
abbrev pub log_of : List Act → List Entry
log_of journal = flat_map logged journal

-- ---- one entry of the log

abbrev pub bytes_fed : Entry → List ℕ
bytes_fed (BytesFed s bytes) = bytes.items
bytes_fed x = []

abbrev pub replies_written : Entry → List Response
replies_written (ReplyWritten s moment reply leaves) = reply ∷ []
replies_written x = []

abbrev pub bytes_sent : Entry → ℕ
bytes_sent (BytesSent s n) = n
bytes_sent x = 0

-- the same, if the entry is of this session
abbrev pub fed_by : ℕ → Entry → List ℕ
fed_by session x = if_so (nat_eq (session_of x) session) (bytes_fed x)

abbrev pub written_by : ℕ → Entry → List Response
written_by session x = if_so (nat_eq (session_of x) session) (replies_written x)

abbrev pub sent_at : ℕ → Entry → ℕ
sent_at session x = if nat_eq (session_of x) session then bytes_sent x else 0

-- ---- one session

-- the bytes that it received
abbrev pub received_by : ℕ → Act → List ℕ
received_by session (Received s bytes) = if_so (nat_eq s session) bytes
received_by session act = []

abbrev pub received_in : ℕ → List Act → List ℕ
received_in session journal = flat_map (received_by session) journal

-- the bytes of these that the engine was fed, and the packets that were refused
abbrev pub taken_by : ℕ → Act → List ℕ
taken_by session (Made e) = fed_by session e
taken_by session (PassedOn p e) = fed_by session e
taken_by session (RefusedBy p id number code e) = if_so (nat_eq p.session session) (packet p.body)
taken_by session act = []

abbrev pub taken_in : ℕ → List Act → List ℕ
taken_in session journal = flat_map (taken_by session) journal

-- its output: the engine's replies, and the statuses of refused requests
abbrev pub sent_by : ℕ → Act → List ℕ
sent_by session (Made e) = transcript (written_by session e)
sent_by session (Apart e) = transcript (written_by session e)
sent_by session (PassedOn p e) = transcript (written_by session e)
sent_by session (RefusedBy p id number code e) =
    if_so (nat_eq p.session session) (packet (reply_body id (Status code)))
sent_by session act = []

abbrev pub sent_in : ℕ → List Act → List ℕ
sent_in session journal = flat_map (sent_by session) journal

-- the number of bytes of its output that were sent
abbrev pub delivered_by : ℕ → Act → ℕ
delivered_by session (Delivered s count) = if nat_eq s session then count else 0
delivered_by session act = 0

abbrev pub delivered_in : ℕ → List Act → ℕ
delivered_in session journal = sum_by (delivered_by session) journal

-- ---- one rule

-- the rules that were added, in order
abbrev pub ruled : Act → List Rule
ruled (Ruled rule) = rule ∷ []
ruled act = []

abbrev pub rules_in : List Act → List Rule
rules_in journal = flat_map ruled journal

-- The rule with this number (0, 1, 2 and so on), and the events since it was added.
abbrev pub since_given : List Act → ℕ → Option (Rule × List Act)
since_given [] number = None
since_given (Ruled rule ∷ journal) zero = Some (rule, journal)
since_given (Ruled rule ∷ journal) (suc number) = since_given journal number
since_given (act ∷ journal) number = since_given journal number

-- whether a rule matches what a packet asks for
abbrev pub fits_asked : Rule → ℕ → Asked → Bool
fits_asked rule session (Request id request) = is_for rule session request
fits_asked rule session asked = false

abbrev pub fits_packet : Rule → Packet → Bool
fits_packet rule p = fits_asked rule p.session p.asked

-- A rule counts a matching packet, unless an earlier rule refuses that.
abbrev pub counts : ℕ → Rule → Act → ℕ
counts number rule (PassedOn p e) = if fits_packet rule p then 1 else 0
counts number rule (RefusedBy p id by code e) =
    if not (nat_lt by number) && fits_packet rule p then 1 else 0
counts number rule act = 0

abbrev pub count_since : ℕ → Rule → List Act → ℕ
count_since number rule since = sum_by (counts number rule) since

-- the number of requests that it refused
abbrev pub refused_by : ℕ → Act → ℕ
refused_by number (RefusedBy p id by code e) = if nat_eq by number then 1 else 0
refused_by number act = 0

abbrev pub refused_in : ℕ → List Act → ℕ
refused_in number since = sum_by (refused_by number) since

-- whether a rule that has counted `count` requests refuses the next one that it counts
abbrev pub is_refusing : Rule → ℕ → Bool
is_refusing rule count = not (nat_lt count rule.pass) && nat_lt count (rule.pass + rule.refuse)

abbrev pub refuses_since : ℕ → Packet → Option (Rule × List Act) → Bool
refuses_since number p None = false
refuses_since number p (Some given) =
    fits_packet given.0 p && is_refusing given.0 (count_since number given.0 given.1)

-- whether the rule with this number refuses this packet next
abbrev pub rule_refuses : List Act → ℕ → Packet → Bool
rule_refuses journal number p = refuses_since number p (since_given journal number)
