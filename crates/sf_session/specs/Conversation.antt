-- A conversation: the input and output of a single session, stated only by bytes and timestamps.
use Rattle.std.specs.Prelude.{◌≡◌, ◌<◌, ◌≤◌, ◌+◌, ◌-◌, ◌⊎◌, ℕ, List, [], ◌∷◌, ◌++◌, length, map, false, Some, slice_get}
use Rattle.std.specs.List.{AllByRecursion, flat_map}
use Rattle.sf_field.specs.Fields.{packet}
use Rattle.sf_wire.specs.declared.cutting.Cut.TheVariants as cut
use Rattle.sf_wire.specs.Packets.{IsBody, IsCut}
use Rattle.sf_call.specs.declared.record.Record.{Record}
use Rattle.sf_call.specs.declared.record.Record.TheVariants.{Did, Left}
use Rattle.sf_call.specs.declared.fault.BeginFault.TheVariants as fault
use Rattle.sf_call.specs.Histories.{IsLegal}
use Rattle.sf_session.specs.declared.cause.Cause.{Cause}
use Rattle.sf_session.specs.declared.cause.Cause.TheVariants.{Closed}
use Rattle.sf_session.specs.Sessions.{EndsBy}
use Rattle.sf_session.specs.Responses.{most_calls, Response, Version, Locally, ByCall, Refused, ask_behind, transcript, has_begun, AreAsked, recorded_in, answered_in, Due, NothingDue, asked_due, recorded_due}

-- the record is of this session
abbrev pub IsBy : ℕ → Record → Type 0
IsBy session (Did number s moment request reply) = s ≡ session
IsBy session (Left s) = s ≡ session

-- a call is refused only if memory ran out or the maximum number of calls has begun
abbrev pub IsFair : (begun : ℕ) → Response → Type 0
IsFair begun (Refused id request fault.NumbersSpent) = most_calls ≤ begun
IsFair begun _ = Unit {0}

-- the n-th call has the n-th of these timestamps
abbrev pub IsAtItsTime : (times : List ℕ) → Record → Type 0
IsAtItsTime times (Did number s moment request reply) =
    (0 < number) × (slice_get times (number - 1) ≡ Some moment)
IsAtItsTime times (Left s) = Unit {0}

-- some of the numbers, in order
unfoldable pub IsSubsequence : (some all : List ℕ) → Type 0
IsSubsequence [] all = Unit {0}
IsSubsequence (x ∷ some) all =
    (before after : List ℕ) × (all ≡ before ++ x ∷ after) × IsSubsequence some after

-- The input is packets and a remainder. Each packet is answered in order; at most one reply is
-- pending. The output and the bytes not yet sent are the packets of the answers. The replies to
-- calls are those of one legal history of this session's calls, one record per call, in order. The
-- calls' timestamps are a subsequence of `moments`.
pub record IsConversation (input moments output : List ℕ) : Type 0 where
  pub session : ℕ
  pub history : List Record
  pub bodies : List (List ℕ)
  pub rest : List ℕ
  pub answers : List Response
  pub due : Due
  pub unsent : List ℕ
  pub are_bodies : AllByRecursion IsBody bodies
  pub read : input ≡ flat_map packet bodies ++ rest
  pub asked : AreAsked false bodies (map ask_behind answers ++ asked_due due)
  pub written : transcript answers ≡ output ++ unsent
  pub legal : IsLegal history
  pub alone : AllByRecursion (IsBy session) history
  pub calls : recorded_in session history ≡ answered_in answers ++ recorded_due due
  pub times : List ℕ
  pub told : IsSubsequence times moments
  pub timed : AllByRecursion (IsAtItsTime times) history
  pub fair : AllByRecursion (IsFair (length (answered_in answers) + length (asked_due due))) answers

-- A complete conversation: no reply is pending and all output was sent. The remaining input
-- explains the end: an incomplete packet if the input ended, otherwise bytes that end a session.
pub record IsWholeConversation (input moments output : List ℕ) (cause : Cause) : Type 0 where
  pub talk : IsConversation input moments output
  pub none_due : talk.due ≡ NothingDue
  pub all_sent : talk.unsent ≡ []
  pub end : ((cause ≡ Closed) × IsCut talk.rest cut.More)
      ⊎ EndsBy (has_begun talk.bodies) talk.rest cause
