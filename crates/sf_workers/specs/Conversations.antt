-- A conversation in a history: what one session on a core was fed and is sent.
use Rattle.std.specs.Prelude.{◌≡◌, ℕ, List, ◌++◌, map, false}
use Rattle.std.specs.List.{AllByRecursion, flat_map}
use Rattle.std.specs.Io.KnownBytes.{Appends, Consumes}
use Rattle.sf_field.specs.Fields.{packet}
use Rattle.sf_wire.specs.Packets.{IsBody}
use Rattle.sf_call.specs.declared.record.Record.{Record}
use Rattle.sf_session.specs.Responses.{Response, ask_behind, transcript, AreAsked, recorded_in, answered_in, Due, asked_due, recorded_due}
use Rattle.sf_connection.specs.Streams.{StreamView}

-- The input is packets and a rest. Each packet's body was answered what it asks for, in order, but
-- for one at most, whose reply is due. The output is the answers' packets, but for those that are
-- not sent. The session's calls in the history are those among its answers, one for one, in order,
-- and at most one more, whose reply is due.
pub record IsConversationIn (history : List Record) (session : ℕ)
    (input output : List ℕ) : Type 0 where
  pub bodies : List (List ℕ)
  pub rest : List ℕ
  pub answers : List Response
  pub due : Due
  pub unsent : List ℕ
  pub are_bodies : AllByRecursion IsBody bodies
  pub read : input ≡ flat_map packet bodies ++ rest
  pub asked : AreAsked false bodies (map ask_behind answers ++ asked_due due)
  pub written : transcript answers ≡ output ++ unsent
  pub calls : recorded_in session history ≡ answered_in answers ++ recorded_due due

-- so much was read from a stream and written to it, and that is the session's conversation
abbrev pub ConversesIn : List Record → ℕ → (from to : StreamView) → Type 0
ConversesIn history session from to = (read written : List ℕ)
    × Consumes from.incoming to.incoming read × Appends from.outgoing to.outgoing written
    × IsConversationIn history session read written
