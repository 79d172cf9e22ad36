-- The input, output and timestamps of a single session, served over a stream.
use Rattle.std.specs.Prelude.{◌≡◌, ℕ, List, Option, Result, Ok, Err}
use Rattle.std.specs.Io.KnownBytes.{Appends, Consumes, IsAtEnd}
use Rattle.sf_session.specs.declared.cause.Cause.{Cause}
use Rattle.sf_session.specs.declared.cause.Cause.TheVariants.{Closed}
use Rattle.sf_session.specs.declared.fault.ServeFault.{ServeFault}
use Rattle.sf_session.specs.Conversation.{IsConversation, IsWholeConversation}

-- a stream's input not yet read, the timestamps read from a clock, and the stream's output,
-- if exposed
pub record TalkView : Type 0 where
  pub incoming : Option (List ℕ)
  pub told : Option (List ℕ)
  pub outgoing : Option (List ℕ)

abbrev pub talk_view : Option (List ℕ) → Option (List ℕ) → Option (List ℕ) → TalkView
talk_view incoming told outgoing =
    record { incoming = incoming; told = told; outgoing = outgoing }

-- these bytes were read, these timestamps read from the clock, and these bytes written
pub record Passes (start now : TalkView) (read moments written : List ℕ) : Type 0 where
  pub was_read : Consumes start.incoming now.incoming read
  pub was_told : Appends start.told now.told moments
  pub was_written : Appends start.outgoing now.outgoing written

-- On success a complete conversation took place, up to the end of the input unless something else
-- ended it. On an error a conversation took place.
abbrev pub ConversesTo : TalkView → TalkView → Result Cause ServeFault → Type 0
ConversesTo start now (Ok cause) = (read moments written : List ℕ)
    × Passes start now read moments written × IsWholeConversation read moments written cause
    × (cause ≡ Closed → IsAtEnd now.incoming)
ConversesTo start now (Err fault) = (read moments written : List ℕ)
    × Passes start now read moments written × IsConversation read moments written
