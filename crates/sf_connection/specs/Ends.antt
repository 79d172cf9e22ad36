-- How a session ends: all of its input was answered.
use Rattle.std.specs.Prelude.{◌≡◌, ◌⊎◌, ℕ, List, ◌++◌, Bool, false, map}
use Rattle.std.specs.List.{flat_map, AllByRecursion}
use Rattle.sf_field.specs.Fields.{packet}
use Rattle.sf_wire.specs.declared.cutting.Cut.TheVariants as cut
use Rattle.sf_wire.specs.Packets.{IsBody, IsCut}
use Rattle.sf_session.specs.declared.cause.Cause.{Cause}
use Rattle.sf_session.specs.declared.cause.Cause.TheVariants.{Closed}
use Rattle.sf_session.specs.Sessions.{EndsBy}
use Rattle.sf_session.specs.Responses.{ask_behind, has_begun, AreAsked}
use Rattle.sf_session.specs.SessionStates.{Gone, SessionState}

-- The end of the input: an incomplete packet, or bytes that begin with a wrong length or with a
-- packet that ends the session.
abbrev pub IsEnd : Bool → List ℕ → Cause → Type 0
IsEnd begun rest cause = ((cause ≡ Closed) × IsCut rest cut.More) ⊎ EndsBy begun rest cause

-- The session has ended for this cause. Its stream is packets, each answered as it requires, and
-- the end.
pub record IsWhole (t : SessionState) (cause : Cause) : Type 0 where
  pub left : t.phase ≡ Gone cause
  pub rest : List ℕ
  pub are_bodies : AllByRecursion IsBody t.bodies
  pub stream : t.stream ≡ flat_map packet t.bodies ++ rest
  pub end : IsEnd (has_begun t.bodies) rest cause
  pub asked : AreAsked false t.bodies (map ask_behind t.answers)
