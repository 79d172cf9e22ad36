-- No public clause cites this module.
-- The memory that C owns.
use Rattle.std.specs.Prelude.{Option, Some, None}
use Rattle.std.specs.Box.Ownership.{box_owns}
use mir.Syntax.{Ty}
use denote.RattleType.{RattleType}
use denote.RawPtr.{Ptr}
use base.Fml.{Fml, ftrue}

-- a box at a pointer, with the right to free it, if there is one
abbrev pub box_owned : (Ty → Ptr → Fml) → (R : RattleType) → Ptr → Option R.Denot → Fml
box_owned frees R at None = ftrue
box_owned frees R at (Some x) = box_owns frees R at x
