-- No public clause cites this module.
-- Framing, computed from left to right.
use Rattle.std.specs.Prelude.{ℕ, ◌+◌, List, length, Option, Some, None, nat_lt, ◌==◌, if◌then◌else◌}
use Rattle.std.specs.Int.{w32}
use Rattle.sf_field.specs.Fields.{max_body}
use Rattle.sf_wire.specs.declared.cutting.Cut.{Cut}
use Rattle.sf_wire.specs.declared.cutting.Cut.TheVariants.{Whole, More, Bad}
use Rattle.sf_wire.specs.declared.cutting.BadCut.TheVariants.{ZeroLength, TooLong}
use Rattle.sf_field.specs.Reading.{number_at}

-- the first packet of a stream
abbrev pub cut_by : Option (ℕ × List ℕ) → Cut
cut_by None = More
cut_by (Some n) =
    if n.0 == 0 then Bad ZeroLength
    else if nat_lt max_body n.0 then Bad TooLong
    else if nat_lt (length n.1) n.0 then More
    else Whole (4 + n.0)

abbrev pub cut_of : List ℕ → Cut
cut_of bytes = cut_by (number_at w32 bytes)
