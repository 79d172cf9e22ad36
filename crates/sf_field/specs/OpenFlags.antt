-- Open flags, decoded from and encoded as `pflags`.
use Rattle.std.specs.Prelude.{ℕ, ◌+◌, Bool, true, false, not}
use Rattle.sf_field.specs.declared.open_flags.OpenFlags.{OpenFlags}
use Rattle.sf_field.specs.Attributes.{lacks}

abbrev pub has : ℕ → ℕ → Bool
has bits flag = not (lacks bits flag)

abbrev pub open_flags : ℕ → OpenFlags
open_flags bits = record {
  read = has bits 0x1;
  write = has bits 0x2;
  append = has bits 0x4;
  create = has bits 0x8;
  truncate = has bits 0x10;
  exclusive = has bits 0x20;
}

-- encoding: the sum of the bits of the set flags
abbrev pub bit_of : ℕ → Bool → ℕ
bit_of flag true = flag
bit_of flag false = 0

abbrev pub bits_of : OpenFlags → ℕ
bits_of flags =
    bit_of 0x1 flags.read + bit_of 0x2 flags.write + bit_of 0x4 flags.append
    + bit_of 0x8 flags.create
    + bit_of 0x10 flags.truncate + bit_of 0x20 flags.exclusive
