use Rattle.std.proofs.Common.{◌≡◌, take}
use Rattle.std.specs.List.{flat_map}
use Rattle.sf_program.specs.Terminal.{terminal_byte}
use Rattle.sf_program.proofs.terminal.terminal_text.Given as goal

-- the bytes so far are shown
abbrev pub invariant-loop-byte : goal.invariant-loop-byte
invariant-loop-byte l = l.text.items ≡ flat_map (terminal_byte l.keeps) (take l.byte-index l.name)
