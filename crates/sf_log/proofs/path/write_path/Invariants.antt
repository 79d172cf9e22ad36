use Rattle.std.proofs.Common.{take}
use Rattle.std.specs.Fmt.{HasWritten, IsPlainFormatter}
use Rattle.std.specs.List.{flat_map}
use Rattle.sf_path.specs.Names.{slashed}
use Rattle.sf_log.specs.Lines.{escaped}
use Rattle.sf_log.proofs.path.write_path.Given as goal

-- this many names were written
abbrev pub invariant-loop-i : goal.invariant-loop-i
invariant-loop-i g l =
    IsPlainFormatter l.initial.f → HasWritten g.W.Write.write_str_gives l.initial.f (flat_map escaped (flat_map slashed (take l.i l.path))) l.f
