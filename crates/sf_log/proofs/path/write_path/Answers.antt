use Rattle.std.proofs.Common.{ℕ, List, subst, rules}
use Rattle.std.proofs.Output.{has_written_append, has_written_of_eq}
use Rattle.std.specs.List.{flat_map}
use Rattle.std.specs.Fmt.{HasWritten}
use Rattle.sf_path.specs.Names.{slashed}
use Rattle.sf_log.specs.Lines.{escaped}
use Rattle.sf_log.proofs.Texts.{one_more}
use Rattle.sf_log.proofs.path.write_path.Goals as goal

pub loop-i-preserved : goal.loop-i-preserved
loop-i-preserved g c = λ plain.
    has_written_of_eq _ _ _ _ _ (one_more c.args.path.now c.loop-i.i c.name.result.now (search rules) c.name.ensures)
    (has_written_append _ _ _ _ _ _ (c.loop-i.invariant plain)
    (subst (λ (n : List ℕ). HasWritten g.W.Write.write_str_gives c.loop-i.f (flat_map escaped (slashed n)) c.write_name.new.f) c.as_slice.ensures.bytes (search rules)))
