use Rattle.std.proofs.Common.{◌-◌, length, subst, sym, ◌∙◌, rules}
use Rattle.std.specs.Io.KnownBytes.{Consumes}
use Rattle.std.proofs.KnownBytes.{Consumes-trans}
use Rattle.sf_loading.proofs.Filling.{taken_more}
use Rattle.sf_loading.proofs.line_server.fill.Goals as goal

pub loop-filled-preserved : goal.loop-filled-preserved
loop-filled-preserved g c =
    let from = c.loop-filled.filled in
    let room = length c.loop-filled.buffer - from in
    let read = c.in_ok-n.ensures in (
      search rules,
      search rules,
      subst (Consumes _ _) (sym (taken_more from room c.in_ok-n.n c.loop-filled.buffer c.read.new.buffer c.loop-filled.invariant.0 read.within)) (Consumes-trans _ _ _ _ _ c.loop-filled.invariant.2 read.taken),
      read.outgoing ∙ c.loop-filled.invariant.3,
    )
