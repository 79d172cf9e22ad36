use Rattle.std.proofs.Common.{sym, subst}
use Rattle.std.specs.Io.KnownBytes.{WriteAppends}
use Rattle.sf_program.proofs.Carrying.{more_sent, kept_sent, front_sent, Sent}
use Rattle.sf_program.proofs.connection.write_all.Goals.{in-Ok, in-Err}
use Rattle.sf_program.proofs.connection.write_all.Goals as goal

pub returns-then-is_empty-clause-front : goal.returns-then-is_empty-clause-front
returns-then-is_empty-clause-front g c = front_sent _ _ _ _ c.loop.invariant

pub returns-clause-front : goal.returns-clause-front
returns-clause-front g c = front_sent _ _ _ _ c.loop.invariant

pub returns-in-Ok-eq0-clause-front : goal.returns-in-Ok-eq0-clause-front
returns-in-Ok-eq0-clause-front g c =
    let contents = g.W.Write.contents in
    let wrote = subst (λ r. WriteAppends (contents c.loop.to) (contents c.write.new.self) r c.loop.rest.now) c.in-Ok-eq0.is c.write.ensures.bytes in
    front_sent _ _ _ _ (more_sent _ _ _ _ c.loop.rest.now c.in-Ok-eq0.field-0 c.loop.invariant wrote)

pub returns-in-Err-2-clause-front : goal.returns-in-Err-2-clause-front
returns-in-Err-2-clause-front g c = front_sent _ _ _ _ (kept_sent _ _ _ _ c.loop.rest.now c.loop.invariant c.in-Err-2.ensures.bytes)

pub loop-preserved : goal.loop-preserved
loop-preserved g c =
    let contents = g.W.Write.contents in
    let a = contents c.args.to.now in
    let b = contents c.loop.to in
    let z = contents c.write.new.self in
    elim c.match-write.branch [
      | in-Ok w ↦ subst (λ r. Sent a z c.args.bytes.now r.now) (sym w.rest-is) (more_sent a b z c.args.bytes.now c.loop.rest.now w.in-Ok.n c.loop.invariant w.in-Ok.ensures.bytes)
      | in-Err w ↦ subst (λ r. Sent a z c.args.bytes.now r.now) (sym w.rest-is) (kept_sent a b z c.args.bytes.now c.loop.rest.now c.loop.invariant w.in-Err.ensures.bytes)
    ]
