use Rattle.std.proofs.Common.{◌≡◌, [], Ok, refl, sym, ap, ◌∙◌, subst, arith}
use Rattle.std.specs.Io.KnownBytes.{Appends, ReadConsumes}
use Rattle.std.proofs.KnownBytes.{Appends-nil, Consumes-whole}
use Rattle.sf_program.proofs.Carrying.{Carried, none_carried, more_carried, kept_carried, front_carried, more_front}
use Rattle.sf_program.proofs.connection.carry.Goals.{in-Ok+in_ok-write_all-in-Ok, in-Err}
use Rattle.sf_program.proofs.connection.carry.Goals as goal

pub loop-init : goal.loop-init
loop-init g c = record { room = omega (arith, c.in_ok-buffer.ensures.len, c.as_mut_slice-piece.ensures.len); carried = none_carried _ _ }

pub returns-clause-front : goal.returns-clause-front
returns-clause-front g c = front_carried c.loop.invariant.carried

pub returns-in-Err-2-clause-front : goal.returns-in-Err-2-clause-front
returns-in-Err-2-clause-front g c = front_carried (kept_carried _ c.loop.invariant.carried c.in-Err-2.ensures.bytes)

pub returns-in_err-write_all-in-Ok-clause-front : goal.returns-in_err-write_all-in-Ok-clause-front
returns-in_err-write_all-in-Ok-clause-front g c = more_front _ _ _ c.loop.invariant.carried c.in-Ok.ensures.bytes.0 c.write_all.ensures.front

pub returns-in-Ok-eq0 : goal.returns-in-Ok-eq0
returns-in-Ok-eq0 g c =
    let a = g.R.Read.remaining c.args.from.now in
    let b = g.R.Read.remaining c.loop.from in
    let y = g.R.Read.remaining c.read.new.self in
    let p = g.W.Write.contents c.args.to.now in
    let q = g.W.Write.contents c.loop.to in
    let is : c.read.result ≡ Ok 0 = c.in-Ok-eq0.is ∙ ap Ok c.in-Ok-eq0.field-0-test in
    let (none, end) = subst (λ r. ReadConsumes b y r c.read.new.buf) is c.read.ensures.bytes in
    let ended = end refl (omega (arith, c.loop.invariant.room, c.read.auto.buf)) in
    let carried = more_carried y q [] c.loop.invariant.carried none (Appends-nil q) in
    record { all = Consumes-whole a y carried.given (Appends p q) carried.read ended carried.wrote; ended = ended; retried = tt; front = front_carried carried }

pub loop-preserved : goal.loop-preserved
loop-preserved g c =
    let remaining = g.R.Read.remaining in
    let contents = g.W.Write.contents in
    let a = remaining c.args.from.now in
    let b = remaining c.loop.from in
    let y = remaining c.read.new.self in
    let p = contents c.args.to.now in
    let q = contents c.loop.to in
    let carried : Carried a y p (contents c.match-read.to) = elim c.match-read.branch [
      | in-Ok+in_ok-write_all-in-Ok w ↦ subst (λ t. Carried a y p (contents t)) (sym w.to-is) (more_carried y _ _ c.loop.invariant.carried w.in-Ok.ensures.bytes.0 w.in_ok-write_all-in-Ok.ensures.all)
      | in-Err w ↦ subst (λ t. Carried a y p (contents t)) (sym w.to-is) (kept_carried y c.loop.invariant.carried w.in-Err.ensures.bytes)
    ] in
    record { room = omega (arith, c.loop.invariant.room, c.read.auto.buf); carried = carried }
