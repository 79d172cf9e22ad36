use Rattle.std.proofs.Common.{inr, refl}
use Rattle.sf_alone.specs.OnEngine.{io_state}
use Rattle.sf_alone.specs.Talks.{talk_view}
use Rattle.sf_alone.proofs.Laws.{says_nothing}
use Rattle.sf_program.proofs.Talks.{comes_talked}
use Rattle.sf_program.proofs.stdio.serve.Goals as goal

pub returns-in-Ok-clause-ends : goal.returns-in-Ok-clause-ends
returns-in-Ok-clause-ends g c = inr (_, _, c.in-Ok.ensures.log, c.in-Ok.ensures.keep, c.serve_on.ensures)

pub returns-in-Ok-clause-talk : goal.returns-in-Ok-clause-talk
returns-in-Ok-clause-talk g c =
    let from = io_state (g.S.Stream.view c.args.stream) (g.S.Stream.waits c.args.stream) (g.C.Clock.moments c.args.clock.now) c.in-Ok.engine in
    let last = c.serve_on.result.1 in
    let to = io_state (g.S.Stream.view last) (g.S.Stream.waits last) (g.C.Clock.moments c.serve_on.new.clock) c.serve_on.new.engine in
    comes_talked from to c.serve_on.result.0 c.in-Ok.ensures.log c.serve_on.ensures

pub returns-in-Err-clause-talk : goal.returns-in-Err-clause-talk
returns-in-Err-clause-talk g c =
    let now = g.S.Stream.view c.args.stream in
    says_nothing (talk_view now.incoming (g.C.Clock.moments c.args.clock.now) now.outgoing) _ refl
