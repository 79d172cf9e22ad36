use Rattle.std.proofs.Common.{◌≡◌, arith, subst}
use Rattle.std.specs.Prelude.{IfOk}
use Rattle.sf_workers.specs.Sessions.{HasTranscripts}
use Rattle.sf_workers.proofs.lines.serve_lines.Goals as goal

pub returns-clause-kept : goal.returns-clause-kept
returns-clause-kept g c =
    subst (λ k. IfOk c.conclude.result (λ o. HasTranscripts k o.sessions.value.items o.transcripts.items)) c.in_ok-all-2.ensures.keeps c.conclude.ensures.kept

pub returns-clause-parts : goal.returns-clause-parts
returns-clause-parts g c =
    let whole : c.in_ok-all-2.all.share.parts ≡ c.args.all.parts =
    omega (arith, c.in_ok-all-2.ensures.parts, c.in_ok-workers.ensures.rest.0, c.in_ok-all.ensures.workers, c.in_ok-workers.ensures.workers, c.requires.parts) in
    subst (λ n. IfOk c.conclude.result (λ o. o.share.parts ≡ n)) whole c.conclude.ensures.parts
