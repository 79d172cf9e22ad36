use Rattle.std.proofs.Common.{sym, ◌∙◌, subst}
use Rattle.sf_workers.specs.Streams.{ServesEach}
use Rattle.sf_workers.proofs.Receiving.{each_of}
use Rattle.sf_workers.proofs.workers.work_on_channel.Goals as goal

pub returns-clause-each : goal.returns-clause-each
returns-clause-each g c =
    subst (λ n. ServesEach n c.work-served.result.sessions.visits.items) (sym c.into_receipts.ensures)
    (each_of g.L.Stream.view _ _ _ c.work-served.ensures.streams (c.new-source.ensures ∙ c.args.worker.no_streams))
