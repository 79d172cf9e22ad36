use Rattle.std.proofs.Common.{[], refl, sym, ap, ◌∙◌, subst}
use Rattle.std.specs.Prelude.{map}
use Rattle.sf_pool.proofs.Laws.{notes_none}
use Rattle.sf_workers.specs.LaneSessions.{IsOpenSession, keeps_calls, stream_before}
use Rattle.sf_workers.specs.Streams.{ServesSource}
use Rattle.sf_workers.proofs.Receiving.{none_go_on, source_same, source_then}
use Rattle.sf_workers.proofs.workers.work.Goals as goal

pub loop-init : goal.loop-init
loop-init g c =
    let none = c.none-connections.ensures in
    record {
      keeps = none.keeps;
      room = c.args.job.room;
      going = none_go_on (IsOpenSession g.L.Stream.view) keeps_calls _ _ none.active;
      streams = source_same g.L.Stream.view _ _ _ _ _ _ (notes_none _ _ refl) refl refl (ap (map stream_before) none.active) none.visits;
    }

pub loop-preserved : goal.loop-preserved
loop-preserved g c =
    let i = c.loop.invariant in
    let handled = c.handle_next.ensures in
    record {
      keeps = handled.keeps ∙ i.keeps;
      room = i.room;
      going = handled.going;
      streams = source_then g.L.Stream.view _ _ _ _ _ _ _ _ _ i.streams handled.streams;
    }

pub loop-preserved-in-Some-take : goal.loop-preserved-in-Some-take
loop-preserved-in-Some-take g c =
    let i = c.loop.invariant in
    let handled = c.handle_next.ensures in
    let advanced = c.advance.ensures in
    record {
      keeps = advanced.keeps ∙ handled.keeps ∙ i.keeps;
      room = advanced.len ∙ i.room;
      going = advanced.going;
      streams = source_then g.L.Stream.view _ _ _ _ _ _ _ _ _ (source_then g.L.Stream.view _ _ _ _ _ _ _ _ _ i.streams handled.streams) advanced.streams;
    }

pub returns-then-are_closed-clause-streams : goal.returns-then-are_closed-clause-streams
returns-then-are_closed-clause-streams g c =
    let none = c.are_closed.ensures c.if-are_closed.true in
    let v = g.S.StreamSource.view c.args.source.now in
    let v' = g.S.StreamSource.view c.loop.source in
    subst (λ s. ServesSource g.L.Stream.view v v' [] [] [] s.visits.items) (sym c.served_by.ensures)
    (subst (λ vs. ServesSource g.L.Stream.view v v' [] (map stream_before vs) [] c.loop.connections.sessions.visits.items) none c.loop.invariant.streams)
