use Rattle.std.proofs.Common.{[], inl, ap, sym, subst}
use Rattle.sf_session.specs.SessionStates.{new_state}
use Rattle.sf_session.specs.declared.fault.ServeFault.{ServeFault}
use Rattle.sf_engine.specs.Views.{EngineView}
use Rattle.sf_connection.specs.Progress.{progress}
use Rattle.sf_alone.specs.OnEngine.{MayNotOpen, engine_held, io_state, since_at}
use Rattle.sf_alone.proofs.Hosting.{WasServed, opened_by, not_opened, serves_line, stops_early}
use Rattle.sf_alone.proofs.on_engine.serve_one.Goals as goal

pub returns-in-Err-clause-stopped : goal.returns-in-Err-clause-stopped
returns-in-Err-clause-stopped g c = λ log has. inl (
  ap (λ (e : EngineView). io_state (g.S.Stream.view c.args.stream) (g.S.Stream.waits c.args.stream) (g.C.Clock.moments c.args.clock.now) e) c.in-Err.ensures.err,
  subst (λ (f : ServeFault). MayNotOpen log f) (sym c.from.ensures) (not_opened _ c.open.new.self c.in-Err.refusal c.in-Err.ensures.log log has),
)

pub returns : goal.returns
returns g c =
    let new = progress new_state [] [] in
    let first = c.new-connection.result in
    let last = c.serve-outcome.new.self in
    let outcome = c.serve-outcome.result in
    let told = g.C.Clock.moments c.args.clock.now in
    let told' = g.C.Clock.moments c.serve-outcome.new.clock in
    let engine = c.args.engine.now in
    let engine' = c.serve-outcome.new.place in
    let at = λ (s : g.row.S.Denot). io_state (g.S.Stream.view s) (g.S.Stream.waits s) told engine in
    let at' = λ (s : g.row.S.Denot). io_state (g.S.Stream.view s) (g.S.Stream.waits s) told' engine' in
    let served : WasServed last new (at first.stream) (at' last.stream) last.host.turns last.host.session outcome = λ log has.
    let start = since_at (at first.stream) log has in
    let view = g.S.Stream.view first.stream in
    let t = c.serve-outcome.ensures.served start view new (opened_by start c.open.new.self c.in-Ok-open.session _ _ (ap (λ h. h.turns) c.new-connection.ensures.host) (ap (λ h. h.session) c.new-connection.ensures.host) c.in-Ok-open.ensures.log)
    (c.new-connection.ensures.begins engine_held _ view) in
    (t.0, t.1, t.2.1, t.2.0) in
    let on : WasServed last new (at first.stream) (at' c.into_parts-stream.result.1) last.host.turns last.host.session outcome =
    subst (λ (s : g.row.S.Denot). WasServed last new (at first.stream) (at' s) last.host.turns last.host.session outcome) (sym c.into_parts-stream.ensures.stream) served in
    let was = subst (λ (s : g.row.S.Denot). WasServed last new (at s) (at' c.into_parts-stream.result.1) last.host.turns last.host.session outcome) c.new-connection.ensures.stream on in
    record {
      served = serves_line last new (at c.args.stream) (at' c.into_parts-stream.result.1) last.host.turns last.host.session outcome was;
      stopped = stops_early last new (at c.args.stream) (at' c.into_parts-stream.result.1) last.host.turns last.host.session outcome was;
    }
