use Rattle.std.proofs.Common.{◌≡◌, ◌+◌, ◌≤◌, ℕ, List, Some, length, take, slice_get}
use Rattle.std.specs.Global.{Vec}
use Rattle.sf_engine.specs.Promise.{Entry, of_session, IsUnsent}
use Rattle.sf_engine.proofs.Outcomes.{IsLogOf}
use Rattle.sf_engine.proofs.promise.apply_all.Given as goal

abbrev pub invariant-events : goal.invariant-events
invariant-events g l = record {
  few : l.sessions ≤ l.event-index;
  log : (log : List Entry) × IsLogOf (take l.event-index l.events) l.results.items l.sessions log × g.E.Sftp.has_log l.engine log;
}

abbrev pub invariant-sessions : goal.invariant-sessions
invariant-sessions g l = record {
  count : length l.outputs.items ≡ l.session;
  log : (log : List Entry) × IsLogOf l.events l.results.items l.sessions log × g.E.Sftp.has_log l.engine log
      × ((i : ℕ) (output : Vec ℕ) → slice_get l.outputs.items i ≡ Some output → IsUnsent (of_session (i + 1) log).wrote (of_session (i + 1) log).sent output.items);
}
