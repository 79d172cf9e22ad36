-- A session joins.
use Rattle.std.specs.Prelude.{◌≡◌, ◌<◌, ◌+◌, ℕ, List, length, Some, None, refl}
use Rattle.std.proofs.Common.{sym, ap, subst, ◌∙◌, arith}
use Rattle.sf_call.specs.declared.call.Call.{Call}
use Rattle.sf_call.specs.declared.record.Record.{Record}
use Rattle.sf_call.specs.Histories.{replay}
use Rattle.sf_book.specs.Books.{BookView}
use Rattle.sf_inode.specs.Stores.{StoreState}
use Rattle.sf_keeps.specs.Keeps.{Keeps}
use Rattle.sf_coupling.specs.Walks.{walkers_at, AreWalks}
use Rattle.sf_walk.specs.Routes.{namespace}
use Rattle.sf_core.specs.Cores.{call_at, session_at, lane_state_by, last_number, most_sessions}
use Rattle.sf_core.specs.Progress.{undecided_in}
use Rattle.sf_core.specs.Parts.{PartsView, core_of}
use Rattle.sf_core.specs.Sound.{walker_of, held_paths_in, Sound}
use Rattle.sf_core.specs.Stepping.{JoinState}
use Rattle.sf_core.proofs.Maps.{no_value, some_eq, none_some}
use Rattle.sf_core.proofs.Updates.{Updates, updates_nothing}
use Rattle.sf_core.specs.Events.{Joins}
use Rattle.sf_core.proofs.LaneStates.{slot_idle, slot_kept, same_records}
use Rattle.sf_core.proofs.Histories.{IsWritten, history_changed}
use Rattle.sf_core.proofs.Ledgers.{ledger_changed}
use Rattle.sf_core.proofs.Writers.{copied_same}
use Rattle.sf_core.proofs.Starting.{updates_put, undecided_few, no_call, has_call}

module _ (p q : PartsView) (h : List Record) (sound : Sound p h) (joined : JoinState p q) (unspent : p.joins < last_number) (fewer : length p.sessions < most_sessions) where
  none_yet : session_at p.sessions (p.joins + 1) ≡ None
  none_yet = no_value (session_at p.sessions (p.joins + 1)) (λ d e. let m = (sound.ledger.sessions (p.joins + 1) d e).most in omega (arith, m))

  sessions : Updates p.sessions q.sessions (p.joins + 1) None (Some None)
  sessions = subst (λ ss. Updates p.sessions ss (p.joins + 1) None (Some None)) (sym joined.sessions) (updates_put p.sessions (p.joins + 1) None none_yet)

  calls : Updates p.calls q.calls (p.drawn + 1) None None
  calls = subst (λ cs. Updates p.calls cs (p.drawn + 1) None None) (sym joined.calls) (updates_nothing p.calls (p.drawn + 1) (no_call p sound.ledger))

  still : (m : ℕ) (d : Call) → call_at q.calls m ≡ Some d → call_at p.calls m ≡ Some d
  still m d at = ap (λ cs. call_at cs m) (sym joined.calls) ∙ at

  pub joined_sound : Sound q h
  joined_sound = let is = sound.history in record {
    history =
        history_changed p q h h is (p.drawn + 1) (p.joins + 1) None None None (Some None) calls sessions is.legal
        (subst (λ (b : BookView). IsWritten b h) (sym joined.book) (record { records = is.records; folded = is.folded })) (subst (λ (s : StoreState). Keeps s (replay h)) (sym joined.store) is.tree)
        (let a = is.counted in let d = joined.drawn in let e = ap (λ cs. undecided_in cs) joined.calls in omega (arith, a, d, e)) (λ r a. a) (λ m ne k. k) (λ d e none. absurd (none_some d e)) (λ d g e some. absurd (none_some d e))
        (λ m less. let d = joined.drawn in is.later m (omega (arith, less, d))) (λ s ne k. k) (λ o e. is.newcomers (p.joins + 1) (omega arith)) (λ s less. let d = joined.joins in is.newcomers s (omega (arith, less, d)))
        (let b = sessions.size in omega (arith, fewer, b));
    coupled = record {
      walks =
          subst (λ (s : StoreState). AreWalks (walkers_at (namespace s) (held_paths_in q.calls) (walker_of s.nodes))) (sym joined.store)
          (subst (λ cs. AreWalks (walkers_at (namespace p.store) (held_paths_in cs) (walker_of p.store.nodes))) (sym joined.calls) sound.coupled.walks);
      positions = λ m d at. sound.coupled.positions m d (still m d at);
      waiting = λ m d g at some. sound.coupled.waiting m d g (still m d at) some;
    };
    copied = copied_same p q sound.copied joined.store joined.calls;
    ledger =
        ledger_changed p q sound.ledger (p.drawn + 1) (p.joins + 1) None None None (Some None) calls sessions
        (λ m d ne at e. none_some (Some m) (sym none_yet ∙ ap (session_at p.sessions) (sym e) ∙ (sound.ledger.calls m d at).session))
        (has_call p sound.ledger (p.joins + 1))
        (λ d is. absurd (none_some d is))
        (λ o is. record { above = omega arith; most = let a = joined.joins in omega (arith, a); busy = λ m i. absurd (none_some m (some_eq None o is ∙ i)) })
        (let a = joined.drawn in omega (arith, a)) (let a = joined.joins in omega (arith, a)) (let a = sound.ledger.drawn_fits in let b = joined.drawn in omega (arith, a, b)) (let a = joined.joins in omega (arith, a, unspent))
        (let a = joined.room in let b = sessions.size in let d = undecided_few p.calls in let e = ap (λ cs. undecided_in cs) joined.calls in omega (arith, a, b, d, e));
  }

  pub joined_told : Joins (core_of p) (core_of q)
  joined_told = record {
    few = fewer;
    unspent = unspent;
    was = ap (lane_state_by p.calls) none_yet;
    own = slot_idle (core_of q) (p.joins + 1) sessions.now_is;
    others = λ s ne. slot_kept (core_of p) (core_of q) s (session_at p.sessions s) refl (sessions.rest s ne) (λ m e. ap (λ cs. call_at cs m) joined.calls);
    joined = let e = sessions.size in omega (arith, e);
    joins = joined.joins;
    records = same_records p q joined.book;
    drawn = joined.drawn;
    look_ups = ap (λ (x : StoreState). x.look_ups) joined.store;
  }
