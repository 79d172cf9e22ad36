-- A session that waits for bytes, by the log.
use Rattle.std.proofs.Common.{◌≡◌, ℕ, ◌+◌, ◌<◌, ◌⊎◌, List, [], ◌∷◌, ◌++◌, Some, Bool, true, false, length, map, slice_get, refl, sym, ◌∙◌, subst, arith, inl, inr, length-append}
use Rattle.std.specs.Prelude.{IsTrue, ◌↔◌}
use Rattle.sf_wire.specs.declared.cutting.Cut.TheVariants as cut
use Rattle.sf_wire.specs.Packets.{IsCut}
use Rattle.sf_session.specs.Responses.{RepliedCall, recorded_in, ask_behind, asked_due}
use Rattle.sf_session.proofs.Laws.{asked_each}
use Rattle.sf_engine.specs.declared.hosted.HostedSession.{HostedSession}
use Rattle.sf_engine.specs.declared.hosted.HostedState.{HostedState}
use Rattle.sf_engine.specs.declared.hosted.HostedState.TheVariants as state
use Rattle.sf_engine.specs.Turns.{is_resting}
use Rattle.sf_engine.specs.Views.{EngineView}
use Rattle.sf_engine.specs.Promise.{Entry, linearization, SessionLog, of_session, SessionPhase, WithoutCall, phase, IsAnswered, WaitsForBytes}
use Rattle.sf_engine.specs.HasLog.{HasLog, WantsBytes}
use Rattle.sf_engine.proofs.SessionEvents.{host, known, resting, is_open, at_rests, phase_for, phase_is}
use Rattle.sf_engine.proofs.Base.{one_rest}

-- the rest of a session's bytes is unique
one_left : (t : SessionLog) (r : List RepliedCall) (x y : IsAnswered t r) → x.rest ≡ y.rest
one_left t r x y =
    let asks = map ask_behind t.wrote in
    let xs : length (asks ++ asked_due x.due) ≡ length x.bodies = asked_each false x.bodies (asks ++ asked_due x.due) x.asked in
    let ys : length (asks ++ asked_due y.due) ≡ length y.bodies = asked_each false y.bodies (asks ++ asked_due y.due) y.asked in
    let a = length-append asks (asked_due x.due) in
    let b = length-append asks (asked_due y.due) in
    let c = x.begun in
    let d = y.begun in
    (one_rest x.bodies y.bodies x.rest y.rest x.are_bodies y.are_bodies (omega (arith, xs, ys, a, b, c, d)) (sym x.fed ∙ y.fed)).1

-- a session that rests by the log is in the place for that
resting_for : (o : HostedState) → phase_for o ≡ WithoutCall → is_resting o ≡ true
resting_for (state.Resting lane) is = refl
resting_for _ is = cc

module _ (e : EngineView) (log : List Entry) (h : HasLog e log) (at : ℕ) (p : HostedSession) (stood : slice_get e.hosted at ≡ Some p) where
  -- the rest are the unread bytes
  rest_is : (o : HostedState) → p.place ≡ o → is_resting o ≡ true → (phase (of_session (at + 1) log) ≡ WithoutCall) × ((host e log h at p stood).answered.rest ≡ p.session.unread)
  rest_is (state.Resting lane) placed rests =
      ((at_rests e log h at p stood lane placed).1, (is_open e log h at p stood (resting e log h at p stood lane placed).0.ended).1)
  rest_is _ placed rests = cc

  waits_there : (b : Bool) → (IsTrue b ↔ ((is_resting p.place ≡ true) × IsCut p.session.unread cut.More)) → IsTrue b ↔ WaitsForBytes log (at + 1)
  waits_there b wants = (
    λ yes.
        let seen = wants.0 yes in
        let is = rest_is p.place refl seen.0 in
        record { at = (known e log h at p stood, is.0); answered = (host e log h at p stood).answered; cut = subst (λ (bytes : List ℕ). IsCut bytes cut.More) (sym is.1) seen.1 },
    λ w.
        let rests = resting_for p.place (sym (phase_is e log h at p stood p.place refl) ∙ w.at.1) in
        let is = rest_is p.place refl rests in
        let same = one_left (of_session (at + 1) log) (recorded_in (at + 1) (linearization log)) w.answered (host e log h at p stood).answered in
        wants.1 (rests, subst (λ (bytes : List ℕ). IsCut bytes cut.More) (same ∙ is.1) w.cut),
  )

pub waits_log : (e : EngineView) (at s : ℕ) (p : HostedSession) (b : Bool) → at + 1 ≡ s → slice_get e.hosted at ≡ Some p
    → (IsTrue b ↔ ((is_resting p.place ≡ true) × IsCut p.session.unread cut.More)) → WantsBytes e s b
waits_log e at s p b num stood wants = subst (λ (n : ℕ). WantsBytes e n b) num (λ log h. waits_there e log h at p stood b wants)

pub none_waits : (e : EngineView) (s : ℕ) → (s ≡ 0) ⊎ (length e.hosted < s) → WantsBytes e s false
none_waits e s none log h = (
  λ yes. absurd (let z : false ≡ true = yes in cc),
  λ w. elim none [ inl z ↦ absurd (omega (arith, z, w.at.0.0)) | inr past ↦ absurd (omega (arith, past, w.at.0.1, h.count)) ],
)
