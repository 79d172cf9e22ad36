-- The ledger after an event that changes one call and one session.
use Rattle.std.specs.Prelude.{◌≡◌, ◌≢◌, ◌≤◌, ◌+◌, ℕ, length, Option, Some, None, refl}
use Rattle.std.proofs.Common.{sym, ap, subst, ◌∙◌, inl, inr, arith}
use Rattle.sf_call.specs.declared.call.Call.{Call}
use Rattle.sf_call.specs.declared.request.Request.{Request}
use Rattle.sf_call.specs.Values.{IsCall}
use Rattle.sf_coupling.proofs.Laws.{same_or_not}
use Rattle.sf_call.specs.Routes.{route_of}
use Rattle.sf_core.specs.Cores.{call_at, session_at, last_number}
use Rattle.sf_core.specs.Progress.{waiting_reply, undecided_in, copy_of, SameCall}
use Rattle.sf_core.specs.Parts.{PartsView}
use Rattle.sf_core.specs.Sound.{IsCallOf, IsSessionOf, Ledger}
use Rattle.sf_core.proofs.Maps.{some_eq, none_some}
use Rattle.sf_core.proofs.Updates.{Updates}

-- the call n and its session's entry change; the other calls belong to other sessions
module _ (p q : PartsView) (ledger : Ledger p) (n session : ℕ) (was now : Option Call) (before after : Option (Option ℕ)) (calls : Updates p.calls q.calls n was now) (sessions : Updates p.sessions q.sessions session before after)
    (apart : (m : ℕ) (d : Call) → m ≢ n → call_at p.calls m ≡ Some d → d.session ≢ session) (others : (s m : ℕ) → s ≢ session → session_at p.sessions s ≡ Some (Some m) → m ≢ n)
    (call : (d : Call) → now ≡ Some d → IsCallOf q.sessions q.drawn n d) (busy : (o : Option ℕ) → after ≡ Some o → IsSessionOf q.calls q.joins session o)
    (drawn : p.drawn ≤ q.drawn) (joins : p.joins ≤ q.joins) (drawn_fits : q.drawn ≤ last_number) (joins_fit : q.joins ≤ last_number) (room : undecided_in q.calls + length q.sessions ≤ q.book.room) where
  pub ledger_changed : Ledger q
  ledger_changed = record {
    calls = λ m d at. elim (same_or_not m n) [
      | inl e ↦ subst (λ k. IsCallOf q.sessions q.drawn k d) (sym e) (call d (sym calls.now_is ∙ ap (call_at q.calls) (sym e) ∙ at))
      | inr ne ↦
          let there = sym (calls.rest m ne) ∙ at in
          let x = ledger.calls m d there in
          record {
            is_number = x.is_number;
            above = x.above;
            most = let a = x.most in omega (arith, a, drawn);
            copied = x.copied;
            is_call = x.is_call;
            session = sessions.rest d.session (apart m d ne there) ∙ x.session;
          }
    ];
    sessions = λ s o at. elim (same_or_not s session) [
      | inl e ↦ subst (λ k. IsSessionOf q.calls q.joins k o) (sym e) (busy o (sym sessions.now_is ∙ ap (session_at q.sessions) (sym e) ∙ at))
      | inr ne ↦
          let there = sym (sessions.rest s ne) ∙ at in
          let x = ledger.sessions s o there in
          record {
            above = x.above;
            most = let a = x.most in omega (arith, a, joins);
            busy = λ m i. let b = x.busy m i in (b.0, calls.rest m (others s m ne (there ∙ ap Some i)) ∙ b.1, b.2);
          }
    ];
    room = room;
    drawn_fits = drawn_fits;
    joins_fit = joins_fit;
    calls_rise = calls.rises ledger.calls_rise;
    sessions_rise = sessions.rises ledger.sessions_rise;
  }

-- ---- of a call that exists
module _ (p : PartsView) (ledger : Ledger p) (n : ℕ) (c : Call) (at : call_at p.calls n ≡ Some c) where
  -- another call belongs to another session
  pub other_session : (m : ℕ) (d : Call) → m ≢ n → call_at p.calls m ≡ Some d → d.session ≢ c.session
  other_session m d ne there e = ne (some_eq m n (some_eq (Some m) (Some n) (sym (ledger.calls m d there).session ∙ ap (session_at p.sessions) e ∙ (ledger.calls n c at).session)))

  -- another session has another call
  pub other_call : (s m : ℕ) → s ≢ c.session → session_at p.sessions s ≡ Some (Some m) → m ≢ n
  other_call s m ne there e = let b = (ledger.sessions s (Some m) there).busy m refl in ne (sym b.2 ∙ ap (λ (y : Call). y.session) (some_eq b.0 c (sym b.1 ∙ ap (call_at p.calls) e ∙ at)))

-- the call is the same at a later stage, and its session has it; or it is removed, and its session
-- has none
pub data Follows (c : Call) (n : ℕ) : Option Call → Option ℕ → Type 0 where
  Stays : (d : Call) → SameCall c d → (waiting_reply d ≡ None → d.copy ≡ copy_of (route_of d.request) d.request) → Follows c n (Some d) (Some n)
  Goes : Follows c n None None

module _ (p q : PartsView) (ledger : Ledger p) (n : ℕ) (c : Call) (now : Option Call) (slot : Option ℕ) (calls : Updates p.calls q.calls n (Some c) now)
    (sessions : Updates p.sessions q.sessions c.session (Some (Some n)) (Some slot)) (follows : Follows c n now slot) (drawn : q.drawn ≡ p.drawn) (joins : q.joins ≡ p.joins)
    (room : undecided_in q.calls + length q.sessions ≤ q.book.room) where
  own : IsCallOf p.sessions p.drawn n c
  own = ledger.calls n c calls.was_is

  call_by : (o : Option Call) (s : Option ℕ) → Follows c n o s → slot ≡ s → (d : Call) → o ≡ Some d → IsCallOf q.sessions q.drawn n d
  call_by o s (Stays e same copied) is_slot d at =
      let x = own in
      subst (λ (y : Call). IsCallOf q.sessions q.drawn n y) (some_eq e d at) (record {
        is_number = same.number ∙ x.is_number;
        above = x.above;
        most = let a = x.most in omega (arith, a, drawn);
        copied = copied;
        is_call = subst (λ y. IsCall n y e.moment e.request) (sym same.session) (subst (λ y. IsCall n c.session y e.request) (sym same.moment) (subst (λ (y : Request). IsCall n c.session c.moment y) (sym same.request) x.is_call));
        session = ap (session_at q.sessions) same.session ∙ sessions.now_is ∙ ap Some is_slot;
      })
  call_by o s Goes is_slot d at = absurd (none_some d at)

  session_by : (o : Option Call) (s : Option ℕ) → Follows c n o s → now ≡ o → (m : ℕ) → s ≡ Some m → (d : Call) × (call_at q.calls m ≡ Some d) × (d.session ≡ c.session)
  session_by o s (Stays e same copied) is_now m at = (e, ap (call_at q.calls) (sym (some_eq n m at)) ∙ calls.now_is ∙ is_now, same.session)
  session_by o s Goes is_now m at = absurd (none_some m at)

  pub ledger_follows : Ledger q
  ledger_follows =
      ledger_changed p q ledger n c.session (Some c) now (Some (Some n)) (Some slot) calls sessions (other_session p ledger n c calls.was_is) (other_call p ledger n c calls.was_is)
      (λ d is. call_by now slot follows refl d is)
      (λ o is. let x = ledger.sessions c.session (Some n) sessions.was_is in record {
        above = x.above;
        most = let a = x.most in omega (arith, a, joins);
        busy = λ m i. session_by now slot follows refl m (some_eq slot o is ∙ i);
      })
      (omega (arith, drawn)) (omega (arith, joins)) (let a = ledger.drawn_fits in omega (arith, a, drawn)) (let a = ledger.joins_fit in omega (arith, a, joins)) room
