-- Which session each call belongs to.
use Rattle.std.proofs.Common.{◌≡◌, ◌<◌, ℕ, Option, Some, None, refl, sym, ap, ◌∙◌, arith}
use Rattle.sf_call.specs.declared.call.Call.{Call}
use Rattle.sf_core.specs.Cores.{call_at, session_at, lane_state_by, lane_state}
use Rattle.sf_core.specs.Cores.LaneState.{NoLane, Busy}
use Rattle.sf_core.specs.Owners.{OwnsCalls}
use Rattle.sf_core.specs.Parts.{PartsView, core_of}
use Rattle.sf_core.specs.Sound.{Ledger, IsCore}
use Rattle.sf_core.proofs.Maps.{some_eq}
use Rattle.sf_core.proofs.LaneStates.{busy_slot}

own_session : (p : PartsView) → Ledger p → (s : ℕ) (c : Call) → lane_state (core_of p) s ≡ Busy c → c.session ≡ s
own_session p ledger s c e =
    let b = busy_slot (core_of p) s c e in
    let i = (ledger.sessions s (Some b.0) b.1).busy b.0 refl in
    ap (λ (d : Call). d.session) (some_eq c i.0 (sym b.2 ∙ i.1)) ∙ i.2

own_number : (p : PartsView) → Ledger p → (s : ℕ) (c : Call) → lane_state (core_of p) s ≡ Busy c → call_at p.calls c.number ≡ Some c
own_number p ledger s c e =
    let b = busy_slot (core_of p) s c e in
    ap (call_at p.calls) (ledger.calls b.0 c b.2).is_number ∙ b.2

gone_by : (p : PartsView) → Ledger p → (s : ℕ) → p.joins < s → (o : Option (Option ℕ)) → session_at p.sessions s ≡ o → lane_state_by p.calls o ≡ NoLane
gone_by p ledger s less None e = refl
gone_by p ledger s less (Some number) e = absurd (let m = (ledger.sessions s number e).most in omega arith)

pub owns : (p : PartsView) → IsCore p → OwnsCalls (core_of p)
owns p is =
    let ledger = is.sound.ledger in
    record {
      session = own_session p ledger;
      number = own_number p ledger;
      later = λ s less. gone_by p ledger s less (session_at p.sessions s) refl;
    }
