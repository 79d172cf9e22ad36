-- A call that is behind no other isn't blocked; and the remaining steps decrease with each step
-- that isn't blocked.
use Rattle.std.specs.Prelude.{◌≡◌, ◌≢◌, ◌⊎◌, ◌<◌, ◌≤◌, ◌+◌, ℕ, zero, suc, true, List, Some, refl}
use Rattle.std.proofs.Common.{sym, ap, subst, ◌∙◌, inl, inr, arith}
use Rattle.std.proofs.lemmas.Bool.{cases_lt}
use Rattle.sf_call.specs.declared.call.Call.{Call}
use Rattle.sf_call.specs.declared.call.Stage.{Stage}
use Rattle.sf_call.specs.declared.call.Stage.TheVariants as stage
use Rattle.sf_call.specs.declared.record.Record.{Record}
use Rattle.sf_coupling.proofs.Laws.{same_or_not}
use Rattle.sf_reply.specs.declared.reply.Reply.{Reply}
use Rattle.sf_core.specs.declared.step.Step.{Step}
use Rattle.sf_core.specs.declared.step.Step.TheVariants.{Blocked, Stranger}
use Rattle.sf_core.specs.Lanes.{LaneView}
use Rattle.sf_core.specs.Cores.{CoreView, LaneState, lane_state}
use Rattle.sf_core.specs.Cores.LaneState.{NoLane, Idle, Busy}
use Rattle.sf_core.specs.Progress.{left_of, depth_of, IsCopying, IsBehind}
use Rattle.sf_core.specs.Events.{OwnCall, SetsSlot, Goes, StartsToWrite, CopiesBlock, IsHelped, IsFinished, Before, After, Fetches, Decides, TakesStep}
use Rattle.sf_core.specs.Parts.{PartsView, core_of}
use Rattle.sf_core.specs.Sound.{IsCore}
use Rattle.sf_core.specs.Stuck.{is_onward, CanGoOn, IsNeverStuck, steps_left_in, left_below}
use Rattle.sf_core.proofs.Maps.{some_eq}
use Rattle.sf_core.proofs.LaneStates.{busy_slot}

-- ---- which call is behind which
-- The order `IsBehind`: it is decidable and transitive, and no call is behind itself.
copying_or_not : (g : Stage) → IsCopying g ⊎ (IsCopying g → ⊥)
copying_or_not (stage.Copies node left) = inl tt
copying_or_not _ = inr (λ copies. copies)

behind_or_not : (c d : Call) → IsBehind c d ⊎ (IsBehind c d → ⊥)
behind_or_not c d = elim (copying_or_not c.stage) [
  | inl copies ↦ inr (λ h. h.0 copies)
  | inr not ↦ elim (copying_or_not d.stage) [
    | inl copies ↦ inl (not, inl copies)
    | inr neither ↦ elim (cases_lt (depth_of c) (depth_of d)) [
      | inl less ↦ inl (not, inr less)
      | inr ge ↦ inr (λ h. elim h.1 [ inl copies ↦ neither copies | inr less ↦ omega (arith, less, ge) ])
    ]
  ]
]

behind_on : (c d e : Call) → IsBehind c d → IsBehind d e → IsBehind c e
behind_on c d e h k = (
  h.0,
  elim k.1 [
    | inl copies ↦ inl copies
    | inr more ↦ elim h.1 [ inl copies ↦ absurd (k.0 copies) | inr less ↦ inr (omega (arith, less, more)) ]
  ],
)

not_behind_itself : (c : Call) → IsBehind c c → ⊥
not_behind_itself c h = elim h.1 [ inl copies ↦ h.0 copies | inr less ↦ omega (arith, less) ]

-- no session below this number has a call
abbrev pub NoCall : CoreView → ℕ → Type 0
NoCall v n = (s : ℕ) (c : Call) → s < n → lane_state v s ≡ Busy c → ⊥

-- one of these sessions' calls is behind none of the others
pub record Furthest (v : CoreView) (n : ℕ) : Type 0 where
  pub session : ℕ
  pub call : Call
  pub slot : lane_state v session ≡ Busy call
  pub first : (s : ℕ) (c : Call) → s < n → lane_state v s ≡ Busy c → IsBehind call c → ⊥

-- a session has one call
pub one_call : (v : CoreView) (s t : ℕ) (c d : Call) → s ≡ t → lane_state v s ≡ Busy c → lane_state v t ≡ Busy d → c ≡ d
one_call v s t c d same at there = let e : Busy c ≡ Busy d = sym at ∙ ap (λ (k : ℕ). lane_state v k) same ∙ there in cc

-- what holds of the calls of all sessions below n, and of n, holds of those below n + 1
below_more : (v : CoreView) (n : ℕ) (P : Call → Type 0) → ((s : ℕ) (c : Call) → s < n → lane_state v s ≡ Busy c → P c) → ((c : Call) → lane_state v n ≡ Busy c → P c) → (s : ℕ) (c : Call) → s < suc n → lane_state v s ≡ Busy c → P c
below_more v n P each here s c below busy = elim (cases_lt s n) [
  | inl less ↦ each s c less busy
  | inr ge ↦ let same : s ≡ n = omega (arith, below, ge) in here c (sym (ap (λ (k : ℕ). lane_state v k) same) ∙ busy)
]

one_busy : (v : CoreView) (n : ℕ) (c : Call) → lane_state v n ≡ Busy c → NoCall v n ⊎ Furthest v n → Furthest v (suc n)
one_busy v n c at before = elim before [
  | inl none ↦ its (λ s d less busy. absurd (none s d less busy))
  | inr f ↦ elim (behind_or_not f.call c) [
    | inl behind ↦ its (λ s d less busy h. f.first s d less busy (behind_on f.call c d behind h))
    | inr not ↦ record { session = f.session; call = f.call; slot = f.slot; first = below_more v n (λ d. IsBehind f.call d → ⊥) f.first (own f.call not) }
  ]
]
  where
    own : (x : Call) → (IsBehind x c → ⊥) → (d : Call) → lane_state v n ≡ Busy d → IsBehind x d → ⊥
    own x not d busy = subst (λ (z : Call). IsBehind x z → ⊥) (one_call v n n c d refl at busy) not

    its : ((s : ℕ) (d : Call) → s < n → lane_state v s ≡ Busy d → IsBehind c d → ⊥) → Furthest v (suc n)
    its each = record { session = n; call = c; slot = at; first = below_more v n (λ d. IsBehind c d → ⊥) each (own c (not_behind_itself c)) }

one_free : (v : CoreView) (n : ℕ) → ((c : Call) → lane_state v n ≡ Busy c → ⊥) → NoCall v n ⊎ Furthest v n → NoCall v (suc n) ⊎ Furthest v (suc n)
one_free v n free (inl none) = inl (below_more v n (λ d. ⊥) none free)
one_free v n free (inr f) = inr (record { session = f.session; call = f.call; slot = f.slot; first = below_more v n (λ d. IsBehind f.call d → ⊥) f.first (λ d busy. absurd (free d busy)) })

one_more : (v : CoreView) (n : ℕ) (x : LaneState Call) → lane_state v n ≡ x → NoCall v n ⊎ Furthest v n → NoCall v (suc n) ⊎ Furthest v (suc n)
one_more v n (Busy c) at f = inr (one_busy v n c at f)
one_more v n _ at f = one_free v n (λ c busy. let e = sym at ∙ busy in cc) f

pub furthest : (v : CoreView) (n : ℕ) → NoCall v n ⊎ Furthest v n
furthest v zero = inl (λ s c below busy. absurd (omega (arith, below)))
furthest v (suc n) = one_more v n (lane_state v n) refl (furthest v n)

-- ---- progress
onward : (b : Before) (n : ℕ) → ((s : ℕ) (c : Call) → lane_state b.core s ≡ Busy c → s < n) → (f : Furthest b.core n) → OwnCall b.core b.lane f.call → (s : Step) (a : After) → TakesStep b s a → is_onward s ≡ true
onward b n fit f own (Blocked holder) a steps =
    let k = steps.0.1 in
    let same = one_call b.core b.lane.session b.lane.session steps.0.0 f.call refl k.own.slot own.slot in
    absurd (f.first k.other k.call (fit k.other k.call k.slot) k.slot (subst (λ (z : Call). IsBehind z k.call) same k.deeper))
onward b n fit f own Stranger a steps = absurd (steps.0 f.call own)
onward b n fit f own _ a steps = refl

pub never_stuck : (p : PartsView) → IsCore p → IsNeverStuck (core_of p)
never_stuck p core session call at =
    elim (furthest (core_of p) (p.joins + 1)) [ inl none ↦ absurd (none session call (fit session call at) at) | inr f ↦ (f.session, goes f) ]
  where
    fit : (s : ℕ) (c : Call) → lane_state (core_of p) s ≡ Busy c → s < p.joins + 1
    fit s c busy = let b = busy_slot (core_of p) s c busy in let m = (core.sound.ledger.sessions s (Some b.0) b.1).most in omega (arith, m)

    goes : (f : Furthest (core_of p) (p.joins + 1)) → CanGoOn (core_of p) f.session
    goes f =
        let b = busy_slot (core_of p) f.session f.call f.slot in
        let o = (core.sound.ledger.sessions f.session (Some b.0) b.1).busy b.0 refl in
        let same : o.0 ≡ f.call = some_eq o.0 f.call (sym o.1 ∙ b.2) in
        record {
          call = f.call;
          slot = f.slot;
          own = sym (ap (λ (c : Call). c.session) same) ∙ o.2;
          steps = λ lane own s w lane' steps.
              let g = steps core.history core.sound.history in
              onward (record { core = core_of p; history = core.history; lane = lane }) (p.joins + 1) fit f own s (record { core = w; added = g.0; lane = lane' }) g.2;
        }

-- ---- remaining steps
-- the sum decreases if it decreases for one session and increases for none
pub left_stays : (v w : CoreView) (n : ℕ) → ((s : ℕ) → steps_left_in (lane_state w s) ≤ steps_left_in (lane_state v s)) → left_below w n ≤ left_below v n
left_stays v w zero each = omega arith
left_stays v w (suc n) each = let rest = left_stays v w n each in let one = each n in omega (arith, rest, one)

pub left_falls : (v w : CoreView) (n s : ℕ) → ((i : ℕ) → steps_left_in (lane_state w i) ≤ steps_left_in (lane_state v i)) → s < n → steps_left_in (lane_state w s) < steps_left_in (lane_state v s) → left_below w n < left_below v n
left_falls v w zero s each below less = absurd (omega (arith, below))
left_falls v w (suc n) s each below less = elim (cases_lt s n) [
  | inl before ↦ let rest = left_falls v w n s each before less in let one = each n in omega (arith, rest, one)
  | inr ge ↦
      let same : s ≡ n = omega (arith, below, ge) in
      let old = ap (λ (k : ℕ). steps_left_in (lane_state v k)) same in
      let new = ap (λ (k : ℕ). steps_left_in (lane_state w k)) same in
      let rest = left_stays v w n each in
      omega (arith, rest, less, old, new)
]

same_left : (x y : LaneState Call) → x ≡ y → steps_left_in x ≤ steps_left_in y
same_left x y e = let n = ap (λ (z : LaneState Call). steps_left_in z) e in omega (arith, n)

pub busy_left : (v : CoreView) (s : ℕ) (c : Call) → lane_state v s ≡ Busy c → steps_left_in (lane_state v s) ≡ left_of c
busy_left v s c at = ap (λ (z : LaneState Call). steps_left_in z) at

pub idle_left : (v : CoreView) (s : ℕ) → lane_state v s ≡ Idle → steps_left_in (lane_state v s) ≡ 0
idle_left v s at = ap (λ (z : LaneState Call). steps_left_in z) at

pub gone_left : (v : CoreView) (s : ℕ) → lane_state v s ≡ NoLane → steps_left_in (lane_state v s) ≡ 0
gone_left v s at = ap (λ (z : LaneState Call). steps_left_in z) at

-- one session's state changes, and fewer steps remain to it
set_falls : (v w : CoreView) (n s : ℕ) → steps_left_in (lane_state w s) < steps_left_in (lane_state v s) → ((i : ℕ) → i ≢ s → steps_left_in (lane_state w i) ≤ steps_left_in (lane_state v i)) → s < n → left_below w n < left_below v n
set_falls v w n s less others below = left_falls v w n s each below less
  where
    each : (i : ℕ) → steps_left_in (lane_state w i) ≤ steps_left_in (lane_state v i)
    each i = elim (same_or_not i s) [
      | inl e ↦
          let old = ap (λ (k : ℕ). steps_left_in (lane_state v k)) e in
          let new = ap (λ (k : ℕ). steps_left_in (lane_state w k)) e in
          omega (arith, less, old, new)
      | inr ne ↦ others i ne
    ]

-- a step of the lane's call sets its session's state
slot_falls : (v w : CoreView) (lane : LaneView) (c : Call) (slot : LaneState Call) (n : ℕ) → OwnCall v lane c → SetsSlot v w lane.session slot → steps_left_in slot < left_of c → lane.session < n → left_below w n < left_below v n
slot_falls v w lane c slot n own sets less below =
    let old = busy_left v lane.session c own.slot in
    let new = ap (λ (z : LaneState Call). steps_left_in z) sets.own in
    set_falls v w n lane.session (omega (arith, old, new, less)) (λ i ne. same_left (lane_state w i) (lane_state v i) (sets.others i ne)) below

-- after a step that moves
pub goes_falls : (v w : CoreView) (lane : LaneView) (c d : Call) (n : ℕ) → Goes v w lane c d → lane.session < n → left_below w n < left_below v n
goes_falls v w lane c d n g below = slot_falls v w lane c (Busy d) n g.own g.slot g.less below

-- after the first step of a WRITE, and after one that copies a block
pub writes_falls : (b : Before) (a : After) (c d : Call) (given : Reply) (n : ℕ) → StartsToWrite b a c d given → b.lane.session < n → left_below a.core n < left_below b.core n
writes_falls b a c d given n w below = slot_falls b.core a.core b.lane c (Busy d) n w.own w.slot w.less below

pub copies_falls : (v w : CoreView) (lane : LaneView) (c d : Call) (n : ℕ) → CopiesBlock v w lane c d → lane.session < n → left_below w n < left_below v n
copies_falls v w lane c d n b below = slot_falls v w lane c (Busy d) n b.own b.slot (let one = b.one in omega (arith, one)) below

-- after one that answers
pub fetches_falls : (b : Before) (a : After) (c : Call) (given : Reply) (n : ℕ) → Fetches b a c given → b.lane.session < n → left_below a.core n < left_below b.core n
fetches_falls b a c given n f below = slot_falls b.core a.core b.lane c Idle n f.own f.slot (let one = f.one in omega (arith, one)) below

helped_left : (v w : CoreView) (s : ℕ) (helped : List Record) → (lane_state w s ≡ lane_state v s) ⊎ IsHelped v w s helped ⊎ IsFinished v w s helped → steps_left_in (lane_state w s) ≤ steps_left_in (lane_state v s)
helped_left v w s helped (inl e) = same_left (lane_state w s) (lane_state v s) e
helped_left v w s helped (inr (inl h)) =
    let old = busy_left v s h.before h.was in
    let new = busy_left w s h.after h.now in
    let less = h.less in
    omega (arith, old, new, less)
helped_left v w s helped (inr (inr h)) =
    let old = busy_left v s h.before h.was in
    let new = busy_left w s h.after h.now in
    let less = h.less in
    omega (arith, old, new, less)

pub decides_falls : (b : Before) (a : After) (c : Call) (given : Reply) (n : ℕ) → Decides b a c given → b.lane.session < n → left_below a.core n < left_below b.core n
decides_falls b a c given n d below =
    let old = busy_left b.core b.lane.session c d.own.slot in
    let new = idle_left a.core b.lane.session d.slot in
    let some = d.some in
    set_falls b.core a.core n b.lane.session (omega (arith, old, new, some)) (λ i ne. helped_left b.core a.core i d.helped (d.others i ne)) below
