-- The states of sessions and their remaining steps, as the layer above sees them.
use Rattle.std.specs.Prelude.{◌≡◌, ◌≢◌, ◌<◌, ◌≤◌, ◌+◌, ℕ, true, false, if◌then◌else◌, length, Option, Some, None, refl}
use Rattle.std.proofs.Common.{sym, ap, ◌∙◌, arith}
use Rattle.sf_reply.specs.declared.reply.Reply.{Reply}
use Rattle.sf_book.specs.Books.{BookView}
use Rattle.sf_call.specs.declared.request.Request.{Request}
use Rattle.sf_call.specs.declared.call.Call.{Call}
use Rattle.sf_call.specs.declared.call.Stage.{Stage}
use Rattle.sf_call.specs.declared.call.Stage.TheVariants as stage
use Rattle.sf_call.specs.Requests.{Target, target_of}
use Rattle.sf_call.specs.Requests.Target.{OnPaths}
use Rattle.sf_call.specs.Routes.{Route, is_rooted, are_nested, route_at, route_of}
use Rattle.sf_walk.specs.Routes.{IsPosition}
use Rattle.sf_call.specs.Routes.Route.{NoPath, Along, Between}
use Rattle.sf_walk.specs.Routes.IsPosition.{Starts, IsOn, IsBefore, IsApart}
use Rattle.sf_walk.specs.Ways.{target_names, names_on, request_names}
use Rattle.sf_walk.specs.Steps.{AdvancesOne}
use Rattle.sf_walk.specs.Steps.AdvancesOne.{TakesRoot, PartsAtRoot, GoesOn, Parts, OldGoesOn, NewGoesOn}
use Rattle.sf_core.specs.Lanes.{LaneView}
use Rattle.sf_core.specs.Cores.{CoreView, LaneState, call_at, session_at, busy_with, lane_state_by, lane_state}
use Rattle.sf_core.specs.Cores.LaneState.{Idle, Busy}
use Rattle.sf_core.specs.Progress.{waiting_reply, steps_left_at, left_by, left_of, bound_of, new_call, left_decided}
use Rattle.sf_core.specs.Events.{OwnCall, KeepsRecords, SetsSlot}
use Rattle.sf_core.specs.Parts.{PartsView, core_of}
use Rattle.sf_core.specs.Sound.{Ledger}
use Rattle.sf_core.proofs.Ledgers.{other_call}
use Rattle.sf_core.proofs.Maps.{some_eq, reply_is}

-- ---- the states of sessions
pub slot_busy : (v : CoreView) (s n : ℕ) (c : Call) → session_at v.sessions s ≡ Some (Some n) → call_at v.calls n ≡ Some c → lane_state v s ≡ Busy c
slot_busy v s n c e f = ap (lane_state_by v.calls) e ∙ ap busy_with f

pub slot_idle : (v : CoreView) (s : ℕ) → session_at v.sessions s ≡ Some None → lane_state v s ≡ Idle
slot_idle v s e = ap (lane_state_by v.calls) e

busy_call : (o : Option Call) (c : Call) → busy_with o ≡ Busy c → o ≡ Some c
busy_call (Some d) c e = let same : d ≡ c = cc in ap Some same
busy_call _ c e = cc

busy_by : (v : CoreView) (s : ℕ) (c : Call) (o : Option (Option ℕ)) → session_at v.sessions s ≡ o → lane_state_by v.calls o ≡ Busy c → (n : ℕ) × (session_at v.sessions s ≡ Some (Some n)) × (call_at v.calls n ≡ Some c)
busy_by v s c (Some (Some n)) e f = (n, e, busy_call (call_at v.calls n) c f)
busy_by v s c _ e f = cc

pub busy_slot : (v : CoreView) (s : ℕ) (c : Call) → lane_state v s ≡ Busy c → (n : ℕ) × (session_at v.sessions s ≡ Some (Some n)) × (call_at v.calls n ≡ Some c)
busy_slot v s c e = busy_by v s c (session_at v.sessions s) refl e

-- a session whose entry and call are unchanged has the same state
pub slot_kept : (v w : CoreView) (s : ℕ) (o : Option (Option ℕ)) → session_at v.sessions s ≡ o → session_at w.sessions s ≡ o → ((m : ℕ) → o ≡ Some (Some m) → call_at w.calls m ≡ call_at v.calls m) → lane_state w s ≡ lane_state v s
slot_kept v w s (Some (Some m)) e f same = ap (lane_state_by w.calls) f ∙ ap busy_with (same m refl) ∙ sym (ap (lane_state_by v.calls) e)
slot_kept v w s _ e f same = ap (lane_state_by w.calls) f ∙ sym (ap (lane_state_by v.calls) e)

-- if one call and its session's entry change, all other states are unchanged
pub slots_kept : (v w : CoreView) (n session : ℕ) → ((m : ℕ) → m ≢ n → call_at w.calls m ≡ call_at v.calls m) → ((s : ℕ) → s ≢ session → session_at w.sessions s ≡ session_at v.sessions s)
    → ((s m : ℕ) → s ≢ session → session_at v.sessions s ≡ Some (Some m) → m ≢ n) → (s : ℕ) → s ≢ session → lane_state w s ≡ lane_state v s
slots_kept v w n session calls sessions others s ne = slot_kept v w s (session_at v.sessions s) refl (sessions s ne) (λ m e. calls m (others s m ne e))

-- one call and its session's entry change
pub sets_slot : (p q : PartsView) → Ledger p → (lane : LaneView) (n : ℕ) (c : Call) (slot : LaneState Call) → call_at p.calls n ≡ Some c → c.session ≡ lane.session → lane_state (core_of q) lane.session ≡ slot
    → ((m : ℕ) → m ≢ n → call_at q.calls m ≡ call_at p.calls m) → ((s : ℕ) → s ≢ lane.session → session_at q.sessions s ≡ session_at p.sessions s) → length q.sessions ≡ length p.sessions → q.drawn ≡ p.drawn → q.joins ≡ p.joins
    → SetsSlot (core_of p) (core_of q) lane.session slot
sets_slot p q ledger lane n c slot at session own calls sessions size drawn joins = record {
  own = own;
  others = slots_kept (core_of p) (core_of q) n lane.session calls sessions (λ s m ne there. other_call p ledger n c at s m (λ e. ne (e ∙ session)) there);
  joined = size;
  drawn = drawn;
  joins = joins;
}

-- the lane's call is the one with its number
pub own_call : (p : PartsView) → Ledger p → (lane : LaneView) (n : ℕ) (c : Call) → call_at p.calls n ≡ Some c → c.session ≡ lane.session → lane.call ≡ Some n → OwnCall (core_of p) lane c
own_call p ledger lane n c at session call =
    let is = ledger.calls n c at in
    record { slot = slot_busy (core_of p) lane.session n c (ap (session_at p.sessions) (sym session) ∙ is.session) at; session = session; number = call ∙ ap Some (sym is.is_number) }

-- no other lane has a call
pub no_stranger : (p : PartsView) → Ledger p → (lane : LaneView) (n : ℕ) → lane.call ≡ Some n → ((c : Call) → call_at p.calls n ≡ Some c → c.session ≡ lane.session → ⊥) → (c : Call) → OwnCall (core_of p) lane c → ⊥
no_stranger p ledger lane n call never c own =
    let b = busy_slot (core_of p) lane.session c own.slot in
    let same : b.0 ≡ n = sym (ledger.calls b.0 c b.2).is_number ∙ some_eq c.number n (sym own.number ∙ call) in
    never c (ap (call_at p.calls) (sym same) ∙ b.2) own.session

-- ---- records
-- books that differ only in their room have the same records
pub same_records : (p q : PartsView) → q.book ≡ record p.book { room = q.book.room } → KeepsRecords (core_of p) (core_of q)
same_records p q e = record { records = ap (λ (b : BookView). b.records) e; keep = ap (λ (b : BookView). b.keep) e; folded = ap (λ (b : BookView). b.folded) e }

pub same_book : (p q : PartsView) → q.book ≡ p.book → KeepsRecords (core_of p) (core_of q)
same_book p q e = record { records = ap (λ (b : BookView). b.records) e; keep = ap (λ (b : BookView). b.keep) e; folded = ap (λ (b : BookView). b.folded) e }

-- ---- remaining steps
pub left_is : (c : Call) → waiting_reply c ≡ None → left_of c ≡ steps_left_at c.request c.stage
unfolding left_of
left_is c e = ap (left_by c.request c.stage) e

pub left_one : (c : Call) (given : Reply) → waiting_reply c ≡ Some given → c.stage ≡ stage.Fresh → left_of c ≡ 1
unfolding left_of
left_one c given e fresh = ap (left_by c.request c.stage) e ∙ ap left_decided fresh

pub left_copying : (c : Call) (given : Reply) (node left : ℕ) → waiting_reply c ≡ Some given → c.stage ≡ stage.Copies node left → left_of c ≡ left
unfolding left_of
left_copying c given node left e copies = ap (left_by c.request c.stage) e ∙ ap left_decided copies

pub all_left : (number session moment : ℕ) (request : Request) → left_of (new_call number session moment request) ≡ bound_of request
unfolding bound_of
all_left number session moment request = left_is (new_call number session moment request) (reply_is (new_call number session moment request))

-- the names of a route are names of its request
fit_by : (g : Target) → names_on (route_at g) ≤ target_names g
fit_by (OnPaths old new) = elim (is_rooted old new) as (λ a. names_on (if a then NoPath else if are_nested old new then Along old else Between old new) ≤ length old + length new) [
  | true ↦ omega arith
  | false ↦ elim (are_nested old new) as (λ b. names_on (if b then Along old else Between old new) ≤ length old + length new) [ true ↦ omega arith | false ↦ omega arith ]
]
fit_by _ = omega arith

pub names_fit : (r : Request) → names_on (route_of r) ≤ request_names r
names_fit r = fit_by (target_of r)

-- the number of components that a call has resolved, on both paths
abbrev pub walked_in : Stage → ℕ
walked_in stage.Fresh = 0
walked_in (stage.At walked node) = walked
walked_in (stage.Ends common from to) = from.walked + to.walked
walked_in (stage.Copies node left) = 0

walked_on : (r : Route) (at : Stage) → IsPosition r at → walked_in at ≤ names_on r
walked_on r at (Starts o is) = omega arith
walked_on r at (IsOn path walked node less) = omega (arith, less)
walked_on r at (IsBefore old new walked node count part less) = let short = part.short in omega (arith, less, short)
walked_on r at (IsApart old new common from to is) = let a = is.short in let b = is.short_new in omega (arith, a, b)

pub walked_few : (c : Call) (at : Stage) → IsPosition (route_of c.request) at → walked_in at ≤ request_names c.request
walked_few c at is = let a = walked_on (route_of c.request) at is in let b = names_fit c.request in omega (arith, a, b)

-- some steps remain, and fewer after each one
some_by : (r : Request) (g : Route) (at : Stage) → IsPosition g at → walked_in at ≤ request_names r → 0 < steps_left_at r at
some_by r g at (Starts o is) few = omega arith
some_by r g at _ few = omega (arith, few)

pub some_left : (c : Call) (at : Stage) → IsPosition (route_of c.request) at → 0 < steps_left_at c.request at
some_left c at is = some_by c.request (route_of c.request) at is (walked_few c at is)

pub less_left : (r : Request) (at after : Stage) → AdvancesOne at after → walked_in after ≤ request_names r → steps_left_at r after < steps_left_at r at
less_left r at after (TakesRoot node) few = omega arith
less_left r at after (PartsAtRoot to e) few = omega (arith, e, few)
less_left r at after (GoesOn walked node to e) few = omega (arith, e, few)
less_left r at after (Parts walked node to e) few = omega (arith, e, few)
less_left r at after (OldGoesOn common old new to e) few = omega (arith, e, few)
less_left r at after (NewGoesOn common old new to e) few = omega (arith, e, few)
