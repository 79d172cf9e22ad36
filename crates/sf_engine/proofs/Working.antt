-- The steps of a turn, and its work.
use Rattle.std.proofs.Common.{◌≡◌, ℕ, List, [], ◌∷◌, ◌++◌, None, Bool, true, false, filter, cond, not, Ok, refl, ap, sym, ◌∙◌, subst, eq-eqb, arith, inl, inr}
use Rattle.std.specs.Prelude.{nat_eq}
use Rattle.std.specs.List.{AllByRecursion}
use Rattle.std.proofs.lemmas.Bool.{ne_eqb}
use Rattle.sf_reply.specs.declared.reply.Reply.{Reply}
use Rattle.sf_call.specs.declared.call.Call.{Call}
use Rattle.sf_call.specs.declared.record.Record.{Record}
use Rattle.sf_call.specs.declared.record.Record.TheVariants.{Did, Left}
use Rattle.sf_core.specs.Lanes.{LaneView}
use Rattle.sf_core.specs.Cores.{CoreView}
use Rattle.sf_core.specs.Progress.{did, names_in_records}
use Rattle.sf_core.specs.Events.{Before, After, Decides, IsOfOther}
use Rattle.sf_engine.specs.declared.hosted.HostedState.{HostedState}
use Rattle.sf_engine.specs.declared.hosted.HostedState.TheVariants as state
use Rattle.sf_engine.specs.declared.event.Event.TheVariants as event
use Rattle.sf_engine.specs.declared.event.Happened.{Happened}
use Rattle.sf_engine.specs.declared.event.Happened.TheVariants as happened
use Rattle.sf_engine.specs.Works.{is_of_other, names_helped, IsWork, IsStep}
use Rattle.sf_engine.specs.Turns.{Stand, stand, Finding, ReadGives, RestsOrLeaves, StepGives, GivesAt, PlaceGives, ClosesAt, before, after_turn}
use Rattle.sf_engine.proofs.MovesBy.{moves_by}

-- the step and the work of a turn
pub record Works (s m : ℕ) (r : Happened) (v : CoreView) (h added : List Record) (w : CoreView) : Type 0 where
  pub step : IsStep (event.Turn s m) (Ok r) v h added w
  pub work : IsWork (event.Turn s m) v added w

-- which records are of other sessions
other_is : (v : CoreView) (s : ℕ) (r : Record) → IsOfOther v s r → is_of_other s r ≡ true
other_is v s (Did number session moment request given) h = ap not (ne_eqb session s h.1)
other_is v s (Left session) h = absurd h

own_is : (s : ℕ) (c : Call) (given : Reply) → c.session ≡ s → is_of_other s (did c given) ≡ false
own_is s c given e = ap (λ (k : ℕ). not (nat_eq k s)) e ∙ ap not (eq-eqb s s refl)

others_kept : (v : CoreView) (s : ℕ) (helped : List Record) (own : Record) → AllByRecursion (IsOfOther v s) helped → is_of_other s own ≡ false → filter (is_of_other s) (helped ++ own ∷ []) ≡ helped
others_kept v s [] own h e = ap (λ (b : Bool). cond b (own ∷ []) []) e
others_kept v s (r ∷ rs) own h e =
    ap (λ (b : Bool). cond b (r ∷ filter (is_of_other s) (rs ++ own ∷ [])) (filter (is_of_other s) (rs ++ own ∷ []))) (other_is v s r h.0)
    ∙ ap (λ (xs : List Record). r ∷ xs) (others_kept v s rs own h.1 e)

-- the number of components in the paths of helped calls
few_helped : (b : Before) (a : After) (c : Call) (given : Reply) (s : ℕ) → b.lane.session ≡ s → (d : Decides b a c given) → names_helped s a.added ≡ names_in_records d.helped
few_helped b a c given s e d =
    ap (λ (xs : List Record). names_in_records (filter (is_of_other s) xs)) d.records
    ∙ ap (λ (xs : List Record). names_in_records xs) (others_kept b.core s d.helped (did c given) (subst (λ (k : ℕ). AllByRecursion (IsOfOther b.core k) d.helped) e d.of_others) (own_is s c given (d.own.session ∙ e)))

-- no look-up
pub same_work : (s m : ℕ) (v : CoreView) (added : List Record) (w : CoreView) → w.look_ups ≡ v.look_ups → IsWork (event.Turn s m) v added w
same_work s m v added w e = (omega (arith, e), omega (arith, e))

-- a step of a running call
pub step_works : (b : Before) (s m : ℕ) (r : Happened) (a : After) (p : HostedState) → b.lane.session ≡ s → StepGives b r a p → Works s m r b.core b.history a.added a.core
step_works b s m happened.Moved a p e g = record {
  step = (b.lane, a.lane, e, g.0);
  work = let moves = moves_by b a g.0 in let more = moves.more in let few = moves.few in (more, omega (arith, few));
}
step_works b s m (happened.Blocked holder) a p e g = record {
  step = (b.lane, a.lane, e, g.0);
  work = (g.0.1.looks.more, omega (arith, g.0.1.looks.few));
}
step_works b s m happened.Decided a p e g =
    let c = g.1.0 in
    let given = g.0.reply in record {
      step = (b.lane, a.lane, e, (c, given, g.1.1));
      work = elim g.1.1 [
        | inl f ↦ same_work s m b.core a.added a.core f.look_ups
        | inr d ↦ (d.more, omega (arith, d.few, few_helped b a c given s e d))
      ];
    }
step_works b s m _ a p e g = absurd g

-- a packet that a resting session reads
pub read_works : (a : Stand) (lane : LaneView) (h : List Record) (s m : ℕ) (r : Happened) (added : List Record) (b : Stand) → lane.session ≡ s → ReadGives a lane m r added b → Works s m r a.core h added b.core
read_works a lane h s m happened.Idle added b e g = record { step = (lane, lane, e, tt); work = same_work s m a.core added b.core (ap (λ (z : CoreView). z.look_ups) g.1) }
read_works a lane h s m happened.Wrote added b e g = record { step = (lane, lane, e, tt); work = same_work s m a.core added b.core (ap (λ (z : CoreView). z.look_ups) g.1) }
read_works a lane h s m happened.Begun added b e g = record { step = (lane, lane, e, tt); work = same_work s m a.core added b.core g.2.look_ups }
read_works a lane h s m (happened.Ended cause) added b e g = record { step = (lane, lane, e, tt); work = same_work s m a.core added b.core g.1.look_ups }
read_works a lane h s m _ added b e g = absurd g

-- a session that rests or leaves after a reply makes no look-up
pub settle_same : (a : Stand) (lane : LaneView) (closed : Bool) (added : List Record) (b : Stand) → RestsOrLeaves a lane closed added b → b.core.look_ups ≡ a.core.look_ups
settle_same a lane false added b g = ap (λ (z : CoreView). z.look_ups) g.0
settle_same a lane true added b g = g.0.look_ups

-- closing makes no look-up
pub close_same : (p : HostedState) (a : Stand) (added : List Record) (b : Stand) (goes_on : Bool) → ClosesAt p a added b goes_on → b.core.look_ups ≡ a.core.look_ups
close_same (state.Resting lane) a added b goes_on g = settle_same a lane true added b g.0
close_same _ a added b goes_on g = ap (λ (z : CoreView). z.look_ups) g.0.0
