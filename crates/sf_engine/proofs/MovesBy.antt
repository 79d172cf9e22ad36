-- The common properties of all moves.
use Rattle.std.proofs.Common.{◌≡◌, ◌⊎◌, ◌<◌, ◌≤◌, ◌+◌, arith, inl, inr}
use Rattle.sf_reply.specs.declared.reply.Reply.{Reply}
use Rattle.sf_call.specs.declared.call.Call.{Call}
use Rattle.sf_core.specs.Cores.LaneState.{Busy}
use Rattle.sf_core.specs.Progress.{left_of, SameCall}
use Rattle.sf_core.specs.Events.{Before, After, OwnCall, SetsSlot, Goes, StartsToWrite, CopiesBlock, AddsNothing, MovesOn}

pub record MovesBy (b : Before) (a : After) : Type 0 where
  pub before : Call
  pub after : Call
  pub own : OwnCall b.core b.lane before
  pub same : SameCall before after
  pub slot : SetsSlot b.core a.core b.lane.session (Busy after)
  pub less : left_of after < left_of before
  pub some : 0 < left_of after
  pub lane : a.lane ≡ b.lane
  pub more : b.core.look_ups ≤ a.core.look_ups
  pub few : a.core.look_ups ≤ b.core.look_ups + 2
  pub kind : (Goes b.core a.core b.lane before after × AddsNothing b a) ⊎ ((given : Reply) × StartsToWrite b a before after given) ⊎ (CopiesBlock b.core a.core b.lane before after × AddsNothing b a)

pub moves_by : (b : Before) (a : After) → MovesOn b a → MovesBy b a
moves_by b a (inl g) = let go = g.0.2 in record { before = g.0.0; after = g.0.1; own = go.own; same = go.same; slot = go.slot; less = go.less; some = go.some; lane = g.1.lane; more = go.more; few = go.few; kind = inl (go, g.1) }
moves_by b a (inr (inl w)) = let go = w.3 in record { before = w.0; after = w.1; own = go.own; same = go.same; slot = go.slot; less = go.less; some = go.some; lane = go.lane; more = go.more; few = go.few; kind = inr (inl (w.2, go)) }
moves_by b a (inr (inr c)) = let go = c.0.2 in let one = go.one in let e = go.look_ups in record {
  before = c.0.0;
  after = c.0.1;
  own = go.own;
  same = go.same;
  slot = go.slot;
  less = omega (arith, one);
  some = go.some;
  lane = c.1.lane;
  more = omega (arith, e);
  few = omega (arith, e);
  kind = inr (inr (go, c.1));
}
