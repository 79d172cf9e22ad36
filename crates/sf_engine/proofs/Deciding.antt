-- The moves after which a call stops, and which calls may be answered out of memory.
use Rattle.std.proofs.Common.{◌≡◌, ℕ, ◌+◌, ◌<◌, false, length, take, ap, ◌∙◌, arith, inl, inr}
use Rattle.sf_path.specs.Names.{Path}
use Rattle.sf_reply.specs.declared.reply.Reply.{Reply}
use Rattle.sf_call.specs.declared.call.Call.{Call}
use Rattle.sf_call.specs.declared.call.Stage.{Stage}
use Rattle.sf_call.specs.Tree.{Tree, is_directory}
use Rattle.sf_call.specs.Routes.{Route}
use Rattle.sf_walk.specs.Routes.{IsPosition}
use Rattle.sf_walk.specs.Routes.IsPosition.{Starts, IsOn, IsBefore, IsApart}
use Rattle.sf_walk.specs.Steps.{AdvancesOne}
use Rattle.sf_walk.specs.Steps.AdvancesOne.{TakesRoot, PartsAtRoot, GoesOn, Parts, OldGoesOn, NewGoesOn}
use Rattle.sf_walk.specs.Steps.GoesFrom.{OnOne, Together, OldEnd, NewEnd}
use Rattle.sf_core.specs.Progress.{MayDecideBy}
use Rattle.sf_walk.specs.Steps.MayDecideWhere.{AtOnce, AtRoot, AtEnd}
use Rattle.sf_core.specs.Events.{Before, After, Decides}
use Rattle.sf_engine.specs.Deciding.{StopsOnWay, WalkStops, AreSure}
use Rattle.sf_engine.specs.HasLog.{HasMoved}

-- one more move
pub moved_on : (c d : Stage) (moves : ℕ) → HasMoved c moves → AdvancesOne c d → HasMoved d (moves + 1)
moved_on c d moves h (TakesRoot node) = omega (arith, h)
moved_on c d moves h (PartsAtRoot to e) = omega (arith, h, e)
moved_on c d moves h (GoesOn walked node to e) = omega (arith, h, e)
moved_on c d moves h (Parts walked node to e) = omega (arith, h, e)
moved_on c d moves h (OldGoesOn common old new to e) = omega (arith, h, e)
moved_on c d moves h (NewGoesOn common old new to e) = omega (arith, h, e)

early : (tree : Tree) (path : Path) (walked moves : ℕ) → moves ≡ walked + 1 → walked + 1 < length path → is_directory tree (take (walked + 1) path) ≡ false → StopsOnWay tree path moves
early tree path walked moves h less none = (omega (arith, h), omega (arith, h, less), ap (λ (k : ℕ). is_directory tree (take k path)) h ∙ none)

-- if the core may decide the call, it has stopped
pub stops : (tree : Tree) (r : Route) (at : Stage) (moves : ℕ) → IsPosition r at → HasMoved at moves → MayDecideBy tree r at → WalkStops tree r moves
stops tree r at moves is h AtOnce = h
stops tree r at moves is h AtRoot = inl h
stops tree r at moves (Starts o v) h (AtEnd q g path from j e) = elim j [ ]
stops tree r at moves (IsOn o v m less) h (AtEnd q g path from (OnOne p w n) (inl e)) = inl (h ∙ e)
stops tree r at moves (IsOn o v m less) h (AtEnd q g path from (OnOne p w n) (inr e)) = inr (early tree path w moves h e.0 e.1)
stops tree r at moves (IsBefore o u v m count part less) h (AtEnd q g path from (Together old new w n) (inl e)) = let short = part.short in absurd (omega (arith, e, less, short))
stops tree r at moves (IsBefore o u v m count part less) h (AtEnd q g path from (Together old new w n) (inr e)) = inl (early tree path w moves h e.0 e.1)
stops tree r at moves (IsApart o u d f g is) h (AtEnd q j path from (OldEnd old new c a b more) (inl e)) = absurd (omega (arith, e, more))
stops tree r at moves (IsApart o u d f g is) h (AtEnd q j path from (OldEnd old new c a b more) (inr e)) =
    let same = is.in_turn more in inl (early tree path from.walked moves (omega (arith, h, same)) e.0 e.1)
stops tree r at moves (IsApart o u d f g is) h (AtEnd q j path from (NewEnd old new c a b parent) e) = inr (c.walked, is.part, (from.walked, is.new_below, omega (arith, h, parent), e))

-- the records of a step at which its call takes effect
pub step_sure : (b : Before) (a : After) (c : Call) (given : Reply) → Decides b a c given → AreSure b.history a.added
step_sure b a c given d = d.sure
