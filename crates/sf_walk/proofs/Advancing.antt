-- The outcomes of a step of a call.
use Rattle.std.specs.Prelude.{◌≡◌, ◌≢◌, ◌<◌, ◌+◌, ℕ, true, false, List, [], ◌∷◌, ◌++◌, length, take, Option, Some, refl}
use Rattle.std.proofs.Common.{sym, ap, subst, ◌∙◌, arith, inl, inr, get_or, add-one}
use Rattle.std.proofs.Math.Seq.{take-suc}
use Rattle.sf_path.specs.Names.{Path}
use Rattle.sf_call.specs.declared.call.Reached.{Reached}
use Rattle.sf_call.specs.declared.call.Stage.{Stage}
use Rattle.sf_call.specs.declared.call.Stage.TheVariants as stage
use Rattle.sf_inode.specs.Stores.{StoreState, child_of, holder_of, is_directory_at, looked_up}
use Rattle.sf_keeps.specs.Steps.{walk}
use Rattle.sf_coupling.specs.Walks.{HeldPath, LeadsTo, IsFree}
use Rattle.sf_coupling.specs.Stepping.{IsNextTo, TakesPath}
use Rattle.sf_coupling.specs.Stepping.TakesPath.{Comes, GoesOnWith}
use Rattle.sf_walk.specs.declared.finding.Located.{Located}
use Rattle.sf_walk.specs.declared.finding.Located.TheVariants as located
use Rattle.sf_call.specs.Routes.{Route, are_nested}
use Rattle.sf_walk.specs.Routes.{PartAt, AreEnds, IsPosition, reached, paths_on, held_path_on, held_paths_of, namespace, HoldsWay}
use Rattle.sf_call.specs.Routes.Route.{NoPath, Along, Between}
use Rattle.sf_walk.specs.Routes.IsPosition.{Starts, IsOn, IsBefore, IsApart}
use Rattle.sf_walk.specs.Ways.{no_path, along, between, way_from}
use Rattle.sf_walk.specs.Served.{LookedUp}
use Rattle.sf_walk.specs.Further.{ComesToBoth, LeadsOnWay, PartLater, IsHeldThere, IsHeldOnWay, IsNextFree}
use Rattle.sf_walk.specs.Steps.{walker, GoesFrom, AdvancesOne, entered, handed_over, AdvancesTo, WaitsFor, EndsAt, MayDecideAt, IsFreeThere, AreFree, DecidesNow}
use Rattle.sf_walk.specs.Steps.AdvancesOne.{TakesRoot, PartsAtRoot, GoesOn, Parts, OldGoesOn, NewGoesOn}
use Rattle.sf_walk.specs.Steps.GoesFrom.{NewEnd}
use Rattle.sf_walk.specs.Steps.LooksUp.{Root, Next}
use Rattle.sf_walk.specs.Steps.MayDecideWhere.{AtOnce, AtRoot, AtEnd}
use Rattle.sf_walk.proofs.LookUps.{looked_none, looked_more, looked_less, looked_itself}
use Rattle.sf_walk.proofs.Onward.{last_leads}

-- ---- the position of a call
fresh_without_path : (at : Stage) → IsPosition NoPath at → at ≡ stage.Fresh
fresh_without_path at (Starts r is) = refl

-- a call without a path is decided at once
pub at_once : (s : StoreState) (number : ℕ) (at : Stage) → HoldsWay s NoPath at → DecidesNow s s (walker number NoPath at) no_path
at_once s number at stands =
    subst (λ (g : Stage). DecidesNow s s (walker number NoPath g) no_path) (sym (fresh_without_path at stands.position))
    (record { may = AtOnce; located = (refl, tt); free = tt; holds = tt; looked = looked_itself s 2 })

pub one_not_two : (path : Path) (common old new : Reached) → IsPosition (Along path) (stage.Ends common old new) → ⊥
one_not_two path common old new is = elim is [ ]

pub stands_first : (s : StoreState) (old new : Path) → HoldsWay s (Between old new) stage.Fresh → are_nested old new ≡ false
stands_first s old new h = by h.position
  where
    by : IsPosition (Between old new) stage.Fresh → are_nested old new ≡ false
    by (Starts r is) = is

on_way : (s : StoreState) (path : Path) (at : Reached) → at.walked < length path → LeadsTo (namespace s) (held_path_on path at) → LeadsOnWay s path at.walked at.node
on_way s path at short leads = record { short = short; leads = leads.names; directory = leads.directory }

pub stands_on_one : (s : StoreState) (path : Path) (walked node : ℕ) → HoldsWay s (Along path) (stage.At walked node) → LeadsOnWay s path walked node
stands_on_one s path walked node h = by h.position
  where
    by : IsPosition (Along path) (stage.At walked node) → LeadsOnWay s path walked node
    by (IsOn p w n less) = on_way s path (reached walked node) less (h.leads (held_path_on path (reached walked node)) (inl refl))

pub stands_together : (s : StoreState) (old new : Path) (walked node : ℕ) → HoldsWay s (Between old new) (stage.At walked node) → LeadsOnWay s old walked node × PartLater old new (walked + 1)
stands_together s old new walked node h = by h.position
  where
    by : IsPosition (Between old new) (stage.At walked node) → LeadsOnWay s old walked node × PartLater old new (walked + 1)
    by (IsBefore p q w n count part less) =
        let short = part.short in (
          on_way s old (reached walked node) (omega (arith, less, short)) (h.leads (held_path_on old (reached walked node)) (inl refl)),
          record { count = count; part = part; later = omega (arith, less) },
        )

module _ (s : StoreState) (old new : Path) (common from to : Reached) (h : HoldsWay s (Between old new) (stage.Ends common from to)) where
  pub ends : AreEnds old new common from to
  ends = by h.position
    where
      by : IsPosition (Between old new) (stage.Ends common from to) → AreEnds old new common from to
      by (IsApart p q c a b is) = is

  pub old_on_way : LeadsOnWay s old from.walked from.node
  old_on_way = on_way s old from ends.short (h.leads (held_path_on old from) (inr (inl refl)))

  pub new_on_way : LeadsOnWay s new to.walked to.node
  new_on_way = on_way s new to ends.short_new (h.leads (held_path_on new to) (inr (inr (inl refl))))

-- where two paths part, both ends are at the common directory
pub ends_at : (from to : Path) (at : Reached) → PartAt from to at.walked → AreEnds from to at at at
ends_at from to at part = record { part = part; old_below = omega arith; new_below = omega arith; short = part.short; short_new = part.short_new; in_turn = λ more. refl }

-- ---- the root
module _ (s : StoreState) (number root : ℕ) (is : root ≡ s.root) where
  pub decides_root : (path : Path) → path ≡ [] → DecidesNow s s (walker number (Along path) stage.Fresh) (along (located.At root root))
  decides_root path e =
      subst (λ (p : Path). DecidesNow s s (walker number (Along p) stage.Fresh) (along (located.At root root))) (sym e)
      (record { may = AtRoot; located = (refl, ap (λ r. located.At r r) is); free = tt; holds = tt; looked = looked_itself s 2 })

  pub waits_root : (r : Route) (path : Path) (rest : List Path) → paths_on r ≡ path ∷ rest → (holder : ℕ) → holder_of s.nodes root ≡ Some holder → number ≢ holder → WaitsFor s s (walker number r stage.Fresh) holder
  waits_root r path rest paths holder held other = record { to = []; node = root; looks = Root r path rest paths; leads = ap Some (sym is); held = held; other = other; looked = looked_itself s 1 }

  module _ (dir : is_directory_at s.nodes s.root ≡ true) (free : IsFree (holder_of s.nodes) number root) (last : StoreState) where
    leads_root : LeadsTo (namespace s) (record { path = []; node = root })
    leads_root = record { names = ap Some (sym is); directory = subst (λ r. is_directory_at s.nodes r ≡ true) (sym is) dir }

    pub moves_first : (path : Path) → 0 < length path → last ≡ handed_over number stage.Fresh (stage.At 0 root) root s → AdvancesTo s last (walker number (Along path) stage.Fresh) (stage.At 0 root)
    moves_first path some state = record {
      held_path = record { path = []; node = root };
      takes = Comes [] (record { path = []; node = root } ∷ []) (inl refl) tt (refl, tt);
      leads = leads_root;
      free = free;
      position = IsOn path 0 root some;
      walks = TakesRoot root;
      state = state;
    }

    pub moves_first_of_two : (from to : Path) (after : Stage) → ComesToBoth from to (reached 0 root) after → last ≡ handed_over number stage.Fresh after root s → AdvancesTo s last (walker number (Between from to) stage.Fresh) after
    moves_first_of_two from to after (inl h) state = record {
      held_path = record { path = []; node = root };
      takes = subst (λ (g : Stage). TakesPath (record { path = []; node = root }) [] (held_paths_of (Between from to) g)) (sym h.3) (Comes [] (record { path = []; node = root } ∷ []) (inl refl) tt (refl, tt));
      leads = leads_root;
      free = free;
      position = subst (λ (g : Stage). IsPosition (Between from to) g) (sym h.3) (IsBefore from to 0 root h.0 h.1 h.2);
      walks = subst (AdvancesOne stage.Fresh) (sym h.3) (TakesRoot root);
      state = state;
    }
    moves_first_of_two from to after (inr h) state =
        let q : HeldPath = record { path = []; node = root } in
        record {
          held_path = record { path = []; node = root };
          takes = subst (λ (g : Stage). TakesPath (record { path = []; node = root }) [] (held_paths_of (Between from to) g)) (sym h.1) (Comes [] (record { path = []; node = root } ∷ record { path = []; node = root } ∷ record { path = []; node = root } ∷ []) (inl refl) tt (refl, (refl, (refl, tt))));
          leads = leads_root;
          free = free;
          position = subst (λ (g : Stage). IsPosition (Between from to) g) (sym h.1) (IsApart from to (reached 0 root) (reached 0 root) (reached 0 root) (ends_at from to (reached 0 root) h.0));
          walks = subst (AdvancesOne stage.Fresh) (sym h.1) (PartsAtRoot (reached 0 root) refl);
          state = state;
        }

-- ---- a lookup changes no inode
pub way_looked_up : (old new : StoreState) (path : Path) (at : Reached) → new ≡ looked_up old → LeadsOnWay old path at.walked at.node → LeadsOnWay new path at.walked at.node
way_looked_up old new path at e h = subst (λ (s : StoreState). LeadsOnWay s path at.walked at.node) (sym e) (record { short = h.short; leads = h.leads; directory = h.directory })

looked_once : (old new : StoreState) → new ≡ looked_up old → LookedUp old new 1
looked_once old new e = looked_more old old new 0 (looked_none old) e

way_after : (old new : StoreState) (p : Path) → new ≡ looked_up old → way_from old.nodes old.root old.root p ≡ way_from new.nodes new.root new.root p
way_after old new p e = ap (λ (s : StoreState). way_from s.nodes s.root s.root p) (sym e)

pub free_before : (old new : StoreState) (number : ℕ) (found : Located) → new ≡ looked_up old → IsFreeThere (holder_of new.nodes) number found → IsFreeThere (holder_of old.nodes) number found
free_before old new number found e h = subst (λ (s : StoreState). IsFreeThere (holder_of s.nodes) number found) e h

free_along : (holder : ℕ → Option ℕ) (number : ℕ) (path : Path) (found : Located) → IsFreeThere holder number found → AreFree holder number (Along path) (along found)
free_along holder number [] found h = tt
free_along holder number (n ∷ path) found h = h

-- ---- one component further
one_more : (path : Path) (walked : ℕ) → walked < length path → take (walked + 1) path ≡ take walked path ++ get_or path walked [] ∷ []
one_more path walked less = ap (λ (k : ℕ). take k path) (add-one walked) ∙ take-suc path walked [] less

module _ (s : StoreState) (number : ℕ) (path : Path) (from to : Reached) (free : IsNextFree s number path from to) where
  pub next_to : from.walked < length path → IsNextTo (held_path_on path from) (held_path_on path to)
  next_to less = record { name = get_or path from.walked []; is = ap (λ k. take k path) free.walked ∙ one_more path from.walked less }

  pub next_leads : LeadsTo (namespace s) (held_path_on path to)
  next_leads = record { names = ap (λ k. walk (child_of s.nodes) s.root (take k path)) free.walked ∙ free.on_way.leads; directory = free.on_way.directory }

  pub next_short : to.walked < length path
  next_short = let a = free.walked in let b = free.on_way.short in omega (arith, a, b)

-- ---- after one lookup
module _ (old new : StoreState) (looked : new ≡ looked_up old) (number : ℕ) where
  pub decides_one : (path : Path) (at : Stage) → MayDecideAt old.nodes (Along path) at → (found : Located) → found ≡ way_from old.nodes old.root old.root path → IsFreeThere (holder_of old.nodes) number found
      → DecidesNow old new (walker number (Along path) at) (along found)
  decides_one path at may found is free = record {
    may = may;
    located = (refl, is ∙ way_after old new path looked);
    free = free_along (holder_of old.nodes) number path found free;
    holds = tt;
    looked = looked_less old new 1 2 (looked_once old new looked) (omega arith);
  }

  pub decides_nowhere : (from to : Path) (at : Stage) → MayDecideAt old.nodes (Between from to) at → located.NoWay ≡ way_from old.nodes old.root old.root from
      → DecidesNow old new (walker number (Between from to) at) (between located.NoWay located.NoWay)
  decides_nowhere from to at may is = record {
    may = may;
    located = (refl, (is ∙ way_after old new from looked, λ there. absurd there));
    free = tt;
    holds = λ there. absurd there;
    looked = looked_less old new 1 2 (looked_once old new looked) (omega arith);
  }

  module _ (r : Route) (at : Stage) (path : Path) (from : Reached) (goes : GoesFrom r at path from) where
    pub waits_on_way : (holder : ℕ) → IsHeldOnWay old number path (from.walked + 1) holder → WaitsFor old new (walker number r at) holder
    waits_on_way holder h = record {
      to = take (from.walked + 1) path;
      node = h.node;
      looks = Next r at path from goes;
      leads = h.leads;
      held = h.held;
      other = h.other;
      looked = looked_once old new looked;
    }

    pub waits_there : (holder : ℕ) (found : Located) → from.walked + 1 ≡ length path → found ≡ way_from old.nodes old.root old.root path → IsHeldThere new number found holder
        → WaitsFor old new (walker number r at) holder
    waits_there holder found last is h = record {
      to = take (from.walked + 1) path;
      node = h.node;
      looks = Next r at path from goes;
      leads = last_leads old path from.walked h.parent h.node (sym is ∙ h.there) last;
      held = sym (ap (λ (s : StoreState). holder_of s.nodes h.node) looked) ∙ h.held;
      other = h.other;
      looked = looked_once old new looked;
    }

  pub moves : (r : Route) (at after : Stage) (path : Path) (from to : Reached) (last : StoreState) → IsNextFree old number path from to → TakesPath (held_path_on path to) (held_paths_of r at) (held_paths_of r after) → IsPosition r after → AdvancesOne at after
      → entered at old ≡ looked_up old → last ≡ handed_over number at after to.node new → AdvancesTo old last (walker number r at) after
  moves r at after path from to last free takes position walks enters state = record {
    held_path = held_path_on path to;
    takes = takes;
    leads = next_leads old number path from to free;
    free = free.free;
    position = position;
    walks = walks;
    state = state ∙ ap (λ (s : StoreState). handed_over number at after to.node s) (looked ∙ sym enters);
  }

  -- ---- on one path
  pub moves_one : (path : Path) (at to : Reached) (last : StoreState) → LeadsOnWay old path at.walked at.node → IsNextFree old number path at to
      → last ≡ handed_over number (stage.At at.walked at.node) (stage.At to.walked to.node) to.node new → AdvancesTo old last (walker number (Along path) (stage.At at.walked at.node)) (stage.At to.walked to.node)
  moves_one path at to last way free state =
      moves (Along path) (stage.At at.walked at.node) (stage.At to.walked to.node) path at to last free
      (Comes (held_path_on path at ∷ []) (held_path_on path to ∷ []) (inr (held_path_on path at, inl refl, next_to old number path at to free way.short)) tt (refl, tt))
      (IsOn path to.walked to.node (next_short old number path at to free)) (GoesOn at.walked at.node to free.walked) refl state

  -- ---- on two paths, before they part
  pub moves_together : (from to : Path) (at next : Reached) (after : Stage) (last : StoreState) → LeadsOnWay old from at.walked at.node → IsNextFree old number from at next → ComesToBoth from to next after
      → last ≡ handed_over number (stage.At at.walked at.node) after next.node new → AdvancesTo old last (walker number (Between from to) (stage.At at.walked at.node)) after
  moves_together from to at next after last way free comes state =
      by (next_to old number from at next free way.short) comes state
    where
      by : IsNextTo (held_path_on from at) (held_path_on from next) → ComesToBoth from to next after → last ≡ handed_over number (stage.At at.walked at.node) after next.node new
          → AdvancesTo old last (walker number (Between from to) (stage.At at.walked at.node)) after
      by goes (inl h) state =
          moves (Between from to) (stage.At at.walked at.node) after from at next last free
          (subst (λ (g : Stage). TakesPath (held_path_on from next) (held_path_on from at ∷ []) (held_paths_of (Between from to) g)) (sym h.3)
          (Comes (held_path_on from at ∷ []) (held_path_on from next ∷ []) (inr (held_path_on from at, inl refl, goes)) tt (refl, tt)))
          (subst (λ (g : Stage). IsPosition (Between from to) g) (sym h.3) (IsBefore from to next.walked next.node h.0 h.1 h.2))
          (subst (λ (g : Stage). AdvancesOne (stage.At at.walked at.node) g) (sym h.3) (GoesOn at.walked at.node next free.walked)) refl state
      by goes (inr h) state =
          let same : held_path_on to next ≡ held_path_on from next = λ i. record { path = sym h.0.alike i; node = next.node } in
          moves (Between from to) (stage.At at.walked at.node) after from at next last free
          (subst (λ (g : Stage). TakesPath (held_path_on from next) (held_path_on from at ∷ []) (held_paths_of (Between from to) g)) (sym h.1)
          (Comes (held_path_on from at ∷ []) (held_path_on from next ∷ held_path_on from next ∷ held_path_on to next ∷ []) (inr (held_path_on from at, inl refl, goes)) tt (refl, (refl, (same, tt)))))
          (subst (λ (g : Stage). IsPosition (Between from to) g) (sym h.1) (IsApart from to next next next (ends_at from to next h.0)))
          (subst (λ (g : Stage). AdvancesOne (stage.At at.walked at.node) g) (sym h.1) (Parts at.walked at.node next free.walked)) refl state

  -- ---- on two paths, after they have parted
  module _ (from to : Path) (common a b : Reached) (is : AreEnds from to common a b) where
    pub moves_old : (next : Reached) (last : StoreState) → a.walked + 1 < length from → IsNextFree old number from a next → last ≡ handed_over number (stage.Ends common a b) (stage.Ends common next b) next.node new
        → AdvancesTo old last (walker number (Between from to) (stage.Ends common a b)) (stage.Ends common next b)
    moves_old next last more free state =
        moves (Between from to) (stage.Ends common a b) (stage.Ends common next b) from a next last free
        (GoesOnWith (held_path_on from common) [] (held_path_on from a) (held_path_on to b ∷ []) (next_to old number from a next free is.short))
        (IsApart from to common next b (record {
          part = is.part;
          old_below = let x = is.old_below in let y = free.walked in omega (arith, x, y);
          new_below = is.new_below;
          short = next_short old number from a next free;
          short_new = is.short_new;
          in_turn = λ e. is.in_turn more;
        }))
        (OldGoesOn common a b next free.walked) refl state

    pub moves_new : (next : Reached) (last : StoreState) → a.walked + 1 ≡ length from → IsNextFree old number to b next → last ≡ handed_over number (stage.Ends common a b) (stage.Ends common a next) next.node new
        → AdvancesTo old last (walker number (Between from to) (stage.Ends common a b)) (stage.Ends common a next)
    moves_new next last parent free state =
        moves (Between from to) (stage.Ends common a b) (stage.Ends common a next) to b next last free
        (GoesOnWith (held_path_on from common) (held_path_on from a ∷ []) (held_path_on to b) [] (next_to old number to b next free is.short_new))
        (IsApart from to common a next (record {
          part = is.part;
          old_below = is.old_below;
          new_below = let x = is.new_below in let y = free.walked in omega (arith, x, y);
          short = is.short;
          short_new = next_short old number to b next free;
          in_turn = λ e. absurd (omega (arith, e, parent));
        }))
        (NewGoesOn common a b next free.walked) refl state

-- with the old path's parent held, a call is decided after two lookups
module _ (number : ℕ) (path to : Path) (common a b : Reached) (old mid : StoreState) (looked : mid ≡ looked_up old) (parent : a.walked + 1 ≡ length path) where
  pub decides_at_old_parent : (new : StoreState) → new ≡ looked_up mid → (found : Located) → found ≡ way_from mid.nodes mid.root mid.root path → (there : Located) → EndsAt old.nodes to b
      → there ≡ way_from old.nodes old.root old.root to → IsFreeThere (holder_of old.nodes) number there → DecidesNow old new (walker number (Between path to) (stage.Ends common a b)) (between found there)
  decides_at_old_parent new again found is there ends is_there free = record {
    may = AtEnd (Between path to) (stage.Ends common a b) to b (NewEnd path to common a b parent) ends;
    located = (refl, (is ∙ way_after mid new path again, λ _. is_there ∙ way_after old mid to looked ∙ way_after mid new to again));
    free = free;
    holds = λ _. (common, a, b, refl, parent);
    looked = looked_more old mid new 1 (looked_once old mid looked) again;
  }
