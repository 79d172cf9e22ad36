-- Steps of a call from one stage; only the last stage is stored.
use Rattle.std.specs.Prelude.{◌≡◌, ◌<◌, ◌^◌, ℕ, List, Some, refl}
use Rattle.std.proofs.Common.{sym, ap, subst, ◌∙◌}
use Rattle.std.specs.Ordering.{nat_cmp}
use Rattle.std.specs.Map.{set_value}
use Rattle.std.specs.BTreeMap.{is_at}
use Rattle.std.proofs.lemmas.Map.Steps.{set_value_same}
use Rattle.sf_call.specs.declared.call.Call.{Call}
use Rattle.sf_call.specs.declared.call.Stage.{Stage}
use Rattle.sf_call.specs.Unanswered.{at_stage, staged}
use Rattle.sf_inode.specs.Stores.{StoreState}
use Rattle.sf_walk.specs.declared.walking.Walk.{Walk}
use Rattle.sf_walk.specs.declared.walking.Walk.TheVariants as walk
use Rattle.sf_walk.specs.Files.{IsFileFree}
use Rattle.sf_call.specs.Routes.{route_of}
use Rattle.sf_walk.specs.Steps.{Advances, walker}
use Rattle.sf_core.specs.declared.parts.WalkOutcome.TheVariants as outcome
use Rattle.sf_core.specs.Cores.{call_at}
use Rattle.sf_core.specs.Parts.{PartsView}
use Rattle.sf_core.specs.Sound.{IsCore}
use Rattle.sf_core.specs.Stepping.{HasComeTo, CallStep, come_to, stage_after, walked_calls}
use Rattle.sf_core.proofs.Maps.{set_same, set_twice}
use Rattle.sf_core.proofs.Updates.{staged_is}

-- ---- stored stages
staged_same : (calls : List (ℕ × Call)) (n : ℕ) (c : Call) → call_at calls n ≡ Some c → staged calls n c.stage ≡ calls
staged_same calls n c at = staged_is calls n c.stage c at ∙ set_value_same (is_at (nat_cmp n)) calls c at

pub staged_there : (calls : List (ℕ × Call)) (n : ℕ) (g : Stage) (c : Call) → call_at calls n ≡ Some c → call_at (staged calls n g) n ≡ Some (at_stage g c)
staged_there calls n g c at = ap (λ cs. call_at cs n) (staged_is calls n g c at) ∙ set_same calls n (at_stage g c) c at

staged_twice : (calls : List (ℕ × Call)) (n : ℕ) (g h : Stage) (c : Call) → call_at calls n ≡ Some c → staged (staged calls n g) n h ≡ staged calls n h
staged_twice calls n g h c at =
    staged_is (staged calls n g) n h (at_stage g c) (staged_there calls n g c at)
    ∙ ap (λ cs. set_value (is_at (nat_cmp n)) cs (at_stage h c)) (staged_is calls n g c at)
    ∙ set_twice (is_at (nat_cmp n)) calls (at_stage g c) (at_stage h c)
    ∙ sym (staged_is calls n h c at)

pub stage_stays : (w : Walk) (g : Stage) → ((after : Stage) → w ≡ walk.Moved after → ⊥) → stage_after w g ≡ g
stage_stays (walk.Moved after) g ne = absurd (ne after refl)
stage_stays _ g ne = refl

-- ---- one step
module _ (n : ℕ) (c : Call) where
  noted : (p : PartsView) (g : Stage) → call_at p.calls n ≡ Some (at_stage g c) → (w : Walk) → staged p.calls n (stage_after w g) ≡ walked_calls p.calls n w
  noted p g at (walk.Moved after) = refl
  noted p g at _ = staged_same p.calls n (at_stage g c) at

  pub one_step : (p : PartsView) (s t : StoreState) (g : Stage) (w : Walk) → HasComeTo p n s c g → s.look_ups < 2 ^ 64 → Advances s t (walker c.number (route_of c.request) g) w
      → CallStep p c.session n (outcome.Walked w) (come_to p n t (stage_after w g))
  one_step p s t g w on fits advances = record {
    core = on.core;
    fits = subst (λ (x : StoreState). x.look_ups < 2 ^ 64) (sym on.store) fits;
    comes = (
      at_stage g c,
      on.call,
      refl,
      on.undecided,
      record { free = (subst (λ (x : StoreState). IsFileFree x c) (sym on.store) on.free).free },
      record {
        advances = subst (λ (x : StoreState). Advances x t (walker c.number (route_of c.request) g) w) (sym on.store) advances;
        book = refl;
        sessions = refl;
        calls = noted p g on.call w;
        drawn = refl;
        joins = refl;
      },
    );
  }

  -- the directories that it holds
  pub come_same : (p : PartsView) (s : StoreState) (g : Stage) → HasComeTo p n s c g → come_to p n s g ≡ p
  come_same p s g on = λ i. record p { store = sym on.store i; calls = staged_same p.calls n (at_stage g c) on.call i }

  -- ---- one more step
  pub under_way : (p : PartsView) (s t : StoreState) (g h : Stage) → HasComeTo p n s c g → IsCore (come_to p n t h) → IsFileFree t c → HasComeTo (come_to p n t h) n t c h
  under_way p s t g h on core free = record {
    core = core;
    store = refl;
    call = staged_there p.calls n h (at_stage g c) on.call;
    undecided = on.undecided;
    free = free;
  }

  pub step_more : (p : PartsView) (s t u : StoreState) (g h : Stage) (w : Walk) → HasComeTo p n s c g → IsCore (come_to p n t h) → IsFileFree t c → t.look_ups < 2 ^ 64 → Advances t u (walker c.number (route_of c.request) h) w
      → CallStep (come_to p n t h) c.session n (outcome.Walked w) (come_to p n u (stage_after w h))
  step_more p s t u g h w on core free fits advances =
      subst (λ (q : PartsView). CallStep (come_to p n t h) c.session n (outcome.Walked w) q)
      (ap (λ cs. record p { store = u; calls = cs }) (staged_twice p.calls n h (stage_after w h) (at_stage g c) on.call))
      (one_step (come_to p n t h) t u h w (under_way p s t g h on core free) fits advances)
