-- A call that blocks another looks further down: the other waits for the first directory that it
-- holds.
use Rattle.std.specs.Prelude.{◌≡◌, ◌≢◌, ◌<◌, ◌+◌, ℕ, nat_le, true, false, if◌then◌else◌, List, [], ◌∷◌, ◌++◌, length, take, refl}
use Rattle.std.proofs.Common.{sym, ap, subst, ◌∙◌, inl, inr, arith, get_or, add-one}
use Rattle.std.proofs.Math.Seq.{take-suc}
use Rattle.std.proofs.lemmas.Bool.{leb-true, le-leb}
use Rattle.std.proofs.lemmas.List.{length-take}
use Rattle.sf_path.specs.Names.{Path}
use Rattle.sf_call.specs.declared.call.Reached.{Reached}
use Rattle.sf_call.specs.declared.call.Stage.{Stage}
use Rattle.sf_coupling.specs.Walks.{HeldPath, Holds, Walkers, AreWalks}
use Rattle.sf_coupling.specs.Stepping.{IsNextTo, IsFrom}
use Rattle.sf_coupling.proofs.Laws.{waits_at_top}
use Rattle.sf_call.specs.Routes.{Route}
use Rattle.sf_walk.specs.Routes.{IsPosition, reached, held_path_on, held_paths_of}
use Rattle.sf_walk.specs.Routes.IsPosition.{Starts, IsOn, IsBefore, IsApart}
use Rattle.sf_walk.specs.Steps.{GoesFrom, LooksUp}
use Rattle.sf_walk.specs.Steps.GoesFrom.{OnOne, Together, OldEnd, NewEnd}
use Rattle.sf_walk.specs.Steps.LooksUp.{Root, Next}
use Rattle.sf_core.specs.Progress.{depth_at}

one_more : (path : Path) (walked : ℕ) → walked < length path → take (walked + 1) path ≡ take walked path ++ get_or path walked [] ∷ []
one_more path walked less = ap (λ (k : ℕ). take k path) (add-one walked) ∙ take-suc path walked [] less

next_to : (path : Path) (from : Reached) (held_path : HeldPath) → from.walked < length path → held_path.path ≡ take (from.walked + 1) path → IsNextTo (held_path_on path from) held_path
next_to path from held_path less e = record { name = get_or path from.walked []; is = e ∙ one_more path from.walked less }

goes_first : (len old new : ℕ) → old + 1 < len → (if nat_le len (old + 1) then new + 1 else old + 1) ≡ old + 1
goes_first len old new less = elim (nat_le len (old + 1)) as (λ b. nat_le len (old + 1) ≡ b → (if b then new + 1 else old + 1) ≡ old + 1) [
  | true ↦ λ e. let h = leb-true len (old + 1) e in absurd (omega (arith, h, less))
  | false ↦ λ e. refl
] refl

goes_last : (len old new : ℕ) → old + 1 ≡ len → (if nat_le len (old + 1) then new + 1 else old + 1) ≡ new + 1
goes_last len old new same = ap (λ b. if b then new + 1 else old + 1) (le-leb len (old + 1) (omega (arith, same)))

-- a call that looks up a next component holds a directory, and components remain
pub on_way : (r : Route) (at : Stage) (path : Path) (from : Reached) → GoesFrom r at path from → IsPosition r at → (from.walked < length path) × Holds (held_paths_of r at) (held_path_on path from)
on_way r at path from (OnOne p w n) (IsOn o v m less) = (less, inl refl)
on_way r at path from (Together old new w n) (IsBefore o u v m count part less) = let short = part.short in (omega (arith, less, short), inl refl)
on_way r at path from (OldEnd old new c a b more) (IsApart o u d f g ends) = (ends.short, inr (inl refl))
on_way r at path from (NewEnd old new c a b parent) (IsApart o u d f g ends) = (ends.short_new, inr (inr (inl refl)))

-- what a call looks up next is the root, or one component past a directory that it holds
looks_from : (r : Route) (at : Stage) (to : Path) → LooksUp r at to → IsPosition r at → (held_path : HeldPath) → held_path.path ≡ to → IsFrom (held_paths_of r at) held_path
looks_from r at to (Root o path rest paths) is held_path e = inl e
looks_from r at to (Next o g path from goes) is held_path e = let way = on_way r at path from goes is in inr (held_path_on path from, way.1, next_to path from held_path way.0 e)

goes_depth : (r : Route) (at : Stage) (path : Path) (from : Reached) → GoesFrom r at path from → IsPosition r at → length (take (from.walked + 1) path) ≡ depth_at r at
goes_depth r at path from (OnOne p w n) (IsOn o v m less) = let a = length-take (w + 1) path in omega (arith, a, less)
goes_depth r at path from (Together old new w n) (IsBefore o u v m count part less) = let a = length-take (w + 1) path in let short = part.short in omega (arith, a, less, short)
goes_depth r at path from (OldEnd old new c a b more) (IsApart o u d f g ends) = let x = length-take (from.walked + 1) path in omega (arith, x, more, goes_first (length path) from.walked b.walked more)
goes_depth r at path from (NewEnd old new c a b parent) (IsApart o u d f g ends) =
    let x = length-take (from.walked + 1) path in let y = ends.short_new in omega (arith, x, y, goes_last (length old) a.walked from.walked parent)

-- the depth at which it looks
looks_depth : (r : Route) (at : Stage) (to : Path) → LooksUp r at to → IsPosition r at → length to ≡ depth_at r at
looks_depth r at to (Root o path rest paths) is = refl
looks_depth r at to (Next o g path from goes) is = goes_depth r at path from goes is

-- it looks further down than its first path
first_depth : (r : Route) (at : Stage) → IsPosition r at → (top : HeldPath) (ends : List HeldPath) → held_paths_of r at ≡ top ∷ ends → length top.path < depth_at r at
first_depth r at (Starts o is) top ends e = cc
first_depth r at (IsOn path w n less) top ends e =
    let same : held_path_on path (reached w n) ≡ top = cc in
    let a = length-take w path in
    let b = ap (λ (s : HeldPath). length s.path) same in
    omega (arith, a, b)
first_depth r at (IsBefore old new w n count part less) top ends e =
    let same : held_path_on old (reached w n) ≡ top = cc in
    let a = length-take w old in
    let b = ap (λ (s : HeldPath). length s.path) same in
    omega (arith, a, b)
first_depth r at (IsApart old new c f g is) top ends e =
    let same : held_path_on old c ≡ top = cc in
    let a = length-take c.walked old in
    let b = ap (λ (s : HeldPath). length s.path) same in
    let x = is.old_below in
    let y = is.new_below in
    elim (nat_le (length old) (f.walked + 1)) as (λ d. length top.path < (if d then g.walked + 1 else f.walked + 1)) [
      | true ↦ omega (arith, a, b, y)
      | false ↦ omega (arith, a, b, x)
    ]

-- a call that needs what another holds looks less far down
-- a call that holds paths: its number, its route and its stage
pub record WalkingCall (s : Walkers) : Type 0 where
  pub number : ℕ
  pub route : Route
  pub at : Stage
  pub holds : s.held_paths number ≡ held_paths_of route at
  pub position : IsPosition route at

pub looks_deeper : (s : Walkers) → AreWalks s → (a b : WalkingCall s) → a.number ≢ b.number → (wanted : HeldPath) → LooksUp a.route a.at wanted.path → Holds (s.held_paths b.number) wanted → depth_at a.route a.at < depth_at b.route b.at
looks_deeper s walks a b other wanted looks held =
    by (held_paths_of b.route b.at) refl (subst (λ (x : List HeldPath). Holds x wanted) b.holds held)
  where
    by : (held_paths : List HeldPath) → held_paths_of b.route b.at ≡ held_paths → Holds held_paths wanted → depth_at a.route a.at < depth_at b.route b.at
    by [] e h = absurd h
    by (top ∷ ends) e h =
        let looked = looks_depth a.route a.at wanted.path looks a.position in
        let first = first_depth b.route b.at b.position top ends e in
        let from = subst (λ (x : List HeldPath). IsFrom x wanted) (sym a.holds) (looks_from a.route a.at wanted.path looks a.position wanted refl) in
        let same = waits_at_top walks other wanted from (b.holds ∙ e) h in
        let d = ap (λ (p : Path). length p) same in
        omega (arith, looked, first, d)
