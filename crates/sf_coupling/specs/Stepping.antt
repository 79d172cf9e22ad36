-- The steps of a call that resolves paths.
use Rattle.std.specs.Prelude.{◌≡◌, ◌⊎◌, ℕ, List, [], ◌∷◌, ◌++◌}
use Rattle.sf_path.specs.Names.{Name}
use Rattle.sf_coupling.specs.Walks.{HeldPath, Holds}

-- the path is the other one with one more name
pub record IsNextTo (p q : HeldPath) : Type 0 where
  pub name : Name
  pub is : q.path ≡ p.path ++ name ∷ []

-- the root, or an entry of a held directory
abbrev pub IsFrom : List HeldPath → HeldPath → Type 0
IsFrom was q = (q.path ≡ []) ⊎ ((p : HeldPath) × Holds was p × IsNextTo p q)

-- all of the paths are this one
abbrev pub AreAllAt : HeldPath → List HeldPath → Type 0
AreAllAt q [] = Unit {0}
AreAllAt q (s ∷ held_paths) = (s ≡ q) × AreAllAt q held_paths

abbrev pub AreSome : List HeldPath → Type 0
AreSome [] = ⊥
AreSome (s ∷ held_paths) = Unit {0}

-- The effect of a step to the new directory q on the held paths, for a call that does not complete:
-- all of them move to q, or one after the first moves on to q.
pub data TakesPath (q : HeldPath) : List HeldPath → List HeldPath → Type 0 where
  Comes : (was now : List HeldPath) → IsFrom was q → AreSome now → AreAllAt q now
      → TakesPath q was now
  GoesOnWith : (top : HeldPath) (front : List HeldPath) (p : HeldPath) (rest : List HeldPath)
      → IsNextTo p q → TakesPath q (top ∷ (front ++ p ∷ rest)) (top ∷ (front ++ q ∷ rest))
