-- Calls that resolve paths with lock coupling, and the invariant between two events.
use Rattle.std.specs.Prelude.{◌≡◌, ◌≢◌, ◌⊎◌, ℕ, Bool, true, List, [], ◌∷◌, Option, Some, None}
use Rattle.sf_path.specs.Names.{Path}
use Rattle.sf_coupling.specs.Fronts.{IsPrefix}

-- the inode of each path, and which inodes are directories
pub record Namespace : Type 0 where
  pub leads : Path → Option ℕ
  pub is_directory : ℕ → Bool

-- a directory that a call holds or moves to: its path from the root, and its inode
pub record HeldPath : Type 0 where
  pub path : Path
  pub node : ℕ

-- A call holds a list of paths: none; the directory that it has reached; or, for two paths, their
-- last common directory and one on each path.
abbrev pub Holds : List HeldPath → HeldPath → Type 0
Holds [] s = ⊥
Holds (p ∷ held_paths) s = (s ≡ p) ⊎ Holds held_paths s

-- the inode of one of the held paths
pub record IsNodeOf (held_paths : List HeldPath) (l : ℕ) : Type 0 where
  pub held_path : HeldPath
  pub holds : Holds held_paths held_path
  pub node : held_path.node ≡ l

-- the path is a prefix of a held one, or equal to it
abbrev pub IsOnWayTo : List HeldPath → Path → Type 0
IsOnWayTo [] q = ⊥
IsOnWayTo (p ∷ held_paths) q = IsPrefix q p.path ⊎ IsOnWayTo held_paths q

-- the paths from the first held one to the others, both ends included
abbrev pub IsBetween : List HeldPath → Path → Type 0
IsBetween [] q = ⊥
IsBetween (top ∷ ends) q = IsPrefix top.path q × IsOnWayTo ends q

abbrev pub AreBelow : Path → List HeldPath → Type 0
AreBelow p [] = Unit {0}
AreBelow p (s ∷ held_paths) = IsPrefix p s.path × AreBelow p held_paths

-- the others are at or below the first
abbrev pub IsShaped : List HeldPath → Type 0
IsShaped [] = Unit {0}
IsShaped (top ∷ ends) = AreBelow top.path ends

-- its path resolves to its inode, which is a directory
pub record LeadsTo (t : Namespace) (s : HeldPath) : Type 0 where
  pub names : t.leads s.path ≡ Some s.node
  pub directory : t.is_directory s.node ≡ true

-- the namespace, the paths that each call holds, by call number, and the holder of each inode
pub record Walkers : Type 0 where
  pub namespace : Namespace
  pub held_paths : ℕ → List HeldPath
  pub holder : ℕ → Option ℕ

abbrev pub walkers_at : Namespace → (ℕ → List HeldPath) → (ℕ → Option ℕ) → Walkers
walkers_at namespace held_paths holder =
    record { namespace = namespace; held_paths = held_paths; holder = holder }

-- The invariant of lock coupling: held paths resolve to held inodes, nothing else is held, and no
-- call holds a directory between the first path of another call and its others.
pub record AreWalks (s : Walkers) : Type 0 where
  pub shaped : (n : ℕ) → IsShaped (s.held_paths n)
  pub leads : (n : ℕ) (at : HeldPath) → Holds (s.held_paths n) at → LeadsTo s.namespace at
  pub held : (n : ℕ) (at : HeldPath) → Holds (s.held_paths n) at → s.holder at.node ≡ Some n
  pub holds : (l n : ℕ) → s.holder l ≡ Some n → IsNodeOf (s.held_paths n) l
  pub apart : (n m : ℕ) (at : HeldPath) → n ≢ m → Holds (s.held_paths m) at
      → IsBetween (s.held_paths n) at.path → ⊥

-- no other call holds the inode
abbrev pub IsFree : (ℕ → Option ℕ) → ℕ → ℕ → Type 0
IsFree holder n node = (m : ℕ) → holder node ≡ Some m → n ≡ m

-- Hand over hand: call n holds the inodes of its current paths, and has released all others that it
-- held.
pub record HandsOver (holder holder' : ℕ → Option ℕ) (n : ℕ) (was now : List HeldPath)
    : Type 0 where
  pub here : (l : ℕ) → IsNodeOf now l → holder' l ≡ Some n
  pub gone : (l : ℕ) → IsNodeOf was l → (IsNodeOf now l → ⊥) → holder' l ≡ None
  pub rest : (l : ℕ) → (IsNodeOf was l → ⊥) → (IsNodeOf now l → ⊥) → holder' l ≡ holder l

-- Call n holds other paths, or none, and the namespace may have changed. The other calls hold the
-- same paths, still resolved, and the new paths are apart from theirs.
pub record HoldsOthers (old new : Walkers) (n : ℕ) : Type 0 where
  pub same : (m : ℕ) → n ≢ m → new.held_paths m ≡ old.held_paths m
  pub hands : HandsOver old.holder new.holder n (old.held_paths n) (new.held_paths n)
  pub free : (l : ℕ) → IsNodeOf (new.held_paths n) l → IsFree old.holder n l
  pub shaped : IsShaped (new.held_paths n)
  pub spared : (m : ℕ) (s : HeldPath) → n ≢ m → Holds (old.held_paths m) s → LeadsTo old.namespace s
      → LeadsTo new.namespace s
  pub leads : (s : HeldPath) → Holds (new.held_paths n) s → LeadsTo new.namespace s
  pub apart : (m : ℕ) (s : HeldPath) → n ≢ m → Holds (old.held_paths m) s
      → IsBetween (new.held_paths n) s.path → ⊥
  pub aside : (m : ℕ) (s : HeldPath) → n ≢ m → Holds (new.held_paths n) s
      → IsBetween (old.held_paths m) s.path → ⊥
