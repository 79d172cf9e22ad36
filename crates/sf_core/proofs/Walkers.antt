-- The holders of directories, from the holders of all inodes.
use Rattle.std.specs.Prelude.{◌≡◌, ℕ, Bool, true, false, if◌then◌else◌, List, [], Option, Some, None, refl}
use Rattle.std.proofs.Common.{ap, ◌∙◌, inl, inr}
use Rattle.sf_inode.specs.declared.node.Node.{Node}
use Rattle.sf_inode.specs.Stores.{StoreState, holder_of, is_directory_at}
use Rattle.sf_coupling.specs.Walks.{HeldPath, IsNodeOf, IsFree, HandsOver}
use Rattle.sf_call.specs.declared.call.Stage.{Stage}
use Rattle.sf_call.specs.declared.call.Stage.TheVariants as stage
use Rattle.sf_call.specs.Routes.{Route}
use Rattle.sf_walk.specs.Routes.{held_paths_of}
use Rattle.sf_core.specs.Progress.{IsCopying}
use Rattle.sf_core.specs.Sound.{walker_of, IsAtRest}
use Rattle.sf_core.proofs.Maps.{if_some}

pub if_none : (b : Bool) (o : Option ℕ) → o ≡ None → (if b then o else None) ≡ None
if_none true o e = e
if_none false o e = refl

-- `walker_of` a directory is its holder
pub walker_is : (nodes : List (Option Node)) (id n : ℕ) → is_directory_at nodes id ≡ true → holder_of nodes id ≡ Some n → walker_of nodes id ≡ Some n
walker_is nodes id n directory held = ap (λ (b : Bool). if b then holder_of nodes id else None) directory ∙ held

-- `walker_of` an inode is its holder, and the inode is a directory
pub walker_holds : (nodes : List (Option Node)) (id n : ℕ) → walker_of nodes id ≡ Some n → (is_directory_at nodes id ≡ true) × (holder_of nodes id ≡ Some n)
walker_holds nodes id n e = if_some (is_directory_at nodes id) (holder_of nodes id) n e

-- an inode that is not held is no other call's directory
pub free_walks : (nodes : List (Option Node)) (n id : ℕ) → IsFree (holder_of nodes) n id → IsFree (walker_of nodes) n id
free_walks nodes n id free = λ m e. free m (walker_holds nodes id m e).1

-- what is handed over for inodes is handed over for directories
pub walks_hands : (s t : StoreState) (n : ℕ) (was now : List HeldPath) → ((l : ℕ) → is_directory_at t.nodes l ≡ is_directory_at s.nodes l) → ((l : ℕ) → IsNodeOf now l → is_directory_at t.nodes l ≡ true)
    → HandsOver (holder_of s.nodes) (holder_of t.nodes) n was now → HandsOver (walker_of s.nodes) (walker_of t.nodes) n was now
walks_hands s t n was now same directories hands = record {
  here = λ l h. walker_is t.nodes l n (directories l h) (hands.here l h);
  gone = λ l before not. if_none (is_directory_at t.nodes l) (holder_of t.nodes l) (hands.gone l before not);
  rest = λ l before not. λ i. if same l i then hands.rest l before not i else None;
}

-- a decided call holds no directory
copying_none : (r : Route) (g : Stage) → IsCopying g → held_paths_of r g ≡ []
copying_none r (stage.Copies node left) copying = refl
copying_none r _ copying = absurd copying

pub rests_none : (r : Route) (g : Stage) → IsAtRest g → held_paths_of r g ≡ []
rests_none r g (inl fresh) = ap (held_paths_of r) fresh
rests_none r g (inr copying) = copying_none r g copying
