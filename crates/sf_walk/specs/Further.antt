-- No public clause cites this module.
-- The parts of a step.
use Rattle.std.specs.Prelude.{◌≡◌, ◌≢◌, ◌⊎◌, ◌<◌, ◌≤◌, ◌+◌, ℕ, true, length, take, slice_get, Some}
use Rattle.sf_path.specs.Names.{Path}
use Rattle.sf_call.specs.declared.call.Reached.{Reached}
use Rattle.sf_call.specs.declared.call.Stage.{Stage}
use Rattle.sf_call.specs.declared.call.Stage.TheVariants as stage
use Rattle.sf_inode.specs.Stores.{StoreState, child_of, holder_of, is_directory_at, looked_up}
use Rattle.sf_keeps.specs.Steps.{walk}
use Rattle.sf_coupling.specs.Walks.{IsFree}
use Rattle.sf_walk.specs.declared.finding.Located.{Located}
use Rattle.sf_walk.specs.declared.finding.Located.TheVariants as located
use Rattle.sf_walk.specs.declared.looking.Further.{Further}
use Rattle.sf_walk.specs.declared.looking.Further.TheVariants as further
use Rattle.sf_walk.specs.Routes.{PartAt}
use Rattle.sf_walk.specs.Steps.{LeadsNowhere}

-- a proper prefix of the path, of this length, leads to the directory
pub record LeadsOnWay (s : StoreState) (path : Path) (walked node : ℕ) : Type 0 where
  pub short : walked < length path
  pub leads : walk (child_of s.nodes) s.root (take walked path) ≡ Some node
  pub directory : is_directory_at s.nodes node ≡ true

-- two paths part after `walked` names or later
pub record PartLater (old new : Path) (walked : ℕ) : Type 0 where
  pub count : ℕ
  pub part : PartAt old new count
  pub later : walked ≤ count

-- a call on two paths reached a common directory; where they part, both its ends are at it
abbrev pub ComesToBoth : Path → Path → Reached → Stage → Type 0
ComesToBoth old new to after = ((count : ℕ) × PartAt old new count × (to.walked < count)
    × (after ≡ stage.At to.walked to.node))
    ⊎ (PartAt old new to.walked × (after ≡ stage.Ends to to to))

-- another call holds the inode that was found
pub record IsHeldThere (s : StoreState) (number : ℕ) (found : Located) (holder : ℕ) : Type 0 where
  pub parent : ℕ
  pub node : ℕ
  pub there : found ≡ located.At parent node
  pub held : holder_of s.nodes node ≡ Some holder
  pub other : number ≢ holder

-- another call holds the directory that this prefix of the path leads to
pub record IsHeldOnWay (s : StoreState) (number : ℕ) (path : Path)
    (walked holder : ℕ) : Type 0 where
  pub node : ℕ
  pub leads : walk (child_of s.nodes) s.root (take walked path) ≡ Some node
  pub held : holder_of s.nodes node ≡ Some holder
  pub other : number ≢ holder

-- one component further there is a directory that no other call holds
pub record IsNextFree (s : StoreState) (number : ℕ) (path : Path) (at to : Reached) : Type 0 where
  pub walked : to.walked ≡ at.walked + 1
  pub on_way : LeadsOnWay s path (at.walked + 1) to.node
  pub free : IsFree (holder_of s.nodes) number to.node

-- the result of looking up the next component of the path
abbrev pub IsFound : StoreState → ℕ → Path → Reached → Further → Type 0
IsFound s number path at further.AtParent = Unit {0}
IsFound s number path at further.NoDirectory =
    LeadsNowhere s.nodes at.node (slice_get path at.walked)
IsFound s number path at (further.Held holder) = IsHeldOnWay s number path (at.walked + 1) holder
IsFound s number path at (further.Free to) = IsNextFree s number path at to

-- no lookup is made if only the last name is left
abbrev pub Looks : StoreState → StoreState → Path → Reached → Further → Type 0
Looks old new path at further.AtParent = (new ≡ old) × (at.walked + 1 ≡ length path)
Looks old new path at found = (new ≡ looked_up old) × (at.walked + 1 < length path)
