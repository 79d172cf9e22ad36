-- No public clause cites this module.
-- The outcome of a rename in the store.
use Rattle.std.specs.Prelude.{◌≡◌, ◌≢◌, ◌<◌, ℕ, Bool, true, false, not, ◌&&◌, if◌then◌else◌, List, [], ◌∷◌, ◌++◌, length, Option, Some, None}
use Rattle.sf_path.specs.Names.{Name, Path}
use Rattle.sf_reply.specs.declared.reply.Reply.TheVariants as reply
use Rattle.sf_call.specs.Tree.{Tree, after_front}
use Rattle.sf_call.specs.Calls.{Outcome, tells, moves}
use Rattle.sf_inode.specs.declared.node.Node.{Node}
use Rattle.sf_inode.specs.Stores.{StoreState, child_of, is_directory_at, is_bare_at}
use Rattle.sf_keeps.specs.Steps.{walk}
use Rattle.sf_walk.specs.declared.renames.Course.{Course}
use Rattle.sf_walk.specs.declared.renames.Course.TheVariants.{Told, Moves}

-- whether an inode may replace another: a file a file, and a directory an empty directory
abbrev pub may_replace : List (Option Node) → ℕ → ℕ → Bool
may_replace nodes node target =
    if is_directory_at nodes target then is_directory_at nodes node && is_bare_at nodes target
    else not (is_directory_at nodes node)

-- A path's entry may move from one directory into another, but not below itself. An inode at the
-- new path is a different one, and no directory with entries.
pub record MayMove (s : StoreState) (old new : Path) (from into : ℕ) : Type 0 where
  pub above : Path
  pub name : Name
  pub node : ℕ
  pub is_old : old ≡ above ++ name ∷ []
  pub leads : walk (child_of s.nodes) s.root above ≡ Some from
  pub there : child_of s.nodes from name ≡ Some node
  pub beside : Path
  pub last : Name
  pub is_new : new ≡ beside ++ last ∷ []
  pub leads_new : walk (child_of s.nodes) s.root beside ≡ Some into
  pub directory : is_directory_at s.nodes into ≡ true
  pub not_inside : after_front old new ≡ None
  pub bare : (target : ℕ) → child_of s.nodes into last ≡ Some target
      → is_bare_at s.nodes target ≡ true
  pub other : (target : ℕ) → child_of s.nodes into last ≡ Some target → node ≢ target

-- The paths and the timestamp of a rename.
pub record Renaming : Type 0 where
  pub old : Path
  pub new : Path
  pub moment : ℕ

abbrev pub renaming : Path → Path → ℕ → Renaming
renaming old new moment = record { old = old; new = new; moment = moment }

-- the status is the tree's answer; or the answer is the move, and the move may be done
abbrev pub IsCourse : StoreState → Tree → Renaming → Outcome → Course → Type 0
IsCourse s t asked answer (Told code) = answer ≡ tells (reply.Status code)
IsCourse s t asked answer (Moves from into) =
    (answer ≡ moves t asked.moment asked.old asked.new) × MayMove s asked.old asked.new from into

-- if an entry moves, neither path is the root
abbrev pub AreNamed : Path → Path → Course → Type 0
AreNamed old new (Told code) = Unit {0}
AreNamed old new (Moves from into) = (0 < length old) × (0 < length new)

-- whether an entry moves
abbrev pub does_move : Course → Bool
does_move (Told code) = false
does_move (Moves from into) = true

-- no entry moves
abbrev pub MovesNothing : Course → Type 0
MovesNothing (Told code) = Unit {0}
MovesNothing (Moves from into) = ⊥
