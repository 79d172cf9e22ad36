-- No public clause cites this module.
-- The effect of opening on the store.
use Rattle.std.specs.Prelude.{◌≡◌, ℕ, not, ◌||◌}
use Rattle.sf_path.specs.Names.{Name}
use Rattle.sf_field.specs.declared.open_flags.OpenFlags.{OpenFlags}
use Rattle.sf_inode.specs.declared.handle.Marks.{Marks}
use Rattle.sf_inode.specs.declared.node.NewNode.{NewNode}
use Rattle.sf_inode.specs.Nodes.{new_node}
use Rattle.sf_inode.specs.Stores.{StoreState, Inserted, after_open, new_entry}

-- a handle opened with neither READ nor WRITE can read
abbrev pub marks_of : OpenFlags → Marks
marks_of flags =
    record { read = flags.read || not flags.write; write = flags.write; append = flags.append }

-- what is to be opened: the session, the handle's number, the directory, the name in it, and the
-- access mode
pub record ToOpen : Type 0 where
  pub session : ℕ
  pub number : ℕ
  pub dir : ℕ
  pub name : Name
  pub marks : Marks

abbrev pub to_open : ℕ → ℕ → ℕ → Name → Marks → ToOpen
to_open session number dir n marks =
    record { session = session; number = number; dir = dir; name = n; marks = marks }

-- a new inode was added under a name of a directory, and a handle opens it
pub record OpenedNew (old new : StoreState) (o : ToOpen) (made : NewNode) : Type 0 where
  pub mid : StoreState
  pub id : ℕ
  pub inserted : Inserted old mid (new_entry o.dir o.name id) (new_node made)
  pub state : new ≡ after_open mid o.session o.number id o.marks
