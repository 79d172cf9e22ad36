-- New handles.
use Rattle.std.specs.Prelude.{◌≡◌, ℕ, Bool, Some, None}
use Rattle.sf_path.specs.Names.{Path}
use Rattle.sf_call.specs.declared.handle.Handle.{Handle}
use Rattle.sf_call.specs.Tree.{Tree, label_at}
use Rattle.sf_call.specs.Handles.{handle_in}

-- the access mode of a handle
pub record Allowing : Type 0 where
  pub read : Bool
  pub write : Bool
  pub append : Bool

abbrev pub allowing : Bool → Bool → Bool → Allowing
allowing read write append = record { read = read; write = write; append = append }

-- the session has a handle with this number and access mode for the object at the path, with no
-- name listed yet
pub record IsJustOpened (tree : Tree) (session number : ℕ) (path : Path) (marks : Allowing)
    : Type 0 where
  pub handle : Handle
  pub is_open : handle_in tree session number ≡ Some handle
  pub of_session : handle.session ≡ session
  pub of_path : label_at tree.names path ≡ Some handle.label
  pub reads : handle.read ≡ marks.read
  pub writes : handle.write ≡ marks.write
  pub appends : handle.append ≡ marks.append
  pub unlisted : handle.listed ≡ None
