-- The paths, objects and handles that belong to a request. It changes nothing else, except the
-- object that it creates.
use Rattle.std.specs.Prelude.{◌≡◌, ◌⊎◌, ℕ, Option, Some, IsSome}
use Rattle.sf_path.specs.Names.{Path}
use Rattle.sf_path.specs.Order.{parent}
use Rattle.sf_call.specs.declared.request.Request.{Request}
use Rattle.sf_field.specs.declared.operation.PathOp.TheVariants as path_op
use Rattle.sf_field.specs.declared.operation.PairOp.TheVariants as pair_op
use Rattle.sf_field.specs.declared.operation.HandleOp.TheVariants as handle_op
use Rattle.sf_call.specs.declared.request.Request.TheVariants.{OnPath, OnPaths, ByHandle, Write}
use Rattle.sf_call.specs.declared.handle.Handle.{Handle}
use Rattle.sf_call.specs.Attributes.{Object}
use Rattle.sf_call.specs.Tree.{Tree, label_at}
use Rattle.sf_call.specs.Handles.{handle_in}
use Rattle.sf_laws.specs.LeftAlone.{BeginsWithEither}

-- the path of an entry that it adds or removes: for a rename both paths, for a link the new one
abbrev pub NamesEntry : Request → Path → Type 0
NamesEntry (OnPath (path_op.Mkdir attrs) path) other = other ≡ path
NamesEntry (OnPath path_op.Rmdir path) other = other ≡ path
NamesEntry (OnPath path_op.Remove path) other = other ≡ path
NamesEntry (OnPath (path_op.Open flags attrs) path) other = other ≡ path
NamesEntry (OnPaths pair_op.Rename old new) other = (other ≡ old) ⊎ (other ≡ new)
NamesEntry (OnPaths pair_op.PosixRename old new) other = (other ≡ old) ⊎ (other ≡ new)
NamesEntry (OnPaths pair_op.Link old new) other = other ≡ new
NamesEntry request other = ⊥

-- that path; for a rename, all paths that begin with one of its two
abbrev pub IsOwnPath : Request → Path → Type 0
IsOwnPath (OnPaths pair_op.Rename old new) other = BeginsWithEither old new other
IsOwnPath (OnPaths pair_op.PosixRename old new) other = BeginsWithEither old new other
IsOwnPath request other = NamesEntry request other

abbrev pub IsAt : Tree → Path → ℕ → Type 0
IsAt tree path label = label_at tree.names path ≡ Some label

abbrev pub IsOpened : Tree → ℕ → ℕ → ℕ → Type 0
IsOpened tree session number label =
    (handle : Handle) × (handle_in tree session number ≡ Some handle) × (handle.label ≡ label)

-- the inode numbers of objects that it sets: at the path, at its parent or both parents, or of the
-- handle
abbrev pub IsOwnObject : Tree → ℕ → Request → ℕ → Type 0
IsOwnObject tree session (OnPath (path_op.SetStat attrs) path) label = IsAt tree path label
IsOwnObject tree session (OnPath (path_op.Mkdir attrs) path) label = IsAt tree (parent path) label
IsOwnObject tree session (OnPath path_op.Rmdir path) label = IsAt tree (parent path) label
IsOwnObject tree session (OnPath path_op.Remove path) label = IsAt tree (parent path) label
IsOwnObject tree session (OnPath (path_op.Open flags attrs) path) label =
    IsAt tree path label ⊎ IsAt tree (parent path) label
IsOwnObject tree session (ByHandle (handle_op.FSetStat attrs) handle) label =
    IsOpened tree session handle label
IsOwnObject tree session (Write handle offset bytes) label = IsOpened tree session handle label
IsOwnObject tree session (OnPaths pair_op.Rename old new) label =
    IsAt tree (parent old) label ⊎ IsAt tree (parent new) label
IsOwnObject tree session (OnPaths pair_op.PosixRename old new) label =
    IsAt tree (parent old) label ⊎ IsAt tree (parent new) label
IsOwnObject tree session (OnPaths pair_op.Link old new) label = IsAt tree (parent new) label
IsOwnObject tree session request label = ⊥

-- the handle that the call opens, or the one of the session that it closes or lists
abbrev pub IsOwnHandle : Tree → ℕ → ℕ → Request → ℕ → Type 0
IsOwnHandle tree session number (OnPath path_op.OpenDir path) handle = handle ≡ number
IsOwnHandle tree session number (OnPath (path_op.Open flags attrs) path) handle = handle ≡ number
IsOwnHandle tree session number (ByHandle handle_op.Close asked) handle =
    (handle ≡ asked) × IsSome (handle_in tree session asked)
IsOwnHandle tree session number (ByHandle handle_op.ReadDir asked) handle =
    (handle ≡ asked) × IsSome (handle_in tree session asked)
IsOwnHandle tree session number request handle = ⊥

-- the object exists and is one of these two
abbrev pub IsOneOf : Object → Object → Option Object → Type 0
IsOneOf this that object = (object ≡ Some this) ⊎ (object ≡ Some that)
