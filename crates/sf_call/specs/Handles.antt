-- Open handles, and the objects that they refer to.
use Rattle.std.specs.Prelude.{ℕ, nat_eq, Option, Some, None, option_map, option_and_then, if◌then◌else◌}
use Rattle.sf_call.specs.Attributes.{Object}
use Rattle.sf_call.specs.Tree.{Tree, Handle, object_of, handle_of}

-- a handle is found only in the session that opened it
abbrev pub if_of : ℕ → Handle → Option Handle
if_of session handle = if nat_eq handle.session session then Some handle else None

abbrev pub handle_in : Tree → ℕ → ℕ → Option Handle
handle_in tree session number = option_and_then (if_of session) (handle_of tree.handles number)

-- a handle and the object that it refers to
abbrev pub opened_by : Tree → Handle → Option (Handle × Object)
opened_by tree handle = option_map (λ object. (handle, object)) (object_of tree.objects handle.label)

-- the handle with this number in the session, and its object; a handle without an object counts as
-- not open
abbrev pub opened : Tree → ℕ → ℕ → Option (Handle × Object)
opened tree session number = option_and_then (opened_by tree) (handle_in tree session number)
