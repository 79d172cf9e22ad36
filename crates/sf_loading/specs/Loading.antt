-- Loading: one request for each item.
use Rattle.std.specs.Prelude.{◌≡◌, ◌⊎◌, ◌≤◌, ◌-◌, ◌^◌, ℕ, List, [], ◌∷◌, ◌++◌, length, true, false, Option, Some, None, Result, Ok, Err}
use Rattle.sf_field.specs.Fields.{be64}
use Rattle.sf_field.specs.Attributes.{no_attrs}
use Rattle.sf_field.specs.declared.open_flags.OpenFlags.{OpenFlags}
use Rattle.sf_request.specs.declared.request.WireRequest.{WireRequest}
use Rattle.sf_field.specs.declared.operation.PathOp.TheVariants as path_op
use Rattle.sf_field.specs.declared.operation.HandleOp.TheVariants as handle_op
use Rattle.sf_request.specs.declared.request.WireRequest.TheVariants as request
use Rattle.sf_reply.specs.declared.reply.Reply.{Reply}
use Rattle.sf_reply.specs.declared.reply.Reply.TheVariants as reply
use Rattle.sf_reply.specs.declared.reply.StatusCode.TheVariants as status
use Rattle.sf_trees.specs.declared.fault.TreeFault.{TreeFault}
use Rattle.sf_trees.specs.Operations.{Operation, Begins, Asks, Ends, fault_in_reply}
use Rattle.sf_loading.specs.declared.folder.Item.{Item}
use Rattle.sf_loading.specs.declared.folder.Item.TheVariants as item
use Rattle.sf_loading.specs.declared.making.LoadFault.{LoadFault}
use Rattle.sf_loading.specs.declared.making.LoadFault.TheVariants as fault
use Rattle.sf_loading.specs.Items.{GivesItems, HasNone}

-- WRITE, CREAT and EXCL: a file that exists already isn't the folder's
abbrev pub to_make : OpenFlags
to_make = record {
  read = false;
  write = true;
  append = false;
  create = true;
  truncate = false;
  exclusive = true;
}

-- the request for an item, with the handle of the last file
abbrev pub request_of : List ℕ → Item → WireRequest
request_of handle (item.Directory path) = request.OnPath (path_op.Mkdir no_attrs) path.items
request_of handle (item.DirectoryAttributes path attrs) =
    request.OnPath (path_op.SetStat attrs) path.items
request_of handle (item.File path) = request.OnPath (path_op.Open to_make no_attrs) path.items
request_of handle (item.Bytes offset bytes) = request.Write handle offset bytes.items
request_of handle (item.FileAttributes attrs) = request.ByHandle (handle_op.FSetStat attrs) handle
request_of handle item.FileEnd = request.ByHandle handle_op.Close handle

-- the handle of an opened file
abbrev pub handle_in_reply : Result Reply TreeFault → Result ℕ TreeFault
handle_in_reply (Ok (reply.Handle number)) = Ok number
handle_in_reply (Ok other) = Err (fault_in_reply other)
handle_in_reply (Err why) = Err why

-- the given handle, if the request was done
abbrev pub done_with : ℕ → Result Reply TreeFault → Result ℕ TreeFault
done_with handle (Ok (reply.Status status.Success)) = Ok handle
done_with handle (Ok other) = Err (fault_in_reply other)
done_with handle (Err why) = Err why

-- the last file's handle after an item
abbrev pub settled_by : ℕ → Item → Result Reply TreeFault → Result ℕ TreeFault
settled_by handle (item.Directory path) outcome = done_with handle outcome
settled_by handle (item.DirectoryAttributes path attrs) outcome = done_with handle outcome
settled_by handle (item.File path) outcome = handle_in_reply outcome
settled_by handle (item.Bytes offset bytes) outcome = done_with handle outcome
settled_by handle (item.FileAttributes attrs) outcome = done_with handle outcome
settled_by handle item.FileEnd outcome = done_with handle outcome

-- The items were made in order, each by its request; and the handle of the last file then.
unfoldable pub Makes : (session handle : ℕ) → List Item → List Operation → (last : ℕ) → Type 0
Makes session handle [] operations last = (operations ≡ []) × (last ≡ handle)
Makes session handle (x ∷ xs) operations last = (outcome : Result Reply TreeFault) × (after : ℕ)
    × (rest : List Operation)
    × (operations ≡ Asks session (request_of (be64 handle) x) outcome ∷ rest)
    × (settled_by handle x outcome ≡ Ok after) × Makes session after xs rest last

-- One item was taken, and made or rejected; or there was none, or the folder failed.
abbrev pub MakesOneItem : (session handle : ℕ) → (old new : Option (List Item)) → List Operation
    → Result (Option ℕ) LoadFault → Type 0
MakesOneItem session handle old new operations (Ok (Some after)) = (x : Item)
    × (outcome : Result Reply TreeFault)
    × GivesItems old (x ∷ []) new
    × (operations ≡ Asks session (request_of (be64 handle) x) outcome ∷ [])
    × (settled_by handle x outcome ≡ Ok after)
MakesOneItem session handle old new operations (Ok None) = HasNone old new × (operations ≡ [])
MakesOneItem session handle old new operations (Err (fault.Folder why)) = operations ≡ []
MakesOneItem session handle old new operations (Err (fault.Server why)) = (x : Item)
    × (outcome : Result Reply TreeFault) × GivesItems old (x ∷ []) new
    × (operations ≡ Asks session (request_of (be64 handle) x) outcome ∷ [])
    × (settled_by handle x outcome ≡ Err why)
MakesOneItem session handle old new operations (Err fault.TooMany) = ⊥

-- The last turn, after these items. They are too many if they can't be counted.
abbrev pub IsLastTurn : (session handle : ℕ) → List Item → (old new : Option (List Item))
    → List Operation → Result (Unit {0}) LoadFault → Type 0
IsLastTurn session handle items old new operations (Ok done) =
    MakesOneItem session handle old new operations (Ok None)
IsLastTurn session handle items old new operations (Err (fault.Folder why)) =
    MakesOneItem session handle old new operations (Err (fault.Folder why))
IsLastTurn session handle items old new operations (Err (fault.Server why)) =
    MakesOneItem session handle old new operations (Err (fault.Server why))
IsLastTurn session handle items old new operations (Err fault.TooMany) =
    (2 ^ 64 - 1 ≤ length items) × (new ≡ old) × (operations ≡ [])

-- Items of the folder were made in order, in a session without an open file. Then the folder ended
-- or failed, an item was rejected, or they are too many.
pub record MakesItems (session : ℕ) (old new : Option (List Item)) (operations : List Operation)
    (result : Result (Unit {0}) LoadFault) : Type 0 where
  pub items : List Item
  pub now : Option (List Item)
  pub last : ℕ
  pub made : List Operation
  pub end : List Operation
  pub gives : GivesItems old items now
  pub makes : Makes session 0 items made last
  pub parts : operations ≡ made ++ end
  pub ends : IsLastTurn session last items now new end result

-- A session opened, made the items, and closed.
pub record HasLoaded (old new : Option (List Item)) (operations : List Operation)
    (result : Result (Unit {0}) LoadFault) : Type 0 where
  pub session : ℕ
  pub inner : List Operation
  pub parts : operations ≡ Begins (Ok session) ∷ inner ++ Ends session ∷ []
  pub made : MakesItems session old new inner result

-- the same, or no session opened
abbrev pub Loads : (old new : Option (List Item)) → List Operation → Result (Unit {0}) LoadFault
    → Type 0
Loads old new operations result = HasLoaded old new operations result
    ⊎ ((why : TreeFault) × (operations ≡ Begins (Err why) ∷ []) × (result ≡ Err (fault.Server why)))
