-- Small trees and requests for worked examples.
use Rattle.std.specs.Prelude.{ℕ, ◌+◌, ◌/◌, ◌%◌, Bool, true, false, List, [], ◌∷◌, map, codes, Some, None}
use Rattle.sf_field.specs.declared.attrs.Attrs.{Attrs}
use Rattle.sf_field.specs.declared.attrs.Owner.{Owner}
use Rattle.sf_field.specs.declared.attrs.Times.{Times}
use Rattle.sf_field.specs.declared.open_flags.OpenFlags.{OpenFlags}
use Rattle.sf_reply.specs.declared.reply.Reply.{Reply}
use Rattle.sf_reply.specs.declared.reply.Reply.TheVariants as reply
use Rattle.sf_reply.specs.declared.reply.StatusCode.{StatusCode}
use Rattle.sf_reply.specs.declared.reply.StatusCode.TheVariants.{Success, NoSuchFile, Failure}
use Rattle.sf_call.specs.declared.request.Request.{Request}
use Rattle.sf_field.specs.declared.operation.PathOp.TheVariants as path_op
use Rattle.sf_field.specs.declared.operation.PairOp.TheVariants as pair_op
use Rattle.sf_call.specs.declared.request.Request.TheVariants.{OnPath, OnPaths}
use Rattle.sf_call.specs.declared.record.Record.{Record}
use Rattle.sf_call.specs.declared.record.Record.TheVariants.{Did, Left}
use Rattle.sf_call.specs.declared.metadata.Metadata.{Metadata}
use Rattle.sf_call.specs.Attributes.{Object}
pub use Rattle.sf_field.specs.Attributes.{no_attrs}
use Rattle.sf_call.specs.Attributes.Object.{Directory, File}
use Rattle.sf_path.specs.Names.{Name, Path}
use Rattle.sf_call.specs.Tree.{Tree, empty_tree}
use Rattle.sf_call.specs.Calls.{Applied, apply}

abbrev pub a : Name
a = codes "a"

abbrev pub b : Name
b = codes "b"

abbrev pub by_owner : ℕ → ℕ → Owner
by_owner uid gid = record { uid = uid; gid = gid }

abbrev pub at_times : ℕ → ℕ → Times
at_times atime mtime = record { atime = atime; mtime = mtime }

abbrev pub all_attrs : ℕ → Owner → ℕ → Times → Attrs
all_attrs size owner permissions times = record {
  size = Some size;
  owner = Some owner;
  permissions = Some permissions;
  times = Some times;
}

abbrev pub metadata : ℕ → ℕ → ℕ → ℕ → ℕ → Metadata
metadata uid gid permissions atime mtime = record {
  owner = record { uid = uid; gid = gid };
  permissions = permissions;
  times = record { atime = atime; mtime = mtime };
}

-- the tree with an object at `/a`, made by call 7 at the timestamp 100
abbrev pub tree_with : Object → Tree
tree_with object = record {
  names = ([], 0) ∷ (a ∷ [], 7) ∷ [];
  objects = (0, Directory (metadata 0 0 0o755 0 100)) ∷ (7, object) ∷ [];
  handles = [];
}

abbrev pub with_directory : Tree
with_directory = tree_with (Directory (metadata 0 0 0o755 100 100))

-- the root alone, modified at the timestamp 300
abbrev pub touched_root : Tree
touched_root = record {
  names = ([], 0) ∷ [];
  objects = (0, Directory (metadata 0 0 0o755 0 300)) ∷ [];
  handles = [];
}

-- the tree with a file `/a` of three bytes
abbrev pub tree_with_file : Tree
tree_with_file = tree_with (File (metadata 5 6 0o644 100 200) (codes "abc"))

-- call 8 of session 1, at the timestamp 300
abbrev pub call : Tree → Request → Applied
call tree request = apply tree 1 8 300 request

-- the replies to each of these requests of session 2, alone, as call 1000 at the timestamp 100
abbrev pub replies_of_another : Tree → List Request → List Reply
replies_of_another tree requests = map (λ request. (apply tree 2 1000 100 request).reply) requests

abbrev pub refuses_by : Tree → StatusCode → Applied
refuses_by tree code = record { reply = reply.Status code; tree = tree }

abbrev pub tells_attrs : Tree → Attrs → Applied
tells_attrs tree attrs = record { reply = reply.Attrs attrs; tree = tree }

-- A directory is created. Another one is not, since memory ran out, and is not found. The session
-- ends.
abbrev pub history : List Record
history =
    Did 7 1 100 (OnPath (path_op.Mkdir no_attrs) (a ∷ [])) (reply.Status Success)
    ∷ Did 9 1 200 (OnPath (path_op.Mkdir no_attrs) (b ∷ [])) reply.NoMemory
    ∷ Did 8 1 300 (OnPath path_op.Stat (b ∷ [])) (reply.Status NoSuchFile) ∷ Left 1 ∷ []

-- the replies to these requests of session 1 in turn, numbered from `number` on, at the timestamp
-- 100
abbrev pub replies_in_turn : Tree → ℕ → List Request → List Reply
replies_in_turn tree number [] = []
replies_in_turn tree number (r ∷ rs) =
    let done = apply tree 1 number 100 r in done.reply ∷ replies_in_turn done.tree (number + 1) rs

-- the tree after them
abbrev pub tree_after : Tree → ℕ → List Request → Tree
tree_after tree number [] = tree
tree_after tree number (r ∷ rs) = tree_after (apply tree 1 number 100 r).tree (number + 1) rs

-- from the root alone, numbered 1, 2 and so on
abbrev pub replies : List Request → List Reply
replies requests = replies_in_turn empty_tree 1 requests

abbrev pub ok : Reply
ok = reply.Status Success

abbrev pub failed : Reply
failed = reply.Status Failure

abbrev pub absent : Reply
absent = reply.Status NoSuchFile

abbrev pub sized : ℕ → Attrs
sized size = record { size = Some size; owner = None; permissions = None; times = None }

-- READ, WRITE, APPEND, CREAT; neither TRUNC nor EXCL
abbrev pub flags : Bool → Bool → Bool → Bool → OpenFlags
flags read write append create = record {
  read = read;
  write = write;
  append = append;
  create = create;
  truncate = false;
  exclusive = false;
}

-- and TRUNC, or EXCL
abbrev pub truncating : OpenFlags → OpenFlags
truncating marks = record {
  read = marks.read;
  write = marks.write;
  append = marks.append;
  create = marks.create;
  truncate = true;
  exclusive = marks.exclusive;
}

abbrev pub exclusively : OpenFlags → OpenFlags
exclusively marks = record {
  read = marks.read;
  write = marks.write;
  append = marks.append;
  create = marks.create;
  truncate = marks.truncate;
  exclusive = true;
}

abbrev pub f : Name
f = codes "f"

abbrev pub g : Name
g = codes "g"

abbrev pub new_file : Name → Request
new_file name = OnPath (path_op.Open (flags true true false true) no_attrs) (name ∷ [])

-- the directories `/a`, `/a/b` and `/b` and the open files `/f` and `/g`, made by calls 1 to 5
abbrev pub of_five : Tree
of_five = tree_after empty_tree 1 (OnPath (path_op.Mkdir no_attrs) (a ∷ [])
    ∷ OnPath (path_op.Mkdir no_attrs) (a ∷ b ∷ []) ∷ OnPath (path_op.Mkdir no_attrs) (b ∷ [])
    ∷ new_file f ∷ new_file g ∷ [])

-- the replies to RENAME and to posix-rename on that tree, each alone
abbrev pub renames : Path → Path → List Reply
renames old new =
    (call of_five (OnPaths pair_op.Rename old new)).reply
    ∷ (call of_five (OnPaths pair_op.PosixRename old new)).reply ∷ []

-- the reply to a link on that tree
abbrev pub linking : Path → Path → Reply
linking old new = (call of_five (OnPaths pair_op.Link old new)).reply

-- the attributes of a file created and modified at the timestamp 100
abbrev pub file_attrs : ℕ → Attrs
file_attrs size = all_attrs size (by_owner 0 0) 0o100644 (at_times 100 100)

-- `n01` and so on
abbrev pub numbered : ℕ → Name
numbered k = 110 ∷ (48 + k / 10) ∷ (48 + k % 10) ∷ []

abbrev pub up_to_32 : List ℕ
up_to_32 = 1 ∷ 2 ∷ 3 ∷ 4 ∷ 5 ∷ 6 ∷ 7 ∷ 8 ∷ 9 ∷ 10 ∷ 11 ∷ 12 ∷ 13 ∷ 14 ∷ 15 ∷ 16 ∷ 17 ∷ 18 ∷ 19 ∷ 20
    ∷ 21 ∷ 22 ∷ 23 ∷ 24 ∷ 25 ∷ 26 ∷ 27 ∷ 28 ∷ 29 ∷ 30 ∷ 31 ∷ 32 ∷ []

abbrev pub names_in_reply : Reply → List Name
names_in_reply (reply.Status code) = []
names_in_reply reply.NoMemory = []
names_in_reply (reply.Handle number) = []
names_in_reply (reply.Data bytes) = []
names_in_reply (reply.Names entries) = map (λ e. e.filename) entries
names_in_reply (reply.Attrs attrs) = []
