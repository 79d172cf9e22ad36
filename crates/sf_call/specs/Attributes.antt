-- The attributes of directories and files, as stored and as sent.
use Rattle.std.specs.Prelude.{ℕ, ◌+◌, ◌%◌, ◌==◌, if◌then◌else◌, Some, unwrap_or, List, length}
use Rattle.std.specs.Option.{option_map_or}
use Rattle.sf_field.specs.declared.attrs.Attrs.{Attrs}
use Rattle.sf_field.specs.declared.attrs.Owner.{Owner}
use Rattle.sf_call.specs.declared.metadata.FileType.{FileType}
use Rattle.sf_call.specs.declared.metadata.FileType.TheVariants as file_type
pub use Rattle.sf_call.specs.declared.metadata.Metadata.{Metadata}

-- a directory, or a file with its bytes
pub data Object : Type 0 where
  Directory : (metadata : Metadata) → Object
  File : (metadata : Metadata) → (contents : List ℕ) → Object

-- the metadata of an object created at a timestamp: user 0, group 0, and the timestamp as both
-- times
abbrev pub made_at : ℕ → ℕ → Metadata
made_at permissions moment = record {
  owner = record { uid = 0; gid = 0 };
  permissions = permissions;
  times = record { atime = moment; mtime = moment };
}

-- with this modification time (POSIX: the last data modification timestamp)
abbrev pub modified_at : ℕ → Metadata → Metadata
modified_at moment m = record m { times = record m.times { mtime = moment } }

-- a given user or group replaces the stored one, unless it is 4294967295 (POSIX, chown: -1)
abbrev pub new_id : ℕ → ℕ → ℕ
new_id given stored = if given == 4294967295 then stored else given

abbrev pub new_owner : Owner → Owner → Owner
new_owner given stored =
    record { uid = new_id given.uid stored.uid; gid = new_id given.gid stored.gid }

-- The given attributes replace the stored ones (draft, section 5). Only the low twelve bits of the
-- permissions are stored. The size is ignored here.
abbrev pub with_parts : Metadata → Attrs → Metadata
with_parts m attrs = record {
  owner = option_map_or (λ given. new_owner given m.owner) attrs.owner m.owner;
  permissions = option_map_or (λ bits. bits % 0o10000) attrs.permissions m.permissions;
  times = unwrap_or attrs.times m.times;
}

-- the metadata of a new object, with the attributes that the request gives
abbrev pub new_metadata : ℕ → ℕ → Attrs → Metadata
new_metadata permissions moment attrs = with_parts (made_at permissions moment) attrs

-- the file type bits of `st_mode` (POSIX)
abbrev pub type_bits : FileType → ℕ
type_bits file_type.Directory = 0o040000
type_bits file_type.File = 0o100000

-- the attributes as sent: all four fields of the draft, section 5
abbrev pub sent : FileType → ℕ → Metadata → Attrs
sent kind size m = record {
  size = Some size;
  owner = Some m.owner;
  permissions = Some (type_bits kind + m.permissions % 0o10000);
  times = Some m.times;
}

-- the attributes of an object as sent; the size of a directory is 0
abbrev pub attrs_of : Object → Attrs
attrs_of (Directory m) = sent file_type.Directory 0 m
attrs_of (File m contents) = sent file_type.File (length contents) m
