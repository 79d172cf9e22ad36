-- A record as numbers and bytes, for C.
use Rattle.std.specs.Prelude.{◌≡◌, ◌++◌, ◌∷◌, ◌⊎◌, ℕ, ℤ, pos, negsuc, List, [], length, take, drop, slice_get, Some, None}
use Rattle.std.specs.List.{flat_map}
use Rattle.std.specs.Option.{unwrap_or}
use Rattle.sf_path.specs.Names.{text_of}
use Rattle.sf_field.specs.declared.attrs.Attrs.{Attrs}
use Rattle.sf_field.specs.declared.attrs.Owner.{Owner}
use Rattle.sf_field.specs.declared.attrs.Times.{Times}
use Rattle.sf_field.specs.Attributes.{flags_of, no_attrs}
use Rattle.sf_field.specs.OpenFlags.{bits_of}
use Rattle.sf_reply.specs.declared.reply.Entry.{Entry}
use Rattle.sf_reply.specs.declared.reply.Reply.{Reply}
use Rattle.sf_reply.specs.declared.reply.Reply.TheVariants as reply
use Rattle.sf_reply.specs.Replies.{number_of}
use Rattle.sf_call.specs.Requests.{Target, ByHandle, OnPath, OnPaths, target_of}
use Rattle.sf_call.specs.declared.request.Request.{Request}
use Rattle.sf_field.specs.declared.operation.PathOp.TheVariants as path_op
use Rattle.sf_field.specs.declared.operation.PairOp.TheVariants as pair_op
use Rattle.sf_field.specs.declared.operation.HandleOp.TheVariants as handle_op
use Rattle.sf_call.specs.declared.request.Request.TheVariants as request
use Rattle.sf_call.specs.declared.record.Record.{Record}
use Rattle.sf_call.specs.declared.record.Record.TheVariants as record_of
use Rattle.sf_engine.specs.Views.{EngineView}
use Rattle.sf_c.specs.declared.record_parts.Attributes.{Attributes}
use Rattle.sf_c.specs.declared.record_parts.AskedParts.{AskedParts}
use Rattle.sf_c.specs.declared.record_parts.Answered.{Answered}
use Rattle.sf_c.specs.declared.record_parts.RecordParts.{RecordParts}
use Rattle.sf_c.specs.declared.record_parts.Recounted.{Recounted}

-- attributes: a flag for each one that is present, and 0 for a missing one
abbrev pub attributes_parts : Attrs → Attributes
attributes_parts attrs =
    let owner : Owner = unwrap_or attrs.owner (record { uid = 0; gid = 0 }) in
    let times : Times = unwrap_or attrs.times (record { atime = 0; mtime = 0 }) in record {
      size = unwrap_or attrs.size 0;
      given = flags_of attrs;
      uid = owner.uid;
      gid = owner.gid;
      permissions = unwrap_or attrs.permissions 0;
      atime = times.atime;
      mtime = times.mtime;
    }

-- the numbers of a request, and of a reply: the packet type and its numeric fields
abbrev pub plainly : ℕ → AskedParts
plainly kind = record {
  attributes = attributes_parts no_attrs;
  handle = 0;
  offset = 0;
  length = 0;
  kind = kind;
  flags = 0;
}

abbrev pub handle_parts : ℕ → ℕ → AskedParts
handle_parts kind handle = record (plainly kind) { handle = handle }

abbrev pub at_place : ℕ → ℕ → ℕ → ℕ → AskedParts
at_place kind handle offset length =
    record (handle_parts kind handle) { offset = offset; length = length }

abbrev pub with_attributes : ℕ → Attrs → AskedParts
with_attributes kind attrs = record (plainly kind) { attributes = attributes_parts attrs }

abbrev pub asked_parts : Request → AskedParts
asked_parts (request.OnPath (path_op.Open flags attrs) path) =
    record (with_attributes 3 attrs) { flags = bits_of flags }
asked_parts (request.ByHandle handle_op.Close handle) = handle_parts 4 handle
asked_parts (request.ByHandle (handle_op.Read offset len) handle) = at_place 5 handle offset len
asked_parts (request.Write handle offset written) = at_place 6 handle offset (length written)
asked_parts (request.ByHandle handle_op.FStat handle) = handle_parts 8 handle
asked_parts (request.OnPath (path_op.SetStat attrs) path) = with_attributes 9 attrs
asked_parts (request.ByHandle (handle_op.FSetStat attrs) handle) =
    record (with_attributes 10 attrs) { handle = handle }
asked_parts (request.OnPath path_op.OpenDir path) = plainly 11
asked_parts (request.ByHandle handle_op.ReadDir handle) = handle_parts 12 handle
asked_parts (request.OnPath path_op.Remove path) = plainly 13
asked_parts (request.OnPath (path_op.Mkdir attrs) path) = with_attributes 14 attrs
asked_parts (request.OnPath path_op.Rmdir path) = plainly 15
asked_parts (request.OnPath path_op.Stat path) = plainly 17
asked_parts (request.OnPaths pair_op.Rename old new) = plainly 18
asked_parts (request.OnPaths pair_op.PosixRename old new) = plainly 201
asked_parts (request.OnPaths pair_op.Link old new) = plainly 202

abbrev pub answer : ℕ → Answered
answer kind = record { attributes = attributes_parts no_attrs; handle = 0; names = 0; kind = kind; status = 0 }

abbrev pub answered_parts : Reply → Answered
answered_parts (reply.Status code) = record (answer 101) { status = number_of code }
answered_parts reply.NoMemory = record (answer 100) { status = 4 }
answered_parts (reply.Handle handle) = record (answer 102) { handle = handle }
answered_parts (reply.Data bytes) = answer 103
answered_parts (reply.Names entries) = record (answer 104) { names = length entries }
answered_parts (reply.Attrs attrs) = record (answer 105) { attributes = attributes_parts attrs }

-- the texts of a request's paths, in their order
abbrev pub first_text : Target → List ℕ
first_text (ByHandle handle) = []
first_text (OnPath path) = text_of path
first_text (OnPaths old new) = text_of old

abbrev pub second_text : Target → List ℕ
second_text (OnPaths old new) = text_of new
second_text _ = []

-- the bytes of a WRITE
abbrev pub data_parts : Request → List ℕ
data_parts (request.Write handle offset written) = written
data_parts _ = []

-- the names of a listing, each followed by a 0 byte
abbrev pub name_parts : Entry → List ℕ
name_parts entry = entry.filename ++ 0 ∷ []

abbrev pub names_parts : List Entry → List ℕ
names_parts entries = flat_map name_parts entries

-- the bytes of a reply
abbrev pub answer_bytes : Reply → List ℕ
answer_bytes (reply.Data bytes) = bytes
answer_bytes (reply.Names entries) = names_parts entries
answer_bytes _ = []

-- A call's record: its numbers, the concatenated bytes of its parts, and the length of each part.
abbrev pub IsRecounted : ℕ → ℕ → ℕ → Request → Reply → Recounted → Type 0
IsRecounted number session moment q a r =
    (r.parts ≡ record {
      number = number;
      session = session;
      asked = asked_parts q;
      answered = answered_parts a;
      path = length (first_text (target_of q));
      new_path = length (second_text (target_of q));
      written = length (data_parts q);
      answer = length (answer_bytes a);
      moment = moment;
    })
    × (r.bytes.items ≡ ((first_text (target_of q) ++ second_text (target_of q)) ++ data_parts q)
    ++ answer_bytes a)

-- the record of a session that left
abbrev pub left_parts : ℕ → RecordParts
left_parts session = record {
  number = 0;
  session = session;
  asked = plainly 0;
  answered = answer 0;
  path = 0;
  new_path = 0;
  written = 0;
  answer = 0;
  moment = 0;
}

abbrev pub Recounts : Record → Recounted → Type 0
Recounts (record_of.Did number session moment q a) r = IsRecounted number session moment q a r
Recounts (record_of.Left session) r = (r.parts ≡ left_parts session) × (r.bytes.items ≡ [])

-- The numbers of the record at an index are returned, and as many of its bytes as fit.
abbrev pub TellsParts : EngineView → ℕ → List ℕ → RecordParts → List ℕ → Type 0
TellsParts engine at old parts new = (kept : Record) × (r : Recounted)
    × (slice_get engine.core.records at ≡ Some kept) × Recounts kept r × (parts ≡ r.parts)
    × (new ≡ take (length old) r.bytes.items ++ drop (length r.bytes.items) old)

-- Returns the number of retained records, with the record at an index if there is one; or -1 if
-- memory runs out.
abbrev pub TellsRecord : EngineView → ℕ → RecordParts → List ℕ → ℤ → RecordParts → List ℕ → Type 0
TellsRecord engine at before old n parts new =
    ((n ≡ pos (length engine.core.records)) × TellsParts engine at old parts new)
    ⊎ (((n ≡ negsuc 0)
    ⊎ ((n ≡ pos (length engine.core.records)) × (slice_get engine.core.records at ≡ None)))
    × (parts ≡ before) × (new ≡ old))
