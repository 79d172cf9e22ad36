-- Making directories, files and links.
use Rattle.std.specs.Prelude.{◌+◌, ◌*◌, ◌/◌, ℕ, zero, suc, List, length, take, drop, slice_get, Bool, true, false, not, ◌&&◌, ◌==◌, Option, Some, None, Result, Ok, Err}
use Rattle.sf_field.specs.Fields.{be64}
use Rattle.sf_field.specs.Attributes.{no_attrs}
use Rattle.sf_field.specs.declared.attrs.Attrs.{Attrs}
use Rattle.sf_field.specs.declared.open_flags.OpenFlags.{OpenFlags}
use Rattle.sf_field.specs.declared.operation.PathOp.TheVariants as path_op
use Rattle.sf_field.specs.declared.operation.PairOp.TheVariants as pair_op
use Rattle.sf_field.specs.declared.operation.HandleOp.TheVariants as handle_op
use Rattle.sf_request.specs.declared.request.WireRequest.TheVariants as request
use Rattle.sf_reply.specs.declared.reply.Reply.{Reply}
use Rattle.sf_reply.specs.declared.reply.Reply.TheVariants as reply
use Rattle.sf_reply.specs.declared.reply.StatusCode.TheVariants as status
use Rattle.sf_trees.specs.declared.fault.TreeFault.{TreeFault}
use Rattle.sf_trees.specs.declared.fault.Place.{Place}
use Rattle.sf_trees.specs.declared.fault.Refused.{Refused}
use Rattle.sf_trees.specs.Operations.{Operation, IsAsked, fault_in_reply, refused_at, done_by, handle_by, request_place, IsNothing, Then, BySession}

-- a byte of a name: there is one, and it is no slash
abbrev pub is_of_name : Option ℕ → Bool
is_of_name (Some byte) = not (byte == 47)
is_of_name None = false

-- a slash, or the end if `whole`
abbrev pub goes_on_by : Bool → Option ℕ → Bool
goes_on_by whole (Some byte) = byte == 47
goes_on_by whole None = whole

-- Whether the byte at this index is the last one of a name: before a slash or, if `whole`, at the
-- end.
abbrev pub ends_name : Bool → List ℕ → ℕ → Bool
ends_name whole path at = is_of_name (slice_get path at)
    && goes_on_by whole (slice_get path (at + 1))

-- the file type is in the upper bits of the permissions; 4 is a directory
abbrev pub is_directory_mode : Option ℕ → Bool
is_directory_mode (Some mode) = mode / 4096 == 4
is_directory_mode None = false

abbrev pub is_directory_attrs : Attrs → Bool
is_directory_attrs attrs = is_directory_mode attrs.permissions

-- whether the reply is a directory's attributes
abbrev pub finds_by : Place → Result Reply TreeFault → Result Bool Refused
finds_by place (Ok (reply.Attrs attrs)) = Ok (is_directory_attrs attrs)
finds_by place (Ok (reply.Status status.NoSuchFile)) = Ok false
finds_by place (Ok other) = Err (refused_at place (fault_in_reply other))
finds_by place (Err why) = Err (refused_at place why)

abbrev pub Mkdirs : ℕ → List ℕ → List Operation → Result (Unit {0}) Refused → Type 0
Mkdirs session path operations result =
    IsAsked session (request.OnPath (path_op.Mkdir no_attrs) path)
    (done_by (request_place 14 (length path))) operations result

-- a directory is made, unless it exists
abbrev pub MakesUnless : ℕ → List ℕ → Bool → List Operation → Result (Unit {0}) Refused → Type 0
MakesUnless session path true operations result = IsNothing operations result
MakesUnless session path false operations result = Mkdirs session path operations result

-- A directory is made, unless STAT finds it.
abbrev pub MakesOne : ℕ → List ℕ → List Operation → Result (Unit {0}) Refused → Type 0
MakesOne session path operations result =
    Then
    (IsAsked session (request.OnPath path_op.Stat path)
    (finds_by (request_place 17 (length path))))
    (MakesUnless session path) operations result

abbrev pub MakesIf : ℕ → List ℕ → Bool → List Operation → Result (Unit {0}) Refused → Type 0
MakesIf session path true operations result = MakesOne session path operations result
MakesIf session path false operations result = IsNothing operations result

-- the same for the path up to an index, if a name ends there
abbrev pub MakesAt : ℕ → Bool → List ℕ → ℕ → List Operation → Result (Unit {0}) Refused → Type 0
MakesAt session whole path at operations result =
    MakesIf session (take (at + 1) path) (ends_name whole path at) operations result

-- The same for the first n indices, in order.
unfoldable pub MakesTo : ℕ → Bool → List ℕ → ℕ → List Operation → Result (Unit {0}) Refused → Type 0
MakesTo session whole path zero operations result = IsNothing operations result
MakesTo session whole path (suc n) operations result = Then (MakesTo session whole path n)
    (λ done. MakesAt session whole path n) operations result

-- The missing parents of a path are made, and its own directory if `whole`.
abbrev pub MakesWay : ℕ → Bool → List ℕ → List Operation → Result (Unit {0}) Refused → Type 0
MakesWay session whole path operations result =
    MakesTo session whole path (length path) operations result

-- the most bytes of a WRITE
abbrev pub piece : ℕ
piece = 131072

-- the number of chunks of contents with this length
abbrev pub pieces_in : ℕ → ℕ
pieces_in len = (len + 131071) / 131072

-- the chunk of contents at an offset, of at most one WRITE
abbrev pub piece_at : List ℕ → ℕ → List ℕ
piece_at contents offset = take piece (drop offset contents)

abbrev pub WritesPiece : ℕ → ℕ → Place → List ℕ → ℕ → List Operation → Result (Unit {0}) Refused
    → Type 0
WritesPiece session handle place contents n operations result =
    IsAsked session (request.Write (be64 handle) (n * piece) (piece_at contents (n * piece)))
    (done_by place) operations result

-- The first n chunks of the contents are written, in order.
unfoldable pub WritesTo : ℕ → ℕ → Place → List ℕ → ℕ → List Operation → Result (Unit {0}) Refused
    → Type 0
WritesTo session handle place contents zero operations result = IsNothing operations result
WritesTo session handle place contents (suc n) operations result =
    Then (WritesTo session handle place contents n)
    (λ done. WritesPiece session handle place contents n) operations result

abbrev pub WritesPieces : ℕ → ℕ → ℕ → List ℕ → List Operation → Result (Unit {0}) Refused → Type 0
WritesPieces session handle len contents operations result =
    WritesTo session handle (request_place 6 len) contents (pieces_in (length contents))
    operations result

abbrev pub ClosesHandle : ℕ → ℕ → ℕ → List Operation → Result (Unit {0}) Refused → Type 0
ClosesHandle session handle len operations result =
    IsAsked session (request.ByHandle handle_op.Close (be64 handle)) (done_by (request_place 4 len))
    operations result

-- All contents are written, and the handle is closed.
abbrev pub WritesContents : ℕ → ℕ → List ℕ → ℕ → List Operation → Result (Unit {0}) Refused → Type 0
WritesContents session len contents handle operations result =
    Then (WritesPieces session handle len contents) (λ done. ClosesHandle session handle len)
    operations result

-- WRITE, CREAT and TRUNC
abbrev pub to_create : OpenFlags
to_create = record {
  read = false;
  write = true;
  append = false;
  create = true;
  truncate = true;
  exclusive = false;
}

abbrev pub OpensFile : ℕ → List ℕ → OpenFlags → ℕ → List Operation → Result ℕ Refused → Type 0
OpensFile session path flags len operations result =
    IsAsked session (request.OnPath (path_op.Open flags no_attrs) path)
    (handle_by (request_place 3 len)) operations result

-- A file is opened for writing and truncated, written and closed.
abbrev pub Fills : ℕ → List ℕ → List ℕ → List Operation → Result (Unit {0}) Refused → Type 0
Fills session path contents operations result =
    Then (OpensFile session path to_create (length path))
    (WritesContents session (length path) contents) operations result

-- makes the directory of a path, and its missing parents
abbrev pub MakesDirectory : List ℕ → List Operation → Result (Unit {0}) Refused → Type 0
MakesDirectory path operations result =
    BySession (λ session. MakesWay session true path) operations result

abbrev pub WritesMore : List ℕ → List ℕ → ℕ → List Operation → Result (Unit {0}) Refused → Type 0
WritesMore path contents session operations result =
    Then (MakesWay session false path) (λ done. Fills session path contents) operations result

-- makes a file, and its missing parents
abbrev pub WritesFile : List ℕ → List ℕ → List Operation → Result (Unit {0}) Refused → Type 0
WritesFile path contents operations result =
    BySession (WritesMore path contents) operations result

abbrev pub LinksAlone : ℕ → List ℕ → List ℕ → List Operation → Result (Unit {0}) Refused → Type 0
LinksAlone session old new operations result =
    IsAsked session (request.OnPaths pair_op.Link old new)
    (done_by (request_place 202 (length new))) operations result

abbrev pub LinksOn : List ℕ → List ℕ → ℕ → List Operation → Result (Unit {0}) Refused → Type 0
LinksOn old new session operations result = Then (MakesWay session false new)
    (λ done. LinksAlone session old new) operations result

-- adds a link to a file, and makes the new path's missing parents
abbrev pub Links : List ℕ → List ℕ → List Operation → Result (Unit {0}) Refused → Type 0
Links old new operations result =
    BySession (LinksOn old new) operations result
