-- The grammar of requests: what a body encodes.
use Rattle.std.specs.Prelude.{◌≡◌, ◌≢◌, ℕ, ◌<◌, ◌^◌, List, [], ◌∷◌, ◌++◌, length, codes, Bool, true, Option, Some, None, ◌==◌, ◌&&◌, if◌then◌else◌}
use Rattle.std.specs.Str.{bytes_eq}
use Rattle.sf_field.specs.declared.attrs.Attrs.{Attrs}
use Rattle.sf_field.specs.declared.open_flags.OpenFlags.{OpenFlags}
use Rattle.sf_request.specs.declared.request.WireRequest.{WireRequest}
use Rattle.sf_field.specs.declared.operation.PathOp.TheVariants as path_op
use Rattle.sf_field.specs.declared.operation.PairOp.TheVariants as pair_op
use Rattle.sf_field.specs.declared.operation.HandleOp.TheVariants as handle_op
use Rattle.sf_request.specs.declared.request.WireRequest.TheVariants as request
use Rattle.sf_request.specs.declared.request.Asked.{Asked}
use Rattle.sf_request.specs.declared.request.Asked.TheVariants.{Init, Request, Limits, BadFields, Unknown, NoVersion, NoId}
use Rattle.sf_field.specs.Fields.{be32, be64, string}
use Rattle.sf_field.specs.Attributes.{SpellsAttrs, AttrsFit, attrs_text, no_attrs}
use Rattle.sf_field.specs.OpenFlags.{open_flags, bits_of}

-- the type byte of a request as a client sends it
abbrev pub kind_of : WireRequest → ℕ
kind_of (request.OnPath (path_op.Open flags attrs) filename) = 3
kind_of (request.ByHandle handle_op.Close handle) = 4
kind_of (request.ByHandle (handle_op.Read offset len) handle) = 5
kind_of (request.Write handle offset bytes) = 6
kind_of (request.LStat path) = 7
kind_of (request.ByHandle handle_op.FStat handle) = 8
kind_of (request.OnPath (path_op.SetStat attrs) path) = 9
kind_of (request.ByHandle (handle_op.FSetStat attrs) handle) = 10
kind_of (request.OnPath path_op.OpenDir path) = 11
kind_of (request.ByHandle handle_op.ReadDir handle) = 12
kind_of (request.OnPath path_op.Remove path) = 13
kind_of (request.OnPath (path_op.Mkdir attrs) path) = 14
kind_of (request.OnPath path_op.Rmdir path) = 15
kind_of (request.RealPath path) = 16
kind_of (request.OnPath path_op.Stat path) = 17
kind_of (request.OnPaths pair_op.Rename old new) = 18
kind_of (request.OnPaths pair_op.PosixRename old new) = 200
kind_of (request.OnPaths pair_op.Link old new) = 200

-- the encodings of one field
pub record IsU32 (n : ℕ) (text : List ℕ) : Type 0 where
  pub fits : n < 2 ^ 32
  pub is : text ≡ be32 n

pub record IsU64 (n : ℕ) (text : List ℕ) : Type 0 where
  pub fits : n < 2 ^ 64
  pub is : text ≡ be64 n

pub record IsString (bytes text : List ℕ) : Type 0 where
  pub short : length bytes < 2 ^ 32
  pub is : text ≡ string bytes

abbrev pub IsAttrs : Attrs → List ℕ → Type 0
IsAttrs attrs text = SpellsAttrs text attrs

-- Unknown bits are ignored.
pub record IsFlags (flags : OpenFlags) (text : List ℕ) : Type 0 where
  pub bits : ℕ
  pub spelled : IsU32 bits text
  pub say : open_flags bits ≡ flags

-- two fields in sequence
infixr 10 ◌⨾◌
pub record ◌⨾◌ (First Second : List ℕ → Type 0) (text : List ℕ) : Type 0 where
  pub front : List ℕ
  pub back : List ℕ
  pub first : First front
  pub second : Second back
  pub parts : text ≡ front ++ back

-- The shapes of a request's fields. A text is a path or a handle.
pub data Shape : Type 0 where
  OneText : (make : List ℕ → WireRequest) → Shape
  TextAndAttrs : (make : Attrs → List ℕ → WireRequest) → Shape
  TwoTexts : (make : List ℕ → List ℕ → WireRequest) → Shape
  OpenFields : Shape
  ReadFields : Shape
  WriteFields : Shape

-- the values of the fields
abbrev pub Values : Shape → Type 0
Values (OneText make) = List ℕ
Values (TextAndAttrs make) = List ℕ × Attrs
Values (TwoTexts make) = List ℕ × List ℕ
Values OpenFields = List ℕ × (OpenFlags × Attrs)
Values ReadFields = List ℕ × (ℕ × ℕ)
Values WriteFields = List ℕ × (ℕ × List ℕ)

-- the encoding of the values
abbrev pub SpellsShape : (shape : Shape) → Values shape → List ℕ → Type 0
SpellsShape (OneText make) x = IsString x
SpellsShape (TextAndAttrs make) x = IsString x.0 ⨾ IsAttrs x.1
SpellsShape (TwoTexts make) x = IsString x.0 ⨾ IsString x.1
SpellsShape OpenFields x = IsString x.0 ⨾ IsFlags x.1.0 ⨾ IsAttrs x.1.1
SpellsShape ReadFields x = IsString x.0 ⨾ IsU64 x.1.0 ⨾ IsU32 x.1.1
SpellsShape WriteFields x = IsString x.0 ⨾ IsU64 x.1.0 ⨾ IsString x.1.1

-- the request with these values
abbrev pub request_with : (shape : Shape) → Values shape → WireRequest
request_with (OneText make) x = make x
request_with (TextAndAttrs make) x = make x.1 x.0
request_with (TwoTexts make) x = make x.0 x.1
request_with OpenFields x = request.OnPath (path_op.Open x.1.0 x.1.1) x.0
request_with ReadFields x = request.ByHandle (handle_op.Read x.1.0 x.1.1) x.0
request_with WriteFields x = request.Write x.0 x.1.0 x.1.1

-- SETSTAT and FSETSTAT, which extensions ask for too
abbrev pub set_at : Attrs → List ℕ → WireRequest
set_at attrs = request.OnPath (path_op.SetStat attrs)

abbrev pub set_open : Attrs → List ℕ → WireRequest
set_open attrs = request.ByHandle (handle_op.FSetStat attrs)

-- The table of requests: the type, the name of an extension, and the shape.
abbrev pub requests : List (ℕ × Option (List ℕ) × Shape)
requests =
    (3, None, OpenFields)
    ∷ (4, None, OneText (request.ByHandle handle_op.Close))
    ∷ (5, None, ReadFields)
    ∷ (6, None, WriteFields)
    ∷ (7, None, OneText request.LStat)
    ∷ (8, None, OneText (request.ByHandle handle_op.FStat))
    ∷ (9, None, TextAndAttrs set_at)
    ∷ (10, None, TextAndAttrs set_open)
    ∷ (11, None, OneText (request.OnPath path_op.OpenDir))
    ∷ (12, None, OneText (request.ByHandle handle_op.ReadDir))
    ∷ (13, None, OneText (request.OnPath path_op.Remove))
    ∷ (14, None, TextAndAttrs (λ attrs. request.OnPath (path_op.Mkdir attrs)))
    ∷ (15, None, OneText (request.OnPath path_op.Rmdir))
    ∷ (16, None, OneText request.RealPath)
    ∷ (17, None, OneText (request.OnPath path_op.Stat))
    ∷ (18, None, TwoTexts (request.OnPaths pair_op.Rename))
    ∷ (200, Some (codes "posix-rename@openssh.com"), TwoTexts (request.OnPaths pair_op.PosixRename))
    ∷ (200, Some (codes "hardlink@openssh.com"), TwoTexts (request.OnPaths pair_op.Link))
    ∷ (200, Some (codes "fsync@openssh.com"), OneText (set_open no_attrs))
    ∷ (200, Some (codes "lsetstat@openssh.com"), TextAndAttrs set_at)
    ∷ []

-- the shape of a request of this type; an extension also has this name
abbrev pub is_named : Option (List ℕ) → List ℕ → Bool
is_named None name = true
is_named (Some known) name = bytes_eq name known

abbrev pub shape_in : List (ℕ × Option (List ℕ) × Shape) → ℕ → List ℕ → Option Shape
shape_in [] kind name = None
shape_in (row ∷ rows) kind name =
    if kind == row.0 && is_named row.1 name then Some row.2 else shape_in rows kind name

unfoldable pub shape_of : ℕ → List ℕ → Option Shape
shape_of kind name = shape_in requests kind name

-- a body: its type, its id, and the remaining bytes
pub record HasId (body : List ℕ) (kind id : ℕ) (rest : List ℕ) : Type 0 where
  pub fits : id < 2 ^ 32
  pub parts : body ≡ kind ∷ be32 id ++ rest

-- The remaining bytes of an extended request begin with its name. Other requests have none.
pub record HasName (kind : ℕ) (rest name fields : List ℕ) : Type 0 where
  pub short : length name < 2 ^ 32
  pub none : kind ≢ 200 → name ≡ []
  pub parts : rest ≡ (if kind == 200 then string name else []) ++ fields

-- The bytes after the id encode a request. Bytes after the fields are ignored.
pub record HasRequest (kind : ℕ) (rest : List ℕ) (request : WireRequest) : Type 0 where
  pub name : List ℕ
  pub text : List ℕ
  pub more : List ℕ
  pub shape : Shape
  pub values : Values shape
  pub named : HasName kind rest name (text ++ more)
  pub row : shape_of kind name ≡ Some shape
  pub spelled : SpellsShape shape values text
  pub is : request ≡ request_with shape values

-- the type, or the name of the extension, is not in the table
pub record IsUnknown (kind : ℕ) (rest : List ℕ) : Type 0 where
  pub name : List ℕ
  pub fields : List ℕ
  pub named : HasName kind rest name fields
  pub no_row : shape_of kind name ≡ None

-- the extension that asks for the limits, which has no fields
abbrev pub AsksLimits : ℕ → List ℕ → Type 0
AsksLimits kind rest =
    (kind ≡ 200) × (more : List ℕ) × (rest ≡ string (codes "limits@openssh.com") ++ more)

abbrev pub BeginsInit : List ℕ → Type 0
BeginsInit body = (rest : List ℕ) × (body ≡ 1 ∷ rest)

-- what a body encodes
abbrev pub Asks : List ℕ → Asked → Type 0
Asks body (Init version) = (more : List ℕ) × HasId body 1 version more
Asks body (Request id request) =
    (kind : ℕ) × (rest : List ℕ) × HasId body kind id rest × HasRequest kind rest request
Asks body (Limits id) =
    (kind : ℕ) × (rest : List ℕ) × HasId body kind id rest × AsksLimits kind rest
Asks body (BadFields id) = (kind : ℕ) × (rest : List ℕ) × HasId body kind id rest × (kind ≢ 1)
    × (AsksLimits kind rest → ⊥) × (IsUnknown kind rest → ⊥)
    × ((request : WireRequest) → HasRequest kind rest request → ⊥)
Asks body (Unknown id) = (kind : ℕ) × (rest : List ℕ) × HasId body kind id rest × (kind ≢ 1)
    × (AsksLimits kind rest → ⊥) × IsUnknown kind rest
Asks body NoVersion = (length body < 5) × BeginsInit body
Asks body NoId = (length body < 5) × (BeginsInit body → ⊥)

-- The encoding that a client sends: only the bits of known flags, and attributes without unknown
-- flags and extended pairs.
abbrev pub fields_text : WireRequest → List ℕ
fields_text (request.OnPath (path_op.Open flags attrs) filename) =
    string filename ++ be32 (bits_of flags) ++ attrs_text attrs
fields_text (request.ByHandle handle_op.Close handle) = string handle
fields_text (request.ByHandle (handle_op.Read offset len) handle) =
    string handle ++ be64 offset ++ be32 len
fields_text (request.Write handle offset bytes) = string handle ++ be64 offset ++ string bytes
fields_text (request.LStat path) = string path
fields_text (request.ByHandle handle_op.FStat handle) = string handle
fields_text (request.OnPath (path_op.SetStat attrs) path) = string path ++ attrs_text attrs
fields_text (request.ByHandle (handle_op.FSetStat attrs) handle) = string handle ++ attrs_text attrs
fields_text (request.OnPath path_op.OpenDir path) = string path
fields_text (request.ByHandle handle_op.ReadDir handle) = string handle
fields_text (request.OnPath path_op.Remove path) = string path
fields_text (request.OnPath (path_op.Mkdir attrs) path) = string path ++ attrs_text attrs
fields_text (request.OnPath path_op.Rmdir path) = string path
fields_text (request.RealPath path) = string path
fields_text (request.OnPath path_op.Stat path) = string path
fields_text (request.OnPaths pair_op.Rename old new) = string old ++ string new
fields_text (request.OnPaths pair_op.PosixRename old new) =
    string (codes "posix-rename@openssh.com") ++ string old ++ string new
fields_text (request.OnPaths pair_op.Link old new) =
    string (codes "hardlink@openssh.com") ++ string old ++ string new

-- the body of a request: its type, its id, and its fields
abbrev pub request_body : ℕ → WireRequest → List ℕ
request_body id r = kind_of r ∷ be32 id ++ fields_text r

-- the body of the client's first packet: INIT with version 3
abbrev pub init_body : List ℕ
init_body = 1 ∷ be32 3

-- the numbers and the strings have an encoding
abbrev pub IsShort : List ℕ → Type 0
IsShort bytes = length bytes < 2 ^ 32

abbrev pub RequestFits : WireRequest → Type 0
RequestFits (request.OnPath (path_op.Open flags attrs) filename) = IsShort filename × AttrsFit attrs
RequestFits (request.ByHandle handle_op.Close handle) = IsShort handle
RequestFits (request.ByHandle (handle_op.Read offset len) handle) =
    IsShort handle × (offset < 2 ^ 64) × (len < 2 ^ 32)
RequestFits (request.Write handle offset bytes) = IsShort handle × (offset < 2 ^ 64) × IsShort bytes
RequestFits (request.LStat path) = IsShort path
RequestFits (request.ByHandle handle_op.FStat handle) = IsShort handle
RequestFits (request.OnPath (path_op.SetStat attrs) path) = IsShort path × AttrsFit attrs
RequestFits (request.ByHandle (handle_op.FSetStat attrs) handle) = IsShort handle × AttrsFit attrs
RequestFits (request.OnPath path_op.OpenDir path) = IsShort path
RequestFits (request.ByHandle handle_op.ReadDir handle) = IsShort handle
RequestFits (request.OnPath path_op.Remove path) = IsShort path
RequestFits (request.OnPath (path_op.Mkdir attrs) path) = IsShort path × AttrsFit attrs
RequestFits (request.OnPath path_op.Rmdir path) = IsShort path
RequestFits (request.RealPath path) = IsShort path
RequestFits (request.OnPath path_op.Stat path) = IsShort path
RequestFits (request.OnPaths op old new) = IsShort old × IsShort new
