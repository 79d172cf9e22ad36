-- The encodings of replies.
use Rattle.std.specs.Prelude.{ℕ, ◌<◌, ◌^◌, List, [], ◌∷◌, ◌++◌, length, codes}
use Rattle.std.specs.List.{flat_map, AllByRecursion}
use Rattle.sf_reply.specs.declared.reply.StatusCode.{StatusCode}
use Rattle.sf_reply.specs.declared.reply.StatusCode.TheVariants as status
use Rattle.sf_reply.specs.declared.reply.Entry.{Entry}
use Rattle.sf_reply.specs.declared.reply.Reply.{Reply}
use Rattle.sf_reply.specs.declared.reply.Reply.TheVariants as reply
use Rattle.sf_field.specs.Fields.{be32, be64, string}
use Rattle.sf_field.specs.Attributes.{attrs_text, AttrsFit}

abbrev pub number_of : StatusCode → ℕ
number_of status.Success = 0
number_of status.EndOfFile = 1
number_of status.NoSuchFile = 2
number_of status.PermissionDenied = 3
number_of status.Failure = 4
number_of status.BadMessage = 5
number_of status.OpUnsupported = 8

abbrev pub message_of : StatusCode → List ℕ
message_of status.Success = codes "Success"
message_of status.EndOfFile = codes "End of file"
message_of status.NoSuchFile = codes "No such file"
message_of status.PermissionDenied = codes "Permission denied"
message_of status.Failure = codes "Failure"
message_of status.BadMessage = codes "Bad message"
message_of status.OpUnsupported = codes "Operation unsupported"

-- a code, its message and an empty language tag
abbrev pub status_text : ℕ → List ℕ → List ℕ
status_text code message = be32 code ++ string message ++ string []

-- a handle's number, as a string of 8 bytes
abbrev pub handle_text : ℕ → List ℕ
handle_text number = string (be64 number)

unfoldable pub entry_text : Entry → List ℕ
entry_text e = string e.filename ++ string e.longname ++ attrs_text e.attrs

abbrev pub names_text : List Entry → List ℕ
names_text es = be32 (length es) ++ flat_map entry_text es

-- the body of a reply: its type, the id of its request, and its fields
abbrev pub kind_of_reply : Reply → ℕ
kind_of_reply (reply.Status code) = 101
kind_of_reply reply.NoMemory = 101
kind_of_reply (reply.Handle number) = 102
kind_of_reply (reply.Data bytes) = 103
kind_of_reply (reply.Names es) = 104
kind_of_reply (reply.Attrs a) = 105

abbrev pub fields_of : Reply → List ℕ
fields_of (reply.Status code) = status_text (number_of code) (message_of code)
fields_of reply.NoMemory = status_text 4 (codes "Out of memory")
fields_of (reply.Handle number) = handle_text number
fields_of (reply.Data bytes) = string bytes
fields_of (reply.Names es) = names_text es
fields_of (reply.Attrs a) = attrs_text a

abbrev pub reply_body : ℕ → Reply → List ℕ
reply_body id r = kind_of_reply r ∷ be32 id ++ fields_of r

-- the extensions, each of version 1
abbrev pub extensions : List (List ℕ)
extensions =
    codes "posix-rename@openssh.com"
    ∷ codes "hardlink@openssh.com"
    ∷ codes "fsync@openssh.com"
    ∷ codes "lsetstat@openssh.com"
    ∷ codes "limits@openssh.com"
    ∷ []

-- version 3, and each extension with its version
abbrev pub version_body : List ℕ
version_body = 2 ∷ be32 3 ++ flat_map (λ name. string name ++ string (codes "1")) extensions

-- A plain reply contains no list: copying it allocates nothing, and its packet is short.
abbrev pub IsPlain : Reply → Type 0
IsPlain (reply.Status code) = Unit {0}
IsPlain reply.NoMemory = Unit {0}
IsPlain (reply.Handle number) = Unit {0}
IsPlain (reply.Data bytes) = ⊥
IsPlain (reply.Names es) = ⊥
IsPlain (reply.Attrs a) = Unit {0}

-- the numbers and the strings have an encoding
pub record EntryFits (e : Entry) : Type 0 where
  pub filename : length e.filename < 2 ^ 32
  pub longname : length e.longname < 2 ^ 32
  pub attrs : AttrsFit e.attrs

abbrev pub ReplyFits : Reply → Type 0
ReplyFits (reply.Status code) = Unit {0}
ReplyFits reply.NoMemory = Unit {0}
ReplyFits (reply.Handle number) = number < 2 ^ 64
ReplyFits (reply.Data bytes) = length bytes < 2 ^ 32
ReplyFits (reply.Names es) = (length es < 2 ^ 32) × AllByRecursion EntryFits es
ReplyFits (reply.Attrs a) = AttrsFit a
