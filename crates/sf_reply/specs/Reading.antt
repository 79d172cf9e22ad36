-- Decoding of a reply, from left to right.
use Rattle.std.specs.Prelude.{◌≡◌, ℕ, zero, suc, ◌<◌, ◌^◌, List, [], ◌∷◌, length, codes, Option, Some, None, option_map, ◌==◌, ◌&&◌, if◌then◌else◌}
use Rattle.std.specs.Str.{bytes_eq}
use Rattle.std.specs.Int.{w32, w64}
use Rattle.sf_reply.specs.declared.reply.StatusCode.{StatusCode}
use Rattle.sf_reply.specs.declared.reply.StatusCode.TheVariants as status
use Rattle.sf_reply.specs.declared.reply.Entry.{Entry}
use Rattle.sf_reply.specs.declared.reply.Reply.{Reply}
use Rattle.sf_reply.specs.declared.reply.Reply.TheVariants as reply
use Rattle.sf_reply.specs.declared.reading.FoundReply.{FoundReply}
use Rattle.sf_reply.specs.declared.reading.FoundReply.TheVariants as found
use Rattle.sf_field.specs.Reading.{◌>>=◌, number_at, string_at, sent_attrs_at}
use Rattle.sf_reply.specs.Replies.{message_of, ReplyFits, reply_body}

-- The body is exactly the encoding of the reply with this id, without trailing bytes.
pub record IsReply (body : List ℕ) (id : ℕ) (reply : Reply) : Type 0 where
  pub id_fits : id < 2 ^ 32
  pub fits : ReplyFits reply
  pub parts : body ≡ reply_body id reply

-- a value without trailing bytes
unfoldable pub whole : {A : Type 0} → (List ℕ → Option (A × List ℕ)) → List ℕ → Option A
whole read bytes = read bytes >>= λ x. if length x.1 == 0 then Some x.0 else None

-- the status code with this number
abbrev pub code_of : ℕ → Option StatusCode
code_of number =
    if number == 0 then Some status.Success
    else if number == 1 then Some status.EndOfFile
    else if number == 2 then Some status.NoSuchFile
    else if number == 3 then Some status.PermissionDenied
    else if number == 4 then Some status.Failure
    else if number == 5 then Some status.BadMessage
    else if number == 8 then Some status.OpUnsupported
    else None

-- the status with this code, if the message is the code's
abbrev pub status_with : Option StatusCode → List ℕ → Option Reply
status_with None message = None
status_with (Some code) message =
    if bytes_eq message (message_of code) then Some (reply.Status code) else None

abbrev pub status_of : ℕ → List ℕ → Option Reply
status_of number message =
    if number == 4 && bytes_eq message (codes "Out of memory") then Some reply.NoMemory
    else status_with (code_of number) message

unfoldable pub status_at : List ℕ → Option Reply
status_at bytes = do
  number ← number_at w32 bytes
  message ← string_at number.1
  tag ← whole string_at message.1
  if length tag == 0 then status_of number.0 message.0 else None

unfoldable pub handle_at : List ℕ → Option (ℕ × List ℕ)
handle_at bytes = do
  text ← string_at bytes
  number ← whole (number_at w64) text.0
  Some (number, text.1)

unfoldable pub entry_at : List ℕ → Option (Entry × List ℕ)
entry_at bytes = do
  filename ← string_at bytes
  longname ← string_at filename.1
  attrs ← sent_attrs_at longname.1
  Some (record { filename = filename.0; longname = longname.0; attrs = attrs.0 }, attrs.1)

unfoldable pub entries_at : ℕ → List ℕ → Option (List Entry × List ℕ)
entries_at zero bytes = Some ([], bytes)
entries_at (suc n) bytes = do
  entry ← entry_at bytes
  others ← entries_at n entry.1
  Some (entry.0 ∷ others.0, others.1)

unfoldable pub names_at : List ℕ → Option (List Entry × List ℕ)
names_at bytes = number_at w32 bytes >>= λ n. entries_at n.0 n.1

-- the fields of a reply of this type
unfoldable pub reply_fields_at : ℕ → List ℕ → Option Reply
reply_fields_at kind bytes =
    if kind == 101 then status_at bytes
    else if kind == 102 then option_map reply.Handle (whole handle_at bytes)
    else if kind == 103 then option_map reply.Data (whole string_at bytes)
    else if kind == 104 then option_map reply.Names (whole names_at bytes)
    else if kind == 105 then option_map reply.Attrs (whole sent_attrs_at bytes)
    else None

unfoldable pub reply_at : List ℕ → Option (ℕ × Reply)
reply_at [] = None
reply_at (kind ∷ rest) = do
  id ← number_at w32 rest
  r ← reply_fields_at kind id.1
  Some (id.0, r)

-- the decoded entries; none on failure
abbrev pub listed : Option (List Entry × List ℕ) → List Entry
listed None = []
listed (Some entries) = entries.0

-- the reply that was found in a body
abbrev pub reply_of : FoundReply → Reply
reply_of (found.Status code) = reply.Status code
reply_of found.NoMemory = reply.NoMemory
reply_of (found.Handle number) = reply.Handle number
reply_of (found.Data bytes) = reply.Data bytes.now
reply_of (found.Names count entries) = reply.Names (listed (entries_at count entries.now))
reply_of (found.Attrs attrs) = reply.Attrs attrs

-- the bytes after `n` entries
abbrev pub after_entries : ℕ → List ℕ → Option (List ℕ)
after_entries n bytes = option_map (λ x. x.1) (entries_at n bytes)

-- the count of names is the number of names
abbrev pub HasCountedNames : FoundReply → Type 0
HasCountedNames (found.Status code) = Unit {0}
HasCountedNames found.NoMemory = Unit {0}
HasCountedNames (found.Handle number) = Unit {0}
HasCountedNames (found.Data bytes) = Unit {0}
HasCountedNames (found.Names count entries) = length (listed (entries_at count entries.now)) ≡ count
HasCountedNames (found.Attrs attrs) = Unit {0}
