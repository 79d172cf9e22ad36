-- The kinds of reply to each request, apart from out of memory, and the longest reply.
use Rattle.std.specs.Prelude.{◌≡◌, ℕ, IsSome}
use Rattle.sf_field.specs.declared.attrs.Attrs.{Attrs}
use Rattle.sf_reply.specs.declared.reply.Reply.{Reply}
use Rattle.sf_reply.specs.declared.reply.Reply.TheVariants as reply
use Rattle.sf_call.specs.declared.request.Request.{Request}
use Rattle.sf_call.specs.Requests.{Wanted, wanted_by}
use Rattle.sf_call.specs.Requests.Wanted.{StatusAlone, Attributes, NewHandle, Bytes, Entries}

abbrev pub IsStatus : Reply → Type 0
IsStatus (reply.Status code) = Unit {0}
IsStatus reply.NoMemory = ⊥
IsStatus (reply.Handle number) = ⊥
IsStatus (reply.Data bytes) = ⊥
IsStatus (reply.Names entries) = ⊥
IsStatus (reply.Attrs attrs) = ⊥

-- all four attributes are present
pub record HasAllParts (attrs : Attrs) : Type 0 where
  pub size : IsSome attrs.size
  pub owner : IsSome attrs.owner
  pub permissions : IsSome attrs.permissions
  pub times : IsSome attrs.times

abbrev pub IsStatusOrAttrs : Reply → Type 0
IsStatusOrAttrs (reply.Status code) = Unit {0}
IsStatusOrAttrs reply.NoMemory = ⊥
IsStatusOrAttrs (reply.Handle number) = ⊥
IsStatusOrAttrs (reply.Data bytes) = ⊥
IsStatusOrAttrs (reply.Names entries) = ⊥
IsStatusOrAttrs (reply.Attrs attrs) = HasAllParts attrs

-- a status, or a handle with the call's number
abbrev pub IsStatusOrHandle : ℕ → Reply → Type 0
IsStatusOrHandle call (reply.Status code) = Unit {0}
IsStatusOrHandle call reply.NoMemory = ⊥
IsStatusOrHandle call (reply.Handle number) = number ≡ call
IsStatusOrHandle call (reply.Data bytes) = ⊥
IsStatusOrHandle call (reply.Names entries) = ⊥
IsStatusOrHandle call (reply.Attrs attrs) = ⊥

abbrev pub IsStatusOrData : Reply → Type 0
IsStatusOrData (reply.Status code) = Unit {0}
IsStatusOrData reply.NoMemory = ⊥
IsStatusOrData (reply.Handle number) = ⊥
IsStatusOrData (reply.Data bytes) = Unit {0}
IsStatusOrData (reply.Names entries) = ⊥
IsStatusOrData (reply.Attrs attrs) = ⊥

abbrev pub IsStatusOrNames : Reply → Type 0
IsStatusOrNames (reply.Status code) = Unit {0}
IsStatusOrNames reply.NoMemory = ⊥
IsStatusOrNames (reply.Handle number) = ⊥
IsStatusOrNames (reply.Data bytes) = ⊥
IsStatusOrNames (reply.Names entries) = Unit {0}
IsStatusOrNames (reply.Attrs attrs) = ⊥

-- a status, or a reply of the kind that the request asks for; a new handle has the call's number
abbrev pub IsWanted : ℕ → Wanted → Reply → Type 0
IsWanted number StatusAlone given = IsStatus given
IsWanted number Attributes given = IsStatusOrAttrs given
IsWanted number NewHandle given = IsStatusOrHandle number given
IsWanted number Bytes given = IsStatusOrData given
IsWanted number Entries given = IsStatusOrNames given

abbrev pub IsReplyTo : ℕ → Request → Reply → Type 0
IsReplyTo number request given = IsWanted number (wanted_by request) given

-- the size of the longest reply packet in bytes: DATA with MAX_READ bytes
abbrev pub longest_packet : ℕ
longest_packet = 261133
