-- Decoding of single fields.
use Rattle.std.specs.Prelude.{◌≡◌, ℕ, zero, suc, List, length, take, drop, Bool, true, false, Option, Some, None, nat_lt, if◌then◌else◌}
use Rattle.std.specs.Int.{Width, w32, w64, byte_len, from_be_bytes}
use Rattle.sf_field.specs.declared.attrs.Attrs.{Attrs}
use Rattle.sf_field.specs.declared.attrs.Owner.{Owner}
use Rattle.sf_field.specs.declared.attrs.Times.{Times}
use Rattle.sf_field.specs.declared.open_flags.OpenFlags.{OpenFlags}
use Rattle.sf_field.specs.Attributes.{lacks}
use Rattle.sf_field.specs.OpenFlags.{open_flags}

infixl 10 ◌>>=◌
abbrev pub ◌>>=◌ : {A B : Type 0} → Option A → (A → Option B) → Option B
(Some x) >>= f = f x
None >>= f = None

-- The function's result, mapped by `view`, equals the decoder's.
abbrev pub Gives : {X Y : Type 0} → (X → Y) → Option X → Option Y → Type 0
Gives view (Some x) read = read ≡ Some (view x)
Gives view None read = read ≡ None

-- A decoder returns a value and the remaining bytes, or None if the bytes end too soon.
unfoldable pub number_at : Width → List ℕ → Option (ℕ × List ℕ)
number_at w bytes =
    if nat_lt (length bytes) (byte_len w) then None
    else Some (from_be_bytes w (take (byte_len w) bytes), drop (byte_len w) bytes)

unfoldable pub string_at : List ℕ → Option (List ℕ × List ℕ)
string_at bytes = do
  n ← number_at w32 bytes
  if nat_lt (length n.1) n.0 then None else Some (take n.0 n.1, drop n.0 n.1)

unfoldable pub owner_at : List ℕ → Option (Owner × List ℕ)
owner_at bytes = do
  uid ← number_at w32 bytes
  gid ← number_at w32 uid.1
  Some (record { uid = uid.0; gid = gid.0 }, gid.1)

unfoldable pub times_at : List ℕ → Option (Times × List ℕ)
times_at bytes = do
  atime ← number_at w32 bytes
  mtime ← number_at w32 atime.1
  Some (record { atime = atime.0; mtime = mtime.0 }, mtime.1)

-- an optional part
abbrev pub part_at : {A : Type 0} → Bool → (List ℕ → Option (A × List ℕ)) → List ℕ
    → Option (Option A × List ℕ)
part_at true read bytes = Some (None, bytes)
part_at false read bytes = read bytes >>= λ x. Some (Some x.0, x.1)

unfoldable pub after_pair : List ℕ → Option (List ℕ)
after_pair bytes = do
  first ← string_at bytes
  second ← string_at first.1
  Some second.1

unfoldable pub after_pairs : ℕ → List ℕ → Option (List ℕ)
after_pairs zero bytes = Some bytes
after_pairs (suc n) bytes = after_pair bytes >>= λ rest. after_pairs n rest

unfoldable pub after_extended : Bool → List ℕ → Option (List ℕ)
after_extended true bytes = Some bytes
after_extended false bytes = do
  n ← number_at w32 bytes
  after_pairs n.0 n.1

unfoldable pub attrs_at : List ℕ → Option (Attrs × List ℕ)
attrs_at bytes = do
  flags ← number_at w32 bytes
  size ← part_at (lacks flags.0 0x1) (number_at w64) flags.1
  owner ← part_at (lacks flags.0 0x2) owner_at size.1
  permissions ← part_at (lacks flags.0 0x4) (number_at w32) owner.1
  times ← part_at (lacks flags.0 0x8) times_at permissions.1
  rest ← after_extended (lacks flags.0 0x80000000) times.1
  Some (
    record {
      size = size.0;
      owner = owner.0;
      permissions = permissions.0;
      times = times.0;
    },
    rest,
  )

unfoldable pub flags_at : List ℕ → Option (OpenFlags × List ℕ)
flags_at bytes = number_at w32 bytes >>= λ bits. Some (open_flags bits.0, bits.1)

-- attributes in the form that is sent: without other flags and without extended pairs
unfoldable pub sent_attrs_at : List ℕ → Option (Attrs × List ℕ)
sent_attrs_at bytes = do
  flags ← number_at w32 bytes
  if nat_lt flags.0 0x10 then attrs_at bytes else None
