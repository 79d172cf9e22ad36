-- The length of a listing line.
use Rattle.std.proofs.Common.{◌≡◌, ℕ, ◌+◌, ◌<◌, ◌≤◌, ◌^◌, List, ◌++◌, length, Option, Some, None, ap, arith}
use Rattle.std.specs.Fmt.{decimal}
use Rattle.std.proofs.lemmas.List.{length-append, length-replicate}
use Rattle.std.proofs.lemmas.Fmt.{length-decimal-le}
use Rattle.sf_field.specs.declared.attrs.Attrs.{Attrs}
use Rattle.sf_field.specs.declared.attrs.Owner.{Owner}
use Rattle.sf_field.specs.declared.attrs.Times.{Times}
use Rattle.sf_field.specs.Attributes.{AttrsFit, OwnerFits}
use Rattle.sf_reply.specs.Longname.{mode_text, columns_text, longname_text}

digits_of_u32 : (n : ℕ) → n < 2 ^ 32 → length (decimal n) ≤ 10
digits_of_u32 n fits = length-decimal-le 10 n (omega arith) (omega arith) (omega arith)

digits_of_u64 : (n : ℕ) → n < 2 ^ 64 → length (decimal n) ≤ 20
digits_of_u64 n fits = length-decimal-le 20 n (omega arith) (omega arith) fits

columns_short : (links : ℕ) (owner : Owner) (size mtime : ℕ) → links < 2 ^ 64 → OwnerFits owner → size < 2 ^ 64 → mtime < 2 ^ 32 → length (columns_text links owner size mtime) ≤ 78
columns_short links owner size mtime l o s m =
    let d1 = digits_of_u64 links l in
    let d2 = digits_of_u32 owner.uid o.uid in
    let d3 = digits_of_u32 owner.gid o.gid in
    let d4 = digits_of_u64 size s in
    let d5 = digits_of_u32 mtime m in
    simp (length-append, length-replicate) (omega arith)

line_short : {line : List ℕ} (size : Option ℕ) (owner : Option Owner) (permissions : Option ℕ) (times : Option Times) (links : ℕ) (name : List ℕ)
    → AttrsFit (record { size = size; owner = owner; permissions = permissions; times = times }) → links < 2 ^ 64
    → longname_text (record { size = size; owner = owner; permissions = permissions; times = times }) links name ≡ Some line → length line ≤ 88 + length name
line_short None owner permissions times links name fits l e = cc
line_short (Some size) None permissions times links name fits l e = cc
line_short (Some size) (Some owner) None times links name fits l e = cc
line_short (Some size) (Some owner) (Some permissions) None links name fits l e = cc
line_short {line} (Some size) (Some owner) (Some permissions) (Some times) links name fits l e =
    let is : mode_text permissions ++ columns_text links owner size times.mtime ++ name ≡ line = cc in
    omega (
      arith,
      ap length is,
      length-append (mode_text permissions) (columns_text links owner size times.mtime ++ name),
      length-append (columns_text links owner size times.mtime) name,
      columns_short links owner size times.mtime l fits.owner fits.size fits.times.mtime,
    )

pub longname_short : (attrs : Attrs) (links : ℕ) (name line : List ℕ) → AttrsFit attrs → links < 2 ^ 64 → longname_text attrs links name ≡ Some line → length line ≤ 88 + length name
longname_short attrs links name line fits l e = line_short attrs.size attrs.owner attrs.permissions attrs.times links name fits l e
