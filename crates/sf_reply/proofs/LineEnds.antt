-- A listing line ends with the file's name.
use Rattle.std.proofs.Common.{◌≡◌, ℕ, ◌-◌, ◌≤◌, List, ◌++◌, length, drop, Option, Some, None, ap, sym, ◌∙◌, append_assoc, arith}
use Rattle.std.proofs.lemmas.List.{length-append}
use Rattle.std.proofs.Math.Seq.{drop-append_seam}
use Rattle.sf_field.specs.declared.attrs.Attrs.{Attrs}
use Rattle.sf_field.specs.declared.attrs.Owner.{Owner}
use Rattle.sf_field.specs.declared.attrs.Times.{Times}
use Rattle.sf_reply.specs.Longname.{mode_text, columns_text, longname_text}

-- so does any prefix followed by the name
ends : (front name line : List ℕ) → front ++ name ≡ line → (length name ≤ length line) × (drop (length line - length name) line ≡ name)
ends front name line e =
    let long : length line ≡ length (front ++ name) = ap length (sym e) in
    let n : length line - length name ≡ length front = omega (arith, long, length-append front name) in
    (omega (arith, long, length-append front name), ap (λ (k : ℕ). drop k line) n ∙ ap (drop (length front)) (sym e) ∙ drop-append_seam front name)

parts_end : (size : Option ℕ) (owner : Option Owner) (permissions : Option ℕ) (times : Option Times) (links : ℕ) (name line : List ℕ)
    → longname_text (record { size = size; owner = owner; permissions = permissions; times = times }) links name ≡ Some line
    → (length name ≤ length line) × (drop (length line - length name) line ≡ name)
parts_end None owner permissions times links name line e = cc
parts_end (Some size) None permissions times links name line e = cc
parts_end (Some size) (Some owner) None times links name line e = cc
parts_end (Some size) (Some owner) (Some permissions) None links name line e = cc
parts_end (Some size) (Some owner) (Some permissions) (Some times) links name line e =
    let is : mode_text permissions ++ columns_text links owner size times.mtime ++ name ≡ line = cc in
    ends (mode_text permissions ++ columns_text links owner size times.mtime) name line (append_assoc (mode_text permissions) (columns_text links owner size times.mtime) name ∙ is)

pub longname_ends : (attrs : Attrs) (links : ℕ) (name line : List ℕ) → longname_text attrs links name ≡ Some line → (length name ≤ length line) × (drop (length line - length name) line ≡ name)
longname_ends attrs links name line e = parts_end attrs.size attrs.owner attrs.permissions attrs.times links name line e
