-- Filling a buffer from a stream, and reading packets.
use Rattle.std.proofs.Common.{◌≡◌, ℕ, ◌+◌, ◌≤◌, List, ◌++◌, length, take, Option, refl, sym, ap, subst, ◌∙◌}
use Rattle.std.specs.Io.KnownBytes.{Consumes}
use Rattle.std.proofs.KnownBytes.{Consumes-trans}
use Rattle.std.proofs.Math.Seq.{take-append-add}
use Rattle.std.proofs.lemmas.List.{length-take-le, take-append-le}
use borrow.Rule.Slice.PartMut.{put_mid, post_of}
use Rattle.sf_field.specs.Fields.{be32, packet}

-- the bytes read, after the earlier ones
pub taken_more : (a k n : ℕ) (xs ys : List ℕ) → a ≤ length xs → n ≤ length ys → take (a + n) (put_mid a k xs ys) ≡ take a xs ++ take n ys
taken_more a k n xs ys within fits =
    let len = length-take-le a xs within in
    ap (λ (m : ℕ). take (m + n) (put_mid a k xs ys)) (sym len) ∙ take-append-add (take a xs) (ys ++ post_of a k xs) n ∙ ap (λ (l : List ℕ). take a xs ++ l) (take-append-le n ys (post_of a k xs) fits)

-- a header and a body of the length in it are a packet
pub whole_packet : (a b c : Option (List ℕ)) (header body : List ℕ) (n : ℕ) → Consumes a b header → header ≡ be32 n → Consumes b c body → length body ≡ n → Consumes a c (packet body)
whole_packet a b c header body n first tells second same =
    let parts : header ++ body ≡ packet body = rw (tells, sym same) refl in
    subst (Consumes a c) parts (Consumes-trans a b c header body first second)
