-- Filling a buffer from a transport.
use Rattle.std.proofs.Common.{◌≡◌, ℕ, ◌+◌, ◌^◌, ◌<◌, ◌≤◌, List, [], ◌++◌, length, take, drop, Option, Some, None, IfSome, refl, sym, ap, subst, ◌∙◌, append_assoc, arith}
use Rattle.std.specs.Int.{w32, from_be_bytes}
use Rattle.std.specs.Io.KnownBytes.{Consumes, IsAtEnd}
use Rattle.std.proofs.KnownBytes.{Consumes-trans}
use Rattle.std.proofs.Math.Seq.{take-append-add}
use Rattle.std.proofs.lemmas.Nat.{from_be_bytes-to_be_bytes_4}
use Rattle.std.proofs.lemmas.List.{length-take-le, length-append, take_at, drop_at, take-append-le}
use borrow.Rule.Slice.PartMut.{put_mid, post_of}
use Rattle.sf_field.specs.Fields.{be32, packet}
use Rattle.sf_client.specs.Packets.{RunsOut, HasNoPacket}

-- an input, if the transport exposes it, is the bytes read and what is left
pub if_known : (P : List ℕ → Type 0) (a b : Option (List ℕ)) (bytes : List ℕ) → Consumes a b bytes → ((left : List ℕ) → b ≡ Some left → P (bytes ++ left)) → IfSome a P
if_known P None b bytes read f = tt
if_known P (Some input) None bytes read f = absurd read
if_known P (Some input) (Some left) bytes read f = subst P (sym read) (f left refl)

-- at its end the input had fewer bytes than the buffer
pub ends : (a b : Option (List ℕ)) (bytes : List ℕ) (n : ℕ) → Consumes a b bytes → IsAtEnd b → length bytes < n → RunsOut a n
ends a b bytes n read end lt = if_known _ a b bytes read (λ left is. let none : left ≡ [] = subst IsAtEnd is end in omega (arith, length-append bytes left, ap length none))

-- the bytes read follow those read before
pub taken_more : (a k n : ℕ) (xs ys : List ℕ) → a ≤ length xs → n ≤ length ys → take (a + n) (put_mid a k xs ys) ≡ take a xs ++ take n ys
taken_more a k n xs ys within fits =
    let len = length-take-le a xs within in
    ap (λ (m : ℕ). take (m + n) (put_mid a k xs ys)) (sym len) ∙ take-append-add (take a xs) (ys ++ post_of a k xs) n ∙ ap (λ (l : List ℕ). take a xs ++ l) (take-append-le n ys (post_of a k xs) fits)

-- ---- the first packet

pub same_number : (n m : ℕ) → n < 2 ^ 32 → m < 2 ^ 32 → be32 n ≡ be32 m → n ≡ m
same_number n m p q e = sym (from_be_bytes-to_be_bytes_4 n p) ∙ ap (from_be_bytes w32) e ∙ from_be_bytes-to_be_bytes_4 m q

-- the header of a packet is its body's length, and its body follows
pub header_is : (body rest header left : List ℕ) → length header ≡ 4 → packet body ++ rest ≡ header ++ left → (header ≡ be32 (length body)) × (left ≡ body ++ rest)
header_is body rest header left len e =
    let whole : be32 (length body) ++ (body ++ rest) ≡ header ++ left = sym (append_assoc (be32 (length body)) body rest) ∙ e in
    (sym (take_at header left 4 len) ∙ ap (take 4) (sym whole), sym (drop_at header left 4 len) ∙ ap (drop 4) (sym whole))

-- the input ended in the header
pub ends_in_header : (a : Option (List ℕ)) (n : ℕ) → n ≡ 4 → RunsOut a n → HasNoPacket a
ends_in_header None n four h = tt
ends_in_header (Some input) n four h = λ body rest is e. omega (arith, h, ap length e, length-append (packet body) rest, length-append (be32 (length body)) body)

-- the header is not the length of a body
pub wrong_header : (a b : Option (List ℕ)) (header : List ℕ) → Consumes a b header → length header ≡ 4 → ((n : ℕ) → 0 < n → n ≤ 262144 → header ≡ be32 n → ⊥) → HasNoPacket a
wrong_header a b header read len wrong = if_known _ a b header read (λ left is body rest is_body e.
    wrong (length body) is_body.some is_body.short (header_is body rest header left len (sym e)).0)

-- A header was read, and it is the length of a body.
pub record HeaderRead (a b : Option (List ℕ)) (header : List ℕ) (n : ℕ) : Type 0 where
  pub read : Consumes a b header
  pub short : n ≤ 262144
  pub tells : header ≡ be32 n

-- the input ended in the body
pub ends_in_body : {header : List ℕ} (a b : Option (List ℕ)) (n k : ℕ) → HeaderRead a b header n → k ≡ n → RunsOut b k → HasNoPacket a
ends_in_body {header} a b n k h same_k ends = if_known _ a b header h.read (λ left is body rest is_body e.
    let parts = header_is body rest header left (ap length h.tells) (sym e) in
    let same : n ≡ length body = same_number n (length body) (omega (arith, h.short)) (omega (arith, is_body.short)) (sym h.tells ∙ parts.0) in
    let few : length left < k = subst (λ (o : Option (List ℕ)). RunsOut o k) is ends in
    omega (arith, few, ap length parts.1, length-append body rest))

-- a header and a body of its length are a packet
pub whole_packet : {a b : Option (List ℕ)} {header : List ℕ} {n : ℕ} (c : Option (List ℕ)) (body buffer : List ℕ) → HeaderRead a b header n → Consumes b c body → length body ≡ n → Consumes a c (packet (take n (body ++ buffer)))
whole_packet {a} {b} {header} {n} c body buffer h second same =
    let taken : take n (body ++ buffer) ≡ body = take_at body buffer n same in
    let parts : header ++ body ≡ packet (take n (body ++ buffer)) = rw (taken, h.tells, same) refl in
    subst (Consumes a c) parts (Consumes-trans a b c header body h.read second)
