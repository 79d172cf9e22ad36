-- A room that is filled from its start.
use Rattle.std.proofs.Common.{◌≡◌, ◌∙◌, ◌+◌, ◌≤◌, ℕ, List, ◌++◌, length, take, drop, sym, ap, append_assoc, arith}
use Rattle.std.proofs.Math.Seq.{take-add}
use Rattle.std.proofs.lemmas.List.{length-take-le, length-drop, take-append-drop, take_at, drop_at, drop-drop, drop-append-le}
use borrow.Rule.Slice.PartMut.{put_mid, mid_of}
use Rattle.sf_c.specs.Trees.{IsFilled}

-- the remainder of a part, and what follows the part
part_rest : (k n : ℕ) (l : List ℕ) → k ≤ n → n ≤ length l → drop k (take n l) ++ drop n l ≡ drop k l
part_rest k n l few fits =
    let len : length (take n l) ≡ n = length-take-le n l fits in
    let within : k ≤ length (take n l) = omega (arith, few, len) in
    sym (drop-append-le k (take n l) (drop n l) within) ∙ ap (drop k) (take-append-drop n l)

-- More bytes were read into a part of the room, after those that were read before.
pub filled_more : (bytes room now part : List ℕ) (done k n : ℕ) → done ≤ length bytes → done + n ≤ length room → k ≤ n
    → IsFilled bytes done room now → IsFilled (drop done bytes) k (mid_of done n now) part
    → IsFilled bytes (done + k) room (put_mid done n now part)
filled_more bytes room now part done k n there fits few was more =
    let len : length (take done bytes) ≡ done = length-take-le done bytes there in
    let front : take done now ≡ take done bytes = ap (take done) was ∙ take_at (take done bytes) (drop done room) done len in
    let rest : drop done now ≡ drop done room = ap (drop done) was ∙ drop_at (take done bytes) (drop done room) done len in
    let left : n ≤ length (drop done room) = omega (arith, fits, length-drop done room) in
    let behind : drop k (take n (drop done room)) ++ drop n (drop done room) ≡ drop (done + k) room =
    part_rest k n (drop done room) few left ∙ drop-drop k done room in
    let read : part ≡ take k (drop done bytes) ++ drop k (take n (drop done room)) =
    more ∙ ap (λ (l : List ℕ). take k (drop done bytes) ++ drop k (take n l)) rest in
    let tail : part ++ drop n (drop done now) ≡ take k (drop done bytes) ++ drop (done + k) room =
    ap (λ (l : List ℕ). part ++ drop n l) rest
    ∙ ap (λ (l : List ℕ). l ++ drop n (drop done room)) read
    ∙ append_assoc (take k (drop done bytes)) (drop k (take n (drop done room))) (drop n (drop done room))
    ∙ ap (λ (l : List ℕ). take k (drop done bytes) ++ l) behind in
    ap (λ (l : List ℕ). l ++ (part ++ drop n (drop done now))) front
    ∙ ap (λ (l : List ℕ). take done bytes ++ l) tail
    ∙ sym (append_assoc (take done bytes) (take k (drop done bytes)) (drop (done + k) room))
    ∙ ap (λ (l : List ℕ). l ++ drop (done + k) room) (sym (take-add done k bytes))
