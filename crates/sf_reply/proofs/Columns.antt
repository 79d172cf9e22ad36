-- The output of a format in a column.
use Rattle.std.proofs.Common.{◌≡◌, ℕ, zero, suc, false, List, [], ◌∷◌, ◌++◌, refl, ap, arith}
use Rattle.std.specs.List.{repeat}
use Rattle.std.proofs.Math.Utf8.{encode}
use Rattle.std.proofs.lemmas.List.{append-nil}
use Rattle.std.specs.Fmt.{padded_integral, format_spec, char_count}
use Rattle.sf_reply.specs.Longname.{spaces, left_justified, right_in}

repeat_is : (n : ℕ) → repeat n (32 ∷ []) ≡ spaces n
repeat_is zero = refl
repeat_is (suc n) = ap (λ (t : List ℕ). 32 ∷ t) (repeat_is n)

prefix_none : char_count [] ≡ 0
unfolding char_count
prefix_none = refl

filled_before : (n k m : ℕ) (text : List ℕ) → n ≡ k → m ≡ 0 → repeat n (32 ∷ []) ++ [] ++ [] ++ [] ++ (text ++ repeat m (32 ∷ [])) ≡ spaces k ++ text
filled_before n k m text p q = rw (p, q) (simp append-nil (ap (λ (t : List ℕ). t ++ text) (repeat_is k)))

filled_after : (n k : ℕ) (text : List ℕ) → n ≡ k → text ++ repeat n (32 ∷ []) ≡ text ++ spaces k
filled_after n k text p = rw p (ap (λ (t : List ℕ). text ++ t) (repeat_is k))

pub right : (width : ℕ) (text : List ℕ) → padded_integral (format_spec 32 3 0 width 18446744073709551615) false [] text ≡ right_in width text
unfolding padded_integral encode
right width text = filled_before _ _ _ text (omega (arith, prefix_none)) (omega arith)

pub left : (width : ℕ) (text : List ℕ) → padded_integral (format_spec 32 1 0 width 18446744073709551615) false [] text ≡ left_justified width text
unfolding padded_integral encode
left width text = filled_after _ _ text (omega (arith, prefix_none))
