-- The longest common prefix of two paths, and when one is a prefix of the other.
use Rattle.std.proofs.Common.{◌≡◌, ◌≢◌, ℕ, ◌+◌, ◌<◌, ◌≤◌, Bool, true, false, not, eqb, [], ◌++◌, length, take, drop, get_or, Some, refl, sym, ap, ◌∙◌, inl, inr, arith, length-append}
use Rattle.std.specs.Prelude.{slice_get}
use Rattle.std.proofs.lemmas.Bool.{cases_lt, eqb-true, eq-eqb}
use Rattle.std.proofs.lemmas.List.{take-append-drop, take_all, get_or_append_left, get_or_read, take_more_same}
use Rattle.std.proofs.lemmas.Option.{slice_get-get_or}
use Rattle.sf_path.specs.Names.{Name, Path, BeginsWith}
use Rattle.sf_path.specs.Order.{same_name}
use Rattle.sf_path.proofs.OrderLaws.{same_name-Decides}

false_not : (b : Bool) → false ≡ not b → b ≡ true
false_not true e = refl
false_not false e = absurd cc

true_not : (b : Bool) → true ≡ not b → b ≡ false
true_not true e = absurd cc
true_not false e = refl

-- Both paths have a name at index `i`: `a` and `b`.
pub record HaveNames (xs ys : Path) (i : ℕ) (a b : Name) : Type 0 where
  pub mine : a ≡ get_or xs i a
  pub theirs : b ≡ get_or ys i b
  pub within : i < length xs
  pub within_theirs : i < length ys

pub differ_at : {xs ys : Path} {i : ℕ} {a b : Name} → HaveNames xs ys i a b → true ≡ not (same_name a b) → slice_get xs i ≢ slice_get ys i
differ_at {xs} {ys} {i} {a} {b} at unlike e =
    let one : slice_get xs i ≡ Some a = slice_get-get_or xs i a at.within ∙ ap Some (sym at.mine) in
    let other : slice_get ys i ≡ Some b = slice_get-get_or ys i b at.within_theirs ∙ ap Some (sym at.theirs) in
    let both : Some a ≡ Some b = sym one ∙ e ∙ other in
    let same : a ≡ b = cc in
    let told = (same_name-Decides a b).1 same in
    let untold = true_not (same_name a b) unlike in
    absurd cc

pub alike_more : {xs ys : Path} {i : ℕ} {a b : Name} → HaveNames xs ys i a b → false ≡ not (same_name a b) → take i xs ≡ take i ys → take (i + 1) xs ≡ take (i + 1) ys
alike_more {xs} {ys} {i} {a} {b} at alike front =
    let same = (same_name-Decides a b).0 (false_not (same_name a b) alike) in
    take_more_same xs ys i a at.within at.within_theirs front (sym at.mine ∙ same ∙ get_or_read ys i b at.within_theirs at.theirs a)

pub whole_front : (xs ys : Path) (n : ℕ) → take n xs ≡ take n ys → eqb n (length ys) ≡ true → BeginsWith xs ys
whole_front xs ys n front e =
    let n-is = eqb-true n (length ys) e in
    let all : take n ys ≡ ys = take_all n ys (omega arith) in
    (drop n xs, sym (take-append-drop n xs) ∙ ap (λ (zs : Path). zs ++ drop n xs) (front ∙ all))

pub front_whole : (xs ys rest : Path) (n : ℕ) → n ≤ length ys → (n < length xs → n < length ys → slice_get xs n ≢ slice_get ys n) → xs ≡ ys ++ rest → eqb n (length ys) ≡ true
front_whole xs ys rest n within longest e =
    elim (cases_lt n (length ys)) [
      | inl lt ↦
          let lt' : n < length xs = omega (arith, ap length e, length-append ys rest) in
          let same : slice_get xs n ≡ slice_get ys n = slice_get-get_or xs n [] lt' ∙ rw e (rw (get_or_append_left ys rest [] n lt) (sym (slice_get-get_or ys n [] lt))) in
          absurd (longest lt' lt same)
      | inr le ↦ eq-eqb n (length ys) (omega arith)
    ]
