-- The names directly below a path.
use Rattle.std.proofs.Common.{◌≡◌, ◌≢◌, ℕ, ◌-◌, not, ◌||◌, List, [], ◌∷◌, ◌++◌, length, length-append, Option, Some, None, refl, ap, ◌∙◌, arith}
use Rattle.std.specs.List.{list_any, slice_get, cons_option}
use Rattle.std.specs.Option.{is_some}
use Rattle.sf_path.specs.Names.{Name, Path, BeginsWith}
use Rattle.sf_call.specs.Tree.{after_front, only_name, children, is_nil, is_empty}
use Rattle.sf_call.proofs.Laws.{after_front-append, append-after_front}

get_behind : (d : Path) (n : Name) → slice_get (d ++ n ∷ []) (length d) ≡ Some n
get_behind [] n = refl
get_behind (m ∷ d) n = get_behind d n

one_long : (rest : Path) → length rest ≡ 1 → (n : Name) × (rest ≡ n ∷ [])
one_long [] e = absurd (omega arith)
one_long (n ∷ []) e = (n, refl)
one_long (n ∷ m ∷ rest) e = absurd (omega arith)

-- a path one name longer has that name
pub name_below : (d p : Path) (n : Name) → BeginsWith p d → length p - length d ≡ 1 → slice_get p (length d) ≡ Some n → Some n ≡ only_name (after_front d p)
name_below d p n (rest, is) long got =
    let lengths : length rest ≡ 1 = omega (arith, ap length is, length-append d rest) in
    let one = one_long rest lengths in
    let whole : p ≡ d ++ one.0 ∷ [] = is ∙ ap (λ (r : Path). d ++ r) one.1 in
    let found : slice_get p (length d) ≡ Some one.0 = ap (λ (q : Path). slice_get q (length d)) whole ∙ get_behind d one.0 in
    let front : only_name (after_front d p) ≡ Some one.0 = ap (λ (q : Path). only_name (after_front d q)) whole ∙ ap only_name (after_front-append d (one.0 ∷ [])) in
    cc

after_or_none : (d p : Path) (P : Option Path → Type 0) → ((rest : Path) → p ≡ d ++ rest → P (Some rest)) → P None → P (after_front d p)
after_or_none d p P some none =
    elim (after_front d p) as (λ o. after_front d p ≡ o → P o) [ None ↦ λ e. none | Some rest ↦ λ e. some rest (append-after_front d p rest e) ] refl

pub no_front : (d p : Path) → ¬ BeginsWith p d → None ≡ only_name (after_front d p)
no_front d p not_front = after_or_none d p (λ o. None ≡ only_name o) (λ rest is. absurd (not_front (rest, is))) refl

no_name : (rest : Path) → length rest ≢ 1 → None ≡ only_name (Some rest)
no_name [] longer = refl
no_name (n ∷ []) longer = absurd (longer refl)
no_name (n ∷ m ∷ rest) longer = refl

pub other_length : (d p : Path) → length p - length d ≢ 1 → None ≡ only_name (after_front d p)
other_length d p longer =
    after_or_none d p (λ o. None ≡ only_name o)
    (λ rest is. no_name rest (λ e. longer (let one : length rest ≡ 1 = e in omega (arith, ap length is, length-append d rest)))) refl

pub empty_names : (names : List (Path × ℕ)) (p : Path) → is_empty names p ≡ not (list_any (λ e. is_some (only_name (after_front p e.0))) names)
empty_names [] p = refl
empty_names (e ∷ names) p =
    elim (only_name (after_front p e.0)) as (λ o. is_nil (cons_option o (children names p)) ≡ not (is_some o || list_any (λ e. is_some (only_name (after_front p e.0))) names)) [
      | None ↦ empty_names names p
      | Some n ↦ refl
    ]
