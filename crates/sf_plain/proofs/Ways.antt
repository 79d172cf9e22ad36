-- Path resolution after some prefixes were looked up.
use Rattle.std.proofs.Common.{◌≡◌, ℕ, ◌<◌, ◌+◌, Bool, true, false, nat_lt, length, take, Option, refl, sym, ap, ◌∙◌, subst, arith}
use Rattle.std.specs.Option.{is_some}
use Rattle.std.proofs.lemmas.Bool.Decides.{nat_tests}
use Rattle.sf_call.specs.declared.metadata.Metadata.{Metadata}
use Rattle.sf_path.specs.Names.{Path}
use Rattle.sf_call.specs.Tree.{Tree, directory_at, is_directory, is_faulty_way}
use Rattle.sf_call.proofs.Laws.{open_way}

not_false : (b : Bool) → ¬ (b ≡ false) → b ≡ true
not_false true _ = refl
not_false false other = absurd (other refl)

-- a prefix that is no directory makes resolution fail
pub way_fails : {front : Path} {found : Option (ℕ × Metadata)} (tree : Tree) (path : Path) (n : ℕ)
    → n < length path → front ≡ take n path → found ≡ directory_at tree front → is_some found ≡ false → is_faulty_way tree path ≡ true
way_fails tree path n lt is looked none =
    not_false (is_faulty_way tree path) (λ passes.
    let there : is_directory tree (take n path) ≡ true = (open_way tree path).0 passes n lt in
    let absent : is_directory tree (take n path) ≡ false = ap (is_directory tree) (sym is) ∙ ap (λ (o : Option (ℕ × Metadata)). is_some o) (sym looked) ∙ none in
    cc)

one_more : (f : ℕ → Bool) (n : ℕ) → ((k : ℕ) → k < n → f k ≡ true) → f n ≡ true → (k : ℕ) → k < n + 1 → f k ≡ true
one_more f n before last k lt =
    elim (nat_lt k n) as (λ b. nat_lt k n ≡ b → f k ≡ true) [
      | true ↦ λ less. before k (grind (arith, nat_tests))
      | false ↦ λ not_less. let same : n ≡ k = grind (arith, nat_tests) in subst (λ m. f m ≡ true) same last
    ] refl

-- one more directory on the path
pub way_goes_on : {front : Path} {found : Option (ℕ × Metadata)} (tree : Tree) (path : Path) (n : ℕ) → ((k : ℕ) → k < n → is_directory tree (take k path) ≡ true)
    → front ≡ take n path → found ≡ directory_at tree front → is_some found ≡ true → (k : ℕ) → k < n + 1 → is_directory tree (take k path) ≡ true
way_goes_on tree path n before is looked there =
    one_more (λ k. is_directory tree (take k path)) n before (ap (is_directory tree) (sym is) ∙ ap (λ (o : Option (ℕ × Metadata)). is_some o) (sym looked) ∙ there)
