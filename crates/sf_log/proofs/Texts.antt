-- The text of a path, name by name.
use Rattle.std.proofs.Common.{◌≡◌, ◌<◌, ◌+◌, ℕ, List, [], ◌∷◌, ◌++◌, length, take, slice_get, Some, sym, ap, ◌∙◌, append-nil}
use Rattle.std.specs.List.{flat_map}
use Rattle.std.proofs.lemmas.List.{take_more}
use Rattle.std.proofs.lemmas.List.Concat.{flat_map-append}
use Rattle.std.proofs.lemmas.Option.{get_or_from_slice_get}
use Rattle.sf_path.specs.Names.{Path, Name, slashed}
use Rattle.sf_log.specs.Lines.{escaped}

take_next : (p : Path) (i : ℕ) (n : Name) → i < length p → slice_get p i ≡ Some n → take (i + 1) p ≡ take i p ++ n ∷ []
take_next p i n h g = take_more p i [] h ∙ ap (λ (x : Name). take i p ++ x ∷ []) (get_or_from_slice_get p i n [] g)

-- one more name was written
pub one_more : (p : Path) (i : ℕ) (n : Name) → i < length p → slice_get p i ≡ Some n
    → flat_map escaped (flat_map slashed (take i p)) ++ flat_map escaped (slashed n) ≡ flat_map escaped (flat_map slashed (take (i + 1) p))
one_more p i n h g =
    sym (flat_map-append escaped (flat_map slashed (take i p)) (slashed n))
    ∙ ap (λ (l : List ℕ). flat_map escaped (flat_map slashed (take i p) ++ l)) (sym (append-nil (slashed n)))
    ∙ ap (flat_map escaped) (sym (flat_map-append slashed (take i p) (n ∷ [])))
    ∙ ap (λ (q : Path). flat_map escaped (flat_map slashed q)) (sym (take_next p i n h g))
