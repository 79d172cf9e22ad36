-- Path resolution in the store, one component further.
use Rattle.std.proofs.Common.{◌≡◌, ℕ, ◌+◌, ◌<◌, ◌≤◌, List, [], ◌∷◌, length, drop, get_or, true, false, cond, sym, ap, ◌∙◌, add-one, Option, Some, None}
use Rattle.std.specs.Option.{option_map_or}
use Rattle.std.specs.Prelude.{slice_get}
use Rattle.std.proofs.lemmas.Option.{get_or_from_slice_get}
use Rattle.std.proofs.Math.Seq.{drop-cons}
use Rattle.std.proofs.lemmas.List.{drop_all}
use Rattle.sf_inode.specs.declared.node.Node.{Node}
use Rattle.sf_walk.specs.declared.finding.Located.TheVariants as located
use Rattle.sf_path.specs.Names.{Name, Path}
use Rattle.sf_inode.specs.Stores.{child_of, is_directory_at}
use Rattle.sf_walk.specs.Ways.{way_from, missing}

way_at : (nodes : List (Option Node)) (above x : ℕ) (p : Path) (i : ℕ) → i < length p
    → way_from nodes above x (drop i p) ≡ cond (is_directory_at nodes x) (option_map_or (λ y. way_from nodes x y (drop (i + 1) p)) (child_of nodes x (get_or p i [])) (missing x (drop (i + 1) p))) located.NoWay
way_at nodes above x p i h = ap (way_from nodes above x) (drop-cons p i [] h ∙ ap (λ j. get_or p i [] ∷ drop j p) (sym (add-one i)))

pub way_stops : (nodes : List (Option Node)) (above x : ℕ) (p : Path) (i : ℕ) → i < length p → is_directory_at nodes x ≡ false → way_from nodes above x (drop i p) ≡ located.NoWay
way_stops nodes above x p i h d = way_at nodes above x p i h ∙ ap (λ b. cond b (option_map_or (λ y. way_from nodes x y (drop (i + 1) p)) (child_of nodes x (get_or p i [])) (missing x (drop (i + 1) p))) located.NoWay) d

-- a name of a path, and its index
pub record NameOf (p : Path) : Type 0 where
  pub at : ℕ
  pub name : Name
  pub within : at < length p
  pub is : slice_get p at ≡ Some name

pub way_lacks : (nodes : List (Option Node)) (above x : ℕ) (p : Path) (n : NameOf p) → is_directory_at nodes x ≡ true → child_of nodes x n.name ≡ None → way_from nodes above x (drop n.at p) ≡ missing x (drop (n.at + 1) p)
way_lacks nodes above x p n d f =
    let i = n.at in
    let e : child_of nodes x (get_or p i []) ≡ None = ap (child_of nodes x) (get_or_from_slice_get p i n.name [] n.is) ∙ f in
    way_at nodes above x p i n.within ∙ ap (λ b. cond b (option_map_or (λ y. way_from nodes x y (drop (i + 1) p)) (child_of nodes x (get_or p i [])) (missing x (drop (i + 1) p))) located.NoWay) d
    ∙ ap (λ o. option_map_or (λ y. way_from nodes x y (drop (i + 1) p)) o (missing x (drop (i + 1) p))) e

pub way_goes : (nodes : List (Option Node)) (above x y : ℕ) (p : Path) (n : NameOf p) → is_directory_at nodes x ≡ true → child_of nodes x n.name ≡ Some y → way_from nodes x y (drop (n.at + 1) p) ≡ way_from nodes above x (drop n.at p)
way_goes nodes above x y p n d f =
    let i = n.at in
    let e : child_of nodes x (get_or p i []) ≡ Some y = ap (child_of nodes x) (get_or_from_slice_get p i n.name [] n.is) ∙ f in
    sym (way_at nodes above x p i n.within ∙ ap (λ b. cond b (option_map_or (λ y. way_from nodes x y (drop (i + 1) p)) (child_of nodes x (get_or p i [])) (missing x (drop (i + 1) p))) located.NoWay) d
    ∙ ap (λ o. option_map_or (λ y. way_from nodes x y (drop (i + 1) p)) o (missing x (drop (i + 1) p))) e)

pub missing_last : (x : ℕ) (p : Path) (i : ℕ) → length p ≤ i → missing x (drop i p) ≡ located.Missing x
missing_last x p i h = ap (missing x) (drop_all i p h)

pub missing_on : (x : ℕ) (p : Path) (i : ℕ) → i < length p → missing x (drop i p) ≡ located.NoWay
missing_on x p i h = ap (missing x) (drop-cons p i [] h)

pub way_ends : (nodes : List (Option Node)) (above x : ℕ) (p : Path) (i : ℕ) → length p ≤ i → way_from nodes above x (drop i p) ≡ located.At above x
way_ends nodes above x p i h = ap (way_from nodes above x) (drop_all i p h)
