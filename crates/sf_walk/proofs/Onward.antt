-- One component further on a path.
use Rattle.std.specs.Prelude.{◌≡◌, ◌≢◌, ◌<◌, ◌+◌, ℕ, suc, true, false, cond, List, [], ◌∷◌, ◌++◌, length, take, drop, slice_get, Option, Some, None, option_and_then, refl}
use Rattle.std.specs.Option.{option_map_or}
use Rattle.std.proofs.Common.{sym, ap, subst, ◌∙◌, arith, get_or, add-one}
use Rattle.std.proofs.lemmas.Option.{get_or_from_slice_get, slice_get-get_or}
use Rattle.std.proofs.lemmas.List.{take-append-drop, take_all}
use Rattle.std.proofs.Math.Seq.{drop-cons, take-suc}
use Rattle.sf_path.specs.Names.{Name, Path}
use Rattle.sf_inode.specs.declared.node.Node.{Node}
use Rattle.sf_inode.specs.declared.node.Content.{Content}
use Rattle.sf_inode.specs.declared.node.Content.TheVariants as content
use Rattle.sf_inode.specs.Nodes.{child_in, is_directory_content}
use Rattle.sf_inode.specs.Stores.{StoreState, node_in, child_of, holder_of, is_directory_at}
use Rattle.sf_keeps.specs.Steps.{EntryMap, walk}
use Rattle.sf_keeps.proofs.Laws.{walk-append}
use Rattle.sf_walk.specs.declared.finding.Located.TheVariants as located
use Rattle.sf_walk.specs.Ways.{way_from, missing}
use Rattle.sf_coupling.specs.Walks.{IsFree}
use Rattle.sf_walk.specs.Routes.{reached}
use Rattle.sf_walk.specs.Steps.{LeadsNowhere}
use Rattle.sf_walk.specs.Further.{LeadsOnWay, IsHeldOnWay, IsNextFree}
use Rattle.sf_walk.proofs.WaySteps.{way_stops, way_lacks, way_goes, missing_last, missing_on, way_ends}

content_has : (c : Content) (n : Name) (y : ℕ) → child_in c n ≡ Some y → is_directory_content c ≡ true
content_has (content.Directory es) n y e = refl
content_has (content.File b) n y e = cc

-- an inode with an entry is a directory
pub has_entry : (nodes : List (Option Node)) (x : ℕ) (n : Name) (y : ℕ) → child_of nodes x n ≡ Some y → is_directory_at nodes x ≡ true
has_entry nodes x n y =
    elim (node_in nodes x) as (λ (o : Option Node). option_and_then (λ (node : Node). child_in node.content n) o ≡ Some y → option_map_or (λ (node : Node). is_directory_content node.content) o false ≡ true) [
      | None ↦ λ e. cc
      | Some node ↦ λ e. content_has node.content n y e
    ]

-- path resolution continues from where a prefix leads
walked_way : (nodes : List (Option Node)) (front : Path) (n : Name) (rest : Path) (above above' x y : ℕ) → walk (child_of nodes) x front ≡ Some y
    → way_from nodes above x (front ++ n ∷ rest) ≡ way_from nodes above' y (n ∷ rest)
walked_way nodes [] n rest above above' x y e = let same : x ≡ y = cc in ap (λ z. way_from nodes above z (n ∷ rest)) same
walked_way nodes (m ∷ front) n rest above above' x y e =
    elim (child_of nodes x m) as (λ o. child_of nodes x m ≡ o → option_and_then (λ z. walk (child_of nodes) z front) o ≡ Some y
    → cond (is_directory_at nodes x) (option_map_or (λ z. way_from nodes x z (front ++ n ∷ rest)) o (missing x (front ++ n ∷ rest))) located.NoWay ≡ way_from nodes above' y (n ∷ rest)) [
      | None ↦ λ f w. cc
      | Some z ↦ λ f w. ap (λ b. cond b (way_from nodes x z (front ++ n ∷ rest)) located.NoWay) (has_entry nodes x m z f) ∙ walked_way nodes front n rest x above' z y w
    ] refl e

one_name : (o : Option ℕ) → option_and_then (λ y. Some y) o ≡ o
one_name None = refl
one_name (Some y) = refl

pub take_next : (p : Path) (i : ℕ) (n : Name) → i < length p → slice_get p i ≡ Some n → take (i + 1) p ≡ take i p ++ n ∷ []
take_next p i n h g = ap (λ j. take j p) (add-one i) ∙ take-suc p i [] h ∙ ap (λ m. take i p ++ m ∷ []) (get_or_from_slice_get p i n [] g)

-- one component further
pub walk_next : (step : EntryMap) (x : ℕ) (p : Path) (i : ℕ) (n : Name) (y : ℕ) → i < length p → slice_get p i ≡ Some n → walk step x (take i p) ≡ Some y → walk step x (take (i + 1) p) ≡ step y n
walk_next step x p i n y h g w =
    ap (walk step x) (take_next p i n h g) ∙ walk-append step x (take i p) (n ∷ []) ∙ ap (option_and_then (λ z. walk step z (n ∷ []))) w ∙ one_name (step y n)

module _ (s : StoreState) (path : Path) (walked node : ℕ) (way : LeadsOnWay s path walked node) where
  on_way : way_from s.nodes s.root s.root path ≡ way_from s.nodes node node (drop walked path)
  on_way =
      ap (way_from s.nodes s.root s.root) (sym (take-append-drop walked path) ∙ ap (λ (q : Path). take walked path ++ q) (drop-cons path walked [] way.short))
      ∙ walked_way s.nodes (take walked path) (get_or path walked []) (drop (suc walked) path) s.root node s.root node way.leads
      ∙ ap (way_from s.nodes node node) (sym (drop-cons path walked [] way.short))

  module _ (n : Name) (at : slice_get path walked ≡ Some n) where
    is_missing : child_of s.nodes node n ≡ None → way_from s.nodes s.root s.root path ≡ missing node (drop (walked + 1) path)
    is_missing none = on_way ∙ way_lacks s.nodes node node path (record { at = walked; name = n; within = way.short; is = at }) way.directory none

    goes_on : (y : ℕ) → child_of s.nodes node n ≡ Some y → way_from s.nodes s.root s.root path ≡ way_from s.nodes node y (drop (walked + 1) path)
    goes_on y some = on_way ∙ sym (way_goes s.nodes node node y path (record { at = walked; name = n; within = way.short; is = at }) way.directory some)

    pub last_missing : child_of s.nodes node n ≡ None → walked + 1 ≡ length path → located.Missing node ≡ way_from s.nodes s.root s.root path
    last_missing none last = sym (is_missing none ∙ missing_last node path (walked + 1) (omega (arith, last)))

    pub last_there : (y : ℕ) → child_of s.nodes node n ≡ Some y → walked + 1 ≡ length path → located.At node y ≡ way_from s.nodes s.root s.root path
    last_there y some last = sym (goes_on y some ∙ way_ends s.nodes node y path (walked + 1) (omega (arith, last)))

    leads_next : (y : ℕ) → child_of s.nodes node n ≡ Some y → walk (child_of s.nodes) s.root (take (walked + 1) path) ≡ Some y
    leads_next y some = walk_next (child_of s.nodes) s.root path walked n node way.short at way.leads ∙ some

    pub held_next : (number y holder : ℕ) → child_of s.nodes node n ≡ Some y → holder_of s.nodes y ≡ Some holder → number ≢ holder → IsHeldOnWay s number path (walked + 1) holder
    held_next number y holder some held other = record { node = y; leads = leads_next y some; held = held; other = other }

    pub free_next : (number y : ℕ) → child_of s.nodes node n ≡ Some y → walked + 1 < length path → is_directory_at s.nodes y ≡ true → IsFree (holder_of s.nodes) number y
        → IsNextFree s number path (reached walked node) (reached (walked + 1) y)
    free_next number y some more dir free = record { walked = refl; on_way = record { short = more; leads = leads_next y some; directory = dir }; free = free }

    cut : walked + 1 < length path → ((y : ℕ) → child_of s.nodes node n ≡ Some y → is_directory_at s.nodes y ≡ false) → located.NoWay ≡ way_from s.nodes s.root s.root path
    cut more file =
        elim (child_of s.nodes node n) as (λ o. child_of s.nodes node n ≡ o → located.NoWay ≡ way_from s.nodes s.root s.root path) [
          | None ↦ λ none. sym (is_missing none ∙ missing_on node path (walked + 1) more)
          | Some y ↦ λ some. sym (goes_on y some ∙ way_stops s.nodes node y path (walked + 1) more (file y some))
        ] refl

  -- path resolution that ends before the last name
  pub no_way_on : walked + 1 < length path → LeadsNowhere s.nodes node (slice_get path walked) → located.NoWay ≡ way_from s.nodes s.root s.root path
  no_way_on more h =
      let n = get_or path walked [] in
      let at = slice_get-get_or path walked [] way.short in
      cut n at more (subst (LeadsNowhere s.nodes node) at h)

-- an inode found by resolving a path is the one that the path leads to
no_end : (x : ℕ) (q : Path) (a y : ℕ) → missing x q ≡ located.At a y → None ≡ Some y
no_end x [] a y g = cc
no_end x (m ∷ q) a y g = cc

way_walks : (nodes : List (Option Node)) (above x : ℕ) (p : Path) (a y : ℕ) → way_from nodes above x p ≡ located.At a y → walk (child_of nodes) x p ≡ Some y
way_walks nodes above x [] a y e = let same : x ≡ y = cc in ap Some same
way_walks nodes above x (n ∷ p) a y e =
    elim (is_directory_at nodes x) as (λ b. cond b (option_map_or (λ z. way_from nodes x z p) (child_of nodes x n) (missing x p)) located.NoWay ≡ located.At a y → walk (child_of nodes) x (n ∷ p) ≡ Some y) [
      | false ↦ λ f. cc
      | true ↦ λ f.
          elim (child_of nodes x n) as (λ o. option_map_or (λ z. way_from nodes x z p) o (missing x p) ≡ located.At a y → option_and_then (λ z. walk (child_of nodes) z p) o ≡ Some y) [
            | None ↦ λ g. no_end x p a y g
            | Some z ↦ λ g. way_walks nodes x z p a y g
          ] f
    ] e

-- what a path's last name leads to from its parent, the path leads to from the root
pub last_leads : (s : StoreState) (path : Path) (walked a y : ℕ) → way_from s.nodes s.root s.root path ≡ located.At a y → walked + 1 ≡ length path → walk (child_of s.nodes) s.root (take (walked + 1) path) ≡ Some y
last_leads s path walked a y e last = ap (walk (child_of s.nodes) s.root) (take_all (walked + 1) path (omega (arith, last))) ∙ way_walks s.nodes s.root s.root path a y e
