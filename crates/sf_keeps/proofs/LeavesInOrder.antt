-- The leaves of a store are in the order of their paths.
use Rattle.std.specs.Prelude.{◌≡◌, ℕ, T, List, [], ◌∷◌, ◌++◌, Option, Some, refl}
use Rattle.std.proofs.Common.{sym, ap, subst, ◌∙◌}
use Rattle.std.specs.List.{AllByRecursion}
use Rattle.std.specs.declared.cmp.Ordering.{Ordering}
use Rattle.std.specs.declared.cmp.Ordering.TheVariants.{Less, Equal, Greater}
use Rattle.std.specs.Ordering.{is_lt}
use Rattle.std.specs.FinMap.{is_sorted}
use Rattle.std.specs.FinMap.Entries.{below_all}
use Rattle.sf_path.specs.Names.{Name, Path}
use Rattle.sf_path.specs.Order.{name_cmp, path_cmp}
use Rattle.sf_call.proofs.Laws.{path_cmp-front, and_first, and_second, and_both}
use Rattle.sf_inode.specs.declared.node.Node.{Node}
use Rattle.sf_inode.specs.Nodes.{entries_in}
use Rattle.sf_inode.specs.Stores.{node_in}
use Rattle.sf_call.specs.Leaves.{Leaf}
use Rattle.sf_inode.specs.Leaves.{AreLeaves, below}
use Rattle.sf_inode.specs.Leaves.AreLeaves.{NoneLeft, Passed, Named}

pub append_nil : {A : Type 0} (xs : List A) → xs ++ [] ≡ xs
append_nil [] = refl
append_nil (x ∷ xs) = λ i. x ∷ append_nil xs i

pub append_on : {A : Type 0} (xs : List A) (y : A) (ys : List A) → (xs ++ y ∷ []) ++ ys ≡ xs ++ y ∷ ys
append_on [] y ys = refl
append_on (x ∷ xs) y ys = λ i. x ∷ append_on xs y ys i

is_less : (r : Ordering) → T (is_lt r) → r ≡ Less
is_less Less t = refl
is_less Equal t = absurd t
is_less Greater t = absurd t

-- ---- a property of all paths below the pending ones holds for all leaves
module _ (P : Path → Type 0) where
  abbrev pub AllBelow : List (Path × ℕ) → Type 0
  AllBelow waiting = AllByRecursion (λ e. (r : Path) → P (e.0 ++ r)) waiting

  children_below : (p : Path) (es : List (Name × ℕ)) (others : List (Path × ℕ)) → ((r : Path) → P (p ++ r)) → AllBelow others → AllBelow (below p es ++ others)
  children_below p [] others h rest = rest
  children_below p (e ∷ es) others h rest = (λ r. subst P (sym (append_on p e.0 r)) (h (e.0 ∷ r)), children_below p es others h rest)

  pub each_leaf : (nodes : List (Option Node)) (waiting : List (Path × ℕ)) (leaves : List Leaf) → AreLeaves nodes waiting leaves → AllBelow waiting → AllByRecursion (λ (l : Leaf). P l.0) leaves
  each_leaf nodes waiting leaves NoneLeft all = tt
  each_leaf nodes waiting leaves (Passed path id others ls gone r) all = each_leaf nodes others ls r all.1
  each_leaf nodes waiting leaves (Named path id others ls node there r) all = (
    subst P (append_nil path) (all.0 []),
    each_leaf nodes (below path (entries_in node.content) ++ others) ls r (children_below path (entries_in node.content) others all.0 all.1),
  )

-- ---- two paths such that all below one are before all below the other
abbrev pub Before : Path → Path → Type 0
Before p q = (r s : Path) → path_cmp (p ++ r) (q ++ s) ≡ Less

abbrev pub AllAfter : Path → List (Path × ℕ) → Type 0
AllAfter p waiting = AllByRecursion (λ e. Before p e.0) waiting

abbrev pub InTurn : List (Path × ℕ) → Type 0
InTurn [] = Unit {0}
InTurn (e ∷ waiting) = AllAfter e.0 waiting × InTurn waiting

before_child : (p q : Path) (n : Name) → Before p q → Before (p ++ n ∷ []) q
before_child p q n h r s = ap (λ (x : Path). path_cmp x (q ++ s)) (append_on p n r) ∙ h (n ∷ r) s

after_child : (p : Path) (n : Name) (others : List (Path × ℕ)) → AllAfter p others → AllAfter (p ++ n ∷ []) others
after_child p n [] h = tt
after_child p n (e ∷ others) h = (before_child p e.0 n h.0, after_child p n others h.1)

less_first : (n m : Name) (r s : Path) → name_cmp n m ≡ Less → path_cmp (n ∷ r) (m ∷ s) ≡ Less
less_first n m r s e = rw e refl

siblings : (p : Path) (n m : Name) → name_cmp n m ≡ Less → Before (p ++ n ∷ []) (p ++ m ∷ [])
siblings p n m e r s =
    ap (λ (x : Path). path_cmp x ((p ++ m ∷ []) ++ s)) (append_on p n r)
    ∙ ap (path_cmp (p ++ n ∷ r)) (append_on p m s)
    ∙ path_cmp-front p (n ∷ r) (m ∷ s)
    ∙ less_first n m r s e

after_sibling : (p : Path) (n : Name) (es : List (Name × ℕ)) (others : List (Path × ℕ)) → T (below_all name_cmp n es) → AllAfter (p ++ n ∷ []) others → AllAfter (p ++ n ∷ []) (below p es ++ others)
after_sibling p n [] others h rest = rest
after_sibling p n (e ∷ es) others h rest = (
  siblings p n e.0 (is_less (name_cmp n e.0) (and_first (is_lt (name_cmp n e.0)) (below_all name_cmp n es) h)),
  after_sibling p n es others (and_second (is_lt (name_cmp n e.0)) (below_all name_cmp n es) h) rest,
)

children_in_turn : (p : Path) (es : List (Name × ℕ)) (others : List (Path × ℕ)) → T (is_sorted name_cmp es) → AllAfter p others → InTurn others → InTurn (below p es ++ others)
children_in_turn p [] others sorted h rest = rest
children_in_turn p (e ∷ es) others sorted h rest = (
  after_sibling p e.0 es others (and_first (below_all name_cmp e.0 es) (is_sorted name_cmp es) sorted) (after_child p e.0 others h),
  children_in_turn p es others (and_second (below_all name_cmp e.0 es) (is_sorted name_cmp es) sorted) h rest,
)

-- ---- a path is before all below it, and before all pending ones
abbrev IsBefore : Path → Path → Type 0
IsBefore p q = T (is_lt (path_cmp p q))

before_below : (p : Path) (es : List (Name × ℕ)) (others : List (Path × ℕ)) → AllBelow (IsBefore p) others → AllBelow (IsBefore p) (below p es ++ others)
before_below p [] others rest = rest
before_below p (e ∷ es) others rest = (
  λ r. subst (λ o. T (is_lt o)) (sym (
      ap (path_cmp p) (append_on p e.0 r)
      ∙ ap (λ (x : Path). path_cmp x (p ++ e.0 ∷ r)) (sym (append_nil p))
      ∙ path_cmp-front p [] (e.0 ∷ r))) tt,
  before_below p es others rest,
)

before_all : (p : Path) (others : List (Path × ℕ)) → AllAfter p others → AllBelow (IsBefore p) others
before_all p [] h = tt
before_all p (e ∷ others) h = (
  λ r. subst (λ o. T (is_lt o)) (sym (ap (λ (x : Path). path_cmp x (e.0 ++ r)) (sym (append_nil p)) ∙ h.0 [] r)) tt,
  before_all p others h.1,
)

least : (p : Path) (ls : List Leaf) → AllByRecursion (λ (l : Leaf). IsBefore p l.0) ls → T (below_all path_cmp p ls)
least p [] h = tt
least p (l ∷ ls) h = and_both (is_lt (path_cmp p l.0)) (below_all path_cmp p ls) h.0 (least p ls h.1)

module _ (nodes : List (Option Node)) (sorted : (id : ℕ) (node : Node) → node_in nodes id ≡ Some node → T (is_sorted name_cmp (entries_in node.content))) where
  pub leaves_sorted : (waiting : List (Path × ℕ)) (leaves : List Leaf) → AreLeaves nodes waiting leaves → InTurn waiting → T (is_sorted path_cmp leaves)
  leaves_sorted waiting leaves NoneLeft turn = tt
  leaves_sorted waiting leaves (Passed path id others ls gone r) turn = leaves_sorted others ls r turn.1
  leaves_sorted waiting leaves (Named path id others ls node there r) turn =
      let es : List (Name × ℕ) = entries_in node.content in
      and_both (below_all path_cmp path ls) (is_sorted path_cmp ls)
      (least path ls (each_leaf (IsBefore path) nodes (below path es ++ others) ls r (before_below path es others (before_all path others turn.0))))
      (leaves_sorted (below path es ++ others) ls r (children_in_turn path es others (sorted id node there) turn.0 turn.1))
