-- Paths one after another, each with its object.
use Rattle.std.specs.Prelude.{◌≡◌, ℕ, List, [], ◌∷◌, ◌++◌, length, drop, Option, Some, None, refl}
use Rattle.std.proofs.Common.{sym, ap, subst, arith}
use Rattle.sf_path.specs.Names.{Path}
use Rattle.sf_inode.specs.declared.node.Node.{Node}
use Rattle.sf_inode.specs.Nodes.{entries_in}
use Rattle.sf_inode.specs.Stores.{node_in, shown_node}
use Rattle.sf_call.specs.Leaves.{Leaf}
use Rattle.sf_inode.specs.Leaves.{AreLeaves, below}
use Rattle.sf_inode.specs.Leaves.AreLeaves.{NoneLeft, Passed, Named}

append_nil : {A : Type 0} (xs : List A) → xs ++ [] ≡ xs
append_nil [] = refl
append_nil (x ∷ xs) = λ i. x ∷ append_nil xs i

append_on : {A : Type 0} (xs : List A) (y : A) (ys : List A) → (xs ++ y ∷ []) ++ ys ≡ xs ++ y ∷ ys
append_on [] y ys = refl
append_on (x ∷ xs) y ys = λ i. x ∷ append_on xs y ys i

module _ (nodes : List (Option Node)) (all : List (Path × ℕ)) where
  -- the leaves of the pending paths complete the list
  abbrev pub GoesOn : List (Path × ℕ) → List Leaf → Type 0
  GoesOn waiting leaves = (rest : List Leaf) → AreLeaves nodes waiting rest → AreLeaves nodes all (leaves ++ rest)

  pub none_left : (waiting : List (Path × ℕ)) (leaves : List Leaf) → GoesOn waiting leaves → waiting ≡ drop 1 waiting → AreLeaves nodes all leaves
  none_left [] leaves on e = subst (AreLeaves nodes all) (append_nil leaves) (on [] NoneLeft)
  none_left (w ∷ waiting) leaves on e = let f : length (w ∷ waiting) ≡ length waiting = ap (λ (x : List (Path × ℕ)). length x) e in absurd (omega (arith, f))

  pub passed_over : (path : Path) (id : ℕ) (waiting others : List (Path × ℕ)) (leaves : List Leaf) → GoesOn waiting leaves → waiting ≡ (path, id) ∷ others → node_in nodes id ≡ None → GoesOn others leaves
  passed_over path id waiting others leaves on e gone rest r =
      on rest (subst (λ w. AreLeaves nodes w rest) (sym e) (Passed path id others rest gone r))

  pub one_named : (path : Path) (id : ℕ) (waiting others next : List (Path × ℕ)) (leaves more : List Leaf) (node : Node) → GoesOn waiting leaves → waiting ≡ (path, id) ∷ others → node_in nodes id ≡ Some node → next ≡ below path (entries_in node.content) ++ others → more ≡ leaves ++ (path, shown_node node) ∷ [] → GoesOn next more
  one_named path id waiting others next leaves more node on e there f g rest r =
      subst (λ m. AreLeaves nodes all (m ++ rest)) (sym g)
      (subst (AreLeaves nodes all) (sym (append_on leaves (path, shown_node node) rest))
      (on ((path, shown_node node) ∷ rest) (subst (λ w. AreLeaves nodes w ((path, shown_node node) ∷ rest)) (sym e)
      (Named path id others rest node there (subst (λ w. AreLeaves nodes w rest) f r)))))
