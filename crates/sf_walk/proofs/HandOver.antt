-- The holders after a step, and after a call has released all.
use Rattle.std.specs.Prelude.{◌≡◌, ◌≢◌, ◌≤◌, ◌⊎◌, ℕ, nat_eq, ◌||◌, true, false, if◌then◌else◌, List, [], ◌∷◌, length, option_map, option_and_then, Option, Some, None, refl}
use Rattle.std.proofs.Common.{sym, ap, subst, ◌∙◌, arith, inl, inr, eqb-true, eq-eqb}
use Rattle.sf_path.specs.Names.{Path}
use Rattle.sf_call.specs.declared.call.Reached.{Reached}
use Rattle.sf_call.specs.declared.call.Stage.{Stage}
use Rattle.sf_inode.specs.declared.node.Node.{Node}
use Rattle.sf_inode.specs.Nodes.{with_holder}
use Rattle.sf_inode.specs.Stores.{StoreState, node_in, holder_of, edited}
use Rattle.sf_keeps.proofs.Laws.{edited_apart, edited_itself}
use Rattle.sf_coupling.specs.Walks.{HeldPath, Holds, IsNodeOf, HandsOver}
use Rattle.sf_coupling.proofs.Laws.{same_or_not}
use Rattle.sf_call.specs.Routes.{Route}
use Rattle.sf_walk.specs.Routes.{IsPosition, reached_at, paths_on, held_path_on, held_paths_on, held_paths_of, nodes_in, nodes_of}
use Rattle.sf_walk.specs.Routes.IsPosition.{Starts}
use Rattle.sf_walk.specs.Steps.{is_one_of, free_unless, let_go, handed_over}

module _ (h : Option ℕ) (s : StoreState) (id : ℕ) where
  pub holder_other : (i : ℕ) → i ≢ id → holder_of (edited (with_holder h) s id).nodes i ≡ holder_of s.nodes i
  holder_other i ne = ap (option_and_then (λ (node : Node). node.holder)) (edited_apart (with_holder h) s id i ne)

  holder_by : (o : Option Node) (node : Node) → o ≡ Some node → option_and_then (λ (x : Node). x.holder) (option_map (with_holder h) o) ≡ h
  holder_by None node e = cc
  holder_by (Some x) node e = refl

  pub holder_here : (node : Node) → node_in s.nodes id ≡ Some node → holder_of (edited (with_holder h) s id).nodes id ≡ h
  holder_here node at = ap (option_and_then (λ (x : Node). x.holder)) (edited_itself (with_holder h) s id) ∙ holder_by (node_in s.nodes id) node at

holder_none : (o : Option Node) → option_and_then (λ (x : Node). x.holder) (option_map (with_holder None) o) ≡ None
holder_none None = refl
holder_none (Some x) = refl

pub holder_freed : (s : StoreState) (id : ℕ) → holder_of (edited (with_holder None) s id).nodes id ≡ None
holder_freed s id = ap (option_and_then (λ (x : Node). x.holder)) (edited_itself (with_holder None) s id) ∙ holder_none (node_in s.nodes id)

-- ---- lists of inodes
first_is : (x y : ℕ) (ys : List ℕ) → x ≡ y → is_one_of x (y ∷ ys) ≡ true
first_is x y ys e = ap (λ b. b || is_one_of x ys) (eq-eqb x y e)

later_is : (b c : _) → c ≡ true → (b || c) ≡ true
later_is true c e = refl
later_is false c e = e

either_is : (x y : ℕ) (ys : List ℕ) → is_one_of x (y ∷ ys) ≡ true → (x ≡ y) ⊎ (is_one_of x ys ≡ true)
either_is x y ys e = elim (nat_eq x y) as (λ b. nat_eq x y ≡ b → (b || is_one_of x ys) ≡ true → (x ≡ y) ⊎ (is_one_of x ys ≡ true)) [
  | true ↦ λ f _. inl (eqb-true x y f)
  | false ↦ λ f g. inr g
] refl e

both_false : (b c : _) → (b || c) ≡ true → b ≡ false → c ≡ false → ⊥
both_false true c e f g = cc
both_false false c e f g = let x : true ≡ false = sym e ∙ g in cc

one_or_not : (x : ℕ) (ys : List ℕ) → (is_one_of x ys ≡ true) ⊎ (is_one_of x ys ≡ false)
one_or_not x ys = elim (is_one_of x ys) as (λ b. is_one_of x ys ≡ b → (is_one_of x ys ≡ true) ⊎ (is_one_of x ys ≡ false)) [ true ↦ λ e. inl e | false ↦ λ e. inr e ] refl

true_false : (x : ℕ) (ys : List ℕ) → is_one_of x ys ≡ true → is_one_of x ys ≡ false → ⊥
true_false x ys e f = let z : true ≡ false = sym e ∙ f in cc

-- the inodes of the held paths
node_of_held_path : (at : List Reached) (paths : List Path) (l : ℕ) (s : HeldPath) → Holds (held_paths_on at paths) s → s.node ≡ l → is_one_of l (nodes_in at) ≡ true
node_of_held_path (r ∷ at) (p ∷ paths) l s (inl i) e = first_is l r.node (nodes_in at) (sym e ∙ ap (λ (x : HeldPath). x.node) i)
node_of_held_path (r ∷ at) (p ∷ paths) l s (inr h) e = later_is (nat_eq l r.node) (is_one_of l (nodes_in at)) (node_of_held_path at paths l s h e)
node_of_held_path _ _ l s h e = absurd h

-- each inode has a path that leads to it
abbrev AreEnough : List Reached → List Path → Type 0
AreEnough at paths = length at ≤ length paths

enough : (route : Route) (at : Stage) → IsPosition route at → AreEnough (reached_at at) (paths_on route)
enough route at (Starts r is) = omega arith
enough route at _ = omega arith

-- a call holds the directories that it has reached
nodes_on : (route : Route) (at : Stage) → IsPosition route at → nodes_of at ≡ nodes_in (reached_at at)
nodes_on route at (Starts r is) = refl
nodes_on route at _ = refl

held_path_of_node : (at : List Reached) (paths : List Path) (l : ℕ) → AreEnough at paths → is_one_of l (nodes_in at) ≡ true → IsNodeOf (held_paths_on at paths) l
held_path_of_node [] paths l fits e = cc
held_path_of_node (r ∷ at) [] l fits e = absurd (omega (arith, fits))
held_path_of_node (r ∷ at) (p ∷ paths) l fits e = elim (either_is l r.node (nodes_in at) e) [
  | inl i ↦ record { held_path = held_path_on p r; holds = inl refl; node = sym i }
  | inr more ↦ let h = held_path_of_node at paths l (omega (arith, fits)) more in record { held_path = h.held_path; holds = inr h.holds; node = h.node }
]

-- ---- releasing
module _ (kept : List ℕ) where
  free_by : (node l : ℕ) (s : StoreState) → (is_one_of node kept ≡ false → l ≢ node) → holder_of (free_unless kept node s).nodes l ≡ holder_of s.nodes l
  free_by node l s apart =
      elim (is_one_of node kept) as (λ b. is_one_of node kept ≡ b → holder_of (if b then s else edited (with_holder None) s node).nodes l ≡ holder_of s.nodes l) [
        | true ↦ λ e. refl
        | false ↦ λ e. holder_other None s node l (apart e)
      ] refl

  still_none : (node l : ℕ) (s : StoreState) → holder_of s.nodes l ≡ None → holder_of (free_unless kept node s).nodes l ≡ None
  still_none node l s none =
      elim (is_one_of node kept) as (λ b. holder_of (if b then s else edited (with_holder None) s node).nodes l ≡ None) [
        | true ↦ none
        | false ↦ elim (same_or_not l node) [
          | inl e ↦ ap (holder_of (edited (with_holder None) s node).nodes) e ∙ holder_freed s node
          | inr ne ↦ holder_other None s node l ne ∙ none
        ]
      ]

  pub kept_held : (nodes : List ℕ) (s : StoreState) (l : ℕ) → is_one_of l kept ≡ true → holder_of (let_go kept nodes s).nodes l ≡ holder_of s.nodes l
  kept_held [] s l is = refl
  kept_held (node ∷ nodes) s l is =
      kept_held nodes (free_unless kept node s) l is ∙ free_by node l s (λ gone e. true_false node kept (subst (λ x. is_one_of x kept ≡ true) e is) gone)

  pub apart_held : (nodes : List ℕ) (s : StoreState) (l : ℕ) → (is_one_of l nodes ≡ true → ⊥) → holder_of (let_go kept nodes s).nodes l ≡ holder_of s.nodes l
  apart_held [] s l not = refl
  apart_held (node ∷ nodes) s l not =
      apart_held nodes (free_unless kept node s) l (λ e. not (later_is (nat_eq l node) (is_one_of l nodes) e)) ∙ free_by node l s (λ _ e. not (first_is l node nodes e))

  stays_none : (nodes : List ℕ) (s : StoreState) (l : ℕ) → holder_of s.nodes l ≡ None → holder_of (let_go kept nodes s).nodes l ≡ None
  stays_none [] s l none = none
  stays_none (node ∷ nodes) s l none = stays_none nodes (free_unless kept node s) l (still_none node l s none)

  free_itself : (node : ℕ) (s : StoreState) → is_one_of node kept ≡ false → holder_of (free_unless kept node s).nodes node ≡ None
  free_itself node s e = ap (λ b. holder_of (if b then s else edited (with_holder None) s node).nodes node) e ∙ holder_freed s node

  pub gone_free : (nodes : List ℕ) (s : StoreState) (l : ℕ) → is_one_of l nodes ≡ true → is_one_of l kept ≡ false → holder_of (let_go kept nodes s).nodes l ≡ None
  gone_free [] s l there gone = cc
  gone_free (node ∷ nodes) s l there gone = elim (either_is l node nodes there) [
    | inl e ↦ stays_none nodes (free_unless kept node s) l (subst (λ x. holder_of (free_unless kept node s).nodes x ≡ None) (sym e) (free_itself node s (subst (λ x. is_one_of x kept ≡ false) e gone)))
    | inr more ↦ gone_free nodes (free_unless kept node s) l more gone
  ]

-- ---- a call
module _ (route : Route) (at : Stage) (is : IsPosition route at) where
  node_there : (l : ℕ) → IsNodeOf (held_paths_of route at) l → is_one_of l (nodes_of at) ≡ true
  node_there l h = ap (is_one_of l) (nodes_on route at is) ∙ node_of_held_path (reached_at at) (paths_on route) l h.held_path h.holds h.node

  held_path_there : (l : ℕ) → is_one_of l (nodes_of at) ≡ true → IsNodeOf (held_paths_of route at) l
  held_path_there l e = held_path_of_node (reached_at at) (paths_on route) l (enough route at is) (sym (ap (is_one_of l) (nodes_on route at is)) ∙ e)

  none_there : (l : ℕ) → (IsNodeOf (held_paths_of route at) l → ⊥) → is_one_of l (nodes_of at) ≡ false
  none_there l not = elim (one_or_not l (nodes_of at)) [ inl e ↦ absurd (not (held_path_there l e)) | inr e ↦ e ]

  -- a call releases all that it holds
  pub freed_hands : (s : StoreState) (n : ℕ) → HandsOver (holder_of s.nodes) (holder_of (let_go [] (nodes_of at) s).nodes) n (held_paths_of route at) []
  freed_hands s n = record {
    here = λ l h. absurd h.holds;
    gone = λ l was _. gone_free [] (nodes_of at) s l (node_there l was) refl;
    rest = λ l not _. apart_held [] (nodes_of at) s l (λ e. not (held_path_there l e));
  }

-- lock coupling
pub moved_hands : (s : StoreState) {route : Route} {at after : Stage} (n node : ℕ) {x : Node} → IsPosition route at → IsPosition route after → node_in s.nodes node ≡ Some x
    → IsNodeOf (held_paths_of route after) node → ((l : ℕ) → IsNodeOf (held_paths_of route after) l → (l ≡ node) ⊎ (holder_of s.nodes l ≡ Some n))
    → HandsOver (holder_of s.nodes) (holder_of (handed_over n at after node s).nodes) n (held_paths_of route at) (held_paths_of route after)
moved_hands s {route = route} {at = at} {after = after} n node {x = x} is after_is there now held =
    let held_node = edited (with_holder (Some n)) s node in
    record {
      here = λ l h. kept_held (nodes_of after) (nodes_of at) held_node l (node_there route after after_is l h) ∙ elim (same_or_not l node) [
        | inl e ↦ ap (holder_of held_node.nodes) e ∙ holder_here (Some n) s node x there
        | inr ne ↦ holder_other (Some n) s node l ne ∙ elim (held l h) [ inl e ↦ absurd (ne e) | inr e ↦ e ]
      ];
      gone = λ l was not. gone_free (nodes_of after) (nodes_of at) held_node l (node_there route at is l was) (none_there route after after_is l not);
      rest = λ l was not. apart_held (nodes_of after) (nodes_of at) held_node l (λ e. was (held_path_there route at is l e))
          ∙ holder_other (Some n) s node l (λ e. not (subst (λ y. IsNodeOf (held_paths_of route after) y) (sym e) now));
    }
