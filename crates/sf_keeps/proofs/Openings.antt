-- The handles and names of an inode in a store that represents a tree.
use Rattle.std.specs.Prelude.{◌≡◌, ℕ, zero, suc, ◌+◌, ◌<◌, nat_eq, Bool, true, false, cond, ◌&&◌, ◌||◌, List, [], ◌∷◌, ◌++◌, length, option_map, option_and_then, Option, Some, None, refl}
use Rattle.std.proofs.Common.{sym, ap, subst, ◌∙◌, arith, eqb-true, length-append, inl, inr}
use Rattle.std.proofs.lemmas.Bool.{cases_eq, true_from_ne_false, and_cases, or_left, or_right}
use Rattle.std.specs.List.{list_any, count_by}
use Rattle.std.proofs.lemmas.List.Sums.{sum_by-cons}
use Rattle.std.specs.Ordering.{nat_cmp}
use Rattle.std.specs.Cmp.{nat_cmp_total}
use Rattle.sf_path.specs.Names.{Name, Path}
use Rattle.sf_call.specs.declared.handle.Handle.{Handle}
use Rattle.sf_call.specs.Attributes.{Object}
use Rattle.sf_call.specs.Tree.{Tree, object_of, label_at, links, is_used}
use Rattle.sf_call.proofs.Laws.{linked_path, named_linked, only_path, both_true}
use Rattle.sf_inode.specs.declared.node.Node.{Node}
use Rattle.sf_inode.specs.declared.handle.OpenHandle.{OpenHandle}
use Rattle.sf_inode.specs.Nodes.{object_in}
use Rattle.sf_keeps.specs.Steps.{walk}
use Rattle.sf_keeps.specs.Shows.{label_by}
use Rattle.sf_inode.specs.Stores.{StoreState, node_in, child_of, shown_of, open_handle_at, shown_node, shown_handle}
use Rattle.sf_keeps.specs.Keeps.{view_of, Keeps, IsUnlinked, times_open}
use Rattle.sf_keeps.proofs.SetsAt.{nat_eq_apart}
use Rattle.sf_keeps.proofs.Through.{found_through, found_as, some_there}
use Rattle.sf_keeps.proofs.Keyed.{lookup_any}
use Rattle.sf_keeps.proofs.Less.{is_opened, IsClosed, handle_here, opened_by, led_by}
use Rattle.sf_keeps.proofs.Whole.{one_more}

-- an element that passes a test is counted
pub any_counted : {X : Type 0} (f : X → Bool) (es : List X) → list_any f es ≡ true → count_by f es ≡ 0 → ⊥
any_counted f [] a n = cc
any_counted f (e ∷ es) a n =
    elim (f e) as (λ b. (b || list_any f es) ≡ true → cond b 1 0 + count_by f es ≡ 0 → ⊥) [
      | true ↦ λ a n. omega arith
      | false ↦ λ a n. any_counted f es a (omega (arith, n))
    ] a (sym (sum_by-cons (λ x. cond (f x) 1 0) e es) ∙ n)

pub none_counted : {X : Type 0} (f : X → Bool) (es : List X) → list_any f es ≡ false → count_by f es ≡ 0
none_counted f [] a = refl
none_counted f (e ∷ es) a =
    sum_by-cons (λ x. cond (f x) 1 0) e es
    ∙ elim (f e) as (λ b. (b || list_any f es) ≡ false → cond b 1 0 + count_by f es ≡ 0) [
      | true ↦ λ a. cc
      | false ↦ λ a. omega (arith, none_counted f es a)
    ] a

-- one name or more
pub some_names : (n : ℕ) → nat_eq n 0 ≡ false → 0 < n
some_names zero e = cc
some_names (suc n) e = omega arith

-- an inode number with links has a path
pub linked_named : (names : List (Path × ℕ)) (label : ℕ) → 0 < links names label → list_any (λ e. nat_eq e.1 label) names ≡ true
linked_named names label some = true_from_ne_false (list_any (λ e. nat_eq e.1 label) names) (λ e.
    let none = none_counted (λ (e : Path × ℕ). nat_eq e.1 label) names e in absurd (omega (arith, some, none)))

pub both_zero : (names n : ℕ) → nat_eq names 0 && nat_eq n 0 ≡ true → (names ≡ 0) × (n ≡ 0)
both_zero names n e = let w = both_true (nat_eq names 0) (nat_eq n 0) e in (eqb-true names 0 w.0, eqb-true n 0 w.1)

-- paths that end by a name
pub last_same : (p q : Path) (n m : Name) → p ++ n ∷ [] ≡ q ++ m ∷ [] → (p ≡ q) × (n ≡ m)
last_same [] [] n m e = (refl, cc)
last_same [] (b ∷ q) n m e = let lengths = ap (λ (x : Path). length x) e in absurd (omega (arith, lengths, length-append q (m ∷ [])))
last_same (a ∷ p) [] n m e = let lengths = ap (λ (x : Path). length x) e in absurd (omega (arith, lengths, length-append p (n ∷ [])))
last_same (a ∷ p) (b ∷ q) n m e =
    let head : a ≡ b = cc in
    let tail : p ++ n ∷ [] ≡ q ++ m ∷ [] = cc in
    let rest = last_same p q n m tail in (λ i. head i ∷ rest.0 i, rest.1)

-- a handle of the inode number
pub record Opener (s : StoreState) (label : ℕ) : Type 0 where
  pub session : ℕ
  pub number : ℕ
  pub handle : Handle
  pub opens : (view_of s).opens session number ≡ Some handle
  pub same : handle.label ≡ label

module _ (s : StoreState) (t : Tree) (k : Keeps s t) where
  -- an object with no counted handle has none
  pub closed_label : (label : ℕ) → times_open t label ≡ 0 → IsClosed (view_of s) label
  closed_label label none session number h opens same =
      any_counted (λ e. nat_eq e.1.label label) t.handles (ap (is_opened t) (sym same) ∙ opened_by (view_of s) t k.shows.by session number h opens) none

  pub label_opened : (label : ℕ) → nat_eq (times_open t label) 0 ≡ false → is_opened t label ≡ true
  label_opened label some = true_from_ne_false (is_opened t label) (λ e. let f = ap (λ (n : ℕ). nat_eq n 0) (none_counted (λ e. nat_eq e.1.label label) t.handles e) in cc)

  -- a counted object has a handle
  pub opener : (label : ℕ) → nat_eq (times_open t label) 0 ≡ false → Opener s label
  opener label some =
      let w = lookup_any nat_cmp nat_cmp_total (λ x. nat_eq x.label label) t.handles k.shows.ordered.handles (label_opened label some) in
      record { session = w.1.session; number = w.0; handle = w.1; opens = sym (k.shows.by.handles w.1.session w.0) ∙ handle_here t w.0 w.1 w.2; same = eqb-true w.1.label label w.3 }

  -- the inode number of a handle is counted
  pub counted_handle : (session number : ℕ) (h : OpenHandle) → open_handle_at s session number ≡ Some h → nat_eq (times_open t h.label) 0 ≡ false
  counted_handle session number h at =
      nat_eq_apart (times_open t h.label) 0 (λ e. closed_label h.label e session number (shown_handle session h) (ap (option_map (shown_handle session)) at) refl)

  -- two inodes with one number are equal
  pub one_node : (i j : ℕ) (x y : Node) → node_in s.nodes i ≡ Some x → node_in s.nodes j ≡ Some y → x.label ≡ y.label → i ≡ j
  one_node i j x y at_i at_j same =
      k.shows.by.sound.labels i j y.label (object_in x.metadata x.content) (object_in y.metadata y.content)
      (ap (option_map shown_node) at_i ∙ (λ a. Some (same a, object_in x.metadata x.content))) (ap (option_map shown_node) at_j)

  -- the object of an inode is that of its number
  pub object_there : (i : ℕ) (x : Node) → node_in s.nodes i ≡ Some x → object_of t.objects x.label ≡ Some (object_in x.metadata x.content)
  object_there i x at = k.shows.by.objects i x.label (object_in x.metadata x.content) (ap (option_map shown_node) at)

  -- a path to an inode has its number
  pub path_label : (path : Path) (id : ℕ) (node : Node) → node_in s.nodes id ≡ Some node → walk (child_of s.nodes) s.root path ≡ Some id → label_at t.names path ≡ Some node.label
  path_label path id node here at =
      k.shows.by.names path ∙ ap (option_and_then (label_by (view_of s).shown)) at ∙ ap (λ (o : Option Node). option_map (λ (x : ℕ × Object). x.0) (option_map shown_node o)) here

  -- an inode with a link has a path, and an inode with a path has a link
  pub named_path : (id : ℕ) (node : Node) → node_in s.nodes id ≡ Some node → 0 < node.names → (path : Path) × (walk (child_of s.nodes) s.root path ≡ Some id)
  named_path id node here some =
      let w = linked_path t.names node.label k.shows.ordered.names (subst (λ (n : ℕ). 0 < n) (k.linked id node here) some) in
      (w.0, led_by (view_of s) t k.shows.by id node.label (object_in node.metadata node.content) (ap (option_map shown_node) here) w.0 w.1)

  pub path_named : (path : Path) (id : ℕ) (node : Node) → node_in s.nodes id ≡ Some node → walk (child_of s.nodes) s.root path ≡ Some id → 0 < node.names
  path_named path id node here at = subst (λ (n : ℕ). 0 < n) (sym (k.linked id node here)) (named_linked t.names path node.label (path_label path id node here at))

  -- a directory with an entry has a path
  pub entry_path : (x c : ℕ) (n : Name) → child_of s.nodes x n ≡ Some c → (path : Path) × (walk (child_of s.nodes) s.root path ≡ Some x)
  entry_path x c n there =
      let w = found_through (node_in s.nodes x) there in
      elim (cases_eq w.0.names 0) [
        | inl g ↦ let none = k.bare x w.0 w.1 g n in absurd (cc)
        | inr g ↦ named_path x w.0 w.1 (some_names w.0.names (nat_eq_apart w.0.names 0 g))
      ]

  -- an entry refers to an inode that has a link
  pub entry_node : (x c : ℕ) (n : Name) → child_of s.nodes x n ≡ Some c → (node : Node) × (node_in s.nodes c ≡ Some node) × (0 < node.names)
  entry_node x c n there =
      let w = some_there (node_in s.nodes c) (λ e. k.shows.by.sound.to x c n there (ap (option_map shown_node) e)) in
      let p = entry_path x c n there in (w.0, w.1, path_named (p.0 ++ n ∷ []) c w.0 w.1 (one_more (view_of s) t k.shows p.0 x n p.1 ∙ there))

  -- an inode without a link
  pub unnamed_node : (id : ℕ) (node : Node) → node_in s.nodes id ≡ Some node → node.names ≡ 0 → IsUnlinked s id
  unnamed_node id node here none = record {
    free = λ x n e.
        let w = entry_node x id n e in
        let two : Some w.0 ≡ Some node = sym w.1 ∙ here in
        let same : w.0 ≡ node = cc in
        let zero : w.0.names ≡ 0 = ap (λ (y : Node). y.names) same ∙ none in
        absurd (omega (arith, w.2, zero));
    other = λ e. absurd (omega (arith, path_named [] id node here (ap Some e), none));
    bare = k.bare id node here none;
  }

  -- an inode with one link has one entry
  pub one_entry : (c : ℕ) (node : Node) → node_in s.nodes c ≡ Some node → node.names ≡ 1 → (x y : ℕ) (n m : Name) → child_of s.nodes x n ≡ Some c → child_of s.nodes y m ≡ Some c → (x ≡ y) × (n ≡ m)
  one_entry c node here one x y n m a b =
      let p = entry_path x c n a in
      let q = entry_path y c m b in
      let same = only_path t.names node.label (p.0 ++ n ∷ []) (q.0 ++ m ∷ []) (sym (k.linked c node here) ∙ one)
      (path_label (p.0 ++ n ∷ []) c node here (one_more (view_of s) t k.shows p.0 x n p.1 ∙ a)) (path_label (q.0 ++ m ∷ []) c node here (one_more (view_of s) t k.shows q.0 y m q.1 ∙ b)) in
      let parts = last_same p.0 q.0 n m same in
      let led : Some x ≡ Some y = sym p.1 ∙ ap (walk (child_of s.nodes) s.root) parts.0 ∙ q.1 in
      (cc, parts.1)

  -- a used inode has a link or an open handle
  pub used_still : (names : List (Path × ℕ)) (c count : ℕ) (node : Node) → node_in s.nodes c ≡ Some node → count ≡ links names node.label → nat_eq count 0 && nat_eq node.opens 0 ≡ false → is_used names t.handles node.label ≡ true
  used_still names c count node here own kept =
      elim (and_cases (nat_eq count 0) (nat_eq node.opens 0) kept) [
        | inl e ↦ or_left (list_any (λ e. nat_eq e.1 node.label) names) (is_opened t node.label) (linked_named names node.label (subst (λ (n : ℕ). 0 < n) own (some_names count e)))
        | inr some ↦ or_right (list_any (λ e. nat_eq e.1 node.label) names) (is_opened t node.label) (label_opened node.label (ap (λ (n : ℕ). nat_eq n 0) (sym (k.counted c node here)) ∙ some))
      ]

  -- the inode number of a path has an object
  pub labelled_object : (q : Path) (label : ℕ) → label_at t.names q ≡ Some label → object_of t.objects label ≡ None → ⊥
  labelled_object q label at none =
      let y = found_through (walk (child_of s.nodes) s.root q) (sym (k.shows.by.names q) ∙ at) in
      let v = found_as (shown_of s.nodes y.0) y.2 in
      let w = found_as (node_in s.nodes y.0) v.1 in
      let some = object_there y.0 w.0 w.1 in
      let gone : object_of t.objects w.0.label ≡ None = ap (object_of t.objects) (ap (λ (x : ℕ × Object). x.0) w.2 ∙ v.2) ∙ none in cc

  -- an inode number without an object has no handle
  pub unopened : (label : ℕ) → object_of t.objects label ≡ None → times_open t label ≡ 0
  unopened label none =
      elim (cases_eq (times_open t label) 0) [
        | inl e ↦ e
        | inr e ↦
            let o = opener label (nat_eq_apart (times_open t label) 0 e) in
            let h = found_as (open_handle_at s o.session o.number) o.opens in
            let w = k.led o.session o.number h.0 h.1 in
            let there = object_there h.0.node w.0 w.1.0 in
            let is : w.0.label ≡ label = w.1.1 ∙ ap (λ (x : Handle). x.label) h.2 ∙ o.same in
            let gone = ap (object_of t.objects) is ∙ none in absurd (cc)
      ]
