-- Invariants of a store that represents a tree, if its entries and inodes stay.
use Rattle.std.specs.Prelude.{◌≡◌, ◌≢◌, ℕ, List, Option, Some, None, refl}
use Rattle.std.proofs.Common.{sym, ap, subst, ◌∙◌, inl, inr}
use Rattle.std.proofs.lemmas.Bool.{cases_eq}
use Rattle.sf_path.specs.Names.{Name}
use Rattle.sf_call.specs.Tree.{Tree, links}
use Rattle.sf_inode.specs.declared.node.Node.{Node}
use Rattle.sf_inode.specs.Nodes.{with_opened}
use Rattle.sf_inode.specs.Stores.{StoreState, node_in, child_of}
use Rattle.sf_keeps.specs.Keeps.{Keeps, times_open}
use Rattle.sf_keeps.proofs.Sound.{IsBare}
use Rattle.sf_keeps.proofs.SetsAt.{SetsAt, some_found, gone_found}
use Rattle.sf_keeps.proofs.StoreLaws.{entry_same, steps_dropped}
use Rattle.sf_keeps.proofs.InOrder.{InOrder, node_in_order, in_order_put}
use Rattle.sf_keeps.proofs.Openings.{one_node}

-- an old inode, with its number and its links
pub record Before (before : List (Option Node)) (i : ℕ) (after : Node) : Type 0 where
  pub node : Node
  pub there : node_in before i ≡ Some node
  pub label : after.label ≡ node.label
  pub named : after.names ≡ node.names

pub record AreAlike (before after : List (Option Node)) : Type 0 where
  pub steps : (x : ℕ) (n : Name) → child_of after x n ≡ child_of before x n
  pub back : (i : ℕ) (node : Node) → node_in after i ≡ Some node → Before before i node
  pub ordered : InOrder before → InOrder after

module _ (s : StoreState) (t : Tree) (k : Keeps s t) (after : StoreState) (a : AreAlike s.nodes after.nodes) where
  pub linked_alike : (id : ℕ) (node : Node) → node_in after.nodes id ≡ Some node → node.names ≡ links t.names node.label
  linked_alike id node at =
      let b = a.back id node at in
      b.named ∙ k.linked id b.node b.there ∙ ap (links t.names) (sym b.label)

  pub bare_alike : (id : ℕ) (node : Node) → node_in after.nodes id ≡ Some node → node.names ≡ 0 → (n : Name) → child_of after.nodes id n ≡ None
  bare_alike id node at none n =
      let b = a.back id node at in
      a.steps id n ∙ k.bare id b.node b.there (sym b.named ∙ none) n

-- ---- another count of an inode
module _ (s : StoreState) (t : Tree) (k : Keeps s t) (c n : ℕ) (node : Node) (here : node_in s.nodes c ≡ Some node) (nodes : List (Option Node))
    (put : SetsAt (node_in s.nodes) (node_in nodes) c (Some (with_opened n node))) where
  pub counted_alike : AreAlike s.nodes nodes
  counted_alike = record {
    steps = entry_same put here (λ m. refl);
    back = λ i x at. elim (some_found put i at) [
      | inl e ↦ record { node = node; there = ap (node_in s.nodes) (sym e.0) ∙ here; label = sym (ap (λ (y : Node). y.label) e.1); named = sym (ap (λ (y : Node). y.names) e.1) }
      | inr e ↦ record { node = x; there = e.1; label = refl; named = refl }
    ];
    ordered = λ h. in_order_put put h (node_in_order s.nodes c node h here);
  }

  pub counted_now : (after : Tree) → n ≡ times_open after node.label → ((label : ℕ) → node.label ≢ label → times_open after label ≡ times_open t label)
      → (i : ℕ) (x : Node) → node_in nodes i ≡ Some x → x.opens ≡ times_open after x.label
  counted_now after own others i x at = elim (some_found put i at) [
    | inl e ↦ subst (λ (y : Node). y.opens ≡ times_open after y.label) e.1 own
    | inr e ↦ k.counted i x e.1 ∙ sym (others x.label (λ same. e.0 (one_node s t k c i node x here e.1 same)))
  ]

  pub counted_there : (i : ℕ) (x : Node) → node_in s.nodes i ≡ Some x → (y : Node) × (node_in nodes i ≡ Some y) × (y.label ≡ x.label)
  counted_there i x at =
      elim (cases_eq c i) [
        | inl e ↦
            let is : Some node ≡ Some x = sym here ∙ ap (node_in s.nodes) e ∙ at in
            let same : node ≡ x = cc in
            (with_opened n node, ap (node_in nodes) (sym e) ∙ put.at, ap (λ (y : Node). y.label) same)
        | inr ne ↦ (x, put.beside i ne ∙ at, refl)
      ]

-- ---- without an inode
module _ (s : StoreState) (t : Tree) (k : Keeps s t) (c : ℕ) (node : Node) (here : node_in s.nodes c ≡ Some node) (nodes : List (Option Node))
    (put : SetsAt (node_in s.nodes) (node_in nodes) c None) where
  pub gone_alike : IsBare (child_of s.nodes) c → AreAlike s.nodes nodes
  gone_alike bare = record {
    steps = steps_dropped put bare;
    back = λ i x at. record { node = x; there = (gone_found put i at).1; label = refl; named = refl };
    ordered = λ h. in_order_put put h tt;
  }

  pub gone_now : (after : Tree) → ((label : ℕ) → node.label ≢ label → times_open after label ≡ times_open t label)
      → (i : ℕ) (x : Node) → node_in nodes i ≡ Some x → x.opens ≡ times_open after x.label
  gone_now after others i x at =
      let e = gone_found put i at in
      k.counted i x e.1 ∙ sym (others x.label (λ same. e.0 (one_node s t k c i node x here e.1 same)))
