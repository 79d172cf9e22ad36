-- Copying of blocks: what it leaves alone, and that it may be completed after any number of blocks.
use Rattle.std.specs.Prelude.{◌≡◌, ◌≢◌, ℕ, true, false, Option, Some, None, option_map, option_and_then, refl}
use Rattle.std.specs.Option.{option_map_or}
use Rattle.std.proofs.Common.{sym, ap, ◌∙◌, inl, inr}
use Rattle.std.proofs.lemmas.Bool.{cases_eq}
use Rattle.sf_inode.specs.declared.node.Node.{Node}
use Rattle.sf_inode.specs.declared.node.Content.{Content}
use Rattle.sf_inode.specs.declared.node.Content.TheVariants as content
use Rattle.sf_inode.specs.Nodes.{blocks_left_in, is_file_content, with_content, with_left}
use Rattle.sf_inode.specs.Stores.{StoreState, node_in, shown_node, shown_of, holder_of, blocks_left_at, left_set, is_file_at}
use Rattle.sf_keeps.proofs.Untouched.{edited_apart, edited_itself}
use Rattle.sf_keeps.proofs.StoreBytes.{object_left}

left_left : (j k : ℕ) (c : Content) → with_left j (with_left k c) ≡ with_left j c
left_left j k (content.Directory es) = refl
left_left j k (content.File contents) = refl

node_left : (j k : ℕ) (o : Option Node) → option_map (with_content (with_left j)) (option_map (with_content (with_left k)) o) ≡ option_map (with_content (with_left j)) o
node_left j k None = refl
node_left j k (Some node) = λ i. Some (with_content (λ c. left_left j k c i) node)

-- copying some blocks and then the rest equals copying all
pub rest_after : (j k : ℕ) (s : StoreState) (id i : ℕ) → node_in (left_set (left_set s id k) id j).nodes i ≡ node_in (left_set s id j).nodes i
rest_after j k s id i = elim (cases_eq i id) [
  | inl e ↦
      ap (node_in (left_set (left_set s id k) id j).nodes) e
      ∙ edited_itself (with_content (with_left j)) (left_set s id k) id
      ∙ ap (option_map (with_content (with_left j))) (edited_itself (with_content (with_left k)) s id)
      ∙ node_left j k (node_in s.nodes id)
      ∙ sym (edited_itself (with_content (with_left j)) s id)
      ∙ sym (ap (node_in (left_set s id j).nodes) e)
  | inr ne ↦
      edited_apart (with_content (with_left j)) (left_set s id k) id i ne
      ∙ edited_apart (with_content (with_left k)) s id i ne
      ∙ sym (edited_apart (with_content (with_left j)) s id i ne)
]

holder_by : (k : ℕ) (o : Option Node) → option_and_then (λ (node : Node). node.holder) (option_map (with_content (with_left k)) o) ≡ option_and_then (λ (node : Node). node.holder) o
holder_by k None = refl
holder_by k (Some node) = refl

shown_by : (k : ℕ) (o : Option Node) → option_map shown_node (option_map (with_content (with_left k)) o) ≡ option_map shown_node o
shown_by k None = refl
shown_by k (Some node) = λ i. Some (node.label, object_left k node.metadata node.content i)

-- holders and the observable part are unchanged
pub left_holders : (k : ℕ) (s : StoreState) (id i : ℕ) → holder_of (left_set s id k).nodes i ≡ holder_of s.nodes i
left_holders k s id i = elim (cases_eq i id) [
  | inl e ↦
      ap (holder_of (left_set s id k).nodes) e
      ∙ ap (option_and_then (λ (node : Node). node.holder)) (edited_itself (with_content (with_left k)) s id)
      ∙ holder_by k (node_in s.nodes id)
      ∙ sym (ap (holder_of s.nodes) e)
  | inr ne ↦ ap (option_and_then (λ (node : Node). node.holder)) (edited_apart (with_content (with_left k)) s id i ne)
]

pub left_shown : (k : ℕ) (s : StoreState) (id i : ℕ) → shown_of (left_set s id k).nodes i ≡ shown_of s.nodes i
left_shown k s id i = elim (cases_eq i id) [
  | inl e ↦
      ap (shown_of (left_set s id k).nodes) e
      ∙ ap (option_map shown_node) (edited_itself (with_content (with_left k)) s id)
      ∙ shown_by k (node_in s.nodes id)
      ∙ sym (ap (shown_of s.nodes) e)
  | inr ne ↦ ap (option_map shown_node) (edited_apart (with_content (with_left k)) s id i ne)
]

left_by : (k : ℕ) (o : Option Node) → option_map_or (λ (node : Node). is_file_content node.content) o false ≡ true → option_map_or (λ (node : Node). blocks_left_in node.content) (option_map (with_content (with_left k)) o) 0 ≡ k
left_by k None file = absurd (cc)
left_by k (Some node) file = elim node.content as (λ c. is_file_content c ≡ true → blocks_left_in (with_left k c) ≡ k) [
  | content.Directory es ↦ λ e. absurd (cc)
  | content.File contents ↦ λ e. refl
] file

-- the number of blocks left of a file then, and of the others
pub left_there : (k : ℕ) (s : StoreState) (id : ℕ) → is_file_at s.nodes id ≡ true → blocks_left_at (left_set s id k).nodes id ≡ k
left_there k s id file =
    ap (λ (o : Option Node). option_map_or (λ (node : Node). blocks_left_in node.content) o 0) (edited_itself (with_content (with_left k)) s id)
    ∙ left_by k (node_in s.nodes id) file

pub left_others : (k : ℕ) (s : StoreState) (id i : ℕ) → i ≢ id → blocks_left_at (left_set s id k).nodes i ≡ blocks_left_at s.nodes i
left_others k s id i ne = ap (λ (o : Option Node). option_map_or (λ (node : Node). blocks_left_in node.content) o 0) (edited_apart (with_content (with_left k)) s id i ne)
