-- The start of writing into a file.
use Rattle.std.specs.Prelude.{◌≡◌, ◌≢◌, ◌<◌, ℕ, true, false, List, [], ◌∷◌, length, option_map, option_and_then, Option, Some, None, refl}
use Rattle.std.specs.Option.{option_map_or}
use Rattle.std.proofs.Common.{sym, ap, subst, ◌∙◌, arith, inl}
use Rattle.sf_block.specs.Contents.{FileBytes, written, writing, blocks_of}
use Rattle.sf_call.specs.declared.metadata.Metadata.{Metadata}
use Rattle.sf_call.specs.Attributes.{Object, modified_at}
use Rattle.sf_call.specs.Attributes.Object.{File}
use Rattle.sf_call.specs.Tree.{Tree}
use Rattle.sf_call.specs.Changes.{changed}
use Rattle.sf_call.specs.Changes.Change.{SetObject}
use Rattle.sf_inode.specs.declared.node.Node.{Node}
use Rattle.sf_inode.specs.declared.node.Content.{Content}
use Rattle.sf_inode.specs.declared.node.Content.TheVariants as content
use Rattle.sf_inode.specs.Nodes.{object_in, blocks_left_in, is_file_content, with_file, with_left, with_content, with_metadata}
use Rattle.sf_inode.specs.Stores.{StoreState, node_in, bytes_of, is_file_at, blocks_left_at, holder_of, file_set, left_set, shown_of, shown_node, edited}
use Rattle.sf_keeps.specs.Keeps.{Keeps}
use Rattle.sf_keeps.proofs.Laws.{keeps_contents, keeps_file, keeps_left, object_again, edited_itself, edited_apart}
use Rattle.sf_inode.specs.declared.handle.OpenHandle.{OpenHandle}
use Rattle.sf_walk.specs.Files.{HasBlocksLeft, node_label}
use Rattle.sf_walk.proofs.SetNodes.{ShownFile, stored_bytes}

pub some_blocks : (start : ℕ) (bytes : List ℕ) → 0 < length bytes → 0 < blocks_of start bytes
some_blocks start [] some = absurd (omega (arith, some))
some_blocks start (b ∷ bytes) some = omega arith

-- an unchanged store has as many blocks left as before
pub none_left : (s : StoreState) (h : OpenHandle) (offset : ℕ) (bytes : List ℕ) → blocks_left_at s.nodes h.node ≡ 0 → HasBlocksLeft s s h offset bytes
none_left s h offset bytes none = inl none

-- ---- the blocks left of a file
left_filed : (f : FileBytes) (o : Option Node) → option_map_or (λ (node : Node). is_file_content node.content) o false ≡ true
    → option_map_or (λ (node : Node). blocks_left_in node.content) (option_map (with_content (with_file f)) o) 0 ≡ f.left
left_filed f None file = cc
left_filed f (Some node) file = elim node.content as (λ c. is_file_content c ≡ true → blocks_left_in (with_file f c) ≡ f.left) [
  | content.Directory es ↦ λ e. cc
  | content.File contents ↦ λ e. refl
] file

pub left_begun : (f : FileBytes) (s : StoreState) (id : ℕ) → is_file_at s.nodes id ≡ true → blocks_left_at (file_set s id f).nodes id ≡ f.left
left_begun f s id file =
    ap (λ (o : Option Node). option_map_or (λ (node : Node). blocks_left_in node.content) o 0) (edited_itself (with_content (with_file f)) s id)
    ∙ left_filed f (node_in s.nodes id) file

file_filed : (f : FileBytes) (o : Option Node) → option_map_or (λ (node : Node). is_file_content node.content) (option_map (with_content (with_file f)) o) false ≡ option_map_or (λ (node : Node). is_file_content node.content) o false
file_filed f None = refl
file_filed f (Some node) = elim node.content as (λ c. is_file_content (with_file f c) ≡ is_file_content c) [ content.Directory es ↦ refl | content.File contents ↦ refl ]

file_begun : (f : FileBytes) (s : StoreState) (id : ℕ) → is_file_at (file_set s id f).nodes id ≡ is_file_at s.nodes id
file_begun f s id =
    ap (λ (o : Option Node). option_map_or (λ (node : Node). is_file_content node.content) o false) (edited_itself (with_content (with_file f)) s id)
    ∙ file_filed f (node_in s.nodes id)

left_by : (k : ℕ) (o : Option Node) → option_map_or (λ (node : Node). is_file_content node.content) o false ≡ true → option_map_or (λ (node : Node). blocks_left_in node.content) (option_map (with_content (with_left k)) o) 0 ≡ k
left_by k None file = cc
left_by k (Some node) file = elim node.content as (λ c. is_file_content c ≡ true → blocks_left_in (with_left k c) ≡ k) [
  | content.Directory es ↦ λ e. cc
  | content.File contents ↦ λ e. refl
] file

left_marked : (f : Metadata → Metadata) (o : Option Node) → option_map_or (λ (node : Node). blocks_left_in node.content) (option_map (with_metadata f) o) 0 ≡ option_map_or (λ (node : Node). blocks_left_in node.content) o 0
left_marked f None = refl
left_marked f (Some node) = refl

holder_marked : (f : Metadata → Metadata) (g h : Content → Content) (o : Option Node)
    → option_and_then (λ (node : Node). node.holder) (option_map (with_metadata f) (option_map (with_content g) (option_map (with_content h) o))) ≡ option_and_then (λ (node : Node). node.holder) o
holder_marked f g h None = refl
holder_marked f g h (Some node) = refl

label_marked : (f : Metadata → Metadata) (g h : Content → Content) (o : Option Node)
    → option_map (λ (node : Node). node.label) (option_map (with_metadata f) (option_map (with_content g) (option_map (with_content h) o))) ≡ option_map (λ (node : Node). node.label) o
label_marked f g h None = refl
label_marked f g h (Some node) = refl

-- ---- the three changes
-- A WRITE starts in a file. It has these bytes to copy, this many blocks are left after the first
-- one, and the file's modification time is set; with the stores between.
pub record WriteBegun (s new : StoreState) (node : ℕ) : Type 0 where
  pub moment : ℕ
  pub start : ℕ
  pub bytes : List ℕ
  pub left : ℕ
  pub first : StoreState
  pub second : StoreState
  pub begun : first ≡ file_set s node (writing (bytes_of s.nodes node) start bytes)
  pub copied : second ≡ left_set first node left
  pub marked : new ≡ edited (with_metadata (modified_at moment)) second node

module _ (s new : StoreState) (id : ℕ) (w : WriteBegun s new id) where
  abbrev f : FileBytes
  f = writing (bytes_of s.nodes id) w.start w.bytes

  node_now : node_in new.nodes id ≡ option_map (with_metadata (modified_at w.moment)) (option_map (with_content (with_left w.left)) (option_map (with_content (with_file f)) (node_in s.nodes id)))
  node_now =
      ap (λ (x : StoreState). node_in x.nodes id) w.marked
      ∙ edited_itself (with_metadata (modified_at w.moment)) w.second id
      ∙ ap (option_map (with_metadata (modified_at w.moment))) (ap (λ (x : StoreState). node_in x.nodes id) w.copied ∙ edited_itself (with_content (with_left w.left)) w.first id
      ∙ ap (option_map (with_content (with_left w.left))) (ap (λ (x : StoreState). node_in x.nodes id) w.begun ∙ edited_itself (with_content (with_file f)) s id))

  pub others_now : (i : ℕ) → i ≢ id → node_in new.nodes i ≡ node_in s.nodes i
  others_now i ne =
      ap (λ (x : StoreState). node_in x.nodes i) w.marked
      ∙ edited_apart (with_metadata (modified_at w.moment)) w.second id i ne
      ∙ ap (λ (x : StoreState). node_in x.nodes i) w.copied ∙ edited_apart (with_content (with_left w.left)) w.first id i ne
      ∙ ap (λ (x : StoreState). node_in x.nodes i) w.begun ∙ edited_apart (with_content (with_file f)) s id i ne

  pub holder_now : holder_of new.nodes id ≡ holder_of s.nodes id
  holder_now = ap (option_and_then (λ (node : Node). node.holder)) node_now ∙ holder_marked (modified_at w.moment) (with_left w.left) (with_file f) (node_in s.nodes id)

  pub label_now : node_label new.nodes id ≡ node_label s.nodes id
  label_now = ap (option_map (λ (node : Node). node.label)) node_now ∙ label_marked (modified_at w.moment) (with_left w.left) (with_file f) (node_in s.nodes id)

  pub left_now : is_file_at s.nodes id ≡ true → blocks_left_at new.nodes id ≡ w.left
  left_now file =
      ap (λ (o : Option Node). option_map_or (λ (node : Node). blocks_left_in node.content) o 0) node_now
      ∙ left_marked (modified_at w.moment) (option_map (with_content (with_left w.left)) (option_map (with_content (with_file f)) (node_in s.nodes id)))
      ∙ left_by w.left (option_map (with_content (with_file f)) (node_in s.nodes id)) (file_filed f (node_in s.nodes id) ∙ file)

  pub sessions_now : new.sessions ≡ s.sessions
  sessions_now = ap (λ (x : StoreState). x.sessions) w.marked ∙ ap (λ (x : StoreState). x.sessions) w.copied ∙ ap (λ (x : StoreState). x.sessions) w.begun

-- ---- the objects
abbrev shown_as : ℕ → Object → Option (ℕ × Object)
shown_as l o = Some (l, o)

filed_content : (f : FileBytes) (k l label : ℕ) (n m : Metadata) (c : Content) (old : List ℕ) → shown_as l (object_in n c) ≡ shown_as label (File m old)
    → shown_as l (object_in n (with_left k (with_file f c))) ≡ shown_as label (File m f.bytes)
filed_content f k l label n m (content.Directory es) old e = let g = ap (λ (o : Option (ℕ × Object)). option_map (λ (v : ℕ × Object). v.1) o) e in cc
filed_content f k l label n m (content.File contents) old e =
    let g = ap (λ (o : Option (ℕ × Object)). option_map (λ (v : ℕ × Object). v.1) o) e in
    let h = ap (λ (o : Option (ℕ × Object)). option_map (λ (v : ℕ × Object). v.0) o) e in
    let a : l ≡ label = cc in
    let b : n ≡ m = cc in
    λ i. Some (a i, File (b i) f.bytes)

filed_shown : (f : FileBytes) (k label : ℕ) (m : Metadata) (o : Option Node) (old : List ℕ) → option_map shown_node o ≡ Some (label, File m old)
    → option_map shown_node (option_map (with_content (with_left k)) (option_map (with_content (with_file f)) o)) ≡ Some (label, File m f.bytes)
filed_shown f k label m None old e = cc
filed_shown f k label m (Some node) old e = filed_content f k node.label label node.metadata m node.content old e

pub start_keeps : (s new : StoreState) (t : Tree) (f : ShownFile s) → Keeps s t → (w : WriteBegun s new f.node) → Keeps new (changed t (SetObject f.label (File (modified_at w.moment f.metadata) (written f.bytes w.start w.bytes))))
start_keeps s new t f keeps w =
    let id = f.node in
    let label = f.label in
    let m = f.metadata in
    let file : FileBytes = writing (bytes_of s.nodes id) w.start w.bytes in
    let now : List ℕ = written (bytes_of s.nodes id) w.start w.bytes in
    let after : now ≡ written f.bytes w.start w.bytes = ap (λ (b : List ℕ). written b w.start w.bytes) (stored_bytes (node_in s.nodes id) label m f.bytes f.shows) in
    let one = changed t (SetObject label (File m now)) in
    let last : Object = File (modified_at w.moment m) now in
    let keeps_first : Keeps w.first one = subst (λ (x : StoreState). Keeps x one) (sym w.begun) (keeps_contents file s t id label m f.bytes keeps f.shows) in
    let keeps_second : Keeps w.second one = subst (λ (x : StoreState). Keeps x one) (sym w.copied) (keeps_left w.left w.first one id keeps_first) in
    let shows_second : shown_of w.second.nodes id ≡ Some (label, File m now) =
    ap (option_map shown_node) (ap (λ (x : StoreState). node_in x.nodes id) w.copied ∙ edited_itself (with_content (with_left w.left)) w.first id
    ∙ ap (option_map (with_content (with_left w.left))) (ap (λ (x : StoreState). node_in x.nodes id) w.begun ∙ edited_itself (with_content (with_file file)) s id))
    ∙ filed_shown file w.left label m (node_in s.nodes id) f.bytes f.shows in
    let keeps_new : Keeps new (changed one (SetObject label last)) =
    subst (λ (x : StoreState). Keeps x (changed one (SetObject label last))) (sym w.marked) (keeps_file (modified_at w.moment) w.second one id label m now keeps_second shows_second) in
    subst (λ (b : List ℕ). Keeps new (changed t (SetObject label (File (modified_at w.moment m) b)))) after
    (subst (λ (u : Tree). Keeps new u) (object_again t label (File m now) last) keeps_new)
