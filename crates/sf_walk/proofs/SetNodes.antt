-- Setting the attributes of an inode.
use Rattle.std.specs.Prelude.{if◌then◌else◌, ◌≡◌, ℕ, ◌≤◌, nat_lt, false, List, [], ◌∷◌, option_map, Option, Some, None, refl}
use Rattle.std.specs.Option.{option_map_or}
use Rattle.std.proofs.lemmas.Bool.Decides.{nat_tests}
use Rattle.std.proofs.Common.{sym, ap, subst, ◌∙◌, arith}
use Rattle.sf_field.specs.declared.attrs.Attrs.{Attrs}
use Rattle.sf_reply.specs.declared.reply.Reply.TheVariants as reply
use Rattle.sf_reply.specs.declared.reply.StatusCode.TheVariants.{Success, Failure}
use Rattle.sf_call.specs.declared.metadata.Metadata.{Metadata}
use Rattle.sf_call.specs.declared.limits.TheConstants.{MAX_FILE_SIZE}
use Rattle.sf_call.specs.Attributes.{Object, modified_at, with_parts}
use Rattle.sf_call.specs.Attributes.Object.{Directory, File}
use Rattle.sf_block.specs.Contents.{complete, resized}
use Rattle.sf_call.specs.Tree.{Tree}
use Rattle.sf_call.specs.Changes.{changed}
use Rattle.sf_call.specs.Changes.Change.{SetObject}
use Rattle.sf_call.specs.Calls.{Outcome, refuses, succeeds, sets, refuses_size, with_size}
use Rattle.sf_inode.specs.declared.node.Node.{Node}
use Rattle.sf_inode.specs.declared.node.Content.{Content}
use Rattle.sf_inode.specs.declared.node.Content.TheVariants as content
use Rattle.sf_inode.specs.Nodes.{object_in, bytes_in, with_bytes, with_content, is_directory_content, with_metadata}
use Rattle.sf_inode.specs.Stores.{StoreState, node_in, bytes_of, bytes_set, is_directory_at, shown_of, shown_node, edited}
use Rattle.sf_keeps.specs.Keeps.{Keeps}
use Rattle.sf_keeps.proofs.Laws.{keeps_metadata, keeps_contents, keeps_file, object_again, edited_itself}
use Rattle.sf_walk.specs.Served.{IsCarriedOut}

pub not_above : (size : ℕ) → size ≤ MAX_FILE_SIZE → nat_lt MAX_FILE_SIZE size ≡ false
not_above size h = grind (arith, nat_tests)

sets_plain : (moment l : ℕ) (attrs : Attrs) (m : Metadata) (c : Content) → attrs.size ≡ None → sets moment l attrs (object_in m c) ≡ succeeds (SetObject l (object_in (with_parts m attrs) c) ∷ [])
sets_plain moment l attrs m (content.Directory es) e = λ i. if refuses_size (Directory m) (e i) then refuses Failure else succeeds (SetObject l (Directory (with_parts m attrs)) ∷ [])
sets_plain moment l attrs m (content.File c) e = λ i. if refuses_size (File m c.bytes) (e i) then refuses Failure else succeeds (SetObject l (with_size moment attrs (e i) m c.bytes) ∷ [])

sets_cut : (moment l : ℕ) (attrs : Attrs) (m : Metadata) (bytes : List ℕ) (size : ℕ) → attrs.size ≡ Some size → nat_lt MAX_FILE_SIZE size ≡ false
    → sets moment l attrs (File m bytes) ≡ succeeds (SetObject l (File (with_parts (modified_at moment m) attrs) (resized bytes size)) ∷ [])
sets_cut moment l attrs m bytes size e d =
    (λ i. if refuses_size (File m bytes) (e i) then refuses Failure else succeeds (SetObject l (with_size moment attrs (e i) m bytes) ∷ []))
    ∙ (λ i. if d i then refuses Failure else succeeds (SetObject l (with_size moment attrs (Some size) m bytes) ∷ []))

abbrev shown_as : ℕ → Object → ℕ × Object
shown_as label object = (label, object)

content_bytes : (l k : ℕ) (m n : Metadata) (c : Content) (old : List ℕ) → Some (shown_as k (object_in n c)) ≡ Some (l, File m old) → bytes_in c ≡ old
content_bytes l k m n (content.Directory es) old e = let f = ap (λ (o : Option (ℕ × Object)). option_map (λ (v : ℕ × Object). v.1) o) e in cc
content_bytes l k m n (content.File c) old e = let f = ap (λ (o : Option (ℕ × Object)). option_map (λ (v : ℕ × Object). v.1) o) e in cc

-- an inode's object, with other bytes or other metadata
stored_content : (l k : ℕ) (m n : Metadata) (c : Content) (old : List ℕ) (r : List ℕ) → Some (shown_as k (object_in n c)) ≡ Some (l, File m old) → Some (shown_as k (object_in n (with_bytes r c))) ≡ Some (l, File m r)
stored_content l k m n (content.Directory es) old r e = let f = ap (λ (o : Option (ℕ × Object)). option_map (λ (v : ℕ × Object). v.1) o) e in cc
stored_content l k m n (content.File c) old r e =
    let f = ap (λ (o : Option (ℕ × Object)). option_map (λ (v : ℕ × Object). v.1) o) e in
    let g = ap (λ (o : Option (ℕ × Object)). option_map (λ (v : ℕ × Object). v.0) o) e in
    let a : k ≡ l = cc in
    let b : n ≡ m = cc in
    λ i. Some (a i, File (b i) r)

marked_content : (f : Metadata → Metadata) (l k : ℕ) (m n : Metadata) (c : Content) (bytes : List ℕ) → Some (shown_as k (object_in n c)) ≡ Some (l, File m bytes) → Some (shown_as k (object_in (f n) c)) ≡ Some (l, File (f m) bytes)
marked_content f l k m n (content.Directory es) bytes e = let g = ap (λ (o : Option (ℕ × Object)). option_map (λ (v : ℕ × Object). v.1) o) e in cc
marked_content f l k m n (content.File c) bytes e =
    let h = ap (λ (o : Option (ℕ × Object)). option_map (λ (v : ℕ × Object). v.1) o) e in
    let g = ap (λ (o : Option (ℕ × Object)). option_map (λ (v : ℕ × Object). v.0) o) e in
    let a : k ≡ l = cc in
    let b : n ≡ m = cc in
    let d : c.bytes ≡ bytes = cc in
    λ i. Some (a i, File (f (b i)) (d i))

pub shown_stored : (o : Option Node) (l : ℕ) (m : Metadata) (old : List ℕ) (r : List ℕ) → option_map shown_node o ≡ Some (l, File m old) → option_map shown_node (option_map (with_content (with_bytes r)) o) ≡ Some (l, File m r)
shown_stored None l m old r e = cc
shown_stored (Some node) l m old r e = stored_content l node.label m node.metadata node.content old r e

pub shown_marked : (f : Metadata → Metadata) (o : Option Node) (l : ℕ) (m : Metadata) (bytes : List ℕ) → option_map shown_node o ≡ Some (l, File m bytes) → option_map shown_node (option_map (with_metadata f) o) ≡ Some (l, File (f m) bytes)
shown_marked f None l m bytes e = cc
shown_marked f (Some node) l m bytes e = marked_content f l node.label m node.metadata node.content bytes e

pub stored_bytes : (o : Option Node) (l : ℕ) (m : Metadata) (old : List ℕ) → option_map shown_node o ≡ Some (l, File m old) → (option_map_or (λ (node : Node). bytes_in node.content) o []) ≡ old
stored_bytes None l m old e = cc
stored_bytes (Some node) l m old e = content_bytes l node.label m node.metadata node.content old e

-- a file in a store: its inode, its label, its metadata and its bytes
pub record ShownFile (s : StoreState) : Type 0 where
  pub node : ℕ
  pub label : ℕ
  pub metadata : Metadata
  pub bytes : List ℕ
  pub shows : shown_of s.nodes node ≡ Some (label, File metadata bytes)

-- attributes other than the size are set
pub record SetsParts (s new : StoreState) (node : ℕ) : Type 0 where
  pub moment : ℕ
  pub attrs : Attrs
  pub no_size : attrs.size ≡ None
  pub set : new ≡ edited (with_metadata (λ m. with_parts m attrs)) s node

pub set_plain : (s new : StoreState) (t : Tree) (node : ℕ) (it : Node) → Keeps s t → node_in s.nodes node ≡ Some it → (p : SetsParts s new node)
    → IsCarriedOut new t (sets p.moment it.label p.attrs (object_in it.metadata it.content)) (reply.Status Success)
set_plain s new t node it h at p =
    subst (λ (x : StoreState). IsCarriedOut x t (sets p.moment it.label p.attrs (object_in it.metadata it.content)) (reply.Status Success)) (sym p.set)
    (subst (λ (a : Outcome). IsCarriedOut (edited (with_metadata (λ m. with_parts m p.attrs)) s node) t a (reply.Status Success)) (sym (sets_plain p.moment it.label p.attrs it.metadata it.content p.no_size))
    (record { told = refl; tree = keeps_metadata (λ m. with_parts m p.attrs) s t node it h at }))

-- A file's size is set, then its modification time, and then its other attributes: with the stores
-- between.
pub record CutsFile (s new : StoreState) (node : ℕ) : Type 0 where
  pub moment : ℕ
  pub size : ℕ
  pub attrs : Attrs
  pub first : StoreState
  pub second : StoreState
  pub some : attrs.size ≡ Some size
  pub fits : nat_lt MAX_FILE_SIZE size ≡ false
  pub cut : first ≡ bytes_set s node (resized (bytes_of s.nodes node) size)
  pub marked : second ≡ edited (with_metadata (modified_at moment)) first node
  pub set : new ≡ edited (with_metadata (λ k. with_parts k attrs)) second node

set_cut : (s new : StoreState) (t : Tree) (f : ShownFile s) → Keeps s t → (c : CutsFile s new f.node) → IsCarriedOut new t (sets c.moment f.label c.attrs (File f.metadata f.bytes)) (reply.Status Success)
set_cut s new t f h c =
    let id = f.node in
    let label = f.label in
    let m = f.metadata in
    let bytes = resized (bytes_of s.nodes id) c.size in
    let is_cut : bytes ≡ resized f.bytes c.size = ap (λ (b : List ℕ). resized b c.size) (stored_bytes (node_in s.nodes id) label m f.bytes f.shows) in
    let one = changed t (SetObject label (File m bytes)) in
    let keeps_one : Keeps c.first one = subst (λ (x : StoreState). Keeps x one) (sym c.cut) (keeps_contents (complete bytes) s t id label m f.bytes h f.shows) in
    let shows_one : shown_of c.first.nodes id ≡ Some (label, File m bytes) =
    ap (λ (x : StoreState). shown_of x.nodes id) c.cut ∙ ap (option_map shown_node) (edited_itself (with_content (with_bytes bytes)) s id)
    ∙ shown_stored (node_in s.nodes id) label m f.bytes bytes f.shows in
    let two = changed one (SetObject label (File (modified_at c.moment m) bytes)) in
    let keeps_two : Keeps c.second two = subst (λ (x : StoreState). Keeps x two) (sym c.marked) (keeps_file (modified_at c.moment) c.first one id label m bytes keeps_one shows_one) in
    let shows_two : shown_of c.second.nodes id ≡ Some (label, File (modified_at c.moment m) bytes) =
    ap (λ (x : StoreState). shown_of x.nodes id) c.marked ∙ ap (option_map shown_node) (edited_itself (with_metadata (modified_at c.moment)) c.first id) ∙ shown_marked (modified_at c.moment) (node_in c.first.nodes id) label m bytes shows_one in
    let last : Object = File (with_parts (modified_at c.moment m) c.attrs) bytes in
    let keeps_new : Keeps new (changed two (SetObject label last)) =
    subst (λ (x : StoreState). Keeps x (changed two (SetObject label last))) (sym c.set) (keeps_file (λ k. with_parts k c.attrs) c.second two id label (modified_at c.moment m) bytes keeps_two shows_two) in
    let folded : changed two (SetObject label last) ≡ changed t (SetObject label last) = object_again one label (File (modified_at c.moment m) bytes) last ∙ object_again t label (File m bytes) last in
    subst (λ (a : Outcome). IsCarriedOut new t a (reply.Status Success)) (sym (sets_cut c.moment label c.attrs m f.bytes c.size c.some c.fits))
    (record { told = refl; tree = subst (λ (b : List ℕ). Keeps new (changed t (SetObject label (File (with_parts (modified_at c.moment m) c.attrs) b)))) is_cut (subst (λ (u : Tree). Keeps new u) folded keeps_new) })

-- an inode that is no directory is a file
file_object : (m : Metadata) (c : Content) → is_directory_content c ≡ false → (bytes : List ℕ) × (object_in m c ≡ File m bytes)
file_object m (content.Directory es) d = cc
file_object m (content.File contents) d = (contents.bytes, refl)

pub set_sized : (s new : StoreState) (t : Tree) (node : ℕ) (it : Node) → Keeps s t → node_in s.nodes node ≡ Some it → is_directory_at s.nodes node ≡ false → (c : CutsFile s new node)
    → IsCarriedOut new t (sets c.moment it.label c.attrs (object_in it.metadata it.content)) (reply.Status Success)
set_sized s new t node it h at d c =
    let file = file_object it.metadata it.content (sym (ap (λ (o : Option Node). option_map_or (λ (x : Node). is_directory_content x.content) o false) at) ∙ d) in
    let shows : shown_of s.nodes node ≡ Some (it.label, File it.metadata file.0) = ap (option_map shown_node) at ∙ ap (λ (o : Object). Some (shown_as it.label o)) file.1 in
    subst (λ (o : Object). IsCarriedOut new t (sets c.moment it.label c.attrs o) (reply.Status Success)) (sym file.1)
    (set_cut s new t (record { node = node; label = it.label; metadata = it.metadata; bytes = file.0; shows = shows }) h c)
