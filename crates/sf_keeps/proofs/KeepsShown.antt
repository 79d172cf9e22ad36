-- The object of a slot, and what a store represents after it was changed.
use Rattle.std.specs.Prelude.{◌≡◌, ℕ, Bool, true, false, List, [], ◌∷◌, Option, Some, refl}
use Rattle.std.specs.Option.{option_map_or}
use Rattle.std.proofs.Common.{ap, subst, ◌∙◌, inl, inr}
use Rattle.std.proofs.lemmas.Bool.{cases_Bool}
use Rattle.std.specs.Ordering.{nat_cmp}
use Rattle.std.specs.Map.{set_value}
use Rattle.std.specs.BTreeMap.{is_at}
use Rattle.sf_call.specs.declared.metadata.Metadata.{Metadata}
use Rattle.sf_call.specs.Attributes.{Object}
use Rattle.sf_call.specs.Attributes.Object.{Directory, File}
use Rattle.sf_call.specs.Tree.{Tree}
use Rattle.sf_call.specs.Changes.{changed}
use Rattle.sf_call.specs.Changes.Change.{SetObject}
use Rattle.sf_inode.specs.declared.node.Node.{Node}
use Rattle.sf_inode.specs.declared.node.Content.{Content}
use Rattle.sf_inode.specs.declared.node.Content.TheVariants as content
use Rattle.sf_block.specs.Contents.{FileBytes}
use Rattle.sf_inode.specs.Nodes.{object_in, is_directory_content, is_file_content, bytes_in, with_metadata}
use Rattle.sf_inode.specs.Stores.{StoreState, node_in, shown_of, edited, file_set, bytes_of, is_directory_at, is_file_at}
use Rattle.sf_keeps.specs.Keeps.{Keeps}
use Rattle.sf_keeps.proofs.Through.{found_as}
use Rattle.sf_keeps.proofs.KeepsEdited.{keeps_metadata, keeps_bytes}

-- an inode with it exists
pub node_shown : (nodes : List (Option Node)) (id label : ℕ) (o : Object) → shown_of nodes id ≡ Some (label, o) → (node : Node) × (node_in nodes id ≡ Some node) × (node.label ≡ label) × (object_in node.metadata node.content ≡ o)
node_shown nodes id label o e =
    let w = found_as (node_in nodes id) e in (w.0, w.1, ap (λ (z : ℕ × Object). z.0) w.2, ap (λ (z : ℕ × Object). z.1) w.2)

directory_content : (k m : Metadata) (c : Content) → object_in k c ≡ Directory m → (k ≡ m) × (is_directory_content c ≡ true)
directory_content k m (content.Directory es) e = (cc, refl)
directory_content k m (content.File contents) e = absurd (cc)

file_content : (k m : Metadata) (bytes : List ℕ) (c : Content) → object_in k c ≡ File m bytes → (k ≡ m) × (is_file_content c ≡ true) × ((bytes_in c) ≡ bytes)
file_content k m bytes (content.Directory es) e = absurd (cc)
file_content k m bytes (content.File contents) e = (cc, refl, cc)

pub directory_shown : (nodes : List (Option Node)) (id label : ℕ) (m : Metadata) → shown_of nodes id ≡ Some (label, Directory m) → is_directory_at nodes id ≡ true
directory_shown nodes id label m e =
    let w = node_shown nodes id label (Directory m) e in
    ap (λ (o : Option Node). option_map_or (λ (it : Node). is_directory_content it.content) o false) w.1 ∙ (directory_content w.0.metadata m w.0.content w.3).1

pub file_shown : (nodes : List (Option Node)) (id label : ℕ) (m : Metadata) (bytes : List ℕ) → shown_of nodes id ≡ Some (label, File m bytes) → (is_file_at nodes id ≡ true) × ((bytes_of nodes id) ≡ bytes)
file_shown nodes id label m bytes e =
    let w = node_shown nodes id label (File m bytes) e in
    let f = file_content w.0.metadata m bytes w.0.content w.3 in (
      ap (λ (o : Option Node). option_map_or (λ (it : Node). is_file_content it.content) o false) w.1 ∙ f.1,
      ap (λ (o : Option Node). (option_map_or (λ (it : Node). bytes_in it.content) o [])) w.1 ∙ f.2,
    )

-- ---- changed metadata or contents
other_directory : (f : Metadata → Metadata) (k m : Metadata) (c : Content) → object_in k c ≡ Directory m → object_in (f k) c ≡ Directory (f m)
other_directory f k m (content.Directory es) e = ap (λ (x : Metadata). Directory (f x)) (directory_content k m (content.Directory es) e).0
other_directory f k m (content.File contents) e = absurd (cc)

other_file : (f : Metadata → Metadata) (k m : Metadata) (bytes : List ℕ) (c : Content) → object_in k c ≡ File m bytes → object_in (f k) c ≡ File (f m) bytes
other_file f k m bytes (content.Directory es) e = absurd (cc)
other_file f k m bytes (content.File contents) e = let w = file_content k m bytes (content.File contents) e in λ i. File (f (w.0 i)) (w.2 i)

pub keeps_directory : (f : Metadata → Metadata) (s : StoreState) (t : Tree) (id label : ℕ) (m : Metadata) → Keeps s t → shown_of s.nodes id ≡ Some (label, Directory m)
    → Keeps (edited (with_metadata f) s id) (changed t (SetObject label (Directory (f m))))
keeps_directory f s t id label m k e =
    let w = node_shown s.nodes id label (Directory m) e in
    subst (λ (v : ℕ × Object). Keeps (edited (with_metadata f) s id) (changed t (SetObject v.0 v.1))) (λ i. (w.2 i, other_directory f w.0.metadata m w.0.content w.3 i))
    (keeps_metadata f s t id w.0 k w.1)

pub keeps_file : (f : Metadata → Metadata) (s : StoreState) (t : Tree) (id label : ℕ) (m : Metadata) (bytes : List ℕ) → Keeps s t → shown_of s.nodes id ≡ Some (label, File m bytes)
    → Keeps (edited (with_metadata f) s id) (changed t (SetObject label (File (f m) bytes)))
keeps_file f s t id label m bytes k e =
    let w = node_shown s.nodes id label (File m bytes) e in
    subst (λ (v : ℕ × Object). Keeps (edited (with_metadata f) s id) (changed t (SetObject v.0 v.1))) (λ i. (w.2 i, other_file f w.0.metadata m bytes w.0.content w.3 i))
    (keeps_metadata f s t id w.0 k w.1)

pub keeps_contents : (new : FileBytes) (s : StoreState) (t : Tree) (id label : ℕ) (m : Metadata) (old : List ℕ) → Keeps s t → shown_of s.nodes id ≡ Some (label, File m old)
    → Keeps (file_set s id new) (changed t (SetObject label (File m new.bytes)))
keeps_contents new s t id label m old k e =
    let w = node_shown s.nodes id label (File m old) e in
    subst (λ (v : ℕ × Metadata). Keeps (file_set s id new) (changed t (SetObject v.0 (File v.1 new.bytes)))) (λ i. (w.2 i, (file_content w.0.metadata m old w.0.content w.3).0 i))
    (keeps_bytes new s t id w.0 k w.1 (file_shown s.nodes id label m old e).0)

-- ---- objects set twice
set_again : {K X : Type 0} (test : K → Bool) (es : List (K × X)) (v w : X) → set_value test (set_value test es v) w ≡ set_value test es w
set_again test [] v w = refl
set_again test (e ∷ es) v w = elim (cases_Bool (test e.0)) [ inl f ↦ simp f | inr f ↦ simp f (ap (λ rest. e ∷ rest) (set_again test es v w)) ]

pub object_again : (t : Tree) (label : ℕ) (o u : Object) → changed (changed t (SetObject label o)) (SetObject label u) ≡ changed t (SetObject label u)
object_again t label o u = ap (λ (objects : List (ℕ × Object)). record t { objects = objects }) (set_again (is_at (nat_cmp label)) t.objects o u)
