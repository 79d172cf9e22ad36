-- Reading and writing a file's bytes.
use Rattle.std.specs.Prelude.{if◌then◌else◌, ◌≡◌, ◌↔◌, IsTrue, ℕ, ◌+◌, nat_lt, Bool, true, false, not, List, [], ◌∷◌, length, option_map, Option, Some, None, refl}
use Rattle.std.specs.Option.{option_map_or}
use Rattle.std.proofs.Common.{sym, ap, subst, ◌∙◌}
use Rattle.sf_reply.specs.declared.reply.Reply.TheVariants as reply
use Rattle.sf_reply.specs.declared.reply.StatusCode.TheVariants.{Success, PermissionDenied, Failure}
use Rattle.sf_call.specs.declared.handle.Handle.{Handle}
use Rattle.sf_call.specs.declared.metadata.Metadata.{Metadata}
use Rattle.sf_call.specs.declared.limits.TheConstants.{MAX_FILE_SIZE}
use Rattle.sf_call.specs.Attributes.{Object, modified_at}
use Rattle.sf_call.specs.Attributes.Object.{Directory, File}
use Rattle.sf_block.specs.Contents.{written}
use Rattle.sf_call.specs.Tree.{Tree, is_nil}
use Rattle.sf_call.specs.Handles.{opened}
use Rattle.sf_call.specs.Changes.{changed}
use Rattle.sf_call.specs.Changes.Change.{SetObject}
use Rattle.sf_call.specs.Calls.{Outcome, refuses, succeeds, write, start_of}
use Rattle.sf_inode.specs.declared.node.Node.{Node}
use Rattle.sf_inode.specs.declared.node.Content.{Content}
use Rattle.sf_inode.specs.declared.node.Content.TheVariants as content
use Rattle.sf_inode.specs.declared.handle.OpenHandle.{OpenHandle}
use Rattle.sf_inode.specs.Nodes.{object_in, bytes_in, with_bytes, with_content, is_file_content}
use Rattle.sf_inode.specs.Stores.{StoreState, node_in, bytes_of, bytes_set, file_size, is_file_at, shown_of, shown_node, shown_handle}
use Rattle.sf_keeps.specs.Keeps.{Keeps}
use Rattle.sf_keeps.proofs.Laws.{edited_itself}
use Rattle.sf_walk.specs.Served.{IsCarriedOut, is_success}
use Rattle.sf_walk.proofs.ReplyOnly.{tells_served}
use Rattle.sf_walk.proofs.SetNodes.{shown_stored}
use Rattle.sf_walk.proofs.OpenHandles.{IsOpen, file_is}

no_file : (f : Option (Handle × Object) → Outcome) → ((handle : Handle) (m : Metadata) → f (Some (handle, Directory m)) ≡ refuses Failure) → (handle : Handle) (m : Metadata) (c : Content) → is_file_content c ≡ false
    → f (Some (handle, object_in m c)) ≡ refuses Failure
no_file f law handle m (content.Directory es) e = law handle m
no_file f law handle m (content.File contents) e = cc

write_denied : (moment offset : ℕ) (bytes : List ℕ) (handle : Handle) (m : Metadata) (contents : List ℕ) → handle.write ≡ false → write moment offset bytes (Some (handle, File m contents)) ≡ refuses PermissionDenied
write_denied moment offset bytes handle m contents w =
    let ok = succeeds (SetObject handle.label (File (modified_at moment m) (written contents (start_of handle contents offset) bytes)) ∷ []) in
    λ i. if not (w i) then refuses PermissionDenied else if is_nil bytes then succeeds [] else if nat_lt MAX_FILE_SIZE (start_of handle contents offset + length bytes) then refuses Failure else ok

write_nothing : (moment offset : ℕ) (bytes : List ℕ) (handle : Handle) (m : Metadata) (contents : List ℕ) → handle.write ≡ true → bytes ≡ [] → write moment offset bytes (Some (handle, File m contents)) ≡ succeeds []
write_nothing moment offset bytes handle m contents w none =
    (λ i. write moment offset (none i) (Some (handle, File m contents))) ∙ (λ i. if not (w i) then refuses PermissionDenied else succeeds [])

-- a handle that may write, at least one byte to write by it, and the offset in the contents
record WriteStart (handle : Handle) (contents bytes : List ℕ) : Type 0 where
  offset : ℕ
  start : ℕ
  marked : handle.write ≡ true
  some : is_nil bytes ≡ false
  from : start_of handle contents offset ≡ start

write_past : (moment : ℕ) (handle : Handle) (m : Metadata) (contents bytes : List ℕ) (w : WriteStart handle contents bytes) → nat_lt MAX_FILE_SIZE (w.start + length bytes) ≡ true
    → write moment w.offset bytes (Some (handle, File m contents)) ≡ refuses Failure
write_past moment handle m contents bytes w past =
    let ok = succeeds (SetObject handle.label (File (modified_at moment m) (written contents (start_of handle contents w.offset) bytes)) ∷ []) in
    let limit : Bool = nat_lt MAX_FILE_SIZE (start_of handle contents w.offset + length bytes) in
    (λ i. if not (w.marked i) then refuses PermissionDenied else if is_nil bytes then succeeds [] else if limit then refuses Failure else ok)
    ∙ (λ i. if w.some i then succeeds [] else if limit then refuses Failure else ok)
    ∙ (λ i. if nat_lt MAX_FILE_SIZE (w.from i + length bytes) then refuses Failure else ok)
    ∙ (λ i. if past i then refuses Failure else ok)

write_within : (moment : ℕ) (handle : Handle) (m : Metadata) (contents bytes : List ℕ) (w : WriteStart handle contents bytes) → nat_lt MAX_FILE_SIZE (w.start + length bytes) ≡ false
    → write moment w.offset bytes (Some (handle, File m contents)) ≡ succeeds (SetObject handle.label (File (modified_at moment m) (written contents w.start bytes)) ∷ [])
write_within moment handle m contents bytes w past =
    let ok = λ (k : ℕ). succeeds (SetObject handle.label (File (modified_at moment m) (written contents k bytes)) ∷ []) in
    let from = start_of handle contents w.offset in
    (λ i. if not (w.marked i) then refuses PermissionDenied else if is_nil bytes then succeeds [] else if nat_lt MAX_FILE_SIZE (from + length bytes) then refuses Failure else ok from)
    ∙ (λ i. if w.some i then succeeds [] else if nat_lt MAX_FILE_SIZE (from + length bytes) then refuses Failure else ok from)
    ∙ (λ i. if nat_lt MAX_FILE_SIZE (w.from i + length bytes) then refuses Failure else ok (w.from i))
    ∙ (λ i. if past i then refuses Failure else ok w.start)

pub some_bytes : (b : Bool) (bytes : List ℕ) → (IsTrue b ↔ (bytes ≡ [])) → b ≡ false → is_nil bytes ≡ false
some_bytes b [] h e = let t : b ≡ true = h.1 refl in cc
some_bytes b (x ∷ xs) h e = refl

-- ---- sizes
pub size_is : (nodes : List (Option Node)) (id size : ℕ) → Some size ≡ file_size nodes id → (is_file_at nodes id ≡ true) × (size ≡ length (bytes_of nodes id))
size_is nodes id size e =
    elim (is_file_at nodes id) as (λ b. is_file_at nodes id ≡ b → Some size ≡ (if b then Some (length (bytes_of nodes id)) else None) → (is_file_at nodes id ≡ true) × (size ≡ length (bytes_of nodes id))) [
      | true ↦ λ f q. (f, (let w : size ≡ length (bytes_of nodes id) = cc in w))
      | false ↦ λ f q. cc
    ] refl e

no_size : (nodes : List (Option Node)) (id : ℕ) → None ≡ file_size nodes id → is_file_at nodes id ≡ false
no_size nodes id e =
    elim (is_file_at nodes id) as (λ b. is_file_at nodes id ≡ b → None ≡ (if b then Some (length (bytes_of nodes id)) else None) → is_file_at nodes id ≡ false) [
      | true ↦ λ f q. cc
      | false ↦ λ f q. f
    ] refl e

-- the object of a file, and its open handle
abbrev pub IsOpenFile : List (Option Node) → ℕ → ℕ → Handle → Option (Handle × Object) → Type 0
IsOpenFile nodes id label handle o = (m : Metadata) × ((shown_of nodes id ≡ Some (label, File m (bytes_of nodes id))) × (o ≡ Some (handle, File m (bytes_of nodes id))))

file_object : (m : Metadata) (c : Content) → is_file_content c ≡ true → object_in m c ≡ File m (bytes_in c)
file_object m (content.Directory es) f = cc
file_object m (content.File contents) f = refl

file_content : (nodes : List (Option Node)) (id : ℕ) (handle : Handle) (o : Option (Handle × Object)) (it : Node) → node_in nodes id ≡ Some it → o ≡ Some (handle, object_in it.metadata it.content) → is_file_content it.content ≡ true
    → IsOpenFile nodes id it.label handle o
file_content nodes id handle o it at is f =
    let m = it.metadata in
    let bytes : bytes_of nodes id ≡ bytes_in it.content = ap (λ (x : Option Node). option_map_or (λ (node : Node). bytes_in node.content) x []) at in
    let object : object_in m it.content ≡ File m (bytes_of nodes id) = file_object m it.content f ∙ ap (File m) (sym bytes) in
    (m, (ap (option_map shown_node) at ∙ (λ i. Some (it.label, object i)), is ∙ (λ i. Some (handle, object i))))

-- ---- READ and WRITE
module _ (s : StoreState) (t : Tree) (session number : ℕ) (h : OpenHandle) (o : IsOpen s t session number h) where
  open_file : is_file_at s.nodes h.node ≡ true → IsOpenFile s.nodes h.node h.label (shown_handle session h) (opened t session number)
  open_file f = subst (λ (l : ℕ). IsOpenFile s.nodes h.node l (shown_handle session h) (opened t session number)) o.label
      (file_content s.nodes h.node (shown_handle session h) (opened t session number) o.node o.there o.opens (sym (file_is s t session number h o) ∙ f))

  no_file_open : (f : Option (Handle × Object) → Outcome) → ((handle : Handle) (m : Metadata) → f (Some (handle, Directory m)) ≡ refuses Failure) → is_file_at s.nodes h.node ≡ false → f (opened t session number) ≡ refuses Failure
  no_file_open f law none = ap f o.opens ∙ no_file f law (shown_handle session h) o.node.metadata o.node.content (sym (file_is s t session number h o) ∙ none)

  pub refused_served : (f : Option (Handle × Object) → Outcome) → ((handle : Handle) (m : Metadata) → f (Some (handle, Directory m)) ≡ refuses Failure) → None ≡ file_size s.nodes h.node → IsCarriedOut s t (f (opened t session number)) (reply.Status Failure)
  refused_served f law none = tells_served s t (f (opened t session number)) (reply.Status Failure) (no_file_open f law (no_size s.nodes h.node none)) o.keeps

  pub write_unmarked : (moment offset size : ℕ) (bytes : List ℕ) → Some size ≡ file_size s.nodes h.node → h.marks.write ≡ false → IsCarriedOut s t (write moment offset bytes (opened t session number)) (reply.Status PermissionDenied)
  write_unmarked moment offset size bytes e w =
      let f = open_file (size_is s.nodes h.node size e).0 in
      tells_served s t (write moment offset bytes (opened t session number)) (reply.Status PermissionDenied)
      (ap (write moment offset bytes) f.1.1 ∙ write_denied moment offset bytes (shown_handle session h) f.0 (bytes_of s.nodes h.node) w) o.keeps

  pub write_none : (moment offset size : ℕ) (bytes : List ℕ) → Some size ≡ file_size s.nodes h.node → h.marks.write ≡ true → bytes ≡ [] → IsCarriedOut s t (write moment offset bytes (opened t session number)) (reply.Status Success)
  write_none moment offset size bytes e w none =
      let f = open_file (size_is s.nodes h.node size e).0 in
      tells_served s t (write moment offset bytes (opened t session number)) (reply.Status Success)
      (ap (write moment offset bytes) f.1.1 ∙ write_nothing moment offset bytes (shown_handle session h) f.0 (bytes_of s.nodes h.node) w none) o.keeps

  module _ (offset start size : ℕ) (bytes : List ℕ) (e : Some size ≡ file_size s.nodes h.node) (marked : h.marks.write ≡ true) (some : is_nil bytes ≡ false) (from : start ≡ (if h.marks.append then size else offset)) where
    starts : start_of (shown_handle session h) (bytes_of s.nodes h.node) offset ≡ start
    starts = sym (from ∙ ap (λ k. if h.marks.append then k else offset) (size_is s.nodes h.node size e).1)

    abbrev begins : WriteStart (shown_handle session h) (bytes_of s.nodes h.node) bytes
    begins = record { offset = offset; start = start; marked = marked; some = some; from = starts }

    pub write_refused : (moment : ℕ) → true ≡ nat_lt MAX_FILE_SIZE (start + length bytes) → IsCarriedOut s t (write moment offset bytes (opened t session number)) (reply.Status Failure)
    write_refused moment past =
        let f = open_file (size_is s.nodes h.node size e).0 in
        tells_served s t (write moment offset bytes (opened t session number)) (reply.Status Failure)
        (ap (write moment offset bytes) f.1.1 ∙ write_past moment (shown_handle session h) f.0 (bytes_of s.nodes h.node) bytes begins (sym past)) o.keeps

    pub write_wants : (moment : ℕ) → false ≡ nat_lt MAX_FILE_SIZE (start + length bytes) → is_success (write moment offset bytes (opened t session number)).reply ≡ true
    write_wants moment past =
        let f = open_file (size_is s.nodes h.node size e).0 in
        ap (λ (a : Outcome). is_success a.reply)
        (ap (write moment offset bytes) f.1.1 ∙ write_within moment (shown_handle session h) f.0 (bytes_of s.nodes h.node) bytes begins (sym past))

    pub write_served : (new : StoreState) (moment : ℕ) → false ≡ nat_lt MAX_FILE_SIZE (start + length bytes)
        → ((u : Tree) (label : ℕ) (m : Metadata) (contents : List ℕ) → Keeps s u → shown_of s.nodes h.node ≡ Some (label, File m contents) → Keeps new (changed u (SetObject label (File (modified_at moment m) (written contents start bytes)))))
        → IsCarriedOut new t (write moment offset bytes (opened t session number)) (reply.Status Success)
    write_served new moment past law =
        let f = open_file (size_is s.nodes h.node size e).0 in
        subst (λ (a : Outcome). IsCarriedOut new t a (reply.Status Success))
        (sym (ap (write moment offset bytes) f.1.1 ∙ write_within moment (shown_handle session h) f.0 (bytes_of s.nodes h.node) bytes begins (sym past)))
        (record { told = refl; tree = law t h.label f.0 (bytes_of s.nodes h.node) o.keeps f.1.0 })

-- ---- bytes are written into a file
shows_bytes : (s new : StoreState) (id label : ℕ) (m : Metadata) (old bytes : List ℕ) → shown_of s.nodes id ≡ Some (label, File m old) → new ≡ bytes_set s id bytes → shown_of new.nodes id ≡ Some (label, File m bytes)
shows_bytes s new id label m old bytes shows state =
    ap (λ (x : StoreState). shown_of x.nodes id) state ∙ ap (option_map shown_node) (edited_itself (with_content (with_bytes bytes)) s id) ∙ shown_stored (node_in s.nodes id) label m old bytes shows
