-- The effect of opening on the tree.
use Rattle.std.specs.Prelude.{◌≡◌, ◌≢◌, ℕ, nat_eq, ◌+◌, ◌-◌, ◌^◌, ◌<◌, min, Bool, true, false, cond, not, ◌&&◌, List, [], ◌∷◌, ◌++◌, option_map, Option, Some, None, Result, OnErr, refl}
use Rattle.std.specs.Option.{option_map_or}
use Rattle.std.proofs.Common.{sym, ap, subst, ◌∙◌, eqb-true}
use Rattle.sf_path.specs.Names.{Name, Path}
use Rattle.sf_path.specs.Order.{parent}
use Rattle.sf_field.specs.declared.attrs.Attrs.{Attrs}
use Rattle.sf_field.specs.declared.open_flags.OpenFlags.{OpenFlags}
use Rattle.sf_reply.specs.declared.reply.Reply.{Reply}
use Rattle.sf_reply.specs.declared.reply.Reply.TheVariants as reply
use Rattle.sf_reply.specs.declared.reply.StatusCode.{StatusCode}
use Rattle.sf_reply.specs.declared.reply.StatusCode.TheVariants.{NoSuchFile, Failure}
use Rattle.sf_call.specs.declared.metadata.Metadata.{Metadata}
use Rattle.sf_call.specs.declared.metadata.FileType.TheVariants as file_type
use Rattle.sf_call.specs.declared.lookup.Lookup.{Lookup}
use Rattle.sf_call.specs.declared.lookup.Lookup.TheVariants.{Absent}
use Rattle.sf_call.specs.Attributes.{Object, new_metadata, modified_at}
use Rattle.sf_call.specs.Attributes.Object.{Directory, File}
use Rattle.sf_call.specs.Tree.{Tree, object_of, look_up, found_at, found_place}
use Rattle.sf_call.specs.Changes.{changed, done, touched}
use Rattle.sf_call.specs.Changes.Change.{SetObject, NewPath, OpenHandle}
use Rattle.sf_call.specs.Calls.{Outcome, refuses, opens, has_all_handles, directory_handle, new_file_handle, open_directory, open_present, open_file, unless_root}
use Rattle.sf_inode.specs.declared.node.Node.{Node}
use Rattle.sf_inode.specs.declared.node.NewNode.{NewNode}
use Rattle.sf_inode.specs.declared.node.Content.{Content}
use Rattle.sf_inode.specs.declared.node.Content.TheVariants as content
use Rattle.sf_inode.specs.declared.handle.OpenHandle as open_handle
use Rattle.sf_inode.specs.declared.handle.Marks.{Marks}
use Rattle.sf_block.specs.Contents.{complete}
use Rattle.sf_inode.specs.Nodes.{object_in, bytes_in, new_node, is_directory_content, with_opened, with_metadata, with_content, with_bytes}
use Rattle.sf_keeps.specs.Steps.{walk}
use Rattle.sf_inode.specs.Stores.{new_entry, StoreState, node_in, child_of, is_directory_at, shown_node, shown_of, edited, bytes_set, handle_put, new_handle, after_open_node, after_open}
use Rattle.sf_keeps.specs.Keeps.{Keeps}
use Rattle.sf_keeps.proofs.Laws.{keeps_opened, keeps_inserted, keeps_contents, keeps_file, object_again, inserted_alike}
use Rattle.sf_walk.specs.Ways.{missing, way_from, last_name_of, found_node}
use Rattle.sf_walk.specs.declared.finding.Located.{Located}
use Rattle.sf_walk.specs.declared.finding.Located.TheVariants as located
use Rattle.sf_walk.specs.Opening.{ToOpen, marks_of, OpenedNew, to_open}
use Rattle.sf_walk.specs.Served.{IsCarriedOut, ServesOutcome, IsAlike, LookedUp, KeepsRest, IsUnused, is_success}
use Rattle.sf_walk.proofs.Holders.{put_nodes, new_left, stays_inserted, stays_opened}
use Rattle.sf_walk.proofs.LookUps.{looked_nodes}
use Rattle.sf_walk.proofs.Fits.{no_way, name_missing, node_at}
use Rattle.sf_walk.proofs.Undone.{edited_node, edited_itself}
use Rattle.sf_walk.proofs.Looked.{keeps_counted, way_looked, alike_after}
use Rattle.sf_walk.proofs.LastNames.{last_is}
use Rattle.sf_walk.proofs.ReplyOnly.{tells_served, past_root, past_root_gives, on_err_map}
use Rattle.sf_walk.proofs.SetNodes.{ShownFile}
use Rattle.sf_walk.proofs.Parents.{shown_directory, touches}
use Rattle.sf_walk.proofs.PathCalls.{node_located}

-- ---- the objects of inodes
shown_edited : (f : Node → Node) → ((node : Node) → shown_node (f node) ≡ shown_node node) → (s : StoreState) (id i : ℕ) → shown_of (edited f s id).nodes i ≡ shown_of s.nodes i
shown_edited f same s id i =
    ap (option_map shown_node) (edited_node f s id i)
    ∙ elim (nat_eq id i) as (λ b. nat_eq id i ≡ b → option_map shown_node (cond b (option_map f (node_in s.nodes id)) (node_in s.nodes i)) ≡ shown_of s.nodes i) [
      | true ↦ λ e. elim (node_in s.nodes id) as (λ o. option_map shown_node (option_map f o) ≡ option_map shown_node o) [ None ↦ refl | Some n ↦ ap Some (same n) ] ∙ ap (shown_of s.nodes) (eqb-true id i e)
      | false ↦ λ e. refl
    ] refl

-- an inode's object doesn't show its open handles
pub shown_opened : (s : StoreState) (session number id : ℕ) (marks : Marks) (i : ℕ) → shown_of (after_open s session number id marks).nodes i ≡ shown_of s.nodes i
shown_opened s session number id marks i = elim (node_in s.nodes id) as (λ o. shown_of (option_map_or (λ (node : Node). after_open_node s session number (new_handle id marks node)) o s).nodes i ≡ shown_of s.nodes i) [
  | None ↦ refl
  | Some n ↦
      let handle : open_handle.OpenHandle = record { node = id; label = n.label; marks = marks; listed = None } in
      shown_edited (λ it. with_opened (min (it.opens + 1) (2 ^ 64 - 1)) it) (λ node. refl) (handle_put s session number handle) id i
      ∙ ap (λ (ns : List (Option Node)). shown_of ns i) (put_nodes s session number handle)
]

pub kind_there : (nodes : List (Option Node)) (id : ℕ) (it : Node) (b : Bool) → node_in nodes id ≡ Some it → b ≡ is_directory_at nodes id → is_directory_content it.content ≡ b
kind_there nodes id it b at e = sym (e ∙ ap (λ (o : Option Node). option_map_or (λ (node : Node). is_directory_content node.content) o false) at)

abbrev shown_as : ℕ → Object → Option (ℕ × Object)
shown_as l o = Some (l, o)

file_there : (l : ℕ) (m : Metadata) (c : Content) → is_directory_content c ≡ false → shown_as l (object_in m c) ≡ shown_as l (File m (bytes_in c))
file_there l m (content.Directory es) e = cc
file_there l m (content.File contents) e = refl

-- ---- OPENDIR
module _ (t : Tree) (session number : ℕ) where
  listing_opens : (l : ℕ) (m : Metadata) (c : Content) → is_directory_content c ≡ true → has_all_handles t session ≡ false → open_directory t session number (Some (l, object_in m c)) ≡ opens number (directory_handle session l) []
  listing_opens l m (content.Directory es) d e = ap (λ b. cond b (refuses Failure) (opens number (directory_handle session l) [])) e
  listing_opens l m (content.File contents) d e = cc

  pub listing_wants : (it : Node) → is_directory_content it.content ≡ true → has_all_handles t session ≡ false → is_success (open_directory t session number (found_node it)).reply ≡ true
  listing_wants it d e = ap (λ (a : Outcome). is_success a.reply) (listing_opens it.label it.metadata it.content d e)

  pub listing_served : (s new : StoreState) (it : Node) (id : ℕ) → Keeps s t → IsUnused t number → number < 2 ^ 64 → node_in s.nodes id ≡ Some it → is_directory_content it.content ≡ true → has_all_handles t session ≡ false
      → new ≡ after_open s session number id (record { read = false; write = false; append = false }) → IsCarriedOut new t (open_directory t session number (found_node it)) (reply.Handle number)
  listing_served s new it id k fresh fits at d e state =
      let kept = keeps_opened s t k session number id (record { read = false; write = false; append = false }) it fresh.above fits fresh.handle at in
      subst (λ (a : Outcome). IsCarriedOut new t a (reply.Handle number)) (sym (listing_opens it.label it.metadata it.content d e))
      (record { told = refl; tree = subst (λ (x : StoreState). Keeps x (changed t (OpenHandle number (directory_handle session it.label)))) (sym state) kept })

-- ---- OPEN of an existing inode
module _ (t : Tree) (session number moment : ℕ) (flags : OpenFlags) where
  abbrev opens_file : ℕ → Metadata → Bool → Bool → Outcome
  opens_file l m full cuts = cond full (refuses Failure) (cond cuts (opens number (new_file_handle session l flags) (SetObject l (File (modified_at moment m) []) ∷ [])) (opens number (new_file_handle session l flags) []))

  present_opens : (l : ℕ) (m : Metadata) (c : Content) (cuts : Bool) → is_directory_content c ≡ false → has_all_handles t session ≡ false → (flags.truncate && flags.write) ≡ cuts → open_present t session number moment flags (Some (l, object_in m c)) ≡ opens_file l m false cuts
  present_opens l m (content.Directory es) cuts d e f = cc
  present_opens l m (content.File contents) cuts d e f = (λ i. opens_file l m (e i) (f i))

  pub present_wants : (it : Node) → is_directory_content it.content ≡ false → has_all_handles t session ≡ false → is_success (open_present t session number moment flags (found_node it)).reply ≡ true
  present_wants it d e =
      ap (λ (a : Outcome). is_success a.reply) (present_opens it.label it.metadata it.content (flags.truncate && flags.write) d e refl)
      ∙ elim (flags.truncate && flags.write) as (λ b. is_success (opens_file it.label it.metadata false b).reply ≡ true) [ true ↦ refl | false ↦ refl ]

  pub present_served : (s new : StoreState) (it : Node) (id : ℕ) → Keeps s t → IsUnused t number → number < 2 ^ 64 → node_in s.nodes id ≡ Some it → is_directory_content it.content ≡ false → has_all_handles t session ≡ false
      → (flags.truncate && flags.write) ≡ false → new ≡ after_open s session number id (marks_of flags) → IsCarriedOut new t (open_present t session number moment flags (found_node it)) (reply.Handle number)
  present_served s new it id k fresh fits at d e f state =
      let kept = keeps_opened s t k session number id (marks_of flags) it fresh.above fits fresh.handle at in
      subst (λ (a : Outcome). IsCarriedOut new t a (reply.Handle number)) (sym (present_opens it.label it.metadata it.content false d e f))
      (record { told = refl; tree = subst (λ (x : StoreState). Keeps x (changed t (OpenHandle number (new_file_handle session it.label flags)))) (sym state) kept })

  -- the law of truncating a file
  abbrev pub CutsFile : StoreState → StoreState → ℕ → Type 0
  CutsFile mid new id = (u : Tree) (label : ℕ) (m : Metadata) (bytes : List ℕ) → Keeps mid u → shown_of mid.nodes id ≡ Some (label, File m bytes) → Keeps new (changed u (SetObject label (File (modified_at moment m) [])))

  pub present_cut : (s mid new : StoreState) (it : Node) (id : ℕ) → Keeps s t → IsUnused t number → number < 2 ^ 64 → node_in s.nodes id ≡ Some it → is_directory_content it.content ≡ false → has_all_handles t session ≡ false
      → (flags.truncate && flags.write) ≡ true → mid ≡ after_open s session number id (marks_of flags) → CutsFile mid new id → IsCarriedOut new t (open_present t session number moment flags (found_node it)) (reply.Handle number)
  present_cut s mid new it id k fresh fits at d e f state cuts =
      let kept : Keeps mid (changed t (OpenHandle number (new_file_handle session it.label flags))) =
      subst (λ (x : StoreState). Keeps x (changed t (OpenHandle number (new_file_handle session it.label flags)))) (sym state) (keeps_opened s t k session number id (marks_of flags) it fresh.above fits fresh.handle at) in
      let shown : shown_of mid.nodes id ≡ Some (it.label, File it.metadata (bytes_in it.content)) =
      ap (λ (x : StoreState). shown_of x.nodes id) state ∙ shown_opened s session number id (marks_of flags) id ∙ ap (option_map shown_node) at ∙ file_there it.label it.metadata it.content d in
      subst (λ (a : Outcome). IsCarriedOut new t a (reply.Handle number)) (sym (present_opens it.label it.metadata it.content true d e f))
      (record { told = refl; tree = cuts (changed t (OpenHandle number (new_file_handle session it.label flags))) it.label it.metadata (bytes_in it.content) kept shown })

-- ---- OPEN of a missing name
module _ (t : Tree) (session number moment : ℕ) (path : Path) (flags : OpenFlags) (attrs : Attrs) where
  abbrev creates : Bool → Bool → Outcome
  creates lacks full = cond lacks (refuses NoSuchFile) (cond full (refuses Failure) (opens number (new_file_handle session number flags) (NewPath path number (File (new_metadata 0o644 moment attrs) []) ∷ touched t moment (parent path))))

  absent_is : (lacks full : Bool) → not flags.create ≡ lacks → has_all_handles t session ≡ full → open_file t session number moment path flags attrs Absent ≡ creates lacks full
  absent_is lacks full c f = λ i. creates (c i) (f i)

  pub absent_wants : not flags.create ≡ false → has_all_handles t session ≡ false → is_success (open_file t session number moment path flags attrs Absent).reply ≡ true
  absent_wants c f = ap (λ (a : Outcome). is_success a.reply) (absent_is false false c f)

  pub absent_served : (s mid new : StoreState) (front : Path) (dir : ℕ) (metadata : Metadata)
      → Keeps s t → IsUnused t number → number < 2 ^ 64 → path ≡ front ++ last_name_of path ∷ [] → walk (child_of s.nodes) s.root front ≡ Some dir → is_directory_at s.nodes dir ≡ true → child_of s.nodes dir (last_name_of path) ≡ None
      → not flags.create ≡ false → has_all_handles t session ≡ false → metadata ≡ new_metadata 0o644 moment attrs
      → OpenedNew s mid (to_open session number dir (last_name_of path) (marks_of flags)) (record { label = number; file_type = file_type.File; metadata = metadata }) → new ≡ edited (with_metadata (modified_at moment)) mid dir
      → IsCarriedOut new t (open_file t session number moment path flags attrs Absent) (reply.Handle number)
  absent_served s mid new front dir metadata k fresh fits is at d none c f asked did state =
      let n = last_name_of path in
      let it : NewNode = record { label = number; file_type = file_type.File; metadata = metadata } in
      let made = changed t (NewPath (front ++ n ∷ []) number (File metadata [])) in
      let put : Keeps did.mid made = keeps_inserted front it k did.inserted at d none fresh.label in
      let opens_it : Keeps (after_open did.mid session number did.id (marks_of flags)) (changed made (OpenHandle number (new_file_handle session number flags))) =
      keeps_opened did.mid made put session number did.id (marks_of flags) (new_node it) fresh.above fits fresh.handle did.inserted.at in
      let other : dir ≢ did.id = λ same. (let w = shown_directory s.nodes dir d in let gone = ap (node_in s.nodes) same ∙ did.inserted.fresh in let nothing = ap (option_map shown_node) gone in let x : ⊥ = cc (w.1.1) in x) in
      let shown : shown_of mid.nodes dir ≡ shown_of s.nodes dir =
      ap (λ (x : StoreState). shown_of x.nodes dir) did.state ∙ shown_opened did.mid session number did.id (marks_of flags) dir ∙ (inserted_alike s did.mid dir n did.id (new_node it) dir did.inserted other).0 in
      let u = changed made (OpenHandle number (new_file_handle session number flags)) in
      let after : Keeps (edited (with_metadata (modified_at moment)) mid dir) (done u (touched t moment (parent (front ++ n ∷ [])))) =
      touches s mid t u (record { above = front; name = n; node = dir; leads = at; directory = d }) moment k (subst (λ (x : StoreState). Keeps x u) (sym did.state) opens_it) shown in
      let complete : Keeps new (done t (OpenHandle number (new_file_handle session number flags) ∷ NewPath path number (File (new_metadata 0o644 moment attrs) []) ∷ touched t moment (parent path))) =
      subst (λ (x : StoreState). Keeps x (done t (OpenHandle number (new_file_handle session number flags) ∷ NewPath path number (File (new_metadata 0o644 moment attrs) []) ∷ touched t moment (parent path)))) (sym state)
      (subst (λ (m : Metadata). Keeps (edited (with_metadata (modified_at moment)) mid dir) (done t (OpenHandle number (new_file_handle session number flags) ∷ NewPath path number (File m []) ∷ touched t moment (parent path)))) asked
      (subst (λ (q : Path). Keeps (edited (with_metadata (modified_at moment)) mid dir) (done t (OpenHandle number (new_file_handle session number flags) ∷ NewPath q number (File metadata []) ∷ touched t moment (parent q)))) (sym is) after)) in
      subst (λ (a : Outcome). IsCarriedOut new t a (reply.Handle number)) (sym (absent_is false false c f)) (record { told = refl; tree = complete })

-- ---- a truncated file
cut_node : (c : Content) (l label : ℕ) (k m : Metadata) (bytes : List ℕ) → shown_as l (object_in k c) ≡ shown_as label (File m bytes)
    → shown_as l (object_in k (with_bytes [] c)) ≡ shown_as label (File m [])
cut_node (content.Directory es) l label k m bytes e =
    let objects : Some (Directory k) ≡ Some (File m bytes) = ap (option_map (λ (v : ℕ × Object). v.1)) e in
    cc
cut_node (content.File contents) l label k m bytes e =
    let labels : Some l ≡ Some label = ap (option_map (λ (v : ℕ × Object). v.0)) e in
    let objects : Some (File k contents.bytes) ≡ Some (File m bytes) = ap (option_map (λ (v : ℕ × Object). v.1)) e in
    let one : l ≡ label = cc in
    let same : k ≡ m = cc in
    λ i. shown_as (one i) (File (same i) [])

cut_shown : (o : Option Node) (label : ℕ) (m : Metadata) (bytes : List ℕ) → option_map shown_node o ≡ Some (label, File m bytes)
    → option_map shown_node (option_map (with_content (with_bytes [])) o) ≡ Some (label, File m [])
cut_shown None label m bytes e = cc
cut_shown (Some node) label m bytes e = cut_node node.content node.label label node.metadata m bytes e

pub cut_served : (s mid new : StoreState) (t : Tree) (f : ShownFile s) (moment : ℕ) → Keeps s t → mid ≡ bytes_set s f.node [] → new ≡ edited (with_metadata (modified_at moment)) mid f.node
    → Keeps new (changed t (SetObject f.label (File (modified_at moment f.metadata) [])))
cut_served s mid new t f moment k is state =
    let id = f.node in
    let label = f.label in
    let m = f.metadata in
    let kept : Keeps mid (changed t (SetObject label (File m []))) = subst (λ (x : StoreState). Keeps x (changed t (SetObject label (File m [])))) (sym is) (keeps_contents (complete []) s t id label m f.bytes k f.shows) in
    let shown : shown_of mid.nodes id ≡ Some (label, File m []) =
    ap (λ (x : StoreState). shown_of x.nodes id) is
    ∙ ap (option_map shown_node) (edited_itself (with_content (with_bytes [])) s id)
    ∙ cut_shown (node_in s.nodes id) label m f.bytes f.shows in
    subst (λ (x : StoreState). Keeps x (changed t (SetObject label (File (modified_at moment m) [])))) (sym state)
    (subst (λ (u : Tree). Keeps (edited (with_metadata (modified_at moment)) mid id) u) (object_again t label (File m []) (File (modified_at moment m) []))
    (keeps_file (modified_at moment) mid (changed t (SetObject label (File m []))) id label m [] kept shown))

-- ---- what opening preserves of holders
pub stays_opened_new : {N : Option ℕ → ℕ → Type 0} (before s new : StoreState) (o : ToOpen) (made : NewNode) → s.nodes ≡ before.nodes → OpenedNew s new o made → N None made.label → KeepsRest N before new
stays_opened_new {N} before s new o made same did is_new =
    subst (KeepsRest N before) (sym did.state) (stays_opened before did.mid o.session o.number did.id o.marks (stays_inserted before s did.mid (new_entry o.dir o.name did.id) (new_node made) same did.inserted is_new (new_left made.file_type)))

pub alike_err : {A E : Type 0} (old mid new : StoreState) (most : ℕ) (r : Result A E) → LookedUp old mid most → OnErr r (new ≡ mid) → OnErr r (IsAlike old new)
alike_err old mid new most r looked = on_err_map r (new ≡ mid) (IsAlike old new) (alike_after old mid new most looked)

-- ---- a directory that lacks a name
way_lacking : (p : Path) (nodes : List (Option Node)) (above x d : ℕ) → way_from nodes above x p ≡ located.Missing d
    → (r : Path) × (n : Name) × (p ≡ r ++ n ∷ []) × (child_of nodes d n ≡ None) × (is_directory_at nodes d ≡ true)
way_lacking [] nodes above x d = λ e. cc
way_lacking (n ∷ p) nodes above x d =
    elim (is_directory_at nodes x) as (λ b. is_directory_at nodes x ≡ b → cond b (option_map_or (λ y. way_from nodes x y p) (child_of nodes x n) (missing x p)) located.NoWay ≡ located.Missing d
    → (r : Path) × (m : Name) × (n ∷ p ≡ r ++ m ∷ []) × (child_of nodes d m ≡ None) × (is_directory_at nodes d ≡ true)) [
      | false ↦ λ q e. cc
      | true ↦ λ q. elim (child_of nodes x n) as (λ o. child_of nodes x n ≡ o → option_map_or (λ y. way_from nodes x y p) o (missing x p) ≡ located.Missing d
          → (r : Path) × (m : Name) × (n ∷ p ≡ r ++ m ∷ []) × (child_of nodes d m ≡ None) × (is_directory_at nodes d ≡ true)) [
            | None ↦ λ f. lacks p f q
            | Some y ↦ λ f e. let w = way_lacking p nodes x y d e in (n ∷ w.0, w.1, ap (λ (rest : Path). n ∷ rest) w.2, w.3, w.4)
          ] refl
    ] refl where
      lacks : (rest : Path) → child_of nodes x n ≡ None → is_directory_at nodes x ≡ true → missing x rest ≡ located.Missing d
          → (r : Path) × (m : Name) × (n ∷ rest ≡ r ++ m ∷ []) × (child_of nodes d m ≡ None) × (is_directory_at nodes d ≡ true)
      lacks [] f q e = let same : x ≡ d = cc in ([], n, refl, ap (λ k. child_of nodes k n) (sym same) ∙ f, ap (is_directory_at nodes) (sym same) ∙ q)
      lacks (m ∷ rest) f q e = cc

-- ---- the located inode
module _ (old mid : StoreState) (t : Tree) (p : Path) (most : ℕ) (looked : LookedUp old mid most) (h : Keeps old t) where
  pub listing_located : (session number : ℕ) (new : StoreState) (above y : ℕ) → {E : Type 0} → (r : Result Reply E) → located.At above y ≡ way_from old.nodes old.root old.root p
      → ((it : Node) → node_in mid.nodes y ≡ Some it → ServesOutcome new t (open_directory t session number (found_node it)) r)
      → ServesOutcome new t (open_directory t session number (found_at t p)) r
  listing_located session number new above y {E} r e served =
      let w = node_located old mid t p most looked h above y e in
      subst (λ (f : Option (ℕ × Object)). ServesOutcome new t (open_directory t session number f) r) (sym w.1.1) (served w.0 w.1.0)

  module _ (session number moment : ℕ) (flags : OpenFlags) (attrs : Attrs) where
    abbrev answer : Lookup → Outcome
    answer place = open_file t session number moment p flags attrs place

    pub open_no_way : (l : Located) (code : StatusCode) → (p ≡ [] → ⊥) → (code ≡ NoSuchFile) × (l ≡ located.NoWay) → l ≡ way_from old.nodes old.root old.root p
        → IsCarriedOut mid t (unless_root p (answer (look_up t p))) (reply.Status code)
    open_no_way l code ne not e =
        let k = keeps_counted old mid t most looked h in
        past_root mid t p (answer (look_up t p)) (reply.Status code) ne
        (tells_served mid t (answer (look_up t p)) (reply.Status code)
        (ap answer (no_way mid t k p (way_looked old mid p most located.NoWay looked (sym not.1 ∙ e))) ∙ ap refuses (sym not.0)) k)

    pub open_missing : (new : StoreState) (d : ℕ) → {E : Type 0} → (r : Result Reply E) → (p ≡ [] → ⊥) → located.Missing d ≡ way_from old.nodes old.root old.root p
        → ((front : Path) → p ≡ front ++ last_name_of p ∷ [] → walk (child_of mid.nodes) mid.root front ≡ Some d → ServesOutcome new t (answer Absent) r)
        → ServesOutcome new t (unless_root p (answer (look_up t p))) r
    open_missing new d {E} r ne e served =
        let k = keeps_counted old mid t most looked h in
        let f = name_missing mid t k p d (way_looked old mid p most (located.Missing d) looked e) in
        let last : last_name_of p ≡ f.1.1 = ap last_name_of f.1.2 ∙ last_is f.1.0 f.1.1 in
        let there : p ≡ f.1.0 ++ last_name_of p ∷ [] = f.1.2 ∙ ap (λ (m : Name). f.1.0 ++ m ∷ []) (sym last) in
        past_root_gives new t p (answer (look_up t p)) r ne (subst (λ (place : Lookup). ServesOutcome new t (answer place) r) (sym f.0) (served f.1.0 there f.1.3))

    pub open_exclusive : (above y : ℕ) → (p ≡ [] → ⊥) → located.At above y ≡ way_from old.nodes old.root old.root p → (flags.create && flags.exclusive) ≡ true → IsCarriedOut mid t (unless_root p (answer (look_up t p))) (reply.Status Failure)
    open_exclusive above y ne e both =
        let k = keeps_counted old mid t most looked h in
        let f = node_at mid t k p above y (way_looked old mid p most (located.At above y) looked e) in
        let at_label = ap answer f.2.2 ∙ ap (λ b. cond b (refuses Failure) (open_present t session number moment flags (option_map (λ (object : Object). (f.2.0.label, object)) (object_of t.objects f.2.0.label)))) both in
        past_root mid t p (answer (look_up t p)) (reply.Status Failure) ne (tells_served mid t (answer (look_up t p)) (reply.Status Failure) at_label k)

    pub open_located : (new : StoreState) (above y : ℕ) → {E : Type 0} → (r : Result Reply E) → (p ≡ [] → ⊥) → located.At above y ≡ way_from old.nodes old.root old.root p → (flags.create && flags.exclusive) ≡ false
        → ((it : Node) → node_in mid.nodes y ≡ Some it → ServesOutcome new t (open_present t session number moment flags (found_node it)) r)
        → ServesOutcome new t (unless_root p (answer (look_up t p))) r
    open_located new above y {E} r ne e both served =
        let k = keeps_counted old mid t most looked h in
        let f = node_at mid t k p above y (way_looked old mid p most (located.At above y) looked e) in
        let is : option_map {U = ℕ × Object} (λ (object : Object). (f.2.0.label, object)) (object_of t.objects f.2.0.label) ≡ found_node f.2.0 = sym (ap (found_place t.objects) f.2.2) ∙ f.2.3 in
        let at_label : answer (look_up t p) ≡ open_present t session number moment flags (found_node f.2.0) =
        ap answer f.2.2 ∙ ap (λ b. cond b (refuses Failure) (open_present t session number moment flags (option_map (λ (object : Object). (f.2.0.label, object)) (object_of t.objects f.2.0.label)))) both ∙ ap (open_present t session number moment flags) is in
        past_root_gives new t p (answer (look_up t p)) r ne (subst (λ (a : Outcome). ServesOutcome new t a r) (sym at_label) (served f.2.0 f.2.1))

-- ---- the directory of a missing name after the lookups
pub missing_directory : (old mid : StoreState) (p : Path) (most d : ℕ) → LookedUp old mid most → located.Missing d ≡ way_from old.nodes old.root old.root p → is_directory_at mid.nodes d ≡ true
missing_directory old mid p most d looked e = ap (λ (ns : List (Option Node)). is_directory_at ns d) (looked_nodes old mid most looked) ∙ (way_lacking p old.nodes old.root old.root d (sym e)).4

pub missing_entry : (old mid : StoreState) (p : Path) (most d : ℕ) → LookedUp old mid most → located.Missing d ≡ way_from old.nodes old.root old.root p → child_of mid.nodes d (last_name_of p) ≡ None
missing_entry old mid p most d looked e =
    let w = way_lacking p old.nodes old.root old.root d (sym e) in
    ap (λ (ns : List (Option Node)). child_of ns d (last_name_of p)) (looked_nodes old mid most looked) ∙ ap (child_of old.nodes d) (ap last_name_of w.2 ∙ last_is w.0 w.1) ∙ w.3
