-- A decision, or a session's leaving, preserves the files that other calls copy into.
use Rattle.std.specs.Prelude.{◌≡◌, ◌≢◌, ◌⊎◌, ◌↔◌, ℕ, true, false, List, option_map, option_and_then, Option, Some, None, refl}
use Rattle.std.specs.Option.{option_map_or}
use Rattle.std.proofs.Common.{sym, ap, subst, ◌∙◌, inl, inr}
use Rattle.sf_call.specs.declared.call.Call.{Call}
use Rattle.sf_call.specs.declared.call.Stage.{Stage}
use Rattle.sf_call.specs.declared.call.Stage.TheVariants as stage
use Rattle.sf_call.specs.declared.handle.Handle.{Handle}
use Rattle.sf_call.specs.Tree.{Tree, object_of}
use Rattle.sf_call.specs.Handles.{handle_in}
use Rattle.sf_inode.specs.declared.node.Node.{Node}
use Rattle.sf_inode.specs.declared.node.Content.{Content}
use Rattle.sf_inode.specs.declared.node.Content.TheVariants as content
use Rattle.sf_inode.specs.declared.handle.OpenHandle.{OpenHandle}
use Rattle.sf_inode.specs.Nodes.{blocks_left_in, is_file_content, is_directory_content}
use Rattle.sf_inode.specs.Stores.{StoreState, node_in, open_handle_at, holder_of, is_directory_at, is_file_at, blocks_left_at, shown_handle}
use Rattle.sf_keeps.specs.Keeps.{Keeps}
use Rattle.sf_copying.specs.Copies.{Copying, copying, AreCopies}
use Rattle.sf_copying.proofs.Laws.{spares_keeps}
use Rattle.sf_walk.specs.Served.{IsAsBefore, NodesStay}
use Rattle.sf_walk.proofs.Laws.{file_spared}
use Rattle.sf_core.specs.Cores.{call_at}
use Rattle.sf_core.specs.Progress.{IsCopying}
use Rattle.sf_core.specs.Parts.{PartsView}
use Rattle.sf_core.specs.Sound.{writer_of_file, copying_at, copying_in, copying_scene, IsWriting, Copied}
use Rattle.sf_core.proofs.CopySteps.{is_file}
use Rattle.sf_core.proofs.Maps.{some_eq, none_some, some_value, by_test}
use Rattle.sf_core.proofs.Writers.{SameFiles, copied_by, no_directory, writer_is, writer_holds, writing_on}

stage_copies : (g : Stage) (cp : Copying) → copying_at g ≡ Some cp → g ≡ stage.Copies cp.file cp.left
stage_copies (stage.Copies node left) cp e = ap (λ (x : Copying). stage.Copies x.file x.left) (some_eq (copying node left) cp e)
stage_copies _ cp e = absurd (none_some cp e)

-- a call that is copying exists
pub the_writer : (calls : List (ℕ × Call)) (m : ℕ) (cp : Copying) → copying_in calls m ≡ Some cp → (c : Call) × (call_at calls m ≡ Some c) × (c.stage ≡ stage.Copies cp.file cp.left)
the_writer calls m cp e =
    let w = some_value (call_at calls m) (λ none. none_some cp (sym (ap copied_by none) ∙ e)) in
    (w.0, w.1, stage_copies w.0.stage cp (sym (ap copied_by w.1) ∙ e))

-- the file that a call is copying into
pub copying_stage : (g : Stage) → IsCopying g → (node : ℕ) × (left : ℕ) × (g ≡ stage.Copies node left)
copying_stage (stage.Copies node left) copies = (node, left, refl)
copying_stage _ copies = absurd copies

pub copying_is : (calls : List (ℕ × Call)) (m : ℕ) (c : Call) (node left : ℕ) → call_at calls m ≡ Some c → c.stage ≡ stage.Copies node left → copying_in calls m ≡ Some (copying node left)
copying_is calls m c node left at is = ap copied_by at ∙ ap copying_at is

-- the holder of a file copies into it
pub file_writer : (s : StoreState) (calls : List (ℕ × Call)) → AreCopies (copying_scene s calls) → (f m : ℕ) → writer_of_file s.nodes f ≡ Some m → (c : Call) × (left : ℕ) × (call_at calls m ≡ Some c) × (c.stage ≡ stage.Copies f left)
file_writer s calls copies f m e =
    let h = copies.held f m e in
    let w = the_writer calls m h.0 h.1 in
    (w.0, h.0.left, w.1, subst (λ (x : ℕ). w.0.stage ≡ stage.Copies x h.0.left) h.2 w.2)

-- files with blocks left to copy are held
pub no_file : (o : Option Node) → option_map_or (λ (x : Node). is_file_content x.content) o false ≡ false → option_map_or (λ (x : Node). blocks_left_in x.content) o 0 ≡ 0
no_file None e = refl
no_file (Some node) e = elim node.content as (λ c. is_file_content c ≡ false → blocks_left_in c ≡ 0) [
  | content.Directory es ↦ λ h. refl
  | content.File contents ↦ λ h. cc
] e

some_node : (nodes : List (Option Node)) (id n : ℕ) → holder_of nodes id ≡ Some n → (node : Node) × (node_in nodes id ≡ Some node)
some_node nodes id n e = some_value (node_in nodes id) (λ none. none_some n (sym (ap (option_and_then (λ (x : Node). x.holder)) none) ∙ e))

-- a directory's inode exists, and so does a file's
pub node_there : (nodes : List (Option Node)) (id : ℕ) → is_directory_at nodes id ≡ true → (node : Node) × (node_in nodes id ≡ Some node)
node_there nodes id e = some_value (node_in nodes id) (λ none. let x = sym (ap (λ (o : Option Node). option_map_or (λ (x : Node). is_directory_content x.content) o false) none) ∙ e in cc)

pub file_node : (nodes : List (Option Node)) (id : ℕ) → is_file_at nodes id ≡ true → (node : Node) × (node_in nodes id ≡ Some node)
file_node nodes id e = some_value (node_in nodes id) (λ none. let x = sym (ap (λ (o : Option Node). option_map_or (λ (x : Node). is_file_content x.content) o false) none) ∙ e in cc)

file_or_directory : (c : Content) → is_directory_content c ≡ false → is_file_content c ≡ true
file_or_directory (content.File b) e = refl
file_or_directory _ e = cc

-- a held inode that is no directory is a file
pub file_there : (nodes : List (Option Node)) (l m : ℕ) → is_directory_at nodes l ≡ false → holder_of nodes l ≡ Some m → writer_of_file nodes l ≡ Some m
file_there nodes l m none held =
    let x = some_node nodes l m held in
    let bare : is_directory_content x.0.content ≡ false = sym (ap (λ (o : Option Node). option_map_or (λ (z : Node). is_directory_content z.content) o false) x.1) ∙ none in
    writer_is nodes l m (ap (λ (o : Option Node). option_map_or (λ (z : Node). is_file_content z.content) o false) x.1 ∙ file_or_directory x.0.content bare) held

-- the holder of an inode held it before, and holds it still
module _ (old mid : StoreState) (n : ℕ) (stays : NodesStay n old mid) where
  holder_by : (l m : ℕ) (node : Node) (o : Option Node) → node_in old.nodes l ≡ o → IsAsBefore (λ holder label. (holder ≡ None) × (label ≡ n)) o node → (node.holder ≡ Some m) ↔ (holder_of old.nodes l ≡ Some m)
  holder_by l m node None e is = (λ h. absurd (none_some m (sym is.0.0 ∙ h)), λ h. absurd (none_some m (sym (ap (option_and_then (λ (y : Node). y.holder)) e) ∙ h)))
  holder_by l m node (Some x) e is = let was = ap (option_and_then (λ (y : Node). y.holder)) e in (λ h. was ∙ sym is.0 ∙ h, λ h. is.0 ∙ sym was ∙ h)

  pub holder_before : (l m : ℕ) → holder_of mid.nodes l ≡ Some m → holder_of old.nodes l ≡ Some m
  holder_before l m h =
      let x = some_node mid.nodes l m h in
      (holder_by l m x.0 (node_in old.nodes l) refl (stays.node l x.0 x.1)).0 (sym (ap (option_and_then (λ (y : Node). y.holder)) x.1) ∙ h)

  pub holder_after : (l m : ℕ) (node : Node) → node_in mid.nodes l ≡ Some node → holder_of old.nodes l ≡ Some m → holder_of mid.nodes l ≡ Some m
  holder_after l m node at h = ap (option_and_then (λ (y : Node). y.holder)) at ∙ (holder_by l m node (node_in old.nodes l) refl (stays.node l node at)).1 h

module _ (old mid : StoreState) (t u : Tree) (n session : ℕ) (keeps : Keeps old t) (keeps' : Keeps mid u) (stays : NodesStay n old mid) (unused : object_of t.objects n ≡ None)
    (handles : (other handle : ℕ) (h : Handle) → other ≢ session → handle_in t other handle ≡ Some h → handle_in u other handle ≡ handle_in t other handle)
    (kinds : (l : ℕ) (node : Node) → node_in mid.nodes l ≡ Some node → is_directory_at old.nodes l ≡ true → is_directory_at mid.nodes l ≡ true)
    (calls : List (ℕ × Call)) (copies : AreCopies (copying_scene old calls)) (writing : (m : ℕ) (c : Call) (node left : ℕ) → call_at calls m ≡ Some c → c.stage ≡ stage.Copies node left → IsWriting old c node)
    (apart : (m : ℕ) (c : Call) (node left : ℕ) → call_at calls m ≡ Some c → c.stage ≡ stage.Copies node left → c.session ≢ session) where
  -- the file that a call is copying into still exists
  module _ (m : ℕ) (c : Call) (node left : ℕ) (at : call_at calls m ≡ Some c) (is : c.stage ≡ stage.Copies node left) where
    w : IsWriting old c node
    w = writing m c node left at is

    led : (it : Node) × ((node_in old.nodes w.opened.node ≡ Some it) × (it.label ≡ w.opened.label))
    led = keeps.led c.session w.handle w.opened w.opens

    seen : handle_in t c.session w.handle ≡ Some (shown_handle c.session w.opened)
    seen = keeps.shows.by.handles c.session w.handle ∙ ap (option_map (shown_handle c.session)) w.opens

    still : (k : OpenHandle) × (node : Node) × (open_handle_at mid c.session w.handle ≡ Some k) × (k.node ≡ w.opened.node) × (node_in mid.nodes w.opened.node ≡ Some node) × (node.holder ≡ led.0.holder) × (blocks_left_in node.content ≡ blocks_left_in led.0.content)
    still = file_spared old mid t u n keeps keeps' stays unused c.session w.handle w.opened led.0 (handles c.session w.handle (shown_handle c.session w.opened) (apart m c node left at is) seen) w.opens led.1.0 led.1.1

    copying_it : copying_in calls m ≡ Some (copying node left)
    copying_it = copying_is calls m c node left at is

    was : node_in old.nodes node ≡ Some led.0
    was = ap (node_in old.nodes) (sym w.leads) ∙ led.1.0

    here : node_in mid.nodes node ≡ Some still.1
    here = ap (node_in mid.nodes) (sym w.leads) ∙ still.4

    held_was : (is_file_at old.nodes node ≡ true) × (holder_of old.nodes node ≡ Some m)
    held_was = writer_holds old.nodes node m (copies.holds m (copying node left) copying_it)

    left_now : blocks_left_at mid.nodes node ≡ left
    left_now =
        ap (λ (o : Option Node). option_map_or (λ (x : Node). blocks_left_in x.content) o 0) here ∙ still.6
        ∙ sym (ap (λ (o : Option Node). option_map_or (λ (x : Node). blocks_left_in x.content) o 0) was) ∙ copies.left m (copying node left) copying_it

    holder_now : holder_of mid.nodes node ≡ Some m
    holder_now =
        ap (option_and_then (λ (x : Node). x.holder)) here ∙ still.5 ∙ sym (ap (option_and_then (λ (x : Node). x.holder)) was) ∙ held_was.1

    held_now : writer_of_file mid.nodes node ≡ Some m
    held_now = writer_is mid.nodes node m (is_file mid node left left_now (copies.some m (copying node left) copying_it)) holder_now

    pub writing_still : IsWriting mid c node
    writing_still = record {
      handle = w.handle;
      offset = w.offset;
      bytes = w.bytes;
      write = w.write;
      opened = still.0;
      opens = still.2;
      leads = still.3 ∙ w.leads;
      given = w.given;
      decided = w.decided;
    }

    pub writer_still : (writer_of_file mid.nodes node ≡ Some m) × (blocks_left_at mid.nodes node ≡ left) × (blocks_left_at old.nodes node ≡ left)
    writer_still = (held_now, left_now, copies.left m (copying node left) copying_it)

  -- a held file has the same holder, and as many blocks left to copy
  pub file_kept : (f m : ℕ) → writer_of_file old.nodes f ≡ Some m → (writer_of_file mid.nodes f ≡ Some m) × (blocks_left_at mid.nodes f ≡ blocks_left_at old.nodes f)
  file_kept f m e =
      let h = file_writer old calls copies f m e in
      let s = writer_still m h.0 f h.1 h.2 h.3 in
      (s.0, s.1 ∙ sym s.2)

  -- and a file that is held then was a file before
  pub no_more : (f m : ℕ) → writer_of_file mid.nodes f ≡ Some m → writer_of_file old.nodes f ≡ Some m
  no_more f m e =
      let h = writer_holds mid.nodes f m e in
      let before = holder_before old mid n stays f m h.1 in
      let x = some_node mid.nodes f m h.1 in
      let y = some_node old.nodes f m before in
      by_test (is_directory_content y.0.content) (λ d. absurd (no_directory mid.nodes f h.0 (kinds f x.0 x.1 (ap (λ (o : Option Node). option_map_or (λ (z : Node). is_directory_content z.content) o false) y.1 ∙ d))))
      (λ d. writer_is old.nodes f m (ap (λ (o : Option Node). option_map_or (λ (z : Node). is_file_content z.content) o false) y.1 ∙ file_or_directory y.0.content d) before)

  left_by : (f : ℕ) (node : Node) (o : Option Node) → node_in old.nodes f ≡ o → IsAsBefore (λ holder label. (holder ≡ None) × (label ≡ n)) o node → (blocks_left_in node.content ≡ 0) ⊎ (blocks_left_in node.content ≡ blocks_left_at old.nodes f)
  left_by f node None e is = inl is.1
  left_by f node (Some x) e is = inr (is.2 ∙ sym (ap (λ (o : Option Node). option_map_or (λ (y : Node). blocks_left_in y.content) o 0) e))

  -- a file that is not held has no blocks left to copy
  pub settled_still : (f : ℕ) → writer_of_file mid.nodes f ≡ None → blocks_left_at mid.nodes f ≡ 0
  settled_still f free =
      elim (node_in mid.nodes f) as (λ o. node_in mid.nodes f ≡ o → blocks_left_at mid.nodes f ≡ 0) [
        | None ↦ λ e. ap (λ (o : Option Node). option_map_or (λ (y : Node). blocks_left_in y.content) o 0) e
        | Some node ↦ λ e. ap (λ (o : Option Node). option_map_or (λ (y : Node). blocks_left_in y.content) o 0) e ∙ elim (left_by f node (node_in old.nodes f) refl (stays.node f node e)) [
          | inl zero ↦ zero
          | inr same ↦ same ∙ elim (writer_of_file old.nodes f) as (λ o. writer_of_file old.nodes f ≡ o → blocks_left_at old.nodes f ≡ 0) [
            | None ↦ λ none. copies.settled f none
            | Some m ↦ λ held. absurd (none_some m (sym free ∙ (file_kept f m held).0))
          ] refl
        ]
      ] refl

  -- the same calls are copying as before, on a store in which other inodes are free
  pub files_spared : (new : StoreState) (calls' : List (ℕ × Call)) → SameFiles mid new → ((f : ℕ) → writer_of_file new.nodes f ≡ writer_of_file mid.nodes f) → ((m : ℕ) → copying_in calls' m ≡ copying_in calls m)
      → AreCopies (copying_scene new calls')
  files_spared new calls' files writers same = spares_keeps (copying_scene old calls) (copying_scene new calls') copies (record {
    calls = same;
    writers = λ f m e. writers f ∙ (file_kept f m e).0;
    no_more = λ f m e. no_more f m (sym (writers f) ∙ e);
    lefts = λ f m e. files.left f ∙ (file_kept f m e).1;
    settled = λ f e. files.left f ∙ settled_still f (sym (writers f) ∙ e);
  })

  pub all_copied : (p q : PartsView) → p.calls ≡ calls → SameFiles mid q.store → ((f : ℕ) → writer_of_file q.store.nodes f ≡ writer_of_file mid.nodes f) → ((m : ℕ) → copying_in q.calls m ≡ copying_in calls m)
      → ((m : ℕ) (c : Call) (node left : ℕ) → call_at q.calls m ≡ Some c → c.stage ≡ stage.Copies node left → call_at calls m ≡ Some c) → Copied q
  all_copied p q calls_are files writers same kept = record {
    copies = files_spared q.store q.calls files writers same;
    writing = λ m c node left at is. writing_on mid q.store c node files.sessions (writing_still m c node left (kept m c node left at is) is);
  }
