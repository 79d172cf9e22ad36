-- A decision preserves the file that another session's WRITE copies into: an open handle keeps it.
use Rattle.std.specs.Prelude.{◌≡◌, ℕ, Option, Some, None, option_map, refl}
use Rattle.std.proofs.Common.{sym, ap, ◌∙◌}
use Rattle.sf_call.specs.declared.handle.Handle.{Handle}
use Rattle.sf_call.specs.Tree.{Tree, object_of}
use Rattle.sf_call.specs.Handles.{handle_in}
use Rattle.sf_inode.specs.declared.node.Node.{Node}
use Rattle.sf_inode.specs.declared.handle.OpenHandle.{OpenHandle}
use Rattle.sf_inode.specs.Nodes.{blocks_left_in}
use Rattle.sf_inode.specs.Stores.{StoreState, node_in, open_handle_at, shown_of, shown_node, shown_handle}
use Rattle.sf_keeps.specs.Keeps.{Keeps}
use Rattle.sf_walk.specs.Served.{IsAsBefore, NodesStay}

-- a session's open handle, and the inode that it opens
record Opens (s : StoreState) (session number : ℕ) (node : ℕ) (it : Node) : Type 0 where
  handle : OpenHandle
  open' : open_handle_at s session number ≡ Some handle
  leads : handle.node ≡ node
  there : node_in s.nodes node ≡ Some it
  label : it.label ≡ handle.label

same_label : (o p : Option OpenHandle) (session : ℕ) (h k : OpenHandle) → option_map (shown_handle session) o ≡ option_map (shown_handle session) p → o ≡ Some h → p ≡ Some k → h.label ≡ k.label
same_label o p session h k e a b =
    let x : Some (shown_handle session h) ≡ Some (shown_handle session k) = sym (ap (option_map (shown_handle session)) a) ∙ (e ∙ ap (option_map (shown_handle session)) b) in
    let y : shown_handle session h ≡ shown_handle session k = cc in
    ap (λ (z : Handle). z.label) y

is_there : (o : Option OpenHandle) (p : Option OpenHandle) (session : ℕ) (h : OpenHandle) → option_map (shown_handle session) o ≡ option_map (shown_handle session) p → p ≡ Some h → (k : OpenHandle) × (o ≡ Some k)
is_there None p session h e b = let x : None ≡ Some (shown_handle session h) = e ∙ ap (option_map (shown_handle session)) b in cc
is_there (Some k) p session h e b = (k, refl)

found_before : (o : Option Node) (node : Node) (N : Option ℕ → ℕ → Type 0) → IsAsBefore N o node → ((N node.holder node.label) → ⊥) → (was : Node) × (o ≡ Some was) × (node.holder ≡ was.holder) × (node.label ≡ was.label) × (blocks_left_in node.content ≡ blocks_left_in was.content)
found_before None node N h other = absurd (other h.0)
found_before (Some was) node N h other = (was, refl, h.0, h.1, h.2)

shown_there : (s : StoreState) (id : ℕ) (it : Node) → node_in s.nodes id ≡ Some it → shown_of s.nodes id ≡ Some (shown_node it)
shown_there s id it at = ap (option_map shown_node) at

module _ (s new : StoreState) (t t' : Tree) (number : ℕ) (keeps : Keeps s t) (after : Keeps new t') (stays : NodesStay number s new) (unused : object_of t.objects number ≡ None) where
  -- a file that another session's handle opens still exists, with its holder and its number of
  -- blocks left
  pub file_spared : (session handle : ℕ) (h : OpenHandle) (it : Node) → handle_in t' session handle ≡ handle_in t session handle
      → open_handle_at s session handle ≡ Some h → node_in s.nodes h.node ≡ Some it → it.label ≡ h.label
      → (k : OpenHandle) × (node : Node) × (open_handle_at new session handle ≡ Some k) × (k.node ≡ h.node) × (node_in new.nodes h.node ≡ Some node)
      × (node.holder ≡ it.holder) × (blocks_left_in node.content ≡ blocks_left_in it.content)
  file_spared session handle h it same at there labelled =
      let seen : option_map (shown_handle session) (open_handle_at new session handle) ≡ option_map (shown_handle session) (open_handle_at s session handle) =
      sym (after.shows.by.handles session handle) ∙ (same ∙ keeps.shows.by.handles session handle) in
      let w = is_there (open_handle_at new session handle) (open_handle_at s session handle) session h seen at in
      let k : OpenHandle = w.0 in
      let label : k.label ≡ h.label = same_label (open_handle_at new session handle) (open_handle_at s session handle) session k h seen w.1 at in
      let led = after.led session handle k w.1 in
      let node : Node = led.0 in
      let own : node.label ≡ it.label = led.1.1 ∙ (label ∙ sym labelled) in
      let object = keeps.shows.by.objects h.node it.label (shown_node it).1 (shown_there s h.node it there) in
      let was = found_before (node_in s.nodes k.node) node (λ holder l. (holder ≡ None) × (l ≡ number)) (stays.node k.node node led.1.0)
      (λ e. let none : object_of t.objects it.label ≡ None = ap (object_of t.objects) (sym own ∙ e.1) ∙ unused in cc) in
      let alike : was.0.label ≡ it.label = sym was.3 ∙ own in
      let one : k.node ≡ h.node = keeps.shows.by.sound.labels k.node h.node it.label (shown_node was.0).1 (shown_node it).1
      (shown_there s k.node was.0 was.1 ∙ (λ i. Some (alike i, (shown_node was.0).1))) (shown_there s h.node it there) in
      let is : was.0 ≡ it = let a = was.1 in let b = ap (node_in s.nodes) one ∙ there in let c : Some was.0 ≡ Some it = sym a ∙ b in cc in
      (k, node, w.1, one, sym (ap (node_in new.nodes) one) ∙ led.1.0, was.2 ∙ ap (λ (x : Node). x.holder) is, was.4 ∙ ap (λ (x : Node). blocks_left_in x.content) is)
