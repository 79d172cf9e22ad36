-- A WRITE that its first step answers writes at most one block.
use Rattle.std.specs.Prelude.{if◌then◌else◌, ◌≡◌, ◌≤◌, ℕ, true, false, List, [], ◌∷◌, length, option_map, Option, Some, None, refl}
use Rattle.std.specs.Option.{option_map_or}
use Rattle.std.proofs.Common.{option_and_then, sym, ap, ◌∙◌, arith}
use Rattle.sf_reply.specs.declared.reply.Reply.{Reply}
use Rattle.sf_block.specs.Contents.{blocks_of}
use Rattle.sf_call.specs.declared.call.Call.{Call}
use Rattle.sf_call.specs.declared.metadata.Metadata.{Metadata}
use Rattle.sf_call.specs.declared.handle.Handle.{Handle}
use Rattle.sf_call.specs.Tree.{Tree, object_of}
use Rattle.sf_call.specs.Handles.{handle_in, opened, opened_by}
use Rattle.sf_call.specs.Calls.{start_of}
use Rattle.sf_inode.specs.declared.node.Node.{Node}
use Rattle.sf_inode.specs.declared.node.Content.{Content}
use Rattle.sf_inode.specs.declared.node.Content.TheVariants as content
use Rattle.sf_inode.specs.declared.handle.OpenHandle.{OpenHandle}
use Rattle.sf_inode.specs.Nodes.{object_in, bytes_in}
use Rattle.sf_inode.specs.Stores.{StoreState, open_handle_at, bytes_of, shown_handle}
use Rattle.sf_keeps.specs.Keeps.{Keeps}
use Rattle.sf_keeps.proofs.Laws.{object_there}
use Rattle.sf_walk.specs.Files.{start_by}
use Rattle.sf_core.specs.Progress.{is_write}
use Rattle.sf_core.specs.Events.{IsOfOneBlock}
use Rattle.sf_core.specs.Writing.{CopiesOne}
use Rattle.sf_call.specs.Attributes.Object.{File}
use Rattle.sf_call.specs.Attributes.{Object}

-- the file that a handle opens in the tree
-- an open handle of a tree, and what its label leads to
record HandleTo (t : Tree) (session number : ℕ) : Type 0 where
  handle : Handle
  metadata : Metadata
  content : Content
  is_open : handle_in t session number ≡ Some handle
  leads : object_of t.objects handle.label ≡ Some (object_in metadata content)

opens_file : (t : Tree) (session number : ℕ) (x : HandleTo t session number) (handle : Handle) (m : Metadata) (contents : List ℕ) → opened t session number ≡ Some (handle, File m contents) → (handle ≡ x.handle) × (contents ≡ bytes_in x.content)
opens_file t session number x handle m contents e =
    let both = sym (ap (option_and_then (opened_by t)) x.is_open ∙ ap (option_map {U = Handle × Object} (λ (object : Object). (x.handle, object))) x.leads) ∙ e in
    let object : object_in x.metadata x.content ≡ File m contents = ap (λ (o : Option (Handle × Object)). option_map_or (λ y. y.1) o (File m contents)) both in (
      sym (ap (λ (o : Option (Handle × Object)). option_map_or (λ y. y.0) o handle) both),
      elim x.content as (λ y. object_in x.metadata y ≡ File m contents → contents ≡ bytes_in y) [
        | content.Directory es ↦ λ f. cc
        | content.File g ↦ λ f. cc
      ] object,
    )

module _ (s : StoreState) (t : Tree) (keeps : Keeps s t) (session number : ℕ) where
  -- a write by a handle starts in the tree where it starts in the store
  pub start_told : (x : OpenHandle) → open_handle_at s session number ≡ Some x → (handle : Handle) (m : Metadata) (contents : List ℕ) → opened t session number ≡ Some (handle, File m contents) → (offset : ℕ)
      → start_of handle contents offset ≡ start_by s x offset
  start_told x at handle m contents opens offset =
      let node = keeps.led session number x at in
      let here : handle_in t session number ≡ Some (shown_handle session x) = keeps.shows.by.handles session number ∙ ap (option_map (shown_handle session)) at in
      let object : object_of t.objects x.label ≡ Some (object_in node.0.metadata node.0.content) = ap (object_of t.objects) (sym node.1.1) ∙ object_there s t keeps x.node node.0 node.1.0 in
      let f = opens_file t session number (record { handle = shown_handle session x; metadata = node.0.metadata; content = node.0.content; is_open = here; leads = object }) handle m contents opens in
      let stored : contents ≡ bytes_of s.nodes x.node = f.1 ∙ sym (ap (λ (o : Option Node). option_map_or (λ (y : Node). bytes_in y.content) o []) node.1.0) in
      ap (λ (y : Handle). start_of y contents offset) f.0 ∙ ap (λ (b : List ℕ). if x.marks.append then length b else offset) stored

  -- a file that is open in the tree is open in the store
  open_there : open_handle_at s session number ≡ None → (handle : Handle) (m : Metadata) (contents : List ℕ) → opened t session number ≡ Some (handle, File m contents) → ⊥
  open_there none handle m contents opens =
      let here : handle_in t session number ≡ None = keeps.shows.by.handles session number ∙ ap (option_map (shown_handle session)) none in
      let e = sym (ap (option_and_then (opened_by t)) here) ∙ opens in
      cc

pub one_block : (s : StoreState) (t : Tree) → Keeps s t → (c : Call) (given : Reply) → CopiesOne s c given → IsOfOneBlock t c given
one_block s t keeps c given one number offset [] is ok handle m contents opens = omega arith
one_block s t keeps c given one number offset (b ∷ bytes) is ok handle m contents opens = elim (open_handle_at s c.session number) as (λ o. open_handle_at s c.session number ≡ o → blocks_of (start_of handle contents offset) (b ∷ bytes) ≤ 1) [
  | None ↦ λ none. absurd (open_there s t keeps c.session number none handle m contents opens)
  | Some x ↦ λ at.
      let e = ap (λ k. blocks_of k (b ∷ bytes)) (start_told s t keeps c.session number x at handle m contents opens offset) ∙ one number offset (b ∷ bytes) x is at refl ok in
      omega (arith, e)
] refl

-- a call that is no WRITE
pub no_block : (s : StoreState) (c : Call) (given : Reply) → is_write c.request ≡ false → CopiesOne s c given
no_block s c given none number offset bytes h is at some ok = absurd (let e : true ≡ false = sym (ap is_write is) ∙ none in cc)
