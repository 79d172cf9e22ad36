-- Open handles, in the store and in the tree that it represents.
use Rattle.std.specs.Prelude.{◌≡◌, ℕ, false, option_map, Option, Some, refl}
use Rattle.std.specs.Option.{option_map_or}
use Rattle.std.proofs.Common.{option_and_then, sym, ap, subst, ◌∙◌}
use Rattle.sf_reply.specs.declared.reply.Reply.TheVariants as reply
use Rattle.sf_reply.specs.declared.reply.StatusCode.TheVariants.{Success}
use Rattle.sf_call.specs.declared.handle.Handle.{Handle}
use Rattle.sf_call.specs.Tree.{Tree}
use Rattle.sf_call.specs.Handles.{handle_in, opened, opened_by}
use Rattle.sf_call.specs.Calls.{close}
use Rattle.sf_inode.specs.declared.node.Node.{Node}
use Rattle.sf_inode.specs.declared.handle.OpenHandle.{OpenHandle}
use Rattle.sf_inode.specs.Nodes.{object_in, is_directory_content, is_file_content}
use Rattle.sf_inode.specs.Stores.{StoreState, node_in, is_directory_at, is_file_at, open_handle_at, shown_handle, closed}
use Rattle.sf_keeps.specs.Keeps.{Keeps}
use Rattle.sf_keeps.proofs.Laws.{found_node, keeps_closed}
use Rattle.sf_walk.specs.Served.{IsCarriedOut}
use Rattle.sf_call.specs.Attributes.{Object}

-- A session's handle, whose inode exists. The tree has the handle, too, and the inode's object.
pub record IsOpen (s : StoreState) (t : Tree) (session number : ℕ) (h : OpenHandle) : Type 0 where
  pub keeps : Keeps s t
  pub at : open_handle_at s session number ≡ Some h
  pub handle : handle_in t session number ≡ Some (shown_handle session h)
  pub node : Node
  pub there : node_in s.nodes h.node ≡ Some node
  pub label : node.label ≡ h.label
  pub opens : opened t session number ≡ Some (shown_handle session h, object_in node.metadata node.content)

pub is_open : (s : StoreState) (t : Tree) (session number : ℕ) (h : OpenHandle) → Keeps s t → Some h ≡ open_handle_at s session number → IsOpen s t session number h
is_open s t session number h keeps at =
    let found = found_node s t keeps session number h (sym at) in
    let handle : handle_in t session number ≡ Some (shown_handle session h) = keeps.shows.by.handles session number ∙ ap (option_map (shown_handle session)) (sym at) in
    record { keeps = keeps; at = sym at; handle = handle; node = found.0; there = found.1.0; label = found.1.1; opens = ap (option_and_then (opened_by t)) handle ∙ ap (option_map {U = Handle × Object} (λ (object : Object). (shown_handle session h, object))) found.1.2 }

module _ (s : StoreState) (t : Tree) (session number : ℕ) (h : OpenHandle) (o : IsOpen s t session number h) where
  pub directory_is : is_directory_at s.nodes h.node ≡ is_directory_content o.node.content
  directory_is = ap (λ (n : Option Node). option_map_or (λ (node : Node). is_directory_content node.content) n false) o.there

  pub file_is : is_file_at s.nodes h.node ≡ is_file_content o.node.content
  file_is = ap (λ (n : Option Node). option_map_or (λ (node : Node). is_file_content node.content) n false) o.there

  -- ---- CLOSE
  pub close_served : (new : StoreState) → new ≡ closed s session number → IsCarriedOut new t (close number (handle_in t session number)) (reply.Status Success)
  close_served new state =
      subst (λ (x : StoreState). IsCarriedOut x t (close number (handle_in t session number)) (reply.Status Success)) (sym state)
      (subst (λ (a : Option Handle). IsCarriedOut (closed s session number) t (close number a) (reply.Status Success)) (sym o.handle) (record { told = refl; tree = keeps_closed s t o.keeps session number h o.at }))
