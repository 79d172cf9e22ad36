-- The reply to setting attributes by a handle.
use Rattle.std.specs.Prelude.{◌≡◌, ◌≢◌, ℕ, nat_eq, Bool, true, false, not, cond, ◌&&◌, if◌then◌else◌, Some, is_some, refl}
use Rattle.std.proofs.lemmas.Bool.Decides.{nat_tests}
use Rattle.std.proofs.Common.{sym, ap, subst, ◌∙◌, arith}
use Rattle.sf_field.specs.declared.attrs.Attrs.{Attrs}
use Rattle.sf_reply.specs.declared.reply.Reply.{Reply}
use Rattle.sf_reply.specs.declared.reply.Reply.TheVariants as reply
use Rattle.sf_reply.specs.declared.reply.StatusCode.TheVariants.{PermissionDenied, Failure}
use Rattle.sf_call.specs.declared.handle.Handle.{Handle}
use Rattle.sf_call.specs.declared.metadata.Metadata.{Metadata}
use Rattle.sf_call.specs.Tree.{Tree}
use Rattle.sf_call.specs.Handles.{opened}
use Rattle.sf_call.specs.Calls.{Outcome, refuses, sets, set_opened}
use Rattle.sf_inode.specs.declared.node.Node.{Node}
use Rattle.sf_inode.specs.declared.node.Content.{Content}
use Rattle.sf_inode.specs.declared.node.Content.TheVariants as content
use Rattle.sf_inode.specs.declared.handle.OpenHandle.{OpenHandle}
use Rattle.sf_inode.specs.Nodes.{object_in, is_directory_content}
use Rattle.sf_inode.specs.Stores.{StoreState, node_in, is_directory_at, shown_handle}
use Rattle.sf_keeps.specs.Keeps.{Keeps}
use Rattle.sf_walk.specs.Served.{IsCarriedOut}
use Rattle.sf_walk.proofs.ReplyOnly.{tells_served}
use Rattle.sf_walk.proofs.OpenHandles.{IsOpen, directory_is}

not_zero : (k : ℕ) → k ≢ 0 → nat_eq k 0 ≡ false
not_zero k ne = grind (arith, nat_tests)

set_content : (moment : ℕ) (attrs : Attrs) (handle : Handle) (m : Metadata) (c : Content) → set_opened moment attrs (Some (handle, object_in m c))
    ≡ cond (is_directory_content c) (if nat_eq handle.label 0 then refuses Failure else sets moment handle.label attrs (object_in m c))
    (if is_some attrs.size && not handle.write then refuses PermissionDenied else sets moment handle.label attrs (object_in m c))
set_content moment attrs handle m (content.Directory es) = refl
set_content moment attrs handle m (content.File contents) = refl

pub no_size_set : (b w : Bool) → b ≡ false → (b && not w) ≡ false
no_size_set b w e = ap (λ x. x && not w) e

pub may_write : (b w : Bool) → w ≡ true → (b && not w) ≡ false
may_write true w e = ap not e
may_write false w e = refl

module _ (s : StoreState) (t : Tree) (session number : ℕ) (h : OpenHandle) (o : IsOpen s t session number h) where
  set_is : (moment : ℕ) (attrs : Attrs) → set_opened moment attrs (opened t session number)
      ≡ cond (is_directory_at s.nodes h.node) (if nat_eq h.label 0 then refuses Failure else sets moment h.label attrs (object_in o.node.metadata o.node.content))
      (if is_some attrs.size && not h.marks.write then refuses PermissionDenied else sets moment h.label attrs (object_in o.node.metadata o.node.content))
  set_is moment attrs =
      ap (set_opened moment attrs) o.opens ∙ set_content moment attrs (shown_handle session h) o.node.metadata o.node.content
      ∙ (λ i. cond {A = Outcome} (sym (directory_is s t session number h o) i) (if nat_eq h.label 0 then refuses Failure else sets moment h.label attrs (object_in o.node.metadata o.node.content))
      (if is_some attrs.size && not h.marks.write then refuses PermissionDenied else sets moment h.label attrs (object_in o.node.metadata o.node.content)))

  pub set_root : (moment : ℕ) (attrs : Attrs) → true ≡ is_directory_at s.nodes h.node → h.label ≡ 0 → IsCarriedOut s t (set_opened moment attrs (opened t session number)) (reply.Status Failure)
  set_root moment attrs d zero =
      let set = sets moment h.label attrs (object_in o.node.metadata o.node.content) in
      tells_served s t (set_opened moment attrs (opened t session number)) (reply.Status Failure)
      (set_is moment attrs ∙ (λ i. cond {A = Outcome} (sym d i) (if nat_eq h.label 0 then refuses Failure else set) (if is_some attrs.size && not h.marks.write then refuses PermissionDenied else set))
      ∙ (λ i. if nat_eq (zero i) 0 then refuses Failure else set)) o.keeps

  pub set_unmarked : (moment : ℕ) (attrs : Attrs) → false ≡ is_directory_at s.nodes h.node → is_some attrs.size ≡ true → h.marks.write ≡ false
      → IsCarriedOut s t (set_opened moment attrs (opened t session number)) (reply.Status PermissionDenied)
  set_unmarked moment attrs d some off =
      let set = sets moment h.label attrs (object_in o.node.metadata o.node.content) in
      tells_served s t (set_opened moment attrs (opened t session number)) (reply.Status PermissionDenied)
      (set_is moment attrs ∙ (λ i. cond {A = Outcome} (sym d i) (if nat_eq h.label 0 then refuses Failure else set) (if is_some attrs.size && not h.marks.write then refuses PermissionDenied else set))
      ∙ (λ i. if some i && not (off i) then refuses PermissionDenied else set)) o.keeps

  module _ (new : StoreState) (moment : ℕ) (attrs : Attrs) (result : Reply)
      (served : (u : Tree) (it : Node) → Keeps s u → node_in s.nodes h.node ≡ Some it → IsCarriedOut new u (sets moment it.label attrs (object_in it.metadata it.content)) result) where
    set_as : set_opened moment attrs (opened t session number) ≡ sets moment h.label attrs (object_in o.node.metadata o.node.content) → IsCarriedOut new t (set_opened moment attrs (opened t session number)) result
    set_as e =
        subst (λ (a : Outcome). IsCarriedOut new t a result) (ap (λ l. sets moment l attrs (object_in o.node.metadata o.node.content)) o.label ∙ sym e) (served t o.node o.keeps o.there)

    pub set_directory : true ≡ is_directory_at s.nodes h.node → h.label ≢ 0 → IsCarriedOut new t (set_opened moment attrs (opened t session number)) result
    set_directory d other =
        let set = sets moment h.label attrs (object_in o.node.metadata o.node.content) in
        set_as (set_is moment attrs ∙ (λ i. cond {A = Outcome} (sym d i) (if nat_eq h.label 0 then refuses Failure else set) (if is_some attrs.size && not h.marks.write then refuses PermissionDenied else set))
        ∙ (λ i. if not_zero h.label other i then refuses Failure else set))

    pub set_file : false ≡ is_directory_at s.nodes h.node → (is_some attrs.size && not h.marks.write) ≡ false → IsCarriedOut new t (set_opened moment attrs (opened t session number)) result
    set_file d free =
        let set = sets moment h.label attrs (object_in o.node.metadata o.node.content) in
        set_as (set_is moment attrs ∙ (λ i. cond {A = Outcome} (sym d i) (if nat_eq h.label 0 then refuses Failure else set) (if is_some attrs.size && not h.marks.write then refuses PermissionDenied else set))
        ∙ (λ i. if free i then refuses PermissionDenied else set))
