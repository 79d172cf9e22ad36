-- A call leaves the open handles of other sessions alone.
use Rattle.std.proofs.Common.{◌≡◌, ◌≢◌, ℕ, nat_eq, true, false, if◌then◌else◌, option_and_then, Option, Some, None, IsSome, refl, sym, ap, ◌∙◌, eqb-true}
use Rattle.sf_call.specs.declared.handle.Handle.{Handle}
use Rattle.sf_call.specs.declared.request.Request.{Request}
use Rattle.sf_field.specs.declared.operation.PathOp.TheVariants as path_op
use Rattle.sf_field.specs.declared.operation.HandleOp.TheVariants as handle_op
use Rattle.sf_call.specs.declared.request.Request.TheVariants.{OnPath, ByHandle}
use Rattle.sf_call.specs.Tree.{Tree, handle_of}
use Rattle.sf_call.specs.Handles.{if_of, handle_in}
use Rattle.sf_call.specs.Calls.{answer_to, apply}
use Rattle.sf_laws.specs.Own.{IsOwnHandle}
use Rattle.sf_laws.proofs.OwnChanges.{own, other_handles}

-- an open handle of a session belongs to that session
session_is : (session : ℕ) (o : Option Handle) (h : Handle) → option_and_then (if_of session) o ≡ Some h → (h.session ≡ session) × (o ≡ Some h)
session_is session None h e = cc
session_is session (Some k) h e =
    elim (nat_eq k.session session) as (λ b. nat_eq k.session session ≡ b → (if b then Some k else None) ≡ Some h → (h.session ≡ session) × (Some k ≡ Some h)) [
      | true ↦ λ t f. let same : k ≡ h = cc in (ap (λ (x : Handle). x.session) (sym same) ∙ eqb-true k.session session t, ap Some same)
      | false ↦ λ t f. cc
    ] refl e

some_there : (o : Option Handle) → IsSome o → (h : Handle) × (o ≡ Some h)
some_there None h = cc
some_there (Some x) h = (x, refl)

module _ (tree : Tree) (session number other handle : ℕ) (h : Handle) (apart : other ≢ session) (unused : handle_of tree.handles number ≡ None) (open' : handle_in tree other handle ≡ Some h) where
  there : (h.session ≡ other) × (handle_of tree.handles handle ≡ Some h)
  there = session_is other (handle_of tree.handles handle) h open'

  not_new : handle ≡ number → ⊥
  not_new e = let x : None ≡ Some h = sym unused ∙ ap (handle_of tree.handles) (sym e) ∙ there.1 in cc

  not_asked : (asked : ℕ) → (handle ≡ asked) × IsSome (handle_in tree session asked) → ⊥
  not_asked asked is =
      let k = some_there (handle_in tree session asked) is.1 in
      let s = session_is session (handle_of tree.handles asked) k.0 k.1 in
      let same : Some k.0 ≡ Some h = sym s.1 ∙ ap (handle_of tree.handles) (sym is.0) ∙ there.1 in
      let one : k.0 ≡ h = cc in
      apart (sym there.0 ∙ ap (λ (x : Handle). x.session) (sym one) ∙ s.0)

  not_own : (r : Request) → IsOwnHandle tree session number r handle → ⊥
  not_own (OnPath path_op.OpenDir path) is = not_new is
  not_own (OnPath (path_op.Open flags attrs) path) is = not_new is
  not_own (ByHandle handle_op.Close asked) is = not_asked asked is
  not_own (ByHandle handle_op.ReadDir asked) is = not_asked asked is
  not_own _ is = is

  pub others_handles : (moment : ℕ) (request : Request) → handle_in (apply tree session number moment request).tree other handle ≡ handle_in tree other handle
  others_handles moment request =
      ap (option_and_then (if_of other))
      (other_handles tree session number request (answer_to tree session number moment request).changes tree handle (own tree session number moment request) (not_own request))
