-- A request changes only what belongs to it.
use Rattle.std.proofs.Common.{◌≡◌, ◌≢◌, ◌⊎◌, ℕ, List, [], ◌∷◌, ◌++◌, Option, Some, None, IsSome, is_some, refl, sym, ap, ◌∙◌, subst, inl, inr}
use Rattle.std.specs.List.{AllByRecursion}
use Rattle.sf_path.specs.Names.{Path}
use Rattle.sf_path.specs.Order.{parent}
use Rattle.sf_call.specs.declared.metadata.Metadata.{Metadata}
use Rattle.sf_call.specs.declared.request.Request.{Request}
use Rattle.sf_field.specs.declared.operation.PathOp.TheVariants as path_op
use Rattle.sf_field.specs.declared.operation.PairOp.TheVariants as pair_op
use Rattle.sf_call.specs.declared.request.Request.TheVariants.{OnPath, OnPaths}
use Rattle.sf_call.specs.Tree.{Tree, label_at, object_of, handle_of, directory_at}
use Rattle.sf_call.specs.Handles.{opened}
use Rattle.sf_call.specs.Changes.{Change, changed, done, touch, touched}
use Rattle.sf_call.specs.Changes.Change.{SetObject, NewPath, NewName, GonePath, Move, OpenHandle, SetHandle, CloseHandle}
use Rattle.sf_laws.specs.LeftAlone.{IsOfPath, IsOfLabel, IsOfNumber}
use Rattle.sf_laws.specs.Own.{IsOwnPath, IsOwnObject, IsOwnHandle}
use Rattle.sf_call.specs.Calls.{Outcome, answer_to, moves}
use Rattle.sf_laws.proofs.Shapes.{Shape, shape_of}
use Rattle.sf_laws.proofs.Shapes.Shape.{SetsAt, SetsOpen, Writes, MakesDirectory, RemovesDirectory, RemovesFile, OpensDirectory, OpensFile, CutsFile, MakesFile, Closes, Lists, Renames, Replaces, Links}
use Rattle.sf_call.proofs.Laws.{directory_there}
use Rattle.sf_laws.proofs.LeftAlone.{other_path, other_object, other_handle}

module _ (tree : Tree) (session number : ℕ) where
  -- the change concerns what belongs to the request
  abbrev pub IsOwnChange : Request → Change → Type 0
  IsOwnChange request (SetObject label object) = IsOwnObject tree session request label
  IsOwnChange request (NewPath path label object) = IsOwnPath request path × (label ≡ number)
  IsOwnChange request (NewName path label) = IsOwnPath request path
  IsOwnChange request (GonePath path) = IsOwnPath request path
  IsOwnChange request (Move old new) = (path : Path) → IsOfPath (Move old new) path → IsOwnPath request path
  IsOwnChange request (OpenHandle handle opened) = IsOwnHandle tree session number request handle
  IsOwnChange request (SetHandle handle opened) = IsOwnHandle tree session number request handle
  IsOwnChange request (CloseHandle handle) = IsOwnHandle tree session number request handle

  abbrev pub AreOwn : Request → List Change → Type 0
  AreOwn request changes = AllByRecursion (IsOwnChange request) changes

  module _ (moment : ℕ) where
    touch_own : (request : Request) (path : Path) (at : Option (ℕ × Metadata)) → directory_at tree path ≡ at
        → ((label : ℕ) → label_at tree.names path ≡ Some label → IsOwnObject tree session request label) → AreOwn request (touch moment at)
    touch_own request path None e own = tt
    touch_own request path (Some d) e own = (own d.0 (directory_there tree path d e).0, tt)

    both_own : (request : Request) (cs ds : List Change) → AreOwn request cs → AreOwn request ds → AreOwn request (cs ++ ds)
    both_own request [] ds p q = q
    both_own request (c ∷ cs) ds p q = (p.0, both_own request cs ds p.1 q)

    moved_own : (request : Request) (old new : Path) → ((path : Path) → IsOfPath (Move old new) path → IsOwnPath request path)
        → ((label : ℕ) → label_at tree.names (parent old) ≡ Some label → IsOwnObject tree session request label)
        → ((label : ℕ) → label_at tree.names (parent new) ≡ Some label → IsOwnObject tree session request label)
        → AreOwn request (moves tree moment old new).changes
    moved_own request old new paths from to = (
      paths,
      both_own request (touched tree moment (parent old)) (touched tree moment (parent new))
          (touch_own request (parent old) (directory_at tree (parent old)) refl from) (touch_own request (parent new) (directory_at tree (parent new)) refl to),
    )

    shape_own : (r : Request) (answer : Outcome) → Shape tree session number moment r answer → AreOwn r answer.changes
    shape_own r answer (SetsAt path attrs label object at) = (at, tt)
    shape_own r answer (SetsOpen handle attrs h object at) = ((h, at, refl), tt)
    shape_own r answer (Writes handle offset bytes h object at) = ((h, at, refl), tt)
    shape_own r answer (MakesDirectory path attrs object) = ((refl, refl), touch_own (OnPath (path_op.Mkdir attrs) path) (parent path) (directory_at tree (parent path)) refl (λ label e. e))
    shape_own r answer (RemovesDirectory path) = (refl, touch_own (OnPath path_op.Rmdir path) (parent path) (directory_at tree (parent path)) refl (λ label e. e))
    shape_own r answer (RemovesFile path) = (refl, touch_own (OnPath path_op.Remove path) (parent path) (directory_at tree (parent path)) refl (λ label e. e))
    shape_own r answer (OpensDirectory path label object at is free) = (refl, tt)
    shape_own r answer (OpensFile path flags attrs label object at is free) = (refl, tt)
    shape_own r answer (CutsFile path flags attrs label object cut at is free) = (refl, (inl at, tt))
    shape_own r answer (MakesFile path flags attrs object free) =
        (refl, ((refl, refl), touch_own (OnPath (path_op.Open flags attrs) path) (parent path) (directory_at tree (parent path)) refl (λ label there. inr there)))
    shape_own r answer (Closes handle h at) = ((refl, ap (λ x. is_some x) at), tt)
    shape_own r answer (Lists handle h e es at) = ((refl, ap (λ x. is_some x) at), tt)
    shape_own r answer (Renames old new) = moved_own (OnPaths pair_op.Rename old new) old new (λ path of. of) (λ label at. inl at) (λ label at. inr at)
    shape_own r answer (Replaces old new) = moved_own (OnPaths pair_op.PosixRename old new) old new (λ path of. of) (λ label at. inl at) (λ label at. inr at)
    shape_own r answer (Links old new label) = (refl, touch_own (OnPaths pair_op.Link old new) (parent new) (directory_at tree (parent new)) refl (λ l at. at))
    shape_own r answer _ = tt

    pub own : (request : Request) → AreOwn request (answer_to tree session number moment request).changes
    own request = shape_own request _ (shape_of tree session number moment request)

  module _ (request : Request) where
    own_path : (change : Change) (path : Path) → IsOwnChange request change → IsOfPath change path → IsOwnPath request path
    own_path (NewPath new label object) path is of = subst (IsOwnPath request) (sym of) is.0
    own_path (NewName new label) path is of = subst (IsOwnPath request) (sym of) is
    own_path (GonePath gone) path is of = subst (IsOwnPath request) (sym of) is
    own_path (Move old new) path is of = is path of
    own_path _ path is of = absurd of

    own_label : (change : Change) (label : ℕ) → IsOwnChange request change → IsOfLabel change label → (label ≡ number) ⊎ IsOwnObject tree session request label
    own_label (SetObject set object) label is of = inr (subst (IsOwnObject tree session request) (sym of) is)
    own_label (NewPath path new object) label is of = inl (of ∙ is.1)
    own_label _ label is of = absurd of

    own_handle : (change : Change) (handle : ℕ) → IsOwnChange request change → IsOfNumber change handle → IsOwnHandle tree session number request handle
    own_handle (OpenHandle opened h) handle is of = subst (IsOwnHandle tree session number request) (sym of) is
    own_handle (SetHandle set h) handle is of = subst (IsOwnHandle tree session number request) (sym of) is
    own_handle (CloseHandle gone) handle is of = subst (IsOwnHandle tree session number request) (sym of) is
    own_handle _ handle is of = absurd of

    pub other_paths : (changes : List Change) (t : Tree) (path : Path) → AreOwn request changes → ¬ IsOwnPath request path → label_at (done t changes).names path ≡ label_at t.names path
    other_paths [] t path all other = refl
    other_paths (c ∷ cs) t path all other =
        other_paths cs (changed t c) path all.1 other ∙ other_path t c path (λ of. other (own_path c path all.0 of))

    pub other_handles : (changes : List Change) (t : Tree) (handle : ℕ) → AreOwn request changes → ¬ IsOwnHandle tree session number request handle → handle_of (done t changes).handles handle ≡ handle_of t.handles handle
    other_handles [] t handle all other = refl
    other_handles (c ∷ cs) t handle all other =
        other_handles cs (changed t c) handle all.1 other ∙ other_handle t c handle (λ of. other (own_handle c handle all.0 of))

    pub other_objects : (changes : List Change) (t : Tree) (label : ℕ) → AreOwn request changes → label ≢ number → ¬ IsOwnObject tree session request label
        → IsSome (object_of (done t changes).objects label) → object_of (done t changes).objects label ≡ object_of t.objects label
    other_objects [] t label all new other some = refl
    other_objects (c ∷ cs) t label all new other some =
        let later = other_objects cs (changed t c) label all.1 new other some in
        later ∙ other_object t c label (λ of. elim (own_label c label all.0 of) [ inl same ↦ new same | inr is ↦ other is ]) (ap (λ o. is_some o) (sym later) ∙ some)
