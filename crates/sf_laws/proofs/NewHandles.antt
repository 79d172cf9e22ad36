-- A new handle belongs to the calling session, with the requested access mode.
use Rattle.std.proofs.Common.{◌≡◌, ℕ, Bool, false, cond, not, ◌||◌, List, Option, Some, None, option_and_then, refl, ap, ◌∙◌, subst}
use Rattle.std.specs.Ordering.{nat_cmp, is_eq}
use Rattle.std.specs.Cmp.{nat_cmp_total, tied_itself}
use Rattle.std.specs.BTreeMap.{insert_entry}
use Rattle.std.proofs.lemmas.Bool.{eq-eqb}
use Rattle.sf_path.specs.Names.{Path}
use Rattle.sf_path.specs.Order.{path_cmp, path_total, parent}
use Rattle.sf_field.specs.declared.attrs.Attrs.{Attrs}
use Rattle.sf_field.specs.declared.open_flags.OpenFlags.{OpenFlags}
use Rattle.sf_reply.specs.declared.reply.Reply.TheVariants as reply
use Rattle.sf_call.specs.declared.metadata.Metadata.{Metadata}
use Rattle.sf_field.specs.declared.operation.PathOp.TheVariants as path_op
use Rattle.sf_call.specs.declared.request.Request.TheVariants.{OnPath}
use Rattle.sf_call.specs.declared.handle.Handle.{Handle}
use Rattle.sf_call.specs.Tree.{Tree, label_at, handle_of, directory_at}
use Rattle.sf_call.specs.Handles.{if_of}
use Rattle.sf_call.specs.Changes.{done, touch}
use Rattle.sf_call.specs.Calls.{Outcome, apply, directory_handle, new_file_handle}
use Rattle.sf_laws.specs.NewHandles.{IsJustOpened, allowing}
use Rattle.sf_laws.proofs.Shapes.{Shape, shape_of}
use Rattle.sf_laws.proofs.Shapes.Shape.{OpensDirectory, OpensFile, CutsFile, MakesFile}
use Rattle.sf_call.proofs.Laws.{lookup-put}

-- the handle that was inserted is found
put_found : (handles : List (ℕ × Handle)) (number : ℕ) (h : Handle) → handle_of (insert_entry nat_cmp handles number h) number ≡ Some h
put_found handles number h =
    lookup-put nat_cmp nat_cmp_total handles number h number
    ∙ ap (λ r. cond (is_eq r) (Some h) (handle_of handles number)) (tied_itself nat_cmp_total number)

path_put : (names : List (Path × ℕ)) (path : Path) (label : ℕ) → label_at (insert_entry path_cmp names path label) path ≡ Some label
path_put names path label =
    lookup-put path_cmp path_total names path label path
    ∙ ap (λ r. cond (is_eq r) (Some label) (label_at names path)) (tied_itself path_total path)

in_session : (handles : List (ℕ × Handle)) (session number : ℕ) (h : Handle) → h.session ≡ session
    → option_and_then (if_of session) (handle_of (insert_entry nat_cmp handles number h) number) ≡ Some h
in_session handles session number h own =
    ap (option_and_then (if_of session)) (put_found handles number h) ∙ ap (λ b. cond b (Some h) None) (eq-eqb h.session session own)

module _ (tree : Tree) (session number : ℕ) (path : Path) (read write append : Bool) where
  -- if the reply has a handle, it is new in the tree after it
  abbrev pub OpensIt : Outcome → Type 0
  OpensIt answer = (given : ℕ) → answer.reply ≡ reply.Handle given → IsJustOpened (done tree answer.changes) session given path (allowing read write append)

  given_number : (t : Tree) (given : ℕ) → reply.Handle number ≡ reply.Handle given → IsJustOpened t session number path (allowing read write append) → IsJustOpened t session given path (allowing read write append)
  given_number t given e is = let same : number ≡ given = cc in subst (λ n. IsJustOpened t session n path (allowing read write append)) same is

  untouched : (t : Tree) (moment : ℕ) (at : Option (ℕ × Metadata)) → IsJustOpened t session number path (allowing read write append)
      → IsJustOpened (done t (touch moment at)) session number path (allowing read write append)
  untouched t moment None is = is
  untouched t moment (Some d) is = record {
    handle = is.handle;
    is_open = is.is_open;
    of_session = is.of_session;
    of_path = is.of_path;
    reads = is.reads;
    writes = is.writes;
    appends = is.appends;
    unlisted = is.unlisted;
  }

module _ (tree : Tree) (session number moment : ℕ) (path : Path) where
  directory_made : (answer : Outcome) → Shape tree session number moment (OnPath path_op.OpenDir path) answer → OpensIt tree session number path false false false answer
  directory_made answer (OpensDirectory p label object at is free) = λ given e. given_number tree session number path false false false _ given e (record {
    handle = directory_handle session label;
    is_open = in_session tree.handles session number (directory_handle session label) refl;
    of_session = refl;
    of_path = at;
    reads = refl;
    writes = refl;
    appends = refl;
    unlisted = refl;
  })
  directory_made answer _ = λ given e. cc

  pub directory_handle_made : (given : ℕ) → (apply tree session number moment (OnPath path_op.OpenDir path)).reply ≡ reply.Handle given
      → IsJustOpened (apply tree session number moment (OnPath path_op.OpenDir path)).tree session given path (allowing false false false)
  directory_handle_made = directory_made _ (shape_of tree session number moment (OnPath path_op.OpenDir path))

  module _ (flags : OpenFlags) (attrs : Attrs) where
    -- in a tree with this handle, in which the path has its inode number
    file_handle_put : (t : Tree) (label : ℕ) → t.handles ≡ insert_entry nat_cmp tree.handles number (new_file_handle session label flags) → label_at t.names path ≡ Some label
        → IsJustOpened t session number path (allowing (flags.read || not flags.write) flags.write flags.append)
    file_handle_put t label put at = record {
      handle = new_file_handle session label flags;
      is_open = ap (λ (handles : List (ℕ × Handle)). option_and_then (if_of session) (handle_of handles number)) put ∙ in_session tree.handles session number (new_file_handle session label flags) refl;
      of_session = refl;
      of_path = at;
      reads = refl;
      writes = refl;
      appends = refl;
      unlisted = refl;
    }

    this_number : (t : Tree) (given : ℕ) → reply.Handle number ≡ reply.Handle given → IsJustOpened t session number path (allowing (flags.read || not flags.write) flags.write flags.append)
        → IsJustOpened t session given path (allowing (flags.read || not flags.write) flags.write flags.append)
    this_number = given_number tree session number path (flags.read || not flags.write) flags.write flags.append

    file_made : (answer : Outcome) → Shape tree session number moment (OnPath (path_op.Open flags attrs) path) answer → OpensIt tree session number path (flags.read || not flags.write) flags.write flags.append answer
    file_made answer (OpensFile p f a label object at is free) = λ given e. this_number _ given e (file_handle_put _ label refl at)
    file_made answer (CutsFile p f a label object cut at is free) = λ given e. this_number _ given e (file_handle_put _ label refl at)
    file_made answer (MakesFile p f a object free) = λ given e.
        this_number _ given e (untouched tree session number path (flags.read || not flags.write) flags.write flags.append _ moment (directory_at tree (parent path))
        (file_handle_put _ number refl (path_put tree.names path number)))
    file_made answer _ = λ given e. cc

    pub file_handle_made : (given : ℕ) → (apply tree session number moment (OnPath (path_op.Open flags attrs) path)).reply ≡ reply.Handle given
        → IsJustOpened (apply tree session number moment (OnPath (path_op.Open flags attrs) path)).tree session given path (allowing (flags.read || not flags.write) flags.write flags.append)
    file_handle_made = file_made _ (shape_of tree session number moment (OnPath (path_op.Open flags attrs) path))
