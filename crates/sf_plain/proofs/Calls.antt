-- The answers of calls on existing objects.
use Rattle.std.proofs.Common.{option_map, ◌≡◌, ℕ, nat_eq, not, ◌&&◌, ◌||◌, Bool, true, false, cond, [], Option, Some, None, refl}
use Rattle.std.specs.Option.{is_some}
use Rattle.sf_path.specs.Names.{Path}
use Rattle.sf_field.specs.declared.attrs.Attrs.{Attrs}
use Rattle.sf_reply.specs.declared.reply.StatusCode.TheVariants.{Failure, PermissionDenied}
use Rattle.sf_reply.specs.declared.reply.Reply.TheVariants as reply
use Rattle.sf_call.specs.Attributes.{Object, attrs_of}
use Rattle.sf_call.specs.Attributes.Object.{Directory, File}
use Rattle.sf_call.specs.declared.handle.Handle.{Handle}
use Rattle.sf_call.specs.Tree.{Tree, directory_metadata, is_directory, look_up, is_empty}
use Rattle.sf_plain.specs.Nodes.{is_file}
use Rattle.sf_call.specs.Calls.{Outcome, refuses, sets, set_stat, succeeds, goes, moves, replace_by, link_to, link, remove_directory, remove_file, has_all_handles, opens, directory_handle, open_directory, set_opened, tells, stat_opened}

abbrev pub is_directory_node : Object → Bool
is_directory_node o = is_some (directory_metadata o)

pub sets_object : (moment label : ℕ) (attrs : Attrs) (o : Object) → set_stat moment attrs (Some (label, o)) ≡ sets moment label attrs o
sets_object moment label attrs (Directory m) = refl
sets_object moment label attrs (File m contents) = refl

negated : (b : Bool) (x y : Outcome) → cond b x y ≡ cond (not b) y x
negated true x y = refl
negated false x y = refl

pub removes_directory : (tree : Tree) (moment : ℕ) (path : Path) (label : ℕ) (o : Object)
    → remove_directory tree moment path (Some (label, o)) ≡ cond (not (is_directory_node o) || not (is_empty tree.names path)) (refuses Failure) (goes tree moment path)
removes_directory tree moment path label (Directory m) = negated (is_empty tree.names path) (goes tree moment path) (refuses Failure)
removes_directory tree moment path label (File m contents) = refl

pub removes_file : (tree : Tree) (moment : ℕ) (path : Path) (label : ℕ) (o : Object)
    → remove_file tree moment path (Some (label, o)) ≡ cond (is_directory_node o) (refuses Failure) (goes tree moment path)
removes_file tree moment path label (Directory m) = refl
removes_file tree moment path label (File m contents) = refl

pub opens_directory : (tree : Tree) (session number label : ℕ) (o : Object)
    → open_directory tree session number (Some (label, o)) ≡ cond (not (is_directory_node o) || has_all_handles tree session) (refuses Failure) (opens number (directory_handle session label) [])
opens_directory tree session number label (Directory m) = refl
opens_directory tree session number label (File m contents) = refl

pub sets_opened : (moment : ℕ) (attrs : Attrs) (h : Handle) (o : Object)
    → set_opened moment attrs (Some (h, o)) ≡ cond (is_directory_node o && nat_eq h.label 0) (refuses Failure)
    (cond (not (is_directory_node o) && (is_some attrs.size && not h.write)) (refuses PermissionDenied) (sets moment h.label attrs o))
sets_opened moment attrs h (Directory m) = refl
sets_opened moment attrs h (File m contents) = refl

pub tells_opened : (h : Handle) (o : Object) → stat_opened (Some (h, o)) ≡ tells (reply.Attrs (attrs_of o))
tells_opened h (Directory m) = refl
tells_opened h (File m contents) = refl

pub replaces_object : (tree : Tree) (moment : ℕ) (old new : Path) (label at : ℕ) (o : Object) → (nat_eq label at && is_file (Some o)) ≡ false
    → replace_by tree moment old new label (Some (at, o))
    ≡ cond (cond (is_directory_node o) (is_directory tree old && is_empty tree.names new) (not (is_directory tree old))) (moves tree moment old new) (refuses Failure)
replaces_object tree moment old new label at (Directory m) apart = refl
replaces_object tree moment old new label at (File m contents) apart =
    elim (nat_eq label at) as (λ b. (b && true) ≡ false
    → cond b (succeeds []) (cond (is_directory tree old) (refuses Failure) (moves tree moment old new)) ≡ cond (not (is_directory tree old)) (moves tree moment old new) (refuses Failure)) [
      | true ↦ λ e. cc
      | false ↦ λ e. negated (is_directory tree old) (refuses Failure) (moves tree moment old new)
    ] apart

pub same_file : (tree : Tree) (moment : ℕ) (old new : Path) (label at : ℕ) (o : Option Object) → (nat_eq label at && is_file o) ≡ true
    → replace_by tree moment old new label (option_map (λ (object : Object). (at, object)) o) ≡ succeeds []
same_file tree moment old new label at None same = elim (nat_eq label at) as (λ b. (b && false) ≡ true → replace_by tree moment old new label None ≡ succeeds []) [ true ↦ λ e. cc | false ↦ λ e. cc ] same
same_file tree moment old new label at (Some (Directory m)) same =
    elim (nat_eq label at) as (λ b. (b && false) ≡ true → replace_by tree moment old new label (Some (at, Directory m)) ≡ succeeds []) [ true ↦ λ e. cc | false ↦ λ e. cc ] same
same_file tree moment old new label at (Some (File m contents)) same =
    elim (nat_eq label at) as (λ b. (b && true) ≡ true
    → cond b (succeeds []) (cond (is_directory tree old) (refuses Failure) (moves tree moment old new)) ≡ succeeds []) [
      | true ↦ λ e. refl
      | false ↦ λ e. cc
    ] same

pub links_object : (tree : Tree) (moment : ℕ) (new : Path) (label : ℕ) (o : Object)
    → link tree moment new (Some (label, o)) ≡ cond (is_directory_node o) (refuses Failure) (link_to tree moment new label (look_up tree new))
links_object tree moment new label (Directory m) = refl
links_object tree moment new label (File m contents) = refl
