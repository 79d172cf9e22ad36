-- A rename fails, does nothing, or moves a path; then neither path begins with the other. A link
-- fails or adds a name.
use Rattle.std.proofs.Common.{Option, ◌≡◌, ℕ, Bool, true, false, cond, ◌&&◌, ◌||◌, nat_eq, nat_le, List, [], ◌∷◌, Some, None, is_some, refl}
use Rattle.sf_path.specs.Names.{Path}
use Rattle.sf_path.specs.Order.{same_path, parent}
use Rattle.sf_reply.specs.declared.reply.StatusCode.{StatusCode}
use Rattle.sf_reply.specs.declared.reply.StatusCode.TheVariants.{NoSuchFile, Failure}
use Rattle.sf_call.specs.declared.limits.TheConstants.{MAX_LINKS}
use Rattle.sf_call.specs.declared.lookup.Lookup.{Lookup}
use Rattle.sf_call.specs.declared.lookup.Lookup.TheVariants.{NoWay, Absent, At}
use Rattle.sf_field.specs.declared.operation.PairOp.TheVariants as pair_op
use Rattle.sf_call.specs.declared.request.Request.TheVariants.{OnPaths}
use Rattle.sf_call.specs.declared.metadata.Metadata.{Metadata}
use Rattle.sf_call.specs.Tree.{Tree, after_front, links, look_up, found_at, is_directory, is_faulty_way, is_empty}
use Rattle.sf_call.specs.Changes.{touched}
use Rattle.sf_call.specs.Changes.Change.{NewName}
use Rattle.sf_call.specs.Calls.{Outcome, answer_to, refuses, succeeds, moves, unless_nested, unless_root, rename_to, rename, replace_by, posix_rename, link_to, link}
use Rattle.sf_call.specs.Attributes.{Object}
use Rattle.sf_call.specs.Attributes.Object.{File, Directory}

-- properties of an answer that fails if one path begins with the other
pub apart : (P : Outcome → Type 0) (old new : Path) (answer : Outcome) → P (refuses Failure)
    → (after_front old new ≡ None → after_front new old ≡ None → P answer) → P (unless_nested old new answer)
apart P old new answer refused right =
    elim (after_front old new) as (λ o. after_front old new ≡ o → P (cond (is_some o || is_some (after_front new old)) (refuses Failure) answer)) [
      | Some rest ↦ λ inside. refused
      | None ↦ λ not_inside. elim (after_front new old) as (λ o. after_front new old ≡ o → P (cond (is_some o) (refuses Failure) answer)) [
        | Some rest ↦ λ around. refused
        | None ↦ λ not_around. right not_inside not_around
      ] refl
    ] refl

module _ (P : Outcome → Type 0) (refused : (code : StatusCode) → P (refuses code)) (idle : P (succeeds [])) (tree : Tree) (moment : ℕ) (old new : Path)
    (moved : after_front old new ≡ None → after_front new old ≡ None → P (moves tree moment old new)) where
  either : (b : Bool) (this that : Outcome) → P this → P that → P (cond b this that)
  either true this that p q = p
  either false this that p q = q

  rooted : (path : Path) (answer : Outcome) → P answer → P (unless_root path answer)
  rooted [] answer p = refused Failure
  rooted (n ∷ path) answer p = p

  moved_to : (place : Lookup) → P (moves tree moment old new) → P (rename_to tree moment old new place)
  moved_to NoWay p = refused NoSuchFile
  moved_to (At label) p = refused Failure
  moved_to Absent p = p

  renamed : (place : Lookup) → P (rename tree moment old new place)
  renamed NoWay = refused NoSuchFile
  renamed Absent = refused NoSuchFile
  renamed (At label) = apart P old new _ (refused Failure) (λ not_inside not_around. moved_to (look_up tree new) (moved not_inside not_around))

  replaced : (label : ℕ) (found : Option (ℕ × Object)) → P (moves tree moment old new) → P (replace_by tree moment old new label found)
  replaced label None p = either (is_faulty_way tree new) _ _ (refused NoSuchFile) p
  replaced label (Some (at, Directory m)) p = either (is_directory tree old && is_empty tree.names new) _ _ p (refused Failure)
  replaced label (Some (at, File m contents)) p = either (nat_eq label at) _ _ idle (either (is_directory tree old) _ _ (refused Failure) p)

  posix_renamed : (place : Lookup) → P (posix_rename tree moment old new place)
  posix_renamed NoWay = refused NoSuchFile
  posix_renamed Absent = refused NoSuchFile
  posix_renamed (At label) =
      either (same_path old new) _ _ idle
      (apart P old new _ (refused Failure) (λ not_inside not_around. replaced label (found_at tree new) (moved not_inside not_around)))

  pub rename_cases : (session number : ℕ) → P (answer_to tree session number moment (OnPaths pair_op.Rename old new))
  rename_cases session number = rooted old _ (rooted new _ (renamed (look_up tree old)))

  pub posix_rename_cases : (session number : ℕ) → P (answer_to tree session number moment (OnPaths pair_op.PosixRename old new))
  posix_rename_cases session number = rooted old _ (rooted new _ (posix_renamed (look_up tree old)))

module _ (P : Outcome → Type 0) (refused : (code : StatusCode) → P (refuses code)) (tree : Tree) (moment : ℕ) (old new : Path)
    (linked : (label : ℕ) (m : Metadata) (contents : List ℕ) → found_at tree old ≡ Some (label, File m contents) → P (link_to tree moment new label (look_up tree new))) where
  link_found : (found : Option (ℕ × Object)) → found_at tree old ≡ found → P (link tree moment new found)
  link_found None e = refused NoSuchFile
  link_found (Some (label, Directory m)) e = refused Failure
  link_found (Some (label, File m contents)) e = linked label m contents e

  if_rooted : (path : Path) (answer : Outcome) → P answer → P (unless_root path answer)
  if_rooted [] answer p = refused Failure
  if_rooted (n ∷ path) answer p = p

  pub link_cases : (session number : ℕ) → P (answer_to tree session number moment (OnPaths pair_op.Link old new))
  link_cases session number = if_rooted old _ (if_rooted new _ (link_found (found_at tree old) refl))

-- a link to a path fails or is allowed
pub link_to_cases : (P : Outcome → Type 0) → ((code : StatusCode) → P (refuses code)) → (tree : Tree) (moment : ℕ) (new : Path) (label : ℕ) (place : Lookup) → look_up tree new ≡ place
    → (look_up tree new ≡ Absent → nat_le MAX_LINKS (links tree.names label) ≡ false → P (succeeds (NewName new label ∷ touched tree moment (parent new)))) → P (link_to tree moment new label place)
link_to_cases P refused tree moment new label NoWay e made = refused NoSuchFile
link_to_cases P refused tree moment new label (At other) e made = refused Failure
link_to_cases P refused tree moment new label Absent e made =
    elim (nat_le MAX_LINKS (links tree.names label)) as (λ b. nat_le MAX_LINKS (links tree.names label) ≡ b → P (cond b (refuses Failure) (succeeds (NewName new label ∷ touched tree moment (parent new))))) [
      | true ↦ λ t. refused Failure
      | false ↦ λ f. made e f
    ] refl
