-- The renames do an allowed move.
use Rattle.std.proofs.Common.{◌≡◌, ℕ, Bool, true, false, cond, ◌&&◌, ◌||◌, nat_eq, List, [], ◌∷◌, ◌++◌, Option, Some, None, IsSome, is_some, option_map, refl, sym, ap, ◌∙◌}
use Rattle.std.specs.List.{cons_option}
use Rattle.std.specs.Ordering.{is_eq}
use Rattle.std.proofs.lemmas.Bool.{eqb-true}
use Rattle.std.specs.Cmp.{tied_itself}
use Rattle.sf_path.specs.Names.{Name, Path}
use Rattle.sf_path.specs.Order.{same_path, path_total}
use Rattle.sf_call.specs.declared.metadata.FileType.TheVariants as file_type
use Rattle.sf_field.specs.declared.operation.PairOp.TheVariants as pair_op
use Rattle.sf_call.specs.declared.request.Request.TheVariants.{OnPaths}
use Rattle.sf_call.specs.declared.lookup.Lookup.TheVariants.{NoWay, At}
use Rattle.sf_call.specs.Attributes.{Object}
use Rattle.sf_call.specs.Attributes.Object.{Directory, File}
use Rattle.sf_call.specs.Tree.{Tree, label_at, object_of, is_directory, is_faulty_way, lookup_of, look_up, found_place, after_front, only_name, children, is_nil, is_empty}
use Rattle.sf_call.specs.declared.record.Record.{Record}
use Rattle.sf_call.specs.Histories.{replay, IsLegal}
use Rattle.sf_call.specs.Allowed.{file_type_of, IsMove}
use Rattle.sf_call.specs.Calls.{Outcome, answer_to, refuses, succeeds, moves, unless_nested, unless_root, rename_to, rename, replace_by, posix_rename}
use Rattle.sf_reply.specs.declared.reply.StatusCode.TheVariants.{NoSuchFile, Failure}
use Rattle.sf_call.proofs.Laws.{same_name_itself, same_path_is, append-after_front, kind_by, kind_at, named_object, named_way}

-- the lookup of a path after its proper prefixes resolve
place_open : (tree : Tree) (path : Path) (o : Option ℕ) → is_faulty_way tree path ≡ false → label_at tree.names path ≡ o → look_up tree path ≡ lookup_of o
place_open tree path o way at = ap (λ b. cond b NoWay (lookup_of (label_at tree.names path))) way ∙ ap lookup_of at

-- a path that is no prefix of another differs from it
apart_paths : (p q : Path) → after_front p q ≡ None → same_path p q ≡ false
apart_paths p q none =
    elim (same_path p q) as (λ b. same_path p q ≡ b → b ≡ false) [
      | true ↦ λ t. not_same p q (same_path_is p q t) none
      | false ↦ λ t. refl
    ] refl where
      front_itself : (p : Path) → is_some (after_front p p) ≡ true
      front_itself [] = refl
      front_itself (n ∷ p) = ap (λ b. is_some (cond b (after_front p p) None)) (same_name_itself n) ∙ front_itself p

      not_same : (p q : Path) → p ≡ q → after_front p q ≡ None → true ≡ false
      not_same p q same none = sym (front_itself p) ∙ ap (λ (r : Path). is_some (after_front p r)) same ∙ ap (λ (o : Option Path). is_some o) none

-- if no path is longer by a name, a path has no children
only_child : (o : Option Path) (name : Name) → only_name o ≡ Some name → o ≡ Some (name ∷ [])
only_child (Some (n ∷ [])) name e = let same : n ≡ name = cc in ap (λ (m : Name). Some (m ∷ [])) same
only_child _ name e = cc

bare_empty : (names : List (Path × ℕ)) (path : Path) → ((name : Name) → label_at names (path ++ name ∷ []) ≡ None) → is_empty names path ≡ true
bare_empty [] path none = refl
bare_empty (e ∷ es) path none =
    elim (only_name (after_front path e.0)) as (λ o. only_name (after_front path e.0) ≡ o → is_nil (cons_option o (children es path)) ≡ true) [
      | None ↦ λ _. bare_empty es path (λ name. later (same_path (path ++ name ∷ []) e.0) e.1 (label_at es (path ++ name ∷ [])) (none name))
      | Some name ↦ λ is. let at : e.0 ≡ path ++ name ∷ [] = append-after_front path e.0 (name ∷ []) (only_child (after_front path e.0) name is) in
          here name at (none name)
    ] refl where
      later : (b : Bool) (l : ℕ) (o : Option ℕ) → cond b (Some l) o ≡ None → o ≡ None
      later true l o k = cc
      later false l o k = k

      here : (name : Name) → e.0 ≡ path ++ name ∷ [] → label_at (e ∷ es) (path ++ name ∷ []) ≡ None → false ≡ true
      here name at k =
          let found : cond (same_path (path ++ name ∷ []) (path ++ name ∷ [])) (Some e.1) (label_at es (path ++ name ∷ [])) ≡ None =
          ap (λ (p : Path). cond (same_path (path ++ name ∷ []) p) (Some e.1) (label_at es (path ++ name ∷ []))) (sym at) ∙ k in
          let tied : Some e.1 ≡ None = ap (λ b. cond b (Some e.1) (label_at es (path ++ name ∷ []))) (sym (ap is_eq (tied_itself path_total (path ++ name ∷ [])))) ∙ found in cc

module _ (tree : Tree) (moment : ℕ) (old new : Path) (object : (path : Path) (label : ℕ) → label_at tree.names path ≡ Some label → IsSome (object_of tree.objects label))
    (way : (path : Path) (label : ℕ) → label_at tree.names path ≡ Some label → is_faulty_way tree path ≡ false) (may : IsMove tree old new) where
  old_place : look_up tree old ≡ At may.label
  old_place = place_open tree old (Some may.label) (way old may.label may.named) may.named

  not_nested : (answer : Outcome) → unless_nested old new answer ≡ answer
  not_nested answer =
      ap (λ (o : Option Path). cond (is_some o || is_some (after_front new old)) (refuses Failure) answer) may.not_inside
      ∙ ap (λ (o : Option Path). cond (is_some o) (refuses Failure) answer) may.not_around

  not_rooted : (answer : Outcome) → unless_root old (unless_root new answer) ≡ answer
  not_rooted answer = neither old new may.not_inside may.not_around where
    neither : (p q : Path) → after_front p q ≡ None → after_front q p ≡ None → unless_root p (unless_root q answer) ≡ answer
    neither (n ∷ p) (m ∷ q) a b = refl
    neither _ _ a b = cc

  plain_moves : label_at tree.names new ≡ None → rename tree moment old new (look_up tree old) ≡ moves tree moment old new
  plain_moves free =
      ap (rename tree moment old new) old_place ∙ not_nested (rename_to tree moment old new (look_up tree new))
      ∙ ap (rename_to tree moment old new) (place_open tree new None may.way free)

  kind_true : (b : Bool) → Some file_type.Directory ≡ Some (kind_by b) → b ≡ true
  kind_true true e = refl
  kind_true false e = cc

  kind_false : (b : Bool) → Some file_type.File ≡ Some (kind_by b) → b ≡ false
  kind_false true e = cc
  kind_false false e = refl

  replaces_object : (at : ℕ) (o : Option Object) → nat_eq may.label at ≡ false → is_some o ≡ true → option_map file_type_of o ≡ Some (kind_by (is_directory tree old)) → replace_by tree moment old new may.label (option_map (λ (object : Object). (at, object)) o) ≡ moves tree moment old new
  replaces_object at None apart some kind = cc
  replaces_object at (Some (Directory m)) apart some kind =
      ap (λ b. cond (b && is_empty tree.names new) (moves tree moment old new) (refuses Failure)) (kind_true (is_directory tree old) kind)
      ∙ ap (λ b. cond b (moves tree moment old new) (refuses Failure)) (bare_empty tree.names new (λ name. may.bare name []))
  replaces_object at (Some (File m contents)) apart some kind =
      ap (λ b. cond b (succeeds []) (cond (is_directory tree old) (refuses Failure) (moves tree moment old new))) apart
      ∙ ap (λ b. cond b (refuses Failure) (moves tree moment old new)) (kind_false (is_directory tree old) kind)

  another : (at : ℕ) → label_at tree.names new ≡ Some at → nat_eq may.label at ≡ false
  another at there =
      elim (nat_eq may.label at) as (λ b. nat_eq may.label at ≡ b → b ≡ false) [
        | true ↦ λ t. absurd (may.other (there ∙ ap Some (sym (eqb-true may.label at t))))
        | false ↦ λ f. refl
      ] refl

  replaces : (o : Option ℕ) → label_at tree.names new ≡ o → replace_by tree moment old new may.label (found_place tree.objects (lookup_of o)) ≡ moves tree moment old new
  replaces None e = ap (λ b. cond b (refuses NoSuchFile) (moves tree moment old new)) may.way
  replaces (Some at) e = replaces_object at (object_of tree.objects at) (another at e) (object new at e) (may.alike at e ∙ kind_at tree old may.label (object old may.label may.named) may.named)

  posix_moves : posix_rename tree moment old new (look_up tree old) ≡ moves tree moment old new
  posix_moves =
      ap (posix_rename tree moment old new) old_place
      ∙ ap (λ b. cond b (succeeds []) (unless_nested old new (replace_by tree moment old new may.label (found_place tree.objects (look_up tree new))))) (apart_paths old new may.not_inside)
      ∙ not_nested (replace_by tree moment old new may.label (found_place tree.objects (look_up tree new)))
      ∙ ap (λ place. replace_by tree moment old new may.label (found_place tree.objects place)) (place_open tree new (label_at tree.names new) may.way refl)
      ∙ replaces (label_at tree.names new) refl

  plain_answer : (session number : ℕ) → label_at tree.names new ≡ None → answer_to tree session number moment (OnPaths pair_op.Rename old new) ≡ moves tree moment old new
  plain_answer session number free = not_rooted (rename tree moment old new (look_up tree old)) ∙ plain_moves free

  posix_answer : (session number : ℕ) → answer_to tree session number moment (OnPaths pair_op.PosixRename old new) ≡ moves tree moment old new
  posix_answer session number = not_rooted (posix_rename tree moment old new (look_up tree old)) ∙ posix_moves

pub rename_moves : (history : List Record) (session number moment : ℕ) (old new : Path) → IsLegal history → IsMove (replay history) old new
    → label_at (replay history).names new ≡ None → answer_to (replay history) session number moment (OnPaths pair_op.Rename old new) ≡ moves (replay history) moment old new
rename_moves history session number moment old new legal may free =
    plain_answer (replay history) moment old new (λ path label. named_object history path label legal) (λ path label. named_way history path label legal) may session number free

pub posix_rename_moves : (history : List Record) (session number moment : ℕ) (old new : Path) → IsLegal history → IsMove (replay history) old new
    → answer_to (replay history) session number moment (OnPaths pair_op.PosixRename old new) ≡ moves (replay history) moment old new
posix_rename_moves history session number moment old new legal may =
    posix_answer (replay history) moment old new (λ path label. named_object history path label legal) (λ path label. named_way history path label legal) may session number
