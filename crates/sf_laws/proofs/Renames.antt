-- The paths that a rename moves, the inode numbers that stay, and the requests that keep a move
-- allowed.
use Rattle.std.proofs.Common.{option_map, true, false, ◌≡◌, ◌≢◌, ◌⊎◌, ℕ, List, [], ◌∷◌, ◌++◌, length, Option, Some, None, IsSome, is_some, refl, sym, ap, ◌∙◌, subst, inl, inr, arith, length-append}
use Rattle.std.specs.Option.{option_map_or}
use Rattle.std.proofs.lemmas.List.{append-nil, take_all, take-append-le}
use Rattle.sf_path.specs.Names.{Name, Path}
use Rattle.sf_path.specs.Order.{parent}
use Rattle.sf_call.specs.declared.metadata.Metadata.{Metadata}
use Rattle.sf_call.specs.declared.lookup.Lookup.{Lookup}
use Rattle.sf_call.specs.declared.lookup.Lookup.TheVariants.{Absent, At}
use Rattle.sf_call.specs.Attributes.{Object}
use Rattle.sf_call.specs.Attributes.Object.{File}
use Rattle.sf_call.specs.declared.request.Request.{Request}
use Rattle.sf_field.specs.declared.operation.PathOp.TheVariants as path_op
use Rattle.sf_field.specs.declared.operation.PairOp.{PairOp}
use Rattle.sf_field.specs.declared.operation.PairOp.TheVariants as pair_op
use Rattle.sf_call.specs.declared.request.Request.TheVariants as request
use Rattle.sf_call.specs.Requests.{Target, target_of}
use Rattle.sf_call.specs.Requests.Target.{ByHandle, OnPath, OnPaths}
use Rattle.sf_call.specs.Tree.{Tree, label_at, object_of, directory_at, is_directory_object, is_directory, is_faulty_way, look_up, found_place, found_at, after_front}
use Rattle.sf_call.specs.Changes.{Change, done, touch, moved_by}
use Rattle.sf_call.specs.Changes.Change.{Move}
use Rattle.sf_call.specs.Allowed.{AreAllowed, IsMove}
use Rattle.sf_call.specs.Calls.{answer_to, apply, moves}
use Rattle.sf_call.proofs.Laws.{after_front-append, append-after_front, front_itself, place_label, place_free, open_way, is_directory_label, is_directory_is, is_there_directory, allowed_changes, rename_cases, posix_rename_cases, link_cases, link_to_cases}
use Rattle.sf_laws.specs.LeftAlone.{BeginsWithEither}
use Rattle.sf_laws.specs.Own.{IsOwnPath}
use Rattle.sf_laws.proofs.LeftAlone.{none_of}
use Rattle.sf_laws.proofs.OwnChanges.{IsOwnChange, AreOwn, own, other_paths}
use Rattle.sf_laws.proofs.NewCalls.{CallOn, NewCall, IsStrictlyBelow, tree_before, outcome_of, tree_after}
use Rattle.sf_laws.proofs.StillMoves.{still_after}

-- ---- own paths by the target

-- none, the path, or what begins with one of two
abbrev pub IsOfTarget : Target → Path → Type 0
IsOfTarget (ByHandle handle) q = ⊥
IsOfTarget (OnPath path) q = q ≡ path
IsOfTarget (OnPaths old new) q = BeginsWithEither old new q

own_of_target : (r : Request) (q : Path) → IsOwnPath r q → IsOfTarget (target_of r) q
own_of_target (request.OnPath (path_op.Mkdir attrs) path) q own = own
own_of_target (request.OnPath path_op.Rmdir path) q own = own
own_of_target (request.OnPath path_op.Remove path) q own = own
own_of_target (request.OnPath (path_op.Open flags attrs) path) q own = own
own_of_target (request.OnPaths pair_op.Rename old new) q own = own
own_of_target (request.OnPaths pair_op.PosixRename old new) q own = own
own_of_target (request.OnPaths pair_op.Link old new) q own = inr (ap (λ o. is_some o) (ap (after_front new) own ∙ front_itself new))
own_of_target _ q own = absurd own

own_of : (r : Request) (target : Target) (q : Path) → target_of r ≡ target → IsOwnPath r q → IsOfTarget target q
own_of r target q e own = subst (λ (t : Target). IsOfTarget t q) e (own_of_target r q own)

-- a path other than the target's keeps its inode number
labels_by_target : (tree : Tree) (session number moment : ℕ) (r : Request) (target : Target) (q : Path) → target_of r ≡ target → ¬ IsOfTarget target q
    → label_at (apply tree session number moment r).tree.names q ≡ label_at tree.names q
labels_by_target tree session number moment r target q e other =
    other_paths tree session number r (answer_to tree session number moment r).changes tree q (own tree session number moment r) (λ is. other (own_of r target q e is))

-- ---- moved paths

-- the request is on these two paths
by_target : (r : Request) (old new : Path) → target_of r ≡ OnPaths old new → (op : PairOp) × (r ≡ request.OnPaths op old new)
by_target (request.OnPaths op a b) old new e = let first : a ≡ old = cc in let second : b ≡ new = cc in (op, cc)
by_target _ old new e = cc

-- setting a modification time moves nothing
touch_moves : (moment : ℕ) (o : Option (ℕ × Metadata)) → moved_by (touch moment o) ≡ None
touch_moves moment None = refl
touch_moves moment (Some e) = refl

-- if a path resolves, its proper prefixes are directories
front_is_directory : (tree : Tree) (path : Path) (name : Name) (rest : Path) → is_faulty_way tree (path ++ name ∷ rest) ≡ false → is_directory tree path ≡ true
front_is_directory tree path name rest way =
    ap (is_directory tree) (sym (take-append-le (length path) path (name ∷ rest) (omega arith) ∙ take_all (length path) path (omega arith)))
    ∙ (open_way tree (path ++ name ∷ rest)).0 way (length path) (omega (arith, length-append path (name ∷ rest)))

begins : (o : Option Path) → IsSome o → ((rest : Path) → o ≡ Some rest → ⊥) → ⊥
begins None some nowhere = cc
begins (Some rest) some nowhere = nowhere rest refl

-- a file that is found has a path and an object
found_file : (tree : Tree) (path : Path) (label : ℕ) (m : Metadata) (contents : List ℕ) → found_at tree path ≡ Some (label, File m contents)
    → (label_at tree.names path ≡ Some label) × (object_of tree.objects label ≡ Some (File m contents))
found_file tree path label m contents e = by_place (look_up tree path) refl e where
  by_object : (at : ℕ) (o : Option Object) → object_of tree.objects at ≡ o → look_up tree path ≡ At at → option_map {U = ℕ × Object} (λ (object : Object). (at, object)) o ≡ Some (label, File m contents)
      → (label_at tree.names path ≡ Some label) × (object_of tree.objects label ≡ Some (File m contents))
  by_object at None is here f = cc
  by_object at (Some object) is here f =
      let same : at ≡ label = ap (λ (o : Option (ℕ × Object)). option_map_or (λ x. x.0) o label) f in
      let object_is : Some object ≡ Some (File m contents) = ap (option_map (λ (x : ℕ × Object). x.1)) f in
      (place_label tree path at here ∙ ap Some same, ap (object_of tree.objects) (sym same) ∙ is ∙ object_is)

  by_place : (place : Lookup) → look_up tree path ≡ place → found_place tree.objects place ≡ Some (label, File m contents)
      → (label_at tree.names path ≡ Some label) × (object_of tree.objects label ≡ Some (File m contents))
  by_place (At at) here f = by_object at (object_of tree.objects at) refl here f
  by_place _ here f = cc

module _ (tree : Tree) (session number moment : ℕ) (r : Request) (old new : Path) (e : target_of r ≡ OnPaths old new) where
  -- the new path names the file as well, and was absent
  pub record Links (changes : List Change) : Type 0 where
    pub label : ℕ
    pub metadata : Metadata
    pub contents : List ℕ
    pub is_link : r ≡ request.OnPaths pair_op.Link old new
    pub file : found_at tree old ≡ Some (label, File metadata contents)
    pub free : look_up tree new ≡ Absent
    pub unmoved : moved_by changes ≡ None

  -- a rename changes nothing or moves; a link changes nothing or adds a name
  abbrev pub IsStillOrMoves : List Change → Type 0
  IsStillOrMoves changes = (changes ≡ []) ⊎ ((changes ≡ (moves tree moment old new).changes) ⊎ Links changes)

  by_op : (op : PairOp) → r ≡ request.OnPaths op old new → IsStillOrMoves (answer_to tree session number moment (request.OnPaths op old new)).changes
  by_op pair_op.Rename is = rename_cases (λ answer. IsStillOrMoves answer.changes) (λ code. inl refl) (inl refl) tree moment old new (λ _ _. inr (inl refl)) session number
  by_op pair_op.PosixRename is = posix_rename_cases (λ answer. IsStillOrMoves answer.changes) (λ code. inl refl) (inl refl) tree moment old new (λ _ _. inr (inl refl)) session number
  by_op pair_op.Link is =
      link_cases (λ answer. IsStillOrMoves answer.changes) (λ code. inl refl) tree moment old new
      (λ label m contents file. link_to_cases (λ answer. IsStillOrMoves answer.changes) (λ code. inl refl) tree moment new label (look_up tree new) refl
      (λ free _. inr (inr (record { label = label; metadata = m; contents = contents; is_link = is; file = file; free = free; unmoved = touch_moves moment (directory_at tree (parent new)) })))) session number

  still_or_moves : IsStillOrMoves (answer_to tree session number moment r).changes
  still_or_moves =
      let on = by_target r old new e in
      subst (λ (q : Request). IsStillOrMoves (answer_to tree session number moment q).changes) (sym on.1) (by_op on.0 on.1)

  pub moved_changes : (p : Path) → moved_by (answer_to tree session number moment r).changes ≡ Some p → (p ≡ old) × ((answer_to tree session number moment r).changes ≡ (moves tree moment old new).changes)
  moved_changes p some = elim still_or_moves [
    | inl still ↦ let none : None ≡ Some p = ap (λ (changes : List Change). moved_by changes) (sym still) ∙ some in cc
    | inr other ↦ elim other [
      | inl is ↦ let same : Some old ≡ Some p = ap (λ (changes : List Change). moved_by changes) (sym is) ∙ some in (cc, is)
      | inr links ↦ let none : None ≡ Some p = sym links.unmoved ∙ some in cc
    ]
  ]

  -- a call that moves nothing keeps the inode numbers of existing paths
  pub unmoved_labels : moved_by (answer_to tree session number moment r).changes ≡ None → (q : Path) → IsSome (label_at tree.names q)
      → label_at (apply tree session number moment r).tree.names q ≡ label_at tree.names q
  unmoved_labels none q some = elim still_or_moves [
    | inl still ↦ ap (λ (cs : List Change). label_at (done tree cs).names q) still
    | inr other ↦ elim other [
      | inl is ↦ let moves_old : Some old ≡ None = ap (λ (changes : List Change). moved_by changes) (sym is) ∙ none in cc
      | inr links ↦
          other_paths tree session number r (answer_to tree session number moment r).changes tree q (own tree session number moment r)
          (λ owned.
          let at : q ≡ new = subst (λ (x : Request). IsOwnPath x q) links.is_link owned in
          let gone : label_at tree.names q ≡ None = ap (label_at tree.names) at ∙ (place_free tree new links.free).1 in
          let nothing = ap (λ (o : Option ℕ). is_some o) (sym gone) ∙ some in cc)
    ]
  ]

  -- and if one path begins with the other, it changes nothing
  module _ (way : (path : Path) (label : ℕ) → label_at tree.names path ≡ Some label → is_faulty_way tree path ≡ false) where
    named_old : (links : Links (answer_to tree session number moment r).changes) → label_at tree.names old ≡ Some links.label
    named_old links = (found_file tree old links.label links.metadata links.contents links.file).0

    no_inside : Links (answer_to tree session number moment r).changes → (rest : Path) → new ≡ old ++ rest → ⊥
    no_inside links [] is =
        let same : label_at tree.names old ≡ None = ap (label_at tree.names) (sym (is ∙ append-nil old)) ∙ (place_free tree new links.free).1 in
        let some = named_old links in cc
    no_inside links (name ∷ rest) is =
        let file = found_file tree old links.label links.metadata links.contents links.file in
        let directory : is_directory tree old ≡ true = front_is_directory tree old name rest (ap (is_faulty_way tree) (sym is) ∙ (place_free tree new links.free).0) in
        let no : is_directory tree old ≡ false = is_directory_is tree old ∙ ap (is_directory_label tree.objects) file.0 ∙ ap (λ (o : Option Object). is_directory_object o) file.1 in cc

    no_around : Links (answer_to tree session number moment r).changes → (rest : Path) → old ≡ new ++ rest → ⊥
    no_around links [] is =
        let same : label_at tree.names old ≡ None = ap (label_at tree.names) (is ∙ append-nil new) ∙ (place_free tree new links.free).1 in
        let some = named_old links in cc
    no_around links (name ∷ rest) is =
        let directory : is_directory tree new ≡ true = front_is_directory tree new name rest (ap (is_faulty_way tree) (sym is) ∙ way old links.label (named_old links)) in
        let there = is_there_directory tree new directory in
        let none = (place_free tree new links.free).1 in
        let some = there.1 in cc

    pub unmoved_nested : moved_by (answer_to tree session number moment r).changes ≡ None → IsSome (after_front old new) ⊎ IsSome (after_front new old) → (answer_to tree session number moment r).changes ≡ []
    unmoved_nested none nested = elim still_or_moves [
      | inl still ↦ still
      | inr other ↦ elim other [
        | inl is ↦ let moves_old : Some old ≡ None = ap (λ (changes : List Change). moved_by changes) (sym is) ∙ none in cc
        | inr links ↦ absurd (elim nested [
          | inl inside ↦ begins (after_front old new) inside (λ rest at. no_inside links rest (append-after_front old new rest at))
          | inr around ↦ begins (after_front new old) around (λ rest at. no_around links rest (append-after_front new old rest at))
        ])
      ]
    ]

pub moved_old : (c : NewCall) (old new p : Path) → target_of c.request ≡ OnPaths old new → moved_by (outcome_of c).changes ≡ Some p → (p ≡ old) × IsMove (tree_before c) old new
moved_old c old new p e some =
    let moved = moved_changes (tree_before c) c.session c.number c.moment c.request old new e p some in
    (moved.0, (subst (AreAllowed c.number (tree_before c)) moved.1 (allowed_changes c.history c.number c.session c.moment c.request c.legal c.above c.fresh)).0)

-- two own paths of a request that is no rename are one
one_own : (t : Target) (p q : Path) → ((old new : Path) → t ≢ OnPaths old new) → IsOfTarget t p → IsOfTarget t q → p ≡ q
one_own (ByHandle handle) p q other a b = absurd a
one_own (OnPath path) p q other a b = a ∙ sym b
one_own (OnPaths old new) p q other a b = absurd (other old new refl)

module _ (tree : Tree) (session number : ℕ) (r : Request) (other : (old new : Path) → target_of r ≢ OnPaths old new) where
  no_own_move : (old new : Path) → IsOwnChange tree session number r (Move old new) → ⊥
  no_own_move old new is =
      let here = own_of_target r (old ++ []) (is (old ++ []) (inl (ap (λ o. is_some o) (after_front-append old [])))) in
      let below = own_of_target r (old ++ [] ∷ []) (is (old ++ [] ∷ []) (inl (ap (λ o. is_some o) (after_front-append old ([] ∷ []))))) in
      let lengths = ap (λ (p : Path). length p) (one_own (target_of r) (old ++ []) (old ++ [] ∷ []) other here below) in
      absurd (omega (arith, lengths, length-append old [], length-append old ([] ∷ [])))

  none_moved : (changes : List Change) → AreOwn tree session number r changes → moved_by changes ≡ None
  none_moved [] all = refl
  none_moved (Move old new ∷ cs) all = absurd (no_own_move old new all.0)
  none_moved (_ ∷ cs) all = none_moved cs all.1

pub never_moved : (tree : Tree) (session number moment : ℕ) (r : Request) → ((old new : Path) → target_of r ≢ OnPaths old new) → moved_by (answer_to tree session number moment r).changes ≡ None
never_moved tree session number moment r other = none_moved tree session number r other (answer_to tree session number moment r).changes (own tree session number moment r)

-- ---- unchanged inode numbers

nor_below : (tree : Tree) (old new q : Path) → IsMove tree old new → IsSome (label_at tree.names q) → q ≢ new → after_front new q ≡ None
nor_below tree old new q may some other = none_of (after_front new q) (λ inside. begins (after_front new q) inside by_rest) where
  by_rest : (rest : Path) → after_front new q ≡ Some rest → ⊥
  by_rest [] e = other (append-after_front new q [] e ∙ append-nil new)
  by_rest (name ∷ rest) e =
      let none = ap (label_at tree.names) (append-after_front new q (name ∷ rest) e) ∙ may.bare name rest in
      let no = ap (λ (o : Option ℕ). is_some o) (sym none) ∙ some in cc

outside : (old new q : Path) → after_front old q ≡ None → after_front new q ≡ None → BeginsWithEither old new q → ⊥
outside old new q not_old not_new (inl is) = let no = ap (λ (o : Option Path). is_some o) not_old in cc
outside old new q not_old not_new (inr is) = let no = ap (λ (o : Option Path). is_some o) not_new in cc

pub spared_labels : (c : NewCall) (old new q : Path) → target_of c.request ≡ OnPaths old new → IsSome (label_at (tree_before c).names q) → after_front old q ≡ None → q ≢ new
    → label_at (tree_after c).names q ≡ label_at (tree_before c).names q
spared_labels c old new q e some not_old other =
    by_move (moved_by changes) refl where
      changes : List Change
      changes = (outcome_of c).changes

      by_move : (o : Option Path) → moved_by changes ≡ o → label_at (done (tree_before c) changes).names q ≡ label_at (tree_before c).names q
      by_move None none = unmoved_labels (tree_before c) c.session c.number c.moment c.request old new e none q some
      by_move (Some p) moved =
          let may = (moved_old c old new p e moved).1 in
          labels_by_target (tree_before c) c.session c.number c.moment c.request (OnPaths old new) q e
          (λ is. outside old new q not_old (nor_below (tree_before c) old new q may some other) is)

pub below_labels : (c : CallOn) (old path q : Path) → target_of c.request ≡ OnPath path → IsStrictlyBelow old path → ((n : Name) (s : Path) → after_front old q ≢ Some (n ∷ s))
    → label_at (apply c.tree c.session c.number c.moment c.request).tree.names q ≡ label_at c.tree.names q
below_labels c old path q e below not_below =
    labels_by_target c.tree c.session c.number c.moment c.request (OnPath path) q e (λ same. not_below below.name below.rest (ap (after_front old) same ∙ below.is))

-- ---- requests that keep a move allowed

pub still_move : (c : NewCall) (old new path : Path) → target_of c.request ≡ OnPath path → IsStrictlyBelow old path → IsMove (tree_before c) old new → IsMove (tree_after c) old new
still_move c old new path e below may =
    still_after c old new
    (λ q own. record { name = below.name; rest = below.rest; is = ap (after_front old) (own_of c.request (OnPath path) q e own) ∙ below.is }) may
