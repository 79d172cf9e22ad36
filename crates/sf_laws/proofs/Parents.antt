-- The effect of a request on the directory in which it adds or removes an entry.
use Rattle.std.proofs.Common.{option_map, ◌≡◌, ◌≢◌, ◌⊎◌, ◌-◌, ℕ, nat_eq, Bool, true, false, cond, not, ◌&&◌, [], ◌∷◌, ◌++◌, length, Option, Some, None, refl, sym, ap, ◌∙◌, subst, eq-eqb, inl, inr, arith}
use Rattle.std.proofs.lemmas.Bool.{eqb-true}
use Rattle.std.specs.Ordering.{nat_cmp}
use Rattle.std.specs.Cmp.{nat_cmp_total}
use Rattle.std.specs.Map.{remove_entry}
use Rattle.std.specs.BTreeMap.{is_at}
use Rattle.std.specs.FinMap.{nat_cmp-IsAntisymmetric}
use Rattle.std.proofs.lemmas.List.{length-take}
use Rattle.sf_path.specs.Names.{Name, Path}
use Rattle.sf_path.specs.Order.{parent, path_cmp}
use Rattle.sf_field.specs.declared.attrs.Attrs.{Attrs}
use Rattle.sf_field.specs.declared.open_flags.OpenFlags.{OpenFlags}
use Rattle.sf_call.specs.declared.metadata.Metadata.{Metadata}
use Rattle.sf_call.specs.declared.lookup.Lookup.{Lookup}
use Rattle.sf_call.specs.declared.lookup.Lookup.TheVariants.{NoWay, Absent, At}
use Rattle.sf_call.specs.declared.request.Request.{Request}
use Rattle.sf_field.specs.declared.operation.PathOp.TheVariants as path_op
use Rattle.sf_field.specs.declared.operation.PairOp.TheVariants as pair_op
use Rattle.sf_call.specs.declared.request.Request.TheVariants.{OnPath, OnPaths}
use Rattle.sf_call.specs.Attributes.{Object, modified_at}
use Rattle.sf_call.specs.Attributes.Object.{Directory, File}
use Rattle.sf_call.specs.Tree.{Tree, label_at, object_of, directory_at, look_up, found_at, is_empty, after_front}
use Rattle.sf_call.specs.Moves.{moved}
use Rattle.sf_call.specs.Changes.{changed, done, touch, touched}
use Rattle.sf_call.specs.Changes.Change.{SetObject, NewPath, NewName, GonePath, Move}
use Rattle.sf_call.specs.Calls.{Outcome, answer_to, make_directory, remove_directory, remove_file, has_all_handles, open_present, open_file, moves}
use Rattle.sf_call.proofs.Laws.{exact_paths, other_put, other_set, other_removed, set_there, kept_object, directory_there, moved_outside, no_front, no_parent, rename_cases, posix_rename_cases, link_cases, link_to_cases}
use Rattle.sf_laws.specs.Own.{IsOneOf, NamesEntry}

-- a path other than the root differs from its parent
other_parent : (name : Name) (path : Path) → parent (name ∷ path) ≢ name ∷ path
other_parent name path same = let lengths = ap length same in omega (arith, lengths, length-take (length (name ∷ path) - 1) (name ∷ path))

-- a directory that is unchanged or has a new modification time is so after a touch
module _ (tree : Tree) (moment label : ℕ) (m : Metadata) (is : object_of tree.objects label ≡ Some (Directory m)) where
  abbrev pub MayBeTouched : Tree → Type 0
  MayBeTouched after = IsOneOf (Directory m) (Directory (modified_at moment m)) (object_of after.objects label)

  set_here : (after : Tree) (object : Object) → MayBeTouched after → object_of (changed after (SetObject label object)).objects label ≡ Some object
  set_here after object (inl at) = set_there (is_at (nat_cmp label)) after.objects (Directory m) object at
  set_here after object (inr at) = set_there (is_at (nat_cmp label)) after.objects (Directory (modified_at moment m)) object at

  touched_or_not : (after : Tree) (path : Path) (at : Option (ℕ × Metadata)) → directory_at tree path ≡ at → MayBeTouched after → MayBeTouched (done after (touch moment at))
  touched_or_not after path None e before = before
  touched_or_not after path (Some d) e before =
      elim (nat_eq d.0 label) as (λ b. nat_eq d.0 label ≡ b → MayBeTouched (changed after (SetObject d.0 (Directory (modified_at moment d.1))))) [
        | true ↦ λ same. inr (here (eqb-true d.0 label same))
        | false ↦ λ apart. subst (λ (o : Option Object). IsOneOf (Directory m) (Directory (modified_at moment m)) o)
            (sym (other_set nat_cmp nat_cmp-IsAntisymmetric after.objects d.0 _ label (λ same. let tied = eq-eqb d.0 label (sym same) in cc))) before
      ] refl where
        metadata_is : (x : Metadata) → Some (Directory x) ≡ Some (Directory m) → x ≡ m
        metadata_is x e = cc

        here : d.0 ≡ label → object_of (changed after (SetObject d.0 (Directory (modified_at moment d.1)))).objects label ≡ Some (Directory (modified_at moment m))
        here same =
            let metadata : d.1 ≡ m = metadata_is d.1 (sym (directory_there tree path d e).1 ∙ ap (object_of tree.objects) same ∙ is) in
            ap (λ (l : ℕ). object_of (changed after (SetObject l (Directory (modified_at moment d.1)))).objects label) same
            ∙ set_here after (Directory (modified_at moment d.1)) before
            ∙ ap (λ (x : Metadata). Some (Directory (modified_at moment x))) metadata

  both_touched : (after : Tree) (path other : Path) (at : Option (ℕ × Metadata)) → directory_at tree path ≡ at → MayBeTouched after
      → MayBeTouched (done after (touch moment at ++ touched tree moment other))
  both_touched after path other None e before = touched_or_not after other (directory_at tree other) refl before
  both_touched after path other (Some d) e before =
      touched_or_not (done after (touch moment (Some d))) other (directory_at tree other) refl (touched_or_not after path (Some d) e before)

  -- the parents of moved paths keep their paths
  parent_moved : (old new path : Path) → after_front old (parent path) ≡ None → after_front new (parent path) ≡ None
      → label_at tree.names (parent path) ≡ Some label → MayBeTouched (done tree (moves tree moment old new).changes)
  parent_moved old new path not_old not_new named =
      both_touched (changed tree (Move old new)) (parent old) (parent new) (directory_at tree (parent old)) refl
      (inl (kept_object (record tree { names = moved tree.names old new }) (parent path) label (moved_outside tree.names old new (parent path) not_old not_new ∙ named) ∙ is))

  pub both_ends : (old new path : Path) → (path ≡ old) ⊎ (path ≡ new) → after_front old new ≡ None → after_front new old ≡ None
      → label_at tree.names (parent path) ≡ Some label → MayBeTouched (done tree (moves tree moment old new).changes)
  both_ends old new path (inl at_old) not_inside not_around named =
      parent_moved old new path
      (ap (λ (p : Path). after_front old (parent p)) at_old ∙ no_parent old new not_inside)
      (ap (λ (p : Path). after_front new (parent p)) at_old ∙ no_front new old (length old - 1) not_around) named
  both_ends old new path (inr at_new) not_inside not_around named =
      parent_moved old new path
      (ap (λ (p : Path). after_front old (parent p)) at_new ∙ no_front old new (length new - 1) not_inside)
      (ap (λ (p : Path). after_front new (parent p)) at_new ∙ no_parent new old not_around) named

module _ (tree : Tree) (session number moment label : ℕ) (path : Path) (m : Metadata) (apart : label ≢ number)
    (named : label_at tree.names (parent path) ≡ Some label) (is : object_of tree.objects label ≡ Some (Directory m)) where
  abbrev pub Stays : Tree → Type 0
  Stays after = IsOneOf (Directory m) (Directory (modified_at moment m)) (object_of after.objects label)

  abbrev pub Keeps : Outcome → Type 0
  Keeps answer = Stays (done tree answer.changes)

  either : (b : Bool) (this that : Outcome) → Keeps this → Keeps that → Keeps (cond b this that)
  either true this that p q = p
  either false this that p q = q

  touch_stays : (after : Tree) (at : Option (ℕ × Metadata)) → directory_at tree (parent path) ≡ at → object_of after.objects label ≡ Some (Directory m) → Stays (done after (touch moment at))
  touch_stays after at e still = touched_or_not tree moment label m is after (parent path) at e (inl still)

  new_stays : (new : Path) (object : Object) → object_of (changed tree (NewPath new number object)).objects label ≡ Some (Directory m)
  new_stays new object = other_put nat_cmp nat_cmp-IsAntisymmetric nat_cmp_total tree.objects number object label apart ∙ is

  made : (attrs : Attrs) (place : Lookup) → Keeps (make_directory tree number moment path attrs place)
  made attrs Absent = touch_stays _ (directory_at tree (parent path)) refl (new_stays path _)
  made attrs _ = inl is

  file_object : (flags : OpenFlags) (l : ℕ) (o : Option Object) → object_of tree.objects l ≡ o → Keeps (open_present tree session number moment flags (option_map (λ (object : Object). (l, object)) o))
  file_object flags l (Some (File x contents)) at =
      let other : label ≢ l = λ same. let two : Some (Directory m) ≡ Some (File x contents) = sym is ∙ ap (object_of tree.objects) same ∙ at in cc in
      either (has_all_handles tree session) _ _ (inl is) (either (flags.truncate && flags.write) _ _
      (inl (other_set nat_cmp nat_cmp-IsAntisymmetric tree.objects l _ label other ∙ is)) (inl is))
  file_object flags l _ at = inl is

  file_opened : (flags : OpenFlags) (attrs : Attrs) (place : Lookup) → Keeps (open_file tree session number moment path flags attrs place)
  file_opened flags attrs NoWay = inl is
  file_opened flags attrs (At l) = either (flags.create && flags.exclusive) _ _ (inl is) (file_object flags l (object_of tree.objects l) refl)
  file_opened flags attrs Absent =
      either (not flags.create) _ _ (inl is) (either (has_all_handles tree session) _ _ (inl is)
      (touch_stays _ (directory_at tree (parent path)) refl (new_stays path _)))

  module _ (not_root : parent path ≢ path) where
    gone : Stays (done tree (GonePath path ∷ touched tree moment (parent path)))
    gone =
        touch_stays (changed tree (GonePath path)) (directory_at tree (parent path)) refl
        (kept_object (record tree { names = remove_entry (is_at (path_cmp path)) tree.names }) (parent path) label
        (other_removed path_cmp exact_paths path (parent path) tree.names not_root ∙ named) ∙ is)

    directory_removed : (found : Option (ℕ × Object)) → Keeps (remove_directory tree moment path found)
    directory_removed (Some (l, Directory x)) = either (is_empty tree.names path) _ _ gone (inl is)
    directory_removed _ = inl is

    file_removed : (found : Option (ℕ × Object)) → Keeps (remove_file tree moment path found)
    file_removed (Some (l, File x contents)) = gone
    file_removed _ = inl is

module _ (tree : Tree) (session number moment label : ℕ) (m : Metadata) (apart : label ≢ number) (is : object_of tree.objects label ≡ Some (Directory m)) where
  abbrev pub KeepsParent : Path → Request → Type 0
  KeepsParent path request = label_at tree.names (parent path) ≡ Some label
      → IsOneOf (Directory m) (Directory (modified_at moment m)) (object_of (done tree (answer_to tree session number moment request).changes).objects label)

  abbrev pub StillThere : Outcome → Type 0
  StillThere answer = MayBeTouched tree moment label m is (done tree answer.changes)

  mkdir : (path : Path) (attrs : Attrs) → KeepsParent path (OnPath (path_op.Mkdir attrs) path)
  mkdir [] attrs named = inl is
  mkdir (n ∷ path) attrs named = made tree session number moment label (n ∷ path) m apart named is attrs (look_up tree (n ∷ path))

  rmdir : (path : Path) → KeepsParent path (OnPath path_op.Rmdir path)
  rmdir [] named = inl is
  rmdir (n ∷ path) named = directory_removed tree session number moment label (n ∷ path) m apart named is (other_parent n path) (found_at tree (n ∷ path))

  remove : (path : Path) → KeepsParent path (OnPath path_op.Remove path)
  remove [] named = inl is
  remove (n ∷ path) named = file_removed tree session number moment label (n ∷ path) m apart named is (other_parent n path) (found_at tree (n ∷ path))

  open' : (path : Path) (flags : OpenFlags) (attrs : Attrs) → KeepsParent path (OnPath (path_op.Open flags attrs) path)
  open' [] flags attrs named = inl is
  open' (n ∷ path) flags attrs named = file_opened tree session number moment label (n ∷ path) m apart named is flags attrs (look_up tree (n ∷ path))

  pub parents : (request : Request) (path : Path) → NamesEntry request path → KeepsParent path request
  parents (OnPath (path_op.Mkdir attrs) p) path own = subst (λ (q : Path). KeepsParent path (OnPath (path_op.Mkdir attrs) q)) own (mkdir path attrs)
  parents (OnPath path_op.Rmdir p) path own = subst (λ (q : Path). KeepsParent path (OnPath path_op.Rmdir q)) own (rmdir path)
  parents (OnPath path_op.Remove p) path own = subst (λ (q : Path). KeepsParent path (OnPath path_op.Remove q)) own (remove path)
  parents (OnPath (path_op.Open flags attrs) p) path own = subst (λ (q : Path). KeepsParent path (OnPath (path_op.Open flags attrs) q)) own (open' path flags attrs)
  parents (OnPaths pair_op.Rename old new) path own = λ named.
      rename_cases StillThere (λ code. inl is) (inl is) tree moment old new
      (λ not_inside not_around. both_ends tree moment label m is old new path own not_inside not_around named) session number
  parents (OnPaths pair_op.PosixRename old new) path own = λ named.
      posix_rename_cases StillThere (λ code. inl is) (inl is) tree moment old new
      (λ not_inside not_around. both_ends tree moment label m is old new path own not_inside not_around named) session number
  parents (OnPaths pair_op.Link old new) path own = λ named.
      link_cases StillThere (λ code. inl is) tree moment old new
      (λ l _ _ _. link_to_cases StillThere (λ code. inl is) tree moment new l (look_up tree new) refl
      (λ _ _. touched_or_not tree moment label m is (changed tree (NewName new l)) (parent new) (directory_at tree (parent new)) refl (inl is))) session number
  parents _ path own = absurd own
