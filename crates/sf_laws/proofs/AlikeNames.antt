-- Requests on two paths of one object have equal answers; a directory has one path.
use Rattle.std.proofs.Common.{◌≡◌, ◌≢◌, ℕ, true, false, cond, T, [], ◌∷◌, List, Some, None, refl, sym, ap, ◌∙◌, arith}
use Rattle.std.specs.Ordering.{is_eq}
use Rattle.std.specs.Cmp.{tied_itself}
use Rattle.std.specs.Map.{remove_entry}
use Rattle.std.specs.BTreeMap.{is_at}
use Rattle.std.specs.FinMap.{is_sorted}
use Rattle.sf_path.specs.Names.{Name, Path}
use Rattle.sf_path.specs.Order.{path_cmp, path_total, same_path}
use Rattle.sf_field.specs.declared.attrs.Attrs.{Attrs}
use Rattle.sf_field.specs.declared.open_flags.OpenFlags.{OpenFlags}
use Rattle.sf_call.specs.declared.record.Record.{Record}
use Rattle.sf_field.specs.declared.operation.PathOp.TheVariants as path_op
use Rattle.sf_call.specs.declared.request.Request.TheVariants.{OnPath}
use Rattle.sf_call.specs.declared.lookup.Lookup.{Lookup}
use Rattle.sf_call.specs.declared.lookup.Lookup.TheVariants.{NoWay, At}
use Rattle.sf_call.specs.Tree.{Tree, label_at, links, lookup_of, look_up, found_place, is_directory}
use Rattle.sf_call.specs.Calls.{Outcome, answer_to, stat, set_stat, open_directory, open_file, unless_root}
use Rattle.sf_call.specs.Histories.{replay, IsLegal}
use Rattle.sf_call.proofs.Laws.{exact_paths, same_path_is, one_path, named_way, open_way, ordered_replay, other_removed, removed_itself, sorted_removed, is_link_itself, links_less, none_linked}
use Rattle.sf_laws.specs.Linked.{NameOne}

module _ (history : List Record) (legal : IsLegal history) where
  abbrev tree : Tree
  tree = replay history

  leads : (path : Path) (label : ℕ) → label_at tree.names path ≡ Some label → look_up tree path ≡ At label
  leads path label at = ap (λ b. cond b NoWay (lookup_of (label_at tree.names path))) (named_way history path label legal at) ∙ ap lookup_of at

  -- the root has one path, as each directory has
  root_alone : (n : Name) (path : Path) (label : ℕ) → label_at tree.names [] ≡ Some label → label_at tree.names (n ∷ path) ≡ Some label → ⊥
  root_alone n path label root at =
      let is : is_directory tree [] ≡ true = (open_way tree (n ∷ path)).0 (named_way history (n ∷ path) label legal at) 0 (omega arith) in
      let same : [] ≡ n ∷ path = one_path history [] (n ∷ path) label legal is root at in cc

  module _ (session number moment : ℕ) where
    pub stat_alike : (path other : Path) → NameOne tree path other → answer_to tree session number moment (OnPath path_op.Stat path) ≡ answer_to tree session number moment (OnPath path_op.Stat other)
    stat_alike path other one = ap (λ (p : Lookup). stat (found_place tree.objects p)) (leads path one.label one.first ∙ sym (leads other one.label one.second))

    pub directory_alike : (path other : Path) → NameOne tree path other → answer_to tree session number moment (OnPath path_op.OpenDir path) ≡ answer_to tree session number moment (OnPath path_op.OpenDir other)
    directory_alike path other one =
        ap (λ (p : Lookup). open_directory tree session number (found_place tree.objects p)) (leads path one.label one.first ∙ sym (leads other one.label one.second))

    -- the answer by inode number, for paths other than the root
    by_label : (to : Path → Lookup → Outcome) (label : ℕ) → ((path other : Path) → to path (At label) ≡ to other (At label)) → (path other : Path)
        → label_at tree.names path ≡ Some label → label_at tree.names other ≡ Some label → unless_root path (to path (look_up tree path)) ≡ unless_root other (to other (look_up tree other))
    by_label to label alike [] [] first second = refl
    by_label to label alike [] (m ∷ other) first second = absurd (root_alone m other label first second)
    by_label to label alike (n ∷ path) [] first second = absurd (root_alone n path label second first)
    by_label to label alike (n ∷ path) (m ∷ other) first second =
        ap (to (n ∷ path)) (leads (n ∷ path) label first) ∙ alike (n ∷ path) (m ∷ other) ∙ sym (ap (to (m ∷ other)) (leads (m ∷ other) label second))

    pub set_alike : (attrs : Attrs) (path other : Path) → NameOne tree path other
        → answer_to tree session number moment (OnPath (path_op.SetStat attrs) path) ≡ answer_to tree session number moment (OnPath (path_op.SetStat attrs) other)
    set_alike attrs path other one = by_label (λ _ p. set_stat moment attrs (found_place tree.objects p)) one.label (λ _ _. refl) path other one.first one.second

    pub open_alike : (flags : OpenFlags) (attrs : Attrs) (path other : Path) → NameOne tree path other
        → answer_to tree session number moment (OnPath (path_op.Open flags attrs) path) ≡ answer_to tree session number moment (OnPath (path_op.Open flags attrs) other)
    open_alike flags attrs path other one =
        by_label (λ path p. open_file tree session number moment path flags attrs p) one.label (λ _ _. refl) path other one.first one.second

  pub directory_links : (path : Path) (label : ℕ) → is_directory tree path ≡ true → label_at tree.names path ≡ Some label → links tree.names label ≡ 1
  directory_links path label is at =
      omega (arith, links_less tree.names label path label at, is_link_itself label, none_linked others label (sorted_removed path_cmp (is_at (path_cmp path)) tree.names sorted) no_other) where
        sorted : T (is_sorted path_cmp tree.names)
        sorted = (ordered_replay history).names

        others : List (Path × ℕ)
        others = remove_entry (is_at (path_cmp path)) tree.names

        no_other : (q : Path) → label_at others q ≢ Some label
        no_other q there =
            elim (same_path q path) as (λ b. same_path q path ≡ b → ⊥) [
              | true ↦ λ t.
                  let none : label_at others path ≡ None = removed_itself path_cmp exact_paths path tree.names sorted in
                  let some : label_at others path ≡ Some label = ap (label_at others) (sym (same_path_is q path t)) ∙ there in cc
              | false ↦ λ f.
                  let other : q ≢ path = λ same. let tied : same_path q path ≡ true = ap (λ (z : Path). same_path z path) same ∙ ap is_eq (tied_itself path_total path) in cc in
                  other (sym (one_path history path q label legal is at (sym (other_removed path_cmp exact_paths path q tree.names other) ∙ there)))
            ] refl
