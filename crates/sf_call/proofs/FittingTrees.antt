-- Trees with values in range and files below the limit; each change keeps them so.
use Rattle.std.proofs.Common.{◌≡◌, ℕ, ◌≤◌, Bool, true, false, cond, not, nat_eq, List, [], ◌∷◌, ◌++◌, length, filter, filter_map, Option, Some, None, option_map, IfSome, refl, sym, subst, arith}
use Rattle.std.specs.List.{AllByRecursion, cons_option}
use Rattle.std.specs.declared.cmp.Ordering.{Ordering}
use Rattle.std.specs.declared.cmp.Ordering.TheVariants.{Less, Equal, Greater}
use Rattle.std.specs.Ordering.{nat_cmp, match_ordering}
use Rattle.std.specs.Map.{lookup, remove_entry, set_value}
use Rattle.std.specs.BTreeMap.{insert_entry, is_at}
use Rattle.std.proofs.lemmas.List.Elements.{All-nil, All-tail, All-append}
use Rattle.sf_path.specs.Names.{Path, IsName, IsPath}
use Rattle.sf_path.specs.Order.{path_cmp, same_name, same_path}
use Rattle.sf_field.specs.Attributes.{OwnerFits, TimesFit}
use Rattle.sf_call.specs.declared.limits.TheConstants.{MAX_FILE_SIZE}
use Rattle.sf_call.specs.declared.metadata.Metadata.{Metadata}
use Rattle.sf_call.specs.Attributes.{Object}
use Rattle.sf_call.specs.Attributes.Object.{Directory, File}
use Rattle.sf_call.specs.Tree.{Tree, label_at, is_used, kept, after_front, empty_tree}
use Rattle.sf_call.specs.Moves.{is_outside, carried, with_entries, moved}
use Rattle.sf_call.specs.Changes.{Change, changed, done}
use Rattle.sf_call.specs.Changes.Change.{SetObject, NewPath, NewName, GonePath, Move, OpenHandle, SetHandle, CloseHandle}
use Rattle.sf_call.proofs.MovedNames.{same_path_is}
use Rattle.sf_call.proofs.Used.{all_inserted}

pub record MetadataFits (m : Metadata) : Type 0 where
  pub owner : OwnerFits m.owner
  pub times : TimesFit m.times

abbrev pub ObjectFits : Object → Type 0
ObjectFits (Directory m) = MetadataFits m
ObjectFits (File m contents) = MetadataFits m × (length contents ≤ MAX_FILE_SIZE)

pub record TreeFits (tree : Tree) : Type 0 where
  pub names : AllByRecursion (λ e. IsPath e.0) tree.names
  pub objects : AllByRecursion (λ e. ObjectFits e.1) tree.objects

abbrev pub ChangeFits : Change → Type 0
ChangeFits (SetObject label object) = ObjectFits object
ChangeFits (NewPath path label object) = IsPath path × ObjectFits object
ChangeFits (NewName path label) = IsPath path
ChangeFits (GonePath path) = Unit {0}
ChangeFits (Move old new) = IsPath new
ChangeFits (OpenHandle number handle) = Unit {0}
ChangeFits (SetHandle number handle) = Unit {0}
ChangeFits (CloseHandle number) = Unit {0}

-- a property of each element holds for each that is left
pub all_filtered : {A : Type 0} (P : A → Type 0) (test : A → Bool) (xs : List A) → AllByRecursion P xs → AllByRecursion P (filter test xs)
all_filtered P test [] all = tt
all_filtered P test (x ∷ xs) all =
    elim (test x) as (λ b. AllByRecursion P (cond b (x ∷ filter test xs) (filter test xs))) [
      | true ↦ (all.0, all_filtered P test xs all.1)
      | false ↦ all_filtered P test xs all.1
    ]

pub all_removed : {K X : Type 0} (P : K × X → Type 0) (test : K → Bool) (es : List (K × X)) → AllByRecursion P es → AllByRecursion P (remove_entry test es)
all_removed P test [] all = tt
all_removed P test (e ∷ es) all =
    elim (test e.0) as (λ b. AllByRecursion P (cond b es (e ∷ remove_entry test es))) [
      | true ↦ all.1
      | false ↦ (all.0, all_removed P test es all.1)
    ]

-- a property of all elements gives one of all that are made from them
pub all_made : {A B : Type 0} (P : A → Type 0) (Q : B → Type 0) (f : A → Option B) → ((x : A) → P x → IfSome (f x) Q) → (xs : List A) → AllByRecursion P xs → AllByRecursion Q (filter_map f xs)
all_made P Q f made [] all = tt
all_made {B = B} P Q f made (x ∷ xs) all =
    elim (f x) as (λ (o : Option B). IfSome o Q → AllByRecursion Q (cons_option o (filter_map f xs))) [
      | None ↦ λ _. all_made P Q f made xs all.1
      | Some y ↦ λ q. (q, all_made P Q f made xs all.1)
    ] (made x all.0)

-- of values
module _ {K X : Type 0} (P : X → Type 0) where
  pub all_put : (cmp : K → K → Ordering) (k : K) (v : X) (es : List (K × X)) → P v → AllByRecursion (λ e. P e.1) es → AllByRecursion (λ e. P e.1) (insert_entry cmp es k v)
  all_put cmp k v [] p all = (p, tt)
  all_put cmp k v (e ∷ es) p all =
      elim (cmp k e.0) as (λ r. AllByRecursion (λ e. P e.1) (match_ordering r ((k, v) ∷ e ∷ es) ((e.0, v) ∷ es) (e ∷ insert_entry cmp es k v))) [
        | Less ↦ (p, all)
        | Equal ↦ (p, all.1)
        | Greater ↦ (all.0, all_put cmp k v es p all.1)
      ]

  pub all_set : (test : K → Bool) (v : X) (es : List (K × X)) → P v → AllByRecursion (λ e. P e.1) es → AllByRecursion (λ e. P e.1) (set_value test es v)
  all_set test v [] p all = tt
  all_set test v (e ∷ es) p all =
      elim (test e.0) as (λ b. AllByRecursion (λ e. P e.1) (cond b ((e.0, v) ∷ es) (e ∷ set_value test es v))) [
        | true ↦ (p, all.1)
        | false ↦ (all.0, all_set test v es p all.1)
      ]

  pub found_value : (test : K → Bool) (es : List (K × X)) → AllByRecursion (λ e. P e.1) es → IfSome (lookup test es) P
  found_value test [] all = tt
  found_value test (e ∷ es) all =
      elim (test e.0) as (λ b. IfSome (cond b (Some e.1) (lookup test es)) P) [
        | true ↦ all.0
        | false ↦ found_value test es all.1
      ]

-- a path that is found consists of names
pub found_path : (names : List (Path × ℕ)) (path : Path) (label : ℕ) → AllByRecursion (λ e. IsPath e.0) names → label_at names path ≡ Some label → IsPath path
found_path [] path label all is = cc
found_path (e ∷ es) path label all is =
    elim (same_path path e.0) as (λ b. same_path path e.0 ≡ b → cond b (Some e.1) (label_at es path) ≡ Some label → IsPath path) [
      | true ↦ λ same k. subst IsPath (sym (same_path_is path e.0 same)) all.0
      | false ↦ λ other k. found_path es path label all.1 k
    ] refl is

-- the suffix of a path consists of names
pub rest_names : (front path : Path) → IsPath path → IfSome (after_front front path) IsPath
rest_names [] path names = names
rest_names (n ∷ front) [] names = tt
rest_names (n ∷ front) (m ∷ path) names =
    elim (same_name n m) as (λ b. IfSome (cond b (after_front front path) None) IsPath) [
      | true ↦ rest_names front path (All-tail IsName m path names)
      | false ↦ tt
    ]

carried_names : (old new : Path) → IsPath new → (e : Path × ℕ) → IsPath e.0 → IfSome (carried old new e) (λ f. IsPath f.0)
carried_names old new new_names e names =
    elim (after_front old e.0) as (λ o. IfSome o IsPath → IfSome {T = Path × ℕ} (option_map (λ rest. (new ++ rest, e.1)) o) (λ f. IsPath f.0)) [
      | None ↦ λ _. tt
      | Some rest ↦ λ rest_names. All-append IsName new rest new_names rest_names
    ] (rest_names old e.0 names)

with_entries_names : (names es : List (Path × ℕ)) → AllByRecursion (λ e. IsPath e.0) names → AllByRecursion (λ e. IsPath e.0) es → AllByRecursion (λ e. IsPath e.0) (with_entries names es)
with_entries_names names [] all more = all
with_entries_names names (e ∷ es) all more = all_inserted path_cmp e.0 e.1 IsPath (with_entries names es) more.0 (with_entries_names names es all more.1)

moved_names : (names : List (Path × ℕ)) (old new : Path) → IsPath new → AllByRecursion (λ e. IsPath e.0) names → AllByRecursion (λ e. IsPath e.0) (moved names old new)
moved_names names old new new_names all =
    with_entries_names (filter (λ e. is_outside old new e.0) names) (filter_map (carried old new) names)
    (all_filtered (λ e. IsPath e.0) (λ e. is_outside old new e.0) names all)
    (all_made (λ e. IsPath e.0) (λ e. IsPath e.0) (carried old new) (carried_names old new new_names) names all)

fits_kept : (tree : Tree) → TreeFits tree → TreeFits (kept tree)
fits_kept tree fits = record { names = fits.names; objects = all_filtered (λ e. ObjectFits e.1) (λ e. is_used tree.names tree.handles e.0) tree.objects fits.objects }

fits_changed : (tree : Tree) (change : Change) → ChangeFits change → TreeFits tree → TreeFits (changed tree change)
fits_changed tree (SetObject label object) object_fits fits = record { names = fits.names; objects = all_set ObjectFits (is_at (nat_cmp label)) object tree.objects object_fits fits.objects }
fits_changed tree (NewPath path label object) new_fits fits = record {
  names = all_inserted path_cmp path label IsPath tree.names new_fits.0 fits.names;
  objects = all_put ObjectFits nat_cmp label object tree.objects new_fits.1 fits.objects;
}
fits_changed tree (NewName path label) new_fits fits = record {
  names = all_inserted path_cmp path label IsPath tree.names new_fits fits.names;
  objects = fits.objects;
}
fits_changed tree (GonePath path) _ fits =
    fits_kept (record tree { names = remove_entry (is_at (path_cmp path)) tree.names }) (record {
      names = all_removed (λ e. IsPath e.0) (is_at (path_cmp path)) tree.names fits.names;
      objects = fits.objects;
    })
fits_changed tree (Move old new) new_names fits =
    fits_kept (record tree { names = moved tree.names old new }) (record { names = moved_names tree.names old new new_names fits.names; objects = fits.objects })
fits_changed tree (OpenHandle number handle) _ fits = record { names = fits.names; objects = fits.objects }
fits_changed tree (SetHandle number handle) _ fits = record { names = fits.names; objects = fits.objects }
fits_changed tree (CloseHandle number) _ fits =
    fits_kept (record tree { handles = remove_entry (is_at (nat_cmp number)) tree.handles }) (record { names = fits.names; objects = fits.objects })

pub fits_done : (tree : Tree) (changes : List Change) → AllByRecursion ChangeFits changes → TreeFits tree → TreeFits (done tree changes)
fits_done tree [] all fits = fits
fits_done tree (c ∷ cs) all fits = fits_done (changed tree c) cs all.1 (fits_changed tree c all.0 fits)

pub fits_left : (tree : Tree) (session : ℕ) → TreeFits tree → TreeFits (kept (record tree { handles = filter (λ e. not (nat_eq e.1.session session)) tree.handles }))
fits_left tree session fits =
    fits_kept (record tree { handles = filter (λ e. not (nat_eq e.1.session session)) tree.handles }) (record { names = fits.names; objects = fits.objects })

pub fits_empty : TreeFits empty_tree
fits_empty = record {
  names = (All-nil IsName, tt);
  objects = (record { owner = record { uid = omega arith; gid = omega arith }; times = record { atime = omega arith; mtime = omega arith } }, tt);
}
