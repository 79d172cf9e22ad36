-- Requests that change nothing.
use Rattle.std.proofs.Common.{option_and_then, option_map, ◌≡◌, ℕ, Bool, true, false, cond, nat_eq, nat_le, not, List, [], ◌∷◌, length, Option, Some, None, refl, sym, ap}
use Rattle.std.specs.Ordering.{nat_cmp}
use Rattle.std.specs.Map.{lookup, set_value}
use Rattle.std.specs.BTreeMap.{is_at}
use Rattle.sf_path.specs.Names.{Path}
use Rattle.sf_call.specs.declared.lookup.Lookup.{Lookup}
use Rattle.sf_call.specs.declared.lookup.Lookup.TheVariants.{At}
use Rattle.sf_field.specs.Attributes.{no_attrs}
use Rattle.sf_call.specs.Attributes.{Object}
use Rattle.sf_call.specs.Attributes.Object.{Directory, File}
use Rattle.sf_call.specs.declared.handle.Handle.{Handle}
use Rattle.sf_call.specs.Tree.{Tree, object_of, found_place, look_up}
use Rattle.sf_call.specs.Handles.{opened_by}
use Rattle.sf_call.specs.Changes.{done}
use Rattle.sf_call.specs.Calls.{Outcome, stat, stat_opened, sets, set_stat, set_opened, read, write, unless_root}

-- setting an entry to the value that it has
same_value : {K X : Type 0} (at : K → Bool) (es : List (K × X)) (v : X) → lookup at es ≡ Some v → set_value at es v ≡ es
same_value at [] v there = refl
same_value at (e ∷ es) v there =
    elim (at e.0) as (λ b. cond b (Some e.1) (lookup at es) ≡ Some v → cond b ((e.0, v) ∷ es) (e ∷ set_value at es v) ≡ e ∷ es) [
      | true ↦ λ here. let same : e.1 ≡ v = cc in ap (λ x. (e.0, x) ∷ es) (sym same)
      | false ↦ λ later. ap (λ rest. e ∷ rest) (same_value at es v later)
    ] there

module _ (tree : Tree) where
  either : (b : Bool) (this that : Outcome) → done tree this.changes ≡ tree → done tree that.changes ≡ tree → done tree (cond b this that).changes ≡ tree
  either true this that p q = p
  either false this that p q = q

  pub told : (found : Option (ℕ × Object)) → done tree (stat found).changes ≡ tree
  told None = refl
  told (Some (label, Directory m)) = refl
  told (Some (label, File m contents)) = refl

  pub told_opened : (o : Option (Handle × Object)) → done tree (stat_opened o).changes ≡ tree
  told_opened None = refl
  told_opened (Some (h, Directory m)) = refl
  told_opened (Some (h, File m contents)) = refl

  pub was_read : (offset len : ℕ) (o : Option (Handle × Object)) → done tree (read offset len o).changes ≡ tree
  was_read offset len (Some (h, File m contents)) = either (not h.read) _ _ refl (either (nat_le (length contents) offset) _ _ refl refl)
  was_read offset len _ = refl

  parts_set : (moment label : ℕ) (object : Object) → object_of tree.objects label ≡ Some object → done tree (sets moment label no_attrs object).changes ≡ tree
  parts_set moment label (Directory m) there = ap (λ (objects : List (ℕ × Object)). record tree { objects = objects }) (same_value (is_at (nat_cmp label)) tree.objects (Directory m) there)
  parts_set moment label (File m contents) there = ap (λ (objects : List (ℕ × Object)). record tree { objects = objects }) (same_value (is_at (nat_cmp label)) tree.objects (File m contents) there)

  set_object : (moment label : ℕ) (o : Option Object) → object_of tree.objects label ≡ o → done tree (set_stat moment no_attrs (option_map (λ (object : Object). (label, object)) o)).changes ≡ tree
  set_object moment label None there = refl
  set_object moment label (Some (Directory m)) there = parts_set moment label (Directory m) there
  set_object moment label (Some (File m contents)) there = parts_set moment label (File m contents) there

  set_place : (moment : ℕ) (place : Lookup) → done tree (set_stat moment no_attrs (found_place tree.objects place)).changes ≡ tree
  set_place moment (At label) = set_object moment label (object_of tree.objects label) refl
  set_place moment _ = refl

  pub set_by_path : (moment : ℕ) (path : Path) → done tree (unless_root path (set_stat moment no_attrs (found_place tree.objects (look_up tree path)))).changes ≡ tree
  set_by_path moment [] = refl
  set_by_path moment (name ∷ path) = set_place moment (look_up tree (name ∷ path))

  set_opened_object : (moment : ℕ) (h : Handle) (o : Option Object) → object_of tree.objects h.label ≡ o → done tree (set_opened moment no_attrs (option_map (λ (object : Object). (h, object)) o)).changes ≡ tree
  set_opened_object moment h None there = refl
  set_opened_object moment h (Some (Directory m)) there = either (nat_eq h.label 0) _ _ refl (parts_set moment h.label (Directory m) there)
  set_opened_object moment h (Some (File m contents)) there = parts_set moment h.label (File m contents) there

  pub set_by_handle : (moment : ℕ) (o : Option Handle) → done tree (set_opened moment no_attrs (option_and_then (opened_by tree) o)).changes ≡ tree
  set_by_handle moment None = refl
  set_by_handle moment (Some h) = set_opened_object moment h (object_of tree.objects h.label) refl

  pub nothing_written : (moment offset : ℕ) (o : Option (Handle × Object)) → done tree (write moment offset [] o).changes ≡ tree
  nothing_written moment offset (Some (h, File m contents)) = either (not h.write) _ _ refl refl
  nothing_written moment offset _ = refl
