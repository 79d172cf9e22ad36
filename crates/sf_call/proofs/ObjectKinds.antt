-- Which objects are directories, by their file types.
use Rattle.std.proofs.Common.{◌≡◌, ℕ, true, false, cond, List, [], ◌∷◌, Option, Some, None, option_map, refl, sym}
use Rattle.std.specs.Ordering.{nat_cmp}
use Rattle.std.specs.Map.{set_value}
use Rattle.std.specs.BTreeMap.{is_at}
use Rattle.sf_call.specs.declared.metadata.FileType.TheVariants as file_type
use Rattle.sf_call.specs.Attributes.{Object}
use Rattle.sf_call.specs.Attributes.Object.{Directory, File}
use Rattle.sf_call.specs.Tree.{object_of, is_directory_object}
use Rattle.sf_call.specs.Allowed.{file_type_of}

-- a set object keeps all file types
pub kinds_set : (objects : List (ℕ × Object)) (label l : ℕ) (object : Object) → option_map file_type_of (object_of objects label) ≡ Some (file_type_of object)
    → option_map file_type_of (object_of (set_value (is_at (nat_cmp label)) objects object) l) ≡ option_map file_type_of (object_of objects l)
kinds_set [] label l object right = refl
kinds_set (e ∷ es) label l object right =
    elim (is_at (nat_cmp label) e.0) as (λ b. option_map file_type_of (cond b (Some e.1) (object_of es label)) ≡ Some (file_type_of object)
    → option_map file_type_of (object_of (cond b ((e.0, object) ∷ es) (e ∷ set_value (is_at (nat_cmp label)) es object)) l) ≡ option_map file_type_of (cond (is_at (nat_cmp l) e.0) (Some e.1) (object_of es l))) [
      | true ↦ λ here. elim (is_at (nat_cmp l) e.0) as (λ b. option_map file_type_of (cond b (Some object) (object_of es l)) ≡ option_map file_type_of (cond b (Some e.1) (object_of es l))) [
        | true ↦ sym here
        | false ↦ refl
      ]
      | false ↦ λ later. elim (is_at (nat_cmp l) e.0) as (λ b. option_map file_type_of (cond b (Some e.1) (object_of (set_value (is_at (nat_cmp label)) es object) l)) ≡ option_map file_type_of (cond b (Some e.1) (object_of es l))) [
        | true ↦ refl
        | false ↦ kinds_set es label l object later
      ]
    ] right

-- objects of one file type are both directories or both not
pub directory_by_kind : (o p : Option Object) → option_map file_type_of o ≡ option_map file_type_of p → is_directory_object o ≡ is_directory_object p
directory_by_kind None None e = refl
directory_by_kind None (Some p) e = cc
directory_by_kind (Some o) None e = cc
directory_by_kind (Some (Directory m)) (Some (Directory n)) e = refl
directory_by_kind (Some (Directory m)) (Some (File n contents)) e = cc
directory_by_kind (Some (File m contents)) (Some (Directory n)) e = cc
directory_by_kind (Some (File m contents)) (Some (File n bytes)) e = refl

-- a file is no directory
pub no_directory : (o : Option Object) → option_map file_type_of o ≡ Some file_type.File → is_directory_object o ≡ false
no_directory None e = cc
no_directory (Some (Directory m)) e = cc
no_directory (Some (File m contents)) e = refl
