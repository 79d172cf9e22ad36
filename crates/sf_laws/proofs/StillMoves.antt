-- An allowed move is still allowed after changes below its old path.
use Rattle.std.proofs.Common.{◌≡◌, ◌≢◌, ℕ, true, false, cond, List, [], ◌∷◌, ◌++◌, take, Option, Some, None, is_some, option_map, refl, sym, ap, ◌∙◌}
use Rattle.sf_path.specs.Names.{Name, Path}
use Rattle.sf_path.specs.Order.{same_name}
use Rattle.sf_call.specs.Attributes.{Object}
use Rattle.sf_call.specs.Tree.{Tree, label_at, object_of, is_directory, after_front}
use Rattle.sf_call.specs.Changes.{Change, done}
use Rattle.sf_laws.specs.Own.{IsOwnPath}
use Rattle.sf_call.specs.Allowed.{file_type_of, IsMove, IsWellFormed}
use Rattle.sf_call.proofs.Laws.{open_way, same_name_is, same_name_itself, no_front, is_directory_label, is_directory_is, is_there_directory, named_object, allowed_changes, well_formed, front_itself, directory_by_kind}
use Rattle.sf_laws.proofs.OwnChanges.{own, other_paths}
use Rattle.sf_laws.proofs.NewCalls.{NewCall, IsStrictlyBelow, tree_before, outcome_of, tree_after}
use Rattle.sf_laws.proofs.SameKinds.{kinds_stay}

-- a path below one of two separate paths isn't below the other
apart_below : (p q r : Path) → after_front p q ≡ None → after_front q p ≡ None → after_front p (q ++ r) ≡ None
apart_below [] q r a b = cc
apart_below (n ∷ p) [] r a b = cc
apart_below (n ∷ p) (m ∷ q) r a b =
    elim (same_name n m) as (λ t. same_name n m ≡ t → cond t (after_front p q) None ≡ None → cond t (after_front p (q ++ r)) None ≡ None) [
      | true ↦ λ same k. apart_below p q r k (ap (λ t. cond t (after_front q p) None) (sym (back same)) ∙ b)
      | false ↦ λ other k. refl
    ] refl a where
      back : same_name n m ≡ true → same_name m n ≡ true
      back same = ap (λ (x : Name). same_name m x) (same_name_is n m same) ∙ same_name_itself m

-- a path isn't strictly below another
abbrev pub IsNotUnder : Path → Path → Type 0
IsNotUnder old path = (name : Name) (rest : Path) → after_front old path ≢ Some (name ∷ rest)

module _ (tree next : Tree) (old new : Path)
    (labels : (path : Path) → IsNotUnder old path → label_at next.names path ≡ label_at tree.names path)
    (kinds : (path : Path) (label : ℕ) → label_at tree.names path ≡ Some label → label_at next.names path ≡ Some label → option_map file_type_of (object_of next.objects label) ≡ option_map file_type_of (object_of tree.objects label))
    (may : IsMove tree old new) where
  outside : (path : Path) → after_front old path ≡ None → IsNotUnder old path
  outside path none name rest some = let same : Some (name ∷ rest) ≡ None = sym some ∙ none in cc

  not_itself : IsNotUnder old old
  not_itself name rest some = let same : Some [] ≡ Some (name ∷ rest) = sym (front_itself old) ∙ some in let nil : [] ≡ name ∷ rest = cc in cc

  directory_still : (path : Path) → after_front old path ≡ None → is_directory tree path ≡ true → is_directory next path ≡ true
  directory_still path none h =
      let there = is_there_directory tree path h in
      let still : label_at next.names path ≡ Some there.0 = labels path (outside path none) ∙ there.1 in
      is_directory_is next path ∙ ap (is_directory_label next.objects) still
      ∙ directory_by_kind (object_of next.objects there.0) (object_of tree.objects there.0) (kinds path there.0 there.1 still)
      ∙ ap (is_directory_label tree.objects) (sym there.1) ∙ sym (is_directory_is tree path) ∙ h

  pub still : IsMove next old new
  still = record {
    label = may.label;
    named = labels old not_itself ∙ may.named;
    not_inside = may.not_inside;
    not_around = may.not_around;
    way = (open_way next new).1 (λ n lt. directory_still (take n new) (no_front old new n may.not_inside) ((open_way tree new).0 may.way n lt));
    bare = λ name rest. labels (new ++ name ∷ rest) (outside (new ++ name ∷ rest) (apart_below old new (name ∷ rest) may.not_inside may.not_around)) ∙ may.bare name rest;
    alike = λ replaced there.
        let was : label_at tree.names new ≡ Some replaced = sym (labels new (outside new may.not_inside)) ∙ there in
        kinds new replaced was there ∙ may.alike replaced was ∙ sym (kinds old may.label may.named (labels old not_itself ∙ may.named));
    other = λ at. may.other (sym (labels new (outside new may.not_inside)) ∙ at);
  }

-- the file types of two existing objects
both_there : (a b : Option Object) → is_some a ≡ true → is_some b ≡ true → ((x y : Object) → a ≡ Some x → b ≡ Some y → file_type_of x ≡ file_type_of y) → option_map file_type_of a ≡ option_map file_type_of b
both_there (Some x) (Some y) s t same = ap Some (same x y refl refl)
both_there _ _ s t same = cc

pub still_after : (c : NewCall) (old new : Path) → ((path : Path) → IsOwnPath c.request path → IsStrictlyBelow old path) → IsMove (tree_before c) old new → IsMove (tree_after c) old new
still_after c old new below may =
    still (tree_before c) next old new
    (λ path not_under. other_paths (tree_before c) c.session c.number c.request changes (tree_before c) path
    (own (tree_before c) c.session c.number c.moment c.request) (λ of. let under = below path of in not_under under.name under.rest under.is))
    (λ path label was is. both_there (object_of next.objects label) (object_of (tree_before c).objects label) (after.object path label is) (named_object c.history path label c.legal was)
    (λ x y after_is before_is. kinds_stay c label y x before_is after_is))
    may where
      changes : List Change
      changes = (outcome_of c).changes

      next : Tree
      next = done (tree_before c) changes

      after : IsWellFormed next
      after = well_formed c.history c.number changes c.legal (allowed_changes c.history c.number c.session c.moment c.request c.legal c.above c.fresh)
