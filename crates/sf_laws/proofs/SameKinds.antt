-- No request changes an object's file type.
use Rattle.std.proofs.Common.{◌≡◌, ◌≢◌, ◌⊎◌, ℕ, true, false, cond, List, [], ◌∷◌, Option, Some, None, option_map, refl, sym, ap, ◌∙◌, subst, inl, inr}
use Rattle.std.specs.Ordering.{nat_cmp, is_eq}
use Rattle.std.specs.Cmp.{nat_cmp_total, tied_itself}
use Rattle.std.specs.Map.{set_value}
use Rattle.std.specs.BTreeMap.{is_at}
use Rattle.std.specs.FinMap.{nat_cmp-IsAntisymmetric}
use Rattle.sf_call.specs.declared.metadata.FileType.{FileType}
use Rattle.sf_call.specs.Attributes.{Object}
use Rattle.sf_call.specs.Tree.{Tree, object_of, is_used, kept}
use Rattle.sf_call.specs.Changes.{Change, changed, done}
use Rattle.sf_call.specs.Changes.Change.{SetObject, NewPath, GonePath, Move, CloseHandle}
use Rattle.sf_call.specs.Allowed.{file_type_of, IsSetRightly, MayChange, AreAllowed}
use Rattle.sf_laws.proofs.NewCalls.{NewCall, tree_before, outcome_of, tree_after}
use Rattle.sf_call.proofs.Laws.{is_equal, set_there, none_set, other_put, other_set, object_kept, no_object, allowed_changes}

module _ (number label : ℕ) (other : label ≢ number) (kind : FileType) where
  -- the inode number's object has this file type, or there is none
  abbrev pub IsKindOrGone : Option Object → Type 0
  IsKindOrGone o = (option_map file_type_of o ≡ Some kind) ⊎ (o ≡ None)

  as_before : (before after : Option Object) → after ≡ before → IsKindOrGone before → IsKindOrGone after
  as_before before after same (inl is) = inl (ap (option_map file_type_of) same ∙ is)
  as_before before after same (inr none) = inr (same ∙ none)

  once_kept : (tree : Tree) → IsKindOrGone (object_of tree.objects label) → IsKindOrGone (object_of (kept tree).objects label)
  once_kept tree h =
      elim (is_used tree.names tree.handles label) as (λ b. object_of (kept tree).objects label ≡ cond b (object_of tree.objects label) None → IsKindOrGone (object_of (kept tree).objects label)) [
        | true ↦ λ same. as_before (object_of tree.objects label) (object_of (kept tree).objects label) same h
        | false ↦ λ none. inr none
      ] (object_kept tree label)

  set_here : (tree : Tree) (object : Object) → IsSetRightly tree label object → IsKindOrGone (object_of tree.objects label)
      → IsKindOrGone (object_of (set_value (is_at (nat_cmp label)) tree.objects object) label)
  set_here tree object may h = set_kind (object_of tree.objects label) refl h where
    set_kind : (o : Option Object) → object_of tree.objects label ≡ o → IsKindOrGone (object_of tree.objects label) → IsKindOrGone (object_of (set_value (is_at (nat_cmp label)) tree.objects object) label)
    set_kind None none h = inr (none_set (is_at (nat_cmp label)) (is_at (nat_cmp label)) tree.objects object none)
    set_kind (Some x) some (inr none) = let same : Some x ≡ None = sym some ∙ none in cc
    set_kind (Some x) some (inl is) =
        let kinds : Some (file_type_of object) ≡ Some kind = sym may ∙ is in
        inl (ap (option_map file_type_of) (set_there (is_at (nat_cmp label)) tree.objects x object some) ∙ kinds)

  once_set : (tree : Tree) (set : ℕ) (object : Object) → IsSetRightly tree set object → IsKindOrGone (object_of tree.objects label)
      → IsKindOrGone (object_of (changed tree (SetObject set object)).objects label)
  once_set tree set object may h =
      elim (is_at (nat_cmp label) set) as (λ b. is_at (nat_cmp label) set ≡ b → IsKindOrGone (object_of (set_value (is_at (nat_cmp set)) tree.objects object) label)) [
        | true ↦ λ tied. let same : label ≡ set = nat_cmp-IsAntisymmetric label set (is_equal (nat_cmp label set) tied) in
            subst (λ (s : ℕ). IsKindOrGone (object_of (set_value (is_at (nat_cmp s)) tree.objects object) label)) same
            (set_here tree object (subst (λ (s : ℕ). IsSetRightly tree s object) (sym same) may) h)
        | false ↦ λ apart. as_before (object_of tree.objects label) _
            (other_set nat_cmp nat_cmp-IsAntisymmetric tree.objects set object label (λ same. let tied : is_at (nat_cmp label) set ≡ true = itself label set same in cc)) h
      ] refl where
        itself : (l s : ℕ) → l ≡ s → is_at (nat_cmp l) s ≡ true
        itself l s same = ap (λ (x : ℕ). is_at (nat_cmp l) x) (sym same) ∙ ap is_eq (tied_itself nat_cmp_total l)

  kind_changed : (tree : Tree) (change : Change) → MayChange number tree change → IsKindOrGone (object_of tree.objects label) → IsKindOrGone (object_of (changed tree change).objects label)
  kind_changed tree (SetObject set object) may h = once_set tree set object may h
  kind_changed tree (NewPath path new object) may h =
      as_before (object_of tree.objects label) _ (other_put nat_cmp nat_cmp-IsAntisymmetric nat_cmp_total tree.objects new object label (λ same. other (same ∙ may.is_number))) h
  kind_changed tree (GonePath path) may h = once_kept _ h
  kind_changed tree (Move old new) may h = once_kept _ h
  kind_changed tree (CloseHandle handle) may h = once_kept _ h
  kind_changed tree _ may h = h

  kind_done : (tree : Tree) (changes : List Change) → AreAllowed number tree changes → IsKindOrGone (object_of tree.objects label) → IsKindOrGone (object_of (done tree changes).objects label)
  kind_done tree [] may h = h
  kind_done tree (c ∷ cs) may h = kind_done (changed tree c) cs may.1 (kind_changed tree c may.0 h)

same_kind : (before after : Object) (o : Option Object) → o ≡ Some after → (option_map file_type_of o ≡ Some (file_type_of before)) ⊎ (o ≡ None) → file_type_of after ≡ file_type_of before
same_kind before after o some (inl is) = let kinds : Some (file_type_of after) ≡ Some (file_type_of before) = ap (option_map file_type_of) (sym some) ∙ is in cc
same_kind before after o some (inr none) = let same : Some after ≡ None = sym some ∙ none in cc

pub kinds_stay : (c : NewCall) (label : ℕ) (before after : Object) → object_of (tree_before c).objects label ≡ Some before → object_of (tree_after c).objects label ≡ Some after → file_type_of after ≡ file_type_of before
kinds_stay c label before after was is =
    let tree = tree_before c in
    let apart : label ≢ c.number = λ same.
    let none : object_of tree.objects c.number ≡ None = no_object c.history c.number c.legal c.above c.fresh in
    let some : object_of tree.objects c.number ≡ Some before = ap (object_of tree.objects) (sym same) ∙ was in cc in
    same_kind before after (object_of (tree_after c).objects label) is
    (kind_done c.number label apart (file_type_of before) tree (outcome_of c).changes
    (allowed_changes c.history c.number c.session c.moment c.request c.legal c.above c.fresh)
    (inl (ap (option_map file_type_of) was)))
