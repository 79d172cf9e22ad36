-- What each kind of change leaves alone.
use Rattle.std.proofs.Common.{◌≡◌, ℕ, Bool, true, false, cond, Option, Some, None, IsSome, is_some, refl, sym, ap, ◌∙◌, inl, inr}
use Rattle.std.specs.Ordering.{nat_cmp}
use Rattle.std.specs.Cmp.{nat_cmp_total}
use Rattle.std.specs.FinMap.{nat_cmp-IsAntisymmetric}
use Rattle.sf_path.specs.Names.{Path}
use Rattle.sf_path.specs.Order.{path_cmp, path_total}
use Rattle.sf_call.specs.Tree.{Tree, label_at, object_of, handle_of, after_front, is_used, kept}
use Rattle.sf_call.specs.Changes.{Change, changed}
use Rattle.sf_call.specs.Changes.Change.{SetObject, NewPath, NewName, GonePath, Move, OpenHandle, SetHandle, CloseHandle}
use Rattle.sf_laws.specs.LeftAlone.{IsOfPath, IsOfLabel, IsOfNumber}
use Rattle.sf_call.proofs.Laws.{exact_paths, other_put, other_set, other_removed, moved_outside, object_kept}

pub none_of : {X : Type 0} (o : Option X) → ¬ IsSome o → o ≡ None
none_of None nothing = refl
none_of (Some x) nothing = absurd (nothing refl)

pub other_path : (tree : Tree) (change : Change) (path : Path) → ¬ IsOfPath change path → label_at (changed tree change).names path ≡ label_at tree.names path
other_path tree (NewPath new label object) path other = other_put path_cmp exact_paths path_total tree.names new label path other
other_path tree (NewName new label) path other = other_put path_cmp exact_paths path_total tree.names new label path other
other_path tree (GonePath gone) path other = other_removed path_cmp exact_paths gone path tree.names other
other_path tree (Move old new) path other = moved_outside tree.names old new path (none_of (after_front old path) (λ some. other (inl some))) (none_of (after_front new path) (λ some. other (inr some)))
other_path tree _ path other = refl

some_kept : (b : Bool) {X : Type 0} (o : Option X) → IsSome (cond b o None) → cond b o None ≡ o
some_kept true o some = refl
some_kept false o some = cc

used_of_some : {X : Type 0} (b : Bool) (o : Option X) → IsSome (cond b o None) → b ≡ true
used_of_some true o some = refl
used_of_some false o some = cc

-- if deleting unused objects changes nothing, each object is used
pub used_where_kept : (tree : Tree) (label : ℕ) → kept tree ≡ tree → IsSome (object_of tree.objects label) → is_used tree.names tree.handles label ≡ true
used_where_kept tree label same some =
    used_of_some (is_used tree.names tree.handles label) (object_of tree.objects label)
    (ap (λ o. is_some o) (sym (object_kept tree label)) ∙ ap (λ (t : Tree). is_some (object_of t.objects label)) same ∙ some)

still_there : (tree : Tree) (label : ℕ) → IsSome (object_of (kept tree).objects label) → object_of (kept tree).objects label ≡ object_of tree.objects label
still_there tree label some =
    let is = object_kept tree label in
    is ∙ some_kept (is_used tree.names tree.handles label) (object_of tree.objects label) (sym (ap (λ o. is_some o) is) ∙ some)

still_used : (tree : Tree) (label : ℕ) → is_used tree.names tree.handles label ≡ true → object_of (kept tree).objects label ≡ object_of tree.objects label
still_used tree label used = object_kept tree label ∙ ap (λ b. cond b (object_of tree.objects label) None) used

pub other_object : (tree : Tree) (change : Change) (label : ℕ) → ¬ IsOfLabel change label → IsSome (object_of (changed tree change).objects label)
    → object_of (changed tree change).objects label ≡ object_of tree.objects label
other_object tree (SetObject set object) label other some = other_set nat_cmp nat_cmp-IsAntisymmetric tree.objects set object label other
other_object tree (NewPath path new object) label other some = other_put nat_cmp nat_cmp-IsAntisymmetric nat_cmp_total tree.objects new object label other
other_object tree (GonePath path) label other some = still_there _ label some
other_object tree (Move old new) label other some = still_there _ label some
other_object tree (CloseHandle number) label other some = still_there _ label some
other_object tree _ label other some = refl

pub used_object : (tree : Tree) (change : Change) (label : ℕ) → ¬ IsOfLabel change label → is_used (changed tree change).names (changed tree change).handles label ≡ true
    → object_of (changed tree change).objects label ≡ object_of tree.objects label
used_object tree (SetObject set object) label other used = other_set nat_cmp nat_cmp-IsAntisymmetric tree.objects set object label other
used_object tree (NewPath path new object) label other used = other_put nat_cmp nat_cmp-IsAntisymmetric nat_cmp_total tree.objects new object label other
used_object tree (GonePath path) label other used = still_used _ label used
used_object tree (Move old new) label other used = still_used _ label used
used_object tree (CloseHandle number) label other used = still_used _ label used
used_object tree _ label other used = refl

pub other_handle : (tree : Tree) (change : Change) (number : ℕ) → ¬ IsOfNumber change number → handle_of (changed tree change).handles number ≡ handle_of tree.handles number
other_handle tree (OpenHandle opened handle) number other = other_put nat_cmp nat_cmp-IsAntisymmetric nat_cmp_total tree.handles opened handle number other
other_handle tree (SetHandle set handle) number other = other_set nat_cmp nat_cmp-IsAntisymmetric tree.handles set handle number other
other_handle tree (CloseHandle closed) number other = other_removed nat_cmp nat_cmp-IsAntisymmetric closed number tree.handles other
other_handle tree _ number other = refl
