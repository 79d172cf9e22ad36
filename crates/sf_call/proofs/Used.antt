-- No change leaves an object without link and open handle.
use Rattle.std.proofs.Common.{◌≡◌, ℕ, Bool, true, false, cond, nat_eq, not, ◌||◌, List, [], ◌∷◌, filter, Some, None, refl, sym, ap, ◌∙◌, eq-eqb}
use Rattle.std.specs.List.{AllByRecursion, list_any}
use Rattle.std.specs.declared.cmp.Ordering.{Ordering}
use Rattle.std.specs.declared.cmp.Ordering.TheVariants.{Less, Equal, Greater}
use Rattle.std.specs.Ordering.{nat_cmp, is_eq, match_ordering}
use Rattle.std.specs.Map.{lookup, remove_entry, set_value}
use Rattle.std.specs.BTreeMap.{insert_entry, is_at}
use Rattle.std.specs.FinMap.{nat_cmp-IsAntisymmetric}
use Rattle.std.proofs.lemmas.Map.Entries.{lookup-filter-keys}
use Rattle.sf_path.specs.Order.{path_cmp}
use Rattle.sf_path.specs.Names.{Path}
use Rattle.sf_call.specs.Attributes.{Object}
use Rattle.sf_call.specs.Tree.{Tree, Handle, label_at, object_of, handle_of, is_used, kept, empty_tree}
use Rattle.sf_call.specs.Changes.{Change, changed}
use Rattle.sf_call.specs.Changes.Change.{SetObject, NewPath, NewName, GonePath, Move, OpenHandle, SetHandle, CloseHandle}
use Rattle.sf_call.specs.Moves.{moved}
use Rattle.sf_call.specs.Allowed.{MayChange}
use Rattle.sf_call.proofs.MovedNames.{is_equal}

or_true : (a b : Bool) → b ≡ true → a || b ≡ true
or_true true b t = refl
or_true false b t = t

or_right : (a b c : Bool) → (b ≡ true → c ≡ true) → a || b ≡ true → a || c ≡ true
or_right true b c more t = refl
or_right false b c more t = more t

or_left : (a b c : Bool) → (a ≡ true → b ≡ true) → a || c ≡ true → b || c ≡ true
or_left true b c more t = rw (more refl)
or_left false b c more t = or_true b c t

filter_all : {X : Type 0} (p : X → Bool) (xs : List X) → AllByRecursion (λ x. p x ≡ true) xs → filter p xs ≡ xs
filter_all p [] all = refl
filter_all p (x ∷ xs) all = rw all.0 (ap (λ ys. x ∷ ys) (filter_all p xs all.1))

all_filter : {X : Type 0} (p : X → Bool) (xs : List X) → AllByRecursion (λ x. p x ≡ true) (filter p xs)
all_filter p [] = tt
all_filter p (x ∷ xs) =
    elim (p x) as (λ b. p x ≡ b → AllByRecursion (λ x. p x ≡ true) (cond b (x ∷ filter p xs) (filter p xs))) [
      | true ↦ λ t. (t, all_filter p xs)
      | false ↦ λ t. all_filter p xs
    ] refl

pub all_by : {X : Type 0} (P Q : X → Type 0) (xs : List X) → ((x : X) → P x → Q x) → AllByRecursion P xs → AllByRecursion Q xs
all_by P Q [] more all = tt
all_by P Q (x ∷ xs) more all = (more x all.0, all_by P Q xs more all.1)

tied : (label k : ℕ) → is_at (nat_cmp label) k ≡ true → label ≡ k
tied label k t = nat_cmp-IsAntisymmetric label k (is_equal (nat_cmp label k) t)

-- an object is kept if and only if it is used
pub object_kept : (tree : Tree) (label : ℕ) → object_of (kept tree).objects label ≡ cond (is_used tree.names tree.handles label) (object_of tree.objects label) None
object_kept tree label =
    lookup-filter-keys (is_at (nat_cmp label)) (is_used tree.names tree.handles) (is_used tree.names tree.handles label)
    (λ k t. ap (is_used tree.names tree.handles) (sym (tied label k t))) tree.objects

-- maps with one more entry, or with another value at a key
module _ {K X : Type 0} (cmp : K → K → Ordering) (k : K) (v : X) where
  any_inserted : (test : X → Bool) (es : List (K × X)) → test v ≡ true → list_any (λ e. test e.1) (insert_entry cmp es k v) ≡ true
  any_inserted test [] t = rw t
  any_inserted test (e ∷ es) t =
      elim (cmp k e.0) as (λ r. list_any (λ e. test e.1) (match_ordering r ((k, v) ∷ e ∷ es) ((e.0, v) ∷ es) (e ∷ insert_entry cmp es k v)) ≡ true) [
        | Less ↦ rw t
        | Equal ↦ rw t
        | Greater ↦ or_true (test e.1) (list_any (λ e. test e.1) (insert_entry cmp es k v)) (any_inserted test es t)
      ]

  any_still : (test : X → Bool) (es : List (K × X)) → lookup (is_at (cmp k)) es ≡ None → list_any (λ e. test e.1) es ≡ true → list_any (λ e. test e.1) (insert_entry cmp es k v) ≡ true
  any_still test [] none any = cc
  any_still test (e ∷ es) none any =
      elim (cmp k e.0) as (λ r. cond (is_eq r) (Some e.1) (lookup (is_at (cmp k)) es) ≡ None → list_any (λ e. test e.1) (match_ordering r ((k, v) ∷ e ∷ es) ((e.0, v) ∷ es) (e ∷ insert_entry cmp es k v)) ≡ true) [
        | Less ↦ λ gone. or_true (test v) (list_any (λ e. test e.1) (e ∷ es)) any
        | Equal ↦ λ gone. cc
        | Greater ↦ λ gone. or_right (test e.1) (list_any (λ e. test e.1) es) (list_any (λ e. test e.1) (insert_entry cmp es k v)) (any_still test es gone) any
      ] none

  pub all_inserted : (P : K → Type 0) (es : List (K × X)) → P k → AllByRecursion (λ e. P e.0) es → AllByRecursion (λ e. P e.0) (insert_entry cmp es k v)
  all_inserted P [] p all = (p, tt)
  all_inserted P (e ∷ es) p all =
      elim (cmp k e.0) as (λ r. AllByRecursion (λ e. P e.0) (match_ordering r ((k, v) ∷ e ∷ es) ((e.0, v) ∷ es) (e ∷ insert_entry cmp es k v))) [
        | Less ↦ (p, all)
        | Equal ↦ all
        | Greater ↦ (all.0, all_inserted P es p all.1)
      ]

all_set : {K X : Type 0} (test : K → Bool) (v : X) (P : K → Type 0) (es : List (K × X)) → AllByRecursion (λ e. P e.0) es → AllByRecursion (λ e. P e.0) (set_value test es v)
all_set test v P [] all = tt
all_set test v P (e ∷ es) all =
    elim (test e.0) as (λ b. AllByRecursion (λ e. P e.0) (cond b ((e.0, v) ∷ es) (e ∷ set_value test es v))) [
      | true ↦ all
      | false ↦ (all.0, all_set test v P es all.1)
    ]

-- each object has a link or an open handle
abbrev pub AllUsed : Tree → Type 0
AllUsed tree = AllByRecursion (λ e. is_used tree.names tree.handles e.0 ≡ true) tree.objects

pub kept-used : (tree : Tree) → AllUsed tree → kept tree ≡ tree
kept-used tree used =
    let e = filter_all (λ o. is_used tree.names tree.handles o.0) tree.objects used in λ i. record { names = tree.names; objects = e i; handles = tree.handles }

used_kept : (tree : Tree) → AllUsed (kept tree)
used_kept tree = all_filter (λ o. is_used tree.names tree.handles o.0) tree.objects

used_new : (tree : Tree) (path : Path) (label : ℕ) (object : Object) → label_at tree.names path ≡ None → AllUsed tree → AllUsed (changed tree (NewPath path label object))
used_new tree path label object free used =
    let names = insert_entry path_cmp tree.names path label in
    all_inserted nat_cmp label object (λ l. is_used names tree.handles l ≡ true) tree.objects
    (rw (any_inserted path_cmp path label (λ n. nat_eq n label) tree.names (eq-eqb label label refl)))
    (all_by (λ e. is_used tree.names tree.handles e.0 ≡ true) (λ e. is_used names tree.handles e.0 ≡ true) tree.objects
    (λ e t. or_left (list_any (λ n. nat_eq n.1 e.0) tree.names) (list_any (λ n. nat_eq n.1 e.0) names) (list_any (λ h. nat_eq h.1.label e.0) tree.handles)
    (any_still path_cmp path label (λ n. nat_eq n e.0) tree.names free) t)
    used)

-- a handle that is set keeps its object
same_uses : (label number : ℕ) (before after : Handle) (handles : List (ℕ × Handle)) → handle_of handles number ≡ Some before → before.label ≡ after.label
    → list_any (λ h. nat_eq h.1.label label) (set_value (is_at (nat_cmp number)) handles after) ≡ list_any (λ h. nat_eq h.1.label label) handles
same_uses label number before after [] there same = refl
same_uses label number before after (h ∷ hs) there same =
    elim (is_at (nat_cmp number) h.0) as (λ b. cond b (Some h.1) (handle_of hs number) ≡ Some before
    → list_any (λ h. nat_eq h.1.label label) (cond b ((h.0, after) ∷ hs) (h ∷ set_value (is_at (nat_cmp number)) hs after)) ≡ (nat_eq h.1.label label || list_any (λ h. nat_eq h.1.label label) hs)) [
      | true ↦ λ here. let is : h.1 ≡ before = cc in
          ap (λ (l : ℕ). nat_eq l label || list_any (λ h. nat_eq h.1.label label) hs) (sym same ∙ sym (ap (λ (x : Handle). x.label) is))
      | false ↦ λ later. ap (λ b. nat_eq h.1.label label || b) (same_uses label number before after hs later same)
    ] there

pub used_changed : (number : ℕ) (tree : Tree) (change : Change) → MayChange number tree change → AllUsed tree → AllUsed (changed tree change)
used_changed number tree (SetObject label object) may used = all_set (is_at (nat_cmp label)) _ (λ l. is_used tree.names tree.handles l ≡ true) tree.objects used
used_changed number tree (NewPath path label object) may used = used_new tree path label object may.free used
used_changed number tree (NewName path label) may used =
    let names = insert_entry path_cmp tree.names path label in
    all_by (λ e. is_used tree.names tree.handles e.0 ≡ true) (λ e. is_used names tree.handles e.0 ≡ true) tree.objects
    (λ e t. or_left (list_any (λ n. nat_eq n.1 e.0) tree.names) (list_any (λ n. nat_eq n.1 e.0) names) (list_any (λ h. nat_eq h.1.label e.0) tree.handles)
    (any_still path_cmp path label (λ n. nat_eq n e.0) tree.names may.free) t)
    used
used_changed number tree (GonePath path) may used = used_kept (record tree { names = remove_entry (is_at (path_cmp path)) tree.names })
used_changed number tree (Move old new) may used = used_kept (record tree { names = moved tree.names old new })
used_changed number tree (OpenHandle handle opened) may used =
    all_by (λ e. is_used tree.names tree.handles e.0 ≡ true) (λ e. is_used tree.names (insert_entry nat_cmp tree.handles handle opened) e.0 ≡ true) tree.objects
    (λ e t. or_right (list_any (λ n. nat_eq n.1 e.0) tree.names) _ (list_any (λ h. nat_eq h.1.label e.0) (insert_entry nat_cmp tree.handles handle opened))
    (any_still nat_cmp handle opened (λ h. nat_eq h.label e.0) tree.handles may.free) t)
    used
used_changed number tree (SetHandle handle opened) (before, there, same) used =
    all_by (λ e. is_used tree.names tree.handles e.0 ≡ true) (λ e. is_used tree.names (set_value (is_at (nat_cmp handle)) tree.handles opened) e.0 ≡ true) tree.objects
    (λ e t. ap (λ b. list_any (λ n. nat_eq n.1 e.0) tree.names || b) (same_uses e.0 handle before opened tree.handles there same) ∙ t)
    used
used_changed number tree (CloseHandle handle) may used = used_kept (record tree { handles = remove_entry (is_at (nat_cmp handle)) tree.handles })

pub used_left : (tree : Tree) (session : ℕ) → AllUsed (kept (record tree { handles = filter (λ e. not (nat_eq e.1.session session)) tree.handles }))
used_left tree session = used_kept (record tree { handles = filter (λ e. not (nat_eq e.1.session session)) tree.handles })

pub used_empty : AllUsed empty_tree
used_empty = (refl, tt)
