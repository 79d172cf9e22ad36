-- The relation between a tree and the observable part of a store: inodes, entries and handles.
use Rattle.std.specs.Prelude.{◌≡◌, ℕ, nat_eq, Bool, true, ◌&&◌, Option, Some, None, option_map, option_and_then, is_some, if◌then◌else◌}
use Rattle.sf_path.specs.Names.{Name, Path}
use Rattle.sf_call.specs.Attributes.{Object}
use Rattle.sf_call.specs.declared.handle.Handle.{Handle}
use Rattle.sf_call.specs.Tree.{Tree, IsOrderedTree, label_at, object_of, is_used, directory_metadata}
use Rattle.sf_call.specs.Handles.{handle_in}
use Rattle.sf_keeps.specs.Steps.{EntryMap, walk, changed_step}

-- the inode number and the object of the inode in a slot
abbrev pub Shown : Type 0
Shown = ℕ → Option (ℕ × Object)

-- the handle with this number in the session
abbrev pub HandleMap : Type 0
HandleMap = ℕ → ℕ → Option Handle

abbrev pub label_by : Shown → ℕ → Option ℕ
label_by shown id = option_map (λ v. v.0) (shown id)

abbrev pub is_directory_by : Shown → ℕ → Bool
is_directory_by shown id = is_some (option_and_then (λ v. directory_metadata v.1) (shown id))

-- with another inode number and object in a slot, or none
abbrev pub changed_shown : Shown → ℕ → Option (ℕ × Object) → Shown
changed_shown shown c r i = if nat_eq c i then r else shown i

-- Inode numbers are unique. Entries lead from directories to existing inodes. A directory has at
-- most one entry, the root none, and a file may have several.
pub record IsSound (step : EntryMap) (shown : Shown) (root : ℕ) : Type 0 where
  pub labels : (i j label : ℕ) (o u : Object) → shown i ≡ Some (label, o)
      → shown j ≡ Some (label, u) → i ≡ j
  pub one : (x y c : ℕ) (n m : Name) → is_directory_by shown c ≡ true → step x n ≡ Some c
      → step y m ≡ Some c → (x ≡ y) × (n ≡ m)
  pub top : (x : ℕ) (n : Name) → step x n ≡ Some root → ⊥
  pub owns : (x c : ℕ) (n : Name) → step x n ≡ Some c → is_directory_by shown x ≡ true
  pub to : (x c : ℕ) (n : Name) → step x n ≡ Some c → shown c ≡ None → ⊥
  pub rooted : is_directory_by shown root ≡ true

-- each object has a link or an open handle
abbrev pub AllUsed : Tree → Type 0
AllUsed t = (label : ℕ) (o : Object) → object_of t.objects label ≡ Some o
    → is_used t.names t.handles label ≡ true

-- the observable part of a store: its entries, its inodes and its open handles
pub record View : Type 0 where
  pub step : EntryMap
  pub shown : Shown
  pub root : ℕ
  pub opens : HandleMap

-- Each path has the inode number of the inode that it resolves to, the objects are those of the
-- inodes, and the handles are the open ones.
pub record ShowsBy (view : View) (t : Tree) : Type 0 where
  pub names : (path : Path) → label_at t.names path
      ≡ option_and_then (label_by view.shown) (walk view.step view.root path)
  pub objects : (id label : ℕ) (o : Object) → view.shown id ≡ Some (label, o)
      → object_of t.objects label ≡ Some o
  pub found : (label : ℕ) (o : Object) → object_of t.objects label ≡ Some o
      → (id : ℕ) × (view.shown id ≡ Some (label, o))
  pub handles : (session number : ℕ) → handle_in t session number ≡ view.opens session number
  pub sound : IsSound view.step view.shown view.root

-- the tree is the observable part of the store, its maps are in key order, and it has no unused
-- object
pub record Shows (view : View) (t : Tree) : Type 0 where
  pub by : ShowsBy view t
  pub ordered : IsOrderedTree t
  pub used : AllUsed t

-- with another entry, another inode, or another handle
abbrev pub with_step : View → ℕ → Name → Option ℕ → View
with_step view d n r = record {
  step = changed_step view.step d n r;
  shown = view.shown;
  root = view.root;
  opens = view.opens;
}

abbrev pub with_shown : View → ℕ → Option (ℕ × Object) → View
with_shown view c r = record {
  step = view.step;
  shown = changed_shown view.shown c r;
  root = view.root;
  opens = view.opens;
}

abbrev pub changed_opens : HandleMap → ℕ → ℕ → Option Handle → HandleMap
changed_opens opens session number r a b =
    if nat_eq session a && nat_eq number b then r else opens a b

abbrev pub with_opens : View → ℕ → ℕ → Option Handle → View
with_opens view session number r = record {
  step = view.step;
  shown = view.shown;
  root = view.root;
  opens = changed_opens view.opens session number r;
}
