-- The items of a folder.
use Rattle.std.specs.Prelude.{◌≡◌, List, [], ◌++◌, Option, Some, None}
use Rattle.sf_loading.specs.declared.folder.Item.{Item}

-- the folder returned these items, if it specifies them
abbrev pub GivesItems : (old : Option (List Item)) → List Item → (new : Option (List Item)) → Type 0
GivesItems None items new = Unit {0}
GivesItems (Some old) items None = ⊥
GivesItems (Some old) items (Some new) = old ≡ items ++ new

-- the folder has no more items
abbrev pub HasNone : (old new : Option (List Item)) → Type 0
HasNone None new = Unit {0}
HasNone (Some old) new = (old ≡ []) × (new ≡ Some [])
