-- Files with several links: the effects of a link and of a REMOVE.
use Rattle.std.specs.Prelude.{◌≡◌, ℕ, ◌+◌, ◌<◌, true, false, Some, None}
use Rattle.sf_path.specs.Names.{Path}
use Rattle.sf_call.specs.declared.limits.TheConstants.{MAX_LINKS}
use Rattle.sf_call.specs.Tree.{Tree, label_at, object_of, links, is_used}

-- Both paths name one object.
pub record NameOne (tree : Tree) (path other : Path) : Type 0 where
  pub label : ℕ
  pub first : label_at tree.names path ≡ Some label
  pub second : label_at tree.names other ≡ Some label

-- Both paths have the inode number of the old one, which has one more link.
pub record IsLinked (before after : Tree) (old new : Path) : Type 0 where
  pub label : ℕ
  pub was : label_at before.names old ≡ Some label
  pub free : label_at before.names new ≡ None
  pub still : label_at after.names old ≡ Some label
  pub named : label_at after.names new ≡ Some label
  pub more : links after.names label ≡ 1 + links before.names label
  pub few : links before.names label < MAX_LINKS

-- The path is absent, and its inode number has one link fewer. The object is unchanged if it has a
-- link or an open handle left, and deleted otherwise.
pub record IsRemoved (before after : Tree) (path : Path) : Type 0 where
  pub label : ℕ
  pub was : label_at before.names path ≡ Some label
  pub gone : label_at after.names path ≡ None
  pub fewer : links before.names label ≡ 1 + links after.names label
  pub left : (other : Path) → label_at after.names other ≡ Some label
      → object_of after.objects label ≡ object_of before.objects label
  pub opened : is_used after.names after.handles label ≡ true
      → object_of after.objects label ≡ object_of before.objects label
  pub last : is_used after.names after.handles label ≡ false
      → object_of after.objects label ≡ None
