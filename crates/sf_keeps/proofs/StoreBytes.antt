-- The object of an inode after a file's bytes were changed. Copying is not observable.
use Rattle.std.specs.Prelude.{◌≡◌, ℕ, is_some, refl}
use Rattle.sf_path.specs.Names.{Name}
use Rattle.sf_call.specs.declared.metadata.Metadata.{Metadata}
use Rattle.sf_call.specs.Tree.{directory_metadata}
use Rattle.sf_inode.specs.declared.node.Content.{Content}
use Rattle.sf_inode.specs.declared.node.Content.TheVariants as content
use Rattle.sf_block.specs.Contents.{FileBytes}
use Rattle.sf_inode.specs.Nodes.{child_in, object_in, with_file, with_left}

pub entry_stored : (st : FileBytes) (c : Content) (m : Name) → child_in (with_file st c) m ≡ child_in c m
entry_stored st (content.Directory es) m = refl
entry_stored st (content.File contents) m = refl

pub kind_stored : (st : FileBytes) (k : Metadata) (c : Content) → is_some (directory_metadata (object_in k c)) ≡ is_some (directory_metadata (object_in k (with_file st c)))
kind_stored st k (content.Directory es) = refl
kind_stored st k (content.File contents) = refl

pub entry_left : (left : ℕ) (c : Content) (m : Name) → child_in (with_left left c) m ≡ child_in c m
entry_left left (content.Directory es) m = refl
entry_left left (content.File contents) m = refl

pub object_left : (left : ℕ) (k : Metadata) (c : Content) → object_in k (with_left left c) ≡ object_in k c
object_left left k (content.Directory es) = refl
object_left left k (content.File contents) = refl
