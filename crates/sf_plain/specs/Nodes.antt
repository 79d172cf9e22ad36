-- No public clause cites this module.
-- The object of a node.
use Rattle.std.specs.Prelude.{ℕ, nat_eq, Bool, true, false, ◌&&◌, Option, Some, None}
use Rattle.sf_call.specs.Attributes.{Object}
use Rattle.sf_call.specs.Attributes.Object.{Directory, File}
use Rattle.sf_call.specs.declared.lookup.Lookup.{Lookup}
use Rattle.sf_call.specs.declared.lookup.Lookup.TheVariants.{NoWay, Absent, At}
use Rattle.sf_call.specs.Tree.{Tree, object_of}
use Rattle.sf_plain.specs.declared.node.Kind.{Kind}
use Rattle.sf_plain.specs.declared.node.Kind.TheVariants as kind
use Rattle.sf_plain.specs.declared.node.Parts.{Parts}
use Rattle.sf_plain.specs.declared.node.Parts.TheVariants as parts

abbrev pub object_of_kind : Kind → Object
object_of_kind (kind.Directory m) = Directory m
object_of_kind (kind.File m contents) = File m contents

abbrev pub object_of_parts : Parts → Object
object_of_parts (parts.Directory m) = Directory m
object_of_parts (parts.File m contents) = File m contents.now

abbrev pub is_file : Option Object → Bool
is_file None = false
is_file (Some (Directory m)) = false
is_file (Some (File m contents)) = true

-- whether a lookup found that a proper prefix of its path is no directory
abbrev pub is_no_way : Lookup → Bool
is_no_way NoWay = true
is_no_way Absent = false
is_no_way (At label) = false

-- whether both inode numbers are those of one file
abbrev pub is_same_file : Tree → ℕ → ℕ → Bool
is_same_file tree label other = nat_eq label other && is_file (object_of tree.objects other)
