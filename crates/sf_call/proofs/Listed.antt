-- Listed attributes have all fields, and the file type.
use Rattle.std.proofs.Common.{◌≡◌, ℕ, Some, refl, inl, inr, arith}
use Rattle.sf_path.specs.Names.{Name}
use Rattle.sf_reply.specs.Longname.{HasType, longname_text}
use Rattle.sf_call.specs.Attributes.{Object, attrs_of}
use Rattle.sf_call.specs.Attributes.Object.{Directory, File}
use Rattle.sf_call.specs.Listings.{entry_of}
use Rattle.sf_call.specs.ReplyKinds.{HasAllParts}

pub all_parts : (object : Object) → HasAllParts (attrs_of object)
all_parts (Directory m) = record { size = refl; owner = refl; permissions = refl; times = refl }
all_parts (File m contents) = record { size = refl; owner = refl; permissions = refl; times = refl }

pub has_type : (object : Object) → HasType (attrs_of object).permissions
has_type (Directory m) = inr (omega arith)
has_type (File m contents) = inl (omega arith)

-- the long name of an entry is that of its attributes
pub has_line : (name : Name) (count : ℕ) (object : Object) → longname_text (attrs_of object) count name ≡ Some (entry_of name count object).longname
has_line name count (Directory m) = refl
has_line name count (File m contents) = refl
