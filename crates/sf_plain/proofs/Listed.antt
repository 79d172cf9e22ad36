-- Entries of a listing.
use Rattle.std.proofs.Common.{◌≡◌, List, [], ℕ, Option, Some, unwrap_or, sym, ap}
use Rattle.sf_path.specs.Names.{Name}
use Rattle.sf_reply.specs.declared.reply.Entry.{Entry}
use Rattle.sf_reply.specs.Longname.{longname_text}
use Rattle.sf_call.specs.Attributes.{Object, attrs_of}
use Rattle.sf_call.specs.Listings.{entry_of}

abbrev pub entry_with : Name → List ℕ → Object → Entry
entry_with name line o = record { filename = name; longname = line; attrs = attrs_of o }

pub entry_is : (name line : List ℕ) (count : ℕ) (o : Object) → longname_text (attrs_of o) count name ≡ Some line → entry_with name line o ≡ entry_of name count o
entry_is name line count o e = ap (λ (l : Option (List ℕ)). entry_with name (unwrap_or l []) o) (sym e)
