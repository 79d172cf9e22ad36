-- The entries that READDIR returns.
use Rattle.std.specs.Prelude.{ℕ, nat_eq, Bool, true, List, [], take, map, filter_map, Option, Some, None, option_map, option_and_then, unwrap_or, if◌then◌else◌}
use Rattle.std.specs.List.{find, last_or}
use Rattle.std.specs.Ordering.{is_lt}
use Rattle.sf_path.specs.Names.{Name, Path}
use Rattle.sf_path.specs.Order.{name_cmp}
use Rattle.sf_reply.specs.declared.reply.Entry.{Entry}
use Rattle.sf_reply.specs.Longname.{longname_text}
use Rattle.sf_call.specs.declared.limits.TheConstants.{MAX_ENTRIES}
use Rattle.sf_call.specs.Attributes.{Object, attrs_of}
use Rattle.sf_call.specs.Tree.{Tree, object_of, links, after_front, only_name}

-- the path of an inode number: the first in path order
abbrev pub path_of : List (Path × ℕ) → ℕ → Option Path
path_of names label = option_map (λ e. e.0) (find (λ e. nat_eq e.1 label) names)

-- whether a name follows the last one that was listed
abbrev pub is_past : Option Name → Name → Bool
is_past None name = true
is_past (Some last) name = is_lt (name_cmp last name)

-- the name of an entry of the directory, if it follows the last one that was listed
abbrev pub name_past : Path → Option Name → Path → Option Name
name_past directory last path = option_and_then (λ name. if is_past last name then Some name
    else None) (only_name (after_front directory path))

-- a directory entry as listed, with the object's number of links and its attributes
abbrev pub entry_of : Name → ℕ → Object → Entry
entry_of name count object = record {
  filename = name;
  longname = unwrap_or (longname_text (attrs_of object) count name) [];
  attrs = attrs_of object;
}

abbrev pub listed_entry : Tree → Path → Option Name → Path × ℕ → Option Entry
listed_entry tree directory last e =
    option_and_then (λ name. option_map (entry_of name (links tree.names e.1))
    (object_of tree.objects e.1))
    (name_past directory last e.0)

-- the next entries of a directory, at most MAX_ENTRIES, in the order of their names, after the last
-- one that was listed
abbrev pub listing : Tree → Option Name → Path → List Entry
listing tree last directory =
    take MAX_ENTRIES (filter_map (listed_entry tree directory last) tree.names)

abbrev pub listing_of : Tree → Option Name → Option Path → List Entry
listing_of tree last None = []
listing_of tree last (Some directory) = listing tree last directory

abbrev pub names_of : List Entry → List Name
names_of entries = map (λ e. e.filename) entries

-- the last name of a listing
abbrev pub last_name : List Entry → Option Name
last_name entries = last_or None (names_of entries)
