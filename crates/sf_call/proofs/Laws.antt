-- For other crates: laws of trees and histories. They use definitions alone. All other files here
-- are private to this crate.
use Rattle.std.proofs.Common.{◌≡◌, ◌≢◌, ◌<◌, ◌≤◌, ◌↔◌, ℕ, true, false, List, [], ◌∷◌, ◌++◌, length, take, Option, Some, None, IsSome, IfSome, sym, ap, ◌∙◌, subst, arith}
use Rattle.std.specs.Ordering.{nat_cmp}
use Rattle.std.specs.BTreeMap.{is_at}
use Rattle.sf_path.specs.Names.{Name, Path, IsPath}
use Rattle.sf_field.specs.Fields.{packet}
use Rattle.sf_reply.specs.Longname.{HasType, longname_text}
use Rattle.sf_reply.specs.Replies.{ReplyFits, reply_body}
use Rattle.sf_reply.specs.declared.reply.Reply.{Reply}
use Rattle.sf_reply.specs.declared.reply.Reply.TheVariants.{NoMemory}
use Rattle.sf_call.specs.declared.limits.TheConstants.{MAX_FILE_SIZE, MAX_LINKS}
use Rattle.sf_call.specs.declared.metadata.Metadata.{Metadata}
use Rattle.sf_call.specs.declared.request.Request.{Request}
use Rattle.sf_call.specs.declared.record.Record.{Record}
use Rattle.sf_call.specs.declared.record.Record.TheVariants.{Did}
use Rattle.sf_call.specs.Attributes.{Object, attrs_of}
use Rattle.sf_call.specs.Attributes.Object.{File}
use Rattle.sf_call.specs.Tree.{Tree, label_at, object_of, handle_of, links, is_directory, is_faulty_way, kept}
use Rattle.sf_call.specs.Listings.{entry_of}
use Rattle.sf_call.specs.Changes.{Change, done}
use Rattle.sf_call.specs.Allowed.{AreAllowed, IsWellFormed}
use Rattle.sf_call.specs.Calls.{answer_to, apply}
use Rattle.sf_call.specs.Histories.{after, replay, IsNewNumber, IsLegal, MayFollow, IsAmong, IsGiven}
use Rattle.sf_call.specs.ReplyKinds.{IsReplyTo, HasAllParts, longest_packet}
use Rattle.sf_call.proofs.Ways as ways
use Rattle.sf_call.proofs.Listed as listed
use Rattle.sf_call.proofs.Growth as growth
use Rattle.sf_call.proofs.KindsOfReplies as kinds
use Rattle.sf_call.proofs.FittingReplies as fitting
use Rattle.sf_call.proofs.Sound as sound
use Rattle.sf_call.proofs.Used.{kept-used}
use Rattle.sf_call.proofs.Founded.{is_directory_label, is_directory_is}
use Rattle.sf_call.proofs.FittingTrees.{ObjectFits, found_path}
use Rattle.sf_call.proofs.Sound.{FreeAfter, allowed_by_sound, sound_replay}
-- names that compare equal are equal, and tests for equal names and paths are correct
pub use Rattle.sf_call.proofs.Orders.{exact_names, exact_paths}
pub use Rattle.sf_call.proofs.MovedNames.{is_equal, same_path_is, same_name_is, same_name_itself}
-- the suffix after a prefix, and the order of two paths with a common prefix
pub use Rattle.sf_call.proofs.MovedNames.{after_front-append, append-after_front, path_cmp-front}
-- lists of entries in key order: lookups, also after an insertion, a setting or a removal, and that
-- the order is kept
pub use Rattle.sf_call.proofs.Orders.{find_is}
pub use Rattle.sf_call.proofs.Ordered.{put_is, and_both, and_first, and_second, sorted_put, sorted_removed, sorted_set, sorted_filtered}
pub use Rattle.sf_call.proofs.LookUps.{lookup-put, lookup_below, set_there, none_set, not_at, other_put, other_set, other_removed, removed_itself}
-- a property of all entries is kept by a choice, a prefix, insertions, settings and removals; and
-- its consequences hold for all
pub use Rattle.sf_call.proofs.Used.{all_by}
pub use Rattle.sf_call.proofs.FittingTrees.{all_made, all_filtered, all_removed, all_put, all_set, found_value}
pub use Rattle.sf_call.proofs.FittingAnswers.{taken_short}
-- ordered trees that map alike are equal, and a change keeps the order
pub use Rattle.sf_call.proofs.Orders.{same_tree}
pub use Rattle.sf_call.proofs.Ordered.{ordered_changed, ordered_replay}
-- the leaves of a tree: lookups by path, and their order
pub use Rattle.sf_call.proofs.Leaves.{found_leaf, ordered_leaves}
-- the inode number at a path after a move, and the object of an inode number after unused ones are
-- deleted
pub use Rattle.sf_call.proofs.MovedNames.{at_old, label_after_move, lookup-moved, moved_to_new, moved_outside, moved_from_old}
pub use Rattle.sf_call.proofs.Used.{object_kept}
-- a path without a prefix has no prefix that has it, and no parent begins with its path
pub use Rattle.sf_call.proofs.MovedNames.{no_front}
pub use Rattle.sf_call.proofs.Requests.{no_parent, front_itself}
-- a property of both
pub use Rattle.sf_call.proofs.Requests.{both_true}
-- the object that a lookup finds, and its file type
pub use Rattle.sf_call.proofs.Requests.{place_label, place_free, directory_there, is_there_directory, kind_by, kind_at}
pub use Rattle.sf_call.proofs.Founded.{is_directory_label, is_directory_is}
pub use Rattle.sf_call.proofs.ObjectKinds.{directory_by_kind, no_directory}
-- the number of links of an inode
pub use Rattle.sf_call.proofs.Links.{sum_removed, sum_removed_less, sum_inserted, is_link, is_link_itself, is_link_other, links_more, links_less, links_same, links_fewer, links_moved, named_linked, linked_path, none_linked, only_path}
-- the cases of a rename: it fails, does nothing or moves; and those of a link
pub use Rattle.sf_call.proofs.RenameCases.{rename_cases, posix_rename_cases, link_cases, link_to_cases}
pub use Rattle.sf_call.proofs.Founded.{kept_object}
-- induction over legal histories: a property of the initial tree that each call and each end of a
-- session preserves
pub use Rattle.sf_call.proofs.Growth.{CallsKeep, holds_after}
-- a number that is new to a history and to a record after it is new to both
pub use Rattle.sf_call.proofs.Growth.{front_new, last_other}
-- the fields of a request are in range, as its type holds them
pub use Rattle.sf_call.proofs.Held.{held_request}

-- ---- trees

-- path resolution succeeds if each proper prefix of the path is a directory
pub open_way : (tree : Tree) (path : Path) → (is_faulty_way tree path ≡ false) ↔ ((n : ℕ) → n < length path → is_directory tree (take n path) ≡ true)
open_way = ways.open_way

-- the sent attributes have all four fields, and the file type among the permissions
pub all_parts : (object : Object) → HasAllParts (attrs_of object)
all_parts = listed.all_parts

pub has_type : (object : Object) → HasType (attrs_of object).permissions
has_type = listed.has_type

-- the long name of an entry is that of its attributes
pub has_line : (name : Name) (count : ℕ) (object : Object) → longname_text (attrs_of object) count name ≡ Some (entry_of name count object).longname
has_line = listed.has_line

-- a record with the specified reply leads to the specified tree
pub after_told : (tree : Tree) (session number moment : ℕ) (request : Request)
    → after tree (Did number session moment request (apply tree session number moment request).reply) ≡ (apply tree session number moment request).tree
after_told = kinds.after_told

-- the specification never replies out of memory
pub never_wants : (tree : Tree) (session number moment : ℕ) (request : Request) → (apply tree session number moment request).reply ≢ NoMemory
never_wants tree session number moment request e =
    kinds.never_refused number request (subst (IsReplyTo number request) e (kinds.applied tree session number moment request))

-- ---- histories

-- a history extended by one record
pub replay-push : (history : List Record) (r : Record) → replay (history ++ r ∷ []) ≡ after (replay history) r
replay-push = growth.replay-push

pub IsLegal-push : (history : List Record) (r : Record) → IsLegal history → MayFollow history r → IsLegal (history ++ r ∷ [])
IsLegal-push = growth.IsLegal-push

-- each reply in a legal history follows from a legal history before it
pub given_before : (number session moment : ℕ) (request : Request) (reply : Reply) (history : List Record)
    → IsLegal history → IsAmong (Did number session moment request reply) history → IsGiven number session reply
given_before number session moment request reply history legal among =
    let earlier = growth.given history (Did number session moment request reply) legal among in (earlier.0, moment, request, earlier.1, earlier.2)

-- after a legal history no path, object or handle has the number of a future call
pub unused_number : (history : List Record) (number : ℕ) (path : Path) → IsLegal history → 0 < number → IsNewNumber number history
    → label_at (replay history).names path ≢ Some number
unused_number history number path legal above new = (sound_replay history legal).labelled.unused number (above, new) path

pub no_object : (history : List Record) (number : ℕ) → IsLegal history → 0 < number → IsNewNumber number history
    → object_of (replay history).objects number ≡ None
no_object history number legal above new = (sound_replay history legal).labelled.no_object number (above, new)

pub no_handle : (history : List Record) (number : ℕ) → IsLegal history → 0 < number → IsNewNumber number history
    → handle_of (replay history).handles number ≡ None
no_handle history number legal above new = (sound_replay history legal).labelled.unopened number (above, new)

-- a directory has at most one path, and a file at most MAX_LINKS
pub one_path : (history : List Record) (path other : Path) (label : ℕ) → IsLegal history → is_directory (replay history) path ≡ true
    → label_at (replay history).names path ≡ Some label → label_at (replay history).names other ≡ Some label → path ≡ other
one_path history path other label legal is e f =
    (sound_replay history legal).labelled.one_path path other label (sym (ap (is_directory_label (replay history).objects) e) ∙ sym (is_directory_is (replay history) path) ∙ is) e f

pub few_paths : (history : List Record) (label : ℕ) → IsLegal history → links (replay history).names label ≤ MAX_LINKS
few_paths history label legal = (sound_replay history legal).labelled.few label

-- each path resolves over directories to an object
pub named_object : (history : List Record) (path : Path) (label : ℕ) → IsLegal history
    → label_at (replay history).names path ≡ Some label → IsSome (object_of (replay history).objects label)
named_object history path label legal = (sound_replay history legal).founded.object path label

pub named_way : (history : List Record) (path : Path) (label : ℕ) → IsLegal history
    → label_at (replay history).names path ≡ Some label → is_faulty_way (replay history) path ≡ false
named_way history path label legal = (sound_replay history legal).founded.way path label

-- each object has a link or an open handle, so deleting the others changes nothing
pub all_kept : (history : List Record) → IsLegal history → kept (replay history) ≡ replay history
all_kept history legal = kept-used (replay history) (sound_replay history legal).used

-- the changes of a request that may come next are allowed
pub allowed_changes : (history : List Record) (number session moment : ℕ) (request : Request) → IsLegal history → 0 < number → IsNewNumber number history
    → AreAllowed number (replay history) (answer_to (replay history) session number moment request).changes
allowed_changes history number session moment request legal above new =
    allowed_by_sound (FreeAfter history) (replay history) session number moment request (above, new) (sound_replay history legal)

-- and allowed changes keep the tree well formed
pub well_formed : (history : List Record) (number : ℕ) (changes : List Change) → IsLegal history → AreAllowed number (replay history) changes
    → IsWellFormed (done (replay history) changes)
well_formed = sound.well_formed

-- no file is above the limit, and each path consists of names
pub short_file : (history : List Record) (label : ℕ) (m : Metadata) (contents : List ℕ) → IsLegal history
    → object_of (replay history).objects label ≡ Some (File m contents) → length contents ≤ MAX_FILE_SIZE
short_file history label m contents legal is =
    (subst (λ (o : Option Object). IfSome o ObjectFits) is (found_value ObjectFits (is_at (nat_cmp label)) (replay history).objects (fitting.fits_replay history legal).objects)).1

pub named_path : (history : List Record) (path : Path) (label : ℕ) → IsLegal history → label_at (replay history).names path ≡ Some label → IsPath path
named_path history path label legal = found_path (replay history).names path label (fitting.fits_replay history legal).names

-- each reply after a legal history has a short packet, and its numbers and strings fit their
-- encodings
pub packet_short : (number session id : ℕ) (reply : Reply) → IsGiven number session reply → length (packet (reply_body id reply)) ≤ longest_packet
packet_short number session id reply given = fitting.short_packet id reply (fitting.given_short number session reply given)

pub packet_fits : (number session id : ℕ) (reply : Reply) → IsGiven number session reply → length (reply_body id reply) ≤ 262144
packet_fits number session id reply given = omega (arith, packet_short number session id reply given)

pub reply_fits : (number session : ℕ) (reply : Reply) → IsGiven number session reply → ReplyFits reply
reply_fits number session reply given = fitting.short_fits reply (fitting.given_short number session reply given)
