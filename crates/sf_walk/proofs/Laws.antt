-- For the crates above: path resolution in the store and in the tree, and the position of a call
-- after a step. This file is about definitions alone. All other files here are private to this
-- crate.

-- if a path leads nowhere in the store, it does so in the tree; an inode with an entry is a
-- directory
pub use Rattle.sf_walk.proofs.Fits.{no_way}
pub use Rattle.sf_walk.proofs.Onward.{has_entry}
-- what lookups alone preserve
pub use Rattle.sf_walk.proofs.LookUps.{looked_nodes, looked_root}
pub use Rattle.sf_walk.proofs.Looked.{keeps_counted}
-- two paths part at one place, unless one is a prefix of the other
pub use Rattle.sf_walk.proofs.Parting.{parts, parts_once}
-- every request has a valid route, and a call that starts is at its start
pub use Rattle.sf_walk.proofs.Standing.{starts, stands_fresh}
-- a call that took a step holds what the step led to; one that is blocked or decides, and each
-- after lookups, holds what it held; the root stays a directory
pub use Rattle.sf_walk.proofs.Standing.{stands_on, stands_unmoved, stands_still, root_stands}
-- what a step and a release preserve: entries, the root, directories, and so what held paths lead
-- to
pub use Rattle.sf_walk.proofs.Standing.{IsSameGround, same_itself, same_trans, same_held, same_let_go, ground_stays, walk_same, leads_same}
-- lock coupling: the holders after a step, and after a call has released all
pub use Rattle.sf_walk.proofs.HandOver.{moved_hands, freed_hands, holder_other, holder_here, holder_freed}
-- a call whose new path leads nowhere moves nothing
pub use Rattle.sf_walk.proofs.Nowhere.{nowhere_stays}
-- a call without a path is decided at once
pub use Rattle.sf_walk.proofs.Advancing.{at_once}
-- a decision preserves a file that another session's handle opens
pub use Rattle.sf_walk.proofs.Spared.{file_spared}
