-- For other crates: laws of a store that represents a tree. They use definitions alone. All other
-- files here are private to this crate.

-- at most one tree, and that of a new store
pub use Rattle.sf_keeps.proofs.Whole.{shows_one}
pub use Rattle.sf_keeps.proofs.KeepsFirst.{keeps_first}
-- path resolution in two parts, and its last step
pub use Rattle.sf_keeps.proofs.Walks.{walk-append}
pub use Rattle.sf_keeps.proofs.Sound.{last_step}
-- the object of an inode, and the inodes of paths and entries
pub use Rattle.sf_keeps.proofs.KeepsShown.{node_shown, directory_shown, file_shown}
pub use Rattle.sf_keeps.proofs.Openings.{object_there, one_node, entry_node}
pub use Rattle.sf_keeps.proofs.Finding.{walk_on, reached_node, label_found, way_found, place_found, object_found, directory_found, absent_found, no_way_on, file_in_way}
pub use Rattle.sf_keeps.proofs.Bare.{bare_found}
-- a replaced inode
pub use Rattle.sf_keeps.proofs.StoreLaws.{node_in-set}
-- what a change leaves alone
pub use Rattle.sf_keeps.proofs.Untouched.{edited_apart, edited_itself, inserted_alike, unlinked_alike, relinked_alike}
-- the same tree: lookups, holders, and blocks that are still to be copied
pub use Rattle.sf_keeps.proofs.KeepsEdited.{keeps_looked, keeps_held, keeps_left}
-- blocks of a file that are still to be copied: their number, and the holders meanwhile
pub use Rattle.sf_keeps.proofs.Copied.{left_there, left_holders}
-- another object of an inode number
pub use Rattle.sf_keeps.proofs.KeepsEdited.{keeps_metadata, keeps_bytes}
pub use Rattle.sf_keeps.proofs.KeepsShown.{keeps_directory, keeps_file, keeps_contents, object_again}
-- a path added, removed or moved
pub use Rattle.sf_keeps.proofs.KeepsNames.{keeps_inserted, keeps_unlinked}
pub use Rattle.sf_keeps.proofs.KeepsMoved.{keeps_moved, keeps_replaced}
pub use Rattle.sf_keeps.proofs.KeepsLinked.{keeps_linked}
-- handles found, counted, opened, listed and closed
pub use Rattle.sf_keeps.proofs.SessionHandles.{found_node, free_handles, handle_count}
pub use Rattle.sf_keeps.proofs.Opening.{keeps_opened, keeps_listed}
pub use Rattle.sf_keeps.proofs.Closing.{keeps_closed}
pub use Rattle.sf_keeps.proofs.ClosingAll.{keeps_closed_all}
-- the inodes that stay when a session's handles are closed
pub use Rattle.sf_keeps.proofs.NodesKept.{nodes_kept, looks_kept, holder_kept, holder_was, directory_kept, way_kept}
-- a directory's entries and its listing
pub use Rattle.sf_keeps.proofs.Listings.{one_way, path_found, label_listed, nodes_listed, names_listed}
-- all paths with their objects
pub use Rattle.sf_keeps.proofs.LeavesFound.{leaves_kept}
-- lists of entries in key order: lookups after each change, and the test of a number
pub use Rattle.sf_keeps.proofs.Keyed.{lookup-set, lookup-removed}
pub use Rattle.sf_keeps.proofs.StoreHandles.{at_is}
pub use Rattle.sf_keeps.proofs.Shown.{nat_at_itself}
