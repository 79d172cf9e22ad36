-- For dependent crates: what the type `Path` guarantees of its values, and how long the text of a
-- normal form is. All other files here are private to this crate.
use denote.Laws.{Is}
use mathlib.Core.Path.{subst}
use mir.Val.{Val}
use Rattle.std.specs.Prelude.{List}
use Rattle.sf_path.specs.Names.{IsPath}
use Rattle.sf_path.specs.declared.path.Path.{Path}
use Rattle.sf_path.specs.contracts.path.Path.{the_row}
pub use Rattle.sf_path.proofs.Lengths.{length-text_of-norm}

-- the names of a path are names
pub held_path : (path : Path) (vs : List Val) → Is the_row path vs → IsPath path
held_path path vs is = subst IsPath is.0.1.0 is.0.1.1
