use Rattle.std.proofs.Common.{length, refl}
use Rattle.std.proofs.Math.Nat.{min-eq_right}
use Rattle.std.proofs.lemmas.Bool.{leb-true, le-leb, lt-leb}
use Rattle.sf_call.specs.Tree.{links}
use Rattle.sf_call.proofs.tree_laws.limit_cases.Goals as goal

pub returns-clause-sized : goal.returns-clause-sized
returns-clause-sized c m contents = (refl, refl)

pub returns-clause-written : goal.returns-clause-written
returns-clause-written c moment byte handle m contents writes appends = (rw writes (rw appends refl), rw writes (rw appends refl))

pub returns-clause-read : goal.returns-clause-read
returns-clause-read c len handle m contents reads some long = rw reads (rw (lt-leb (length contents) 0 some) (rw (min-eq_right long) refl))

pub returns-clause-open : goal.returns-clause-open
returns-clause-open c tree session = (leb-true 128 _, le-leb 128 _)

pub returns-clause-linked : goal.returns-clause-linked
returns-clause-linked c tree moment label new = (λ few. rw (lt-leb 1024 (links tree.names label) few) refl, λ most. rw (le-leb 1024 (links tree.names label) most) refl)

pub returns-clause-listed : goal.returns-clause-listed
returns-clause-listed c tree last directory = refl
