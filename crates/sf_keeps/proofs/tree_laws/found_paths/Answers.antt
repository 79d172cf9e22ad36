use Rattle.sf_keeps.proofs.Finding.{walk_on, label_found, way_found, place_found, object_found, directory_found, absent_found, no_way_on, file_in_way}
use Rattle.sf_keeps.proofs.Bare.{bare_found}
use Rattle.sf_keeps.proofs.tree_laws.found_paths.Goals as goal

pub returns-clause-next : goal.returns-clause-next
returns-clause-next c = λ s t p dir n k. walk_on s t k p dir n

pub returns-clause-label : goal.returns-clause-label
returns-clause-label c = λ s t p k. label_found s t k p

pub returns-clause-way : goal.returns-clause-way
returns-clause-way c = λ s t p dir n k. way_found s t k p dir n

pub returns-clause-place : goal.returns-clause-place
returns-clause-place c = λ s t p id node k. place_found s t k p id node

pub returns-clause-found : goal.returns-clause-found
returns-clause-found c = λ s t p id node k. object_found s t k p id node

pub returns-clause-directory : goal.returns-clause-directory
returns-clause-directory c = λ s t p dir label m k. directory_found s t k p dir label m

pub returns-clause-absent : goal.returns-clause-absent
returns-clause-absent c = λ s t p dir n k. absent_found s t k p dir n

pub returns-clause-beyond : goal.returns-clause-beyond
returns-clause-beyond c = λ s t p dir n m q k. no_way_on s t k p dir n m q

pub returns-clause-file : goal.returns-clause-file
returns-clause-file c = λ s t p id n q k. file_in_way s t k p id n q

pub returns-clause-empty : goal.returns-clause-empty
returns-clause-empty c = λ s t p id k at. bare_found s t k p id at
