use Rattle.sf_keeps.proofs.SessionHandles.{found_node, free_handles}
use Rattle.sf_keeps.proofs.handle_laws.found_handles.Goals as goal

pub returns-clause-same : goal.returns-clause-same
returns-clause-same c = λ s t session number k. k.shows.by.handles session number

pub returns-clause-node : goal.returns-clause-node
returns-clause-node c = λ s t session number h k at. found_node s t k session number h at

pub returns-clause-free : goal.returns-clause-free
returns-clause-free c = λ s t session number k free. free_handles s t k number free session
