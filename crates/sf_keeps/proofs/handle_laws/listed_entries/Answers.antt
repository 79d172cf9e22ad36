use Rattle.sf_keeps.proofs.Listings.{content_is, path_found, label_listed, nodes_listed, names_listed}
use Rattle.sf_keeps.proofs.handle_laws.listed_entries.Goals as goal

pub returns-clause-path : goal.returns-clause-path
returns-clause-path c = λ s t p dir node k at here is. path_found s t k dir node here p at (content_is s dir node here is)

pub returns-clause-listing : goal.returns-clause-listing
returns-clause-listing c = λ s t dir node last k here is. label_listed s t k dir last node here (content_is s dir node here is)

pub returns-clause-nodes : goal.returns-clause-nodes
returns-clause-nodes c = λ s t dir last k. nodes_listed s t k dir last

pub returns-clause-names : goal.returns-clause-names
returns-clause-names c = λ s t dir last k. names_listed s t k dir last
