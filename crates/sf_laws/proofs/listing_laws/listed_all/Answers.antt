use Rattle.sf_laws.proofs.ListedAll.{listing_complete, listing_there}
use Rattle.sf_laws.proofs.listing_laws.listed_all.Goals as goal

pub returns-clause-complete : goal.returns-clause-complete
returns-clause-complete c = λ tree last directory name label object ordered at there.
    listing_complete tree last directory (record { name = name; label = label; object = object; at = at; there = there }) ordered

pub returns-clause-there : goal.returns-clause-there
returns-clause-there c = listing_there
