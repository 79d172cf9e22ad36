use Rattle.sf_laws.proofs.InOrder.{listing_order, listing_past}
use Rattle.sf_laws.proofs.listing_laws.listed_in_order.Goals as goal

pub returns-clause-order : goal.returns-clause-order
returns-clause-order c = listing_order

pub returns-clause-past : goal.returns-clause-past
returns-clause-past c = listing_past
