use Rattle.sf_call.specs.Listings.{listed_entry}
use Rattle.sf_plain.proofs.Pages.{IsPage}
use Rattle.sf_plain.proofs.tree.PlainTree.page.Given as goal

abbrev pub invariant-names : goal.invariant-names
invariant-names l = IsPage (λ e. listed_entry l.self l.directory l.last e) l.self.names l.path-iterator l.page.entries.items l.page.last
