use Rattle.std.proofs.Common.{◌<◌, sym, subst, length}
use Rattle.sf_book.specs.Books.{BookView}
use Rattle.sf_book.proofs.Keeping.{kept_on}
use Rattle.sf_book.proofs.book.Book.forget_oldest.Goals as goal

pub invariant_of-self : goal.invariant_of-self
invariant_of-self c =
    kept_on c.self.inside.entries.items c.self.inside.gone _ c.self.inside.keep (subst (λ (b : BookView). 0 < length b.records) (sym c.self.view_is) c.requires) c.self.invariant.1
