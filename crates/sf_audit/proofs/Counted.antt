-- The number of calls of a history, from the suffix that a core retains.
use Rattle.std.proofs.Common.{◌≡◌, ◌≤◌, ◌+◌, List, take, ◌∙◌, ap, arith}
use Rattle.std.specs.List.{count_by}
use Rattle.sf_call.specs.declared.record.Record.{Record}
use Rattle.sf_book.proofs.Laws.{call_count-split}
use Rattle.sf_book.specs.Books.{is_call, excess}
use Rattle.sf_core.specs.Cores.{CoreView}
use Rattle.sf_core.specs.Histories.{IsHistory}

pub counted : (v : CoreView) (h : List Record) → IsHistory v h → v.folded + count_by is_call v.records ≡ count_by is_call h
counted v h is = is_it
  where
    is_it : v.folded + count_by is_call v.records ≡ count_by is_call h
    is_it = ap (λ n. n + count_by is_call v.records) is.folded ∙ (ap (λ rs. count_by is_call (take (excess v.keep h) h) + count_by is_call rs) is.records ∙ call_count-split h (excess v.keep h))

pub not_more : (v : CoreView) (h : List Record) → IsHistory v h → count_by is_call h ≤ v.drawn
not_more v h is = omega (arith, is.counted)
