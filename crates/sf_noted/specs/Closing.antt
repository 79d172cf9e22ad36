-- No public clause cites this module.
-- The pages of a closed core.
use Rattle.std.specs.Prelude.{◌≡◌, ◌≢◌, ◌+◌, ◌-◌, ℕ, List, Some, slice_get}
use Rattle.std.specs.List.{sum_by}
use Rattle.sf_noted.specs.Pages.{Page, page_calls}
use Rattle.sf_noted.specs.PageChanges.{cleared}
use Rattle.sf_noted.specs.Visits.{visit_calls}

-- The pages of these sessions are cleared, each once, and other pages stay.
pub record AreCleared (pages : List Page) (visits : List (ℕ × Page)) (pages' : List Page)
    : Type 0 where
  pub counted : sum_by page_calls pages' + visit_calls visits ≡ sum_by page_calls pages
  pub kept : (place : ℕ)
      → ((i : ℕ) (x : ℕ × Page) → slice_get visits i ≡ Some x → x.0 ≢ place + 1)
      → slice_get pages' place ≡ slice_get pages place
  pub cleared_ones : (i : ℕ) (x : ℕ × Page) → slice_get visits i ≡ Some x
      → slice_get pages' (x.0 - 1) ≡ Some (cleared x.1)
  pub distinct : (i j : ℕ) (x y : ℕ × Page) → slice_get visits i ≡ Some x
      → slice_get visits j ≡ Some y → x.0 ≡ y.0 → i ≡ j
