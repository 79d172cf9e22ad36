-- For dependent crates: concatenated lists of calls, about definitions only. All other files here
-- are private to this crate.
use Rattle.std.proofs.Common.{◌+◌, ℕ, List, [], ◌∷◌, ◌++◌, Option, None, Some, refl, sym, ap, ◌∙◌, append-nil, append_assoc, arith}
use Rattle.std.specs.List.{AllByRecursion}
use Rattle.std.proofs.lemmas.List.Sums.{sum_by-append}
use Rattle.sf_line.specs.declared.line_call.LineCall.{LineCall}
use Rattle.sf_line.specs.Lines.{Logs, LogsWrites, IsWrite, bytes_taken}

pub logs_none : (a : Option (List LineCall)) → Logs a a []
logs_none None = tt
logs_none (Some x) = sym (append-nil x)

pub logs_more : (a b c : Option (List LineCall)) (xs ys : List LineCall) → Logs a b xs → Logs b c ys → Logs a c (xs ++ ys)
logs_more None b c xs ys p q = tt
logs_more (Some x) None c xs ys p q = absurd p
logs_more (Some x) (Some y) None xs ys p q = absurd q
logs_more (Some x) (Some y) (Some z) xs ys p q = q ∙ ap (λ (l : List LineCall). l ++ ys) p ∙ append_assoc x xs ys

are_writes_more : (xs ys : List LineCall) → AllByRecursion IsWrite xs → AllByRecursion IsWrite ys → AllByRecursion IsWrite (xs ++ ys)
are_writes_more [] ys p q = q
are_writes_more (x ∷ xs) ys p q = (p.0, are_writes_more xs ys p.1 q)

pub writes_none : (a : Option (List LineCall)) → LogsWrites a a 0
writes_none a = ([], logs_none a, tt, refl)

pub writes_more : (a b c : Option (List LineCall)) (m n : ℕ) → LogsWrites a b m → LogsWrites b c n → LogsWrites a c (m + n)
writes_more a b c m n p q = (
  p.0 ++ q.0,
  logs_more a b c p.0 q.0 p.1 q.1,
  are_writes_more p.0 q.0 p.2 q.2,
  omega (arith, sum_by-append bytes_taken p.0 q.0, p.3, q.3),
)
