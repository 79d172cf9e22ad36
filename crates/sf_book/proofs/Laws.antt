-- For other crates: a book with the last records of a history has the last ones of the extended
-- history after `put`. All other files here are private to this crate.
use Rattle.std.specs.Prelude.{◌≡◌, ◌≤◌, ◌+◌, ◌-◌, ℕ, cond, List, [], ◌∷◌, ◌++◌, length, take, drop, Option, Some, None, refl}
use Rattle.std.specs.List.{count_by}
use Rattle.std.proofs.Common.{sym, ap, ◌∙◌, arith, length-append, length-drop}
use Rattle.std.proofs.lemmas.List.{take-append-le, drop-append-le, drop-drop}
use Rattle.std.proofs.lemmas.List.Sums.{sum_by-take-drop, sum_by-append}
use Rattle.sf_call.specs.declared.record.Record.{Record}
use Rattle.sf_book.specs.Books.{is_call, excess, kept_of, gone_of}

abbrev call_count : List Record → ℕ
call_count records = count_by is_call records

-- the number of calls in two lists, in a prefix and in the suffix
pub call_count-append : (xs ys : List Record) → count_by is_call (xs ++ ys) ≡ count_by is_call xs + count_by is_call ys
call_count-append xs ys = sum_by-append (λ (r : Record). cond (is_call r) 1 0) xs ys

pub call_count-split : (xs : List Record) (n : ℕ) → count_by is_call (take n xs) + count_by is_call (drop n xs) ≡ count_by is_call xs
call_count-split xs n = sum_by-take-drop (λ (r : Record). cond (is_call r) 1 0) xs n

within : (keep : Option ℕ) (h : List Record) → excess keep h ≤ length h
within None h = omega arith
within (Some n) h = omega arith

excess-put : (keep : Option ℕ) (h : List Record) (r : Record) → excess keep h + excess keep (kept_of keep h ++ r ∷ []) ≡ excess keep (h ++ r ∷ [])
excess-put None h r = refl
excess-put (Some n) h r = omega (arith, length-append h (r ∷ []), length-append (drop (length h - n) h) (r ∷ []), length-drop (length h - n) h)

pub kept-put : (keep : Option ℕ) (h : List Record) (r : Record) → kept_of keep (kept_of keep h ++ r ∷ []) ≡ kept_of keep (h ++ r ∷ [])
kept-put keep h r =
    ap (drop (excess keep (kept_of keep h ++ r ∷ []))) (sym (drop-append-le (excess keep h) h (r ∷ []) (within keep h)))
    ∙ drop-drop (excess keep (kept_of keep h ++ r ∷ [])) (excess keep h) (h ++ r ∷ [])
    ∙ ap (λ n. drop n (h ++ r ∷ [])) (excess-put keep h r)

pub gone-put : (keep : Option ℕ) (h : List Record) (r : Record)
    → count_by is_call (gone_of keep h) + count_by is_call (gone_of keep (kept_of keep h ++ r ∷ [])) ≡ count_by is_call (gone_of keep (h ++ r ∷ []))
gone-put keep h r = by_split (h ++ r ∷ []) (excess keep h) (excess keep (kept_of keep h ++ r ∷ [])) (excess keep (h ++ r ∷ [])) (excess-put keep h r)
    (gone_of keep h) (kept_of keep h ++ r ∷ []) (sym (take-append-le (excess keep h) h (r ∷ []) (within keep h))) (sym (drop-append-le (excess keep h) h (r ∷ []) (within keep h)))
  where
    by_split : (xs : List Record) (a b n : ℕ) → a + b ≡ n → (front rest : List Record) → front ≡ take a xs → rest ≡ drop a xs
        → count_by is_call front + count_by is_call (take b rest) ≡ count_by is_call (take n xs)
    by_split xs a b n e front rest f g =
        let whole = call_count-split xs a in
        let later = call_count-split (drop a xs) b in
        let all = call_count-split xs n in
        let same : count_by is_call (drop b (drop a xs)) ≡ count_by is_call (drop n xs) = ap call_count (drop-drop b a xs ∙ ap (λ k. drop k xs) e) in
        let x : count_by is_call front ≡ count_by is_call (take a xs) = ap call_count f in
        let y : count_by is_call (take b rest) ≡ count_by is_call (take b (drop a xs)) = ap (λ (l : List Record). call_count (take b l)) g in
        omega (arith, whole, later, all, same, x, y)
