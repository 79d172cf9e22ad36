-- Decoding entries one after the other, as a loop does.
use Rattle.std.proofs.Common.{◌≡◌, ℕ, zero, suc, ◌-◌, ◌+◌, ◌≤◌, ◌<◌, List, [], ◌∷◌, ◌++◌, length, Option, Some, None, refl, sym, ap, ◌∙◌, append_assoc, append-nil, arith}
use Rattle.std.specs.Prelude.{option_map}
use Rattle.sf_field.specs.Reading.{◌>>=◌}
use Rattle.sf_reply.specs.declared.reply.Entry.{Entry}
use Rattle.sf_reply.specs.Reading.{entry_at, entries_at, after_entries, listed}

-- ---- skipping

others : (n : ℕ) (entry : Entry) (after : List ℕ) (o : Option (List Entry × List ℕ)) → option_map (λ (x : List Entry × List ℕ). x.1) (o >>= λ (x : List Entry × List ℕ). Some (entry ∷ x.0, x.1)) ≡ option_map (λ (x : List Entry × List ℕ). x.1) o
others n entry after None = refl
others n entry after (Some x) = refl

goes_on_by : (n : ℕ) (entry : Entry) (after bytes : List ℕ) → entry_at bytes ≡ Some (entry, after) → after_entries (suc n) bytes ≡ after_entries n after
unfolding entries_at
goes_on_by n entry after bytes h = rw h (others n entry after (entries_at n after))

pub goes_on : (count i : ℕ) (entry : Entry) (bytes after : List ℕ) (total : Option (List ℕ)) → i < count → entry_at bytes ≡ Some (entry, after) → after_entries (count - i) bytes ≡ total → after_entries (count - (i + 1)) after ≡ total
goes_on count i entry bytes after total lt h so_far =
    let k : count - i ≡ suc (count - (i + 1)) = omega arith in
    sym (goes_on_by (count - (i + 1)) entry after bytes h) ∙ ap (λ (n : ℕ). after_entries n bytes) (sym k) ∙ so_far

pub ends : (count i : ℕ) (bytes : List ℕ) (total : Option (List ℕ)) → i < count → entry_at bytes ≡ None → after_entries (count - i) bytes ≡ total → total ≡ None
unfolding entries_at
ends count i bytes total lt h so_far =
    let k : count - i ≡ suc (count - (i + 1)) = omega arith in
    let one : after_entries (count - i) bytes ≡ None = rw (k, h) refl in
    sym so_far ∙ one

pub is_done : (count i : ℕ) (bytes : List ℕ) (total : Option (List ℕ)) → count ≤ i → after_entries (count - i) bytes ≡ total → total ≡ Some bytes
unfolding entries_at
is_done count i bytes total le so_far =
    let k : count - i ≡ 0 = omega arith in
    let one : after_entries (count - i) bytes ≡ Some bytes = rw k refl in
    sym so_far ∙ one

-- ---- collecting

-- the entries read before, followed by the result
abbrev pub after : List Entry → Option (List Entry × List ℕ) → Option (List Entry × List ℕ)
after done None = None
after done (Some others) = Some (done ++ others.0, others.1)

pub first : (o : Option (List Entry × List ℕ)) → after [] o ≡ o
first None = refl
first (Some x) = refl

joined : (done : List Entry) (entry : Entry) (o : Option (List Entry × List ℕ)) → after (done ++ entry ∷ []) o ≡ after done (o >>= λ (x : List Entry × List ℕ). Some (entry ∷ x.0, x.1))
joined done entry None = refl
joined done entry (Some x) = ap (λ (es : List Entry). Some (es, x.1)) (append_assoc done (entry ∷ []) x.0)

pub one_more : {now : List Entry} {entry : Entry} {rest : List ℕ} {total : Option (List Entry × List ℕ)} (count i : ℕ) (done : List Entry) (bytes : List ℕ) → i < count → entry_at bytes ≡ Some (entry, rest) → now ≡ done ++ entry ∷ []
    → after done (entries_at (count - i) bytes) ≡ total → after now (entries_at (count - (i + 1)) rest) ≡ total
unfolding entries_at
one_more {now} {entry} {rest} count i done bytes lt h is so_far =
    let k : count - i ≡ suc (count - (i + 1)) = omega arith in
    let one : after done (entries_at (count - i) bytes) ≡ after now (entries_at (count - (i + 1)) rest) = rw (k, h, is) (sym (joined done entry (entries_at (count - (i + 1)) rest))) in
    sym one ∙ so_far

pub none_more : (count i : ℕ) (done : List Entry) (bytes : List ℕ) (total : Option (List Entry × List ℕ)) → i < count → entry_at bytes ≡ None
    → after done (entries_at (count - i) bytes) ≡ total → [] ≡ listed total
unfolding entries_at
none_more count i done bytes total lt h so_far =
    let k : count - i ≡ suc (count - (i + 1)) = omega arith in
    let one : after done (entries_at (count - i) bytes) ≡ None = rw (k, h) refl in
    ap listed (sym one ∙ so_far)

pub all_read : (count i : ℕ) (done : List Entry) (bytes : List ℕ) (total : Option (List Entry × List ℕ)) → count ≤ i
    → after done (entries_at (count - i) bytes) ≡ total → done ≡ listed total
unfolding entries_at
all_read count i done bytes total le so_far =
    let k : count - i ≡ 0 = omega arith in
    let one : after done (entries_at (count - i) bytes) ≡ Some (done ++ [], bytes) = rw k refl in
    sym (append-nil done) ∙ ap listed (sym one ∙ so_far)

-- ---- counting

counted_after : (n : ℕ) (entry : Entry) (rest : List ℕ) (o : Option (List Entry × List ℕ)) → (option_map (λ (x : List Entry × List ℕ). x.1) o ≡ Some rest → length (listed o) ≡ n)
    → option_map (λ (x : List Entry × List ℕ). x.1) (o >>= λ (x : List Entry × List ℕ). Some (entry ∷ x.0, x.1)) ≡ Some rest → length (listed (o >>= λ (x : List Entry × List ℕ). Some (entry ∷ x.0, x.1))) ≡ suc n
counted_after n entry rest None h e = absurd cc
counted_after n entry rest (Some x) h e = ap suc (h e)

counted_by : (n : ℕ) (rest : List ℕ) (o : Option (Entry × List ℕ)) → ((after : List ℕ) → option_map (λ (x : List Entry × List ℕ). x.1) (entries_at n after) ≡ Some rest → length (listed (entries_at n after)) ≡ n)
    → option_map (λ (x : List Entry × List ℕ). x.1) (o >>= λ (e : Entry × List ℕ). entries_at n e.1 >>= λ (x : List Entry × List ℕ). Some (e.0 ∷ x.0, x.1)) ≡ Some rest
    → length (listed (o >>= λ (e : Entry × List ℕ). entries_at n e.1 >>= λ (x : List Entry × List ℕ). Some (e.0 ∷ x.0, x.1))) ≡ suc n
counted_by n rest None h e = absurd cc
counted_by n rest (Some entry) h e = counted_after n entry.0 rest (entries_at n entry.1) (h entry.1) e

pub entries_counted : (n : ℕ) (bytes rest : List ℕ) → after_entries n bytes ≡ Some rest → length (listed (entries_at n bytes)) ≡ n
unfolding entries_at
entries_counted zero bytes rest e = refl
entries_counted (suc n) bytes rest e = counted_by n rest (entry_at bytes) (λ after. entries_counted n after rest) e
