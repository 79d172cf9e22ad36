-- Journals with one more event: their projections to a session and to a rule.
use Rattle.std.proofs.Common.{◌≡◌, ℕ, zero, suc, ◌<◌, ◌≤◌, List, [], ◌∷◌, ◌++◌, Bool, true, Option, Some, None, length, take, drop, refl, ap, sym, ◌∙◌, subst, arith, append-nil, append_assoc, length-append, slice_get}
use Rattle.std.specs.Prelude.{slice_set, nat_eq, nat_lt, if◌then◌else◌, option_map}
use Rattle.std.specs.List.{flat_map}
use Rattle.std.proofs.Math.Seq.{drop-append_seam}
use Rattle.std.proofs.lemmas.Bool.{eq-eqb, ne_eqb, lt-ltb}
use Rattle.std.proofs.lemmas.List.{flat_map_more, take-append-drop, length-take-le}
use Rattle.std.proofs.lemmas.List.Concat.{flat_map-append}
use Rattle.std.proofs.lemmas.List.Sums.{sum_by_push}
use Rattle.sf_session.specs.Responses.{Response, packet_for, transcript, if_so}
use Rattle.sf_engine.specs.Promise.{Entry, of_session}
use Rattle.sf_refusing.specs.declared.rule.Rule.{Rule}
use Rattle.sf_refusing.specs.Journal.{Act, Ruled, Received, Delivered, Made, Apart, PassedOn, RefusedBy, logged, log_of, fed_by, written_by, sent_at, received_by, taken_by, taken_in, sent_by, delivered_by, rules_in, since_given}
use Rattle.sf_refusing.specs.Refusing.{MayHappen, AllMayHappen, IsOwn, HasUnsent, IsServedHere}
use Rattle.sf_refusing.proofs.Entries.{log_adds}

-- ---- lists

pub more : {X A : Type 0} (f : X → List A) (xs : List X) (x : X) → flat_map f (xs ++ x ∷ []) ≡ flat_map f xs ++ f x
more f xs x = sym (flat_map_more f [] xs x)

pub own_so : {A : Type 0} (s : ℕ) (xs : List A) → if_so (nat_eq s s) xs ≡ xs
own_so s xs = ap (λ (b : Bool). if_so b xs) (eq-eqb s s refl)

pub other_so : {A : Type 0} (s other : ℕ) (xs : List A) → (s ≡ other → ⊥) → if_so (nat_eq s other) xs ≡ []
other_so s other xs ne = ap (λ (b : Bool). if_so b xs) (ne_eqb s other ne)

pub get_set_same : {A : Type 0} (xs : List A) (i : ℕ) (x v : A) → slice_get xs i ≡ Some x → slice_get (slice_set xs i v) i ≡ Some v
get_set_same [] i x v h = absurd cc
get_set_same (y ∷ xs) zero x v h = refl
get_set_same (y ∷ xs) (suc i) x v h = get_set_same xs i x v h

pub get_set_other : {A : Type 0} (xs : List A) (i j : ℕ) (v : A) → (j ≡ i → ⊥) → slice_get (slice_set xs i v) j ≡ slice_get xs j
get_set_other [] i j v ne = refl
get_set_other (y ∷ xs) zero zero v ne = absurd (ne refl)
get_set_other (y ∷ xs) zero (suc j) v ne = refl
get_set_other (y ∷ xs) (suc i) zero v ne = refl
get_set_other (y ∷ xs) (suc i) (suc j) v ne = get_set_other xs i j v (λ e. ne (ap (λ (n : ℕ). suc n) e))

pub some_same : {A : Type 0} (x y : A) → Some x ≡ Some y → x ≡ y
some_same x y h = cc

-- ---- the engine's output, with one more entry

pub transcript_on : (xs ys : List Response) → transcript (xs ++ ys) ≡ transcript xs ++ transcript ys
unfolding transcript
transcript_on xs ys = flat_map-append packet_for xs ys

four : (a x y t u : List ℕ) → x ++ y ≡ u → (a ++ u) ++ t ≡ (a ++ x) ++ (y ++ t)
four a x y t u h =
    ap (λ (b : List ℕ). (a ++ b) ++ t) (sym h) ∙ ap (λ (b : List ℕ). b ++ t) (sym (append_assoc a x y))
    ∙ append_assoc (a ++ x) y t

pub unsent_more : (log : List Entry) (e : Entry) (s : ℕ) (u : List ℕ) → HasUnsent log s u → sent_at s e ≤ length u
    → HasUnsent (log ++ e ∷ []) s (drop (sent_at s e) u ++ transcript (written_by s e))
unsent_more log e s u U le =
    let n : ℕ = sent_at s e in
    let t : List ℕ = transcript (written_by s e) in
    let adds = log_adds s log e in
    record {
      sent = U.sent ++ take n u;
      count_is = omega (arith, length-append U.sent (take n u), length-take-le n u le, U.count_is, adds.2);
      packets =
          ap (λ (ws : List Response). transcript ws) adds.1 ∙ transcript_on (of_session s log).wrote (written_by s e)
          ∙ ap (λ (b : List ℕ). b ++ t) U.packets ∙ four U.sent (take n u) (drop n u) t u (take-append-drop n u);
    }

-- the unsent output is unique
pub same_unsent : (log : List Entry) (s : ℕ) (u v : List ℕ) → HasUnsent log s u → HasUnsent log s v → u ≡ v
same_unsent log s u v U V =
    let t : List ℕ = transcript (of_session s log).wrote in
    let same : length U.sent ≡ length V.sent = U.count_is ∙ sym V.count_is in
    sym (drop-append_seam U.sent u) ∙ ap (λ (b : List ℕ). drop (length U.sent) b) (sym U.packets)
    ∙ ap (λ (n : ℕ). drop n t) same ∙ ap (λ (b : List ℕ). drop (length V.sent) b) V.packets ∙ drop-append_seam V.sent v

-- ---- what may happen

pub own_front : (s : ℕ) (journal : List Act) (act : Act) → IsOwn s (journal ++ act ∷ []) → IsOwn s journal
own_front s [] act h = tt
own_front s (x ∷ journal) act h = (h.0, own_front s journal act h.1)

pub happened_more : (front acts : List Act) (act : Act) → AllMayHappen front acts → MayHappen (front ++ acts) act → AllMayHappen front (acts ++ act ∷ [])
unfolding AllMayHappen
happened_more front [] act h may = (subst (λ (j : List Act). MayHappen j act) (append-nil front) may, tt)
happened_more front (x ∷ acts) act h may = (
  h.0,
  happened_more (front ++ x ∷ []) acts act h.1
      (subst (λ (j : List Act). MayHappen j act) (sym (append_assoc front (x ∷ []) acts)) may),
)

-- ---- a session

pub grown : (journal : List Act) (s : ℕ) (act : Act) (held held' output output' unsent' extra : List ℕ) (S : IsServedHere journal s held output) → held ++ received_by s act ≡ taken_by s act ++ held' → HasUnsent (log_of journal ++ logged act) s unsent' → length extra ≡ delivered_by s act → (output ++ S.unsent) ++ sent_by s act ≡ extra ++ (output' ++ unsent')
    → IsServedHere (journal ++ act ∷ []) s held' output'
grown journal s act held held' output output' unsent' extra S c U n w = record {
  received =
      more (received_by s) journal act ∙ ap (λ (b : List ℕ). b ++ received_by s act) S.received
      ∙ append_assoc (taken_in s journal) held (received_by s act) ∙ ap (λ (b : List ℕ). taken_in s journal ++ b) c
      ∙ sym (append_assoc (taken_in s journal) (taken_by s act) held')
      ∙ ap (λ (b : List ℕ). b ++ held') (sym (more (taken_by s) journal act));
  unsent = unsent';
  in_engine = subst (λ (l : List Entry). HasUnsent l s unsent') (sym (more logged journal act)) U;
  gone = S.gone ++ extra;
  count = omega (arith, length-append S.gone extra, S.count, n, sum_by_push (delivered_by s) journal act);
  waits =
      more (sent_by s) journal act ∙ ap (λ (b : List ℕ). b ++ sent_by s act) S.waits
      ∙ ap (λ (b : List ℕ). b ++ sent_by s act) (append_assoc S.gone output S.unsent)
      ∙ append_assoc S.gone (output ++ S.unsent) (sent_by s act) ∙ ap (λ (b : List ℕ). S.gone ++ b) w
      ∙ sym (append_assoc S.gone extra (output' ++ unsent')) ∙ sym (append_assoc (S.gone ++ extra) output' unsent');
}

pub begun_stays : (journal : List Act) (s : ℕ) (act : Act) (begun : Bool) → taken_by s act ≡ [] → begun ≡ nat_lt 0 (length (taken_in s journal)) → begun ≡ nat_lt 0 (length (taken_in s (journal ++ act ∷ [])))
begun_stays journal s act begun none h =
    h ∙ ap (λ (b : List ℕ). nat_lt 0 (length b))
    (sym (append-nil (taken_in s journal)) ∙ ap (λ (b : List ℕ). taken_in s journal ++ b) (sym none) ∙ sym (more (taken_by s) journal act))

pub begun_now : (journal : List Act) (s : ℕ) (act : Act) → 0 < length (taken_by s act) → true ≡ nat_lt 0 (length (taken_in s (journal ++ act ∷ [])))
begun_now journal s act some =
    let n : 0 < length (taken_in s journal ++ taken_by s act) = omega (arith, some, length-append (taken_in s journal) (taken_by s act)) in
    sym (lt-ltb 0 (length (taken_in s journal ++ taken_by s act)) n)
    ∙ ap (λ (b : List ℕ). nat_lt 0 (length b)) (sym (more (taken_by s) journal act))

-- an entry that neither feeds the session nor removes its output
pub entry_served : (journal : List Act) (s : ℕ) (act : Act) (e : Entry) (held output : List ℕ) → logged act ≡ e ∷ [] → received_by s act ≡ [] → taken_by s act ≡ [] → delivered_by s act ≡ 0 → sent_by s act ≡ transcript (written_by s e) → sent_at s e ≡ 0 → IsServedHere journal s held output
    → IsServedHere (journal ++ act ∷ []) s held output
entry_served journal s act e held output is received taken delivered wrote zero_sent S =
    let t : List ℕ = transcript (written_by s e) in
    let le : sent_at s e ≤ length S.unsent = omega (arith, zero_sent) in
    let U : HasUnsent (log_of journal ++ e ∷ []) s (S.unsent ++ t) =
    subst (λ (n : ℕ). HasUnsent (log_of journal ++ e ∷ []) s (drop n S.unsent ++ t)) zero_sent
    (unsent_more (log_of journal) e s S.unsent S.in_engine le) in
    grown journal s act held held output output (S.unsent ++ t) [] S
    (ap (λ (b : List ℕ). held ++ b) received ∙ append-nil held ∙ ap (λ (b : List ℕ). b ++ held) (sym taken))
    (subst (λ (l : List Entry). HasUnsent (log_of journal ++ l) s (S.unsent ++ t)) (sym is) U)
    (sym delivered)
    (ap (λ (b : List ℕ). (output ++ S.unsent) ++ b) wrote ∙ append_assoc output S.unsent t)

-- an event that doesn't concern the session
pub other_served : (journal : List Act) (s : ℕ) (act : Act) (held output : List ℕ) → logged act ≡ [] → received_by s act ≡ [] → taken_by s act ≡ [] → delivered_by s act ≡ 0 → sent_by s act ≡ [] → IsServedHere journal s held output
    → IsServedHere (journal ++ act ∷ []) s held output
other_served journal s act held output is received taken delivered wrote S =
    grown journal s act held held output output S.unsent [] S
    (ap (λ (b : List ℕ). held ++ b) received ∙ append-nil held ∙ ap (λ (b : List ℕ). b ++ held) (sym taken))
    (subst (λ (l : List Entry). HasUnsent l s S.unsent) (sym (ap (λ (l : List Entry). log_of journal ++ l) is ∙ append-nil (log_of journal))) S.in_engine)
    (sym delivered)
    (ap (λ (b : List ℕ). (output ++ S.unsent) ++ b) wrote ∙ append-nil (output ++ S.unsent))

-- bytes are received
pub received_served : (journal : List Act) (s : ℕ) (bytes held output : List ℕ) → IsServedHere journal s held output
    → IsServedHere (journal ++ Received s bytes ∷ []) s (held ++ bytes) output
received_served journal s bytes held output S =
    grown journal s (Received s bytes) held (held ++ bytes) output output S.unsent [] S
    (ap (λ (b : List ℕ). held ++ b) (own_so s bytes))
    (subst (λ (l : List Entry). HasUnsent l s S.unsent) (sym (append-nil (log_of journal))) S.in_engine)
    refl
    (append-nil (output ++ S.unsent))

-- bytes are fed
pub fed_served : (journal : List Act) (s : ℕ) (act : Act) (e : Entry) (front held output : List ℕ) → logged act ≡ e ∷ [] → received_by s act ≡ [] → taken_by s act ≡ front → delivered_by s act ≡ 0 → sent_by s act ≡ transcript (written_by s e) → sent_at s e ≡ 0 → IsServedHere journal s (front ++ held) output
    → IsServedHere (journal ++ act ∷ []) s held output
fed_served journal s act e front held output is received taken delivered wrote zero_sent S =
    let t : List ℕ = transcript (written_by s e) in
    let le : sent_at s e ≤ length S.unsent = omega (arith, zero_sent) in
    let U : HasUnsent (log_of journal ++ e ∷ []) s (S.unsent ++ t) =
    subst (λ (n : ℕ). HasUnsent (log_of journal ++ e ∷ []) s (drop n S.unsent ++ t)) zero_sent
    (unsent_more (log_of journal) e s S.unsent S.in_engine le) in
    grown journal s act (front ++ held) held output output (S.unsent ++ t) [] S
    (ap (λ (b : List ℕ). (front ++ held) ++ b) received ∙ append-nil (front ++ held) ∙ ap (λ (b : List ℕ). b ++ held) (sym taken))
    (subst (λ (l : List Entry). HasUnsent (log_of journal ++ l) s (S.unsent ++ t)) (sym is) U)
    (sym delivered)
    (ap (λ (b : List ℕ). (output ++ S.unsent) ++ b) wrote ∙ append_assoc output S.unsent t)

-- The first bytes of the engine's output are buffered here, and the others there.
pub record IsMoved (journal : List Act) (s : ℕ) (held output rest : List ℕ) : Type 0 where
  pub served : IsServedHere journal s held output
  pub unsent_is : served.unsent ≡ rest

pub moved_served : (journal : List Act) (s : ℕ) (e : Entry) (held output u : List ℕ) (n : ℕ) → fed_by s e ≡ [] → written_by s e ≡ [] → sent_at s e ≡ n → n ≤ length u → HasUnsent (log_of journal) s u → IsServedHere journal s held output
    → IsMoved (journal ++ Made e ∷ []) s held (output ++ take n u) (drop n u)
unfolding transcript grown
moved_served journal s e held output u n fed wrote sent le U S =
    let same : S.unsent ≡ u = same_unsent (log_of journal) s S.unsent u S.in_engine U in
    let none : transcript (written_by s e) ≡ [] = ap (λ (ws : List Response). transcript ws) wrote in
    let at : sent_at s e ≤ length u = omega (arith, sent, le) in
    let V : HasUnsent (log_of journal ++ e ∷ []) s (drop n u) =
    subst (λ (b : List ℕ). HasUnsent (log_of journal ++ e ∷ []) s b)
    (ap (λ (b : List ℕ). drop (sent_at s e) u ++ b) none ∙ append-nil (drop (sent_at s e) u) ∙ ap (λ (k : ℕ). drop k u) sent)
    (unsent_more (log_of journal) e s u U at) in
    record {
      served = grown journal s (Made e) held held output (output ++ take n u) (drop n u) [] S
          (append-nil held ∙ ap (λ (b : List ℕ). b ++ held) (sym fed))
          V
          refl
          (ap (λ (b : List ℕ). (output ++ S.unsent) ++ b) none ∙ append-nil (output ++ S.unsent) ∙ ap (λ (b : List ℕ). output ++ b) (same ∙ sym (take-append-drop n u)) ∙ sym (append_assoc output (take n u) (drop n u)));
      unsent_is = refl;
    }

-- bytes are sent
pub delivered_served : (journal : List Act) (s n : ℕ) (front held output : List ℕ) → length front ≡ n → IsServedHere journal s held (front ++ output)
    → IsServedHere (journal ++ Delivered s n ∷ []) s held output
delivered_served journal s n front held output count S =
    grown journal s (Delivered s n) held held (front ++ output) output S.unsent front S
    (append-nil held)
    (subst (λ (l : List Entry). HasUnsent l s S.unsent) (sym (append-nil (log_of journal))) S.in_engine)
    (count ∙ sym (ap (λ (b : Bool). if b then n else 0) (eq-eqb s s refl)))
    (append-nil ((front ++ output) ++ S.unsent) ∙ append_assoc front output S.unsent)

-- ---- a rule

pub since_more : (journal : List Act) (number : ℕ) (rule : Rule) (since : List Act) (act : Act) → since_given journal number ≡ Some (rule, since) → since_given (journal ++ act ∷ []) number ≡ Some (rule, since ++ act ∷ [])
since_more [] number rule since act h = absurd cc
since_more (Ruled r ∷ journal) zero rule since act h =
    ap (λ (g : Option (Rule × List Act)). option_map (λ (x : Rule × List Act). (x.0, x.1 ++ act ∷ [])) g) h
since_more (Ruled r ∷ journal) (suc number) rule since act h = since_more journal number rule since act h
since_more (Received s bytes ∷ journal) number rule since act h = since_more journal number rule since act h
since_more (Delivered s n ∷ journal) number rule since act h = since_more journal number rule since act h
since_more (Made e ∷ journal) number rule since act h = since_more journal number rule since act h
since_more (Apart e ∷ journal) number rule since act h = since_more journal number rule since act h
since_more (PassedOn p e ∷ journal) number rule since act h = since_more journal number rule since act h
since_more (RefusedBy p id by code e ∷ journal) number rule since act h = since_more journal number rule since act h

pub since_new : (journal : List Act) (rule : Rule) → since_given (journal ++ Ruled rule ∷ []) (length (rules_in journal)) ≡ Some (rule, [])
since_new [] rule = refl
since_new (Ruled r ∷ journal) rule = since_new journal rule
since_new (Received s bytes ∷ journal) rule = since_new journal rule
since_new (Delivered s n ∷ journal) rule = since_new journal rule
since_new (Made e ∷ journal) rule = since_new journal rule
since_new (Apart e ∷ journal) rule = since_new journal rule
since_new (PassedOn p e ∷ journal) rule = since_new journal rule
since_new (RefusedBy p id by code e ∷ journal) rule = since_new journal rule

pub since_none : (journal : List Act) (number : ℕ) → length (rules_in journal) ≤ number → since_given journal number ≡ None
since_none [] number h = refl
since_none (Ruled r ∷ journal) zero h = absurd (omega (arith, h))
since_none (Ruled r ∷ journal) (suc number) h = since_none journal number (omega (arith, h))
since_none (Received s bytes ∷ journal) number h = since_none journal number h
since_none (Delivered s n ∷ journal) number h = since_none journal number h
since_none (Made e ∷ journal) number h = since_none journal number h
since_none (Apart e ∷ journal) number h = since_none journal number h
since_none (PassedOn p e ∷ journal) number h = since_none journal number h
since_none (RefusedBy p id by code e ∷ journal) number h = since_none journal number h
