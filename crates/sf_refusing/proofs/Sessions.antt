-- The effects and results of the methods of refusals.
use Rattle.std.proofs.Common.{◌≡◌, ◌≢◌, ℕ, zero, suc, ◌+◌, ◌<◌, ◌≤◌, ◌⊎◌, List, [], ◌∷◌, ◌++◌, Bool, false, Some, Result, Ok, Err, length, take, drop, map, slice_get, refl, ap, sym, ◌∙◌, subst, arith, inl, inr, append-nil, append_assoc, length-append}
use Rattle.std.specs.Prelude.{OnErr, OnOk, slice_set, nat_eq, if◌then◌else◌}
use Rattle.std.specs.List.{AllByRecursion}
use Rattle.std.proofs.lemmas.Bool.{cases_eq, eq-eqb, ne_eqb}
use Rattle.std.proofs.lemmas.List.{append_cancel_left, length-take-le}
use Rattle.std.proofs.lemmas.Option.{slice_get_within}
use Rattle.sf_wire.specs.declared.cutting.Cut.TheVariants as cut
use Rattle.sf_wire.specs.Packets.{IsCut}
use Rattle.sf_engine.specs.declared.event.Happened.{Happened}
use Rattle.sf_engine.specs.declared.event.EngineFault.{EngineFault}
use Rattle.sf_engine.specs.Promise.{Entry, BytesSent, IsLawful, WaitsForBytes}
use Rattle.sf_refusing.specs.declared.given.GivenRule.{GivenRule}
use Rattle.sf_refusing.specs.declared.passage.Passage.{Passage}
use Rattle.sf_refusing.specs.declared.refusals.Refusals.{Refusals}
use Rattle.sf_refusing.specs.Journal.{Act, Received, Delivered, Made, logged, log_of, fed_by, written_by, sent_at, received_in, taken_in}
use Rattle.sf_refusing.specs.Refusing.{IsOwn, HasUnsent, IsServedHere, ServesHere, AreGiven, AllMayHappen, HasJournal, Have, NoneIsHeld, PassesOn, MovesFront, IsTurn, IsNextOutput}
use Rattle.sf_refusing.specs.Fronts.{IsPassageAt, StandsBefore, EngineHoldsAfter}
use Rattle.sf_refusing.proofs.Entries.{none_so, IsPlain}
use Rattle.sf_refusing.proofs.Growing.{more, other_so, own_front, happened_more, begun_stays, received_served, IsMoved, moved_served, delivered_served, same_unsent, entry_served}
use Rattle.sf_refusing.proofs.Counts.{rules_stay}
use Rattle.sf_refusing.proofs.Steps.{plain_all, log_done, other_serves, changed_has}

pub on_err : {A B : Type 0} (r : Result A B) (P : Type 0) → P → OnErr r P
on_err (Ok x) P h = tt
on_err (Err e) P h = h

pub on_ok : {A B : Type 0} (r : Result A B) (P : Type 0) → P → OnOk r P
on_ok (Ok x) P h = h
on_ok (Err e) P h = tt

-- the same passages and rules
pub same_has : (r r' : Refusals) (journal : List Act) → r'.passages.items ≡ r.passages.items → r'.rules.items ≡ r.rules.items → HasJournal r journal → HasJournal r' journal
same_has r r' journal passages rules H = record {
  happened = H.happened;
  each = λ i p at. H.each i p (ap (λ (ps : List Passage). slice_get ps i) (sym passages) ∙ at);
  others = λ s none. H.others s (subst (λ (ps : List Passage). (s ≡ 0) ⊎ (length ps < s)) passages none);
  rules = subst (λ (rs : List GivenRule). AreGiven journal rs) (sym rules) H.rules;
}

pub set_same : {A : Type 0} → (xs : List A) (i : ℕ) (x : A) → slice_get xs i ≡ Some x → slice_set xs i x ≡ xs
set_same [] i x h = refl
set_same (y ∷ xs) zero x h = cc
set_same (y ∷ xs) (suc i) x h = ap (λ ys. y ∷ ys) (set_same xs i x h)

-- one more passage, for a session without one
pub pushed_has : (r r' : Refusals) (journal : List Act) (p : Passage) → r'.passages.items ≡ r.passages.items ++ p ∷ [] → r'.rules.items ≡ r.rules.items → p.held.items ≡ [] → p.output.items ≡ [] → p.begun ≡ false → HasJournal r journal → HasJournal r' journal
pushed_has r r' journal p passages rules held output begun H =
    let new : IsPassageAt journal (length r.passages.items + 1) p =
    subst (λ (b : Bool). ServesHere journal (length r.passages.items + 1) p.held.items p.output.items b) (sym begun)
    (subst (λ (o : List ℕ). ServesHere journal (length r.passages.items + 1) p.held.items o false) (sym output)
    (subst (λ (h : List ℕ). ServesHere journal (length r.passages.items + 1) h [] false) (sym held)
    (H.others (length r.passages.items + 1) (inr (omega arith))))) in
    let long : length r'.passages.items ≡ length r.passages.items + 1 = ap (λ (ps : List Passage). length ps) passages ∙ length-append r.passages.items (p ∷ []) in
    record {
      happened = H.happened;
      each = λ i q at. elim (last_got r.passages.items i p q (ap (λ (ps : List Passage). slice_get ps i) (sym passages) ∙ at)) [
        | inl old ↦ H.each i q old
        | inr last ↦ subst (λ (n : ℕ). IsPassageAt journal (n + 1) q) (sym last.0) (subst (λ (x : Passage). IsPassageAt journal (length r.passages.items + 1) x) last.1 new)
      ];
      others = λ s none. H.others s (elim none [ inl z ↦ inl z | inr lt ↦ inr (omega (arith, lt, long)) ]);
      rules = subst (λ (rs : List GivenRule). AreGiven journal rs) (sym rules) H.rules;
    }
  where
    last_got : {A : Type 0} (xs : List A) (i : ℕ) (v t : A) → slice_get (xs ++ v ∷ []) i ≡ Some t → (slice_get xs i ≡ Some t) ⊎ ((i ≡ length xs) × (v ≡ t))
    last_got [] zero v t h = inr (refl, cc)
    last_got [] (suc i) v t h = absurd cc
    last_got (x ∷ xs) zero v t h = inl h
    last_got (x ∷ xs) (suc i) v t h = elim (last_got xs i v t h) [ inl e ↦ inl e | inr e ↦ inr (ap (λ (n : ℕ). suc n) e.0, e.1) ]

-- ---- bytes are received

pub received_has : (r r' : Refusals) (journal : List Act) (s at : ℕ) (p p' : Passage) (bytes : List ℕ) → HasJournal r journal → slice_get r.passages.items at ≡ Some p → at + 1 ≡ s → r'.passages.items ≡ slice_set r.passages.items at p' → r'.rules.items ≡ r.rules.items → p'.held.items ≡ p.held.items ++ bytes → p'.output.items ≡ p.output.items → p'.begun ≡ p.begun → HasJournal r' (journal ++ Received s bytes ∷ [])
received_has r r' journal s at p p' bytes H here number set rules held output begun =
    let act : Act = Received s bytes in
    let S : IsPassageAt journal s p = subst (λ (n : ℕ). IsPassageAt journal n p) number (H.each at p here) in
    let now : ServesHere (journal ++ act ∷ []) s (p.held.items ++ bytes) p.output.items p.begun = record {
      begun_is = begun_stays journal s act p.begun refl S.begun_is;
      served = λ own. received_served journal s bytes p.held.items p.output.items (S.served (own_front s journal act own));
    } in
    changed_has r r' journal (journal ++ act ∷ []) s at p p' H here number set (record {
      happened = happened_more [] journal act H.happened tt;
      at = subst (λ (b : Bool). ServesHere (journal ++ act ∷ []) s p'.held.items p'.output.items b) (sym begun)
          (subst (λ (o : List ℕ). ServesHere (journal ++ act ∷ []) s p'.held.items o p.begun) (sym output)
          (subst (λ (h : List ℕ). ServesHere (journal ++ act ∷ []) s h p.output.items p.begun) (sym held) now));
      rules = subst (λ (rs : List GivenRule). AreGiven (journal ++ act ∷ []) rs) (sym rules)
          (rules_stay journal r.rules.items act H.rules refl (λ number rule. refl) (λ number. refl));
      others = λ other held output begun ne serves.
          other_serves journal other act held output begun refl (other_so s other bytes (λ same. ne (sym same))) refl refl refl serves;
    })

-- ---- a turn

-- the engine's turns, after the first buffered bytes were passed on
pub have_turned : {E : Type 0} (has_log : E → List Entry → Type 0) (engine : E) (r : Refusals) (journal passed : List Act) (entries : List Entry) → HasJournal r (journal ++ passed) → AllByRecursion IsPlain entries → has_log engine (log_of (journal ++ passed) ++ entries) → Have has_log engine r (journal ++ (passed ++ map Made entries))
have_turned {E} has_log engine r journal passed entries H plain has =
    let all : (journal ++ passed) ++ map Made entries ≡ journal ++ (passed ++ map Made entries) = append_assoc journal passed (map Made entries) in
    subst (λ (j : List Act). Have has_log engine r j) all (
      plain_all r entries (journal ++ passed) plain H,
      subst (λ (l : List Entry). has_log engine l) (log_done (journal ++ passed) entries) has,
    )

pub turned : {E : Type 0} (has_log : E → List Entry → Type 0) (engine : E) (r : Refusals) (journal passed : List Act) (s : ℕ) (result : Result Happened EngineFault) (AreMade : List Entry → Type 0) (entries : List Entry) → PassesOn journal s passed → HasJournal r (journal ++ passed) → AreMade entries → AllByRecursion IsPlain entries → has_log engine (log_of (journal ++ passed) ++ entries) → (acts : List Act) × IsTurn journal s AreMade result acts × Have has_log engine r (journal ++ acts)
turned {E} has_log engine r journal passed s result AreMade entries on H made plain has =
    (passed ++ map Made entries, inr (inl (passed, entries, on, made, refl)), have_turned has_log engine r journal passed entries H plain has)

-- ---- output is sent

pub next_all : (journal : List Act) (s : ℕ) (held output out : List ℕ) → output ≡ [] → IsServedHere journal s held output → HasUnsent (log_of journal) s out → IsNextOutput journal s out
next_all journal s held output out none S U =
    let same : S.unsent ≡ out = same_unsent (log_of journal) s S.unsent out S.in_engine U in
    record {
      gone = S.gone;
      later = [];
      count = S.count;
      waits = S.waits ∙ ap (λ (b : List ℕ). S.gone ++ b ++ S.unsent) none ∙ ap (λ (b : List ℕ). b ++ S.unsent) (append-nil S.gone) ∙ ap (λ (b : List ℕ). S.gone ++ b) same ∙ sym (append-nil (S.gone ++ out));
      last = λ empty. refl;
    }

pub next_first : (journal : List Act) (s : ℕ) (held output : List ℕ) → (output ≡ [] → ⊥) → IsServedHere journal s held output → IsNextOutput journal s output
next_first journal s held output some S = record {
  gone = S.gone;
  later = S.unsent;
  count = S.count;
  waits = S.waits;
  last = λ empty. absurd (some empty);
}

-- output that is buffered here is sent first
pub delivered_has : (r r' : Refusals) (journal : List Act) (s at n : ℕ) (p p' : Passage) (front : List ℕ) → HasJournal r journal → slice_get r.passages.items at ≡ Some p → at + 1 ≡ s → r'.passages.items ≡ slice_set r.passages.items at p' → r'.rules.items ≡ r.rules.items → length front ≡ n → p.output.items ≡ front ++ p'.output.items → p'.held.items ≡ p.held.items → p'.begun ≡ p.begun → HasJournal r' (journal ++ Delivered s n ∷ [])
delivered_has r r' journal s at n p p' front H here number set rules count output held begun =
    let act : Act = Delivered s n in
    let S : IsPassageAt journal s p = subst (λ (n : ℕ). IsPassageAt journal n p) number (H.each at p here) in
    let now : ServesHere (journal ++ act ∷ []) s p.held.items p'.output.items p.begun = record {
      begun_is = begun_stays journal s act p.begun refl S.begun_is;
      served = λ own. delivered_served journal s n front p.held.items p'.output.items count
          (subst (λ (o : List ℕ). IsServedHere journal s p.held.items o) output (S.served (own_front s journal act own)));
    } in
    changed_has r r' journal (journal ++ act ∷ []) s at p p' H here number set (record {
      happened = happened_more [] journal act H.happened tt;
      at = subst (λ (b : Bool). ServesHere (journal ++ act ∷ []) s p'.held.items p'.output.items b) (sym begun)
          (subst (λ (h : List ℕ). ServesHere (journal ++ act ∷ []) s h p'.output.items p.begun) (sym held) now);
      rules = subst (λ (rs : List GivenRule). AreGiven (journal ++ act ∷ []) rs) (sym rules)
          (rules_stay journal r.rules.items act H.rules refl (λ number rule. refl) (λ number. refl));
      others = λ other held output begun ne serves.
          other_serves journal other act held output begun refl refl refl (ap (λ (b : Bool). if b then n else 0) (ne_eqb s other (λ same. ne (sym same)))) refl serves;
    })

-- ---- the engine's output is sent

-- no more is removed than there was
pub were_there : (log : List Entry) (s k : ℕ) → IsLawful log (BytesSent s k) → (u : List ℕ) → HasUnsent log s u → k ≤ length u
were_there log s k lawful u U = omega (arith, lawful.1, ap (λ (b : List ℕ). length b) U.packets, length-append U.sent u, U.count_is)

-- `k` bytes of the engine's output were removed, and `n` bytes were sent, which were buffered here
-- before them
abbrev pub sent_on : List Act → ℕ → ℕ → ℕ → List Act
sent_on journal s n k = (journal ++ Made (BytesSent s k) ∷ []) ++ Delivered s n ∷ []

sent_fed : (s k other : ℕ) → fed_by other (BytesSent s k) ≡ []
sent_fed s k other = none_so (nat_eq s other)

sent_serves : (journal : List Act) (s n k : ℕ) (held output : List ℕ) (begun : Bool) → n ≡ length output + k → ((u : List ℕ) → HasUnsent (log_of journal) s u → k ≤ length u) → ServesHere journal s held output begun → ServesHere (sent_on journal s n k) s held [] begun
sent_serves journal s n k held output begun count there S =
    let e : Entry = BytesSent s k in
    let written : written_by s e ≡ [] = none_so (nat_eq s s) in
    let sent : sent_at s e ≡ k = ap (λ (b : Bool). if b then k else 0) (eq-eqb s s refl) in
    let mid : List Act = journal ++ Made e ∷ [] in
    record {
      begun_is = begun_stays mid s (Delivered s n) begun refl (begun_stays journal s (Made e) begun (sent_fed s k s) S.begun_is);
      served = λ own.
          let own_mid : IsOwn s mid = own_front s mid (Delivered s n) own in
          let T : IsServedHere journal s held output = S.served (own_front s journal (Made e) own_mid) in
          let u : List ℕ = T.unsent in
          let le : k ≤ length u = there u T.in_engine in
          let M : IsMoved mid s held (output ++ take k u) (drop k u) = moved_served journal s e held output u k (sent_fed s k s) written sent le T.in_engine T in
          let gone : length (output ++ take k u) ≡ n = omega (arith, length-append output (take k u), length-take-le k u le, count) in
          delivered_served mid s n (output ++ take k u) held [] gone (subst (λ (o : List ℕ). IsServedHere mid s held o) (sym (append-nil (output ++ take k u))) M.served);
    }

others_sent : (journal : List Act) (s n k other : ℕ) (held output : List ℕ) (begun : Bool) → other ≢ s → ServesHere journal other held output begun → ServesHere (sent_on journal s n k) other held output begun
others_sent journal s n k other held output begun ne serves =
    let e : Entry = BytesSent s k in
    let apart : s ≡ other → ⊥ = λ same. ne (sym same) in
    let sent : sent_at other e ≡ 0 = ap (λ (b : Bool). if b then k else 0) (ne_eqb s other apart) in
    other_serves (journal ++ Made e ∷ []) other (Delivered s n) held output begun refl refl refl (ap (λ (b : Bool). if b then n else 0) (ne_eqb s other apart)) refl
    (record {
      begun_is = begun_stays journal other (Made e) begun (sent_fed s k other) serves.begun_is;
      served = λ own. entry_served journal other (Made e) e held output refl refl (sent_fed s k other) refl refl sent (serves.served (own_front other journal (Made e) own));
    })

sent_happened : (journal : List Act) (s n k : ℕ) → AllMayHappen [] journal → AllMayHappen [] (sent_on journal s n k)
sent_happened journal s n k H =
    happened_more [] (journal ++ Made (BytesSent s k) ∷ []) (Delivered s n) (happened_more [] journal (Made (BytesSent s k)) H (λ other. inl (sent_fed s k other))) tt

sent_rules : (journal : List Act) (s n k : ℕ) (rules : List GivenRule) → AreGiven journal rules → AreGiven (sent_on journal s n k) rules
sent_rules journal s n k rules A =
    rules_stay (journal ++ Made (BytesSent s k) ∷ []) rules (Delivered s n) (rules_stay journal rules (Made (BytesSent s k)) A refl (λ number rule. refl) (λ number. refl)) refl (λ number rule. refl) (λ number. refl)

-- for a session with a passage, and without one
pub sent_has : (r r' : Refusals) (journal : List Act) (s at n k : ℕ) (p p' : Passage) → HasJournal r journal → slice_get r.passages.items at ≡ Some p → at + 1 ≡ s → r'.passages.items ≡ slice_set r.passages.items at p' → r'.rules.items ≡ r.rules.items → n ≡ length p.output.items + k → ((u : List ℕ) → HasUnsent (log_of journal) s u → k ≤ length u) → p'.output.items ≡ [] → p'.held.items ≡ p.held.items → p'.begun ≡ p.begun → HasJournal r' (sent_on journal s n k)
sent_has r r' journal s at n k p p' H here number set rules count there output held begun =
    let after : List Act = sent_on journal s n k in
    let S : IsPassageAt journal s p = subst (λ (n : ℕ). IsPassageAt journal n p) number (H.each at p here) in
    let now : ServesHere after s p.held.items [] p.begun = sent_serves journal s n k p.held.items p.output.items p.begun count there S in
    changed_has r r' journal after s at p p' H here number set (record {
      happened = sent_happened journal s n k H.happened;
      at = subst (λ (b : Bool). ServesHere after s p'.held.items p'.output.items b) (sym begun)
          (subst (λ (h : List ℕ). ServesHere after s h p'.output.items p.begun) (sym held)
          (subst (λ (o : List ℕ). ServesHere after s p.held.items o p.begun) (sym output) now));
      rules = subst (λ (rs : List GivenRule). AreGiven after rs) (sym rules) (sent_rules journal s n k r.rules.items H.rules);
      others = others_sent journal s n k;
    })

pub sent_none : (r : Refusals) (journal : List Act) (s n : ℕ) → HasJournal r journal → (s ≡ 0) ⊎ (length r.passages.items < s) → ((u : List ℕ) → HasUnsent (log_of journal) s u → n ≤ length u) → HasJournal r (sent_on journal s n n)
sent_none r journal s n H none there = record {
  happened = sent_happened journal s n n H.happened;
  each = λ i p at. others_sent journal s n n (i + 1) p.held.items p.output.items p.begun
      (λ same. elim none [ inl z ↦ omega (arith, z, same) | inr lt ↦ omega (arith, lt, same, slice_get_within r.passages.items i p at) ]) (H.each i p at);
  others = λ t apart. elim (cases_eq t s) [
    | inl same ↦ subst (λ (x : ℕ). ServesHere (sent_on journal s n n) x [] [] false) (sym same) (sent_serves journal s n n [] [] false (omega arith) there (H.others s none))
    | inr ne ↦ others_sent journal s n n t [] [] false ne (H.others t apart)
  ];
  rules = sent_rules journal s n n r.rules.items H.rules;
}

-- ---- the next packet

-- a session without a passage has nothing buffered
pub nothing_held : (journal : List Act) (s : ℕ) → ServesHere journal s [] [] false → NoneIsHeld journal s
nothing_held journal s S = λ waits own held received.
    let is : [] ≡ held = append_cancel_left (taken_in s journal) [] held (sym (S.served own).received ∙ received) in
    subst (λ (b : List ℕ). IsCut b cut.More) is (inl (omega arith))

pub have_still : {E : Type 0} (has_log : E → List Entry → Type 0) (engine : E) (r : Refusals) (journal : List Act) → Have has_log engine r journal → Have has_log engine r (journal ++ [])
have_still {E} has_log engine r journal H = subst (λ (j : List Act). Have has_log engine r j) (sym (append-nil journal)) H

pub stands : {E : Type 0} (has_log : E → List Entry → Type 0) (engine : E) (r : Refusals) (journal : List Act) (s at : ℕ) (p : Passage) → Have has_log engine r journal → WaitsForBytes (log_of journal) s → slice_get r.passages.items at ≡ Some p → at + 1 ≡ s → StandsBefore has_log engine journal s p r.rules.items
stands {E} has_log engine r journal s at p H waits here number = record {
  has = H.1;
  happened = H.0.happened;
  at = subst (λ (n : ℕ). IsPassageAt journal n p) number (H.0.each at p here);
  rules = H.0.rules;
  waits = waits;
}

pub moved_on : {E : Type 0} (has_log : E → List Entry → Type 0) (engine engine' : E) (r r' : Refusals) (journal : List Act) (s at : ℕ) (p p' : Passage) (result : Result Bool EngineFault) → Have has_log engine r journal → slice_get r.passages.items at ≡ Some p → at + 1 ≡ s → r'.passages.items ≡ slice_set r.passages.items at p' → (acts : List Act) × MovesFront journal s result acts × EngineHoldsAfter has_log engine' journal s p' r'.rules.items (journal ++ acts) → (acts : List Act) × MovesFront journal s result acts × Have has_log engine' r' (journal ++ acts)
moved_on {E} has_log engine engine' r r' journal s at p p' result H here number set D =
    (D.0, D.1, (changed_has r r' journal (journal ++ D.0) s at p p' H.0 here number set D.2.1, D.2.0))

pub on_ok_from : {A B : Type 0} (r : Result A B) (P : Type 0) → ((x : A) → r ≡ Ok x → P) → OnOk r P
on_ok_from (Ok x) P f = f x refl
on_ok_from (Err e) P f = tt

pub log_delivered : (journal : List Act) (e : Entry) (s n : ℕ) → log_of journal ++ e ∷ [] ≡ log_of ((journal ++ Made e ∷ []) ++ Delivered s n ∷ [])
log_delivered journal e s n =
    sym (more logged (journal ++ Made e ∷ []) (Delivered s n) ∙ append-nil (log_of (journal ++ Made e ∷ [])) ∙ more logged journal (Made e))

pub log_received : (journal : List Act) (e : Entry) (s : ℕ) (bytes : List ℕ) → log_of journal ++ e ∷ [] ≡ log_of ((journal ++ Made e ∷ []) ++ Received s bytes ∷ [])
log_received journal e s bytes =
    sym (more logged (journal ++ Made e ∷ []) (Received s bytes) ∙ append-nil (log_of (journal ++ Made e ∷ [])) ∙ more logged journal (Made e))

pub log_delivered_alone : (journal : List Act) (s n : ℕ) → log_of journal ≡ log_of (journal ++ Delivered s n ∷ [])
log_delivered_alone journal s n = sym (more logged journal (Delivered s n) ∙ append-nil (log_of journal))

-- a passage with the same bytes
pub kept_has : (r r' : Refusals) (journal : List Act) (s at : ℕ) (p p' : Passage) → HasJournal r journal → slice_get r.passages.items at ≡ Some p → at + 1 ≡ s → r'.passages.items ≡ slice_set r.passages.items at p' → r'.rules.items ≡ r.rules.items → p'.held.items ≡ p.held.items → p'.output.items ≡ p.output.items → p'.begun ≡ p.begun → HasJournal r' journal
kept_has r r' journal s at p p' H here number set rules held output begun =
    changed_has r r' journal journal s at p p' H here number set (record {
      happened = H.happened;
      at = subst (λ (b : Bool). ServesHere journal s p'.held.items p'.output.items b) (sym begun)
          (subst (λ (o : List ℕ). ServesHere journal s p'.held.items o p.begun) (sym output)
          (subst (λ (h : List ℕ). ServesHere journal s h p.output.items p.begun) (sym held) (subst (λ (n : ℕ). IsPassageAt journal n p) number (H.each at p here))));
      rules = subst (λ (rs : List GivenRule). AreGiven journal rs) (sym rules) H.rules;
      others = λ other held output begun ne serves. serves;
    })

-- the received bytes determine the buffered ones
pub held_more : (journal : List Act) (s : ℕ) (held output : List ℕ) → IsServedHere journal s held output → IsCut held cut.More → (other : List ℕ) → received_in s journal ≡ taken_in s journal ++ other → IsCut other cut.More
held_more journal s held output S more other received =
    subst (λ (b : List ℕ). IsCut b cut.More) (append_cancel_left (taken_in s journal) held other (sym S.received ∙ received)) more
