-- Rules, after one more event.
use Rattle.std.proofs.Common.{◌≡◌, ℕ, zero, suc, ◌+◌, ◌-◌, ◌<◌, ◌≤◌, ◌⊎◌, List, [], ◌∷◌, ◌++◌, Bool, true, false, Option, Some, length, min, slice_get, refl, ap, sym, ◌∙◌, subst, arith, inl, inr, append-nil, length-append}
use Rattle.std.specs.Prelude.{slice_set, nat_lt, not, ◌&&◌, if◌then◌else◌}
use Rattle.std.proofs.lemmas.Bool.{cases_lt, cases_eq, lt-ltb, le-ltb, ltb-true, ltb-false, eq-eqb, ne_eqb, both_ways, and_parts, not-true}
use Rattle.std.proofs.lemmas.List.Sums.{sum_by_push}
use Rattle.std.proofs.lemmas.Option.{slice_get_within}
use Rattle.sf_reply.specs.declared.reply.StatusCode.{StatusCode}
use Rattle.sf_engine.specs.Promise.{Entry}
use Rattle.sf_refusing.specs.declared.rule.Rule.{Rule}
use Rattle.sf_refusing.specs.declared.given.GivenRule.{GivenRule}
use Rattle.sf_refusing.specs.Counting.{is_ready, counted_once, counted_if}
use Rattle.sf_refusing.specs.Journal.{Act, Ruled, PassedOn, RefusedBy, Packet, ruled, rules_in, fits_packet, counts, count_since, refused_by, is_refusing, refuses_since, rule_refuses}
use Rattle.sf_refusing.specs.Refusing.{IsGivenRule, AreGiven}
use Rattle.sf_refusing.proofs.Growing.{more, since_more, since_new, since_none, get_set_same, get_set_other, some_same}

pub got_at : {A : Type 0} (xs : List A) (i : ℕ) → i < length xs → (x : A) × (slice_get xs i ≡ Some x)
got_at [] i h = absurd (omega (arith, h))
got_at (x ∷ xs) zero h = (x, refl)
got_at (x ∷ xs) (suc i) h = got_at xs i (omega (arith, h))

-- ---- one rule

given_on : (journal : List Act) (number : ℕ) (given given' : GivenRule) (act : Act) (G : IsGivenRule journal number given) → given'.rule ≡ given.rule → given'.passed ≡ min given.rule.pass (count_since number given.rule G.since + counts number given.rule act) → given'.refused ≡ min given.rule.refuse (count_since number given.rule G.since + counts number given.rule act - given.rule.pass) → given'.refused ≡ given.refused + refused_by number act
    → IsGivenRule (journal ++ act ∷ []) number given'
given_on journal number given given' act G rule passed refused told =
    let since : List Act = G.since ++ act ∷ [] in
    let count : count_since number given.rule since ≡ count_since number given.rule G.since + counts number given.rule act =
    sum_by_push (counts number given.rule) G.since act in
    record {
      since = since;
      is = since_more journal number given.rule G.since act G.is ∙ ap (λ (r : Rule). Some (r, since)) (sym rule);
      passed = subst (λ (r : Rule). given'.passed ≡ min r.pass (count_since number r since)) (sym rule)
          (passed ∙ ap (λ (k : ℕ). min given.rule.pass k) (sym count));
      refused = subst (λ (r : Rule). given'.refused ≡ min r.refuse (count_since number r since - r.pass)) (sym rule)
          (refused ∙ ap (λ (k : ℕ). min given.rule.refuse (k - given.rule.pass)) (sym count));
      counted = told ∙ ap (λ (k : ℕ). k + refused_by number act) G.counted ∙ sym (sum_by_push (refused_by number) G.since act);
    }

pub same_given : (journal : List Act) (number : ℕ) (given : GivenRule) (act : Act) → IsGivenRule journal number given → counts number given.rule act ≡ 0 → refused_by number act ≡ 0
    → IsGivenRule (journal ++ act ∷ []) number given
same_given journal number given act G count told =
    let k : ℕ = count_since number given.rule G.since in
    let same : k ≡ k + counts number given.rule act = omega (arith, count) in
    given_on journal number given given act G refl
    (G.passed ∙ ap (λ (n : ℕ). min given.rule.pass n) same)
    (G.refused ∙ ap (λ (n : ℕ). min given.rule.refuse (n - given.rule.pass)) same)
    (omega (arith, told))

-- its count determines whether it refuses
pub ready_is : (journal : List Act) (number : ℕ) (given : GivenRule) (G : IsGivenRule journal number given) → is_ready given ≡ is_refusing given.rule (count_since number given.rule G.since)
ready_is journal number given G =
    let k : ℕ = count_since number given.rule G.since in
    let pass : ℕ = given.rule.pass in
    let refuse : ℕ = given.rule.refuse in
    elim (cases_lt k pass) [
      | inl lt ↦
          ap (λ (b : Bool). not b && nat_lt given.refused refuse) (lt-ltb given.passed pass (omega (arith, G.passed, lt)))
          ∙ sym (ap (λ (b : Bool). not b && nat_lt k (pass + refuse)) (lt-ltb k pass lt))
      | inr le ↦
          ap (λ (b : Bool). not b && nat_lt given.refused refuse) (le-ltb given.passed pass (omega (arith, G.passed, le)))
          ∙ below k pass refuse given.refused le G.refused
          ∙ sym (ap (λ (b : Bool). not b && nat_lt k (pass + refuse)) (le-ltb k pass le))
    ]
  where
    below : (k pass refuse refused : ℕ) → pass ≤ k → refused ≡ min refuse (k - pass) → nat_lt refused refuse ≡ nat_lt k (pass + refuse)
    below k pass refuse refused le is = elim (cases_lt k (pass + refuse)) [
      | inl lt ↦ lt-ltb refused refuse (omega (arith, is, lt, le)) ∙ sym (lt-ltb k (pass + refuse) lt)
      | inr ge ↦ le-ltb refused refuse (omega (arith, is, ge, le)) ∙ sym (le-ltb k (pass + refuse) ge)
    ]

pub refuses_is : (journal : List Act) (number : ℕ) (given : GivenRule) (p : Packet) → IsGivenRule journal number given → rule_refuses journal number p ≡ (fits_packet given.rule p && is_ready given)
refuses_is journal number given p G =
    ap (λ (g : Option (Rule × List Act)). refuses_since number p g) G.is
    ∙ ap (λ (b : Bool). fits_packet given.rule p && b) (sym (ready_is journal number given G))

-- it counts a request that it passes
pass_given : (journal : List Act) (number : ℕ) (given : GivenRule) (act : Act) (fit : Bool) → IsGivenRule journal number given → (fit && is_ready given) ≡ false → counts number given.rule act ≡ (if fit then 1 else 0) → refused_by number act ≡ 0
    → IsGivenRule (journal ++ act ∷ []) number (counted_if fit given)
pass_given journal number given act false G ready count told = same_given journal number given act G count told
pass_given journal number given act true G ready count told =
    let pass : ℕ = given.rule.pass in
    let refuse : ℕ = given.rule.refuse in
    let k : ℕ = count_since number given.rule G.since in
    elim (cases_lt given.passed pass) [
      | inl lt ↦
          let next : GivenRule = record given { passed = given.passed + 1 } in
          let is : counted_once given ≡ next = ap (λ (b : Bool). if b then record given { passed = given.passed + 1 } else (if nat_lt given.refused refuse then record given { refused = given.refused + 1 } else given)) (lt-ltb given.passed pass lt) in
          subst (λ (g : GivenRule). IsGivenRule (journal ++ act ∷ []) number g) (sym is)
          (given_on journal number given next act G refl (omega (arith, G.passed, lt, count)) (omega (arith, G.passed, G.refused, lt, count)) (omega (arith, told)))
      | inr le ↦
          elim (cases_lt given.refused refuse) [
            | inl lt ↦
                absurd (both_ways (is_ready given) ready
                (ap (λ (b : Bool). not b && nat_lt given.refused refuse) (le-ltb given.passed pass le) ∙ lt-ltb given.refused refuse lt))
            | inr ge ↦
                let is : counted_once given ≡ given = ap (λ (b : Bool). if b then record given { passed = given.passed + 1 } else (if nat_lt given.refused refuse then record given { refused = given.refused + 1 } else given)) (le-ltb given.passed pass le) ∙ ap (λ (b : Bool). if b then record given { refused = given.refused + 1 } else given) (le-ltb given.refused refuse ge) in
                subst (λ (g : GivenRule). IsGivenRule (journal ++ act ∷ []) number g) (sym is)
                (given_on journal number given given act G refl (omega (arith, G.passed, le, count)) (omega (arith, G.passed, G.refused, le, ge, count)) (omega (arith, told)))
          ]
    ]

-- and a request that it refuses
refuse_given : (journal : List Act) (number : ℕ) (given : GivenRule) (act : Act) → IsGivenRule journal number given → is_ready given ≡ true → counts number given.rule act ≡ 1 → refused_by number act ≡ 1
    → IsGivenRule (journal ++ act ∷ []) number (counted_if true given)
refuse_given journal number given act G ready count told =
    let pass : ℕ = given.rule.pass in
    let refuse : ℕ = given.rule.refuse in
    let parts = and_parts (not (nat_lt given.passed pass)) (nat_lt given.refused refuse) ready in
    let le : pass ≤ given.passed = ltb-false given.passed pass (not-true (nat_lt given.passed pass) parts.0) in
    let lt : given.refused < refuse = ltb-true given.refused refuse parts.1 in
    let next : GivenRule = record given { refused = given.refused + 1 } in
    let is : counted_once given ≡ next = ap (λ (b : Bool). if b then record given { passed = given.passed + 1 } else (if nat_lt given.refused refuse then record given { refused = given.refused + 1 } else given)) (le-ltb given.passed pass le) ∙ ap (λ (b : Bool). if b then record given { refused = given.refused + 1 } else given) (lt-ltb given.refused refuse lt) in
    subst (λ (g : GivenRule). IsGivenRule (journal ++ act ∷ []) number g) (sym is)
    (given_on journal number given next act G refl (omega (arith, G.passed, le, count)) (omega (arith, G.passed, G.refused, le, lt, count)) (omega (arith, told)))

-- ---- all rules

same_rules : (journal : List Act) (act : Act) → ruled act ≡ [] → rules_in journal ≡ rules_in (journal ++ act ∷ [])
same_rules journal act none =
    sym (more ruled journal act ∙ ap (λ (rs : List Rule). rules_in journal ++ rs) none ∙ append-nil (rules_in journal))

pub rules_stay : (journal : List Act) (rules : List GivenRule) (act : Act) → AreGiven journal rules → ruled act ≡ [] → ((number : ℕ) (rule : Rule) → counts number rule act ≡ 0) → ((number : ℕ) → refused_by number act ≡ 0)
    → AreGiven (journal ++ act ∷ []) rules
rules_stay journal rules act A none count told = record {
  count = A.count ∙ ap (λ (rs : List Rule). length rs) (same_rules journal act none);
  each = λ number given at. same_given journal number given act (A.each number given at) (count number given.rule) (told number);
}

pub none_refuses : (journal : List Act) (rules : List GivenRule) (p : Packet) → AreGiven journal rules → ((number : ℕ) (given : GivenRule) → slice_get rules number ≡ Some given → (fits_packet given.rule p && is_ready given) ≡ false) → (number : ℕ) → rule_refuses journal number p ≡ false
none_refuses journal rules p A none number = elim (cases_lt number (length rules)) [
  | inl lt ↦
      let got = got_at rules number lt in
      refuses_is journal number got.0 p (A.each number got.0 got.1) ∙ none number got.0 got.1
  | inr le ↦ ap (λ (g : Option (Rule × List Act)). refuses_since number p g) (since_none journal number (omega (arith, A.count, le)))
]

-- one more rule has counted
pub count_step : (xs : List GivenRule) (n : ℕ) (x v : GivenRule) (fit : GivenRule → Bool) → slice_get xs n ≡ Some x → v ≡ counted_if (fit x) x → (number : ℕ) (given : GivenRule) → slice_get xs number ≡ Some (counted_if (nat_lt number n && fit given) given) → slice_get (slice_set xs n v) number ≡ Some (counted_if (nat_lt number (n + 1) && fit given) given)
count_step xs n x v fit here is number given at = elim (cases_eq number n) [
  | inl same ↦
      let was : x ≡ given = some_same x given (sym here ∙ ap (λ (k : ℕ). slice_get xs k) (sym same) ∙ at ∙ ap (λ (b : Bool). Some (counted_if (b && fit given) given)) (le-ltb number n (omega (arith, same)))) in
      ap (λ (k : ℕ). slice_get (slice_set xs n v) k) same ∙ get_set_same xs n x v here ∙ ap (λ (g : GivenRule). Some g) (is ∙ ap (λ (g : GivenRule). counted_if (fit g) g) was)
      ∙ sym (ap (λ (b : Bool). Some (counted_if (b && fit given) given)) (lt-ltb number (n + 1) (omega (arith, same))))
  | inr ne ↦ get_set_other xs n number v ne ∙ at ∙ ap (λ (b : Bool). Some (counted_if (b && fit given) given)) (below ne)
]
  where
    below : (number ≡ n → ⊥) → nat_lt number n ≡ nat_lt number (n + 1)
    below ne = elim (cases_lt number n) [
      | inl lt ↦ lt-ltb number n lt ∙ sym (lt-ltb number (n + 1) (omega (arith, lt)))
      | inr le ↦ le-ltb number n le ∙ sym (le-ltb number (n + 1) (omega (arith, le, ne)))
    ]

-- the effect of `count_with` on the first rules
abbrev pub AreCounted : List GivenRule → List GivenRule → ℕ → (GivenRule → Bool) → Type 0
AreCounted rules rules' count fit = (length rules' ≡ length rules)
    × ((number : ℕ) (given : GivenRule) → slice_get rules number ≡ Some given
    → slice_get rules' number ≡ Some (counted_if (nat_lt number count && fit given) given))

-- the rule at an index has counted
was_counted : (rules rules' : List GivenRule) (count : ℕ) (fit : GivenRule → Bool) → AreCounted rules rules' count fit → (number : ℕ) (now : GivenRule) → slice_get rules' number ≡ Some now
    → (given : GivenRule) × (slice_get rules number ≡ Some given) × (counted_if (nat_lt number count && fit given) given ≡ now)
was_counted rules rules' count fit C number now at =
    let got = got_at rules number (omega (arith, slice_get_within rules' number now at, C.0)) in
    (got.0, got.1, some_same _ _ (sym (C.1 number got.0 got.1) ∙ at))

pub pass_rules : (journal : List Act) (rules rules' : List GivenRule) (p : Packet) (e : Entry) → AreGiven journal rules → AreCounted rules rules' (length rules) (λ given. fits_packet given.rule p) → ((number : ℕ) (given : GivenRule) → slice_get rules number ≡ Some given → (fits_packet given.rule p && is_ready given) ≡ false)
    → AreGiven (journal ++ PassedOn p e ∷ []) rules'
pass_rules journal rules rules' p e A C none = record {
  count = C.0 ∙ A.count ∙ ap (λ (rs : List Rule). length rs) (same_rules journal (PassedOn p e) refl);
  each = λ number now at.
      let was = was_counted rules rules' (length rules) (λ given. fits_packet given.rule p) C number now at in
      let in_all : nat_lt number (length rules) ≡ true = lt-ltb number (length rules) (slice_get_within rules number was.0 was.1) in
      let fit : (nat_lt number (length rules) && fits_packet was.0.rule p) ≡ fits_packet was.0.rule p = ap (λ (b : Bool). b && fits_packet was.0.rule p) in_all in
      subst (λ (g : GivenRule). IsGivenRule (journal ++ PassedOn p e ∷ []) number g)
      (ap (λ (b : Bool). counted_if b was.0) (sym fit) ∙ was.2)
      (pass_given journal number was.0 (PassedOn p e) (fits_packet was.0.rule p) (A.each number was.0 was.1) (none number was.0 was.1) refl refl);
}

pub refuse_rules : (journal : List Act) (rules rules' : List GivenRule) (p : Packet) (id by : ℕ) (code : StatusCode) (e : Entry) (given : GivenRule) → AreGiven journal rules → AreCounted rules rules' (by + 1) (λ given. fits_packet given.rule p) → slice_get rules by ≡ Some given → (fits_packet given.rule p && is_ready given) ≡ true → ((number : ℕ) (given : GivenRule) → number < by → slice_get rules number ≡ Some given → (fits_packet given.rule p && is_ready given) ≡ false)
    → AreGiven (journal ++ RefusedBy p id by code e ∷ []) rules'
refuse_rules journal rules rules' p id by code e given A C here ready first = record {
  count = C.0 ∙ A.count ∙ ap (λ (rs : List Rule). length rs) (same_rules journal (RefusedBy p id by code e) refl);
  each = λ number now at.
      let was = was_counted rules rules' (by + 1) (λ given. fits_packet given.rule p) C number now at in
      subst (λ (g : GivenRule). IsGivenRule (journal ++ RefusedBy p id by code e ∷ []) number g) was.2 (one number was.0 was.1);
}
  where
    one : (number : ℕ) (given : GivenRule) → slice_get rules number ≡ Some given → IsGivenRule (journal ++ RefusedBy p id by code e ∷ []) number (counted_if (nat_lt number (by + 1) && fits_packet given.rule p) given)
    one number found at =
        let fit : Bool = fits_packet found.rule p in
        let G : IsGivenRule journal number found = A.each number found at in
        elim (cases_lt number by) [
          | inl lt ↦
              subst (λ (b : Bool). IsGivenRule (journal ++ RefusedBy p id by code e ∷ []) number (counted_if (b && fit) found)) (sym (lt-ltb number (by + 1) (omega (arith, lt))))
              (pass_given journal number found (RefusedBy p id by code e) fit G (first number found lt at)
              (ap (λ (b : Bool). if not b && fit then 1 else 0) (le-ltb by number (omega (arith, lt))))
              (ap (λ (b : Bool). if b then 1 else 0) (ne_eqb by number (λ same. omega (arith, same, lt)))))
          | inr le ↦
              elim (cases_eq number by) [
                | inl same ↦
                    let same_rule : found ≡ given = some_same found given (sym at ∙ ap (λ (n : ℕ). slice_get rules n) same ∙ here) in
                    let both = and_parts (fits_packet found.rule p) (is_ready found) (subst (λ (g : GivenRule). (fits_packet g.rule p && is_ready g) ≡ true) (sym same_rule) ready) in
                    let counts_one : counts number found.rule (RefusedBy p id by code e) ≡ 1 =
                    ap (λ (b : Bool). if not b && fit then 1 else 0) (le-ltb by number (omega (arith, same))) ∙ ap (λ (b : Bool). if b then 1 else 0) both.0 in
                    subst (λ (b : Bool). IsGivenRule (journal ++ RefusedBy p id by code e ∷ []) number (counted_if b found))
                    (sym (ap (λ (b : Bool). b && fit) (lt-ltb number (by + 1) (omega (arith, same))) ∙ both.0))
                    (refuse_given journal number found (RefusedBy p id by code e) G both.1 counts_one (ap (λ (b : Bool). if b then 1 else 0) (eq-eqb by number (sym same))))
                | inr ne ↦
                    let lt : by < number = omega (arith, le, ne) in
                    subst (λ (b : Bool). IsGivenRule (journal ++ RefusedBy p id by code e ∷ []) number (counted_if (b && fit) found)) (sym (le-ltb number (by + 1) (omega (arith, lt))))
                    (same_given journal number found (RefusedBy p id by code e) G
                    (ap (λ (b : Bool). if not b && fit then 1 else 0) (lt-ltb by number lt))
                    (ap (λ (b : Bool). if b then 1 else 0) (ne_eqb by number (λ same. omega (arith, same, lt)))))
              ]
        ]

-- one more rule
pub new_rules : (journal : List Act) (rules : List GivenRule) (rule : Rule) (given : GivenRule) → given ≡ record { rule = rule; passed = 0; refused = 0 } → AreGiven journal rules
    → AreGiven (journal ++ Ruled rule ∷ []) (rules ++ given ∷ [])
new_rules journal rules rule given is A = record {
  count = length-append rules (given ∷ []) ∙ ap (λ (n : ℕ). n + 1) A.count ∙ sym (length-append (rules_in journal) (rule ∷ [])) ∙ ap (λ (rs : List Rule). length rs) (sym (more ruled journal (Ruled rule)));
  each = λ number found at. elim (last_got rules number given found at) [
    | inl old ↦ same_given journal number found (Ruled rule) (A.each number found old) refl refl
    | inr new ↦
        let number_is : length (rules_in journal) ≡ number = sym A.count ∙ sym new.0 in
        subst (λ (n : ℕ). IsGivenRule (journal ++ Ruled rule ∷ []) n found) number_is
        (subst (λ (g : GivenRule). IsGivenRule (journal ++ Ruled rule ∷ []) (length (rules_in journal)) g) (sym is ∙ new.1)
        (record { since = []; is = since_new journal rule; passed = omega arith; refused = omega arith; counted = refl }))
  ];
}
  where
    last_got : {A : Type 0} (xs : List A) (i : ℕ) (v t : A) → slice_get (xs ++ v ∷ []) i ≡ Some t → (slice_get xs i ≡ Some t) ⊎ ((i ≡ length xs) × (v ≡ t))
    last_got [] zero v t h = inr (refl, cc)
    last_got [] (suc i) v t h = absurd cc
    last_got (x ∷ xs) zero v t h = inl h
    last_got (x ∷ xs) (suc i) v t h = elim (last_got xs i v t h) [ inl e ↦ inl e | inr e ↦ inr (ap (λ (n : ℕ). suc n) e.0, e.1) ]
