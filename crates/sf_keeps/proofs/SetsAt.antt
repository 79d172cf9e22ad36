-- A value set at one key: the value is found there, and other keys are unchanged.
use Rattle.std.specs.Prelude.{◌≡◌, ◌≢◌, ◌⊎◌, ℕ, nat_eq, true, false, cond, T, List, Option, Some, None, IsSome, refl}
use Rattle.std.proofs.Common.{sym, ap, subst, ◌∙◌, inl, inr, eqb-true, eq-eqb}
use Rattle.std.proofs.lemmas.Bool.{cases_eq, cond-true, cond-false, false_from_ne_true}
use Rattle.std.specs.declared.cmp.Ordering.{Ordering}
use Rattle.std.specs.Ordering.{nat_cmp, is_eq}
use Rattle.std.specs.Cmp.{IsTotalOrder, nat_cmp_total, tied_itself}
use Rattle.std.specs.Map.{lookup, set_value, remove_entry}
use Rattle.std.specs.BTreeMap.{is_at, insert_entry}
use Rattle.std.specs.FinMap.{is_sorted, nat_cmp-IsAntisymmetric}
use Rattle.sf_path.specs.Order.{name_cmp, name_total, path_cmp, path_total}
use Rattle.sf_call.proofs.Laws.{is_equal, same_name_is, same_path_is, lookup-put}
use Rattle.sf_keeps.proofs.Keyed.{lookup-set, lookup-removed}

pub record SetsAt {K A : Type 0} (before after : K → A) (key : K) (value : A) : Type 0 where
  pub at : after key ≡ value
  pub beside : (other : K) → key ≢ other → after other ≡ before other

-- ---- numbers as keys
pub nat_eq_itself : (a : ℕ) → nat_eq a a ≡ true
nat_eq_itself a = eq-eqb a a refl

pub nat_eq_apart : (a b : ℕ) → a ≢ b → nat_eq a b ≡ false
nat_eq_apart a b ne = false_from_ne_true (nat_eq a b) (λ e. ne (eqb-true a b e))

-- so at the key and at others, and so everywhere
pub at_or_beside : (P : ℕ → Type 0) (key : ℕ) → P key → ((other : ℕ) → key ≢ other → P other) → (k : ℕ) → P k
at_or_beside P key at beside k = elim (cases_eq key k) [ inl e ↦ subst P e at | inr ne ↦ beside k ne ]

-- a function set at a number
pub sets : {A : Type 0} (before : ℕ → A) (key : ℕ) (value : A) → SetsAt before (λ k. cond (nat_eq key k) value (before k)) key value
sets before key value = record {
  at = cond-true (nat_eq key key) value (before key) (nat_eq_itself key);
  beside = λ k ne. cond-false (nat_eq key k) value (before k) (nat_eq_apart key k ne);
}

module _ {A : Type 0} {before after : ℕ → A} {key : ℕ} {value : A} (set : SetsAt before after key value) where
  -- it is that function
  pub set_is : (k : ℕ) → after k ≡ cond (nat_eq key k) value (before k)
  set_is = at_or_beside _ key (set.at ∙ sym (sets before key value).at) (λ k ne. set.beside k ne ∙ sym ((sets before key value).beside k ne))

  -- if the value was there before, nothing has changed
  pub unchanged : before key ≡ value → (k : ℕ) → after k ≡ before k
  unchanged same = at_or_beside _ key (set.at ∙ sym same) (λ k ne. set.beside k ne)

  -- the value found is the new one, or was found before
  pub set_found : (k : ℕ) {v : A} → after k ≡ v → ((key ≡ k) × (value ≡ v)) ⊎ ((key ≢ k) × (before k ≡ v))
  set_found k found = elim (cases_eq key k) [ inl e ↦ inl (e, sym set.at ∙ ap after e ∙ found) | inr ne ↦ inr (ne, sym (set.beside k ne) ∙ found) ]

pub some_found : {A : Type 0} {before after : ℕ → Option A} {key : ℕ} {value : A} → SetsAt before after key (Some value) → (k : ℕ) {v : A} → after k ≡ Some v → ((key ≡ k) × (value ≡ v)) ⊎ ((key ≢ k) × (before k ≡ Some v))
some_found set k found = elim (set_found set k found) [ inl a ↦ inl (a.0, cc) | inr a ↦ inr a ]

pub gone_found : {A : Type 0} {before after : ℕ → Option A} {key : ℕ} → SetsAt before after key None → (k : ℕ) {v : A} → after k ≡ Some v → (key ≢ k) × (before k ≡ Some v)
gone_found set k found = elim (set_found set k found) [ inl a ↦ absurd (cc) | inr a ↦ a ]

-- set and set again
pub set_twice : {K A : Type 0} {before mid after : K → A} {key : K} {value last : A} → SetsAt before mid key value → SetsAt mid after key last → SetsAt before after key last
set_twice set again = record { at = again.at; beside = λ k ne. again.beside k ne ∙ set.beside k ne }

-- its observable part is set, too
pub set_seen : {K A B : Type 0} (f : A → B) {before after : K → A} {key : K} {value : A} → SetsAt before after key value → SetsAt (λ k. f (before k)) (λ k. f (after k)) key (f value)
set_seen f set = record { at = ap f set.at; beside = λ k ne. ap f (set.beside k ne) }

-- ---- lists of entries in the order of their keys
-- a test that passes shows that two keys are equal
pub record AreKeys {K : Type 0} (R : K → K → Ordering) : Type 0 where
  pub total : IsTotalOrder R
  pub same : (a b : K) → is_at (R a) b ≡ true → a ≡ b

pub number_keys : AreKeys nat_cmp
number_keys = record { total = nat_cmp_total; same = λ a b e. nat_cmp-IsAntisymmetric a b (is_equal (nat_cmp a b) e) }

pub name_keys : AreKeys name_cmp
name_keys = record { total = name_total; same = same_name_is }

pub path_keys : AreKeys path_cmp
path_keys = record { total = path_total; same = same_path_is }

module _ {K : Type 0} {R : K → K → Ordering} (keys : AreKeys R) where
  pub itself : (k : K) → is_at (R k) k ≡ true
  itself k = ap is_eq (tied_itself keys.total k)

  pub apart : (a b : K) → a ≢ b → is_at (R a) b ≡ false
  apart a b ne = false_from_ne_true (is_at (R a) b) (λ e. ne (keys.same a b e))

  -- as `set_is`, by the keys' own test
  pub set_by_test : {A : Type 0} {before after : K → A} {key : K} {value : A} → SetsAt before after key value → (k : K) → after k ≡ cond (is_at (R key) k) value (before k)
  set_by_test {before = before} {after = after} {key = key} {value = value} set k =
      elim (is_at (R key) k) as (λ b. is_at (R key) k ≡ b → after k ≡ cond b value (before k)) [
        | true ↦ λ e. ap after (sym (keys.same key k e)) ∙ set.at
        | false ↦ λ e. set.beside k (λ h. let f = ap (is_at (R key)) h in let g = itself key in cc)
      ] refl

  module _ {X : Type 0} (es : List (K × X)) (k : K) where
    pub inserted_at : (v : X) → SetsAt (λ q. lookup (is_at (R q)) es) (λ q. lookup (is_at (R q)) (insert_entry R es k v)) k (Some v)
    inserted_at v = record {
      at = lookup-put R keys.total es k v k ∙ cond-true _ _ _ (itself k);
      beside = λ q ne. lookup-put R keys.total es k v q ∙ cond-false _ _ _ (apart q k (λ e. ne (sym e)));
    }

    pub value_at : (old v : X) → lookup (is_at (R k)) es ≡ Some old → SetsAt (λ q. lookup (is_at (R q)) es) (λ q. lookup (is_at (R q)) (set_value (is_at (R k)) es v)) k (Some v)
    value_at old v there =
        let is : IsSome (lookup (is_at (R k)) es) = subst (λ o. IsSome o) (sym there) refl in
        record {
          at = lookup-set R keys.total es k v k is ∙ cond-true _ _ _ (itself k);
          beside = λ q ne. lookup-set R keys.total es k v q is ∙ cond-false _ _ _ (apart k q ne);
        }

    pub removed_at : T (is_sorted R es) → SetsAt (λ q. lookup (is_at (R q)) es) (λ q. lookup (is_at (R q)) (remove_entry (is_at (R k)) es)) k None
    removed_at sorted = record {
      at = lookup-removed R keys.total es k k sorted ∙ cond-true _ _ _ (itself k);
      beside = λ q ne. lookup-removed R keys.total es k q sorted ∙ cond-false _ _ _ (apart k q ne);
    }
