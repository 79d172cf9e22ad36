-- Invariants of the inodes' counts after an entry is removed, inserted or moved.
use Rattle.std.specs.Prelude.{◌≡◌, ◌≢◌, ℕ, nat_eq, cond, ◌&&◌, Option, Some, None}
use Rattle.std.proofs.Common.{sym, ap, ◌∙◌, arith, inl, inr}
use Rattle.sf_path.specs.Names.{Name}
use Rattle.sf_path.specs.Order.{same_name}
use Rattle.sf_inode.specs.declared.handle.OpenHandle.{OpenHandle}
use Rattle.sf_keeps.specs.Steps.{EntryMap, changed_step}
use Rattle.sf_keeps.proofs.Sound.{HasNoEntry, IsBare, step_less, step_more, changed_there}
use Rattle.sf_keeps.proofs.Through.{none_still}
use Rattle.sf_keeps.proofs.SetsAt.{sets, some_found, nat_eq_apart}
use Rattle.sf_keeps.proofs.Counted.{Mark, Marks, IsMarked}

-- at most one entry refers to an inode
abbrev pub HasOneEntry : EntryMap → ℕ → Type 0
HasOneEntry step c = (x y : ℕ) (n m : Name) → step x n ≡ Some c → step y m ≡ Some c → (x ≡ y) × (n ≡ m)

-- ---- one entry fewer
module _ (step : EntryMap) (d : ℕ) (n : Name) where
  pub bare_less : (id : ℕ) → IsBare step id → IsBare (changed_step step d n None) id
  bare_less id bare m = none_still (nat_eq d id && same_name n m) (bare m)

  -- the removed entry was the only one
  pub none_left : (c : ℕ) → HasOneEntry step c → step d n ≡ Some c → HasNoEntry (changed_step step d n None) c
  none_left c single there x m e =
      let same = single d x n m there (step_less step d n x c m e) in
      let gone : changed_step step d n None x m ≡ None = (λ i. changed_step step d n None (sym same.0 i) (sym same.1 i)) ∙ changed_there step d n None in cc

-- ---- one more entry
module _ (step : EntryMap) (d : ℕ) (n : Name) (c : ℕ) where
  pub bare_more : (id : ℕ) → d ≢ id → IsBare step id → IsBare (changed_step step d n (Some c)) id
  bare_more id apart bare m = ap (λ b. cond (b && same_name n m) (Some c) (step id m)) (nat_eq_apart d id apart) ∙ bare m

-- an inode with an entry is not bare
pub bare_apart : (step : EntryMap) (d id : ℕ) (n : Name) (c : ℕ) → step d n ≡ Some c → IsBare step id → d ≢ id
bare_apart step d id n c there bare e = let f = ap (λ (x : ℕ). step x n) e in let g = bare n in cc

-- ---- a new inode
module _ {old : EntryMap} (d : ℕ) (n : Name) (c label : ℕ) {marks : Marks} {paths : ℕ → ℕ} (after : ℕ → ℕ) {count : ℕ → ℕ} {handles : ℕ → ℕ → Option OpenHandle} (m : IsMarked old marks paths count handles)
    (new : marks c ≡ None) (bare : IsBare old c) (apart : d ≢ c) (away : (id l o : ℕ) → marks id ≡ Some (l, 0, o) → d ≢ id)
    (others : (id l b o : ℕ) → marks id ≡ Some (l, b, o) → after l ≡ paths l) (own : 1 ≡ after label) (closed : count label ≡ 0) where
  abbrev step : EntryMap
  step = changed_step old d n (Some c)

  abbrev fresh : Mark
  fresh = (label, 1, 0)

  -- the count of an inode: of the new one, or of an old one
  marked_by : (id : ℕ) (v : Mark) (A : Type 0) → (c ≡ id → fresh ≡ v → A) → (marks id ≡ Some v → A) → cond (nat_eq c id) (Some fresh) (marks id) ≡ Some v → A
  marked_by id v A here there e = elim (some_found (sets marks c (Some fresh)) id e) [ inl a ↦ here a.0 a.1 | inr a ↦ there a.1 ]

  led_new : (session number : ℕ) (h : OpenHandle) → handles session number ≡ Some h → (b : ℕ) × (o : ℕ) × (cond (nat_eq c h.node) (Some fresh) (marks h.node) ≡ Some (h.label, b, o))
  led_new session number h e =
      let w = m.led session number h e in
      (w.0, w.1, (sets marks c (Some fresh)).beside h.node (λ f. let g = ap marks f in let k = w.2 in cc) ∙ w.2)

  pub marked_new : IsMarked step (λ i. cond (nat_eq c i) (Some fresh) (marks i)) after count handles
  marked_new = record {
    bare = λ id l o. marked_by id (l, 0, o) (IsBare step id) (λ e f. let not : 1 ≡ 0 = ap (λ (z : Mark). z.1) f in absurd (omega (arith, not)))
        (λ e. bare_more old d n c id (away id l o e) (m.bare id l o e));
    linked = λ id l b o. marked_by id (l, b, o) (b ≡ after l) (λ e f. sym (ap (λ (z : Mark). z.1) f) ∙ own ∙ ap (λ (z : Mark). after z.0) f) (λ e. m.linked id l b o e ∙ sym (others id l b o e));
    counted = λ id l b o. marked_by id (l, b, o) (o ≡ count l) (λ e f. sym (ap (λ (z : Mark). z.2) f) ∙ sym closed ∙ ap (λ (z : Mark). count z.0) f) (λ e. m.counted id l b o e);
    led = led_new;
  }

-- ---- a moved entry
module _ (step : EntryMap) (od : ℕ) (on : Name) (nd : ℕ) (nn : Name) (c : ℕ) where
  abbrev taken : EntryMap
  taken = changed_step step od on None

  abbrev moved : EntryMap
  moved = changed_step taken nd nn (Some c)

  pub bare_moved : (id : ℕ) → nd ≢ id → IsBare step id → IsBare moved id
  bare_moved id apart bare = bare_more taken nd nn c id apart (bare_less step od on id bare)

  -- the replaced inode, if that was its only entry
  pub none_replaced : (target : ℕ) → HasOneEntry step target → step nd nn ≡ Some target → (c ≡ target → ⊥) → HasNoEntry moved target
  none_replaced target single stood other x m e = elim (step_more taken nd nn c x target m e) [
    | inl a ↦ other a.2
    | inr b ↦
        let same = single nd x nn m stood (step_less step od on x target m b) in
        let now : moved x m ≡ Some c = (λ i. moved (sym same.0 i) (sym same.1 i)) ∙ changed_there taken nd nn (Some c) in
        let is : c ≡ target = cc in other is
  ]
