-- The changes that preserve the invariant of files being written.
use Rattle.std.specs.Prelude.{◌≡◌, ◌≢◌, ◌<◌, ℕ, Some, None}
use Rattle.std.proofs.Common.{sym, ap, subst, ◌∙◌, inl, inr}
use Rattle.std.proofs.lemmas.Bool.{cases_eq}
use Rattle.sf_copying.specs.Copies.{Copying, copying, Copiers, AreCopies, ChangesOneCall, StartsToCopy, CopiesOneBlock, CopiesRest, Spares}

some_is : {A : Type 0} (x y : A) → Some x ≡ Some y → x ≡ y
some_is x y e = cc

none_some : {A : Type 0} (x : A) → None ≡ Some x → ⊥
none_some x e = cc

-- two calls never copy into one file
pub one_writer : (s : Copiers) → AreCopies s → (n m : ℕ) (c d : Copying) → s.copying_of n ≡ Some c → s.copying_of m ≡ Some d → c.file ≡ d.file → n ≡ m
one_writer s copies n m c d at bt e = some_is n m (sym (copies.holds n c at) ∙ (ap s.writer e ∙ copies.holds m d bt))

module _ (old new : Copiers) (n file : ℕ) (copies : AreCopies old) (changes : ChangesOneCall old new n file) (own : (f : ℕ) → old.writer f ≡ Some n → f ≡ file) (mine : (m : ℕ) → old.writer file ≡ Some m → m ≡ n) where
  -- the file of another call differs
  apart : (m : ℕ) (c : Copying) → m ≢ n → old.copying_of m ≡ Some c → c.file ≢ file
  apart m c ne at e = ne (mine m (sym (ap old.writer e) ∙ copies.holds m c at))

  other_some : (m : ℕ) (c : Copying) → m ≢ n → new.copying_of m ≡ Some c → 0 < c.left
  other_some m c ne at = copies.some m c (sym (changes.calls m ne) ∙ at)

  other_left : (m : ℕ) (c : Copying) → m ≢ n → new.copying_of m ≡ Some c → new.left c.file ≡ c.left
  other_left m c ne at =
      let was = sym (changes.calls m ne) ∙ at in
      changes.lefts c.file (apart m c ne was) ∙ copies.left m c was

  other_holds : (m : ℕ) (c : Copying) → m ≢ n → new.copying_of m ≡ Some c → new.writer c.file ≡ Some m
  other_holds m c ne at =
      let was = sym (changes.calls m ne) ∙ at in
      changes.writers c.file (apart m c ne was) ∙ copies.holds m c was

  other_held : (f m : ℕ) → f ≢ file → new.writer f ≡ Some m → (c : Copying) × (new.copying_of m ≡ Some c) × (c.file ≡ f)
  other_held f m ne at =
      let was : old.writer f ≡ Some m = sym (changes.writers f ne) ∙ at in
      let w = copies.held f m was in
      (w.0, changes.calls m (λ e. ne (own f (was ∙ ap Some e))) ∙ w.1, w.2)

  other_settled : (f : ℕ) → f ≢ file → new.writer f ≡ None → new.left f ≡ 0
  other_settled f ne at = changes.lefts f ne ∙ copies.settled f (sym (changes.writers f ne) ∙ at)

-- the call copies into the file now
module _ (old new : Copiers) (n : ℕ) (c : Copying) (copies : AreCopies old) (changes : ChangesOneCall old new n c.file) (own : (f : ℕ) → old.writer f ≡ Some n → f ≡ c.file) (mine : (m : ℕ) → old.writer c.file ≡ Some m → m ≡ n)
    (now : new.copying_of n ≡ Some c) (holds : new.writer c.file ≡ Some n) (left : new.left c.file ≡ c.left) (some : 0 < c.left) where
  is_own : (m : ℕ) (d : Copying) → m ≡ n → new.copying_of m ≡ Some d → c ≡ d
  is_own m d e at = some_is c d (sym now ∙ (sym (ap new.copying_of e) ∙ at))

  some' : (m : ℕ) (d : Copying) → new.copying_of m ≡ Some d → 0 < d.left
  some' m d at = elim (cases_eq m n) [
    | inl e ↦ subst (λ (x : Copying). 0 < x.left) (is_own m d e at) some
    | inr ne ↦ other_some old new n c.file copies changes own mine m d ne at
  ]

  left' : (m : ℕ) (d : Copying) → new.copying_of m ≡ Some d → new.left d.file ≡ d.left
  left' m d at = elim (cases_eq m n) [
    | inl e ↦ subst (λ (x : Copying). new.left x.file ≡ x.left) (is_own m d e at) left
    | inr ne ↦ other_left old new n c.file copies changes own mine m d ne at
  ]

  holds' : (m : ℕ) (d : Copying) → new.copying_of m ≡ Some d → new.writer d.file ≡ Some m
  holds' m d at = elim (cases_eq m n) [
    | inl e ↦ subst (λ (x : Copying). new.writer x.file ≡ Some m) (is_own m d e at) (holds ∙ ap Some (sym e))
    | inr ne ↦ other_holds old new n c.file copies changes own mine m d ne at
  ]

  held' : (f m : ℕ) → new.writer f ≡ Some m → (d : Copying) × (new.copying_of m ≡ Some d) × (d.file ≡ f)
  held' f m at = elim (cases_eq f c.file) [
    | inl e ↦
        let is : n ≡ m = some_is n m (sym holds ∙ (sym (ap new.writer e) ∙ at)) in
        (c, sym (ap new.copying_of is) ∙ now, sym e)
    | inr ne ↦ other_held old new n c.file copies changes own mine f m ne at
  ]

  settled' : (f : ℕ) → new.writer f ≡ None → new.left f ≡ 0
  settled' f at = elim (cases_eq f c.file) [
    | inl e ↦ absurd (none_some n (sym at ∙ (ap new.writer e ∙ holds)))
    | inr ne ↦ other_settled old new n c.file copies changes own mine f ne at
  ]

  pub copies_now : AreCopies new
  copies_now = record { some = some'; left = left'; holds = holds'; held = held'; settled = settled' }

-- a call that does not copy holds no file
holds_none : (s : Copiers) → AreCopies s → (n f : ℕ) → s.copying_of n ≡ None → s.writer f ≡ Some n → ⊥
holds_none s copies n f none at = let w = copies.held f n at in none_some w.0 (sym none ∙ w.1)

-- a copying call holds its file alone
holds_one : (s : Copiers) → AreCopies s → (n f : ℕ) (c : Copying) → s.copying_of n ≡ Some c → s.writer f ≡ Some n → f ≡ c.file
holds_one s copies n f c is at = let w = copies.held f n at in sym w.2 ∙ ap (λ (x : Copying). x.file) (some_is w.0 c (sym w.1 ∙ is))

pub starts_keeps : (old new : Copiers) (n : ℕ) (c : Copying) → AreCopies old → StartsToCopy old new n c → AreCopies new
starts_keeps old new n c copies s = copies_now old new n c copies s.changes
    (λ f at. absurd (holds_none old copies n f s.was at)) (λ m at. absurd (none_some m (sym s.free ∙ at)))
    s.now s.holds s.left s.some

pub goes_keeps : (old new : Copiers) (n : ℕ) (c : Copying) (k : ℕ) → AreCopies old → CopiesOneBlock old new n c k → AreCopies new
goes_keeps old new n c k copies g = copies_now old new n (copying c.file k) copies g.changes
    (λ f at. holds_one old copies n f c g.was at) (λ m at. some_is m n (sym at ∙ copies.holds n c g.was))
    g.now g.holds g.left g.some

module _ (old new : Copiers) (n : ℕ) (c : Copying) (copies : AreCopies old) (e : CopiesRest old new n c) where
  own : (f : ℕ) → old.writer f ≡ Some n → f ≡ c.file
  own f at = holds_one old copies n f c e.was at

  mine : (m : ℕ) → old.writer c.file ≡ Some m → m ≡ n
  mine m at = some_is m n (sym at ∙ copies.holds n c e.was)

  not_own : (m : ℕ) (d : Copying) → new.copying_of m ≡ Some d → m ≢ n
  not_own m d at is = none_some d (sym e.now ∙ (sym (ap new.copying_of is) ∙ at))

  pub ends_keeps : AreCopies new
  ends_keeps = record {
    some = λ m d at. other_some old new n c.file copies e.changes own mine m d (not_own m d at) at;
    left = λ m d at. other_left old new n c.file copies e.changes own mine m d (not_own m d at) at;
    holds = λ m d at. other_holds old new n c.file copies e.changes own mine m d (not_own m d at) at;
    held = λ f m at. other_held old new n c.file copies e.changes own mine f m (λ is. none_some m (sym e.free ∙ (sym (ap new.writer is) ∙ at))) at;
    settled = λ f at. elim (cases_eq f c.file) [ inl is ↦ ap new.left is ∙ e.left | inr ne ↦ other_settled old new n c.file copies e.changes own mine f ne at ];
  }

pub spares_keeps : (old new : Copiers) → AreCopies old → Spares old new → AreCopies new
spares_keeps old new copies s = record {
  some = λ n c at. copies.some n c (sym (s.calls n) ∙ at);
  left = λ n c at. let was = sym (s.calls n) ∙ at in s.lefts c.file n (copies.holds n c was) ∙ copies.left n c was;
  holds = λ n c at. s.writers c.file n (copies.holds n c (sym (s.calls n) ∙ at));
  held = λ f n at. let w = copies.held f n (s.no_more f n at) in (w.0, s.calls n ∙ w.1, w.2);
  settled = s.settled;
}
