-- The changes that preserve the invariant of lock coupling.
use Rattle.std.specs.Prelude.{◌≡◌, ◌≢◌, ◌⊎◌, ℕ, true, false, nat_eq, List, [], ◌∷◌, Option, Some, None, refl}
use Rattle.std.proofs.Common.{sym, ap, subst, ◌∙◌, inl, inr, eqb-true}
use Rattle.std.proofs.lemmas.Bool.{eqb-false}
use Rattle.sf_coupling.specs.Walks.{Namespace, HeldPath, Holds, IsNodeOf, IsBetween, IsShaped, LeadsTo, Walkers, walkers_at, AreWalks, HandsOver, HoldsOthers}

pub same_or_not : (n m : ℕ) → (n ≡ m) ⊎ (n ≢ m)
same_or_not n m =
    elim (nat_eq n m) as (λ b. nat_eq n m ≡ b → (n ≡ m) ⊎ (n ≢ m)) [
      | true ↦ λ e. inl (eqb-true n m e)
      | false ↦ λ e. inr (eqb-false n m e)
    ] refl

some_same : (n m : ℕ) → Some n ≡ Some m → n ≡ m
some_same n m e = cc

none_is : (n : ℕ) → None ≡ Some n → ⊥
none_is n e = cc

-- an inode is that of a held path, or of none
pub node_or_not : (held_paths : List HeldPath) (l : ℕ) → IsNodeOf held_paths l ⊎ (IsNodeOf held_paths l → ⊥)
node_or_not [] l = inr (λ h. h.holds)
node_or_not (p ∷ held_paths) l = elim (same_or_not p.node l) [
  | inl e ↦ inl (record { held_path = p; holds = inl refl; node = e })
  | inr ne ↦ elim (node_or_not held_paths l) [
    | inl h ↦ inl (record { held_path = h.held_path; holds = inr h.holds; node = h.node })
    | inr none ↦ inr (λ h. elim h.holds [
      | inl e ↦ ne (ap (λ (s : HeldPath). s.node) (sym e) ∙ h.node)
      | inr there ↦ none (record { held_path = h.held_path; holds = there; node = h.node })
    ])
  ]
]

-- the holder of an inode of its paths
pub holder_is : (s : Walkers) → AreWalks s → (n l : ℕ) → IsNodeOf (s.held_paths n) l → s.holder l ≡ Some n
holder_is s walks n l h = ap s.holder (sym h.node) ∙ walks.held n h.held_path h.holds

-- two holders of one inode are equal
pub held_by_one : (s : Walkers) → AreWalks s → (n m : ℕ) (a b : HeldPath) → Holds (s.held_paths n) a → Holds (s.held_paths m) b → a.node ≡ b.node → n ≡ m
held_by_one s walks n m a b x y e = some_same n m (sym (walks.held n a x) ∙ (ap s.holder e ∙ walks.held m b y))

module _ (old new : Walkers) (n : ℕ) (walks : AreWalks old) (goes : HoldsOthers old new n) where
  own : (l : ℕ) → IsNodeOf (new.held_paths n) l → new.holder l ≡ Some n
  own = goes.hands.here

  only : (l : ℕ) → new.holder l ≡ Some n → IsNodeOf (new.held_paths n) l
  only l at = elim (node_or_not (new.held_paths n) l) [
    | inl h ↦ h
    | inr none ↦ elim (node_or_not (old.held_paths n) l) [
      | inl was ↦ absurd (none_is n (sym (goes.hands.gone l was none) ∙ at))
      | inr not ↦ absurd (not (walks.holds l n (sym (goes.hands.rest l not none) ∙ at)))
    ]
  ]

  others : (l m : ℕ) → n ≢ m → old.holder l ≡ Some m → new.holder l ≡ Some m
  others l m other at = elim (node_or_not (new.held_paths n) l) [
    | inl h ↦ absurd (other (goes.free l h m at))
    | inr none ↦ elim (node_or_not (old.held_paths n) l) [
      | inl was ↦ absurd (other (some_same n m (sym (holder_is old walks n l was) ∙ at)))
      | inr not ↦ goes.hands.rest l not none ∙ at
    ]
  ]

  no_more : (l m : ℕ) → n ≢ m → new.holder l ≡ Some m → old.holder l ≡ Some m
  no_more l m other at = elim (node_or_not (new.held_paths n) l) [
    | inl h ↦ absurd (other (some_same n m (sym (goes.hands.here l h) ∙ at)))
    | inr none ↦ elim (node_or_not (old.held_paths n) l) [
      | inl was ↦ absurd (none_is m (sym (goes.hands.gone l was none) ∙ at))
      | inr not ↦ sym (goes.hands.rest l not none) ∙ at
    ]
  ]

  was_held : (m : ℕ) (s : HeldPath) → n ≢ m → Holds (new.held_paths m) s → Holds (old.held_paths m) s
  was_held m s other h = subst (λ (x : List HeldPath). Holds x s) (goes.same m other) h

  own_held : (m : ℕ) (s : HeldPath) → n ≡ m → Holds (new.held_paths m) s → Holds (new.held_paths n) s
  own_held m s e h = subst (λ x. Holds (new.held_paths x) s) (sym e) h

  shaped' : (m : ℕ) → IsShaped (new.held_paths m)
  shaped' m = elim (same_or_not n m) [
    | inl e ↦ subst (λ x. IsShaped (new.held_paths x)) e goes.shaped
    | inr e ↦ subst IsShaped (sym (goes.same m e)) (walks.shaped m)
  ]

  leads' : (m : ℕ) (s : HeldPath) → Holds (new.held_paths m) s → LeadsTo new.namespace s
  leads' m s h = elim (same_or_not n m) [
    | inl e ↦ goes.leads s (own_held m s e h)
    | inr e ↦ let was = was_held m s e h in goes.spared m s e was (walks.leads m s was)
  ]

  held' : (m : ℕ) (s : HeldPath) → Holds (new.held_paths m) s → new.holder s.node ≡ Some m
  held' m s h = elim (same_or_not n m) [
    | inl e ↦ own s.node (record { held_path = s; holds = own_held m s e h; node = refl }) ∙ ap Some e
    | inr e ↦ others s.node m e (walks.held m s (was_held m s e h))
  ]

  holds' : (l m : ℕ) → new.holder l ≡ Some m → IsNodeOf (new.held_paths m) l
  holds' l m at = elim (same_or_not n m) [
    | inl e ↦ subst (λ x. IsNodeOf (new.held_paths x) l) e (only l (at ∙ ap Some (sym e)))
    | inr e ↦ subst (λ (x : List HeldPath). IsNodeOf x l) (sym (goes.same m e)) (walks.holds l m (no_more l m e at))
  ]

  apart' : (a b : ℕ) (s : HeldPath) → a ≢ b → Holds (new.held_paths b) s → IsBetween (new.held_paths a) s.path → ⊥
  apart' a b s differ hold between = elim (same_or_not n a) [
    | inl e ↦
        let other : n ≢ b = λ x. differ (sym e ∙ x) in
        goes.apart b s other (was_held b s other hold) (subst (λ x. IsBetween (new.held_paths x) s.path) (sym e) between)
    | inr e ↦
        let was = subst (λ (x : List HeldPath). IsBetween x s.path) (goes.same a e) between in
        elim (same_or_not n b) [
          | inl i ↦ goes.aside a s e (own_held b s i hold) was
          | inr i ↦ walks.apart a b s differ (was_held b s i hold) was
        ]
  ]

  -- such a change preserves the invariant
  pub keeps_walks : AreWalks new
  keeps_walks = record { shaped = shaped'; leads = leads'; held = held'; holds = holds'; apart = apart' }

-- releasing all that a call holds preserves it
module _ (t : Namespace) (f f' : ℕ → List HeldPath) (k k' : ℕ → Option ℕ) (n : ℕ) (walks : AreWalks (walkers_at t f k)) (none : f' n ≡ []) (same : (m : ℕ) → n ≢ m → f' m ≡ f m) (hands : HandsOver k k' n (f n) []) where
  holds_none : (s : HeldPath) → Holds (f' n) s → ⊥
  holds_none s h = subst (λ (x : List HeldPath). Holds x s) none h

  pub let_go_keeps : AreWalks (walkers_at t f' k')
  let_go_keeps = keeps_walks (walkers_at t f k) (walkers_at t f' k') n walks (record {
    same = same;
    hands = subst (λ (x : List HeldPath). HandsOver k k' n (f n) x) (sym none) hands;
    free = λ l h. absurd (holds_none h.held_path h.holds);
    shaped = subst IsShaped (sym none) tt;
    spared = λ m s other h leads. leads;
    leads = λ s h. absurd (holds_none s h);
    apart = λ m s other h b. subst (λ (x : List HeldPath). IsBetween x s.path) none b;
    aside = λ m s other h b. holds_none s h;
  })
