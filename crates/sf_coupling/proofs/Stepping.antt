-- A step to a directory that no other call holds.
use Rattle.std.specs.Prelude.{◌≡◌, ◌≢◌, ◌⊎◌, ℕ, List, [], ◌∷◌, ◌++◌, Option, Some, refl}
use Rattle.std.proofs.Common.{sym, ap, subst, ◌∙◌, inl, inr}
use Rattle.sf_path.specs.Names.{Path}
use Rattle.sf_coupling.specs.Fronts.{IsPrefix}
use Rattle.sf_coupling.specs.Walks.{Namespace, HeldPath, Holds, IsNodeOf, IsOnWayTo, IsBetween, AreBelow, IsShaped, LeadsTo, IsFree, Walkers, walkers_at, AreWalks, HandsOver}
use Rattle.sf_coupling.specs.Stepping.{IsNextTo, IsFrom, AreAllAt, TakesPath}
use Rattle.sf_coupling.specs.Stepping.TakesPath.{Comes, GoesOnWith}
use Rattle.sf_coupling.proofs.Fronts.{begins_itself, begins_trans, begins_snoc, begins_both, begins_nothing}
use Rattle.sf_coupling.proofs.Keeping.{keeps_walks, holder_is}

-- ---- the effect of a step on lists of held paths
all_held : (q : HeldPath) (now : List HeldPath) (s : HeldPath) → AreAllAt q now → Holds now s → s ≡ q
all_held q [] s all h = absurd h
all_held q (p ∷ now) s all (inl e) = e ∙ all.0
all_held q (p ∷ now) s all (inr h) = all_held q now s all.1 h

all_on_way : (q : HeldPath) (now : List HeldPath) (path : Path) → AreAllAt q now → IsOnWayTo now path → IsPrefix path q.path
all_on_way q [] path all h = absurd h
all_on_way q (p ∷ now) path all (inl b) = subst (λ (s : HeldPath). IsPrefix path s.path) all.0 b
all_on_way q (p ∷ now) path all (inr h) = all_on_way q now path all.1 h

all_below : (q : HeldPath) (now : List HeldPath) → AreAllAt q now → AreBelow q.path now
all_below q [] all = tt
all_below q (p ∷ now) all = (subst (λ (s : HeldPath). IsPrefix q.path s.path) (sym all.0) (begins_itself q.path), all_below q now all.1)

kept_held : (q p : HeldPath) (front rest : List HeldPath) (s : HeldPath) → Holds (front ++ q ∷ rest) s → (s ≡ q) ⊎ Holds (front ++ p ∷ rest) s
kept_held q p [] rest s (inl e) = inl e
kept_held q p [] rest s (inr h) = inr (inr h)
kept_held q p (a ∷ front) rest s (inl e) = inr (inl e)
kept_held q p (a ∷ front) rest s (inr h) = elim (kept_held q p front rest s h) [ inl e ↦ inl e | inr k ↦ inr (inr k) ]

left_held : (p : HeldPath) (front rest : List HeldPath) → Holds (front ++ p ∷ rest) p
left_held p [] rest = inl refl
left_held p (a ∷ front) rest = inr (left_held p front rest)

up : (p q : HeldPath) → IsNextTo p q → IsPrefix p.path q.path
up p q next = record { rest = next.name ∷ []; is = next.is }

kept_on_way : (q p : HeldPath) → IsNextTo p q → (front rest : List HeldPath) (path : Path) → IsOnWayTo (front ++ q ∷ rest) path → IsOnWayTo (front ++ p ∷ rest) path ⊎ (path ≡ q.path)
kept_on_way q p next [] rest path (inl b) = elim (begins_snoc path p.path next.name (subst (IsPrefix path) next.is b)) [ inl c ↦ inl (inl c) | inr e ↦ inr (e ∙ sym next.is) ]
kept_on_way q p next [] rest path (inr h) = inl (inr h)
kept_on_way q p next (a ∷ front) rest path (inl b) = inl (inl b)
kept_on_way q p next (a ∷ front) rest path (inr h) = elim (kept_on_way q p next front rest path h) [ inl k ↦ inl (inr k) | inr e ↦ inr e ]

kept_below : (top : Path) (q p : HeldPath) → IsNextTo p q → (front rest : List HeldPath) → AreBelow top (front ++ p ∷ rest) → AreBelow top (front ++ q ∷ rest)
kept_below top q p next [] rest below = (begins_trans top p.path q.path below.0 (up p q next), below.1)
kept_below top q p next (a ∷ front) rest below = (below.0, kept_below top q p next front rest below.1)

-- a path held after the step is new or was held
pub takes_held : (q : HeldPath) (was now : List HeldPath) (s : HeldPath) → TakesPath q was now → Holds now s → (s ≡ q) ⊎ Holds was s
takes_held q was now s (Comes w n from some all) h = inl (all_held q n s all h)
takes_held q was now s (GoesOnWith top front p rest next) (inl e) = inr (inl e)
takes_held q was now s (GoesOnWith top front p rest next) (inr h) = elim (kept_held q p front rest s h) [ inl e ↦ inl e | inr k ↦ inr (inr k) ]

-- a path between is new, or was between
takes_between : (q : HeldPath) (was now : List HeldPath) (path : Path) → TakesPath q was now → IsBetween now path → IsBetween was path ⊎ (path ≡ q.path)
takes_between q was now path (Comes w [] from some all) h = absurd h
takes_between q was now path (Comes w (top ∷ ends) from some all) h =
    inr (begins_both path q.path (all_on_way q ends path all.1 h.1) (subst (λ (s : HeldPath). IsPrefix s.path path) all.0 h.0))
takes_between q was now path (GoesOnWith top front p rest next) h = elim (kept_on_way q p next front rest path h.1) [ inl k ↦ inl (h.0, k) | inr e ↦ inr e ]

takes_shaped : (q : HeldPath) (was now : List HeldPath) → TakesPath q was now → IsShaped was → IsShaped now
takes_shaped q was now (Comes w [] from some all) shaped = tt
takes_shaped q was now (Comes w (top ∷ ends) from some all) shaped = subst (λ (s : HeldPath). AreBelow s.path ends) (sym all.0) (all_below q ends all.1)
takes_shaped q was now (GoesOnWith top front p rest next) shaped = kept_below top.path q p next front rest shaped

-- the new directory is held
pub takes_new : (q : HeldPath) (was now : List HeldPath) → TakesPath q was now → IsNodeOf now q.node
takes_new q was now (Comes w [] from some all) = absurd some
takes_new q was now (Comes w (top ∷ ends) from some all) = record { held_path = top; holds = inl refl; node = ap (λ (s : HeldPath). s.node) all.0 }
takes_new q was now (GoesOnWith top front p rest next) = record { held_path = q; holds = inr (left_held q front rest); node = refl }

takes_from : (q : HeldPath) (was now : List HeldPath) → TakesPath q was now → IsFrom was q
takes_from q was now (Comes w n from some all) = from
takes_from q was now (GoesOnWith top front p rest next) = inr (p, inr (left_held p front rest), next)

-- ---- coupling
module _ (t : Namespace) (f : ℕ → List HeldPath) (k : ℕ → Option ℕ) (n : ℕ) (walks : AreWalks (walkers_at t f k)) (q : HeldPath) (is_free : IsFree k n q.node) (there : LeadsTo t q) where
  -- no other call holds the directory at that path
  pub not_there : (m : ℕ) (s : HeldPath) → n ≢ m → Holds (f m) s → s.path ≡ q.path → ⊥
  not_there m s other hold same =
      let a = walks.leads m s hold in
      let x : Some s.node ≡ Some q.node = sym a.names ∙ (ap t.leads same ∙ there.names) in
      let y : s.node ≡ q.node = cc in
      other (is_free m (ap k (sym y) ∙ walks.held m s hold))

  -- the first path of another call isn't at q, so it is above
  above : (m : ℕ) (top : HeldPath) (ends : List HeldPath) → n ≢ m → f m ≡ top ∷ ends → top.path ≡ q.path → ⊥
  above m top ends other is = not_there m top other (subst (λ (x : List HeldPath). Holds x top) (sym is) (inl refl))

  on_way_up : (held_paths : List HeldPath) (p path : Path) → IsPrefix p path → IsOnWayTo held_paths path → IsOnWayTo held_paths p
  on_way_up [] p path b h = h
  on_way_up (s ∷ held_paths) p path b (inl c) = inl (begins_trans p path s.path b c)
  on_way_up (s ∷ held_paths) p path b (inr h) = inr (on_way_up held_paths p path b h)

  -- no other call's path resolves through q
  pub q_aside : IsFrom (f n) q → (m : ℕ) → n ≢ m → (held_paths : List HeldPath) → f m ≡ held_paths → IsBetween held_paths q.path → ⊥
  q_aside from m other [] is b = b
  q_aside (inl root) m other (top ∷ ends) is b = above m top ends other is (begins_nothing top.path (subst (IsPrefix top.path) root b.0) ∙ sym root)
  q_aside (inr next) m other (top ∷ ends) is b =
      let p = next.0 in
      elim (begins_snoc top.path p.path next.2.name (subst (IsPrefix top.path) next.2.is b.0)) [
        | inr e ↦ above m top ends other is (e ∙ sym next.2.is)
        | inl e ↦ walks.apart m n p (λ i. other (sym i)) next.1 (subst (λ (x : List HeldPath). IsBetween x p.path) (sym is) (e, on_way_up ends p.path q.path (up p q next.2) b.1))
      ]

  -- a step to a free directory preserves the invariant
  pub step_keeps : (f' : ℕ → List HeldPath) (k' : ℕ → Option ℕ) → TakesPath q (f n) (f' n) → ((m : ℕ) → n ≢ m → f' m ≡ f m) → HandsOver k k' n (f n) (f' n) → AreWalks (walkers_at t f' k')
  step_keeps f' k' takes same hands =
      keeps_walks (walkers_at t f k) (walkers_at t f' k') n walks (record {
        same = same;
        hands = hands;
        free = λ l h m at. elim (takes_held q (f n) (f' n) h.held_path takes h.holds) [
          | inl e ↦ is_free m (ap k (ap (λ (x : HeldPath). x.node) (sym e) ∙ h.node) ∙ at)
          | inr was ↦ let x : Some n ≡ Some m = sym (holder_is (walkers_at t f k) walks n l (record { held_path = h.held_path; holds = was; node = h.node })) ∙ at in cc
        ];
        shaped = takes_shaped q (f n) (f' n) takes (walks.shaped n);
        spared = λ m s other hold leads. leads;
        leads = λ s h. elim (takes_held q (f n) (f' n) s takes h) [
          | inl e ↦ subst (LeadsTo t) (sym e) there
          | inr was ↦ walks.leads n s was
        ];
        apart = λ m s other hold b. elim (takes_between q (f n) (f' n) s.path takes b) [
          | inl was ↦ walks.apart n m s other hold was
          | inr e ↦ not_there m s other hold e
        ];
        aside = λ m s other h b. elim (takes_held q (f n) (f' n) s takes h) [
          | inl e ↦ q_aside (takes_from q (f n) (f' n) takes) m other (f m) refl (subst (λ (x : HeldPath). IsBetween (f m) x.path) e b)
          | inr was ↦ walks.apart m n s (λ i. other (sym i)) was b
        ];
      })

-- ---- waiting
below_held : (top : Path) (ends : List HeldPath) (s : HeldPath) → AreBelow top ends → Holds ends s → IsPrefix top s.path
below_held top [] s below h = absurd h
below_held top (e ∷ ends) s below (inl i) = subst (λ (x : HeldPath). IsPrefix top x.path) (sym i) below.0
below_held top (e ∷ ends) s below (inr h) = below_held top ends s below.1 h

held_on_way : (held_paths : List HeldPath) (s : HeldPath) (q : Path) → IsPrefix q s.path → Holds held_paths s → IsOnWayTo held_paths q
held_on_way [] s q b h = absurd h
held_on_way (e ∷ held_paths) s q b (inl i) = inl (subst (λ (x : HeldPath). IsPrefix q x.path) i b)
held_on_way (e ∷ held_paths) s q b (inr h) = inr (held_on_way held_paths s q b h)

-- a call that wants the root, or an entry of a held directory, wants the first path of its holder
pub waits_at_top : {s : Walkers} → AreWalks s → {n m : ℕ} → n ≢ m → (held_path : HeldPath) → IsFrom (s.held_paths n) held_path → {top : HeldPath} {ends : List HeldPath} → s.held_paths m ≡ top ∷ ends → Holds (top ∷ ends) held_path → held_path.path ≡ top.path
waits_at_top walks other held_path from is (inl e) = ap (λ (x : HeldPath). x.path) e
waits_at_top walks {m = m} other held_path (inl root) {top = top} {ends = ends} is (inr h) =
    root ∙ sym (begins_nothing top.path (subst (IsPrefix top.path) root (below_held top.path ends held_path (subst IsShaped is (walks.shaped m)) h)))
waits_at_top walks {n = n} {m = m} other held_path (inr next) {top = top} {ends = ends} is (inr h) =
    let p = next.0 in
    let below = below_held top.path ends held_path (subst IsShaped is (walks.shaped m)) h in
    elim (begins_snoc top.path p.path next.2.name (subst (IsPrefix top.path) next.2.is below)) [
      | inr e ↦ next.2.is ∙ sym e
      | inl e ↦ absurd (walks.apart m n p (λ i. other (sym i)) next.1 (subst (λ (x : List HeldPath). IsBetween x p.path) (sym is) (e, held_on_way ends held_path p.path (up p held_path next.2) h)))
    ]
