-- The invariant of entries and inodes, after each change.
use Rattle.std.specs.Prelude.{◌≡◌, ◌≢◌, ◌⊎◌, ℕ, nat_eq, Bool, true, ◌&&◌, [], ◌∷◌, is_some, option_map, option_and_then, Option, Some, None}
use Rattle.std.proofs.Common.{sym, ap, ◌∙◌, inl, inr, eqb-true}
use Rattle.sf_path.specs.Names.{Name, Path}
use Rattle.sf_path.specs.Order.{same_name}
use Rattle.sf_call.specs.Attributes.{Object}
use Rattle.sf_call.specs.Tree.{directory_metadata}
use Rattle.sf_call.proofs.Laws.{same_name_is, same_name_itself, both_true}
use Rattle.sf_keeps.specs.Steps.{EntryMap, walk, changed_step}
use Rattle.sf_keeps.specs.Shows.{Shown, IsSound, is_directory_by, changed_shown}
use Rattle.sf_keeps.proofs.Through.{by_test, was_there, was_none, found_through}
use Rattle.sf_keeps.proofs.SetsAt.{nat_eq_itself, at_or_beside, sets, set_found, set_seen}

-- whether it is a directory
abbrev pub is_directory_shown : Option (ℕ × Object) → Bool
is_directory_shown v = is_some (option_and_then (λ w. directory_metadata w.1) v)

-- a directory exists
pub directory_there : (shown : Shown) (x : ℕ) → is_directory_by shown x ≡ true → shown x ≡ None → ⊥
directory_there shown x is none = let e = ap is_directory_shown none in cc

-- no entry refers to it
abbrev pub HasNoEntry : EntryMap → ℕ → Type 0
HasNoEntry step c = (x : ℕ) (n : Name) → step x n ≡ Some c → ⊥

abbrev pub IsBare : EntryMap → ℕ → Type 0
IsBare step c = (m : Name) → step c m ≡ None

-- the last step of path resolution
pub last_step : (step : EntryMap) (q : Path) (x c : ℕ) → walk step x q ≡ Some c → (x ≡ c) ⊎ ((y : ℕ) × (m : Name) × (step y m ≡ Some c))
last_step step [] x c w = let e : x ≡ c = cc in inl e
last_step step (m ∷ q) x c w =
    let y = found_through (step x m) w in
    elim (last_step step q y.0 c y.2) [ inl h ↦ inr (x, m, y.1 ∙ ap Some h) | inr h ↦ inr h ]

pub never_reached : (step : EntryMap) (root c : ℕ) (q : Path) → HasNoEntry step c → (root ≡ c → ⊥) → walk step root q ≡ Some c → ⊥
never_reached step root c q none other w = elim (last_step step q root c w) [ inl e ↦ other e | inr s ↦ none s.0 s.1 s.2 ]

-- a resolved inode exists
pub reached_there : (step : EntryMap) (shown : Shown) (root : ℕ) → IsSound step shown root → (q : Path) (y : ℕ) → walk step root q ≡ Some y → shown y ≡ None → ⊥
reached_there step shown root sound q y w none = elim (last_step step q root y w) [
  | inl e ↦ directory_there shown root sound.rooted (ap shown e ∙ none)
  | inr s ↦ sound.to s.0 y s.1 s.2 none
]

module _ (step : EntryMap) (d : ℕ) (n : Name) where
  pub step_less : (x c : ℕ) (m : Name) → changed_step step d n None x m ≡ Some c → step x m ≡ Some c
  step_less x c m = was_there (nat_eq d x && same_name n m)

  -- a step after the change: the new one, or one from before
  pub step_more : (c x y : ℕ) (m : Name) → changed_step step d n (Some c) x m ≡ Some y → ((d ≡ x) × (n ≡ m) × (c ≡ y)) ⊎ (step x m ≡ Some y)
  step_more c x y m e = elim (by_test (nat_eq d x && same_name n m) e) [
    | inl a ↦ let same : c ≡ y = cc in let s = both_true _ _ a.0 in inl (eqb-true d x s.0, same_name_is n m s.1, same)
    | inr a ↦ inr a.1
  ]

  -- the inode of the entry
  pub changed_there : (r : Option ℕ) → changed_step step d n r d n ≡ r
  changed_there r = simp (nat_eq_itself, same_name_itself)

  module _ (shown : Shown) (root : ℕ) (sound : IsSound step shown root) where
    pub sound_less : IsSound (changed_step step d n None) shown root
    sound_less = record {
      labels = sound.labels;
      one = λ x y c k m is e f. sound.one x y c k m is (step_less x c k e) (step_less y c m f);
      top = λ x m e. sound.top x m (step_less x root m e);
      owns = λ x c m e. sound.owns x c m (step_less x c m e);
      to = λ x c m e. sound.to x c m (step_less x c m e);
      rooted = sound.rooted;
    }

    -- the removed entry was the only one of a directory
    pub no_entry_left : (c : ℕ) → is_directory_by shown c ≡ true → step d n ≡ Some c → HasNoEntry (changed_step step d n None) c
    no_entry_left c is there x m e =
        let same = sound.one d x c n m is there (step_less x c m e) in
        let gone : changed_step step d n None x m ≡ None = (λ i. changed_step step d n None (sym same.0 i) (sym same.1 i)) ∙ changed_there None in cc

    -- a new entry of a directory, for an inode that is no directory with an entry
    pub sound_more : (c : ℕ) → (is_directory_by shown c ≡ true → HasNoEntry step c) → (root ≡ c → ⊥) → is_directory_by shown d ≡ true → (shown c ≡ None → ⊥) → IsSound (changed_step step d n (Some c)) shown root
    sound_more c free other is_d c_there = record {
      labels = sound.labels;
      one = λ x y z k m is e f. elim (step_more c x z k e) [
        | inl a ↦ elim (step_more c y z m f) [
          | inl b ↦ (sym a.0 ∙ b.0, sym a.1 ∙ b.1)
          | inr b ↦ absurd (free (ap (is_directory_by shown) a.2 ∙ is) y m (b ∙ ap Some (sym a.2)))
        ]
        | inr a ↦ elim (step_more c y z m f) [
          | inl b ↦ absurd (free (ap (is_directory_by shown) b.2 ∙ is) x k (a ∙ ap Some (sym b.2)))
          | inr b ↦ sound.one x y z k m is a b
        ]
      ];
      top = λ x m e. elim (step_more c x root m e) [ inl a ↦ other (sym a.2) | inr a ↦ sound.top x m a ];
      owns = λ x z m e. elim (step_more c x z m e) [ inl a ↦ ap (is_directory_by shown) (sym a.0) ∙ is_d | inr a ↦ sound.owns x z m a ];
      to = λ x z m e none. elim (step_more c x z m e) [ inl a ↦ c_there (ap shown a.2 ∙ none) | inr a ↦ sound.to x z m a none ];
      rooted = sound.rooted;
    }

module _ (step : EntryMap) (shown : Shown) (root c : ℕ) (sound : IsSound step shown root) where
  -- if the changed inode was absent or of the same file type, existing file types stay
  pub kind_more : (label : ℕ) (o : Object) → ((shown c ≡ None → ⊥) → is_directory_by shown c ≡ is_directory_shown (Some (label, o)))
      → (x : ℕ) → (shown x ≡ None → ⊥) → is_directory_by (changed_shown shown c (Some (label, o))) x ≡ is_directory_by shown x
  kind_more label o kind =
      let seen = set_seen is_directory_shown (sets shown c (Some (label, o))) in
      at_or_beside _ c (λ there. seen.at ∙ sym (kind there)) (λ x ne there. seen.beside x ne)

  -- an inode with a unique number, new or of its old file type
  pub sound_shown : (label : ℕ) (o : Object) → ((shown c ≡ None → ⊥) → is_directory_by shown c ≡ is_directory_shown (Some (label, o)))
      → ((i : ℕ) (u : Object) → c ≢ i → shown i ≡ Some (label, u) → ⊥) → IsSound step (changed_shown shown c (Some (label, o))) root
  sound_shown label o kind fresh =
      let same = kind_more label o kind in
      let new = sets shown c (Some (label, o)) in
      record {
        labels = λ i j l p q e f. elim (set_found new i e) [
          | inl a ↦ elim (set_found new j f) [
            | inl b ↦ sym a.0 ∙ b.0
            | inr b ↦ absurd (fresh j q b.0 (b.1 ∙ ap (option_map (λ (z : ℕ × Object). (z.0, q))) (sym a.1)))
          ]
          | inr a ↦ elim (set_found new j f) [
            | inl b ↦ absurd (fresh i p a.0 (a.1 ∙ ap (option_map (λ (z : ℕ × Object). (z.0, p))) (sym b.1)))
            | inr b ↦ sound.labels i j l p q a.1 b.1
          ]
        ];
        one = λ x y z k m is e f. sound.one x y z k m (sym (same z (sound.to x z k e)) ∙ is) e f;
        top = sound.top;
        owns = λ x z m e. let is = sound.owns x z m e in same x (directory_there shown x is) ∙ is;
        to = λ x z m e none. sound.to x z m e (was_none (nat_eq c z) _ none);
        rooted = same root (directory_there shown root sound.rooted) ∙ sound.rooted;
      }

  -- without an inode that has no entries and that no entry refers to
  pub sound_dropped : HasNoEntry step c → IsBare step c → (root ≡ c → ⊥) → IsSound step (changed_shown shown c None) root
  sound_dropped free bare other =
      let new = sets shown c None in
      let kind = set_seen is_directory_shown new in
      let led : (x z : ℕ) (m : Name) → step x m ≡ Some z → c ≢ z = λ x z m e h. free x m (e ∙ ap Some (sym h)) in
      record {
        labels = λ i j l p q e f. sound.labels i j l p q (was_there (nat_eq c i) e) (was_there (nat_eq c j) f);
        one = λ x y z k m is e f. sound.one x y z k m (sym (kind.beside z (led x z k e)) ∙ is) e f;
        top = sound.top;
        owns = λ x z m e. kind.beside x (λ h. let b = ap (λ y. step y m) h in let none = bare m in cc) ∙ sound.owns x z m e;
        to = λ x z m e none. sound.to x z m e (sym (new.beside z (led x z m e)) ∙ none);
        rooted = kind.beside root (λ h. other (sym h)) ∙ sound.rooted;
      }
