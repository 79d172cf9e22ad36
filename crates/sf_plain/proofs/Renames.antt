-- The effect of a rename on the names, during their scan.
use Rattle.std.proofs.Common.{◌≡◌, ◌≤◌, ◌↔◌, ℕ, Bool, true, false, cond, List, [], ◌∷◌, ◌++◌, length, drop, filter_map, Option, Some, None, option_map, refl, sym, ap, ◌∙◌, subst, arith}
use Rattle.std.specs.Bool.{IsTrue}
use Rattle.std.specs.List.{cons_option}
use Rattle.std.specs.Option.{is_some}
use Rattle.std.specs.BTreeMap.{insert_entry}
use Rattle.std.specs.Map.Iter.{TakesLast}
use Rattle.std.proofs.lemmas.List.{append-nil}
use Rattle.std.proofs.lemmas.List.Elements.{filter_map-append}
use Rattle.sf_path.specs.Names.{Path, BeginsWith}
use Rattle.sf_path.specs.Order.{path_cmp, same_name}
use Rattle.sf_call.specs.Tree.{Tree, after_front}
use Rattle.sf_call.specs.Changes.{Change, changed, done}
use Rattle.sf_call.specs.Moves.{with_entries, carried}
use Rattle.sf_call.proofs.Laws.{after_front-append, append-after_front}

-- a prefix test is true if and only if a suffix follows
pub begins_so : (p f : Path) (b : Bool) → (IsTrue b ↔ BeginsWith p f) → b ≡ is_some (after_front f p)
begins_so p f true tells =
    let front = tells.0 refl in
    sym (ap (λ (q : Path). is_some (after_front f q)) front.1 ∙ ap (λ (o : Option Path). is_some o) (after_front-append f front.0))
begins_so p f false tells =
    elim (after_front f p) as (λ o. after_front f p ≡ o → false ≡ is_some o) [
      | None ↦ λ e. refl
      | Some rest ↦ λ e. let yes : IsTrue false = tells.1 (rest, append-after_front f p rest e) in cc
    ] refl

-- the suffix is the path without as many names as the prefix
pub behind : (f p : Path) → is_some (after_front f p) ≡ true → after_front f p ≡ Some (drop (length f) p)
behind [] p is = refl
behind (n ∷ f) [] is = cc
behind (n ∷ f) (m ∷ p) is =
    elim (same_name n m) as (λ b. is_some (cond b (after_front f p) None) ≡ true → cond b (after_front f p) None ≡ Some (drop (length f) p)) [
      | true ↦ λ e. behind f p e
      | false ↦ λ e. cc
    ] is

pub front_fits : (f p : Path) → is_some (after_front f p) ≡ true → length f ≤ length p
front_fits [] p is = omega arith
front_fits (n ∷ f) [] is = cc
front_fits (n ∷ f) (m ∷ p) is =
    elim (same_name n m) as (λ b. is_some (cond b (after_front f p) None) ≡ true → length (n ∷ f) ≤ length (m ∷ p)) [
      | true ↦ λ e. let fits = front_fits f p e in omega (arith, fits)
      | false ↦ λ e. cc
    ] is

-- the last entry is inserted first
with_last : (names es : List (Path × ℕ)) (e : Path × ℕ) → with_entries names (es ++ e ∷ []) ≡ with_entries (insert_entry path_cmp names e.0 e.1) es
with_last names [] e = refl
with_last names (x ∷ es) e = ap (λ (ns : List (Path × ℕ)). insert_entry path_cmp ns x.0 x.1) (with_last names es e)

-- the last element of a list that is taken from its end
pub last_left : {A X : Type 0} (shows : A → X) (s t : List X) (r : Option A) (x : A) → r ≡ Some x → TakesLast shows s r t → s ≡ t ++ shows x ∷ []
last_left shows s t r x e h = subst (λ o. TakesLast shows s o t) e h

abbrev labelled : ℕ → Path → Path × ℕ
labelled label p = (p, label)

carried_there : (old new : Path) (e : Path × ℕ) (there : Option Path) → there ≡ option_map (λ (rest : Path). new ++ rest) (after_front old e.0)
    → carried old new e ≡ option_map (labelled e.1) there
carried_there old new e there is =
    elim (after_front old e.0) as (λ o. option_map (λ (rest : Path). labelled e.1 (new ++ rest)) o ≡ option_map (labelled e.1) (option_map (λ (rest : Path). new ++ rest) o)) [
      | None ↦ refl
      | Some rest ↦ refl
    ]
    ∙ ap (option_map (labelled e.1)) (sym is)

-- the moved entries with one more entry, from the end
carried_last : {left : List (Path × ℕ)} {there : Option Path} (old new : Path) (names rest : List (Path × ℕ)) (e : Path × ℕ) → left ≡ rest ++ e ∷ [] → there ≡ option_map (λ (r : Path). new ++ r) (after_front old e.0)
    → with_entries names (filter_map (carried old new) left) ≡ with_entries names (filter_map (carried old new) rest ++ cons_option (option_map (labelled e.1) there) [])
carried_last {left} {there} old new names rest e more is =
    ap (λ (es : List (Path × ℕ)). with_entries names es)
    (ap (filter_map (carried old new)) more ∙ filter_map-append (carried old new) rest (e ∷ [])
    ∙ ap (λ o. filter_map (carried old new) rest ++ cons_option o []) (carried_there old new e there is))

-- one more name: if it begins with the old path, it is inserted at the new one
pub carries_one : {next left whole : List (Path × ℕ)} {there : Path} (old new : Path) (names rest : List (Path × ℕ)) (e : Path × ℕ) → left ≡ rest ++ e ∷ []
    → Some there ≡ option_map (λ (r : Path). new ++ r) (after_front old e.0) → next ≡ insert_entry path_cmp names there e.1
    → with_entries names (filter_map (carried old new) left) ≡ whole → with_entries next (filter_map (carried old new) rest) ≡ whole
carries_one {there = there} old new names rest e more is put so_far =
    ap (λ (ns : List (Path × ℕ)). with_entries ns (filter_map (carried old new) rest)) put
    ∙ sym (with_last names (filter_map (carried old new) rest) (there, e.1))
    ∙ sym (carried_last old new names rest e more is) ∙ so_far

pub carries_none : {left whole : List (Path × ℕ)} (old new : Path) (names rest : List (Path × ℕ)) (e : Path × ℕ) → left ≡ rest ++ e ∷ []
    → None ≡ option_map (λ (r : Path). new ++ r) (after_front old e.0)
    → with_entries names (filter_map (carried old new) left) ≡ whole → with_entries names (filter_map (carried old new) rest) ≡ whole
carries_none old new names rest e more is so_far =
    sym (carried_last old new names rest e more is ∙ ap (λ (es : List (Path × ℕ)). with_entries names es) (append-nil (filter_map (carried old new) rest))) ∙ so_far

-- a sequence of changes after another
pub done_then : (tree : Tree) (first second : List Change) → done tree (first ++ second) ≡ done (done tree first) second
done_then tree [] second = refl
done_then tree (c ∷ first) second = done_then (changed tree c) first second
