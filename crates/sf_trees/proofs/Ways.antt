-- The parents of a path, and a file's chunks, in sequence.
use Rattle.std.proofs.Common.{◌≡◌, ◌≤◌, ℕ, zero, suc, Bool, List, Result, sym, subst, min, take, length, ap, ◌∙◌, arith}
use Rattle.std.proofs.lemmas.List.{take_all, take_min}
use Rattle.sf_trees.specs.declared.fault.Place.{Place}
use Rattle.sf_trees.specs.declared.fault.Refused.{Refused}
use Rattle.sf_trees.specs.Operations.{Operation, IsNothing, Then}
use Rattle.sf_trees.specs.Makings.{MakesAt, MakesTo, WritesPiece, WritesTo}
use Rattle.sf_trees.proofs.Doing.{Sequence}

pub way_none : (session : ℕ) (whole : Bool) (path : List ℕ) (operations : List Operation) (r : Result (Unit {0}) Refused) → IsNothing operations r → MakesTo session whole path zero operations r
unfolding MakesTo
way_none session whole path operations r h = h

pub way_more : (session : ℕ) (whole : Bool) (path : List ℕ) (n : ℕ) (operations : List Operation) (r : Result (Unit {0}) Refused) → Then (MakesTo session whole path n) (λ done. MakesAt session whole path n) operations r → MakesTo session whole path (suc n) operations r
unfolding MakesTo
way_more session whole path n operations r h = h

-- the parents of a path
abbrev pub way : ℕ → Bool → List ℕ → Sequence
way session whole path = record { One = MakesAt session whole path; Before = MakesTo session whole path; none = way_none session whole path; more = way_more session whole path }

pub writing_none : (session handle : ℕ) (place : Place) (contents : List ℕ) (operations : List Operation) (r : Result (Unit {0}) Refused) → IsNothing operations r → WritesTo session handle place contents zero operations r
unfolding WritesTo
writing_none session handle place contents operations r h = h

pub writing_more : (session handle : ℕ) (place : Place) (contents : List ℕ) (n : ℕ) (operations : List Operation) (r : Result (Unit {0}) Refused) → Then (WritesTo session handle place contents n) (λ done. WritesPiece session handle place contents n) operations r
    → WritesTo session handle place contents (suc n) operations r
unfolding WritesTo
writing_more session handle place contents n operations r h = h

-- the chunks of a file's contents
abbrev pub writing : ℕ → ℕ → Place → List ℕ → Sequence
writing session handle place contents = record { One = WritesPiece session handle place contents; Before = WritesTo session handle place contents; none = writing_none session handle place contents; more = writing_more session handle place contents }

-- a prefix of a slice, of a given length at most
pub piece_front : (d : List ℕ) (m k : ℕ) → length d ≤ m → k ≡ min (length (take m d)) 131072
    → take k (take m d) ≡ take 131072 d
piece_front d m k short e =
    let whole = take_all m d short in
    let turned : min (length d) 131072 ≡ min 131072 (length d) = omega arith in
    let is : k ≡ min 131072 (length d) = (e ∙ ap (λ (x : List ℕ). min (length x) 131072) whole) ∙ turned in
    subst (λ (x : List ℕ). take k x ≡ take 131072 d) (sym whole)
    (subst (λ (j : ℕ). take j d ≡ take 131072 d) (sym is) (take_min 131072 d))
