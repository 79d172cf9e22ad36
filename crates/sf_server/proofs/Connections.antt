-- Connections that are given and taken, one at a time.
use Rattle.std.proofs.Common.{◌≡◌, ◌<◌, ◌+◌, ◌∙◌, ℕ, zero, suc, List, [], ◌∷◌, ◌++◌, length, Option, Some, None, refl, sym, ap, subst, append_assoc, append-nil, length-append, arith}
use Rattle.std.proofs.lemmas.List.Elements.{filter_map-append}
use Rattle.sf_pool.specs.SessionLanes.{Notes}
use Rattle.sf_server.specs.declared.accepting.Stopped.TheVariants as stopped
use Rattle.sf_server.specs.Accepting.{nothing, lines_in, GivesNext, GivesNone, TakesLines}

-- ---- what is kept in order

pub notes_none : {T : Type 0} (a b : Option (List T)) → b ≡ a → Notes a b []
notes_none None b same = tt
notes_none (Some xs) None same = absurd (cc)
notes_none (Some xs) (Some ys) same = let e : ys ≡ xs = cc in e ∙ sym (append-nil xs)

pub notes_more : {T : Type 0} (a b c : Option (List T)) (xs ys : List T) → Notes a b xs → Notes b c ys → Notes a c (xs ++ ys)
notes_more None b c xs ys one other = tt
notes_more (Some a) None c xs ys one other = absurd one
notes_more (Some a) (Some b) None xs ys one other = absurd other
notes_more (Some a) (Some b) (Some c) xs ys one other = other ∙ ap (λ l. l ++ ys) one ∙ append_assoc a xs ys

-- ---- nothing is given

-- one more time
pub nothing_more : {L : Type 0} (n : ℕ) → nothing {L = L} n ++ None ∷ [] ≡ nothing (n + 1)
nothing_more zero = refl
nothing_more {L = L} (suc n) = let e : suc (n + 1) ≡ suc n + 1 = omega arith in ap (λ (l : List (Option L)). None ∷ l) (nothing_more n) ∙ ap (λ (m : ℕ). nothing {L = L} m) e

lines_in_nothing : {L : Type 0} (n : ℕ) → lines_in (nothing {L = L} n) ≡ []
lines_in_nothing zero = refl
lines_in_nothing (suc n) = lines_in_nothing n

-- ---- connections are taken

-- What was given and taken so far.
pub record Taking {L : Type 0} (given given' : Option (List (Option L))) (taken taken' : Option (List L)) (count : ℕ) : Type 0 where
  pub asked : List (Option L)
  pub lines : List L
  pub gave : Notes given given' asked
  pub took : Notes taken taken' lines
  pub each : lines_in asked ≡ lines
  pub many : length lines ≡ count

pub takes_none : {L : Type 0} (given given' : Option (List (Option L))) (taken taken' : Option (List L)) → given' ≡ given → taken' ≡ taken → Taking given given' taken taken' 0
takes_none given given' taken taken' same other = record { asked = []; lines = []; gave = notes_none given given' same; took = notes_none taken taken' other; each = refl; many = refl }

-- a further one is among what was given
each_more : {L : Type 0} (asked : List (Option L)) (lines : List L) (n : ℕ) (line : L) → lines_in asked ≡ lines → lines_in (asked ++ (nothing n ++ Some line ∷ [])) ≡ lines ++ line ∷ []
each_more asked lines n line each =
    filter_map-append (λ x. x) asked (nothing n ++ Some line ∷ [])
    ∙ ap (λ l. lines_in asked ++ l) (filter_map-append (λ x. x) (nothing n) (Some line ∷ []) ∙ ap (λ l. l ++ line ∷ []) (lines_in_nothing n))
    ∙ ap (λ l. l ++ line ∷ []) each

pub takes_more : {L : Type 0} {given given' given'' : Option (List (Option L))} {taken taken' taken'' : Option (List L)} {count : ℕ} (line : L) → Taking given given' taken taken' count → GivesNext given' given'' line → Notes taken' taken'' (line ∷ [])
    → Taking given given'' taken taken'' (count + 1)
takes_more {given = given} {given' = given'} {given'' = given''} {taken = taken} {taken' = taken'} {taken'' = taken''} line t gives takes = record {
  asked = t.asked ++ (nothing gives.0 ++ Some line ∷ []);
  lines = t.lines ++ line ∷ [];
  gave = notes_more given given' given'' t.asked (nothing gives.0 ++ Some line ∷ []) t.gave gives.1;
  took = notes_more taken taken' taken'' t.lines (line ∷ []) t.took takes;
  each = each_more t.asked t.lines gives.0 line t.each;
  many = omega (arith, t.many, length-append t.lines (line ∷ []));
}

pub takes_all : {L : Type 0} {given given' : Option (List (Option L))} {taken taken' : Option (List L)} (most : ℕ) → Taking given given' taken taken' most → TakesLines most stopped.All given given' taken taken'
takes_all most t = (t.asked, t.lines, t.gave, t.took, (t.many, t.each))

pub taker_ended : {L : Type 0} {given given' : Option (List (Option L))} {taken taken' taken'' : Option (List L)} {count : ℕ} (most : ℕ) (given'' : Option (List (Option L))) (line : L) → Taking given given' taken taken' count → count < most → GivesNext given' given'' line → taken'' ≡ taken'
    → TakesLines most stopped.Ended given given'' taken taken''
taker_ended {given = given} {given' = given'} {taken = taken} most given'' line t few gives same = (
  t.asked ++ (nothing gives.0 ++ Some line ∷ []),
  t.lines,
  notes_more given given' given'' t.asked (nothing gives.0 ++ Some line ∷ []) t.gave gives.1,
  subst (λ x. Notes taken x t.lines) (sym same) t.took,
  (omega (arith, t.many, few), (line, each_more t.asked t.lines gives.0 line t.each)),
)

-- no more will come
pub no_more : {L : Type 0} {given given' : Option (List (Option L))} {taken taken' : Option (List L)} {count : ℕ} (most : ℕ) (given'' : Option (List (Option L))) → Taking given given' taken taken' count → count < most → GivesNone given' given''
    → TakesLines most stopped.Closed given given'' taken taken'
no_more {given = given} {given' = given'} most given'' t few none = (
  t.asked ++ nothing none.0,
  t.lines,
  notes_more given given' given'' t.asked (nothing none.0) t.gave none.1,
  t.took,
  (omega (arith, t.many, few), filter_map-append (λ x. x) t.asked (nothing none.0) ∙ ap (λ l. lines_in t.asked ++ l) (lines_in_nothing none.0) ∙ append-nil (lines_in t.asked) ∙ t.each),
)
