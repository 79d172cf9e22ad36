-- Writing the lines of a listing, one after the other.
use Rattle.std.proofs.Common.{◌≡◌, ℕ, ◌+◌, ◌<◌, ◌≤◌, List, [], ◌∷◌, ◌++◌, length, get_or, drop, refl, sym, ap, subst, ◌∙◌, append_assoc}
use Rattle.std.proofs.lemmas.List.{drop_more, drop_all, append-nil}
use Rattle.sf_reply.specs.declared.reply.Entry.{Entry}
use Rattle.sf_program.specs.Terminal.{IsTerminalText}
use Rattle.sf_program.specs.Commands.{AreLinesOf}

-- what is written, before the lines that are left, are all lines
abbrev pub WrittenBefore : List ℕ → List Entry → ℕ → Type 0
WrittenBefore out es i = (rest : List ℕ) → AreLinesOf (drop i es) rest → AreLinesOf es (out ++ rest)

pub lines_none : (out : List ℕ) (es : List Entry) → out ≡ [] → WrittenBefore out es 0
lines_none out es is rest h = subst (λ (t : List ℕ). AreLinesOf es (t ++ rest)) (sym is) h

one_line : (es left : List Entry) (e : Entry) (text rest : List ℕ) → es ≡ e ∷ left → IsTerminalText e.longname text → AreLinesOf left rest → AreLinesOf es (text ++ 10 ∷ rest)
unfolding AreLinesOf
one_line es left e text rest is shown h = subst (λ (t : List Entry). AreLinesOf t (text ++ 10 ∷ rest)) (sym is) (text, rest, shown, h, refl)

regroup : (out text rest : List ℕ) → ((out ++ text) ++ 10 ∷ []) ++ rest ≡ out ++ (text ++ 10 ∷ rest)
regroup out text rest = simp append_assoc

pub line_more : (out text next : List ℕ) (es : List Entry) (i : ℕ) (e : Entry) → e ≡ get_or es i e → i < length es → IsTerminalText e.longname text → next ≡ (out ++ text) ++ 10 ∷ [] → WrittenBefore out es i → WrittenBefore next es (i + 1)
line_more out text next es i e is lt shown made so_far rest h =
    let front : drop i es ≡ e ∷ drop (i + 1) es = drop_more es i e lt ∙ ap (λ (x : Entry). x ∷ drop (i + 1) es) (sym is) in
    subst (AreLinesOf es) (sym (ap (λ (t : List ℕ). t ++ rest) made ∙ regroup out text rest)) (so_far (text ++ 10 ∷ rest) (one_line (drop i es) (drop (i + 1) es) e text rest front shown h))

no_lines : (es : List Entry) → es ≡ [] → AreLinesOf es []
unfolding AreLinesOf
no_lines es is = subst (λ (t : List Entry). AreLinesOf t []) (sym is) refl

pub lines_all : (out : List ℕ) (es : List Entry) (i : ℕ) → length es ≤ i → WrittenBefore out es i → AreLinesOf es out
lines_all out es i le so_far = subst (AreLinesOf es) (append-nil out) (so_far [] (no_lines (drop i es) (drop_all i es le)))
