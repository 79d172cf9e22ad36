-- Names that a directory listed, chunk by chunk.
use Rattle.std.proofs.Common.{◌≡◌, ℕ, List, [], ◌∷◌, ◌++◌, Option, Some, None, sym, ap, ◌∙◌, append_assoc, append-nil, map}
use Rattle.std.proofs.lemmas.List.{map-append}
use Rattle.std.specs.Global.{Vec}
use Rattle.sf_folder.specs.Names.{AddsNames, GivesNames, ListsNoMore, HasAll, texts}

pub given_more : (a b c : Option (List (List ℕ))) (xs ys zs : List (List ℕ)) → zs ≡ xs ++ ys → GivesNames a xs b → GivesNames b ys c → GivesNames a zs c
given_more None b c xs ys zs is h k = tt
given_more (Some a) None c xs ys zs is h k = absurd h
given_more (Some a) (Some b) None xs ys zs is h k = absurd k
given_more (Some a) (Some b) (Some c) xs ys zs is h k =
    h ∙ ap (λ (t : List (List ℕ)). xs ++ t) k ∙ sym (append_assoc xs ys c) ∙ ap (λ (t : List (List ℕ)). t ++ c) (sym is)

pub given_all : (a b : Option (List (List ℕ))) (before after : List (Vec ℕ)) → texts after ≡ texts before → GivesNames a (texts before) b → ListsNoMore b → HasAll a after
given_all None b before after is h k = tt
given_all (Some a) None before after is h k = absurd h
given_all (Some a) (Some b) before after is h k =
    is ∙ sym (h ∙ ap (λ (t : List (List ℕ)). texts before ++ t) k ∙ append-nil (texts before))

-- names that were added at the end
pub added_none : (names : List (Vec ℕ)) → AddsNames names names
added_none names = ([], sym (append-nil (texts names)))

pub added_one : (before names : List (Vec ℕ)) (name : Vec ℕ) → AddsNames before names → AddsNames before (names ++ name ∷ [])
added_one before names name h = (h.0 ++ name.items ∷ [], map-append _ names (name ∷ []) ∙ ap (λ (t : List (List ℕ)). t ++ name.items ∷ []) h.1 ∙ append_assoc (texts before) h.0 (name.items ∷ []))

pub added_more : (a b c : List (Vec ℕ)) → AddsNames a b → AddsNames b c → AddsNames a c
added_more a b c h k = (h.0 ++ k.0, k.1 ∙ ap (λ (t : List (List ℕ)). t ++ k.0) h.1 ∙ append_assoc (texts a) h.0 k.0)
