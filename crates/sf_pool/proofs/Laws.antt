-- For the crates above.
use Rattle.std.proofs.Common.{◌≡◌, List, [], ◌++◌, Option, Some, None, sym, ap, ◌∙◌, append_assoc, append-nil}
use Rattle.sf_pool.specs.SessionLanes.{Notes}

-- a known list stays, or continues twice
pub notes_none : {T : Type 0} (a b : Option (List T)) → b ≡ a → Notes a b []
notes_none None b same = tt
notes_none (Some xs) None same = absurd (cc)
notes_none (Some xs) (Some ys) same = let e : ys ≡ xs = cc in e ∙ sym (append-nil xs)

pub notes_more : {T : Type 0} (a b c : Option (List T)) (xs ys : List T) → Notes a b xs → Notes b c ys → Notes a c (xs ++ ys)
notes_more None b c xs ys one other = tt
notes_more (Some a) None c xs ys one other = absurd one
notes_more (Some a) (Some b) None xs ys one other = absurd other
notes_more (Some a) (Some b) (Some c) xs ys one other = other ∙ ap (λ l. l ++ ys) one ∙ append_assoc a xs ys
