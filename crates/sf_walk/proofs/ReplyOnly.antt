-- Replies without a change.
use Rattle.std.specs.Prelude.{◌≡◌, true, false, [], ◌∷◌, Ok, Err, IsErr, OnErr, refl}
use Rattle.std.specs.declared.result.Result.{Result}
use Rattle.std.proofs.Common.{sym, subst}
use Rattle.sf_path.specs.Names.{Path}
use Rattle.sf_reply.specs.declared.reply.Reply.{Reply}
use Rattle.sf_call.specs.Tree.{Tree}
use Rattle.sf_call.specs.Calls.{Outcome, tells, unless_root}
use Rattle.sf_inode.specs.Stores.{StoreState}
use Rattle.sf_keeps.specs.Keeps.{Keeps}
use Rattle.sf_walk.specs.Served.{IsCarriedOut, ServesOutcome, is_success}

pub tells_served : (new : StoreState) (t : Tree) (answer : Outcome) (r : Reply) → answer ≡ tells r → Keeps new t → IsCarriedOut new t answer r
tells_served new t answer r e h = subst (λ (a : Outcome). IsCarriedOut new t a r) (sym e) (record { told = refl; tree = h })

pub past_root : (new : StoreState) (t : Tree) (p : Path) (answer : Outcome) (r : Reply) → (p ≡ [] → ⊥) → IsCarriedOut new t answer r → IsCarriedOut new t (unless_root p answer) r
past_root new t [] answer r ne h = absurd (ne refl)
past_root new t (n ∷ p) answer r ne h = h

pub past_root_gives : {E : Type 0} (new : StoreState) (t : Tree) (p : Path) (answer : Outcome) (r : Result Reply E) → (p ≡ [] → ⊥) → ServesOutcome new t answer r → ServesOutcome new t (unless_root p answer) r
past_root_gives new t [] answer r ne h = absurd (ne refl)
past_root_gives new t (n ∷ p) answer r ne h = h

pub past_root_wants : (p : Path) (answer : Outcome) → (p ≡ [] → ⊥) → is_success answer.reply ≡ true → is_success (unless_root p answer).reply ≡ true
past_root_wants [] answer ne h = absurd (ne refl)
past_root_wants (n ∷ p) answer ne h = h

pub on_err_map : {A E : Type 0} (r : Result A E) (P Q : Type 0) → (P → Q) → OnErr r P → OnErr r Q
on_err_map (Ok x) P Q f h = h
on_err_map (Err e) P Q f h = f h

pub on_err_any : {A E : Type 0} (r : Result A E) (P : Type 0) → P → OnErr r P
on_err_any (Ok x) P h = tt
on_err_any (Err e) P h = h

-- "Out of memory" in place of success
pub gives_none : {E : Type 0} (new : StoreState) (t : Tree) (answer : Outcome) (r : Result Reply E) → IsErr r → is_success answer.reply ≡ true → ServesOutcome new t answer r
gives_none new t answer (Ok x) is h = absurd (let w : false ≡ true = is in cc)
gives_none new t answer (Err e) is h = h
