-- The located inodes, a reply with its copy, and allocation failures.
use Rattle.std.specs.Prelude.{◌≡◌, ◌&&◌, Bool, true, false, ℕ, IfOk, OnErr, Ok, Err}
use Rattle.std.specs.declared.result.Result.{Result}
use Rattle.std.specs.Result.{result_map_both}
use Rattle.std.proofs.Common.{refl, sym, subst, ◌∙◌}
use Rattle.sf_path.specs.Names.{Path}
use Rattle.sf_reply.specs.declared.reply.Reply.{Reply}
use Rattle.sf_call.specs.declared.request.Request.{Request}
use Rattle.sf_call.specs.Tree.{Tree}
use Rattle.sf_call.specs.Calls.{answer_to}
use Rattle.sf_inode.specs.Stores.{StoreState}
use Rattle.sf_walk.specs.declared.finding.Located.{Located}
use Rattle.sf_walk.specs.Ways.{way_from}
use Rattle.sf_walk.specs.Served.{LookedUp, IsCarriedOut, ServesOutcome, is_success}
use Rattle.sf_walk.proofs.Looked.{way_looked}

-- the located inode is the same as before
pub way_before : (old mid : StoreState) (most : ℕ) (p : Path) (l : Located) → LookedUp old mid most → l ≡ way_from mid.nodes mid.root mid.root p → l ≡ way_from old.nodes old.root old.root p
way_before old mid most p l looked h = h ∙ way_looked old mid p most (way_from old.nodes old.root old.root p) looked refl

-- a reply twice is a reply and its copy
pub twice_copies : {E : Type 0} (r : Result Reply E) (both : Result (Reply × Reply) E) → both ≡ result_map_both {U = Reply × Reply} (λ (x : Reply). (x, x)) (λ (e : E). e) r → IfOk {T = Reply × Reply} both (λ p. p.1 ≡ p.0)
twice_copies {E} r both e = subst (λ (b : Result (Reply × Reply) E). IfOk {T = Reply × Reply} b (λ p. p.1 ≡ p.0)) (sym e) (copies r)
  where
    copies : (r : Result Reply E) → IfOk {T = Reply × Reply} (result_map_both {U = Reply × Reply} (λ (x : Reply). (x, x)) (λ (e : E). e) r) (λ p. p.1 ≡ p.0)
    copies (Ok x) = λ i. x
    copies (Err e) = tt

-- an allocation failed, so the reply may be "Out of memory"
pub wanted_then : (takes told : Bool) → told ≡ true → (takes ≡ false → false ≡ true) → (takes && told) ≡ false → ⊥
wanted_then true told e may sure = cc
wanted_then false told e may sure = absurd (let w : false ≡ true = may refl in cc)

-- the result of a request, twice
module _ {E : Type 0} (new : StoreState) (t : Tree) (session number moment : ℕ) (r q : Request) (is : r ≡ q) (given : Result Reply E) (both : Result (Reply × Reply) E) (twice : both ≡ result_map_both {U = Reply × Reply} (λ (x : Reply). (x, x)) (λ (e : E). e) given) (served : ServesOutcome new t (answer_to t session number moment q) given) where
  abbrev IsServedTwice : Request → Result (Reply × Reply) E → Type 0
  IsServedTwice x b = IfOk {T = Reply × Reply} b (λ replies. IsCarriedOut new t (answer_to t session number moment x) replies.0)

  abbrev IsWantedTwice : Request → Result (Reply × Reply) E → Type 0
  IsWantedTwice x b = OnErr b (is_success (answer_to t session number moment x).reply ≡ true)

  served_both : (g : Result Reply E) → ServesOutcome new t (answer_to t session number moment q) g → IsServedTwice q (result_map_both {U = Reply × Reply} (λ (x : Reply). (x, x)) (λ (e : E). e) g)
  served_both (Ok x) s = s
  served_both (Err e) s = tt

  wanted_both : (g : Result Reply E) → ServesOutcome new t (answer_to t session number moment q) g → IsWantedTwice q (result_map_both {U = Reply × Reply} (λ (x : Reply). (x, x)) (λ (e : E). e) g)
  wanted_both (Ok x) s = tt
  wanted_both (Err e) s = s

  pub served_twice : IfOk {T = Reply × Reply} both (λ replies. IsCarriedOut new t (answer_to t session number moment r) replies.0)
  served_twice = subst (λ (x : Request). IsServedTwice x both) (sym is) (subst (IsServedTwice q) (sym twice) (served_both given served))

  pub wanted_twice : OnErr both (is_success (answer_to t session number moment r).reply ≡ true)
  wanted_twice = subst (λ (x : Request). IsWantedTwice x both) (sym is) (subst (IsWantedTwice q) (sym twice) (wanted_both given served))
