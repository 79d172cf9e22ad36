-- Operations in sequence.
use Rattle.std.proofs.Common.{◌≡◌, inl, inr, ◌<◌, ◌+◌, ◌-◌, ℕ, zero, suc, List, [], ◌∷◌, ◌++◌, Result, Ok, Err, refl, sym, subst, add-one, append-nil, arith}
use Rattle.sf_trees.specs.declared.fault.TreeFault.{TreeFault}
use Rattle.sf_trees.specs.declared.fault.Refused.{Refused}
use Rattle.sf_trees.specs.Operations.{Operation, Begins, Ends, Does, IsNothing, Then, BySession, refused_at, request_place}

-- Operations lead a server from one state to another: none leaves it unchanged, and sequences
-- compose.
pub record OperationLaws (V : Type 0) : Type 1 where
  pub reaches : V → List Operation → V → Type 0
  pub none : (a : V) → reaches a [] a
  pub on : (a b c : V) (first second : List Operation) → reaches a first b → reaches b second c → reaches a (first ++ second) c

abbrev pub operation_laws : {V : Type 0} {reaches : V → List Operation → V → Type 0} → ((a : V) → reaches a [] a)
    → ((a b c : V) (first second : List Operation) → reaches a first b → reaches b second c → reaches a (first ++ second) c) → OperationLaws V
operation_laws {reaches = reaches} none on = record { reaches = reaches; none = none; on = on }

-- the first part failed
pub refused_first : {V A R E : Type 0} {a b : V} {P : List Operation → Result A E → Type 0} (s : OperationLaws V) (Q : A → List Operation → Result R E → Type 0) (why : E)
    → Does s.reaches a b P (Err why) → Does s.reaches a b (Then P Q) (Err why)
refused_first s Q why does = (
  does.0,
  does.1,
  record {
    first = does.0;
    second = [];
    outcome = Err why;
    parts = sym (append-nil does.0);
    begins = does.2;
    goes_on = (refl, refl);
  },
)

-- both were done
pub both_done : {V A R E : Type 0} {a b c : V} {P : List Operation → Result A E → Type 0} (s : OperationLaws V) (Q : A → List Operation → Result R E → Type 0) (x : A) (r : Result R E)
    → Does s.reaches a b P (Ok x) → Does s.reaches b c (Q x) r → Does s.reaches a c (Then P Q) r
both_done {a = a} {b = b} {c = c} s Q x r does more = (
  does.0 ++ more.0,
  s.on a b c does.0 more.0 does.1 more.1,
  record {
    first = does.0;
    second = more.0;
    outcome = Ok x;
    parts = refl;
    begins = does.2;
    goes_on = more.2;
  },
)

-- nothing has to be done
pub done_already : {V E : Type 0} (s : OperationLaws V) (a : V) → Does s.reaches a a (IsNothing {E = E}) (Ok tt)
done_already s a = ([], s.none a, (refl, refl))

-- no session opens
pub no_session : {V R : Type 0} {a b : V} (s : OperationLaws V) (P : ℕ → List Operation → Result R Refused → Type 0) (why : TreeFault) → s.reaches a (Begins (Err why) ∷ []) b
    → Does s.reaches a b (BySession P) (Err (refused_at (request_place 1 0) why))
no_session s P why begun = (Begins (Err why) ∷ [], begun, inr (why, refl, refl))

-- a session opened, these operations were done by it, and it closed
pub by_session : {V R : Type 0} {a b c d : V} (s : OperationLaws V) (session : ℕ) (P : ℕ → List Operation → Result R Refused → Type 0) (r : Result R Refused)
    → s.reaches a (Begins (Ok session) ∷ []) b → Does s.reaches b c (P session) r → s.reaches c (Ends session ∷ []) d
    → Does s.reaches a d (BySession P) r
by_session {a = a} {b = b} {c = c} {d = d} s session P r begun does ended = (
  Begins (Ok session) ∷ does.0 ++ Ends session ∷ [],
  s.on a b d (Begins (Ok session) ∷ []) (does.0 ++ Ends session ∷ []) begun (s.on b c d does.0 (Ends session ∷ []) does.1 ended),
  inl (record { session = session; inner = does.0; parts = refl; done = does.2 }),
)

-- ---- sequences

-- Parts that are done in order until one fails: each of them, and the first n.
pub record Sequence : Type 1 where
  pub One : ℕ → List Operation → Result (Unit {0}) Refused → Type 0
  pub Before : ℕ → List Operation → Result (Unit {0}) Refused → Type 0
  pub none : (operations : List Operation) (r : Result (Unit {0}) Refused) → IsNothing operations r → Before zero operations r
  pub more : (n : ℕ) (operations : List Operation) (r : Result (Unit {0}) Refused) → Then (Before n) (λ done. One n) operations r → Before (suc n) operations r

pub none_yet : {V : Type 0} (s : OperationLaws V) (q : Sequence) (a : V) → Does s.reaches a a (q.Before 0) (Ok tt)
none_yet s q a = ([], s.none a, q.none [] (Ok tt) (refl, refl))

-- one more was done, or failed
one_more : {V : Type 0} {a b c : V} (s : OperationLaws V) (q : Sequence) (n : ℕ) (r : Result (Unit {0}) Refused) → Does s.reaches a b (q.Before n) (Ok tt) → Does s.reaches b c (q.One n) r → Does s.reaches a c (q.Before (suc n)) r
one_more s q n r before one = let both = both_done s (λ done. q.One n) tt r before one in (both.0, both.1, q.more n both.0 r both.2)

pub done_further : {V : Type 0} {a b c : V} (s : OperationLaws V) (q : Sequence) (n : ℕ) → Does s.reaches a b (q.Before n) (Ok tt) → Does s.reaches b c (q.One n) (Ok tt) → Does s.reaches a c (q.Before (n + 1)) (Ok tt)
done_further s q n before one = rw (add-one n) (one_more s q n (Ok tt) before one)

-- failed before one number, and so before all larger ones
refused_before : {V : Type 0} {a b : V} (s : OperationLaws V) (q : Sequence) (n further m : ℕ) (why : Refused) → m ≡ n + further → Does s.reaches a b (q.Before n) (Err why) → Does s.reaches a b (q.Before m) (Err why)
refused_before {a = a} {b = b} s q n zero m why e does =
    let same : n ≡ m = omega (arith, e) in
    subst (λ (k : ℕ). Does s.reaches a b (q.Before k) (Err why)) same does
refused_before {a = a} {b = b} s q n (suc further) m why e does =
    let next : suc (n + further) ≡ m = omega (arith, e) in
    let all = refused_first s (λ (done : Unit {0}). q.One (n + further)) why (refused_before s q n further (n + further) why refl does) in
    subst (λ (k : ℕ). Does s.reaches a b (q.Before k) (Err why)) next (all.0, all.1, q.more (n + further) all.0 (Err why) all.2)

pub refused_at_one : {V : Type 0} {a b c : V} (s : OperationLaws V) (q : Sequence) (n all : ℕ) (why : Refused) → n < all → Does s.reaches a b (q.Before n) (Ok tt) → Does s.reaches b c (q.One n) (Err why) → Does s.reaches a c (q.Before all) (Err why)
refused_at_one s q n all why below before one =
    let whole : all ≡ suc n + (all - suc n) = omega (arith, below) in
    refused_before s q (suc n) (all - suc n) all why whole (one_more s q n (Err why) before one)
