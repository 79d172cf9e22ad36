-- Items that are made in sequence.
use Rattle.std.proofs.Common.{◌≡◌, ◌∙◌, ◌+◌, ◌++◌, ℕ, List, [], ◌∷◌, length, Option, Some, None, Result, Ok, Err, inl, refl, sym, ap, subst, append_assoc, length-append, arith}
use Rattle.sf_field.specs.Fields.{be64}
use Rattle.sf_reply.specs.declared.reply.Reply.{Reply}
use Rattle.sf_trees.specs.declared.fault.TreeFault.{TreeFault}
use Rattle.sf_trees.specs.Operations.{Operation, Begins, Asks, Ends, Does}
use Rattle.sf_loading.specs.declared.folder.Item.{Item}
use Rattle.sf_loading.specs.declared.making.LoadFault.{LoadFault}
use Rattle.sf_loading.specs.declared.making.LoadFault.TheVariants as fault
use Rattle.sf_loading.specs.Items.{GivesItems}
use Rattle.sf_loading.specs.Loading.{request_of, settled_by, Makes, MakesOneItem, IsLastTurn, MakesItems, Loads}

pub gives_none : (old : Option (List Item)) → GivesItems old [] old
gives_none None = tt
gives_none (Some xs) = refl

pub gives_more : (old now new : Option (List Item)) (xs : List Item) (x : Item) → GivesItems old xs now → GivesItems now (x ∷ []) new → GivesItems old (xs ++ x ∷ []) new
gives_more None now new xs x p q = tt
gives_more (Some ys) None new xs x p q = absurd p
gives_more (Some ys) (Some zs) None xs x p q = absurd q
gives_more (Some ys) (Some zs) (Some ws) xs x p q = p ∙ ap (λ (l : List Item). xs ++ l) q ∙ sym (append_assoc xs (x ∷ []) ws)

pub makes_none : (session handle : ℕ) → Makes session handle [] [] handle
unfolding Makes
makes_none session handle = (refl, refl)

pub makes_more : (session handle : ℕ) (xs : List Item) (operations : List Operation) (last : ℕ) (x : Item) (outcome : Result Reply TreeFault) (after : ℕ)
    → Makes session handle xs operations last → settled_by last x outcome ≡ Ok after
    → Makes session handle (xs ++ x ∷ []) (operations ++ Asks session (request_of (be64 last) x) outcome ∷ []) after
unfolding Makes
makes_more session handle [] operations last x outcome after made is =
    let parts : operations ++ Asks session (request_of (be64 last) x) outcome ∷ [] ≡ Asks session (request_of (be64 handle) x) outcome ∷ [] = rw (made.0, made.1) refl in
    let settled : settled_by handle x outcome ≡ Ok after = subst (λ (h : ℕ). settled_by h x outcome ≡ Ok after) made.1 is in
    (outcome, after, [], parts, settled, (refl, refl))
makes_more session handle (y ∷ xs) operations last x outcome after made is =
    let asked = Asks session (request_of (be64 last) x) outcome ∷ [] in
    (made.0, made.1, made.2 ++ asked, ap (λ (l : List Operation). l ++ asked) made.3, made.4, makes_more session made.1 xs made.2 last x outcome after made.5 is)

-- The items made so far, this many, led the server from one state to another.
pub record SoFar {V : Type 0} (reaches : V → List Operation → V → Type 0) (session : ℕ) (a b : V) (old now : Option (List Item)) (last count : ℕ) : Type 0 where
  pub items : List Item
  pub counted : length items ≡ count
  pub made : List Operation
  pub gives : GivesItems old items now
  pub makes : Makes session 0 items made last
  pub leads : reaches a made b

abbrev pub On : {V : Type 0} → (V → List Operation → V → Type 0) → Type 0
On {V} reaches = (a b c : V) (first second : List Operation) → reaches a first b → reaches b second c → reaches a (first ++ second) c

pub none_so_far : {V : Type 0} (reaches : V → List Operation → V → Type 0) (session : ℕ) (a : V) (old : Option (List Item)) → reaches a [] a → SoFar reaches session a a old old 0 0
none_so_far reaches session a old none = record { items = []; counted = refl; made = []; gives = gives_none old; makes = makes_none session 0; leads = none }

pub one_more : {V : Type 0} {reaches : V → List Operation → V → Type 0} {session : ℕ} {a b : V} {old now : Option (List Item)} {last count : ℕ} (c : V) (new : Option (List Item)) (after : ℕ) → On reaches
    → SoFar reaches session a b old now last count → Does reaches b c (MakesOneItem session last now new) (Ok (Some after)) → SoFar reaches session a c old new after (count + 1)
one_more {reaches = reaches} {session = session} {a = a} {b = b} {old = old} {now = now} {last = last} {count = count} c new after on far does =
    let t = does.2 in
    record {
      items = far.items ++ t.0 ∷ [];
      counted = omega (arith, length-append far.items (t.0 ∷ []), far.counted);
      made = far.made ++ Asks session (request_of (be64 last) t.0) t.1 ∷ [];
      gives = gives_more old now new far.items t.0 far.gives t.2;
      makes = makes_more session 0 far.items far.made last t.0 t.1 after far.makes t.4;
      leads = on a b c far.made _ far.leads (subst (λ (l : List Operation). reaches b l c) t.3 does.1);
    }

-- a turn that fails is the last one
pub last_turn : (session last : ℕ) (items : List Item) (now new : Option (List Item)) (operations : List Operation) (why : LoadFault) → MakesOneItem session last now new operations (Err why)
    → IsLastTurn session last items now new operations (Err why)
last_turn _ _ _ _ _ _ (fault.Folder why) made = made
last_turn _ _ _ _ _ _ (fault.Server why) made = made
last_turn _ _ _ _ _ _ fault.TooMany made = absurd made

-- the last turn
pub all_made : {V : Type 0} {reaches : V → List Operation → V → Type 0} {session : ℕ} {a b : V} {old now : Option (List Item)} {last count : ℕ} (c : V) (new : Option (List Item)) (r : Result (Unit {0}) LoadFault) → On reaches
    → (far : SoFar reaches session a b old now last count) → Does reaches b c (λ operations r. IsLastTurn session last far.items now new operations r) r → Does reaches a c (MakesItems session old new) r
all_made {a = a} {b = b} {now = now} {last = last} c new r on far does = (
  far.made ++ does.0,
  on a b c far.made does.0 far.leads does.1,
  record { items = far.items; now = now; last = last; made = far.made; end = does.0; gives = far.gives; makes = far.makes; parts = refl; ends = does.2 },
)

-- a session opened, made the items, and closed
pub session_made : {V : Type 0} {reaches : V → List Operation → V → Type 0} {a b c d : V} {old new : Option (List Item)} (session : ℕ) (r : Result (Unit {0}) LoadFault) → On reaches
    → reaches a (Begins (Ok session) ∷ []) b → Does reaches b c (MakesItems session old new) r → reaches c (Ends session ∷ []) d → Does reaches a d (Loads old new) r
session_made {a = a} {b = b} {c = c} {d = d} session r on begun does ended = (
  Begins (Ok session) ∷ does.0 ++ Ends session ∷ [],
  on a b d (Begins (Ok session) ∷ []) (does.0 ++ Ends session ∷ []) begun (on b c d does.0 (Ends session ∷ []) does.1 ended),
  inl (record { session = session; inner = does.0; parts = refl; made = does.2 }),
)
