-- Calls release what they hold, before they are helped; all else is unchanged.
use Rattle.std.specs.Prelude.{◌≡◌, ℕ, nat_eq, Bool, true, false, ◌||◌, if◌then◌else◌, List, [], ◌∷◌, option_map, Option, Some, None, refl}
use Rattle.std.specs.Option.{option_map_or}
use Rattle.std.proofs.Common.{sym, ap, subst, ◌∙◌, eqb-true, eq-eqb}
use Rattle.sf_call.specs.declared.record.Record.{Record}
use Rattle.sf_call.specs.declared.call.Call.{Call}
use Rattle.sf_call.specs.declared.call.Stage.TheVariants as stage
use Rattle.sf_call.specs.Unanswered.{at_stage}
use Rattle.sf_inode.specs.Nodes.{with_holder}
use Rattle.sf_inode.specs.Stores.{StoreState, edited}
use Rattle.sf_coupling.specs.Walks.{HeldPath, Holds}
use Rattle.sf_walk.specs.Routes.{nodes_of}
use Rattle.sf_walk.specs.Steps.{is_one_of, free_unless, let_go}
use Rattle.sf_walk.proofs.Laws.{IsSameGround, same_itself, same_trans, same_let_go}
use Rattle.sf_core.specs.Cores.{call_at}
use Rattle.sf_core.specs.Progress.{waiting_reply}
use Rattle.sf_core.specs.Parts.{PartsView}
use Rattle.sf_core.specs.Sound.{held_paths_at, Sound}
use Rattle.sf_core.specs.Stepping.{freed, set_back_by, set_back, all_set_back}
use Rattle.sf_core.proofs.Maps.{some_eq, none_some, or_right, reply_is}
use Rattle.sf_core.proofs.Updates.{updates_staged}
use Rattle.sf_core.proofs.Starting.{set_back_sound}

-- a call starts again at the root, or is unchanged
abbrev pub back_if : Bool → Option Call → Option Call
back_if true o = option_map (at_stage stage.Fresh) o
back_if false o = o

back_twice : (a b : Bool) (o : Option Call) → back_if b (back_if a o) ≡ back_if (a || b) o
back_twice true true None = refl
back_twice _ _ _ = refl

back_one : (p : PartsView) (n m : ℕ) → call_at (set_back p n).calls m ≡ back_if (nat_eq m n) (call_at p.calls m)
back_one p n m = elim (call_at p.calls n) as (λ o. call_at p.calls n ≡ o → call_at (set_back_by p n o).calls m ≡ back_if (nat_eq m n) (call_at p.calls m)) [
  | None ↦ λ e. elim (nat_eq m n) as (λ b. nat_eq m n ≡ b → call_at p.calls m ≡ back_if b (call_at p.calls m)) [
    | true ↦ λ b. let none = ap (call_at p.calls) (eqb-true m n b) ∙ e in none ∙ sym (ap (option_map (at_stage stage.Fresh)) none)
    | false ↦ λ b. refl
  ] refl
  | Some c ↦ λ e. let u = updates_staged p.calls n c stage.Fresh e in
      elim (nat_eq m n) as (λ b. nat_eq m n ≡ b → call_at (set_back_by p n (Some c)).calls m ≡ back_if b (call_at p.calls m)) [
        | true ↦ λ b. let same = eqb-true m n b in ap (call_at (set_back_by p n (Some c)).calls) same ∙ u.now_is ∙ sym (ap (option_map (at_stage stage.Fresh)) (ap (call_at p.calls) same ∙ e))
        | false ↦ λ b. u.rest m (λ same. let x = sym (eq-eqb m n same) ∙ b in cc)
      ] refl
] refl

-- the calls with these numbers start again
pub calls_back : (ns : List ℕ) (p : PartsView) (m : ℕ) → call_at (all_set_back p ns).calls m ≡ back_if (is_one_of m ns) (call_at p.calls m)
calls_back [] p m = refl
calls_back (n ∷ ns) p m = calls_back ns (set_back p n) m ∙ ap (back_if (is_one_of m ns)) (back_one p n m) ∙ back_twice (nat_eq m n) (is_one_of m ns) (call_at p.calls m)

-- nothing else changed, except the holders
pub record AreBack (p q : PartsView) (history : List Record) : Type 0 where
  pub sound : Sound q history
  pub ground : IsSameGround p.store q.store
  pub look_ups : q.store.look_ups ≡ p.store.look_ups
  pub book : q.book ≡ p.book
  pub sessions : q.sessions ≡ p.sessions
  pub drawn : q.drawn ≡ p.drawn
  pub joins : q.joins ≡ p.joins

pub let_go_looks : (kept nodes : List ℕ) (s : StoreState) → (let_go kept nodes s).look_ups ≡ s.look_ups
let_go_looks kept [] s = refl
let_go_looks kept (node ∷ nodes) s = let_go_looks kept nodes (free_unless kept node s) ∙ by (is_one_of node kept)
  where
    by : (b : Bool) → (if b then s else edited (with_holder None) s node).look_ups ≡ s.look_ups
    by true = refl
    by false = refl

-- an undecided call was undecided before
was_undecided : (b : Bool) (o : Option Call) (c : Call) → back_if b o ≡ Some c → ((d : Call) → o ≡ Some d → waiting_reply d ≡ None) → waiting_reply c ≡ None
was_undecided true None c e h = absurd (none_some c e)
was_undecided true (Some d) c e h = ap waiting_reply (sym (some_eq (at_stage stage.Fresh d) c e)) ∙ reply_is (at_stage stage.Fresh d) ∙ sym (reply_is d) ∙ h d refl
was_undecided false o c e h = h c e

pub all_back : (ns : List ℕ) (p : PartsView) (history : List Record) → Sound p history → ((m : ℕ) (c : Call) → is_one_of m ns ≡ true → call_at p.calls m ≡ Some c → waiting_reply c ≡ None) → AreBack p (all_set_back p ns) history
all_back [] p history sound undecided = record { sound = sound; ground = same_itself p.store; look_ups = refl; book = refl; sessions = refl; drawn = refl; joins = refl }
all_back (n ∷ ns) p history sound undecided =
    then_back (call_at p.calls n) refl (λ one. all_back ns (set_back p n) history one
    (λ m c here at. was_undecided (nat_eq m n) (call_at p.calls m) c (sym (back_one p n m) ∙ at) (λ d there. undecided m d (or_right (nat_eq m n) (is_one_of m ns) here) there)))
  where
    then_back : (o : Option Call) → call_at p.calls n ≡ o → (Sound (set_back p n) history → AreBack (set_back p n) (all_set_back (set_back p n) ns) history) → AreBack p (all_set_back (set_back p n) ns) history
    then_back None e rest = subst (λ (x : PartsView). AreBack x (all_set_back (set_back p n) ns) history) (ap (set_back_by p n) e) (rest (subst (λ (x : PartsView). Sound x history) (sym (ap (set_back_by p n) e)) sound))
    then_back (Some c) e rest =
        let is = (sound.ledger.calls n c e).is_number in
        let back = ap (set_back_by p n) e in
        let one = subst (λ k. Sound (set_back p k) history) is (set_back_sound p history sound c (ap (call_at p.calls) is ∙ e) (undecided n c (ap (λ b. b || is_one_of n ns) (eq-eqb n n refl)) e)) in
        let r = rest one in
        let mid : StoreState = freed c.stage p.store in
        let q = all_set_back (set_back p n) ns in
        record {
          sound = r.sound;
          ground = same_trans p.store mid q.store (same_let_go [] (nodes_of c.stage) p.store) (subst (λ (x : PartsView). IsSameGround x.store q.store) back r.ground);
          look_ups = r.look_ups ∙ ap (λ (x : PartsView). x.store.look_ups) back ∙ let_go_looks [] (nodes_of c.stage) p.store;
          book = r.book ∙ ap (λ (x : PartsView). x.book) back;
          sessions = r.sessions ∙ ap (λ (x : PartsView). x.sessions) back;
          drawn = r.drawn ∙ ap (λ (x : PartsView). x.drawn) back;
          joins = r.joins ∙ ap (λ (x : PartsView). x.joins) back;
        }

-- what a call holds afterwards, it held before
pub stood : (b : Bool) (o : Option Call) (s : HeldPath) → Holds (option_map_or held_paths_at (back_if b o) []) s → Holds (option_map_or held_paths_at o []) s
stood true (Some c) s hold = absurd hold
stood _ _ s hold = hold

book_one : (p : PartsView) (n : ℕ) (o : Option Call) → (set_back_by p n o).book ≡ p.book
book_one p n None = refl
book_one p n (Some c) = refl

-- the book is unchanged
pub book_back : (ns : List ℕ) (p : PartsView) → (all_set_back p ns).book ≡ p.book
book_back [] p = refl
book_back (n ∷ ns) p = book_back ns (set_back p n) ∙ book_one p n (call_at p.calls n)
