-- One entry of a map changes or is removed: what holds of the map then.
use Rattle.std.specs.Prelude.{◌≡◌, ◌≢◌, ◌+◌, ℕ, Bool, T, List, length, filter, Option, Some, None, refl}
use Rattle.std.proofs.Common.{sym, ap, subst, arith}
use Rattle.std.specs.Ordering.{nat_cmp}
use Rattle.std.specs.Map.{lookup, set_value, remove_entry}
use Rattle.std.specs.BTreeMap.{is_at}
use Rattle.std.specs.FinMap.{is_sorted}
use Rattle.sf_reply.specs.declared.reply.Reply.{Reply}
use Rattle.sf_call.specs.declared.call.Call.{Call}
use Rattle.sf_call.specs.declared.call.Stage.{Stage}
use Rattle.sf_call.specs.Unanswered.{at_stage, staged, staged_by, with_reply, answered, answered_by}
use Rattle.std.proofs.lemmas.Map.{length-set_value}
use Rattle.sf_call.proofs.Laws.{sorted_removed, sorted_set}
use Rattle.sf_core.specs.Cores.{call_at}
use Rattle.sf_core.proofs.Maps.{one_if, set_same, set_other, removed_same, removed_other, count_removed, passing_set, passing_removed}

abbrev pub one_by : {X : Type 0} → (X → Bool) → Option X → ℕ
one_by passes None = 0
one_by passes (Some v) = one_if (passes v)

abbrev pub one_there : {X : Type 0} → Option X → ℕ
one_there None = 0
one_there (Some v) = 1

abbrev pub passing : {X : Type 0} → (X → Bool) → List (ℕ × X) → ℕ
passing {X} passes es = length (filter (λ (e : ℕ × X). passes e.1) es)

-- the entry of k was this and is that now, and all others are unchanged
pub record Updates {X : Type 0} (old new : List (ℕ × X)) (k : ℕ) (was now : Option X) : Type 0 where
  pub was_is : lookup (is_at (nat_cmp k)) old ≡ was
  pub now_is : lookup (is_at (nat_cmp k)) new ≡ now
  pub rest : (q : ℕ) → q ≢ k → lookup (is_at (nat_cmp q)) new ≡ lookup (is_at (nat_cmp q)) old
  pub size : length new + one_there was ≡ length old + one_there now
  pub passes : (test : X → Bool) → passing test new + one_by test was ≡ passing test old + one_by test now
  pub rises : T (is_sorted nat_cmp old) → T (is_sorted nat_cmp new)

module _ {X : Type 0} (es : List (ℕ × X)) (k : ℕ) (w : X) (at : lookup (is_at (nat_cmp k)) es ≡ Some w) where
  pub updates_set : (v : X) → Updates es (set_value (is_at (nat_cmp k)) es v) k (Some w) (Some v)
  updates_set v = record {
    was_is = at;
    now_is = set_same es k v w at;
    rest = λ q ne. set_other es k v w q ne at;
    size = let e = length-set_value (is_at (nat_cmp k)) es v in omega (arith, e);
    passes = λ test. passing_set test (is_at (nat_cmp k)) es v w at;
    rises = λ h. sorted_set nat_cmp (is_at (nat_cmp k)) v es h;
  }

  pub updates_removed : T (is_sorted nat_cmp es) → Updates es (remove_entry (is_at (nat_cmp k)) es) k (Some w) None
  updates_removed rise = record {
    was_is = at;
    now_is = removed_same es k rise;
    rest = λ q ne. removed_other es k q ne rise;
    size = let e = count_removed (is_at (nat_cmp k)) es w at in omega (arith, e);
    passes = λ test. let e = passing_removed test (is_at (nat_cmp k)) es w at in omega (arith, e);
    rises = λ h. sorted_removed nat_cmp (is_at (nat_cmp k)) es h;
  }

  -- nothing changed
  pub updates_none : Updates es es k (Some w) (Some w)
  updates_none = record { was_is = at; now_is = at; rest = λ q ne. refl; size = refl; passes = λ test. refl; rises = λ h. h }

-- and k had no entry
pub updates_nothing : {X : Type 0} (es : List (ℕ × X)) (k : ℕ) → lookup (is_at (nat_cmp k)) es ≡ None → Updates es es k None None
updates_nothing es k none = record { was_is = none; now_is = none; rest = λ q ne. refl; size = refl; passes = λ test. refl; rises = λ h. h }

-- a call reached a stage
pub staged_is : (calls : List (ℕ × Call)) (n : ℕ) (after : Stage) (c : Call) → call_at calls n ≡ Some c → staged calls n after ≡ set_value (is_at (nat_cmp n)) calls (at_stage after c)
staged_is calls n after c at = ap (staged_by calls n after) at

pub updates_staged : (calls : List (ℕ × Call)) (n : ℕ) (c : Call) (after : Stage) → call_at calls n ≡ Some c → Updates calls (staged calls n after) n (Some c) (Some (at_stage after c))
updates_staged calls n c after at = subst (λ cs. Updates calls cs n (Some c) (Some (at_stage after c))) (sym (staged_is calls n after c at)) (updates_set calls n c at (at_stage after c))

-- a call's reply is pending
pub updates_answered : (calls : List (ℕ × Call)) (n : ℕ) (c : Call) (given : Reply) → call_at calls n ≡ Some c → Updates calls (answered calls n given) n (Some c) (Some (with_reply given c))
updates_answered calls n c given at = subst (λ cs. Updates calls cs n (Some c) (Some (with_reply given c))) (sym (ap (answered_by calls n given) at)) (updates_set calls n c at (with_reply given c))
