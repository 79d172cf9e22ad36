-- After a legal history no session exceeds its limit of handles, and each handle refers to an
-- object.
use Rattle.std.proofs.Common.{◌≡◌, ◌<◌, ◌≤◌, ℕ, ◌+◌, Bool, true, false, cond, not, nat_eq, ◌||◌, List, [], ◌∷◌, ◌++◌, filter, Option, Some, None, option_and_then, IsSome, is_some, IfSome, refl, sym, ap, ◌∙◌, subst, eq-eqb, arith}
use Rattle.std.proofs.lemmas.Bool.{leb-false, eqb-true}
use Rattle.std.proofs.lemmas.List.Sums.{sum_by-cons}
use Rattle.std.specs.List.{AllByRecursion, list_any, count_by}
use Rattle.std.specs.declared.cmp.Ordering.TheVariants.{Less, Equal, Greater}
use Rattle.std.specs.Ordering.{nat_cmp, is_eq, match_ordering}
use Rattle.std.specs.Cmp.{nat_cmp_total, tied_itself}
use Rattle.std.specs.Map.{lookup, remove_entry, set_value}
use Rattle.std.specs.BTreeMap.{insert_entry, is_at}
use Rattle.sf_path.specs.Names.{Path}
use Rattle.sf_path.specs.Order.{parent, path_cmp}
use Rattle.sf_call.specs.declared.limits.TheConstants.{MAX_HANDLES}
use Rattle.sf_call.specs.declared.metadata.Metadata.{Metadata}
use Rattle.sf_call.specs.declared.handle.Handle.{Handle}
use Rattle.sf_call.specs.declared.request.Request.{Request}
use Rattle.sf_call.specs.declared.record.Record.{Record}
use Rattle.sf_call.specs.Attributes.{Object}
use Rattle.sf_call.specs.Tree.{Tree, object_of, handle_of, kept, directory_at}
use Rattle.sf_call.specs.Handles.{if_of}
use Rattle.sf_call.specs.Moves.{moved}
use Rattle.sf_call.specs.Changes.{changed, done, touch, touched}
use Rattle.sf_call.specs.Changes.Change.{SetObject, NewPath, NewName, GonePath, Move, OpenHandle, SetHandle, CloseHandle}
use Rattle.sf_call.specs.Calls.{Outcome, answer_to, leave, has_all_handles, directory_handle, new_file_handle, moves}
use Rattle.sf_call.specs.Histories.{replay, IsLegal}
use Rattle.sf_laws.proofs.Shapes.{Shape, shape_of}
use Rattle.sf_laws.proofs.Shapes.Shape.{SetsAt, SetsOpen, Writes, MakesDirectory, RemovesDirectory, RemovesFile, OpensDirectory, OpensFile, CutsFile, MakesFile, Closes, Lists, Renames, Replaces, Links}
use Rattle.sf_call.proofs.Laws.{lookup-put, object_kept, all_by, all_filtered, all_removed, all_put, all_set, found_value, holds_after}

-- the handles of a session
abbrev pub is_of_session : ℕ → ℕ × Handle → Bool
is_of_session session e = nat_eq e.1.session session

abbrev pub count_of_session : ℕ → List (ℕ × Handle) → ℕ
count_of_session session handles = count_by (is_of_session session) handles

abbrev pub IsFounded : List (ℕ × Object) → ℕ × Handle → Type 0
IsFounded objects e = IsSome (object_of objects e.1.label)

pub record HandlesHold (tree : Tree) : Type 0 where
  pub few : (session : ℕ) → count_of_session session tree.handles ≤ MAX_HANDLES
  pub founded : AllByRecursion (IsFounded tree.objects) tree.handles

-- ---- counts

-- one more handle
more_of : ℕ → Handle → ℕ
more_of session h = cond (nat_eq h.session session) 1 0

count_cons : (session : ℕ) (e : ℕ × Handle) (es : List (ℕ × Handle)) → count_of_session session (e ∷ es) ≡ more_of session e.1 + count_of_session session es
unfolding more_of
count_cons session e es = sum_by-cons (λ x. cond (is_of_session session x) 1 0) e es

count_inserted : (session number : ℕ) (h : Handle) (es : List (ℕ × Handle))
    → count_of_session session (insert_entry nat_cmp es number h) ≤ more_of session h + count_of_session session es
count_inserted session number h [] = omega (arith, count_cons session (number, h) [])
count_inserted session number h (e ∷ es) =
    elim (nat_cmp number e.0) as (λ r. count_of_session session (match_ordering r ((number, h) ∷ e ∷ es) ((e.0, h) ∷ es) (e ∷ insert_entry nat_cmp es number h))
    ≤ more_of session h + count_of_session session (e ∷ es)) [
      | Less ↦ omega (arith, count_cons session (number, h) (e ∷ es))
      | Equal ↦ omega (arith, count_cons session (e.0, h) es, count_cons session e es)
      | Greater ↦ omega (arith, count_cons session e (insert_entry nat_cmp es number h), count_cons session e es, count_inserted session number h es)
    ]

-- a handle that is set keeps its session
count_set : (session number : ℕ) (before after : Handle) (es : List (ℕ × Handle)) → handle_of es number ≡ Some before → before.session ≡ after.session
    → count_of_session session (set_value (is_at (nat_cmp number)) es after) ≡ count_of_session session es
unfolding more_of
count_set session number before after [] there same = refl
count_set session number before after (e ∷ es) there same =
    elim (is_at (nat_cmp number) e.0) as (λ b. cond b (Some e.1) (handle_of es number) ≡ Some before
    → count_of_session session (cond b ((e.0, after) ∷ es) (e ∷ set_value (is_at (nat_cmp number)) es after)) ≡ count_of_session session (e ∷ es)) [
      | true ↦ λ here. let is : e.1 ≡ before = cc in
          count_cons session (e.0, after) es
          ∙ ap (λ (s : ℕ). cond (nat_eq s session) 1 0 + count_of_session session es) (sym same ∙ sym (ap (λ (x : Handle). x.session) is))
          ∙ sym (count_cons session e es)
      | false ↦ λ later.
          count_cons session e (set_value (is_at (nat_cmp number)) es after)
          ∙ ap (λ n. more_of session e.1 + n) (count_set session number before after es later same)
          ∙ sym (count_cons session e es)
    ] there

count_removed : (session : ℕ) (test : ℕ → Bool) (es : List (ℕ × Handle)) → count_of_session session (remove_entry test es) ≤ count_of_session session es
count_removed session test [] = omega arith
count_removed session test (e ∷ es) =
    elim (test e.0) as (λ b. count_of_session session (cond b es (e ∷ remove_entry test es)) ≤ count_of_session session (e ∷ es)) [
      | true ↦ omega (arith, count_cons session e es)
      | false ↦ omega (arith, count_cons session e es, count_cons session e (remove_entry test es), count_removed session test es)
    ]

count_filtered : (session : ℕ) (test : ℕ × Handle → Bool) (es : List (ℕ × Handle)) → count_of_session session (filter test es) ≤ count_of_session session es
count_filtered session test [] = omega arith
count_filtered session test (e ∷ es) =
    elim (test e) as (λ b. count_of_session session (cond b (e ∷ filter test es) (filter test es)) ≤ count_of_session session (e ∷ es)) [
      | true ↦ omega (arith, count_cons session e es, count_cons session e (filter test es), count_filtered session test es)
      | false ↦ omega (arith, count_cons session e es, count_filtered session test es)
    ]

-- ---- objects

still_set : {X : Type 0} (at test : ℕ → Bool) (es : List (ℕ × X)) (w : X) → IsSome (lookup at es) → IsSome (lookup at (set_value test es w))
still_set at test [] w some = some
still_set at test (e ∷ es) w some =
    elim (test e.0) as (λ b. IsSome (lookup at (cond b ((e.0, w) ∷ es) (e ∷ set_value test es w)))) [
      | true ↦ elim (at e.0) as (λ b. IsSome (cond b (Some e.1) (lookup at es)) → IsSome (cond b (Some w) (lookup at es))) [
        | true ↦ λ k. refl
        | false ↦ λ k. k
      ] some
      | false ↦ elim (at e.0) as (λ b. IsSome (cond b (Some e.1) (lookup at es)) → IsSome (cond b (Some e.1) (lookup at (set_value test es w)))) [
        | true ↦ λ k. refl
        | false ↦ λ k. still_set at test es w k
      ] some
    ]

still_put : (es : List (ℕ × Object)) (label : ℕ) (o : Object) (l : ℕ) → IsSome (object_of es l) → IsSome (object_of (insert_entry nat_cmp es label o) l)
still_put es label o l some =
    ap (λ x. is_some x) (lookup-put nat_cmp nat_cmp_total es label o l)
    ∙ elim (is_at (nat_cmp l) label) as (λ b. is_some (cond b (Some o) (object_of es l)) ≡ true) [ true ↦ refl | false ↦ some ]

there_put : (es : List (ℕ × Object)) (label : ℕ) (o : Object) → IsSome (object_of (insert_entry nat_cmp es label o) label)
there_put es label o =
    ap (λ x. is_some x) (lookup-put nat_cmp nat_cmp_total es label o label ∙ ap (λ r. cond (is_eq r) (Some o) (object_of es label)) (tied_itself nat_cmp_total label))

-- an object with an open handle is used
or_true : (a b : Bool) → b ≡ true → a || b ≡ true
or_true true b t = refl
or_true false b t = t

all_opened : (all hs : List (ℕ × Handle)) → ((label : ℕ) → list_any (λ h. nat_eq h.1.label label) hs ≡ true → list_any (λ h. nat_eq h.1.label label) all ≡ true)
    → AllByRecursion (λ e. list_any (λ h. nat_eq h.1.label e.1.label) all ≡ true) hs
all_opened all [] more = tt
all_opened all (h ∷ hs) more =
    (more h.1.label (rw (eq-eqb h.1.label h.1.label refl)), all_opened all hs (λ label t. more label (or_true (nat_eq h.1.label label) _ t)))

both : {X : Type 0} (P Q R : X → Type 0) (xs : List X) → ((x : X) → P x → Q x → R x) → AllByRecursion P xs → AllByRecursion Q xs → AllByRecursion R xs
both P Q R [] more p q = tt
both P Q R (x ∷ xs) more p q = (more x p.0 q.0, both P Q R xs more p.1 q.1)

-- deleting unused objects keeps those with an open handle
founded_kept : (tree : Tree) → AllByRecursion (IsFounded tree.objects) tree.handles → AllByRecursion (IsFounded (kept tree).objects) tree.handles
founded_kept tree all =
    both (λ e. list_any (λ h. nat_eq h.1.label e.1.label) tree.handles ≡ true) (IsFounded tree.objects) (IsFounded (kept tree).objects) tree.handles
    (λ e opens some. ap (λ x. is_some x) (object_kept tree e.1.label
    ∙ ap (λ b. cond b (object_of tree.objects e.1.label) None) (or_true (list_any (λ n. nat_eq n.1 e.1.label) tree.names) _ opens)) ∙ some)
    (all_opened tree.handles tree.handles (λ label t. t)) all

kept_holds : (tree : Tree) → HandlesHold tree → HandlesHold (kept tree)
kept_holds tree h = record { few = h.few; founded = founded_kept tree h.founded }

-- ---- each change

set_holds : (tree : Tree) (label : ℕ) (object : Object) → HandlesHold tree → HandlesHold (changed tree (SetObject label object))
set_holds tree label object h = record {
  few = h.few;
  founded = all_by (IsFounded tree.objects) _ tree.handles (λ e. still_set (is_at (nat_cmp e.1.label)) (is_at (nat_cmp label)) tree.objects object) h.founded;
}

new_holds : (tree : Tree) (path : Path) (label : ℕ) (object : Object) → HandlesHold tree → HandlesHold (changed tree (NewPath path label object))
new_holds tree path label object h = record {
  few = h.few;
  founded = all_by (IsFounded tree.objects) _ tree.handles (λ e. still_put tree.objects label object e.1.label) h.founded;
}

name_holds : (tree : Tree) (path : Path) (label : ℕ) → HandlesHold tree → HandlesHold (changed tree (NewName path label))
name_holds tree path label h = record { few = h.few; founded = h.founded }

gone_holds : (tree : Tree) (path : Path) → HandlesHold tree → HandlesHold (changed tree (GonePath path))
gone_holds tree path h = kept_holds (record tree { names = remove_entry (is_at (path_cmp path)) tree.names }) (record { few = h.few; founded = h.founded })

move_holds : (tree : Tree) (old new : Path) → HandlesHold tree → HandlesHold (changed tree (Move old new))
move_holds tree old new h = kept_holds (record tree { names = moved tree.names old new }) (record { few = h.few; founded = h.founded })

touch_holds : (tree : Tree) (moment : ℕ) (at : Option (ℕ × Metadata)) → HandlesHold tree → HandlesHold (done tree (touch moment at))
touch_holds tree moment None h = h
touch_holds tree moment (Some d) h = set_holds tree d.0 _ h

touches_hold : (tree : Tree) (moment : ℕ) (this that : Option (ℕ × Metadata)) → HandlesHold tree → HandlesHold (done tree (touch moment this ++ touch moment that))
touches_hold tree moment None that h = touch_holds tree moment that h
touches_hold tree moment (Some d) that h = touch_holds _ moment that (set_holds tree d.0 _ h)

one_more : (session : ℕ) (h : Handle) (count : ℕ) → (nat_eq h.session session ≡ true → count < MAX_HANDLES) → count ≤ MAX_HANDLES → more_of session h + count ≤ MAX_HANDLES
unfolding more_of
one_more session h count less most =
    elim (nat_eq h.session session) as (λ b. (b ≡ true → count < MAX_HANDLES) → cond b 1 0 + count ≤ MAX_HANDLES) [
      | true ↦ λ below. omega (arith, below refl)
      | false ↦ λ below. omega (arith, most)
    ] less

open_holds : (tree : Tree) (number : ℕ) (handle : Handle) → has_all_handles tree handle.session ≡ false → IsSome (object_of tree.objects handle.label) → HandlesHold tree
    → HandlesHold (changed tree (OpenHandle number handle))
open_holds tree number handle free there h = record {
  few = λ session.
      let less : nat_eq handle.session session ≡ true → count_of_session session tree.handles < MAX_HANDLES = λ same.
      let is : handle.session ≡ session = eqb-true handle.session session same in
      let few : has_all_handles tree session ≡ false = ap (has_all_handles tree) (sym is) ∙ free in
      leb-false MAX_HANDLES (count_of_session session tree.handles) few in
      omega (arith, count_inserted session number handle tree.handles, one_more session handle (count_of_session session tree.handles) less (h.few session));
  founded = all_put (λ (x : Handle). IsSome (object_of tree.objects x.label)) nat_cmp number handle tree.handles there h.founded;
}

set_handle_holds : (tree : Tree) (number : ℕ) (before after : Handle) → handle_of tree.handles number ≡ Some before → before.session ≡ after.session → before.label ≡ after.label
    → HandlesHold tree → HandlesHold (changed tree (SetHandle number after))
set_handle_holds tree number before after there same leads h = record {
  few = λ session. subst (λ n. n ≤ MAX_HANDLES) (sym (count_set session number before after tree.handles there same)) (h.few session);
  founded = all_set (λ (x : Handle). IsSome (object_of tree.objects x.label)) (is_at (nat_cmp number)) after tree.handles
      (subst (λ (l : ℕ). IsSome (object_of tree.objects l)) leads
      (subst (λ (o : Option Handle). IfSome o (λ x. IsSome (object_of tree.objects x.label))) there
      (found_value (λ (x : Handle). IsSome (object_of tree.objects x.label)) (is_at (nat_cmp number)) tree.handles h.founded)))
      h.founded;
}

close_holds : (tree : Tree) (number : ℕ) → HandlesHold tree → HandlesHold (changed tree (CloseHandle number))
close_holds tree number h = kept_holds (record tree { handles = remove_entry (is_at (nat_cmp number)) tree.handles }) (record {
  few = λ session. omega (arith, count_removed session (is_at (nat_cmp number)) tree.handles, h.few session);
  founded = all_removed (IsFounded tree.objects) (is_at (nat_cmp number)) tree.handles h.founded;
})

leave_holds : (tree : Tree) (session : ℕ) → HandlesHold tree → HandlesHold (leave tree session)
leave_holds tree session h = kept_holds (record tree { handles = filter (λ e. not (nat_eq e.1.session session)) tree.handles }) (record {
  few = λ s. omega (arith, count_filtered s (λ e. not (nat_eq e.1.session session)) tree.handles, h.few s);
  founded = all_filtered (IsFounded tree.objects) (λ e. not (nat_eq e.1.session session)) tree.handles h.founded;
})

-- a handle of a session exists
of_session : (session : ℕ) (o : Option Handle) (handle : Handle) → option_and_then (if_of session) o ≡ Some handle → o ≡ Some handle
of_session session None handle e = cc
of_session session (Some x) handle e = elim (nat_eq x.session session) as (λ b. cond b (Some x) None ≡ Some handle → Some x ≡ Some handle) [ true ↦ λ k. k | false ↦ λ k. cc ] e

-- ---- each answer

module _ (tree : Tree) (session number moment : ℕ) (h : HandlesHold tree) where
  abbrev pub Keeps : Outcome → Type 0
  Keeps answer = HandlesHold (done tree answer.changes)

  gone : (path : Path) → HandlesHold (done tree (GonePath path ∷ touched tree moment (parent path)))
  gone path = touch_holds _ moment (directory_at tree (parent path)) (gone_holds tree path h)

  there : (label : ℕ) (object : Object) → object_of tree.objects label ≡ Some object → IsSome (object_of tree.objects label)
  there label object is = ap (λ x. is_some x) is

  moved_holds : (old new : Path) → Keeps (moves tree moment old new)
  moved_holds old new = touches_hold _ moment (directory_at tree (parent old)) (directory_at tree (parent new)) (move_holds tree old new h)

  shape_holds : (r : Request) (answer : Outcome) → Shape tree session number moment r answer → Keeps answer
  shape_holds r answer (SetsAt path attrs label object at) = set_holds tree label object h
  shape_holds r answer (SetsOpen handle attrs o object at) = set_holds tree o.label object h
  shape_holds r answer (Writes handle offset bytes o object at) = set_holds tree o.label object h
  shape_holds r answer (MakesDirectory path attrs object) = touch_holds _ moment (directory_at tree (parent path)) (new_holds tree path number object h)
  shape_holds r answer (RemovesDirectory path) = gone path
  shape_holds r answer (RemovesFile path) = gone path
  shape_holds r answer (OpensDirectory path label object at is free) = open_holds tree number (directory_handle session label) free (there label object is) h
  shape_holds r answer (OpensFile path flags attrs label object at is free) = open_holds tree number (new_file_handle session label flags) free (there label object is) h
  shape_holds r answer (CutsFile path flags attrs label object cut at is free) =
      set_holds _ label cut (open_holds tree number (new_file_handle session label flags) free (there label object is) h)
  shape_holds r answer (MakesFile path flags attrs object free) =
      touch_holds _ moment (directory_at tree (parent path))
      (open_holds (changed tree (NewPath path number object)) number (new_file_handle session number flags) free (there_put tree.objects number object) (new_holds tree path number object h))
  shape_holds r answer (Closes handle o at) = close_holds tree handle h
  shape_holds r answer (Lists handle o e es at) = set_handle_holds tree handle o _ (of_session session (handle_of tree.handles handle) o at) refl refl h
  shape_holds r answer (Renames old new) = moved_holds old new
  shape_holds r answer (Replaces old new) = moved_holds old new
  shape_holds r answer (Links old new label) = touch_holds _ moment (directory_at tree (parent new)) (name_holds tree new label h)
  shape_holds r answer _ = h

  pub answer_holds : (request : Request) → Keeps (answer_to tree session number moment request)
  answer_holds request = shape_holds request _ (shape_of tree session number moment request)

pub handles_hold : (history : List Record) → IsLegal history → HandlesHold (replay history)
handles_hold =
    holds_after HandlesHold
    (λ history number session moment request given legal may h. answer_holds (replay history) session number moment h request)
    leave_holds (record { few = λ session. omega arith; founded = tt })
