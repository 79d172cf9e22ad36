-- The first transcript that disagrees with the records.
use Rattle.std.proofs.Common.{◌≡◌, ◌<◌, ◌+◌, ℕ, List, [], ◌∷◌, ◌++◌, length, take, drop, get_or, sym, ◌∙◌, ap, subst}
use Rattle.std.specs.List.{AllByRecursion}
use Rattle.std.proofs.lemmas.List.{take-append-drop, drop_more, take_more}
use Rattle.sf_call.specs.declared.record.Record.{Record}
use Rattle.sf_audit.specs.declared.transcript.Transcript.{Transcript}
use Rattle.sf_audit.specs.declared.audits.AuditFault.{AuditFault}
use Rattle.sf_audit.specs.declared.audits.AuditFault.TheVariants.{NotInHistory, OutOfOrder, Missing, FoldedCount}
use Rattle.sf_audit.specs.Audits.{CallRecord, IsIn, IsWithin, Follows, IsFaultOf, IsFirstFault, call_records}
use Rattle.sf_audit.proofs.ToldCalls.{in_itself, within_itself}

all_with : {X : Type 0} (P : X → Type 0) (xs : List X) (x : X) → AllByRecursion P xs → P x → AllByRecursion P (xs ++ x ∷ [])
all_with P [] x all last = (last, tt)
all_with P (y ∷ ys) x all last = (all.0, all_with P ys x all.1 last)

pub one_more : (records : List Record) (ts : List Transcript) (i : ℕ) (t : Transcript) → i < length ts → t ≡ get_or ts i t → AllByRecursion (Follows records) (take i ts) → Follows records t → AllByRecursion (Follows records) (take (i + 1) ts)
one_more records ts i t lt is all follows =
    let P : List Transcript → Type 0 = λ xs. AllByRecursion (Follows records) xs in
    let at : take i ts ++ t ∷ [] ≡ take (i + 1) ts = ap (λ x. take i ts ++ x ∷ []) is ∙ sym (take_more ts i t lt) in
    subst P at (all_with (Follows records) (take i ts) t all follows)

pub first_wrong : (records : List Record) (ts : List Transcript) (i : ℕ) (t : Transcript) (fault : AuditFault) → i < length ts → t ≡ get_or ts i t → AllByRecursion (Follows records) (take i ts) → IsFaultOf records t fault → IsFirstFault records ts fault
first_wrong records ts i t fault lt is all wrong = record {
  before = take i ts;
  faulty = t;
  later = drop (i + 1) ts;
  whole = sym (take-append-drop i ts) ∙ ap (λ xs. take i ts ++ xs) (drop_more ts i t lt ∙ ap (λ x. x ∷ drop (i + 1) ts) (sym is));
  follow = all;
  wrong = wrong;
}

-- a transcript that matches the records has no fault
not_both : (records : List Record) (t : Transcript) (fault : AuditFault) → Follows records t → IsFaultOf records t fault → ⊥
not_both records t NotInHistory follows wrong =
    let P : List CallRecord → Type 0 = λ xs. AllByRecursion (IsIn (call_records t.session records)) xs in
    wrong (subst P (sym follows) (in_itself (call_records t.session records)))
not_both records t OutOfOrder follows wrong =
    let P : List CallRecord → Type 0 = λ xs. IsWithin xs (call_records t.session records) in
    wrong.1 (subst P (sym follows) (within_itself (call_records t.session records)))
not_both records t Missing follows wrong = wrong.1 follows
not_both records t FoldedCount follows wrong = wrong

all_at : {X : Type 0} (P : X → Type 0) (xs : List X) (x : X) (ys : List X) → AllByRecursion P (xs ++ x ∷ ys) → P x
all_at P [] x ys all = all.0
all_at P (z ∷ zs) x ys all = all_at P zs x ys all.1

pub faulty_disagrees : (records : List Record) (ts : List Transcript) (fault : AuditFault) → IsFirstFault records ts fault → AllByRecursion (Follows records) ts → ⊥
faulty_disagrees records ts fault first all =
    let P : List Transcript → Type 0 = λ xs. AllByRecursion (Follows records) xs in
    not_both records first.faulty fault (all_at (Follows records) first.before first.faulty first.later (subst P first.whole all)) first.wrong
