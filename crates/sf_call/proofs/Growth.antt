-- Histories extended by one record.
use Rattle.std.proofs.Common.{◌≡◌, ℕ, false, List, [], ◌∷◌, ◌++◌, Some, refl, sym, subst, inl, inr, append_assoc, ne_eqb, eq-eqb}
use Rattle.std.proofs.lemmas.List.{append-nil}
use Rattle.std.proofs.lemmas.List.Sums.{fold-append}
use Rattle.sf_reply.specs.declared.reply.Reply.{Reply}
use Rattle.sf_reply.specs.declared.reply.Reply.TheVariants as reply
use Rattle.sf_call.specs.declared.request.Request.{Request}
use Rattle.sf_call.specs.declared.record.Record.{Record}
use Rattle.sf_call.specs.declared.record.Record.TheVariants.{Did, Left}
use Rattle.sf_call.specs.Tree.{Tree, empty_tree}
use Rattle.sf_call.specs.Calls.{apply, leave}
use Rattle.sf_call.specs.Histories.{after, after_reply, replay, IsOther, IsNewNumber, MayFollow, IsLegalAfter, IsLegal, IsAmong, is_of, record_of}

pub replay-push : (history : List Record) (r : Record) → replay (history ++ r ∷ []) ≡ after (replay history) r
unfolding replay
replay-push history r = fold-append after empty_tree history (r ∷ [])

legal_push : (before rs : List Record) (r : Record) → IsLegalAfter before rs → MayFollow (before ++ rs) r → IsLegalAfter before (rs ++ r ∷ [])
unfolding IsLegalAfter
legal_push before [] r legal may = (subst (λ (h : List Record). MayFollow h r) (append-nil before) may, tt)
legal_push before (x ∷ rs) r legal may =
    (legal.0, legal_push (before ++ x ∷ []) rs r legal.1 (subst (λ (h : List Record). MayFollow h r) (sym (append_assoc before (x ∷ []) rs)) may))

pub IsLegal-push : (history : List Record) (r : Record) → IsLegal history → MayFollow history r → IsLegal (history ++ r ∷ [])
unfolding IsLegal
IsLegal-push history r legal may = legal_push [] history r legal may

given_after : (before rs : List Record) (r : Record) → IsLegal before → IsLegalAfter before rs → IsAmong r rs → (earlier : List Record) × IsLegal earlier × MayFollow earlier r
unfolding IsLegalAfter IsAmong
given_after before [] r legal more among = absurd among
given_after before (x ∷ rs) r legal more among =
    elim among [
      | inl same ↦ (before, legal, subst (λ (y : Record). MayFollow before y) same more.0)
      | inr later ↦ given_after (before ++ x ∷ []) rs r (IsLegal-push before x legal more.0) more.1 later
    ]

-- a record of a legal history may come after some legal history
pub given : (history : List Record) (r : Record) → IsLegal history → IsAmong r history → (earlier : List Record) × IsLegal earlier × MayFollow earlier r
unfolding IsLegal IsLegalAfter
given history r legal among = given_after [] history r tt legal among

pub front_new : (number : ℕ) (before : List Record) (x : Record) → IsNewNumber number (before ++ x ∷ []) → IsNewNumber number before
front_new number [] x new = tt
front_new number (y ∷ before) x new = (new.0, front_new number before x new.1)

pub last_other : (number : ℕ) (before : List Record) (x : Record) → IsNewNumber number (before ++ x ∷ []) → IsOther number x
last_other number [] x new = new.0
last_other number (y ∷ before) x new = last_other number before x new.1

-- a later call's number differs from those before
module _ (number session moment : ℕ) (request : Request) (reply : Reply) where
  new_before : (before rs : List Record) → IsLegalAfter before rs → IsAmong (Did number session moment request reply) rs → IsNewNumber number before
  unfolding IsLegalAfter IsAmong
  new_before before [] legal among = absurd among
  new_before before (x ∷ rs) legal among =
      elim among [
        | inl same ↦ (subst (λ (y : Record). MayFollow before y) same legal.0).new_number
        | inr later ↦ front_new number before x (new_before (before ++ x ∷ []) rs legal.1 later)
      ]

  is_of_other : (x : Record) → IsOther number x → is_of number x ≡ false
  is_of_other (Did n s m q r) other = ne_eqb n number other
  is_of_other (Left s) other = refl

  found_after : (before rs : List Record) → IsLegalAfter before rs → IsAmong (Did number session moment request reply) rs → record_of number rs ≡ Some (Did number session moment request reply)
  unfolding IsLegalAfter IsAmong
  found_after before [] legal among = absurd among
  found_after before (x ∷ rs) legal among =
      elim among [
        | inl same ↦ rw same (rw (eq-eqb number number refl))
        | inr later ↦
            rw (is_of_other x (last_other number before x (new_before (before ++ x ∷ []) rs legal.1 later))) (found_after (before ++ x ∷ []) rs legal.1 later)
      ]

  -- the number of a call identifies its record
  pub record_of-legal : (history : List Record) → IsLegal history → IsAmong (Did number session moment request reply) history → record_of number history ≡ Some (Did number session moment request reply)
  unfolding IsLegal
  record_of-legal history legal among = found_after [] history legal among

-- induction over legal histories: a property of the initial tree that each call and each end of a
-- session preserves
module _ (P : Tree → Type 0) where
  -- a call that may come preserves it
  abbrev pub CallsKeep : Type 0
  CallsKeep = (history : List Record) (number session moment : ℕ) (request : Request) (given : Reply) → IsLegal history
      → MayFollow history (Did number session moment request given) → P (replay history) → P (apply (replay history) session number moment request).tree

  module _ (calls : CallsKeep) (leavings : (tree : Tree) (session : ℕ) → P tree → P (leave tree session)) where
    by_reply : (tree next : Tree) (given : Reply) → P tree → P next → P (after_reply tree next given)
    by_reply tree next reply.NoMemory here then = here
    by_reply tree next (reply.Status code) here then = then
    by_reply tree next (reply.Handle number) here then = then
    by_reply tree next (reply.Data bytes) here then = then
    by_reply tree next (reply.Names entries) here then = then
    by_reply tree next (reply.Attrs attrs) here then = then

    by_record : (history : List Record) (r : Record) → IsLegal history → MayFollow history r → P (replay history) → P (after (replay history) r)
    by_record history (Did number session moment request given) legal may here =
        by_reply (replay history) (apply (replay history) session number moment request).tree given here (calls history number session moment request given legal may here)
    by_record history (Left session) legal may here = leavings (replay history) session here

    by_records : (before rs : List Record) → IsLegal before → IsLegalAfter before rs → P (replay before) → P (replay (before ++ rs))
    unfolding IsLegalAfter
    by_records before [] legal more here = subst (λ (h : List Record). P (replay h)) (sym (append-nil before)) here
    by_records before (r ∷ rs) legal more here =
        subst (λ (h : List Record). P (replay h)) (append_assoc before (r ∷ []) rs)
        (by_records (before ++ r ∷ []) rs (IsLegal-push before r legal more.0) more.1 (subst P (sym (replay-push before r)) (by_record before r legal more.0 here)))

    pub holds_after : P empty_tree → (history : List Record) → IsLegal history → P (replay history)
    unfolding IsLegal IsLegalAfter replay
    holds_after start history legal = by_records [] history tt legal start
