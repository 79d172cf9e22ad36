-- The same calls without allocation failures have the same replies.
use Rattle.std.proofs.Common.{◌≡◌, ◌≢◌, ◌⊎◌, List, [], ◌∷◌, ◌++◌, refl, sym, subst, inl, inr}
use Rattle.sf_reply.specs.declared.reply.Reply.{Reply}
use Rattle.sf_reply.specs.declared.reply.Reply.TheVariants as reply
use Rattle.sf_call.specs.declared.record.Record.{Record}
use Rattle.sf_call.specs.declared.record.Record.TheVariants.{Did, Left}
use Rattle.sf_call.specs.Calls.{apply}
use Rattle.sf_call.specs.Histories.{replay, MayFollow, IsLegalAfter, IsLegal}
use Rattle.sf_laws.specs.SameCalls.{call_asked, calls_asked, HadMemory, AllHadMemory}

told : (given answered : Reply) → (given ≡ answered) ⊎ (given ≡ reply.NoMemory) → given ≢ reply.NoMemory → given ≡ answered
told given answered may served = elim may [ inl same ↦ same | inr none ↦ absurd (served none) ]

same_record : (before : List Record) (r s : Record) → MayFollow before r → MayFollow before s → HadMemory r → HadMemory s → call_asked r ≡ call_asked s → r ≡ s
same_record before (Did number session moment request given) (Did n x m q other) may also served served_too same =
    let first = told given (apply (replay before) session number moment request).reply may.answered served in
    let second = told other (apply (replay before) x n m q).reply also.answered served_too in
    let numbers : number ≡ n = cc in
    let sessions : session ≡ x = cc in
    let moments : moment ≡ m = cc in
    let requests : request ≡ q = cc in
    cc
same_record before (Left session) (Left x) may also served served_too same = cc
same_record before _ _ may also served served_too same = cc

same_after : (before rs ss : List Record) → IsLegalAfter before rs → IsLegalAfter before ss → AllHadMemory rs → AllHadMemory ss → calls_asked rs ≡ calls_asked ss → rs ≡ ss
unfolding IsLegalAfter
same_after before [] [] legal also served served_too same = refl
same_after before [] (s ∷ ss) legal also served served_too same = cc
same_after before (r ∷ rs) [] legal also served served_too same = cc
same_after before (r ∷ rs) (s ∷ ss) legal also served served_too same =
    let firsts : call_asked r ≡ call_asked s = cc in
    let rests : calls_asked rs ≡ calls_asked ss = cc in
    let here : r ≡ s = same_record before r s legal.0 also.0 served.0 served_too.0 firsts in
    let later : rs ≡ ss = same_after (before ++ r ∷ []) rs ss legal.1
    (subst (λ (x : Record). IsLegalAfter (before ++ x ∷ []) ss) (sym here) also.1) served.1 served_too.1 rests in
    cc

pub same_history : (history other : List Record) → IsLegal history → IsLegal other → AllHadMemory history → AllHadMemory other → calls_asked history ≡ calls_asked other → history ≡ other
unfolding IsLegal
same_history history other legal also served served_too same = same_after [] history other legal also served served_too same
