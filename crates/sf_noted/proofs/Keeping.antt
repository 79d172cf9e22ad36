-- Each event of a core keeps it in agreement with what is noted of its sessions.
use Rattle.std.proofs.Common.{◌≡◌, ◌≢◌, ◌+◌, ℕ, List, [], ◌∷◌, ◌++◌, Some, None, refl, sym, ap, ◌∙◌, subst, inl, inr, ⊎_elim, append_assoc, append-nil}
use Rattle.std.specs.List.{AllByRecursion}
use mathlib.Core.Logic.{dite}
use native.Mathlib.Decide.{ℕ_discrete}
use Rattle.sf_reply.specs.declared.reply.Reply.{Reply}
use Rattle.sf_call.specs.declared.call.Call.{Call}
use Rattle.sf_call.specs.declared.record.Record.{Record}
use Rattle.sf_call.specs.declared.record.Record.TheVariants.{Did, Left}
use Rattle.sf_call.specs.Answers.{AnswerView}
use Rattle.sf_call.specs.Histories.{IsNewNumber, IsLegalAfter, IsAmong}
use Rattle.sf_core.specs.declared.step.Step.{Step}
use Rattle.sf_core.specs.declared.step.Step.TheVariants.{Moved, Blocked, Answered, Stranger}
use Rattle.sf_core.specs.Lanes.{LaneView}
use Rattle.sf_core.specs.Cores.{CoreView, LaneState, lane_state}
use Rattle.sf_core.specs.Cores.LaneState.{Idle, Busy}
use Rattle.sf_core.specs.Progress.{waiting_reply, SameCall, did}
use Rattle.sf_core.specs.Histories.{IsHistory}
use Rattle.sf_core.specs.Owners.{OwnsCalls}
use Rattle.sf_core.specs.Events.{Before, After, OwnCall, Fetches, IsFinished, IsHelped, IsOfOther, Decides, TakesStep}
use Rattle.sf_audit.specs.Audits.{CallRecord, call_records}
use Rattle.sf_noted.specs.Pages.{BegunCall, begun_call, Page}
use Rattle.sf_noted.specs.PageChanges.{page, as_told, IsUnderWay}
use Rattle.sf_noted.specs.Noted.{told_of, waiting_for, waits_in, noted_state, FitsPage, number_in, lane_of}
use Rattle.sf_noted.proofs.Lanes.{under_way}
use Rattle.sf_noted.proofs.Records.{records_append, other_did, own_record, other_record, among_behind, among_front, not_new, new_before, legal_behind, legal_front, among_last}

some_is : {A : Type 0} (a b : A) → Some a ≡ Some b → a ≡ b
some_is a b e = cc

one_call : (l : LaneState Call) (c d : Call) → l ≡ Busy c → l ≡ Busy d → c ≡ d
one_call l c d e f = let x : Busy c ≡ Busy d = sym e ∙ f in cc

-- what a session's page has to fit, once its lane is in another state and records of it were added
fit_more : (v w : CoreView) (h added : List Record) (s : ℕ) (p : Page) (more : List CallRecord) → call_records s added ≡ more → noted_state (lane_state w s) ≡ noted_state (lane_state v s) → waits_in (lane_state w s) ≡ waits_in (lane_state v s) ++ more
    → FitsPage v h s p → FitsPage w (h ++ added) s p
fit_more v w h added s p more has stands waits f = record {
  state = stands ∙ f.state;
  told = records_append s h added ∙ ((λ i. f.told i ++ has i) ∙ (append_assoc p.told (waits_in (lane_state v s)) more ∙ ap (λ x. p.told ++ x) (sym waits)));
}

fit_same : (v w : CoreView) (h added : List Record) (s : ℕ) (p : Page) → call_records s added ≡ [] → lane_state w s ≡ lane_state v s → FitsPage v h s p → FitsPage w (h ++ added) s p
fit_same v w h added s p none same f = fit_more v w h added s p [] none (ap noted_state same) (ap waits_in same ∙ sym (append-nil (waits_in (lane_state v s)))) f

same_state : (c d : Call) → SameCall c d → noted_state (Busy d) ≡ noted_state (Busy c)
same_state c d e = λ i. Busy (begun_call (e.number i) (e.moment i) (e.request i))

same_told : (c d : Call) (given : Reply) → SameCall c d → told_of d given ≡ told_of c given
same_told c d given e = λ i. record { number = e.number i; request = e.request i; reply = given }

none_waits : (c : Call) → waiting_reply c ≡ None → waits_in (Busy c) ≡ []
none_waits c e = ap (waiting_for c) e

one_waits : (c : Call) (given : Reply) → waiting_reply c ≡ Some given → waits_in (Busy c) ≡ told_of c given ∷ []
one_waits c given e = ap (waiting_for c) e

-- no record is of a session none of whose calls may be among them
none_helped : (v : CoreView) (own s : ℕ) (rs : List Record) → AllByRecursion (IsOfOther v own) rs → ((c : Call) (given : Reply) → lane_state v s ≡ Busy c → waiting_reply c ≡ None → IsAmong (did c given) rs → ⊥) → call_records s rs ≡ []
unfolding IsAmong
none_helped v own s [] all never = refl
none_helped v own s (Left t ∷ rs) all never = absurd all.0
none_helped v own s (Did number t moment request given ∷ rs) all never =
    let x = all.0 in
    let rest = none_helped v own s rs all.1 (λ d g busy none a. never d g busy none (inr a)) in
    dite (ℕ_discrete t s)
    (λ same. absurd (never x.0 given (subst (λ u. lane_state v u ≡ Busy x.0) same x.2) x.3 (inl x.4)))
    (λ apart. other_did s number t moment request given rs apart ∙ rest)

-- the one record of a session's undecided call, among records that are legal
one_helped : (v : CoreView) (own s : ℕ) (before rs : List Record) (c : Call) (given : Reply) → AllByRecursion (IsOfOther v own) rs → IsLegalAfter before rs → lane_state v s ≡ Busy c → c.session ≡ s → IsAmong (did c given) rs → call_records s rs ≡ told_of c given ∷ []
unfolding IsAmong IsLegalAfter
one_helped v own s before [] c given all legal busy is among = absurd among
one_helped v own s before (Left t ∷ rs) c given all legal busy is among = absurd all.0
one_helped v own s before (Did number t moment request reply ∷ rs) c given all legal busy is (inl e) =
    let r = Did number t moment request reply in
    let none = none_helped v own s rs all.1 (λ d g busy' none a.
    let same = one_call (lane_state v s) d c busy' busy in
    let new = new_before d.number d.session d.moment d.request g (before ++ r ∷ []) rs legal.1 a in
    not_new c.number c.session c.moment c.request given (before ++ r ∷ []) (subst (λ (x : Call). IsNewNumber x.number (before ++ r ∷ [])) same new) (subst (λ (x : Record). IsAmong x (before ++ r ∷ [])) e (among_last r before))) in
    subst (λ (x : Record). call_records s (x ∷ rs) ≡ told_of c given ∷ []) (sym e) (own_record s c given rs is ∙ ap (λ xs. told_of c given ∷ xs) none)
one_helped v own s before (Did number t moment request reply ∷ rs) c given all legal busy is (inr among) =
    let x = all.0 in
    let r = Did number t moment request reply in
    dite (ℕ_discrete t s)
    (λ same.
    let c' = one_call (lane_state v s) x.0 c (subst (λ u. lane_state v u ≡ Busy x.0) same x.2) busy in
    let new = new_before c.number c.session c.moment c.request given (before ++ r ∷ []) rs legal.1 among in
    absurd (not_new c.number c.session c.moment c.request reply (before ++ r ∷ []) new (subst (λ (y : Record). IsAmong y (before ++ r ∷ [])) (x.4 ∙ ap (λ (y : Call). did y reply) c') (among_last r before))))
    (λ apart. other_did s number t moment request reply rs apart ∙ one_helped v own s (before ++ r ∷ []) rs c given all.1 legal.1 busy is among)

-- no record of those helped is the own session's
none_own : (v : CoreView) (own : ℕ) (rs : List Record) → AllByRecursion (IsOfOther v own) rs → call_records own rs ≡ []
none_own v own [] all = refl
none_own v own (Left t ∷ rs) all = absurd all.0
none_own v own (Did number t moment request given ∷ rs) all = other_did own number t moment request given rs all.0.1 ∙ none_own v own rs all.1

-- ---- a step, to the other sessions
-- where the last record is of another session, the calls are those among the ones before it
but_last : (s : ℕ) (helped : List Record) (c : Call) (given : Reply) (added : List Record) → added ≡ helped ++ did c given ∷ [] → c.session ≢ s → call_records s added ≡ call_records s helped
but_last s helped c given added e ne = ap (call_records s) e ∙ (records_append s helped (did c given ∷ []) ∙ (ap (λ x. call_records s helped ++ x) (other_record s c given [] ne) ∙ append-nil (call_records s helped)))

others_decided : (b : Before) (a : After) (c : Call) (given : Reply) → Decides b a c given → OwnsCalls b.core → OwnsCalls a.core → IsHistory a.core (b.history ++ a.added) → (s : ℕ) → s ≢ b.lane.session → (p : Page) → FitsPage b.core b.history s p → FitsPage a.core (b.history ++ a.added) s p
others_decided b a c given d before after hist s ne p f =
    let apart : c.session ≢ s = λ e. ne (sym e ∙ d.own.session) in
    let last = but_last s d.helped c given a.added d.records apart in
    let in_all : (r : Record) → IsAmong r d.helped → IsAmong r (b.history ++ a.added) = λ r x. among_behind r b.history a.added (subst (IsAmong r) (sym d.records) (among_front r d.helped (did c given ∷ []) x)) in
    ⊎_elim
    (λ same. fit_same b.core a.core b.history a.added s p
    (last ∙ none_helped b.core b.lane.session s d.helped d.of_others (λ e g busy none among.
    let at = after.number s e (same ∙ busy) in
    not_new e.number e.session e.moment e.request g (b.history ++ a.added) (hist.undecided e.number e at none) (in_all (did e g) among)))
    same f)
    (λ rest. ⊎_elim
    (λ (h : IsHelped b.core a.core s d.helped).
    let legal = legal_front b.history d.helped (did c given ∷ []) (subst (IsLegalAfter b.history) d.records (legal_behind b.history a.added hist.legal)) in
    let one = one_helped b.core b.lane.session s b.history d.helped h.before h.given d.of_others legal h.was (before.session s h.before h.was) h.recorded in
    fit_more b.core a.core b.history a.added s p (told_of h.before h.given ∷ []) (last ∙ one)
    (ap noted_state h.now ∙ (same_state h.before h.after h.same ∙ sym (ap noted_state h.was)))
    (ap waits_in h.now ∙ (one_waits h.after h.given h.decided ∙ (ap (λ x. x ∷ []) (same_told h.before h.after h.given h.same) ∙ sym (ap (λ x. x ++ told_of h.before h.given ∷ []) (ap waits_in h.was ∙ none_waits h.before h.undecided)))))
    f)
    (λ (h : IsFinished b.core a.core s d.helped).
    let none = none_helped b.core b.lane.session s d.helped d.of_others (λ e g busy none among. let has : None ≡ Some h.given = sym none ∙ subst (λ (x : Call). waiting_reply x ≡ Some h.given) (one_call (lane_state b.core s) h.before e h.was busy) h.had in cc) in
    fit_more b.core a.core b.history a.added s p [] (last ∙ none)
    (ap noted_state h.now ∙ (same_state h.before h.after h.same ∙ sym (ap noted_state h.was)))
    (ap waits_in h.now ∙ (one_waits h.after h.given h.has ∙ (ap (λ x. x ∷ []) (same_told h.before h.after h.given h.same) ∙ (sym (one_waits h.before h.given h.had) ∙ (sym (ap waits_in h.was) ∙ sym (append-nil (waits_in (lane_state b.core s))))))))
    f)
    rest)
    (d.others s ne)

no_added : (s : ℕ) (added : List Record) → added ≡ [] → call_records s added ≡ []
no_added s added e = ap (call_records s) e

pub others_step : (b : Before) (made : Step) (a : After) → TakesStep b made a → OwnsCalls b.core → OwnsCalls a.core → IsHistory a.core (b.history ++ a.added) → (s : ℕ) → s ≢ b.lane.session → (p : Page) → FitsPage b.core b.history s p → FitsPage a.core (b.history ++ a.added) s p
others_step b Moved a (inl x) before after hist s ne p f = fit_same b.core a.core b.history a.added s p (no_added s a.added x.1.none) (x.0.2.slot.others s ne) f
others_step b Moved a (inr (inl x)) before after hist s ne p f =
    let w = x.3 in
    fit_same b.core a.core b.history a.added s p (ap (call_records s) w.records ∙ other_record s x.0 x.2 [] (λ e. ne (sym e ∙ w.own.session))) (w.slot.others s ne) f
others_step b Moved a (inr (inr x)) before after hist s ne p f = fit_same b.core a.core b.history a.added s p (no_added s a.added x.1.none) (x.0.2.slot.others s ne) f
others_step b (Blocked holder) a x before after hist s ne p f = fit_same b.core a.core b.history a.added s p (no_added s a.added x.1.none) (x.0.1.looks.slots s) f
others_step b (Answered given) a x before after hist s ne p f =
    ⊎_elim
    (λ (y : Fetches b a x.0.0 given.reply). fit_same b.core a.core b.history a.added s p (no_added s a.added y.none) (y.slot.others s ne) f)
    (λ (y : Decides b a x.0.0 given.reply). others_decided b a x.0.0 given.reply y before after hist s ne p f)
    x.0.1
others_step b Stranger a x before after hist s ne p f = fit_same b.core a.core b.history a.added s p (no_added s a.added x.2.none) (ap (λ (v : CoreView). lane_state v s) x.1) f

-- ---- a step, to its own session
empty_more : (l m : LaneState Call) → waits_in m ≡ waits_in l → waits_in m ≡ waits_in l ++ []
empty_more l m e = e ∙ sym (append-nil (waits_in l))

pub own_goes : (b : Before) (a : After) → TakesStep b Moved a → (p : Page) → FitsPage b.core b.history b.lane.session p → FitsPage a.core (b.history ++ a.added) b.lane.session p
own_goes b a (inl x) p f =
    let s = b.lane.session in
    let g = x.0.2 in
    let was = ap waits_in g.own.slot ∙ none_waits x.0.0 g.before in
    let now = ap waits_in g.slot.own ∙ none_waits x.0.1 g.after in
    fit_more b.core a.core b.history a.added s p [] (no_added s a.added x.1.none)
    (ap noted_state g.slot.own ∙ (same_state x.0.0 x.0.1 g.same ∙ sym (ap noted_state g.own.slot)))
    (empty_more (lane_state b.core s) (lane_state a.core s) (now ∙ sym was)) f
own_goes b a (inr (inl x)) p f =
    let s = b.lane.session in
    let w = x.3 in
    let was = ap waits_in w.own.slot ∙ none_waits x.0 w.undecided in
    let now = ap waits_in w.slot.own ∙ (one_waits x.1 x.2 w.decided ∙ ap (λ y. y ∷ []) (same_told x.0 x.1 x.2 w.same)) in
    fit_more b.core a.core b.history a.added s p (told_of x.0 x.2 ∷ []) (ap (call_records s) w.records ∙ own_record s x.0 x.2 [] w.own.session)
    (ap noted_state w.slot.own ∙ (same_state x.0 x.1 w.same ∙ sym (ap noted_state w.own.slot)))
    (now ∙ sym (ap (λ y. y ++ told_of x.0 x.2 ∷ []) was)) f
own_goes b a (inr (inr x)) p f =
    let s = b.lane.session in
    let w = x.0.2 in
    let was = ap waits_in w.own.slot ∙ one_waits x.0.0 w.given w.had in
    let now = ap waits_in w.slot.own ∙ (one_waits x.0.1 w.given w.has ∙ ap (λ y. y ∷ []) (same_told x.0.0 x.0.1 w.given w.same)) in
    fit_more b.core a.core b.history a.added s p [] (no_added s a.added x.1.none)
    (ap noted_state w.slot.own ∙ (same_state x.0.0 x.0.1 w.same ∙ sym (ap noted_state w.own.slot)))
    (empty_more (lane_state b.core s) (lane_state a.core s) (now ∙ sym was)) f

pub own_waits : (b : Before) (holder : ℕ) (a : After) → TakesStep b (Blocked holder) a → (p : Page) → FitsPage b.core b.history b.lane.session p → FitsPage a.core (b.history ++ a.added) b.lane.session p
own_waits b holder a x p f = fit_same b.core a.core b.history a.added b.lane.session p (no_added b.lane.session a.added x.1.none) (x.0.1.looks.slots b.lane.session) f

-- the lane's call was answered so, and its record is the next of the session's
fits_answer : (v w : CoreView) (h added : List Record) (s : ℕ) (p : Page) (c : Call) (given : Reply) → lane_state v s ≡ Busy c → lane_state w s ≡ Idle → waits_in (Busy c) ++ call_records s added ≡ told_of c given ∷ [] → FitsPage v h s p → FitsPage w (h ++ added) s (page Idle (p.told ++ as_told p.state given))
fits_answer v w h added s p c given was now has f =
    let stands : as_told p.state given ≡ told_of c given ∷ [] = ap (λ st. as_told st given) (sym f.state ∙ ap noted_state was) in
    record {
      state = ap noted_state now;
      told = records_append s h added ∙ (ap (λ x. x ++ call_records s added) (f.told ∙ ap (λ l. p.told ++ waits_in l) was) ∙ (append_assoc p.told (waits_in (Busy c)) (call_records s added)
          ∙ (ap (λ x. p.told ++ x) (has ∙ sym stands) ∙ (sym (append-nil (p.told ++ as_told p.state given)) ∙ ap (λ l. (p.told ++ as_told p.state given) ++ waits_in l) (sym now)))));
    }

pub own_answers : (b : Before) (given : AnswerView) (a : After) → TakesStep b (Answered given) a → (p : Page) → FitsPage b.core b.history b.lane.session p → FitsPage a.core (b.history ++ a.added) b.lane.session (page Idle (p.told ++ as_told p.state given.reply))
own_answers b given a x p f =
    let s = b.lane.session in
    let c = x.0.0 in
    ⊎_elim
    (λ (y : Fetches b a c given.reply). fits_answer b.core a.core b.history a.added s p c given.reply y.own.slot y.slot.own
    ((λ i. one_waits c given.reply y.decided i ++ no_added s a.added y.none i)) f)
    (λ (y : Decides b a c given.reply). fits_answer b.core a.core b.history a.added s p c given.reply y.own.slot y.slot
    ((λ i. none_waits c y.undecided i ++ (ap (call_records s) y.records ∙ (records_append s y.helped (did c given.reply ∷ []) ∙ (λ j. none_own b.core s y.helped y.of_others j ++ own_record s c given.reply [] y.own.session j))) i)) f)
    x.0.1

-- ---- what a page tells of the core
pub busy_of : (l : LaneState Call) (call : BegunCall) → noted_state l ≡ Busy call → (c : Call) × (l ≡ Busy c) × (c.number ≡ call.number)
busy_of (Busy c) call e = (c, refl, some_is c.number call.number (ap number_in e))
busy_of _ call e = cc

pub idle_of : (l : LaneState Call) → noted_state l ≡ Idle → l ≡ Idle
idle_of Idle e = refl
idle_of _ e = cc

-- the lane is no stranger's
pub not_strange : (v : CoreView) (h : List Record) (lane : LaneView) (place : ℕ) (p : Page) → OwnsCalls v → FitsPage v h lane.session p → lane ≡ lane_of (place + 1, p) → IsUnderWay p.state → ((c : Call) → OwnCall v lane c → ⊥) → ⊥
not_strange v h lane place p owns f is has never =
    let busy = under_way p.state has in
    let x = busy_of (lane_state v lane.session) busy.0 (f.state ∙ busy.1) in
    never x.0 (record { slot = x.1; session = owns.session lane.session x.0 x.1; number = ap (λ (l : LaneView). l.call) is ∙ (ap number_in busy.1 ∙ ap Some (sym x.2)) })
