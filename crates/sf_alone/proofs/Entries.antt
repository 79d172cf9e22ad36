-- More entries of a session of an engine.
use Rattle.std.proofs.Common.{ℕ, List, [], ◌∷◌, ◌++◌, Option, cond, ap, sym, ◌∙◌, subst, arith, append-nil, append_assoc}
use Rattle.std.specs.List.{AllByRecursion}
use Rattle.std.proofs.lemmas.List.Sums.{sum_by-append}
use Rattle.std.specs.Io.KnownBytes.{Appends}
use Rattle.std.proofs.KnownBytes.{Appends-trans}
use Rattle.sf_engine.specs.Views.{EngineView}
use Rattle.sf_engine.specs.Promise.{Entry, is_opening, IsKnown}
use Rattle.sf_engine.specs.HasLog.{HasLog}
use Rattle.sf_alone.specs.OnEngine.{IsEntryOf, AreTimed, AreLow, Since, HasEntries}

pub all_join : {A : Type 0} (P : A → Type 0) (xs ys : List A) → AllByRecursion P xs → AllByRecursion P ys → AllByRecursion P (xs ++ ys)
all_join P [] ys h k = k
all_join P (x ∷ xs) ys h k = (h.0, all_join P xs ys h.1 k)

low_join : (s : ℕ) (log entries more : List Entry) → AreLow s log entries → AreLow s (log ++ entries) more → AreLow s log (entries ++ more)
unfolding AreLow
low_join s log [] more h k = subst (λ (l : List Entry). AreLow s l more) (append-nil log) k
low_join s log (x ∷ entries) more h k = (h.0, low_join s (log ++ x ∷ []) entries more h.1 (subst (λ (l : List Entry). AreLow s l more) (sym (append_assoc log (x ∷ []) entries)) k))

timed_join : (entries more : List Entry) (a b : List ℕ) → AreTimed entries a → AreTimed more b → AreTimed (entries ++ more) (a ++ b)
unfolding AreTimed
timed_join [] more a b h k = subst (λ (z : List ℕ). AreTimed more (z ++ b)) (sym h) k
timed_join (x ∷ entries) more a b h k =
    (h.0, h.1 ++ b, ap (λ (z : List ℕ). z ++ b) h.2 ∙ append_assoc h.0 h.1 b, h.3, timed_join entries more h.1 b h.4 k)

pub known_more : (log more : List Entry) (s : ℕ) → IsKnown log s → IsKnown (log ++ more) s
known_more log more s h = (h.0, omega (arith, h.1, sum_by-append (λ (y : Entry). cond (is_opening y) 1 0) log more))

-- more entries of the session, after this log
pub record Added (s : ℕ) (log more : List Entry) (moments : List ℕ) : Type 0 where
  pub own : AllByRecursion (IsEntryOf s) more
  pub low : AreLow s log more
  pub timed : AreTimed more moments

pub joined : (s : ℕ) (log entries more : List Entry) (a b : List ℕ) → Added s log entries a → Added s (log ++ entries) more b → Added s log (entries ++ more) (a ++ b)
joined s log entries more a b h k = record {
  own = all_join (IsEntryOf s) entries more h.own k.own;
  low = low_join s log entries more h.low k.low;
  timed = timed_join entries more a b h.timed k.timed;
}

abbrev pub extended : {start : Since} {s : ℕ} {e e' : EngineView} {tl tl' : Option (List ℕ)} (h : HasEntries start s e tl) (more : List Entry) (moments : List ℕ) → HasLog e' (h.log ++ more) → Appends tl tl' moments → Added s h.log more moments → HasEntries start s e' tl'
extended {start} {s} {e} {e'} {tl} {tl'} h more moments has clock added =
    let all = joined s start.log h.entries more h.moments moments (record { own = h.own; low = h.low; timed = h.timed }) (subst (λ (l : List Entry). Added s l more moments) h.since added) in
    record {
      log = h.log ++ more;
      has = has;
      entries = h.entries ++ more;
      since = ap (λ (l : List Entry). l ++ more) h.since ∙ append_assoc start.log h.entries more;
      known = known_more h.log more s h.known;
      own = all.own;
      low = all.low;
      moments = h.moments ++ moments;
      timed = all.timed;
      clock = Appends-trans start.told tl tl' h.moments moments h.clock clock;
    }
