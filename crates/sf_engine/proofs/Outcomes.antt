-- The results of events, by a log of them.
use Rattle.std.proofs.Common.{◌≡◌, ℕ, ◌+◌, List, [], ◌∷◌, ◌++◌, Bool, true, false, Result, Ok, Err, cond, map, refl, ap, sym, ◌∙◌, subst, arith, length-append}
use Rattle.std.proofs.lemmas.List.{map-append}
use Rattle.sf_engine.specs.declared.event.Event.{Event}
use Rattle.sf_engine.specs.declared.event.Happened.{Happened}
use Rattle.sf_engine.specs.declared.event.EngineFault.{EngineFault}
use Rattle.sf_engine.specs.Promise.{Entry, event_of, result_of, is_opening, opened_in, openings, SessionOpened, BytesFed, CallBegun, CallMoved, CallBlocked, CallDecided, ReplyWritten, SessionIdle, SessionEnded, SessionClosed, BytesSent, EventRefused}
use Rattle.sf_engine.proofs.Appending.{count_push}

-- a log of these events and results, by which this many sessions opened
pub record IsLogOf (events : List Event) (results : List (Result Happened EngineFault)) (sessions : ℕ) (log : List Entry) : Type 0 where
  pub events_are : map event_of log ≡ events
  pub results_are : map result_of log ≡ results
  pub count : opened_in log ≡ sessions

pub no_log : IsLogOf [] [] 0 []
no_log = record { events_are = refl; results_are = refl; count = refl }

opens_one : (x : Entry) → cond (is_opening x) 1 0 ≡ openings (result_of x)
opens_one (SessionOpened s) = refl
opens_one _ = refl

pub log_push : (events : List Event) (results : List (Result Happened EngineFault)) (sessions more : ℕ) (log : List Entry) (x : Entry) (ev : Event) (r : Result Happened EngineFault) → event_of x ≡ ev → result_of x ≡ r → IsLogOf events results sessions log → more ≡ openings r
    → IsLogOf (events ++ ev ∷ []) (results ++ r ∷ []) (sessions + more) (log ++ x ∷ [])
log_push events results sessions more log x ev r is came h one =
    let count = count_push is_opening log x in
    let opens : cond (is_opening x) 1 0 ≡ openings r = opens_one x ∙ ap openings came in
    record {
      events_are = map-append event_of log (x ∷ []) ∙ ap (λ (xs : List Event). xs ++ event_of x ∷ []) h.events_are ∙ ap (λ (z : Event). events ++ z ∷ []) is;
      results_are = map-append result_of log (x ∷ []) ∙ ap (λ (xs : List (Result Happened EngineFault)). xs ++ result_of x ∷ []) h.results_are ∙ ap (λ (z : Result Happened EngineFault). results ++ z ∷ []) came;
      count = omega (arith, count, opens, h.count, one);
    }
