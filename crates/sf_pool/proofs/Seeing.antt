-- What a lane sees of the history of its core, from one event to the next.
use Rattle.std.proofs.Common.{◌≡◌, ℕ, List, [], ◌∷◌, ◌++◌, refl, sym, ap, ◌∙◌, subst, append-nil}
use Rattle.sf_call.specs.declared.record.Record.{Record}
use Rattle.sf_audit.specs.Audits.{CallRecord, call_records}
use Rattle.sf_roll.specs.Seen.{IsPrefixOf}
use Rattle.sf_roll.proofs.Laws.{prefix_self, prefix_trans}
use Rattle.sf_noted.proofs.Laws.{records_append}
use Rattle.sf_pool.specs.SessionLanes.{SessionLaneView, HasSeenCalls, SeesOn}
use Rattle.sf_pool.specs.Scenes.{IsSessionBetween}

-- it is where it was, and has seen as much
pub sees_same : {seen seen' : List Record} {d d' : SessionLaneView} → seen' ≡ seen → d' ≡ d → SeesOn seen d seen' d'
sees_same {seen = seen} {d = d} {d' = d'} e f =
    subst (λ (s : List Record). SeesOn seen d s d') (sym e) (subst (λ (x : SessionLaneView). SeesOn seen d seen x) (sym f) (record { further = prefix_self seen; session = refl; own = λ h. h }))

pub sees_along : {s0 s1 s2 : List Record} {d0 d1 d2 : SessionLaneView} → SeesOn s0 d0 s1 d1 → SeesOn s1 d1 s2 d2 → SeesOn s0 d0 s2 d2
sees_along {s0 = s0} {s1 = s1} {s2 = s2} a b = record { further = prefix_trans s0 s1 s2 a.further b.further; session = b.session ∙ a.session; own = λ h. b.own (a.own h) }

pub stands_on : {before seen seen' : List Record} {d d' : SessionLaneView} → IsSessionBetween before seen d → SeesOn seen d seen' d' → IsSessionBetween before seen' d'
stands_on {before = before} {seen = seen} {seen' = seen'} h s = record {
  further = prefix_trans before seen seen' h.further s.further;
  behind = ap (λ (n : ℕ). call_records n before) s.session ∙ h.behind;
  within = s.own h.within;
}

front_of_none : (xs ys : List CallRecord) → xs ++ ys ≡ [] → xs ≡ []
front_of_none [] ys e = refl
front_of_none (x ∷ xs) ys e = absurd (cc)

-- a session that has just joined has no calls
pub stands_new : {before seen : List Record} {d : SessionLaneView} → IsPrefixOf before seen → HasSeenCalls seen d → d.calls ≡ [] → IsSessionBetween before seen d
stands_new {before = before} {d = d} f own none = record {
  further = f;
  behind = front_of_none (call_records d.session before) (call_records d.session f.0)
      (sym (records_append d.session before f.0) ∙ ap (call_records d.session) (sym f.1) ∙ own ∙ none);
  within = own;
}
