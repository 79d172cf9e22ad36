-- Laws of journals: without rules, and with events on the engine directly.
use Rattle.std.proofs.Common.{◌≡◌, ℕ, ◌+◌, List, [], ◌∷◌, ◌++◌, Bool, false, Some, None, length, map, refl, ap, sym, ◌∙◌, subst, arith, append-nil, append_assoc, length-append}
use Rattle.std.specs.List.{flat_map}
use Rattle.std.proofs.lemmas.List.Concat.{flat_map-append}
use Rattle.sf_session.specs.Responses.{Response, transcript}
use Rattle.sf_engine.specs.Promise.{Entry}
use Rattle.sf_refusing.specs.declared.rule.Rule.{Rule}
use Rattle.sf_refusing.specs.declared.refusals.Refusals.{Refusals}
use Rattle.sf_refusing.specs.Journal.{Act, Ruled, Received, Delivered, Made, Apart, PassedOn, RefusedBy, ruled, rules_in, log_of, fed_by, written_by, sent_in, taken_in}
use Rattle.sf_refusing.specs.Refusing.{AllMayHappen, moves_bytes, IsOwn, ServesHere, HasJournal}
use Rattle.sf_refusing.proofs.Entries.{apart_fed, apart_sent}
use Rattle.sf_refusing.proofs.Growing.{transcript_on, own_front, happened_more, begun_stays, entry_served, since_none}
use Rattle.sf_refusing.proofs.Counts.{rules_stay}

no_some : {A : Type 0} (x : A) → None ≡ Some x → ⊥
no_some x h = cc

own_last : (s : ℕ) (journal : List Act) (e : Entry) → IsOwn s (journal ++ Apart e ∷ []) → moves_bytes s e ≡ false
own_last s [] e h = h.0
own_last s (x ∷ journal) e h = own_last s journal e h.1

-- ---- without a rule

none_next : (front journal : List Act) (act : Act) → length (rules_in (front ++ act ∷ journal)) ≡ 0 → length (rules_in ((front ++ act ∷ []) ++ journal)) ≡ 0
none_next front journal act none = ap (λ (j : List Act). length (rules_in j)) (append_assoc front (act ∷ []) journal) ∙ none

none_before : (front journal : List Act) → length (rules_in (front ++ journal)) ≡ 0 → length (rules_in front) ≡ 0
none_before front journal none = omega (arith, none, ap (λ (rs : List Rule). length rs) (flat_map-append ruled front journal), length-append (rules_in front) (rules_in journal))

abbrev pub fed_in : ℕ → List Entry → List ℕ
fed_in s log = flat_map (fed_by s) log

abbrev pub written_in : ℕ → List Entry → List Response
written_in s log = flat_map (written_by s) log

abbrev pub IsPlainlySent : ℕ → List Act → Type 0
IsPlainlySent s journal = (sent_in s journal ≡ transcript (written_in s (log_of journal))) × (taken_in s journal ≡ fed_in s (log_of journal))

one_more : (s : ℕ) (e : Entry) (journal : List Act) → IsPlainlySent s journal → (transcript (written_by s e) ++ sent_in s journal ≡ transcript (written_in s (e ∷ log_of journal))) × (fed_by s e ++ taken_in s journal ≡ fed_in s (e ∷ log_of journal))
one_more s e journal r = (
  ap (λ (b : List ℕ). transcript (written_by s e) ++ b) r.0 ∙ sym (transcript_on (written_by s e) (written_in s (log_of journal))),
  ap (λ (b : List ℕ). fed_by s e ++ b) r.1,
)

pub ruleless : (front journal : List Act) → AllMayHappen front journal → length (rules_in (front ++ journal)) ≡ 0 → (s : ℕ) → IsOwn s journal → IsPlainlySent s journal
unfolding AllMayHappen transcript
ruleless front [] h none s own = (refl, refl)
ruleless front (Ruled rule ∷ journal) h none s own =
    absurd (omega (arith, none, ap (λ (rs : List Rule). length rs) (flat_map-append ruled front (Ruled rule ∷ journal)), length-append (rules_in front) (rule ∷ rules_in journal)))
ruleless front (Received t bytes ∷ journal) h none s own = ruleless (front ++ Received t bytes ∷ []) journal h.1 (none_next front journal (Received t bytes) none) s own.1
ruleless front (Delivered t n ∷ journal) h none s own = ruleless (front ++ Delivered t n ∷ []) journal h.1 (none_next front journal (Delivered t n) none) s own.1
ruleless front (Made e ∷ journal) h none s own = one_more s e journal (ruleless (front ++ Made e ∷ []) journal h.1 (none_next front journal (Made e) none) s own.1)
ruleless front (PassedOn p e ∷ journal) h none s own = one_more s e journal (ruleless (front ++ PassedOn p e ∷ []) journal h.1 (none_next front journal (PassedOn p e) none) s own.1)
ruleless front (Apart e ∷ journal) h none s own =
    let r = one_more s e journal (ruleless (front ++ Apart e ∷ []) journal h.1 (none_next front journal (Apart e) none) s own.1) in (
      r.0,
      ap (λ (b : List ℕ). b ++ taken_in s journal) (sym (apart_fed s e own.0)) ∙ r.1,
    )
ruleless front (RefusedBy p id number code e ∷ journal) h none s own =
    absurd (no_some (h.0.rule, h.0.since)
    (sym (since_none front number (omega (arith, none_before front (RefusedBy p id number code e ∷ journal) none))) ∙ h.0.given))

-- ---- events on the engine directly

apart_one : (r : Refusals) (journal : List Act) (e : Entry) → HasJournal r journal → HasJournal r (journal ++ Apart e ∷ [])
apart_one r journal e H = record {
  happened = happened_more [] journal (Apart e) H.happened tt;
  each = λ i p at. apart_serves (i + 1) p.held.items p.output.items p.begun (H.each i p at);
  others = λ s none. apart_serves s [] [] false (H.others s none);
  rules = rules_stay journal r.rules.items (Apart e) H.rules refl (λ number rule. refl) (λ number. refl);
}
  where
    apart_serves : (s : ℕ) (held output : List ℕ) (begun : Bool) → ServesHere journal s held output begun → ServesHere (journal ++ Apart e ∷ []) s held output begun
    apart_serves s held output begun S = record {
      begun_is = begun_stays journal s (Apart e) begun refl S.begun_is;
      served = λ own. entry_served journal s (Apart e) e held output refl refl refl refl refl (apart_sent s e (own_last s journal e own)) (S.served (own_front s journal (Apart e) own));
    }

pub apart_all : (r : Refusals) (entries : List Entry) (journal : List Act) → HasJournal r journal → HasJournal r (journal ++ map Apart entries)
apart_all r [] journal H = subst (λ (j : List Act). HasJournal r j) (sym (append-nil journal)) H
apart_all r (e ∷ entries) journal H =
    subst (λ (j : List Act). HasJournal r j) (append_assoc journal (Apart e ∷ []) (map Apart entries)) (apart_all r entries (journal ++ Apart e ∷ []) (apart_one r journal e H))
