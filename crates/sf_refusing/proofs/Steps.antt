-- The effects of the events of refusals.
use Rattle.std.proofs.Common.{◌≡◌, ℕ, ◌+◌, ◌<◌, ◌≤◌, ◌⊎◌, List, [], ◌∷◌, ◌++◌, Bool, true, false, Some, length, drop, map, slice_get, refl, ap, sym, ◌∙◌, subst, arith, inl, inr, append-nil, append_assoc, length-set}
use Rattle.std.specs.Prelude.{nat_eq, slice_set, if◌then◌else◌}
use Rattle.std.specs.List.{AllByRecursion}
use Rattle.std.proofs.lemmas.Bool.{cases_eq, lt-ltb, eq-eqb, ne_eqb}
use Rattle.std.proofs.lemmas.Grind.{common_steps}
use Rattle.std.proofs.lemmas.Option.{slice_get_within}
use Rattle.std.proofs.lemmas.List.{drop_all}
use Rattle.std.proofs.lemmas.List.Concat.{flat_map-append}
use Rattle.sf_field.specs.Fields.{packet}
use Rattle.sf_reply.specs.declared.reply.StatusCode.{StatusCode}
use Rattle.sf_reply.specs.declared.reply.Reply.TheVariants.{Status}
use Rattle.sf_reply.specs.Replies.{reply_body}
use Rattle.sf_session.specs.Responses.{Response, transcript, if_so}
use Rattle.sf_engine.specs.Promise.{Entry, BytesSent}
use Rattle.sf_refusing.specs.declared.given.GivenRule.{GivenRule}
use Rattle.sf_refusing.specs.declared.passage.Passage.{Passage}
use Rattle.sf_refusing.specs.declared.refusals.Refusals.{Refusals}
use Rattle.sf_refusing.specs.Journal.{Act, Made, PassedOn, RefusedBy, Packet, logged, log_of, fed_by, written_by, sent_at, received_by, taken_by, taken_in, sent_by, delivered_by}
use Rattle.sf_refusing.specs.Refusing.{IsFed, IsUnruled, MayPass, MayRefusePacket, HasUnsent, IsServedHere, ServesHere, AreGiven, HasJournal}
use Rattle.sf_refusing.specs.Fronts.{IsPassageAt, StandsBefore, HoldsAfter, EngineHoldsAfter}
use Rattle.sf_refusing.proofs.Entries.{none_so, zero_so, IsPlain, plain_fed, plain_sent}
use Rattle.sf_refusing.proofs.Growing.{more, own_so, other_so, own_front, happened_more, begun_stays, begun_now, entry_served, other_served, fed_served, same_unsent, unsent_more, grown, get_set_same, get_set_other, some_same}
use Rattle.sf_refusing.proofs.Counts.{rules_stay}

-- ---- an event that neither feeds nor removes output

plain_serves : (journal : List Act) (s : ℕ) (e : Entry) (held output : List ℕ) (begun : Bool) → IsPlain e → ServesHere journal s held output begun → ServesHere (journal ++ Made e ∷ []) s held output begun
plain_serves journal s e held output begun P S = record {
  begun_is = begun_stays journal s (Made e) begun (plain_fed s e P) S.begun_is;
  served = λ own. entry_served journal s (Made e) e held output refl refl (plain_fed s e P) refl refl (plain_sent s e P) (S.served (own_front s journal (Made e) own));
}

pub plain_has : (r : Refusals) (journal : List Act) (e : Entry) → IsPlain e → HasJournal r journal → HasJournal r (journal ++ Made e ∷ [])
plain_has r journal e P H = record {
  happened = happened_more [] journal (Made e) H.happened (λ s. inl (plain_fed s e P));
  each = λ i p at. plain_serves journal (i + 1) e p.held.items p.output.items p.begun P (H.each i p at);
  others = λ s none. plain_serves journal s e [] [] false P (H.others s none);
  rules = rules_stay journal r.rules.items (Made e) H.rules refl (λ number rule. refl) (λ number. refl);
}

pub plain_all : (r : Refusals) (entries : List Entry) (journal : List Act) → AllByRecursion IsPlain entries → HasJournal r journal → HasJournal r (journal ++ map Made entries)
plain_all r [] journal P H = subst (λ (j : List Act). HasJournal r j) (sym (append-nil journal)) H
plain_all r (e ∷ entries) journal P H =
    subst (λ (j : List Act). HasJournal r j) (append_assoc journal (Made e ∷ []) (map Made entries))
    (plain_all r entries (journal ++ Made e ∷ []) P.1 (plain_has r journal e P.0 H))

-- ---- logs

log_of_did : (entries : List Entry) → log_of (map Made entries) ≡ entries
log_of_did [] = refl
log_of_did (e ∷ entries) = ap (λ (l : List Entry). e ∷ l) (log_of_did entries)

pub log_done : (journal : List Act) (entries : List Entry) → log_of journal ++ entries ≡ log_of (journal ++ map Made entries)
log_done journal entries =
    ap (λ (l : List Entry). log_of journal ++ l) (sym (log_of_did entries)) ∙ sym (flat_map-append logged journal (map Made entries))

-- ---- the first packet is fed

-- the bytes that a session's event fed
pub fed_is : (s : ℕ) (bytes : List ℕ) (e : Entry) → IsFed s bytes e → (other : ℕ) → fed_by other e ≡ if_so (nat_eq s other) bytes
fed_is s bytes e F other =
    ap (fed_by other) F.is ∙ ap (λ (b : List ℕ). if_so (nat_eq s other) b) F.items

none_sent : (s : ℕ) (bytes : List ℕ) (e : Entry) → IsFed s bytes e → (other : ℕ) → sent_at other e ≡ 0
none_sent s bytes e F other = ap (sent_at other) F.is ∙ zero_so (nat_eq s other)

-- an event that feeds the first buffered bytes, for the session and for the others
fed_serves : (journal : List Act) (s : ℕ) (act : Act) (e : Entry) (front held output : List ℕ) (begun : Bool) → logged act ≡ e ∷ [] → received_by s act ≡ [] → taken_by s act ≡ front → delivered_by s act ≡ 0 → sent_by s act ≡ transcript (written_by s e) → sent_at s e ≡ 0 → 0 < length front → ServesHere journal s (front ++ held) output begun
    → ServesHere (journal ++ act ∷ []) s held output true
fed_serves journal s act e front held output begun is received taken delivered wrote sent some S = record {
  begun_is = begun_now journal s act (omega (arith, some, ap (λ (b : List ℕ). length b) taken));
  served = λ own. fed_served journal s act e front held output is received taken delivered wrote sent (S.served (own_front s journal act own));
}

entry_serves : (journal : List Act) (s : ℕ) (act : Act) (e : Entry) (held output : List ℕ) (begun : Bool) → logged act ≡ e ∷ [] → received_by s act ≡ [] → taken_by s act ≡ [] → delivered_by s act ≡ 0 → sent_by s act ≡ transcript (written_by s e) → sent_at s e ≡ 0 → ServesHere journal s held output begun
    → ServesHere (journal ++ act ∷ []) s held output begun
entry_serves journal s act e held output begun is received taken delivered wrote sent S = record {
  begun_is = begun_stays journal s act begun taken S.begun_is;
  served = λ own. entry_served journal s act e held output is received taken delivered wrote sent (S.served (own_front s journal act own));
}

pub other_serves : (journal : List Act) (s : ℕ) (act : Act) (held output : List ℕ) (begun : Bool) → logged act ≡ [] → received_by s act ≡ [] → taken_by s act ≡ [] → delivered_by s act ≡ 0 → sent_by s act ≡ [] → ServesHere journal s held output begun
    → ServesHere (journal ++ act ∷ []) s held output begun
other_serves journal s act held output begun is received taken delivered wrote S = record {
  begun_is = begun_stays journal s act begun taken S.begun_is;
  served = λ own. other_served journal s act held output is received taken delivered wrote (S.served (own_front s journal act own));
}

-- no event
pub nothing_leaves : {E : Type 0} (has_log : E → List Entry → Type 0) (engine : E) (journal : List Act) (s : ℕ) (p : Passage) (rules : List GivenRule) → StandsBefore has_log engine journal s p rules → EngineHoldsAfter has_log engine journal s p rules (journal ++ [])
nothing_leaves {E} has_log engine journal s p rules S =
    subst (λ (after : List Act). EngineHoldsAfter has_log engine journal s p rules after) (sym (append-nil journal))
    (S.has, record { happened = S.happened; at = S.at; rules = S.rules; others = λ other held output begun ne serves. serves })

-- bytes to which no rule applies are fed
pub did_leaves : {E : Type 0} (has_log : E → List Entry → Type 0) (engine engine' : E) (journal : List Act) (s : ℕ) (p p' : Passage) (rules : List GivenRule) (e : Entry) (front : List ℕ) → StandsBefore has_log engine journal s p rules → IsFed s front e → has_log engine' (log_of journal ++ e ∷ []) → p.held.items ≡ front ++ p'.held.items → p'.output.items ≡ p.output.items → p'.begun ≡ true → 0 < length front → IsUnruled journal s front
    → EngineHoldsAfter has_log engine' journal s p' rules (journal ++ Made e ∷ [])
did_leaves {E} has_log engine engine' journal s p p' rules e front S F has held output begun some unruled =
    let fed : (other : ℕ) → fed_by other e ≡ if_so (nat_eq s other) front = fed_is s front e F in
    let at : ServesHere journal s (front ++ p'.held.items) p'.output.items p.begun =
    subst (λ (b : List ℕ). ServesHere journal s (front ++ p'.held.items) b p.begun) (sym output)
    (subst (λ (b : List ℕ). ServesHere journal s b p.output.items p.begun) held S.at) in (
      subst (λ (l : List Entry). has_log engine' l) (sym (more logged journal (Made e))) has,
      record {
        happened = happened_more [] journal (Made e) S.happened
            (λ other. elim (cases_eq s other) [
              | inl same ↦ subst (λ (n : ℕ). IsUnruled journal n (fed_by n e)) same (subst (λ (b : List ℕ). IsUnruled journal s b) (sym (fed s ∙ own_so s front)) unruled)
              | inr ne ↦ inl (fed other ∙ other_so s other front ne)
            ]);
        at = subst (λ (b : Bool). ServesHere (journal ++ Made e ∷ []) s p'.held.items p'.output.items b) (sym begun)
            (fed_serves journal s (Made e) e front p'.held.items p'.output.items p.begun refl refl (fed s ∙ own_so s front) refl refl (none_sent s front e F s) some at);
        rules = rules_stay journal rules (Made e) S.rules refl (λ number rule. refl) (λ number. refl);
        others = λ other held output begun ne serves.
            entry_serves journal other (Made e) e held output begun refl refl (fed other ∙ other_so s other front (λ same. ne (sym same))) refl refl (none_sent s front e F other) serves;
      },
    )

some_packet : (body : List ℕ) → 0 < length (packet body)
some_packet body = grind (arith, common_steps)

-- another session's request is refused
refused_serves : (journal : List Act) (s : ℕ) (act : Act) (e : Entry) (held output : List ℕ) (begun : Bool) → logged act ≡ e ∷ [] → received_by s act ≡ [] → taken_by s act ≡ [] → delivered_by s act ≡ 0 → sent_by s act ≡ [] → written_by s e ≡ [] → sent_at s e ≡ 0 → ServesHere journal s held output begun
    → ServesHere (journal ++ act ∷ []) s held output begun
unfolding transcript
refused_serves journal s act e held output begun is received taken delivered wrote none sent S =
    entry_serves journal s act e held output begun is received taken delivered (wrote ∙ ap (λ (ws : List Response). transcript ws) (sym none)) sent S

-- a packet is passed on
pub passed_leaves : {E : Type 0} (has_log : E → List Entry → Type 0) (engine engine' : E) (journal : List Act) (p p' : Passage) (rules rules' : List GivenRule) (e : Entry) (one : Packet) → StandsBefore has_log engine journal one.session p rules → MayPass journal one e → has_log engine' (log_of journal ++ e ∷ []) → p.held.items ≡ packet one.body ++ p'.held.items → p'.output.items ≡ p.output.items → p'.begun ≡ true → AreGiven (journal ++ PassedOn one e ∷ []) rules'
    → EngineHoldsAfter has_log engine' journal one.session p' rules' (journal ++ PassedOn one e ∷ [])
passed_leaves {E} has_log engine engine' journal p p' rules rules' e one S M has held output begun given =
    let s : ℕ = one.session in
    let front : List ℕ = packet one.body in
    let fed : (other : ℕ) → fed_by other e ≡ if_so (nat_eq s other) front = fed_is s front e M.fed in
    let at : ServesHere journal s (front ++ p'.held.items) p'.output.items p.begun =
    subst (λ (b : List ℕ). ServesHere journal s (front ++ p'.held.items) b p.begun) (sym output)
    (subst (λ (b : List ℕ). ServesHere journal s b p.output.items p.begun) held S.at) in (
      subst (λ (l : List Entry). has_log engine' l) (sym (more logged journal (PassedOn one e))) has,
      record {
        happened = happened_more [] journal (PassedOn one e) S.happened M;
        at = subst (λ (b : Bool). ServesHere (journal ++ PassedOn one e ∷ []) s p'.held.items p'.output.items b) (sym begun)
            (fed_serves journal s (PassedOn one e) e front p'.held.items p'.output.items p.begun refl refl (fed s ∙ own_so s front) refl refl (none_sent s front e M.fed s) (some_packet one.body) at);
        rules = given;
        others = λ other held output begun ne serves.
            entry_serves journal other (PassedOn one e) e held output begun refl refl (fed other ∙ other_so s other front (λ same. ne (sym same))) refl refl (none_sent s front e M.fed other) serves;
      },
    )

-- a request is refused
refused_served : (journal : List Act) (held held' output output' u : List ℕ) (one : Packet) (id number : ℕ) (code : StatusCode) (e : Entry) → held ≡ packet one.body ++ held' → output' ≡ output ++ u ++ packet (reply_body id (Status code)) → written_by one.session e ≡ [] → sent_at one.session e ≡ length u → HasUnsent (log_of journal) one.session u → IsServedHere journal one.session held output
    → IsServedHere (journal ++ RefusedBy one id number code e ∷ []) one.session held' output'
unfolding transcript
refused_served journal held held' output output' u one id number code e took wrote none sent U S =
    let s : ℕ = one.session in
    let status : List ℕ = packet (reply_body id (Status code)) in
    let same : S.unsent ≡ u = same_unsent (log_of journal) s S.unsent u S.in_engine U in
    let at : sent_at s e ≤ length u = omega (arith, sent) in
    let V : HasUnsent (log_of journal ++ e ∷ []) s [] =
    subst (λ (b : List ℕ). HasUnsent (log_of journal ++ e ∷ []) s b)
    (ap (λ (ws : List Response). drop (sent_at s e) u ++ transcript ws) none ∙ append-nil (drop (sent_at s e) u) ∙ drop_all (sent_at s e) u (omega (arith, sent)))
    (unsent_more (log_of journal) e s u U at) in
    grown journal s (RefusedBy one id number code e) held held' output output' [] [] S
    (append-nil held ∙ took ∙ ap (λ (b : List ℕ). b ++ held') (sym (own_so s (packet one.body))))
    V
    refl
    (ap (λ (b : List ℕ). (output ++ b) ++ if_so (nat_eq s s) status) same
    ∙ ap (λ (b : List ℕ). (output ++ u) ++ b) (own_so s status) ∙ sym wrote ∙ sym (append-nil output'))

pub refused_leaves : {E : Type 0} (has_log : E → List Entry → Type 0) (engine engine' : E) (journal : List Act) (p p' : Passage) (rules rules' : List GivenRule) (u : List ℕ) (one : Packet) (id number : ℕ) (code : StatusCode) (e : Entry) → StandsBefore has_log engine journal one.session p rules → MayRefusePacket journal one id number code e → e ≡ BytesSent one.session (length u) → HasUnsent (log_of journal) one.session u → has_log engine' (log_of journal ++ e ∷ []) → p.held.items ≡ packet one.body ++ p'.held.items → p'.output.items ≡ p.output.items ++ u ++ packet (reply_body id (Status code)) → p'.begun ≡ p.begun → AreGiven (journal ++ RefusedBy one id number code e ∷ []) rules'
    → EngineHoldsAfter has_log engine' journal one.session p' rules' (journal ++ RefusedBy one id number code e ∷ [])
refused_leaves {E} has_log engine engine' journal p p' rules rules' u one id number code e S M sent unsent has held output begun given =
    let s : ℕ = one.session in
    let status : List ℕ = packet (reply_body id (Status code)) in
    let act : Act = RefusedBy one id number code e in
    let none_written : (other : ℕ) → written_by other e ≡ [] = λ other. ap (written_by other) sent ∙ none_so (nat_eq s other) in
    let sent_is : (other : ℕ) → sent_at other e ≡ (if nat_eq s other then length u else 0) = λ other. ap (sent_at other) sent in
    let sent_own : sent_at s e ≡ length u = sent_is s ∙ ap (λ (b : Bool). if b then length u else 0) (eq-eqb s s refl) in
    let was_begun : p.begun ≡ true = S.at.begun_is ∙ lt-ltb 0 (length (taken_in s journal)) M.begun in (
      subst (λ (l : List Entry). has_log engine' l) (sym (more logged journal act)) has,
      record {
        happened = happened_more [] journal act S.happened M;
        at = record {
          begun_is = begun ∙ was_begun ∙ begun_now journal s act (omega (arith, some_packet one.body, ap (λ (b : List ℕ). length b) (own_so s (packet one.body))));
          served = λ own.
              refused_served journal p.held.items p'.held.items p.output.items p'.output.items u one id number code e held output (none_written s) sent_own unsent
              (S.at.served (own_front s journal act own));
        };
        rules = given;
        others = λ other held output begun ne serves.
            let apart : s ≡ other → ⊥ = λ same. ne (sym same) in
            refused_serves journal other act e held output begun refl refl (other_so s other (packet one.body) apart) refl (other_so s other status apart) (none_written other)
            (sent_is other ∙ ap (λ (b : Bool). if b then length u else 0) (ne_eqb s other apart)) serves;
      },
    )

-- ---- one passage changes

pub changed_has : (r r' : Refusals) (journal after : List Act) (s at : ℕ) (p p' : Passage) → HasJournal r journal → slice_get r.passages.items at ≡ Some p → at + 1 ≡ s → r'.passages.items ≡ slice_set r.passages.items at p' → HoldsAfter journal s p' r'.rules.items after → HasJournal r' after
changed_has r r' journal after s at p p' H here number set C =
    let within : at < length r.passages.items = slice_get_within r.passages.items at p here in
    let long : length r'.passages.items ≡ length r.passages.items = ap (λ (ps : List Passage). length ps) set ∙ length-set r.passages.items at p' in
    record {
      happened = C.happened;
      each = λ i q got.
          let in_set : slice_get (slice_set r.passages.items at p') i ≡ Some q = ap (λ (ps : List Passage). slice_get ps i) (sym set) ∙ got in
          elim (cases_eq i at) [
            | inl same ↦
                let is : q ≡ p' = some_same q p' (sym in_set ∙ ap (λ (n : ℕ). slice_get (slice_set r.passages.items at p') n) same ∙ get_set_same r.passages.items at p p' here) in
                subst (λ (n : ℕ). IsPassageAt after n q) (sym number ∙ ap (λ (n : ℕ). n + 1) (sym same)) (subst (λ (x : Passage). IsPassageAt after s x) (sym is) C.at)
            | inr ne ↦
                C.others (i + 1) q.held.items q.output.items q.begun (λ same. omega (arith, same, number, ne))
                (H.each i q (sym (get_set_other r.passages.items at i p' ne) ∙ in_set))
          ];
      others = λ t none.
          let none' : (t ≡ 0) ⊎ (length r.passages.items < t) = elim none [ inl z ↦ inl z | inr lt ↦ inr (omega (arith, lt, long)) ] in
          C.others t [] [] false (λ same. elim none' [ inl z ↦ omega (arith, z, same, number) | inr lt ↦ omega (arith, lt, same, number, within) ]) (H.others t none');
      rules = C.rules;
    }
