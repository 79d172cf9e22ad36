-- Deciding on the first buffered packet.
use Rattle.std.proofs.Common.{◌≡◌, ℕ, ◌+◌, ◌-◌, ◌<◌, ◌⊎◌, List, [], ◌∷◌, ◌++◌, Bool, true, false, Some, Result, Ok, Err, length, take, drop, slice_get, refl, ap, sym, ◌∙◌, subst, arith, inl, inr, append-nil}
use Rattle.std.specs.Prelude.{nat_lt, ◌&&◌, if◌then◌else◌, slice_range}
use Rattle.std.proofs.lemmas.List.{take-append-drop, append_cancel_right, append_cancel_left, drop-take, take_all, length-take-le, nil_from_length}
use Rattle.std.proofs.lemmas.Bool.{ltb-true, ltb-false}
use Rattle.sf_path.specs.Names.{Path}
use Rattle.sf_field.specs.Fields.{packet}
use Rattle.sf_request.specs.declared.request.WireRequest.{WireRequest}
use Rattle.sf_request.specs.declared.request.Asked.{Asked}
use Rattle.sf_request.specs.declared.request.Asked.TheVariants.{Init, Request, Limits, BadFields, Unknown, NoVersion, NoId}
use Rattle.sf_request.specs.Requests.{Asks}
use Rattle.sf_reply.specs.declared.reply.StatusCode.{StatusCode}
use Rattle.sf_reply.specs.declared.reply.Reply.TheVariants.{Status}
use Rattle.sf_reply.specs.Replies.{reply_body}
use Rattle.sf_wire.specs.declared.cutting.Cut.TheVariants as cut
use Rattle.sf_wire.specs.declared.cutting.BadCut.{BadCut}
use Rattle.sf_wire.specs.declared.cutting.BadCut.TheVariants.{ZeroLength, TooLong}
use Rattle.sf_wire.specs.Packets.{IsCut}
use Rattle.sf_wire.specs.Streams.{HasBody}
use Rattle.sf_engine.specs.declared.event.EngineFault.{EngineFault}
use Rattle.sf_engine.specs.declared.event.EngineFault.TheVariants as fault
use Rattle.sf_engine.specs.Promise.{Entry, BytesSent}
use Rattle.sf_refusing.specs.declared.rule.Rule.{Rule}
use Rattle.sf_refusing.specs.declared.rule.RequestKind.{RequestKind}
use Rattle.sf_refusing.specs.declared.given.GivenRule.{GivenRule}
use Rattle.sf_refusing.specs.declared.passage.Passage.{Passage}
use Rattle.sf_refusing.specs.Rules.{kind_asked, paths_of, fits}
use Rattle.sf_refusing.specs.Counting.{is_ready, counted_if}
use Rattle.sf_refusing.specs.Journal.{Act, Made, PassedOn, RefusedBy, Packet, log_of, taken_in, rules_in, fits_asked, fits_packet}
use Rattle.sf_refusing.specs.Refusing.{IsFed, IsUnruled, MayPass, MayRefusePacket, HasUnsent, ServesHere, AreGiven, MovesFront}
use Rattle.sf_refusing.specs.Fronts.{IsPassageAt, StandsBefore, EngineHoldsAfter}
use Rattle.std.proofs.lemmas.Option.{slice_get_within}
use Rattle.sf_refusing.proofs.Counts.{got_at, AreCounted, refuses_is, none_refuses, pass_rules, refuse_rules, rules_stay}
use Rattle.sf_refusing.proofs.Steps.{nothing_leaves, did_leaves, passed_leaves, refused_leaves, fed_is}
use Rattle.sf_refusing.proofs.Growing.{own_so}

-- the decision on the first packet
abbrev pub IsDone : {E : Type 0} → (E → List Entry → Type 0) → E → List Act → ℕ → Passage → List GivenRule → Result Bool EngineFault → Type 0
IsDone has_log engine journal s p rules r = (acts : List Act) × MovesFront journal s r acts × EngineHoldsAfter has_log engine journal s p rules (journal ++ acts)

-- the body of the first packet
abbrev pub body_at : List ℕ → ℕ → List ℕ
body_at bytes len = drop 4 (take len bytes)

front_packet : (bytes : List ℕ) (len : ℕ) → HasBody bytes len → take len bytes ≡ packet (body_at bytes len)
front_packet bytes len B = append_cancel_right (take len bytes) (packet (body_at bytes len)) (drop len bytes) (take-append-drop len bytes ∙ B.parts)

pub seen_body : (bytes held : List ℕ) (len : ℕ) → bytes ≡ held → HasBody held len → slice_range bytes 4 len ≡ body_at held len
seen_body bytes held len same B =
    let n : len ≡ 4 + (len - 4) = omega (arith, B.long) in
    ap (λ (b : List ℕ). slice_range b 4 len) same ∙ sym (ap (λ (k : ℕ). drop 4 (take k held)) n ∙ drop-take 4 (len - 4) held)

-- no rule matches a packet that is no request
no_fit : (rule : Rule) (s : ℕ) (asked : Asked) → ((id : ℕ) (request : WireRequest) → asked ≡ Request id request → ⊥) → fits_asked rule s asked ≡ false
no_fit rule s (Init version) none = refl
no_fit rule s (Request id request) none = absurd (none id request refl)
no_fit rule s (Limits id) none = refl
no_fit rule s (BadFields id) none = refl
no_fit rule s (Unknown id) none = refl
no_fit rule s NoVersion none = refl
no_fit rule s NoId none = refl

pub done_nothing : {E : Type 0} (has_log : E → List Entry → Type 0) (engine : E) (journal : List Act) (s : ℕ) (p : Passage) (rules : List GivenRule) (r : Result Bool EngineFault) → MovesFront journal s r [] → StandsBefore has_log engine journal s p rules → IsDone has_log engine journal s p rules r
done_nothing {E} has_log engine journal s p rules r moves S = ([], moves, nothing_leaves has_log engine journal s p rules S)

-- less than a packet is buffered
pub none_held : {E : Type 0} (has_log : E → List Entry → Type 0) (engine : E) (journal : List Act) (s : ℕ) (p : Passage) (rules : List GivenRule) → StandsBefore has_log engine journal s p rules → IsCut p.held.items cut.More → MovesFront journal s (Ok false) []
none_held {E} has_log engine journal s p rules S more = λ waits own held received.
    let is : p.held.items ≡ held = append_cancel_left (taken_in s journal) p.held.items held (sym (S.at.served own).received ∙ received) in
    subst (λ (b : List ℕ). IsCut b cut.More) is more

-- bytes to which no rule applies were passed on
pub done_did : {E : Type 0} (has_log : E → List Entry → Type 0) (engine engine' : E) (journal : List Act) (s : ℕ) (p p' : Passage) (rules : List GivenRule) (e : Entry) (len : ℕ) → StandsBefore has_log engine journal s p rules → IsFed s (take len p.held.items) e → has_log engine' (log_of journal ++ e ∷ []) → p'.held.items ≡ drop len p.held.items → p'.output.items ≡ p.output.items → p'.begun ≡ true → 0 < length (take len p.held.items) → IsUnruled journal s (take len p.held.items) → IsDone has_log engine' journal s p' rules (Ok false)
done_did {E} has_log engine engine' journal s p p' rules e len S F has held output begun some unruled =
    let front : List ℕ = take len p.held.items in (
      Made e ∷ [],
      omega (arith, some, ap (λ (b : List ℕ). length b) (fed_is s front e F s ∙ own_so s front)),
      did_leaves has_log engine engine' journal s p p' rules e front S F has
          (sym (take-append-drop len p.held.items) ∙ ap (λ (b : List ℕ). front ++ b) (sym held)) output begun some unruled,
    )

-- a packet of a session that has begun
held_is : (p p' : Passage) (len : ℕ) → HasBody p.held.items len → p'.held.items ≡ drop len p.held.items → p.held.items ≡ packet (body_at p.held.items len) ++ p'.held.items
held_is p p' len B held = B.parts ∙ ap (λ (b : List ℕ). packet (body_at p.held.items len) ++ b) (sym held)

-- a packet that is no request was passed on
pub done_other : {E : Type 0} (has_log : E → List Entry → Type 0) (engine engine' : E) (journal : List Act) (s : ℕ) (p p' : Passage) (rules : List GivenRule) (e : Entry) (len : ℕ) (asked : Asked) → StandsBefore has_log engine journal s p rules → HasBody p.held.items len → Asks (body_at p.held.items len) asked → ((id : ℕ) (request : WireRequest) → asked ≡ Request id request → ⊥) → IsFed s (take len p.held.items) e → has_log engine' (log_of journal ++ e ∷ []) → p'.held.items ≡ drop len p.held.items → p'.output.items ≡ p.output.items → p'.begun ≡ true → IsDone has_log engine' journal s p' rules (Ok false)
done_other {E} has_log engine engine' journal s p p' rules e len asked S B asks none F has held output begun =
    let one : Packet = record { session = s; body = body_at p.held.items len; asked = asked } in
    let no : (rule : Rule) → fits_packet rule one ≡ false = λ rule. no_fit rule s asked none in
    let may : MayPass journal one e = record {
      is_body = B.is_body;
      asks = asks;
      fed = subst (λ (b : List ℕ). IsFed s b e) (front_packet p.held.items len B) F;
      passes = none_refuses journal rules one S.rules (λ number given at. ap (λ (b : Bool). b && is_ready given) (no given.rule));
    } in (
      PassedOn one e ∷ [],
      refl,
      passed_leaves has_log engine engine' journal p p' rules rules e one S may has (held_is p p' len B held) output begun
          (rules_stay journal rules (PassedOn one e) S.rules refl (λ number rule. ap (λ (b : Bool). if b then 1 else 0) (no rule)) (λ number. refl)),
    )

-- ---- a request, as rules examine it

same_fit : (rules rules' : List GivenRule) (count : ℕ) (fit fit' : GivenRule → Bool) → ((given : GivenRule) → fit given ≡ fit' given) → AreCounted rules rules' count fit → AreCounted rules rules' count fit'
same_fit rules rules' count fit fit' same C = (
  C.0,
  λ number given at. C.1 number given at ∙ ap (λ (b : Bool). Some (counted_if (nat_lt number count && b) given)) (same given),
)

-- the subject of a request has its kind and paths
pub record IsSeen (s : ℕ) (request : WireRequest) (session : ℕ) (kind : RequestKind) (paths : List Path) : Type 0 where
  pub session_is : session ≡ s
  pub kind_is : kind ≡ kind_asked request
  pub paths_are : paths ≡ paths_of request

fit_is : (s : ℕ) (request : WireRequest) (session : ℕ) (kind : RequestKind) (paths : List Path) → IsSeen s request session kind paths → (rule : Rule) → fits rule session kind paths ≡ fits rule s (kind_asked request) (paths_of request)
fit_is s request session kind paths I rule =
    ap (λ (n : ℕ). fits rule n kind paths) I.session_is ∙ ap (λ (k : RequestKind). fits rule s k paths) I.kind_is
    ∙ ap (λ (ps : List Path). fits rule s (kind_asked request) ps) I.paths_are

-- a request that no rule refuses was passed on
pub done_pass : {E : Type 0} (has_log : E → List Entry → Type 0) (engine engine' : E) (journal : List Act) (s : ℕ) (p p' : Passage) (rules rules' : List GivenRule) (e : Entry) (len id : ℕ) (request : WireRequest) (session : ℕ) (kind : RequestKind) (paths : List Path) → StandsBefore has_log engine journal s p rules → HasBody p.held.items len → Asks (body_at p.held.items len) (Request id request) → IsSeen s request session kind paths → ((number : ℕ) (given : GivenRule) → slice_get rules number ≡ Some given → (fits given.rule session kind paths && is_ready given) ≡ false) → IsFed s (take len p.held.items) e → has_log engine' (log_of journal ++ e ∷ []) → p'.held.items ≡ drop len p.held.items → p'.output.items ≡ p.output.items → p'.begun ≡ true → AreCounted rules rules' (length rules) (λ given. fits given.rule session kind paths) → IsDone has_log engine' journal s p' rules' (Ok false)
done_pass {E} has_log engine engine' journal s p p' rules rules' e len id request session kind paths S B asks I none F has held output begun C =
    let one : Packet = record { session = s; body = body_at p.held.items len; asked = Request id request } in
    let same : (rule : Rule) → fits rule session kind paths ≡ fits_packet rule one = fit_is s request session kind paths I in
    let none' : (number : ℕ) (given : GivenRule) → slice_get rules number ≡ Some given → (fits_packet given.rule one && is_ready given) ≡ false =
    λ number given at. ap (λ (b : Bool). b && is_ready given) (sym (same given.rule)) ∙ none number given at in
    let may : MayPass journal one e = record {
      is_body = B.is_body;
      asks = asks;
      fed = subst (λ (b : List ℕ). IsFed s b e) (front_packet p.held.items len B) F;
      passes = none_refuses journal rules one S.rules none';
    } in (
      PassedOn one e ∷ [],
      refl,
      passed_leaves has_log engine engine' journal p p' rules rules' e one S may has (held_is p p' len B held) output begun
          (pass_rules journal rules rules' one e S.rules (same_fit rules rules' (length rules) (λ given. fits given.rule session kind paths) (λ given. fits_packet given.rule one) (λ given. same given.rule) C) none'),
    )

-- a request was refused
pub done_refuse : {E : Type 0} (has_log : E → List Entry → Type 0) (engine engine' : E) (journal : List Act) (s : ℕ) (p p' : Passage) (rules rules' : List GivenRule) (e : Entry) (u : List ℕ) (len id : ℕ) (request : WireRequest) (session : ℕ) (kind : RequestKind) (paths : List Path) (number : ℕ) (given : GivenRule) (code : StatusCode) → StandsBefore has_log engine journal s p rules → HasBody p.held.items len → p.begun ≡ true → Asks (body_at p.held.items len) (Request id request) → IsSeen s request session kind paths → slice_get rules number ≡ Some given → code ≡ given.rule.code → (fits given.rule session kind paths && is_ready given) ≡ true → ((other : ℕ) (found : GivenRule) → other < number → slice_get rules other ≡ Some found → (fits found.rule session kind paths && is_ready found) ≡ false) → e ≡ BytesSent s (length u) → HasUnsent (log_of journal) s u → has_log engine' (log_of journal ++ e ∷ []) → p'.held.items ≡ drop len p.held.items → p'.output.items ≡ p.output.items ++ u ++ packet (reply_body id (Status code)) → p'.begun ≡ p.begun → AreCounted rules rules' (number + 1) (λ given. fits given.rule session kind paths) → IsDone has_log engine' journal s p' rules' (Ok true)
done_refuse {E} has_log engine engine' journal s p p' rules rules' e u len id request session kind paths number given code S B was_begun asks I here code_is ready first sent unsent has held output begun C =
    let one : Packet = record { session = s; body = body_at p.held.items len; asked = Request id request } in
    let same : (rule : Rule) → fits rule session kind paths ≡ fits_packet rule one = fit_is s request session kind paths I in
    let ready' : (fits_packet given.rule one && is_ready given) ≡ true = ap (λ (b : Bool). b && is_ready given) (sym (same given.rule)) ∙ ready in
    let first' : (other : ℕ) (found : GivenRule) → other < number → slice_get rules other ≡ Some found → (fits_packet found.rule one && is_ready found) ≡ false =
    λ other found lt at. ap (λ (b : Bool). b && is_ready found) (sym (same found.rule)) ∙ first other found lt at in
    let G = S.rules.each number given here in
    let may : MayRefusePacket journal one id number code e = record {
      request = request;
      asked = refl;
      is_body = B.is_body;
      asks = asks;
      begun = ltb-true 0 (length (taken_in s journal)) (sym S.at.begun_is ∙ was_begun);
      waits = S.waits;
      rule = given.rule;
      since = G.since;
      given = G.is;
      code_is = code_is;
      refused = refuses_is journal number given one G ∙ ready';
      first = λ other lt.
          let got = got_at rules other (omega (arith, lt, slice_get_within rules number given here)) in
          refuses_is journal other got.0 one (S.rules.each other got.0 got.1) ∙ first' other got.0 lt got.1;
      sent = length u;
      is = sent;
    } in (
      RefusedBy one id number code e ∷ [],
      (one, id, number, code, e, refl, refl),
      refused_leaves has_log engine engine' journal p p' rules rules' u one id number code e S may sent unsent has (held_is p p' len B held) output begun
          (refuse_rules journal rules rules' one id number code e given S.rules (same_fit rules rules' (number + 1) (λ given. fits given.rule session kind paths) (λ given. fits_packet given.rule one) (λ given. same given.rule) C) here ready' first'),
    )

-- nothing was done, since memory ran out
pub done_err : {E : Type 0} (has_log : E → List Entry → Type 0) (engine engine' : E) (journal : List Act) (s : ℕ) (p p' : Passage) (rules : List GivenRule) (r : Result Bool EngineFault) (f : EngineFault) → r ≡ Err f → f ≡ fault.OutOfMemory → engine' ≡ engine → p'.held.items ≡ p.held.items → p'.output.items ≡ p.output.items → p'.begun ≡ p.begun → StandsBefore has_log engine journal s p rules → IsDone has_log engine' journal s p' rules r
done_err {E} has_log engine engine' journal s p p' rules r f is oom same held output begun S =
    let at : ServesHere journal s p'.held.items p'.output.items p'.begun =
    subst (λ (b : Bool). ServesHere journal s p'.held.items p'.output.items b) (sym begun)
    (subst (λ (o : List ℕ). ServesHere journal s p'.held.items o p.begun) (sym output)
    (subst (λ (h : List ℕ). ServesHere journal s h p.output.items p.begun) (sym held) S.at)) in
    subst (λ (x : Result Bool EngineFault). IsDone has_log engine' journal s p' rules x) (sym is) (
      [],
      (oom, refl, S.waits),
      subst (λ (after : List Act). EngineHoldsAfter has_log engine' journal s p' rules after) (sym (append-nil journal))
          (subst (λ (e : E). has_log e (log_of journal)) (sym same) S.has, record { happened = S.happened; at = at; rules = S.rules; others = λ other held output begun ne serves. serves }),
    )

-- an invalid length, with all that follows it, was passed on
bad_some : (bytes : List ℕ) (cause : BadCut) → IsCut bytes (cut.Bad cause) → 0 < length bytes
bad_some bytes ZeroLength bad = omega (arith, ap (λ (b : List ℕ). length b) bad.1)
bad_some bytes TooLong bad = omega (arith, ap (λ (b : List ℕ). length b) bad.4)

pub bad_goes : (journal : List Act) (s : ℕ) (held : List ℕ) (len : ℕ) (cause : BadCut) → len ≡ length held → IsCut held (cut.Bad cause) → (0 < length (take len held)) × IsUnruled journal s (take len held)
bad_goes journal s held len cause all bad =
    let is : held ≡ take len held = sym (take_all len held (omega (arith, all))) in (
      subst (λ (b : List ℕ). 0 < length b) is (bad_some held cause bad),
      inr (inl (cause, subst (λ (b : List ℕ). IsCut b (cut.Bad cause)) is bad)),
    )

-- a session's first packet, or one before any rule, was passed on
pub unruled_goes : (journal : List Act) (s : ℕ) (p : Passage) (rules : List GivenRule) (len : ℕ) → IsPassageAt journal s p → AreGiven journal rules → (p.begun ≡ false) ⊎ (rules ≡ []) → HasBody p.held.items len → (0 < length (take len p.held.items)) × IsUnruled journal s (take len p.held.items)
unruled_goes journal s p rules len S A free B =
    let none : (taken_in s journal ≡ []) ⊎ (rules_in journal ≡ []) = elim free [
      | inl fresh ↦ inl (nil_from_length (taken_in s journal) (omega (arith, ltb-false 0 (length (taken_in s journal)) (sym S.begun_is ∙ fresh))))
      | inr empty ↦ inr (nil_from_length (rules_in journal) (sym A.count ∙ ap (λ (rs : List GivenRule). length rs) empty))
    ] in (
      omega (arith, length-take-le len p.held.items B.within, B.long),
      inr (inr (none, (body_at p.held.items len, B.is_body, front_packet p.held.items len B))),
    )
