-- The history is extended by one record.
use Rattle.std.specs.Prelude.{◌≡◌, ◌≢◌, ◌<◌, ◌≤◌, ◌+◌, ◌-◌, ◌^◌, ℕ, min, is_none, Bool, List, [], ◌∷◌, ◌++◌, length, Option, Some, None, refl}
use Rattle.std.specs.List.{AllByRecursion, count_by}
use Rattle.std.proofs.Common.{sym, ap, subst, ◌∙◌, inl, inr, arith}
use Rattle.sf_reply.specs.declared.reply.Reply.{Reply}
use Rattle.sf_call.specs.declared.call.Call.{Call}
use Rattle.sf_call.specs.declared.record.Record.{Record}
use Rattle.sf_call.specs.declared.record.Record.TheVariants.{Left}
use Rattle.sf_call.specs.Tree.{Tree}
use Rattle.sf_call.specs.Histories.{after, IsLegal, replay, IsNewNumber, IsPresent, IsOther, MayFollow, IsAmong}
use Rattle.sf_call.proofs.Laws.{replay-push, IsLegal-push}
use Rattle.sf_book.specs.Books.{BookView, is_call, excess, kept_of, gone_of, put}
use Rattle.sf_book.proofs.Laws.{kept-put, gone-put, call_count-split, call_count-append}
use Rattle.sf_keeps.specs.Keeps.{Keeps}
use Rattle.sf_coupling.proofs.Laws.{same_or_not}
use Rattle.sf_core.specs.Cores.{call_at, session_at, last_number, most_sessions}
use Rattle.sf_core.specs.Progress.{waiting_reply, did, undecided_in}
use Rattle.sf_core.specs.Histories.{IsHistory}
use Rattle.sf_core.specs.Parts.{PartsView, core_of}
use Rattle.sf_core.proofs.Maps.{some_eq, none_some, one_if}
use Rattle.sf_core.proofs.Updates.{one_by, Updates}

pub all_push : {A : Type 0} (P : A → Type 0) (xs : List A) (x : A) → AllByRecursion P xs → P x → AllByRecursion P (xs ++ x ∷ [])
all_push P [] x h p = (p, tt)
all_push P (y ∷ xs) x h p = (h.0, all_push P xs x h.1 p)

pub among_more : (r : Record) (h rs : List Record) → IsAmong r h → IsAmong r (h ++ rs)
unfolding IsAmong
among_more r [] rs a = absurd a
among_more r (x ∷ h) rs (inl e) = inl e
among_more r (x ∷ h) rs (inr a) = inr (among_more r h rs a)

pub among_last : (r : Record) (h : List Record) → IsAmong r (h ++ r ∷ [])
unfolding IsAmong
among_last r [] = inl refl
among_last r (x ∷ h) = inr (among_last r h)

-- ---- the book
-- the counts of calls after one more record: those whose records were dropped, before and after,
-- and those retained
record Counts (all : ℕ) : Type 0 where
  folded : ℕ
  gone : ℕ
  now : ℕ
  before : ℕ
  kept : ℕ
  total : ℕ
  as_gone : folded ≡ gone
  as_before : now ≡ before
  parts : gone + before ≡ all
  whole : all + kept ≡ total
  small : total < 2 ^ 63

few : (all : ℕ) (c : Counts all) → min (c.folded + c.now) (2 ^ 64 - 1) ≡ all
few all c =
    let as_gone = c.as_gone in
    let as_before = c.as_before in
    let parts = c.parts in
    let whole = c.whole in
    let small = c.small in
    omega (arith, as_gone, as_before, parts, whole, small)

-- the book has the history's last records, and counts the earlier ones
pub record IsWritten (b : BookView) (h : List Record) : Type 0 where
  pub records : b.records ≡ kept_of b.keep h
  pub folded : b.folded ≡ count_by is_call (gone_of b.keep h)

pub written_put : (b : BookView) (h : List Record) (r : Record) → IsWritten b h → count_by is_call (h ++ r ∷ []) < 2 ^ 63 → IsWritten (put b r) (h ++ r ∷ [])
written_put b h r w small = record {
  records = ap (λ (rs : List Record). kept_of b.keep (rs ++ r ∷ [])) w.records ∙ kept-put b.keep h r;
  folded =
      let y : count_by is_call (gone_of b.keep (b.records ++ r ∷ [])) ≡ count_by is_call (gone_of b.keep (kept_of b.keep h ++ r ∷ [])) =
      ap (λ (rs : List Record). count_by is_call (gone_of b.keep (rs ++ r ∷ []))) w.records in
      few (count_by is_call (gone_of b.keep (h ++ r ∷ []))) (record {
        folded = b.folded;
        gone = count_by is_call (gone_of b.keep h);
        now = count_by is_call (gone_of b.keep (b.records ++ r ∷ []));
        before = count_by is_call (gone_of b.keep (kept_of b.keep h ++ r ∷ []));
        kept = count_by is_call (kept_of b.keep (h ++ r ∷ []));
        total = count_by is_call (h ++ r ∷ []);
        as_gone = w.folded;
        as_before = y;
        parts = gone-put b.keep h r;
        whole = call_count-split (h ++ r ∷ []) (excess b.keep (h ++ r ∷ []));
        small = small;
      });
}

-- ---- the history after an event of one call and of one session: g is the old one, with records or without
module _ (p q : PartsView) (h g : List Record) (is : IsHistory (core_of p) h) (n session : ℕ) (was now : Option Call) (before after : Option (Option ℕ)) (calls : Updates p.calls q.calls n was now) (sessions : Updates p.sessions q.sessions session before after)
    (legal : IsLegal g) (written : IsWritten q.book g) (tree : Keeps q.store (replay g)) (counted : q.drawn ≡ count_by is_call g + undecided_in q.calls)
    (among : (r : Record) → IsAmong r h → IsAmong r g) (others : (m : ℕ) → m ≢ n → IsNewNumber m h → IsNewNumber m g)
    (undecided : (c : Call) → now ≡ Some c → waiting_reply c ≡ None → IsNewNumber n g) (decided : (c : Call) (given : Reply) → now ≡ Some c → waiting_reply c ≡ Some given → IsAmong (did c given) g)
    (later : (m : ℕ) → q.drawn < m → IsNewNumber m g) (present : (s : ℕ) → s ≢ session → IsPresent s h → IsPresent s g) (own : (o : Option ℕ) → after ≡ Some o → IsPresent session g)
    (newcomers : (s : ℕ) → q.joins < s → IsPresent s g) (few : length q.sessions ≤ most_sessions) where
  pub history_changed : IsHistory (core_of q) g
  history_changed = record {
    legal = legal;
    records = written.records;
    folded = written.folded;
    tree = tree;
    counted = counted;
    undecided = λ m c at none. elim (same_or_not m n) [
      | inl e ↦ subst (λ k. IsNewNumber k g) (sym e) (undecided c (sym calls.now_is ∙ ap (call_at q.calls) (sym e) ∙ at) none)
      | inr ne ↦ others m ne (is.undecided m c (sym (calls.rest m ne) ∙ at) none)
    ];
    decided = λ m c given at some. elim (same_or_not m n) [
      | inl e ↦ decided c given (sym calls.now_is ∙ ap (call_at q.calls) (sym e) ∙ at) some
      | inr ne ↦ among (did c given) (is.decided m c given (sym (calls.rest m ne) ∙ at) some)
    ];
    later = later;
    sessions = λ s o at. elim (same_or_not s session) [
      | inl e ↦ subst (λ k. IsPresent k g) (sym e) (own o (sym sessions.now_is ∙ ap (session_at q.sessions) (sym e) ∙ at))
      | inr ne ↦ present s ne (is.sessions s o (sym (sessions.rest s ne) ∙ at))
    ];
    newcomers = newcomers;
    few = few;
  }

-- a call after its record: it is removed, or is the same call with its reply
pub data IsLeft (c : Call) (given : Reply) : Option Call → Type 0 where
  Gone : IsLeft c given None
  Waits : (d : Call) → waiting_reply d ≡ Some given → did d given ≡ did c given → IsLeft c given (Some d)

abbrev pub is_undecided : Call → Bool
is_undecided c = is_none (waiting_reply c)

left_decided : (c : Call) (given : Reply) (now : Option Call) → IsLeft c given now → one_by is_undecided now ≡ 0
left_decided c given now Gone = refl
left_decided c given now (Waits d e same) = ap (λ (o : Option Reply). one_if (is_none o)) e

-- ---- the record of a call
module _ (p q : PartsView) (h : List Record) (is : IsHistory (core_of p) h) (c : Call) (given : Reply) (now : Option Call) (calls : Updates p.calls q.calls c.number (Some c) now) (undecided : waiting_reply c ≡ None) (left : IsLeft c given now)
    (slot : Option ℕ) (sessions : Updates p.sessions q.sessions c.session (Some (Some c.number)) (Some slot))
    (follow : MayFollow h (did c given)) (keeps : Keeps q.store (after (replay h) (did c given))) (book : q.book ≡ put p.book (did c given)) (drawn : q.drawn ≡ p.drawn) (joins : q.joins ≡ p.joins)
    (most : c.number ≤ p.drawn) (fits : p.drawn ≤ last_number) where
  abbrev r : Record
  r = did c given

  new_after : (m : ℕ) → m ≢ c.number → IsNewNumber m h → IsNewNumber m (h ++ r ∷ [])
  new_after m ne k = all_push (IsOther m) h r k (λ e. ne (sym e))

  present_after : (s : ℕ) → IsPresent s h → IsPresent s (h ++ r ∷ [])
  present_after s k = all_push (λ (x : Record). x ≢ Left s) h r k (λ e. cc)

  -- one undecided call fewer
  pub fewer : undecided_in q.calls + 1 ≡ undecided_in p.calls
  fewer =
      let a = calls.passes is_undecided in
      let b = ap (λ (o : Option Reply). one_if (is_none o)) undecided in
      omega (arith, a, b, left_decided c given now left)

  counted_now : q.drawn ≡ count_by is_call (h ++ r ∷ []) + undecided_in q.calls
  counted_now = let a = is.counted in omega (arith, a, drawn, fewer, call_count-append h (r ∷ []))

  own_by : (o : Option Call) → IsLeft c given o → (d : Call) → o ≡ Some d → (waiting_reply d ≡ Some given) × IsAmong (did d given) (h ++ r ∷ [])
  own_by o Gone d at = absurd (none_some d at)
  own_by o (Waits f reply same) d at =
      let e = some_eq f d at in subst (λ (x : Call). (waiting_reply x ≡ Some given) × IsAmong (did x given) (h ++ r ∷ [])) e (reply, subst (λ (x : Record). IsAmong x (h ++ r ∷ [])) (sym same) (among_last r h))

  pub history_recorded : IsHistory (core_of q) (h ++ r ∷ [])
  history_recorded =
      history_changed p q h (h ++ r ∷ []) is c.number c.session (Some c) now (Some (Some c.number)) (Some slot) calls sessions (IsLegal-push h r is.legal follow)
      (subst (λ (b : BookView). IsWritten b (h ++ r ∷ [])) (sym book) (written_put p.book h r (record { records = is.records; folded = is.folded }) (let a = counted_now in omega (arith, a, drawn, fits))))
      (subst (λ (t : Tree). Keeps q.store t) (sym (replay-push h r)) keeps) counted_now (λ x a. among_more x h (r ∷ []) a) new_after
      (λ d e none. absurd (none_some given (sym none ∙ (own_by now left d e).0)))
      (λ d g e some. let w = own_by now left d e in subst (λ (x : Reply). IsAmong (did d x) (h ++ r ∷ [])) (some_eq given g (sym w.0 ∙ some)) w.1)
      (λ m less. new_after m (λ e. absurd (omega (arith, most, less, e, drawn))) (is.later m (omega (arith, less, drawn))))
      (λ s ne k. present_after s k) (λ o e. present_after c.session (is.sessions c.session (Some c.number) sessions.was_is)) (λ s less. present_after s (is.newcomers s (omega (arith, less, joins))))
      (let a = is.few in let b = sessions.size in omega (arith, a, b))
