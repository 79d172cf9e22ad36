-- A worker serves its streams beside each other.
use Rattle.std.proofs.Common.{◌≡◌, ℕ, ◌+◌, List, [], ◌∷◌, ◌++◌, Option, Bool, All, refl, sym, ap, ◌∙◌, subst, append_assoc, append-nil, length-append, arith}
use Rattle.std.specs.Prelude.{map, filter_map, IsPermutation}
use Rattle.std.proofs.lemmas.List.{map-append, length-map}
use Rattle.std.proofs.lemmas.List.Elements.{All-nil, All-cons, All-append, All-map, All-head, All-tail, filter_map-append}
use Rattle.std.proofs.lemmas.List.Sorted.{IsPermutation-refl, IsPermutation-trans, IsPermutation-to_front, IsPermutation-append_left, IsPermutation-append_right, IsPermutation-map, All-permutation, length_permutation}
use Rattle.sf_connection.specs.Streams.{StreamView}
use Rattle.sf_noted.specs.Pages.{Page}
use Rattle.sf_pool.specs.SessionLanes.{Notes}
use Rattle.sf_pool.proofs.Laws.{notes_none, notes_more}
use Rattle.sf_workers.specs.Streams.{SourceView, Service, IsServedOnce, ServesStreams, ServesSource, ServesEach}

module _ {L : Type 0} (view : L → StreamView) where
  abbrev Served : Service L → Type 0
  Served s = IsServedOnce s.session (view s.start) (view s.finish)

  abbrev session_of : Service L → Option (ℕ × Page)
  session_of s = s.session

  -- no stream was returned
  pub none_served : (before arrived after : List L) (r r' : Option (List L)) (ss ss' : List (ℕ × Page)) → IsPermutation (before ++ arrived) after → r' ≡ r → ss' ≡ ss → ServesStreams view before arrived after r r' ss ss'
  none_served before arrived after r r' ss ss' are same same' = record {
    services = [];
    each = All-nil Served;
    are = are;
    returns = notes_none r r' same;
    are_all = same' ∙ sym (append-nil ss);
  }

  -- one was
  pub one_served : (s : Service L) (before arrived after : List L) (r r' : Option (List L)) (ss ss' : List (ℕ × Page)) → Served s → IsPermutation (before ++ arrived) (s.start ∷ after) → Notes r r' (s.finish ∷ [])
      → ss' ≡ ss ++ filter_map session_of (s ∷ []) → ServesStreams view before arrived after r r' ss ss'
  one_served s before arrived after r r' ss ss' served are returns more = record {
    services = s ∷ [];
    each = All-cons Served s [] served (All-nil Served);
    are = are;
    returns = returns;
    are_all = more;
  }

  pub streams_then : (before a mid b after : List L) (r r' r'' : Option (List L)) (ss ss' ss'' : List (ℕ × Page)) → ServesStreams view before a mid r r' ss ss' → ServesStreams view mid b after r' r'' ss' ss'' → ServesStreams view before (a ++ b) after r r'' ss ss''
  streams_then before a mid b after r r' r'' ss ss' ss'' one other =
      let starts = map (λ (s : Service L). s.start) one.services in
      let others = map (λ (s : Service L). s.start) other.services in
      let first = IsPermutation-append_left b (before ++ a) (starts ++ mid) one.are in
      let last = IsPermutation-append_right starts (mid ++ b) (others ++ after) other.are in
      let whole : IsPermutation ((before ++ a) ++ b) ((starts ++ others) ++ after) =
      IsPermutation-trans _ _ _ first
      (subst (λ (l : List L). IsPermutation l ((starts ++ others) ++ after)) (sym (append_assoc starts mid b))
      (subst (λ (l : List L). IsPermutation (starts ++ (mid ++ b)) l) (sym (append_assoc starts others after)) last)) in
      record {
        services = one.services ++ other.services;
        each = All-append Served one.services other.services one.each other.each;
        are = subst (λ (l : List L). IsPermutation l (map (λ (s : Service L). s.start) (one.services ++ other.services) ++ after)) (append_assoc before a b)
            (subst (λ (l : List L). IsPermutation ((before ++ a) ++ b) (l ++ after)) (sym (map-append (λ (s : Service L). s.start) one.services other.services)) whole);
        returns = subst (λ (l : List L). Notes r r'' l) (sym (map-append (λ (s : Service L). s.finish) one.services other.services))
            (notes_more r r' r'' (map (λ (s : Service L). s.finish) one.services) (map (λ (s : Service L). s.finish) other.services) one.returns other.returns);
        are_all = other.are_all ∙ ap (λ (l : List (ℕ × Page)). l ++ filter_map session_of other.services) one.are_all
            ∙ append_assoc ss (filter_map session_of one.services) (filter_map session_of other.services)
            ∙ ap (λ (l : List (ℕ × Page)). ss ++ l) (sym (filter_map-append session_of one.services other.services));
      }

  -- nothing happened to the streams
  pub source_same : (v v' : SourceView L) (before after : List L) (ss ss' : List (ℕ × Page)) → Notes v.received v'.received [] → v'.count ≡ v.count → v'.returned ≡ v.returned → after ≡ before → ss' ≡ ss → ServesSource view v v' before after ss ss'
  source_same v v' before after ss ss' receives count returned same same_sessions = record {
    arrived = [];
    receives = receives;
    many = omega (arith, count);
    streams = none_served before [] after v.returned v'.returned ss ss' (subst (IsPermutation (before ++ [])) (append-nil before ∙ sym same) (IsPermutation-refl (before ++ []))) returned same_sessions;
  }

  -- nothing arrived
  pub source_idle : (v v' : SourceView L) (before after : List L) (ss ss' : List (ℕ × Page)) → v'.received ≡ v.received → v'.count ≡ v.count → ServesStreams view before [] after v.returned v'.returned ss ss' → ServesSource view v v' before after ss ss'
  source_idle v v' before after ss ss' received count streams =
      record { arrived = []; receives = notes_none v.received v'.received received; many = omega (arith, count); streams = streams }

  pub source_then : (u v w : SourceView L) (before mid after : List L) (ss ss' ss'' : List (ℕ × Page)) → ServesSource view u v before mid ss ss' → ServesSource view v w mid after ss' ss'' → ServesSource view u w before after ss ss''
  source_then u v w before mid after ss ss' ss'' one other = record {
    arrived = one.arrived ++ other.arrived;
    receives = notes_more u.received v.received w.received one.arrived other.arrived one.receives other.receives;
    many = omega (arith, one.many, other.many, length-append one.arrived other.arrived);
    streams = streams_then before one.arrived mid other.arrived after u.returned v.returned w.returned ss ss' ss'' one.streams other.streams;
  }

  abbrev view_of : Service L → Service StreamView
  view_of s = record { start = view s.start; finish = view s.finish; session = s.session }

  same_sessions : (ss : List (Service L)) → filter_map (λ (s : Service StreamView). s.session) (map view_of ss) ≡ filter_map session_of ss
  same_sessions [] = refl
  same_sessions (s ∷ ss) =
      filter_map-append (λ (x : Service StreamView). x.session) (view_of s ∷ []) (map view_of ss)
      ∙ (ap (λ (l : List (ℕ × Page)). filter_map session_of (s ∷ []) ++ l) (same_sessions ss) ∙ sym (filter_map-append session_of (s ∷ []) ss))

  -- what remains of a worker's streams once none is before
  pub each_of : (v v' : SourceView L) (sessions : List (ℕ × Page)) → ServesSource view v v' [] [] [] sessions → v.count ≡ 0 → ServesEach v'.count sessions
  each_of v v' sessions all none =
      let served = all.streams.services in
      record {
        services = map view_of served;
        each = All-map (λ (s : Service StreamView). IsServedOnce s.session s.start s.finish) view_of served all.streams.each;
        many = omega (
          arith,
          all.many,
          none,
          length-map served view_of,
          length-map served (λ (s : Service L). s.start),
          length-append (map (λ (s : Service L). s.start) served) [],
          length_permutation all.arrived (map (λ (s : Service L). s.start) served ++ []) all.streams.are,
        );
        are_all = same_sessions served ∙ sym all.streams.are_all;
      }

-- the streams of open connections
module _ {L V : Type 0} (start : V → L) where
  pub opens : (vs vs' : List V) (v : V) (stream : L) → IsPermutation (v ∷ vs) vs' → start v ≡ stream → IsPermutation (map start vs ++ stream ∷ []) (map start vs')
  opens vs vs' v stream more is =
      IsPermutation-trans _ _ _ (IsPermutation-to_front (map start vs) stream)
      (subst (λ (x : L). IsPermutation (x ∷ map start vs) (map start vs')) is (IsPermutation-map start (v ∷ vs) vs' more))

  pub closes : (vs vs' : List V) (v : V) → IsPermutation vs (v ∷ vs') → IsPermutation (map start vs ++ []) (start v ∷ map start vs')
  closes vs vs' v less = subst (λ (l : List L). IsPermutation l (start v ∷ map start vs')) (sym (append-nil (map start vs))) (IsPermutation-map start vs (v ∷ vs') less)

  pub goes_on : (vs mid vs' : List V) (v v' : V) → IsPermutation vs (v ∷ mid) → IsPermutation (v' ∷ mid) vs' → start v' ≡ start v → IsPermutation (map start vs ++ []) (map start vs')
  goes_on vs mid vs' v v' less more same =
      IsPermutation-trans _ _ _ (closes vs mid v less)
      (subst (λ (x : L). IsPermutation (x ∷ map start mid) (map start vs')) same (IsPermutation-map start (v' ∷ mid) vs' more))

-- the sessions of open connections
module _ {V : Type 0} (goes_on : V → Type 0) (keeps_of : V → Bool) where
  abbrev GoesOn : Bool → V → Type 0
  GoesOn keeps v = goes_on v × (keeps_of v ≡ keeps)

  pub same_go_on : (keeps keeps' : Bool) (vs vs' : List V) → keeps' ≡ keeps → vs' ≡ vs → All (GoesOn keeps) vs → All (GoesOn keeps') vs'
  same_go_on keeps keeps' vs vs' same same' all =
      subst (λ (b : Bool). All (GoesOn b) vs') (sym same) (subst (λ (l : List V). All (GoesOn keeps) l) (sym same') all)

  pub none_go_on : (keeps : Bool) (vs : List V) → vs ≡ [] → All (GoesOn keeps) vs
  none_go_on keeps vs none = same_go_on keeps keeps [] vs refl none (All-nil (GoesOn keeps))

  pub more_go_on : (keeps keeps' : Bool) (vs vs' : List V) (v : V) → keeps' ≡ keeps → goes_on v → keeps_of v ≡ keeps → IsPermutation (v ∷ vs) vs' → All (GoesOn keeps) vs → All (GoesOn keeps') vs'
  more_go_on keeps keeps' vs vs' v same goes own more all =
      same_go_on keeps keeps' vs' vs' same refl (All-permutation (GoesOn keeps) (v ∷ vs) vs' more (All-cons (GoesOn keeps) v vs (goes, own) all))

  -- one of them, and the others
  pub one_goes_on : (keeps : Bool) (vs vs' : List V) (v : V) → IsPermutation vs (v ∷ vs') → All (GoesOn keeps) vs → goes_on v × (keeps_of v ≡ keeps)
  one_goes_on keeps vs vs' v less all = All-head (GoesOn keeps) v vs' (All-permutation (GoesOn keeps) vs (v ∷ vs') less all)

  pub others_go_on : (keeps keeps' : Bool) (vs vs' : List V) (v : V) → keeps' ≡ keeps → IsPermutation vs (v ∷ vs') → All (GoesOn keeps) vs → All (GoesOn keeps') vs'
  others_go_on keeps keeps' vs vs' v same less all =
      same_go_on keeps keeps' vs' vs' same refl (All-tail (GoesOn keeps) v vs' (All-permutation (GoesOn keeps) vs (v ∷ vs') less all))

-- no streams
pub each_none : (streams : ℕ) (sessions : List (ℕ × Page)) → streams ≡ 0 → sessions ≡ [] → ServesEach streams sessions
each_none streams sessions nought none = record {
  services = [];
  each = All-nil (λ (s : Service StreamView). IsServedOnce s.session s.start s.finish);
  many = omega (arith, nought);
  are_all = sym none;
}

-- the streams of two workers
pub each_both : (n m both : ℕ) (xs ys all : List (ℕ × Page)) → ServesEach n xs → ServesEach m ys → both ≡ n + m → all ≡ xs ++ ys → ServesEach both all
each_both n m both xs ys all one other sum are = record {
  services = one.services ++ other.services;
  each = All-append (λ (s : Service StreamView). IsServedOnce s.session s.start s.finish) one.services other.services one.each other.each;
  many = omega (arith, sum, one.many, other.many, length-append one.services other.services);
  are_all = filter_map-append (λ (s : Service StreamView). s.session) one.services other.services ∙ (ap (λ l. l ++ filter_map (λ (s : Service StreamView). s.session) other.services) one.are_all ∙ ap (λ l. xs ++ l) other.are_all) ∙ sym are;
}
