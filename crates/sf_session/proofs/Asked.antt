-- The processed bodies, what each requires, and their bytes.
use Rattle.std.proofs.Common.{◌≡◌, ℕ, ◌<◌, List, [], ◌∷◌, ◌++◌, Bool, true, false, length, take, drop, map, refl, ap, sym, subst, arith}
use Rattle.std.specs.List.{AllByRecursion}
use Rattle.std.proofs.Math.Seq.{drop-append_seam, take-append_seam}
use Rattle.std.proofs.lemmas.List.Elements.{All-take, All-drop, All-same}
use Rattle.sf_field.specs.Fields.{AreBytes, be32, packet}
use Rattle.sf_session.specs.declared.asking.Ask.{Ask}
use Rattle.sf_session.specs.Asking.{AsksFor}
use Rattle.sf_session.specs.Responses.{Response, ask_behind, has_begun, AreAsked}

-- one more at the end
pub all_push : {A : Type 0} (P : A → Type 0) (xs : List A) (x : A) → AllByRecursion P xs → P x → AllByRecursion P (xs ++ x ∷ [])
all_push P [] x h p = (p, tt)
all_push P (y ∷ xs) x h p = (h.0, all_push P xs x h.1 p)

-- whether a session has processed its first packet after these bodies
abbrev pub begun_after : Bool → List (List ℕ) → Bool
begun_after begun [] = begun
begun_after begun (body ∷ bodies) = true

pub begun_is : (bodies : List (List ℕ)) → has_begun bodies ≡ begun_after false bodies
begun_is [] = refl
begun_is (body ∷ bodies) = refl

pub begun_stays : (bodies : List (List ℕ)) → begun_after true bodies ≡ true
begun_stays [] = refl
begun_stays (body ∷ bodies) = refl

pub asked_push : (begun : Bool) (bodies : List (List ℕ)) (asks : List Ask) (body : List ℕ) (a : Ask) → AreAsked begun bodies asks → AsksFor (begun_after begun bodies) body a → AreAsked begun (bodies ++ body ∷ []) (asks ++ a ∷ [])
unfolding AreAsked
asked_push begun [] [] body a h k = (k, tt)
asked_push begun [] (b ∷ asks) body a h k = absurd h
asked_push begun (c ∷ bodies) [] body a h k = absurd h
asked_push begun (c ∷ bodies) (b ∷ asks) body a h k = (h.0, asked_push true bodies asks body a h.1 (subst (λ (g : Bool). AsksFor g body a) (sym (begun_stays bodies)) k))

pub map_push : (answers : List Response) (a : Response) → map ask_behind (answers ++ a ∷ []) ≡ map ask_behind answers ++ ask_behind a ∷ []
map_push [] a = refl
map_push (b ∷ answers) a = ap (λ (xs : List Ask). ask_behind b ∷ xs) (map_push answers a)

pub begun_push : (bodies : List (List ℕ)) (body : List ℕ) → has_begun (bodies ++ body ∷ []) ≡ true
begun_push [] body = refl
begun_push (b ∷ bodies) body = refl

pub asked_each : (begun : Bool) (bodies : List (List ℕ)) (asks : List Ask) → AreAsked begun bodies asks → length asks ≡ length bodies
unfolding AreAsked
asked_each begun [] [] h = refl
asked_each begun (body ∷ bodies) (a ∷ asks) h = let rec : length asks ≡ length bodies = asked_each true bodies asks h.1 in omega (arith, rec)
asked_each begun [] (a ∷ asks) h = absurd h
asked_each begun (body ∷ bodies) [] h = absurd h

-- the bytes of a body, and those after its packet
pub whole_bytes : (body rest : List ℕ) → AreBytes (packet body ++ rest) → AreBytes body
whole_bytes body rest h =
    let P : ℕ → Type 0 = λ b. b < 256 in
    let front : AreBytes (packet body) = All-same P (packet body) (take (length (packet body)) (packet body ++ rest)) (sym (take-append_seam (packet body) rest)) (All-take P (length (packet body)) (packet body ++ rest) h) in
    All-same P body (drop (length (be32 (length body))) (packet body)) (sym (drop-append_seam (be32 (length body)) body)) (All-drop P (length (be32 (length body))) (packet body) front)

pub rest_bytes : (body rest : List ℕ) → AreBytes (packet body ++ rest) → AreBytes rest
rest_bytes body rest h =
    let P : ℕ → Type 0 = λ b. b < 256 in
    All-same P rest (drop (length (packet body)) (packet body ++ rest)) (sym (drop-append_seam (packet body) rest)) (All-drop P (length (packet body)) (packet body ++ rest) h)
