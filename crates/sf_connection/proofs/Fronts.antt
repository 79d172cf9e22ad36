-- Prefixes of a session's replies, and batches of them.
use Rattle.std.proofs.Common.{◌≡◌, ◌≤◌, ℕ, ◌+◌, length, length-append, List, [], ◌∷◌, ◌++◌, refl, ap, sym, ◌∙◌, subst, append-nil, append_assoc, arith}
use Rattle.std.proofs.lemmas.List.Concat.{flat_map-append}
use Rattle.sf_call.specs.ReplyKinds.{longest_packet}
use Rattle.sf_session.specs.Responses.{Response, packet_for, transcript}
use Rattle.sf_session.specs.SessionStates.{HasShortPacket}
use Rattle.sf_connection.specs.Hosts.{IsFront, IsBatch}

pub transcript_append : (answers more : List Response) → transcript (answers ++ more) ≡ transcript answers ++ transcript more
unfolding transcript
transcript_append answers more = flat_map-append packet_for answers more

pub none_written : transcript [] ≡ []
unfolding transcript
none_written = refl

pub one_packet : (a : Response) → transcript (a ∷ []) ≡ packet_for a
unfolding transcript
one_packet a = append-nil (packet_for a)

-- a prefix of a list is a prefix of a longer list
front_more : {A : Type 0} (a b c b' : List A) → IsFront a b → b' ≡ b ++ c → IsFront a b'
front_more a b c b' f e = (f.0 ++ c, e ∙ ap (λ (z : List _). z ++ c) f.1 ∙ append_assoc a f.0 c)

pub front_all : {A : Type 0} (a : List A) → IsFront a a
front_all a = ([], sym (append-nil a))

pub front_same : {A : Type 0} (a b : List A) → b ≡ a → IsFront a b
front_same a b e = ([], e ∙ sym (append-nil a))

pub begun_more : (written : List ℕ) (answers answers' : List Response) → IsFront written (transcript answers) → IsFront answers answers' → IsFront written (transcript answers')
begun_more written answers answers' begun more =
    front_more written (transcript answers) (transcript more.0) (transcript answers') begun (ap transcript more.1 ∙ transcript_append answers more.0)

-- ---- batches

none_last : {A : Type 0} (before : List A) (last : A) → [] ≡ before ++ last ∷ [] → ⊥
none_last [] last e = cc
none_last (b ∷ before) last e = cc

-- what precedes the last element of a list with one more at its end
pub all_but_last : {A : Type 0} (before xs : List A) (last x : A) → xs ++ x ∷ [] ≡ before ++ last ∷ [] → before ≡ xs
all_but_last [] [] last x e = refl
all_but_last [] (y ∷ xs) last x e = absurd (none_last xs x cc)
all_but_last (b ∷ before) [] last x e = absurd (none_last before last cc)
all_but_last (b ∷ before) (y ∷ xs) last x e =
    let same : y ≡ b = cc in
    let rest : before ≡ xs = all_but_last before xs last x cc in cc

pub batch_none : {held : ℕ} → IsBatch held []
batch_none before last e = absurd (none_last before last e)

-- one reply, if nothing is unsent
pub batch_one : {held : ℕ} (a : Response) → HasShortPacket a → IsBatch held (a ∷ [])
batch_one a short before last e =
    let none : before ≡ [] = all_but_last before [] last a e in
    let same : last ≡ a = let cut : a ∷ [] ≡ last ∷ [] = e ∙ ap (λ (l : List Response). l ++ last ∷ []) none in cc in
    (omega (arith, ap (λ (l : List Response). length (transcript l)) none ∙ ap (λ (b : List ℕ). length b) none_written), subst HasShortPacket (sym same) short)

-- what precedes the last element of a nonempty list
last_cut : {A : Type 0} (x : A) (xs : List A) → (before : List A) × (last : A) × (x ∷ xs ≡ before ++ last ∷ [])
last_cut x [] = ([], x, refl)
last_cut x (y ∷ xs) = let cut = last_cut y xs in (x ∷ cut.0, cut.1, ap (λ (l : List _). x ∷ l) cut.2)

packet_of : (answers before : List Response) (last : Response) → answers ≡ before ++ last ∷ [] → length (transcript answers) ≡ length (transcript before) + length (packet_for last)
packet_of answers before last e =
    let bytes : transcript answers ≡ transcript before ++ transcript (last ∷ []) = ap transcript e ∙ transcript_append before (last ∷ []) in
    ap (λ (b : List ℕ). length b) bytes ∙ length-append (transcript before) (transcript (last ∷ [])) ∙ ap (λ (b : List ℕ). length (transcript before) + length b) (one_packet last)

pub batch_most : (held : ℕ) (answers : List Response) → IsBatch held answers → length (transcript answers) ≤ held + longest_packet
batch_most held [] batch = omega (arith, ap (λ (b : List ℕ). length b) none_written)
batch_most held (a ∷ answers) batch =
    let cut = last_cut a answers in
    let waits = batch cut.0 cut.1 cut.2 in
    omega (arith, waits.0, waits.1, packet_of (a ∷ answers) cut.0 cut.1 cut.2)
