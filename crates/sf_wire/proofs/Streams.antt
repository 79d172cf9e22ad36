-- The framing of a stream is unique, and independent of how its bytes arrive.
use Rattle.std.proofs.Common.{◌≡◌, ℕ, zero, suc, ◌+◌, ◌≤◌, List, [], ◌∷◌, ◌++◌, length, take, drop, refl, sym, ap, subst, ◌∙◌, append_assoc, arith}
use Rattle.std.specs.Prelude.{◌↔◌}
use Rattle.std.specs.List.{flat_map, AllByRecursion}
use Rattle.std.proofs.lemmas.List.{take_at, drop_at, length-append, get_or-drop}
use Rattle.sf_wire.specs.declared.cutting.Cut.{Cut}
use Rattle.sf_wire.specs.declared.cutting.Cut.TheVariants as cut
use Rattle.sf_wire.specs.declared.cutting.BadCut.{BadCut}
use Rattle.sf_wire.specs.declared.cutting.BadCut.TheVariants.{ZeroLength, TooLong}
use Rattle.sf_field.specs.Fields.{AreBytes, be32, packet}
use Rattle.sf_wire.specs.Packets.{IsBody, IsCut, End, More, Bad, EndsStream, Cuts}
use Rattle.sf_wire.specs.Streams.{IfWhole, HasBody, CutsAfter, IsSpelled, Stays, GrowsTo}
use Rattle.sf_wire.specs.Cutting.{cut_of}
use Rattle.sf_field.proofs.Laws.{IsBytes, IsBytes-of}
use Rattle.sf_wire.proofs.Cuts.{cut_found, cut_only}
use Rattle.sf_wire.proofs.OneForm.{one_packet}

-- the bytes after a packet
pub after_packet : (bytes body rest : List ℕ) → bytes ≡ packet body ++ rest → rest ≡ drop (length (packet body)) bytes
after_packet bytes body rest e = sym (drop_at (packet body) rest (length (packet body)) refl) ∙ ap (drop (length (packet body))) (sym e)

has_body : (bytes : List ℕ) (len : ℕ) → IsCut bytes (cut.Whole len) → HasBody bytes len
has_body bytes len h =
    let front : take len bytes ≡ packet h.0 = ap (take len) h.3 ∙ take_at (packet h.0) h.1 len (sym h.4) in
    let body : drop 4 (take len bytes) ≡ h.0 = ap (drop 4) front in
    let rest : drop len bytes ≡ h.1 = ap (drop len) h.3 ∙ drop_at (packet h.0) h.1 len (sym h.4) in
    record {
      long = omega (arith, h.4, h.2.some);
      within = omega (arith, h.4, ap length h.3, length-append (packet h.0) h.1);
      is_body = subst IsBody (sym body) h.2;
      parts = h.3 ∙ ap (λ (b : List ℕ). packet b ++ h.1) (sym body) ∙ ap (λ (r : List ℕ). packet (drop 4 (take len bytes)) ++ r) (sym rest);
    }

pub whole_has_body : (bytes : List ℕ) (found : Cut) → IsCut bytes found → IfWhole found (λ len. HasBody bytes len)
whole_has_body bytes (cut.Whole len) h = has_body bytes len h
whole_has_body bytes cut.More h = tt
whole_has_body bytes (cut.Bad cause) h = tt

IsBytes-after : (bytes body rest : List ℕ) → IsBytes bytes → bytes ≡ packet body ++ rest → IsBytes rest
IsBytes-after bytes body rest fits e = subst IsBytes (sym (after_packet bytes body rest e)) (λ i. rw get_or-drop (fits (length (packet body) + i)))

-- ---- a framing exists

cutting_by : (n : ℕ) (bytes : List ℕ) (found : Cut) → length bytes ≤ n → IsBytes bytes → IsCut bytes found → (bodies : List (List ℕ)) × (end : End) × Cuts bytes bodies end
cutting_by n bytes cut.More le fits h = ([], More bytes, (refl, h))
cutting_by n bytes (cut.Bad cause) le fits h = ([], Bad cause, h)
cutting_by zero bytes (cut.Whole len) le fits h = absurd (omega (arith, ap length h.3, length-append (packet h.0) h.1))
cutting_by (suc n) bytes (cut.Whole len) le fits h =
    let rest_fits = IsBytes-after bytes h.0 h.1 fits h.3 in
    let others = cutting_by n h.1 (cut_of h.1) (omega (arith, ap length h.3, length-append (packet h.0) h.1)) rest_fits (cut_found h.1 rest_fits) in
    (h.0 ∷ others.0, others.1, (h.1, h.2, h.3, others.2))

pub cutting : (bytes : List ℕ) → AreBytes bytes → (bodies : List (List ℕ)) × (end : End) × Cuts bytes bodies end
cutting bytes all =
    let fits = IsBytes-of bytes all in
    cutting_by (length bytes) bytes (cut_of bytes) (omega arith) fits (cut_found bytes fits)

-- ---- and is unique

whole_front : (body rest : List ℕ) → IsBody body → IsCut (packet body ++ rest) (cut.Whole (length (packet body)))
whole_front body rest is = (body, rest, is, refl, refl)

-- two first packets of the same bytes are equal
same_cut : (bytes : List ℕ) (a b : Cut) → IsCut bytes a → IsCut bytes b → a ≡ b
same_cut bytes a b p q = sym (cut_only bytes a p) ∙ cut_only bytes b q

after_whole : (bytes : List ℕ) (len : ℕ) (bodies : List (List ℕ)) (end : End) → IsCut bytes (cut.Whole len) → Cuts bytes bodies end → CutsAfter bytes (cut.Whole len) bodies end
after_whole bytes len [] (More rest) h k = absurd (let e = same_cut bytes (cut.Whole len) cut.More h k.1 in cc)
after_whole bytes len [] (Bad cause) h k = absurd (let e = same_cut bytes (cut.Whole len) (cut.Bad cause) h k in cc)
after_whole bytes len (body ∷ others) end h k =
    let same = one_packet h.0 body h.1 k.0 h.2 k.1 (sym h.3 ∙ k.2) in
    let len-is : len ≡ length (packet body) = h.4 ∙ ap (λ (b : List ℕ). length (packet b)) same.0 in
    let rest-is : k.0 ≡ drop len bytes = after_packet bytes body k.0 k.2 ∙ ap (λ (n : ℕ). drop n bytes) (sym len-is) in
    (body, others, refl, k.1, subst (λ (rest : List ℕ). bytes ≡ packet body ++ rest) rest-is k.2, len-is, subst (λ (rest : List ℕ). Cuts rest others end) rest-is k.3)

after_more : (bytes : List ℕ) (bodies : List (List ℕ)) (end : End) → IsCut bytes cut.More → Cuts bytes bodies end → CutsAfter bytes cut.More bodies end
after_more bytes [] (More rest) h k = (refl, ap More (sym k.0))
after_more bytes [] (Bad cause) h k = absurd (let e = same_cut bytes cut.More (cut.Bad cause) h k in cc)
after_more bytes (body ∷ others) end h k = absurd (let e = same_cut bytes cut.More (cut.Whole (length (packet body))) h (body, k.0, k.1, k.2, refl) in cc)

after_bad : (bytes : List ℕ) (cause : BadCut) (bodies : List (List ℕ)) (end : End) → IsCut bytes (cut.Bad cause) → Cuts bytes bodies end → CutsAfter bytes (cut.Bad cause) bodies end
after_bad bytes cause [] (More rest) h k = absurd (let e = same_cut bytes (cut.Bad cause) cut.More h k.1 in cc)
after_bad bytes cause [] (Bad other) h k = (refl, let e = same_cut bytes (cut.Bad cause) (cut.Bad other) h k in cc)
after_bad bytes cause (body ∷ others) end h k = absurd (let e = same_cut bytes (cut.Bad cause) (cut.Whole (length (packet body))) h (body, k.0, k.1, k.2, refl) in cc)

after : (bytes : List ℕ) (found : Cut) (bodies : List (List ℕ)) (end : End) → IsCut bytes found → Cuts bytes bodies end → CutsAfter bytes found bodies end
after bytes (cut.Whole len) bodies end h k = after_whole bytes len bodies end h k
after bytes cut.More bodies end h k = after_more bytes bodies end h k
after bytes (cut.Bad cause) bodies end h k = after_bad bytes cause bodies end h k

before : (bytes : List ℕ) (found : Cut) (bodies : List (List ℕ)) (end : End) → IsCut bytes found → CutsAfter bytes found bodies end → Cuts bytes bodies end
before bytes (cut.Whole len) bodies end h k = subst (λ (bs : List (List ℕ)). Cuts bytes bs end) (sym k.2) (drop len bytes, k.3, k.4, k.6)
before bytes cut.More bodies end h k =
    subst (λ (bs : List (List ℕ)). Cuts bytes bs end) (sym k.0) (subst (λ (e : End). Cuts bytes [] e) (sym k.1) (refl, h))
before bytes (cut.Bad cause) bodies end h k =
    subst (λ (bs : List (List ℕ)). Cuts bytes bs end) (sym k.0) (subst (λ (e : End). Cuts bytes [] e) (sym k.1) h)

pub cut_by_packets : (bytes : List ℕ) (found : Cut) → IsCut bytes found → (bodies : List (List ℕ)) (end : End) → Cuts bytes bodies end ↔ CutsAfter bytes found bodies end
cut_by_packets bytes found h bodies end = (after bytes found bodies end h, before bytes found bodies end h)

pub one_cutting : (bytes : List ℕ) (bodies others : List (List ℕ)) (end other : End) → Cuts bytes bodies end → Cuts bytes others other → (bodies ≡ others) × (end ≡ other)
one_cutting bytes [] others (More rest) other h k =
    let a = after_more bytes others other h.1 k in
    (sym a.0, sym (a.1 ∙ ap More h.0))
one_cutting bytes [] others (Bad cause) other h k =
    let a = after_bad bytes cause others other h k in
    (sym a.0, sym a.1)
one_cutting bytes (body ∷ bodies) others end other h k =
    let a = after_whole bytes (length (packet body)) others other (body, h.0, h.1, h.2, refl) k in
    let same = one_packet body a.0 h.0 (drop (length (packet body)) bytes) h.1 a.3 (sym h.2 ∙ a.4) in
    let r = one_cutting h.0 bodies a.1 end other h.3 (subst (λ (t : List ℕ). Cuts t a.1 other) (sym same.1) a.6) in
    let heads : body ≡ a.0 = same.0 in
    let tails : bodies ≡ a.1 = r.0 in
    let whole : others ≡ a.0 ∷ a.1 = a.2 in
    (cc, r.1)

-- ---- a framing is a decomposition

spelled : (bytes : List ℕ) (bodies : List (List ℕ)) (end : End) → Cuts bytes bodies end → IsSpelled bytes bodies end
spelled bytes [] end h = record { rest = bytes; parts = refl; are_bodies = tt; ends = h }
spelled bytes (body ∷ bodies) end h =
    let s = spelled h.0 bodies end h.3 in
    record {
      rest = s.rest;
      parts = h.2 ∙ ap (λ (t : List ℕ). packet body ++ t) s.parts ∙ sym (append_assoc (packet body) (flat_map packet bodies) s.rest);
      are_bodies = (h.1, s.are_bodies);
      ends = s.ends;
    }

cut_spelling : (bytes rest : List ℕ) (bodies : List (List ℕ)) (end : End) → bytes ≡ flat_map packet bodies ++ rest → AllByRecursion IsBody bodies → EndsStream rest end → Cuts bytes bodies end
cut_spelling bytes rest [] end e all ends = subst (λ (t : List ℕ). EndsStream t end) (sym e) ends
cut_spelling bytes rest (body ∷ bodies) end e all ends =
    let after : List ℕ = flat_map packet bodies ++ rest in
    (after, all.0, e ∙ append_assoc (packet body) (flat_map packet bodies) rest, cut_spelling after rest bodies end refl all.1 ends)

pub cut_is_spelled : (bytes : List ℕ) (bodies : List (List ℕ)) (end : End) → Cuts bytes bodies end ↔ IsSpelled bytes bodies end
cut_is_spelled bytes bodies end = (spelled bytes bodies end, λ s. cut_spelling bytes s.rest bodies end s.parts s.are_bodies s.ends)

-- ---- packets that were consumed

pub cut_after : (taken : List (List ℕ)) (left : List ℕ) → AllByRecursion IsBody taken → (bodies : List (List ℕ)) (end : End) → Cuts left bodies end → Cuts (flat_map packet taken ++ left) (taken ++ bodies) end
cut_after [] left all bodies end h = h
cut_after (body ∷ taken) left all bodies end h =
    (flat_map packet taken ++ left, all.0, append_assoc (packet body) (flat_map packet taken) left, cut_after taken left all.1 bodies end h)

left_at : (taken : List (List ℕ)) (left bytes : List ℕ) → AllByRecursion IsBody taken → bytes ≡ flat_map packet taken ++ left → (all : List (List ℕ)) (end : End) → Cuts bytes all end
    → (bodies : List (List ℕ)) × (all ≡ taken ++ bodies) × Cuts left bodies end
left_at [] left bytes are e all end h = (all, refl, subst (λ (t : List ℕ). Cuts t all end) e h)
left_at (body ∷ taken) left bytes are e all end h =
    let after : List ℕ = flat_map packet taken ++ left in
    let parts : bytes ≡ packet body ++ after = e ∙ append_assoc (packet body) (flat_map packet taken) left in
    let a = after_whole bytes (length (packet body)) all end (body, after, are.0, parts, refl) h in
    let same = one_packet body a.0 after (drop (length (packet body)) bytes) are.0 a.3 (sym parts ∙ a.4) in
    let r = left_at taken left (drop (length (packet body)) bytes) are.1 (sym same.1) a.1 end a.6 in
    let heads : body ≡ a.0 = same.0 in
    let tails : a.1 ≡ taken ++ r.0 = r.1 in
    let whole : all ≡ a.0 ∷ a.1 = a.2 in
    let joined : all ≡ body ∷ (taken ++ r.0) = cc in
    (r.0, joined, r.2)

pub cut_left : (taken : List (List ℕ)) (left : List ℕ) → AllByRecursion IsBody taken → (all : List (List ℕ)) (end : End) → Cuts (flat_map packet taken ++ left) all end → (bodies : List (List ℕ)) × (all ≡ taken ++ bodies) × Cuts left bodies end
cut_left taken left are all end h = left_at taken left (flat_map packet taken ++ left) are refl all end h

-- ---- appended bytes

pub cut_stays : (bytes : List ℕ) (found : Cut) → IsCut bytes found → Stays bytes found
cut_stays bytes (cut.Whole len) h = λ more. (h.0, h.1 ++ more, h.2, ap (λ (t : List ℕ). t ++ more) h.3 ∙ append_assoc (packet h.0) h.1 more, h.4)
cut_stays bytes cut.More h = tt
cut_stays bytes (cut.Bad ZeroLength) h = λ more. (h.0 ++ more, ap (λ (t : List ℕ). t ++ more) h.1 ∙ append_assoc (be32 0) h.0 more)
cut_stays bytes (cut.Bad TooLong) h = λ more. (h.0, h.1 ++ more, h.2, h.3, ap (λ (t : List ℕ). t ++ more) h.4 ∙ append_assoc (be32 h.0) h.1 more)

pub cut_grows : (bytes more : List ℕ) (bodies others : List (List ℕ)) (end last : End) → Cuts bytes bodies end → GrowsTo end more others last → Cuts (bytes ++ more) (bodies ++ others) last
cut_grows bytes more [] others (More rest) last h k = subst (λ (t : List ℕ). Cuts (t ++ more) others last) (sym h.0) k
cut_grows bytes more [] others (Bad cause) last h k =
    before (bytes ++ more) (cut.Bad cause) others last (cut_stays bytes (cut.Bad cause) h more) k
cut_grows bytes more (body ∷ bodies) others end last h k =
    (h.0 ++ more, h.1, ap (λ (t : List ℕ). t ++ more) h.2 ∙ append_assoc (packet body) h.0 more, cut_grows h.0 more bodies others end last h.3 k)
