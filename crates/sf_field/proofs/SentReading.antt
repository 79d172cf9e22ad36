-- The reader of attributes as they are sent accepts exactly their encodings.
use Rattle.std.proofs.Common.{◌≡◌, ℕ, zero, suc, ◌+◌, ◌<◌, ◌≤◌, Bool, true, false, cond, ltb, eqb, List, [], ◌++◌, Option, Some, None, refl, sym, ap, subst, ◌∙◌, append_assoc, append-nil, arith, inl, inr}
use Rattle.std.specs.Prelude.{◌&&◌, is_none}
use Rattle.std.proofs.lemmas.Option.{some_pair_parts}
use Rattle.std.specs.Int.{w32}
use Rattle.std.proofs.lemmas.Bool.{cases_lt, ltb-true, lt-ltb, eqb-true}
use Rattle.sf_field.specs.declared.attrs.Attrs.{Attrs}
use Rattle.sf_field.specs.Fields.{be32, be64, optional}
use Rattle.sf_field.specs.Attributes.{lacks, flag_of, flags_of, attrs_text, owner_text, times_text, pairs_text, AttrsFit, SpellsAttrs}
use Rattle.sf_field.specs.Reading.{number_at, attrs_at, sent_attrs_at}
use Rattle.sf_field.proofs.FieldLaws.{IsBytes, bind_some, Takes, Reads, reads_u32}
use Rattle.sf_field.proofs.AttributeLaws.{attrs_take, attrs_again}
use Rattle.sf_field.proofs.SentAttributes.{sent_is_spelled}
use Rattle.sf_field.proofs.FlagBits.{both}

-- what a clear or set flag contributes to the flags
bit : ℕ → Bool → ℕ
bit flag true = 0
bit flag false = flag

flag_is : {A : Type 0} (flag : ℕ) (lack : Bool) (o : Option A) → lack ≡ is_none o → flag_of flag o ≡ bit flag lack
unfolding bit
flag_is flag true None e = refl
flag_is flag false None e = absurd cc
flag_is flag true (Some x) e = absurd cc
flag_is flag false (Some x) e = refl

-- a test of every number below a limit
each_below : (ℕ → Bool) → ℕ → Bool
each_below test zero = true
each_below test (suc n) = test n && each_below test n

holds_below : (test : ℕ → Bool) (limit n : ℕ) → each_below test limit ≡ true → n < limit → test n ≡ true
unfolding each_below
holds_below test zero n e lt = absurd (omega arith)
holds_below test (suc limit) n e lt =
    let parts = both (test limit) (each_below test limit) e in
    elim (cases_lt n limit) [
      | inl less ↦ holds_below test limit n parts.1 less
      | inr more ↦ let is : n ≡ limit = omega arith in rw is parts.0
    ]

sum_of : ℕ → ℕ
sum_of n = bit 0x1 (lacks n 0x1) + bit 0x2 (lacks n 0x2) + bit 0x4 (lacks n 0x4) + bit 0x8 (lacks n 0x8)

is_sum : ℕ → Bool
is_sum n = eqb (sum_of n) n && lacks n 0x80000000

all_sums : each_below is_sum 16 ≡ true
unfolding each_below is_sum sum_of bit
all_sums = refl

-- flags below 16 are the sum of the four
flags_sum : (n : ℕ) → n < 16 → (sum_of n ≡ n) × (lacks n 0x80000000 ≡ true)
unfolding is_sum
flags_sum n lt =
    let parts = both (eqb (sum_of n) n) (lacks n 0x80000000) (holds_below is_sum 16 n all_sums lt) in
    (eqb-true (sum_of n) n parts.0, parts.1)

no_pairs : (pairs : Option (List (List ℕ × List ℕ))) → true ≡ is_none pairs → optional pairs_text pairs ≡ []
no_pairs None e = refl
no_pairs (Some pairs) e = absurd cc

regroup : (a b c d e : List ℕ) → a ++ (b ++ (c ++ (d ++ (e ++ [])))) ≡ (((a ++ b) ++ c) ++ d) ++ e
regroup a b c d e = simp append_assoc (simp append-nil)

-- a text with such flags is the text that is sent
sent_text : (text : List ℕ) (attrs : Attrs) (s : SpellsAttrs text attrs) → s.flags < 16 → text ≡ attrs_text attrs
unfolding sum_of
sent_text text attrs s lt =
    let sum = flags_sum s.flags lt in
    let size = flag_is 0x1 (lacks s.flags 0x1) attrs.size s.size in
    let owner = flag_is 0x2 (lacks s.flags 0x2) attrs.owner s.owner in
    let permissions = flag_is 0x4 (lacks s.flags 0x4) attrs.permissions s.permissions in
    let times = flag_is 0x8 (lacks s.flags 0x8) attrs.times s.times in
    let flags : s.flags ≡ flags_of attrs = omega arith in
    let none : optional pairs_text s.pairs ≡ [] = no_pairs s.pairs (sym sum.1 ∙ s.extended) in
    s.parts ∙ rw (none, flags) (regroup (be32 (flags_of attrs)) (optional be64 attrs.size) (optional owner_text attrs.owner) (optional be32 attrs.permissions) (optional times_text attrs.times))

small : (b : Bool) (o : Option (Attrs × List ℕ)) (x : Attrs × List ℕ) → cond b o None ≡ Some x → (b ≡ true) × (o ≡ Some x)
small true o x e = (refl, e)
small false o x e = absurd cc

-- the flags of a text are those of its prefix
front_flags : (text rest bytes : List ℕ) (attrs : Attrs) (n : ℕ) (after : List ℕ) (s : SpellsAttrs text attrs) → bytes ≡ text ++ rest → number_at w32 bytes ≡ Some (n, after) → s.flags ≡ n
front_flags text rest bytes attrs n after s parts e =
    let tail = optional be64 attrs.size ++ (optional owner_text attrs.owner ++ (optional be32 attrs.permissions ++ (optional times_text attrs.times ++ optional pairs_text s.pairs))) in
    let is : bytes ≡ be32 s.flags ++ (tail ++ rest) = parts ∙ ap (λ (t : List ℕ). t ++ rest) s.parts ∙ append_assoc (be32 s.flags) tail rest in
    let again : number_at w32 bytes ≡ Some (s.flags, tail ++ rest) = ap (number_at w32) is ∙ reads_u32.again s.flags (tail ++ rest) s.flags_fit in
    (some_pair_parts _ _ _ _ (sym again ∙ e)).0

sent_takes : (bytes : List ℕ) (attrs : Attrs) (rest : List ℕ) → IsBytes bytes → sent_attrs_at bytes ≡ Some (attrs, rest) → Takes bytes (attrs_text attrs) rest × AttrsFit attrs
unfolding sent_attrs_at
sent_takes bytes attrs rest fits e =
    let a = bind_some (number_at w32 bytes) _ (attrs, rest) e in
    let b = small (ltb a.0.0 0x10) (attrs_at bytes) (attrs, rest) a.2 in
    let t = attrs_take bytes attrs rest fits b.1 in
    let same = front_flags t.0 rest bytes attrs a.0.0 a.0.1 t.2 t.1.parts a.1 in
    let lt : t.2.flags < 16 = omega (arith, ltb-true a.0.0 0x10 b.0) in
    (subst (λ (x : List ℕ). Takes bytes x rest) (sent_text t.0 attrs t.2 lt) t.1, t.2.fits)

flag_small : {A : Type 0} (flag : ℕ) (o : Option A) → flag_of flag o ≤ flag
flag_small flag None = omega arith
flag_small flag (Some x) = omega arith

sent_again : (attrs : Attrs) (rest : List ℕ) → AttrsFit attrs → sent_attrs_at (attrs_text attrs ++ rest) ≡ Some (attrs, rest)
unfolding sent_attrs_at
sent_again attrs rest fit =
    let s = sent_is_spelled attrs fit in
    let tail = optional be64 attrs.size ++ (optional owner_text attrs.owner ++ (optional be32 attrs.permissions ++ (optional times_text attrs.times ++ []))) in
    let short : flags_of attrs < 16 = omega (arith, flag_small 0x1 attrs.size, flag_small 0x2 attrs.owner, flag_small 0x4 attrs.permissions, flag_small 0x8 attrs.times) in
    let front : number_at w32 (attrs_text attrs ++ rest) ≡ Some (flags_of attrs, tail ++ rest) =
    ap (λ (t : List ℕ). number_at w32 (t ++ rest)) (sym (regroup (be32 (flags_of attrs)) (optional be64 attrs.size) (optional owner_text attrs.owner) (optional be32 attrs.permissions) (optional times_text attrs.times)))
    ∙ ap (number_at w32) (append_assoc (be32 (flags_of attrs)) tail rest) ∙ reads_u32.again (flags_of attrs) (tail ++ rest) (omega arith) in
    rw (front, lt-ltb (flags_of attrs) 0x10 short) (attrs_again (attrs_text attrs) attrs rest s)

pub reads_sent_attrs : Reads sent_attrs_at attrs_text AttrsFit
reads_sent_attrs = record { takes = sent_takes; again = sent_again }
