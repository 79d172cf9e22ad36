-- A reply is decoded exactly from its encoding.
use Rattle.std.proofs.Common.{◌≡◌, ℕ, zero, suc, ◌<◌, ◌^◌, Bool, true, false, cond, eqb, List, [], ◌∷◌, ◌++◌, length, Option, Some, None, refl, sym, ap, subst, ◌∙◌, append_assoc, append-nil, take, drop, lit<, arith}
use Rattle.std.specs.Prelude.{option_map, codes, ◌&&◌, IfSome, IfNone}
use Rattle.std.specs.Int.{w32, w64}
use Rattle.std.specs.Str.{bytes_eq}
use Rattle.std.specs.List.{flat_map, AllByRecursion}
use Rattle.std.proofs.lemmas.Bool.{eqb-true}
use Rattle.std.proofs.lemmas.List.{take_at}
use Rattle.std.proofs.lemmas.Slice.Eq.{bytes_eq-Decides}
use Rattle.sf_reply.specs.declared.reply.StatusCode.{StatusCode}
use Rattle.sf_reply.specs.declared.reply.StatusCode.TheVariants as status
use Rattle.sf_reply.specs.declared.reply.Entry.{Entry}
use Rattle.sf_reply.specs.declared.reply.Reply.{Reply}
use Rattle.sf_reply.specs.declared.reply.Reply.TheVariants as reply
use Rattle.sf_field.specs.Fields.{be32, be64, string}
use Rattle.sf_field.specs.Attributes.{attrs_text, AttrsFit}
use Rattle.sf_field.specs.Reading.{◌>>=◌, Gives, number_at, string_at, sent_attrs_at}
use Rattle.sf_field.proofs.Laws.{IsBytes, IsBytes-rest, IsBytes-take, IsBytes-drop, bind_some, some_is, Takes, Takes-then, Takes-none, Reads, reads_u32, reads_u64, reads_string}
use Rattle.sf_field.proofs.Laws.{reads_sent_attrs, both}
use Rattle.sf_reply.proofs.OneReply.{entry_parts}
use Rattle.sf_reply.specs.Replies.{number_of, message_of, status_text, handle_text, entry_text, names_text, kind_of_reply, fields_of, EntryFits, ReplyFits}
use Rattle.sf_reply.specs.Reading.{IsReply, whole, code_of, status_with, status_of, status_at, handle_at, entry_at, entries_at, names_at, reply_fields_at, reply_at}

-- ---- values without trailing bytes

-- a test that succeeded
test_some : {A : Type 0} (b : Bool) (o : Option A) (x : A) → cond b o None ≡ Some x → (b ≡ true) × (o ≡ Some x)
test_some true o x e = (refl, e)
test_some false o x e = absurd cc

no_bytes : (bytes : List ℕ) → eqb (length bytes) 0 ≡ true → bytes ≡ []
no_bytes [] e = refl
no_bytes (b ∷ bytes) e = absurd (omega (arith, eqb-true (length (b ∷ bytes)) 0 e))

-- A reader of a value without trailing bytes accepts exactly the encodings.
pub record ReadsWhole {A : Type 0} (read : List ℕ → Option A) (spell : A → List ℕ) (Fit : A → Type 0) : Type 0 where
  pub takes : (bytes : List ℕ) (x : A) → IsBytes bytes → read bytes ≡ Some x → (bytes ≡ spell x) × Fit x
  pub again : (x : A) → Fit x → read (spell x) ≡ Some x

whole_takes : {A : Type 0} (read : List ℕ → Option (A × List ℕ)) (spell : A → List ℕ) (Fit : A → Type 0) → Reads read spell Fit
    → (bytes : List ℕ) (x : A) → IsBytes bytes → whole read bytes ≡ Some x → (bytes ≡ spell x) × Fit x
unfolding whole
whole_takes {A} read spell Fit reads bytes x fits e =
    let a = bind_some (read bytes) _ x e in
    let b = test_some (eqb (length a.0.1) 0) (Some a.0.0) x a.2 in
    let t = reads.takes bytes a.0.0 a.0.1 fits a.1 in
    let none : a.0.1 ≡ [] = no_bytes a.0.1 b.0 in
    let parts : bytes ≡ spell a.0.0 = t.0.parts ∙ ap (λ (r : List ℕ). spell a.0.0 ++ r) none ∙ append-nil (spell a.0.0) in
    subst (λ (y : A). (bytes ≡ spell y) × Fit y) (some_is a.0.0 x b.1) (parts, t.1)

whole_again : {A : Type 0} (read : List ℕ → Option (A × List ℕ)) (spell : A → List ℕ) (Fit : A → Type 0) → Reads read spell Fit → (x : A) → Fit x → whole read (spell x) ≡ Some x
unfolding whole
whole_again read spell Fit reads x fit =
    let again : read (spell x) ≡ Some (x, []) = ap read (sym (append-nil (spell x))) ∙ reads.again x [] fit in
    rw again refl

reads_whole : {A : Type 0} (read : List ℕ → Option (A × List ℕ)) (spell : A → List ℕ) (Fit : A → Type 0) → Reads read spell Fit → ReadsWhole (whole read) spell Fit
reads_whole read spell Fit reads = record { takes = whole_takes read spell Fit reads; again = whole_again read spell Fit reads }

-- ---- handles

string_bytes : (bytes text rest : List ℕ) → IsBytes bytes → bytes ≡ string text ++ rest → IsBytes text
string_bytes bytes text rest fits parts =
    let is : drop 4 bytes ≡ text ++ rest = ap (drop 4) parts in
    subst IsBytes (ap (take (length text)) is ∙ take_at text rest (length text) refl) (IsBytes-take (length text) (drop 4 bytes) (IsBytes-drop 4 bytes fits))

handle_takes : (bytes : List ℕ) (n : ℕ) (rest : List ℕ) → IsBytes bytes → handle_at bytes ≡ Some (n, rest) → Takes bytes (handle_text n) rest × (n < 2 ^ 64)
unfolding handle_at
handle_takes bytes n rest fits e =
    let a = bind_some (string_at bytes) _ (n, rest) e in
    let b = bind_some (whole (number_at w64) a.0.0) _ (n, rest) a.2 in
    let t = reads_string.takes bytes a.0.0 a.0.1 fits a.1 in
    let text_fits : IsBytes a.0.0 = string_bytes bytes a.0.0 a.0.1 fits t.0.parts in
    let u = whole_takes (number_at w64) be64 (λ k. k < 2 ^ 64) reads_u64 a.0.0 b.0 text_fits b.1 in
    subst (λ (p : ℕ × List ℕ). Takes bytes (handle_text p.0) p.1 × (p.0 < 2 ^ 64)) (some_is (b.0, a.0.1) (n, rest) b.2) (subst (λ (x : List ℕ). Takes bytes (string x) a.0.1) u.0 t.0, u.1)

handle_again : (n : ℕ) (rest : List ℕ) → n < 2 ^ 64 → handle_at (handle_text n ++ rest) ≡ Some (n, rest)
unfolding handle_at
handle_again n rest lt = rw (reads_string.again (be64 n) rest (lit< tt), whole_again (number_at w64) be64 (λ k. k < 2 ^ 64) reads_u64 n lt) refl

reads_handle : Reads handle_at handle_text (λ n. n < 2 ^ 64)
reads_handle = record { takes = handle_takes; again = handle_again }

-- ---- entries

entry_takes : (bytes : List ℕ) (entry : Entry) (rest : List ℕ) → IsBytes bytes → entry_at bytes ≡ Some (entry, rest) → Takes bytes (entry_text entry) rest × EntryFits entry
unfolding entry_at entry_text
entry_takes bytes entry rest fits e =
    let a = bind_some (string_at bytes) _ (entry, rest) e in
    let b = bind_some (string_at a.0.1) _ (entry, rest) a.2 in
    let c = bind_some (sent_attrs_at b.0.1) _ (entry, rest) b.2 in
    let t = reads_string.takes bytes a.0.0 a.0.1 fits a.1 in
    let u = reads_string.takes a.0.1 b.0.0 b.0.1 t.0.rest_fits b.1 in
    let v = reads_sent_attrs.takes b.0.1 c.0.0 c.0.1 u.0.rest_fits c.1 in
    let found : Entry = record { filename = a.0.0; longname = b.0.0; attrs = c.0.0 } in
    subst (λ (p : Entry × List ℕ). Takes bytes (string p.0.filename ++ string p.0.longname ++ attrs_text p.0.attrs) p.1 × EntryFits p.0) (some_is (found, c.0.1) (entry, rest) c.2)
    (Takes-then bytes (string a.0.0 ++ string b.0.0) b.0.1 (attrs_text c.0.0) c.0.1 (Takes-then bytes (string a.0.0) a.0.1 (string b.0.0) b.0.1 t.0 u.0) v.0, record { filename = t.1; longname = u.1; attrs = v.1 })

entry_again : (entry : Entry) (rest : List ℕ) → EntryFits entry → entry_at (entry_text entry ++ rest) ≡ Some (entry, rest)
unfolding entry_at
entry_again entry rest fit =
    ap entry_at (entry_parts entry rest)
    ∙ rw (
      reads_string.again entry.filename (string entry.longname ++ (attrs_text entry.attrs ++ rest)) fit.filename,
      reads_string.again entry.longname (attrs_text entry.attrs ++ rest) fit.longname,
      reads_sent_attrs.again entry.attrs rest fit.attrs,
    ) refl

entries_take : (n : ℕ) (bytes : List ℕ) (es : List Entry) (rest : List ℕ) → IsBytes bytes → entries_at n bytes ≡ Some (es, rest) → (length es ≡ n) × Takes bytes (flat_map entry_text es) rest × AllByRecursion EntryFits es
unfolding entries_at
entries_take zero bytes es rest fits e =
    subst (λ (p : List Entry × List ℕ). (length p.0 ≡ 0) × Takes bytes (flat_map entry_text p.0) p.1 × AllByRecursion EntryFits p.0) (some_is ([], bytes) (es, rest) e) (refl, Takes-none bytes fits, tt)
entries_take (suc n) bytes es rest fits e =
    let a = bind_some (entry_at bytes) _ (es, rest) e in
    let b = bind_some (entries_at n a.0.1) _ (es, rest) a.2 in
    let t = entry_takes bytes a.0.0 a.0.1 fits a.1 in
    let u = entries_take n a.0.1 b.0.0 b.0.1 t.0.rest_fits b.1 in
    subst (λ (p : List Entry × List ℕ). (length p.0 ≡ suc n) × Takes bytes (flat_map entry_text p.0) p.1 × AllByRecursion EntryFits p.0) (some_is (a.0.0 ∷ b.0.0, b.0.1) (es, rest) b.2)
    (ap suc u.0, Takes-then bytes (entry_text a.0.0) a.0.1 (flat_map entry_text b.0.0) b.0.1 t.0 u.1, (t.1, u.2))

entries_again : (es : List Entry) (rest : List ℕ) → AllByRecursion EntryFits es → entries_at (length es) (flat_map entry_text es ++ rest) ≡ Some (es, rest)
unfolding entries_at
entries_again [] rest fit = refl
entries_again (e ∷ es) rest fit =
    ap (λ (t : List ℕ). entry_at t >>= λ entry. entries_at (length es) entry.1 >>= λ others. Some (entry.0 ∷ others.0, others.1)) (append_assoc (entry_text e) (flat_map entry_text es) rest)
    ∙ rw (entry_again e (flat_map entry_text es ++ rest) fit.0, entries_again es rest fit.1) refl

abbrev NamesFit : List Entry → Type 0
NamesFit es = (length es < 2 ^ 32) × AllByRecursion EntryFits es

names_take : (bytes : List ℕ) (es : List Entry) (rest : List ℕ) → IsBytes bytes → names_at bytes ≡ Some (es, rest) → Takes bytes (names_text es) rest × NamesFit es
unfolding names_at
names_take bytes es rest fits e =
    let a = bind_some (number_at w32 bytes) _ (es, rest) e in
    let t = reads_u32.takes bytes a.0.0 a.0.1 fits a.1 in
    let u = entries_take a.0.0 a.0.1 es rest t.0.rest_fits a.2 in
    (subst (λ (k : ℕ). Takes bytes (be32 k ++ flat_map entry_text es) rest) (sym u.0) (Takes-then bytes (be32 a.0.0) a.0.1 (flat_map entry_text es) rest t.0 u.1), (rw u.0 t.1, u.2))

names_again : (es : List Entry) (rest : List ℕ) → NamesFit es → names_at (names_text es ++ rest) ≡ Some (es, rest)
unfolding names_at
names_again es rest fit =
    ap (λ (t : List ℕ). number_at w32 t >>= λ n. entries_at n.0 n.1) (append_assoc (be32 (length es)) (flat_map entry_text es) rest)
    ∙ rw (reads_u32.again (length es) (flat_map entry_text es ++ rest) fit.0) (entries_again es rest fit.1)

reads_names : Reads names_at names_text NamesFit
reads_names = record { takes = names_take; again = names_again }

-- ---- statuses

-- the number is that of this code, or of a later one
this_or_later : {later : Option StatusCode} {code : StatusCode} (n k : ℕ) (this : StatusCode) → k ≡ number_of this → (later ≡ Some code → n ≡ number_of code) → cond (eqb n k) (Some this) later ≡ Some code → n ≡ number_of code
this_or_later {later} {code} n k this is others =
    (elim (eqb n k) as (λ (b : Bool). eqb n k ≡ b → cond b (Some this) later ≡ Some code → n ≡ number_of code) [
      | true ↦ λ p e. eqb-true n k p ∙ is ∙ ap number_of (some_is this code e)
      | false ↦ λ p e. others e
    ]) refl

code_is : (n : ℕ) (code : StatusCode) → code_of n ≡ Some code → n ≡ number_of code
code_is n code e =
    this_or_later n 0 status.Success refl
    (this_or_later n 1 status.EndOfFile refl
    (this_or_later n 2 status.NoSuchFile refl
    (this_or_later n 3 status.PermissionDenied refl
    (this_or_later n 4 status.Failure refl
    (this_or_later n 5 status.BadMessage refl
    (this_or_later n 8 status.OpUnsupported refl (λ none. cc))))))) e

-- it is the encoding, and fits
record IsSpelled (kind : ℕ) (text : List ℕ) (r : Reply) : Type 0 where
  pub kind_is : kind ≡ kind_of_reply r
  pub parts : text ≡ fields_of r
  pub fits : ReplyFits r

status_with_is : (n : ℕ) (message : List ℕ) (o : Option StatusCode) (r : Reply) → code_of n ≡ o → status_with o message ≡ Some r → IsSpelled 101 (status_text n message) r
status_with_is n message None r is e = absurd cc
status_with_is n message (Some code) r is e =
    let t = test_some (bytes_eq message (message_of code)) (Some (reply.Status code)) r e in
    let m : message ≡ message_of code = (bytes_eq-Decides message (message_of code)).0 t.0 in
    subst (IsSpelled 101 (status_text n message)) (some_is (reply.Status code) r t.1) (record { kind_is = refl; parts = rw (code_is n code is, m) refl; fits = tt })

status_is_by : (none : Bool) (n : ℕ) (message : List ℕ) (r : Reply) → (eqb n 4 && bytes_eq message (codes "Out of memory")) ≡ none
    → cond none (Some reply.NoMemory) (status_with (code_of n) message) ≡ Some r → IsSpelled 101 (status_text n message) r
status_is_by true n message r is e =
    let t = both (eqb n 4) (bytes_eq message (codes "Out of memory")) is in
    let m : message ≡ codes "Out of memory" = (bytes_eq-Decides message (codes "Out of memory")).0 t.1 in
    subst (IsSpelled 101 (status_text n message)) (some_is reply.NoMemory r e) (record { kind_is = refl; parts = rw (eqb-true n 4 t.0, m) refl; fits = tt })
status_is_by false n message r is e = status_with_is n message (code_of n) r refl e

status_takes : (bytes : List ℕ) (r : Reply) → IsBytes bytes → status_at bytes ≡ Some r → IsSpelled 101 bytes r
unfolding status_at
status_takes bytes r fits e =
    let a = bind_some (number_at w32 bytes) _ r e in
    let b = bind_some (string_at a.0.1) _ r a.2 in
    let c = bind_some (whole string_at b.0.1) _ r b.2 in
    let d = test_some (eqb (length c.0) 0) (status_of a.0.0 b.0.0) r c.2 in
    let t = reads_u32.takes bytes a.0.0 a.0.1 fits a.1 in
    let u = reads_string.takes a.0.1 b.0.0 b.0.1 t.0.rest_fits b.1 in
    let v = whole_takes string_at string (λ (x : List ℕ). length x < 2 ^ 32) reads_string b.0.1 c.0 u.0.rest_fits c.1 in
    let tag : c.0 ≡ [] = no_bytes c.0 d.0 in
    let parts : bytes ≡ status_text a.0.0 b.0.0 =
    t.0.parts ∙ ap (λ (x : List ℕ). be32 a.0.0 ++ x) (u.0.parts ∙ ap (λ (x : List ℕ). string b.0.0 ++ x) (v.0 ∙ ap string tag)) ∙ sym (append_assoc (be32 a.0.0) (string b.0.0) (string [])) in
    let s = status_is_by (eqb a.0.0 4 && bytes_eq b.0.0 (codes "Out of memory")) a.0.0 b.0.0 r refl d.1 in
    record { kind_is = s.kind_is; parts = parts ∙ s.parts; fits = s.fits }

status_again : (code : StatusCode) → status_at (fields_of (reply.Status code)) ≡ Some (reply.Status code)
unfolding status_at whole number_at string_at
status_again status.Success = refl
status_again status.EndOfFile = refl
status_again status.NoSuchFile = refl
status_again status.PermissionDenied = refl
status_again status.Failure = refl
status_again status.BadMessage = refl
status_again status.OpUnsupported = refl

no_memory_again : status_at (fields_of reply.NoMemory) ≡ Some reply.NoMemory
unfolding status_at whole number_at string_at
no_memory_again = refl

-- ---- replies by their type

mapped_some : {X Y : Type 0} (f : X → Y) (o : Option X) (y : Y) → option_map f o ≡ Some y → (x : X) × (o ≡ Some x) × (f x ≡ y)
mapped_some f (Some x) y e = (x, refl, some_is (f x) y e)
mapped_some f None y e = absurd cc

-- Replies of a type are made of the values that `read` decodes.
record MadeOf {A : Type 0} (read : List ℕ → Option A) (spell : A → List ℕ) (Fit : A → Type 0) (make : A → Reply) (kind : ℕ) : Type 0 where
  reads : ReadsWhole read spell Fit
  of_kind : (x : A) → kind ≡ kind_of_reply (make x)
  of_fields : (x : A) → spell x ≡ fields_of (make x)
  fit : (x : A) → Fit x → ReplyFits (make x)

mapped : {A : Type 0} {read : List ℕ → Option A} {spell : A → List ℕ} {Fit : A → Type 0} {make : A → Reply} {kind : ℕ} → MadeOf read spell Fit make kind
    → (bytes : List ℕ) (r : Reply) → IsBytes bytes → option_map make (read bytes) ≡ Some r → IsSpelled kind bytes r
mapped {read = read} {make = make} {kind = kind} made bytes r fits e =
    let m = mapped_some make (read bytes) r e in
    let t = made.reads.takes bytes m.0 fits m.1 in
    subst (IsSpelled kind bytes) m.2 (record { kind_is = made.of_kind m.0; parts = t.0 ∙ made.of_fields m.0; fits = made.fit m.0 t.1 })

of_handle : MadeOf (whole handle_at) handle_text (λ n. n < 2 ^ 64) reply.Handle 102
of_handle = record { reads = reads_whole handle_at handle_text (λ n. n < 2 ^ 64) reads_handle; of_kind = λ x. refl; of_fields = λ x. refl; fit = λ x h. h }

of_data : MadeOf (whole string_at) string (λ (x : List ℕ). length x < 2 ^ 32) reply.Data 103
of_data = record { reads = reads_whole string_at string (λ (x : List ℕ). length x < 2 ^ 32) reads_string; of_kind = λ x. refl; of_fields = λ x. refl; fit = λ x h. h }

of_names : MadeOf (whole names_at) names_text NamesFit reply.Names 104
of_names = record { reads = reads_whole names_at names_text NamesFit reads_names; of_kind = λ x. refl; of_fields = λ x. refl; fit = λ x h. h }

of_attrs : MadeOf (whole sent_attrs_at) attrs_text AttrsFit reply.Attrs 105
of_attrs = record { reads = reads_whole sent_attrs_at attrs_text AttrsFit reads_sent_attrs; of_kind = λ x. refl; of_fields = λ x. refl; fit = λ x h. h }

-- it is of this type, or of a later one
this_kind_or_later : {this later : Option Reply} {bytes : List ℕ} {r : Reply} (kind n : ℕ) → (this ≡ Some r → IsSpelled n bytes r) → (later ≡ Some r → IsSpelled kind bytes r) → cond (eqb kind n) this later ≡ Some r → IsSpelled kind bytes r
this_kind_or_later {this} {later} {bytes} {r} kind n here others =
    (elim (eqb kind n) as (λ (b : Bool). eqb kind n ≡ b → cond b this later ≡ Some r → IsSpelled kind bytes r) [
      | true ↦ λ p e. subst (λ (k : ℕ). IsSpelled k bytes r) (sym (eqb-true kind n p)) (here e)
      | false ↦ λ p e. others e
    ]) refl

fields_take : (kind : ℕ) (bytes : List ℕ) (r : Reply) → IsBytes bytes → reply_fields_at kind bytes ≡ Some r → IsSpelled kind bytes r
unfolding reply_fields_at
fields_take kind bytes r fits e =
    this_kind_or_later kind 101 (status_takes bytes r fits)
    (this_kind_or_later kind 102 (mapped of_handle bytes r fits)
    (this_kind_or_later kind 103 (mapped of_data bytes r fits)
    (this_kind_or_later kind 104 (mapped of_names bytes r fits)
    (this_kind_or_later kind 105 (mapped of_attrs bytes r fits) (λ none. absurd cc))))) e

fields_again : (r : Reply) → ReplyFits r → reply_fields_at (kind_of_reply r) (fields_of r) ≡ Some r
unfolding reply_fields_at
fields_again (reply.Status code) fit = status_again code
fields_again reply.NoMemory fit = no_memory_again
fields_again (reply.Handle n) fit = ap (option_map reply.Handle) (whole_again handle_at handle_text (λ k. k < 2 ^ 64) reads_handle n fit)
fields_again (reply.Data bytes) fit = ap (option_map reply.Data) (whole_again string_at string (λ (x : List ℕ). length x < 2 ^ 32) reads_string bytes fit)
fields_again (reply.Names es) fit = ap (option_map reply.Names) (whole_again names_at names_text NamesFit reads_names es fit)
fields_again (reply.Attrs attrs) fit = ap (option_map reply.Attrs) (whole_again sent_attrs_at attrs_text AttrsFit reads_sent_attrs attrs fit)

-- ---- a body

pub reply_takes : (body : List ℕ) (id : ℕ) (r : Reply) → IsBytes body → reply_at body ≡ Some (id, r) → IsReply body id r
unfolding reply_at
reply_takes [] id r fits e = absurd cc
reply_takes (kind ∷ rest) id r fits e =
    let a = bind_some (number_at w32 rest) _ (id, r) e in
    let b = bind_some (reply_fields_at kind a.0.1) _ (id, r) a.2 in
    let t = reads_u32.takes rest a.0.0 a.0.1 (IsBytes-rest kind rest fits) a.1 in
    let s = fields_take kind a.0.1 b.0 t.0.rest_fits b.1 in
    subst (λ (p : ℕ × Reply). IsReply (kind ∷ rest) p.0 p.1) (some_is (a.0.0, b.0) (id, r) b.2) (record {
      id_fits = t.1;
      fits = s.fits;
      parts = ap (λ (x : List ℕ). kind ∷ x) (t.0.parts ∙ ap (λ (x : List ℕ). be32 a.0.0 ++ x) s.parts) ∙ ap (λ (k : ℕ). k ∷ be32 a.0.0 ++ fields_of b.0) s.kind_is;
    })

pub reply_again : (body : List ℕ) (id : ℕ) (r : Reply) → IsReply body id r → reply_at body ≡ Some (id, r)
unfolding reply_at
reply_again body id r is = ap reply_at is.parts ∙ rw (reads_u32.again id (fields_of r) is.id_fits, fields_again r is.fits) refl

pub not_read : (body : List ℕ) (id : ℕ) (r : Reply) → reply_at body ≡ None → IsReply body id r → ⊥
not_read body id r none is = let read = reply_again body id r is in absurd cc

-- what a function found is in the body, and if it found nothing the body encodes no reply
pub found : {X : Type 0} (body : List ℕ) (view : X → ℕ × Reply) (o : Option X) → IsBytes body → Gives view o (reply_at body) → IfSome o (λ x. IsReply body (view x).0 (view x).1)
found body view (Some x) fits e = reply_takes body (view x).0 (view x).1 fits e
found body view None fits e = tt

pub none_found : {X : Type 0} (body : List ℕ) (view : X → ℕ × Reply) (o : Option X) → Gives view o (reply_at body) → IfNone o ((id : ℕ) (r : Reply) → IsReply body id r → ⊥)
none_found body view (Some x) e = tt
none_found body view None e = λ id r is. not_read body id r e is
