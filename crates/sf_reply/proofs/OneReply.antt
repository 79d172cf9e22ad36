-- The bytes of a reply determine its id and its contents.
use Rattle.std.proofs.Common.{◌≡◌, ℕ, ◌<◌, ◌^◌, List, [], ◌∷◌, ◌++◌, length, get_or, drop, Option, Some, refl, sym, ap, ◌∙◌, append_assoc, arith}
use Rattle.std.specs.Prelude.{◌==◌, if◌then◌else◌}
use Rattle.std.specs.List.{flat_map, AllByRecursion}
use Rattle.std.specs.Int.{w32, w64}
use Rattle.std.proofs.lemmas.Option.{some_pair_parts}
use Rattle.sf_field.specs.declared.attrs.Attrs.{Attrs}
use Rattle.sf_reply.specs.declared.reply.StatusCode.{StatusCode}
use Rattle.sf_reply.specs.declared.reply.StatusCode.TheVariants as status
use Rattle.sf_reply.specs.declared.reply.Entry.{Entry}
use Rattle.sf_reply.specs.declared.reply.Reply.{Reply}
use Rattle.sf_reply.specs.declared.reply.Reply.TheVariants as reply
use Rattle.sf_field.specs.Fields.{string}
use Rattle.sf_field.specs.Attributes.{attrs_text, AttrsFit}
use Rattle.sf_reply.specs.Replies.{entry_text, fields_of, kind_of_reply, reply_body, EntryFits, ReplyFits}
use Rattle.sf_field.specs.Reading.{number_at, string_at, attrs_at}
use Rattle.sf_field.proofs.Laws.{reads_u32, reads_u64, reads_string}
use Rattle.sf_field.proofs.Laws.{attrs_again}
use Rattle.sf_field.proofs.Laws.{sent_is_spelled}

-- equal bytes have equal prefixes
same_front : {A : Type 0} {x y : A} {s t a b : List ℕ} (read : List ℕ → Option (A × List ℕ)) → read s ≡ Some (x, a) → read t ≡ Some (y, b) → s ≡ t → (x ≡ y) × (a ≡ b)
same_front read p q e = some_pair_parts _ _ _ _ (sym p ∙ ap read e ∙ q)

-- ---- attributes

attrs_back : (a : Attrs) (rest : List ℕ) → AttrsFit a → attrs_at (attrs_text a ++ rest) ≡ Some (a, rest)
attrs_back a rest fits = attrs_again (attrs_text a) a rest (sent_is_spelled a fits)

same_attrs : (a b : Attrs) → AttrsFit a → AttrsFit b → attrs_text a ≡ attrs_text b → a ≡ b
same_attrs a b p q e = (same_front attrs_at (attrs_back a [] p) (attrs_back b [] q) (ap (λ (t : List ℕ). t ++ []) e)).0

-- ---- names

entry_is : (e f : Entry) → e.filename ≡ f.filename → e.longname ≡ f.longname → e.attrs ≡ f.attrs → e ≡ f
entry_is e f p q r =
    let one : e ≡ record { filename = f.filename; longname = e.longname; attrs = e.attrs } = ap (λ (n : List ℕ). record { filename = n; longname = e.longname; attrs = e.attrs }) p in
    let two : record { filename = f.filename; longname = e.longname; attrs = e.attrs } ≡ record { filename = f.filename; longname = f.longname; attrs = e.attrs } = ap (λ (n : List ℕ). record { filename = f.filename; longname = n; attrs = e.attrs }) q in
    one ∙ two ∙ ap (λ (a : Attrs). record { filename = f.filename; longname = f.longname; attrs = a }) r

pub entry_parts : (e : Entry) (rest : List ℕ) → entry_text e ++ rest ≡ string e.filename ++ (string e.longname ++ (attrs_text e.attrs ++ rest))
unfolding entry_text
entry_parts e rest = append_assoc (string e.filename ++ string e.longname) (attrs_text e.attrs) rest ∙ append_assoc (string e.filename) (string e.longname) (attrs_text e.attrs ++ rest)

same_entry : (e f : Entry) (x y : List ℕ) → EntryFits e → EntryFits f → entry_text e ++ x ≡ entry_text f ++ y → (e ≡ f) × (x ≡ y)
same_entry e f x y p q h =
    let a = same_front string_at (reads_string.again e.filename (string e.longname ++ (attrs_text e.attrs ++ x)) p.filename) (reads_string.again f.filename (string f.longname ++ (attrs_text f.attrs ++ y)) q.filename) (sym (entry_parts e x) ∙ h ∙ entry_parts f y) in
    let b = same_front string_at (reads_string.again e.longname (attrs_text e.attrs ++ x) p.longname) (reads_string.again f.longname (attrs_text f.attrs ++ y) q.longname) a.1 in
    let c = same_front attrs_at (attrs_back e.attrs x p.attrs) (attrs_back f.attrs y q.attrs) b.1 in
    (entry_is e f a.0 b.0 c.0, c.1)

same_entries : (es fs : List Entry) → AllByRecursion EntryFits es → AllByRecursion EntryFits fs → length es ≡ length fs → flat_map entry_text es ≡ flat_map entry_text fs → es ≡ fs
same_entries [] [] p q len h = refl
same_entries [] (f ∷ fs) p q len h = absurd (omega arith)
same_entries (e ∷ es) [] p q len h = absurd (omega arith)
same_entries (e ∷ es) (f ∷ fs) p q len h =
    let one = same_entry e f (flat_map entry_text es) (flat_map entry_text fs) p.0 q.0 h in
    let heads : e ≡ f = one.0 in
    let tails : es ≡ fs = same_entries es fs p.1 q.1 (omega arith) one.1 in
    cc

-- ---- statuses

-- by the last byte of the code and the length of the message
status_at : ℕ → ℕ → Reply
status_at code len =
    if len == 13 then reply.NoMemory
    else if code == 0 then reply.Status status.Success
    else if code == 1 then reply.Status status.EndOfFile
    else if code == 2 then reply.Status status.NoSuchFile
    else if code == 3 then reply.Status status.PermissionDenied
    else if code == 4 then reply.Status status.Failure
    else if code == 5 then reply.Status status.BadMessage
    else reply.Status status.OpUnsupported

status_of : List ℕ → Reply
status_of text = status_at (get_or text 3 0) (get_or text 7 0)

status_back : (code : StatusCode) → status_of (fields_of (reply.Status code)) ≡ reply.Status code
unfolding status_of status_at
status_back status.Success = refl
status_back status.EndOfFile = refl
status_back status.NoSuchFile = refl
status_back status.PermissionDenied = refl
status_back status.Failure = refl
status_back status.BadMessage = refl
status_back status.OpUnsupported = refl

no_memory_back : status_of (fields_of reply.NoMemory) ≡ reply.NoMemory
unfolding status_of status_at
no_memory_back = refl

-- ---- replies

same_reply : (a b : Reply) → ReplyFits a → ReplyFits b → kind_of_reply a ≡ kind_of_reply b → fields_of a ≡ fields_of b → a ≡ b
same_reply (reply.Status c) (reply.Status d) p q k e = sym (status_back c) ∙ ap status_of e ∙ status_back d
same_reply (reply.Status c) reply.NoMemory p q k e = sym (status_back c) ∙ ap status_of e ∙ no_memory_back
same_reply reply.NoMemory (reply.Status d) p q k e = sym no_memory_back ∙ ap status_of e ∙ status_back d
same_reply reply.NoMemory reply.NoMemory p q k e = refl
same_reply (reply.Handle m) (reply.Handle n) p q k e = ap reply.Handle (same_front (number_at w64) (reads_u64.again m [] p) (reads_u64.again n [] q) (ap (drop 4) e)).0
same_reply (reply.Data a) (reply.Data b) p q k e = ap reply.Data (same_front string_at (reads_string.again a [] p) (reads_string.again b [] q) (ap (λ (t : List ℕ). t ++ []) e)).0
same_reply (reply.Names es) (reply.Names fs) p q k e =
    let parts = same_front (number_at w32) (reads_u32.again (length es) (flat_map entry_text es) p.0) (reads_u32.again (length fs) (flat_map entry_text fs) q.0) e in
    ap reply.Names (same_entries es fs p.1 q.1 parts.0 parts.1)
same_reply (reply.Attrs a) (reply.Attrs b) p q k e = ap reply.Attrs (same_attrs a b p q e)
-- of different types
same_reply _ _ p q k e = absurd (omega arith)

pub one_reply : (id other_id : ℕ) (r other : Reply) → id < 2 ^ 32 → other_id < 2 ^ 32 → ReplyFits r → ReplyFits other → reply_body id r ≡ reply_body other_id other → (id ≡ other_id) × (r ≡ other)
one_reply id other_id r other p q fits other_fits e =
    let kinds : kind_of_reply r ≡ kind_of_reply other = ap (λ (t : List ℕ). get_or t 0 0) e in
    let parts = same_front (number_at w32) (reads_u32.again id (fields_of r) p) (reads_u32.again other_id (fields_of other) q) (ap (drop 1) e) in
    (parts.0, same_reply r other fits other_fits kinds parts.1)
