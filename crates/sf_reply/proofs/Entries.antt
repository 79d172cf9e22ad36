-- Encoding entries one after the other.
use Rattle.std.proofs.Common.{◌≡◌, ℕ, zero, suc, ◌+◌, ◌<◌, ◌≤◌, List, [], ◌∷◌, ◌++◌, length, get_or, drop, sym, ap, ◌∙◌, append_assoc, arith}
use Rattle.std.specs.List.{flat_map}
use Rattle.std.proofs.lemmas.List.{drop_more, drop_all, length-append, append-nil}
use Rattle.bytes.specs.Filled.{Filled}
use Rattle.sf_reply.specs.declared.reply.Entry.{Entry}
use Rattle.sf_field.specs.Fields.{string, packet}
use Rattle.sf_reply.specs.declared.reply.Reply.TheVariants.{Names}
use Rattle.sf_field.specs.Attributes.{attrs_text, no_attrs}
use Rattle.sf_reply.specs.Replies.{entry_text, reply_body}

-- the bytes still to be written
abbrev pub left : List Entry → ℕ → List ℕ
left es i = flat_map entry_text (drop i es)

pub left_more : (es : List Entry) (i : ℕ) (e : Entry) → e ≡ get_or es i e → i < length es → left es i ≡ entry_text e ++ left es (i + 1)
left_more es i e is lt = ap (flat_map entry_text) (drop_more es i e lt) ∙ ap (λ (x : Entry). entry_text x ++ left es (i + 1)) (sym is)

pub left_none : (es : List Entry) (i : ℕ) → length es ≤ i → left es i ≡ []
left_none es i le = ap (flat_map entry_text) (drop_all i es le)

pub record IsPartlyPut (old new : Filled) (es : List Entry) (i : ℕ) : Type 0 where
  pub items : new.items ++ left es i ≡ old.items ++ flat_map entry_text es
  pub spare : new.spare + length (flat_map entry_text es) ≡ old.spare + length (left es i)

pub length-left : (es : List Entry) (i : ℕ) (e : Entry) → e ≡ get_or es i e → i < length es → length (left es i) ≡ length (entry_text e) + length (left es (i + 1))
length-left es i e is lt = ap length (left_more es i e is lt) ∙ length-append (entry_text e) (left es (i + 1))

pub left_short : (es : List Entry) (i : ℕ) → length (left es i) ≤ length (flat_map entry_text es)
left_short es zero = omega arith
left_short [] (suc i) = omega arith
left_short (e ∷ es) (suc i) = omega (arith, length-append (entry_text e) (flat_map entry_text es), left_short es i)

pub length-entry : (e : Entry) → length (entry_text e) ≡ 8 + length e.filename + length e.longname + length (attrs_text e.attrs)
unfolding entry_text
length-entry e = omega (arith, length-append (string e.filename ++ string e.longname) (attrs_text e.attrs), length-append (string e.filename) (string e.longname))

pub length-one_name : (id : ℕ) (e : Entry) → e.attrs ≡ no_attrs → length (packet (reply_body id (Names (e ∷ [])))) ≡ 4 + 1 + 4 + 4 + (4 + length e.filename) + (4 + length e.longname) + 4
length-one_name id e none = omega (arith, ap length (append-nil (entry_text e)), length-entry e, ap (λ a. length (attrs_text a)) none)

pub names_short : (e : Entry) → 8 + length e.filename + length e.longname ≤ length (entry_text e)
unfolding entry_text
names_short e = omega (arith, length-append (string e.filename ++ string e.longname) (attrs_text e.attrs), length-append (string e.filename) (string e.longname), length-append (string e.filename) [])

pub count_short : (es : List Entry) → length es ≤ length (flat_map entry_text es)
count_short [] = omega arith
count_short (e ∷ es) = omega (arith, length-append (entry_text e) (flat_map entry_text es), names_short e, count_short es)

pub put_one : {old new : Filled} {es : List Entry} {i : ℕ} (after : Filled) (e : Entry) → IsPartlyPut old new es i → e ≡ get_or es i e → i < length es → after.items ≡ new.items ++ entry_text e → after.spare + length (entry_text e) ≡ new.spare
    → IsPartlyPut old after es (i + 1)
put_one {new = new} {es = es} {i = i} after e so_far is lt items spare = record {
  items = ap (λ (t : List ℕ). t ++ left es (i + 1)) items ∙ append_assoc new.items (entry_text e) (left es (i + 1)) ∙ ap (λ (t : List ℕ). new.items ++ t) (sym (left_more es i e is lt)) ∙ so_far.items;
  spare = omega (arith, so_far.spare, spare, length-left es i e is lt);
}

pub put_all : (old new : Filled) (es : List Entry) (i : ℕ) → length es ≤ i → IsPartlyPut old new es i → (new.items ≡ old.items ++ flat_map entry_text es) × (new.spare + length (flat_map entry_text es) ≡ old.spare)
put_all old new es i le so_far =
    let none = left_none es i le in
    (sym (append-nil new.items) ∙ ap (λ (t : List ℕ). new.items ++ t) (sym none) ∙ so_far.items, omega (arith, so_far.spare, ap length none))
