-- The fields of a request are decoded by its shape.
use Rattle.std.proofs.Common.{◌≡◌, ℕ, Bool, true, false, cond, eqb, List, [], ◌∷◌, ◌++◌, Option, Some, None, refl, sym, ap, subst, ◌∙◌, length, ◌<◌, ◌^◌, lit<}
use Rattle.std.specs.Prelude.{option_map}
use Rattle.std.specs.List.{AllByRecursion}
use Rattle.std.proofs.lemmas.Bool.{eqb-true, eqb-false}
use Rattle.sf_field.specs.declared.attrs.Attrs.{Attrs}
use Rattle.sf_field.specs.Attributes.{AttrsFit, no_attrs}
use Rattle.sf_field.specs.Fields.{string}
use Rattle.sf_field.specs.Reading.{string_at}
use Rattle.sf_field.proofs.Laws.{IsBytes, some_is, reads_string}
use Rattle.sf_request.specs.declared.request.WireRequest.{WireRequest}
use Rattle.sf_field.specs.declared.operation.PathOp.TheVariants as path_op
use Rattle.sf_field.specs.declared.operation.PairOp.TheVariants as pair_op
use Rattle.sf_field.specs.declared.operation.HandleOp.TheVariants as handle_op
use Rattle.sf_request.specs.declared.request.WireRequest.TheVariants as request
use Rattle.sf_request.specs.Requests.{Shape, Values, SpellsShape, request_with, set_at, set_open, requests, shape_in, shape_of, HasName, HasRequest, IsShort, RequestFits}
use Rattle.sf_request.specs.Requests.Shape.{OneText, TextAndAttrs, TwoTexts, OpenFields, ReadFields, WriteFields}
use Rattle.sf_request.specs.Reading.{fields, values_at, request_at, name_at}
use Rattle.sf_request.proofs.SpelledFields.{ReadsAs, as_u32, as_u64, as_string, as_attrs, as_flags, as_both, fields_take, fields_again}

reads : (shape : Shape) → ReadsAs (values_at shape) (SpellsShape shape)
reads (OneText make) = as_string
reads (TextAndAttrs make) = as_both as_string as_attrs
reads (TwoTexts make) = as_both as_string as_string
reads OpenFields = as_both as_string (as_both as_flags as_attrs)
reads ReadFields = as_both as_string (as_both as_u64 as_u32)
reads WriteFields = as_both as_string (as_both as_u64 as_string)

mapped_some : {X Y : Type 0} (f : X → Y) (o : Option X) (y : Y) → option_map f o ≡ Some y → (x : X) × (o ≡ Some x) × (f x ≡ y)
mapped_some f (Some x) y e = (x, refl, some_is (f x) y e)
mapped_some f None y e = absurd cc

-- what is decoded is encoded by a prefix of the bytes, and the converse
pub record Found (shape : Shape) (bytes : List ℕ) (r : WireRequest) : Type 0 where
  pub values : Values shape
  pub text : List ℕ
  pub more : List ℕ
  pub parts : bytes ≡ text ++ more
  pub spelled : SpellsShape shape values text
  pub is : r ≡ request_with shape values

pub request_takes : (shape : Shape) (bytes : List ℕ) (r : WireRequest) → IsBytes bytes → request_at shape bytes ≡ Some r → Found shape bytes r
request_takes shape bytes r fits e =
    let m = mapped_some (request_with shape) (fields (values_at shape) bytes) r e in
    let t = fields_take (values_at shape) (SpellsShape shape) (reads shape) bytes m.0 fits m.1 in
    record { values = m.0; text = t.0; more = t.1; parts = t.2; spelled = t.3; is = sym m.2 }

pub request_again : (shape : Shape) (x : Values shape) (text more : List ℕ) → SpellsShape shape x text → request_at shape (text ++ more) ≡ Some (request_with shape x)
request_again shape x text more h = ap (option_map (request_with shape)) (fields_again (values_at shape) (SpellsShape shape) (reads shape) x text more h)

-- ---- the name of an extension

pub again_by : (extended : Bool) (rest name fields : List ℕ) → length name < 2 ^ 32 → (extended ≡ false → name ≡ []) → rest ≡ cond extended (string name) [] ++ fields
    → cond extended (string_at rest) (Some ([], rest)) ≡ Some (name, fields)
again_by true rest name fields short none parts = ap string_at parts ∙ reads_string.again name fields short
again_by false rest name fields short none parts = rw (parts, none refl) refl

pub name_again : (kind : ℕ) (rest name fields : List ℕ) → HasName kind rest name fields → name_at kind rest ≡ Some (name, fields)
name_again kind rest name fields h = again_by (eqb kind 200) rest name fields h.short (λ other. h.none (eqb-false kind 200 other)) h.parts

takes_by : (kind : ℕ) (extended : Bool) (rest name fields : List ℕ) → eqb kind 200 ≡ extended → IsBytes rest → cond extended (string_at rest) (Some ([], rest)) ≡ Some (name, fields)
    → HasName kind rest name fields × IsBytes fields
takes_by kind true rest name fields p fits e =
    let t = reads_string.takes rest name fields fits e in (
      record {
        short = t.1;
        none = λ other. absurd (other (eqb-true kind 200 p));
        parts = t.0.parts ∙ ap (λ (b : Bool). cond b (string name) [] ++ fields) (sym p);
      },
      t.0.rest_fits,
    )
takes_by kind false rest name fields p fits e =
    let same = some_is ([], rest) (name, fields) e in
    let empty : [] ≡ name = ap (λ (n : List ℕ × List ℕ). n.0) same in
    let all : rest ≡ fields = ap (λ (n : List ℕ × List ℕ). n.1) same in (
      record {
        short = subst (λ (n : List ℕ). length n < 2 ^ 32) empty (lit< tt);
        none = λ other. sym empty;
        parts = all ∙ ap (λ (b : Bool). cond b (string name) [] ++ fields) (sym p);
      },
      subst IsBytes all fits,
    )

pub name_takes : (kind : ℕ) (rest name fields : List ℕ) → IsBytes rest → name_at kind rest ≡ Some (name, fields) → HasName kind rest name fields × IsBytes fields
name_takes kind rest name fields fits e = takes_by kind (eqb kind 200) rest name fields refl fits e

-- ---- a decoded request has an encoding

abbrev ShapeFits : Shape → Type 0
ShapeFits shape = (x : Values shape) (text : List ℕ) → SpellsShape shape x text → RequestFits (request_with shape x)

abbrev Row : Type 0
Row = ℕ × Option (List ℕ) × Shape

abbrev RowFits : Row → Type 0
RowFits row = ShapeFits row.2

text_fits : (make : List ℕ → WireRequest) → ((s : List ℕ) → IsShort s → RequestFits (make s)) → ShapeFits (OneText make)
text_fits make fits x text h = fits x h.short

attrs_fit : (make : Attrs → List ℕ → WireRequest) → ((a : Attrs) (s : List ℕ) → IsShort s → AttrsFit a → RequestFits (make a s)) → ShapeFits (TextAndAttrs make)
attrs_fit make fits x text h = fits x.1 x.0 h.first.short h.second.fits

texts_fit : (make : List ℕ → List ℕ → WireRequest) → ((s t : List ℕ) → IsShort s → IsShort t → RequestFits (make s t)) → ShapeFits (TwoTexts make)
texts_fit make fits x text h = fits x.0 x.1 h.first.short h.second.short

infixr 5 ◌▹◌
abbrev ◌▹◌ : {A B : Type 0} → A → B → A × B
a ▹ b = (a, b)

all_fit : AllByRecursion RowFits requests
all_fit =
    (λ x text h. (h.first.short, h.second.second.fits))
    ▹ text_fits (request.ByHandle handle_op.Close) (λ s h. h)
    ▹ (λ x text h. (h.first.short, h.second.first.fits, h.second.second.fits))
    ▹ (λ x text h. (h.first.short, h.second.first.fits, h.second.second.short))
    ▹ text_fits request.LStat (λ s h. h)
    ▹ text_fits (request.ByHandle handle_op.FStat) (λ s h. h)
    ▹ attrs_fit set_at (λ a s h k. (h, k))
    ▹ attrs_fit set_open (λ a s h k. (h, k))
    ▹ text_fits (request.OnPath path_op.OpenDir) (λ s h. h)
    ▹ text_fits (request.ByHandle handle_op.ReadDir) (λ s h. h)
    ▹ text_fits (request.OnPath path_op.Remove) (λ s h. h)
    ▹ attrs_fit (λ attrs. request.OnPath (path_op.Mkdir attrs)) (λ a s h k. (h, k))
    ▹ text_fits (request.OnPath path_op.Rmdir) (λ s h. h)
    ▹ text_fits request.RealPath (λ s h. h)
    ▹ text_fits (request.OnPath path_op.Stat) (λ s h. h)
    ▹ texts_fit (request.OnPaths pair_op.Rename) (λ s t h k. (h, k))
    ▹ texts_fit (request.OnPaths pair_op.PosixRename) (λ s t h k. (h, k))
    ▹ texts_fit (request.OnPaths pair_op.Link) (λ s t h k. (h, k))
    ▹ text_fits (set_open no_attrs) (λ s h. (h, record { size = tt; owner = tt; permissions = tt; times = tt }))
    ▹ attrs_fit set_at (λ a s h k. (h, k))
    ▹ tt

picked_by : (row : Row) (rows : List Row) (kind : ℕ) (name : List ℕ) (shape : Shape) (same : Bool) → RowFits row → (shape_in rows kind name ≡ Some shape → ShapeFits shape)
    → cond same (Some row.2) (shape_in rows kind name) ≡ Some shape → ShapeFits shape
picked_by row rows kind name shape true fits later e = subst ShapeFits (some_is row.2 shape e) fits
picked_by row rows kind name shape false fits later e = later e

picked : (rows : List Row) → AllByRecursion RowFits rows → (kind : ℕ) (name : List ℕ) (shape : Shape) → shape_in rows kind name ≡ Some shape → ShapeFits shape
picked [] all kind name shape e = absurd cc
picked (row ∷ rows) all kind name shape e =
    picked_by row rows kind name shape _ all.0 (λ later. picked rows all.1 kind name shape later) e

pub request_fits : (kind : ℕ) (rest : List ℕ) (r : WireRequest) → HasRequest kind rest r → RequestFits r
unfolding shape_of
request_fits kind rest r h =
    subst RequestFits (sym h.is) (picked requests all_fit kind h.name h.shape h.row h.values h.text h.spelled)
