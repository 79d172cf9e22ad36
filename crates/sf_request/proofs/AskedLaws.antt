-- The decoder finds what a body encodes, and nothing else.
use Rattle.std.proofs.Common.{◌≡◌, ◌≢◌, ℕ, suc, Bool, true, false, cond, eqb, ◌&&◌, List, [], ◌∷◌, ◌++◌, Option, Some, None, refl, sym, ap, subst, ◌∙◌, arith, lit<, length, ◌<◌}
use Rattle.std.specs.Prelude.{codes}
use Rattle.std.specs.Str.{bytes_eq}
use Rattle.std.specs.Int.{w32}
use Rattle.std.proofs.lemmas.Slice.Eq.{bytes_eq-Decides}
use Rattle.std.proofs.lemmas.Bool.{eqb-true, eqb-false, ne_eqb}
use Rattle.sf_request.specs.declared.request.WireRequest.{WireRequest}
use Rattle.sf_request.specs.declared.request.Asked.{Asked}
use Rattle.sf_request.specs.declared.request.Asked.TheVariants.{Init, Request, Limits, BadFields, Unknown, NoVersion, NoId}
use Rattle.sf_field.specs.Fields.{be32, string}
use Rattle.sf_field.specs.Reading.{number_at}
use Rattle.sf_field.proofs.Laws.{IsBytes, IsBytes-rest, some_is, reads_u32, number_none, number_short}
use Rattle.sf_request.specs.Requests.{Shape, shape_of, HasId, HasName, HasRequest, AsksLimits, IsUnknown, Asks, RequestFits}
use Rattle.sf_request.specs.Reading.{request_at, name_at, asked_by, asked_as, is_limits, asked_named, asked_under, asked_of}
use Rattle.sf_request.proofs.RequestLaws.{request_takes, request_again, again_by, name_takes, name_again, request_fits}

-- ---- the extension that asks for the limits

abbrev limits : List ℕ
limits = codes "limits@openssh.com"

both_true : (a b : Bool) → (a && b) ≡ true → (a ≡ true) × (b ≡ true)
both_true true true e = (refl, refl)
both_true true false e = absurd cc
both_true false b e = absurd cc

limits_asked : (kind : ℕ) (rest name bytes : List ℕ) → HasName kind rest name bytes → is_limits kind name ≡ true → AsksLimits kind rest
limits_asked kind rest name bytes h is =
    let both = both_true (eqb kind 200) (bytes_eq name limits) is in
    let name_is : name ≡ limits = (bytes_eq-Decides name limits).0 both.1 in
    (eqb-true kind 200 both.0, bytes, h.parts ∙ ap (λ (b : Bool). cond b (string name) [] ++ bytes) both.0 ∙ ap (λ (n : List ℕ). string n ++ bytes) name_is)

limits_named : (kind : ℕ) (rest name bytes : List ℕ) → HasName kind rest name bytes → AsksLimits kind rest → is_limits kind name ≡ true
limits_named kind rest name bytes h (kind_is, more, parts) =
    let is : eqb kind 200 ≡ true = ap (λ (k : ℕ). eqb k 200) kind_is in
    let one = name_again kind rest name bytes h in
    let two = name_again kind rest limits more (record {
      short = lit< tt;
      none = λ other. absurd (other kind_is);
      parts = parts ∙ ap (λ (b : Bool). cond b (string limits) [] ++ more) (sym is);
    }) in
    let name_is : name ≡ limits = ap (λ (x : List ℕ × List ℕ). x.0) (some_is (name, bytes) (limits, more) (sym one ∙ two)) in
    rw (is, (bytes_eq-Decides name limits).1 name_is) refl

row_no_limits : (kind : ℕ) (name : List ℕ) (shape : Shape) → shape_of kind name ≡ Some shape → (b : Bool) → is_limits kind name ≡ b → b ≡ false
unfolding shape_of
row_no_limits kind name shape row false e = refl
row_no_limits kind name shape row true e =
    let both = both_true (eqb kind 200) (bytes_eq name limits) e in
    let kind_is = eqb-true kind 200 both.0 in
    let name_is : name ≡ limits = (bytes_eq-Decides name limits).0 both.1 in
    let none : None ≡ Some shape = ap (λ (k : ℕ). shape_of k limits) (sym kind_is) ∙ ap (shape_of kind) (sym name_is) ∙ row in
    absurd cc

-- ---- what is decoded is encoded

-- A body has an id, and the name of an extension or none.
record Named (body : List ℕ) (kind id : ℕ) (rest name bytes : List ℕ) : Type 0 where
  has : HasId body kind id rest
  no_init : kind ≢ 1
  named : HasName kind rest name bytes
  no_limits : is_limits kind name ≡ false

no_limits_asked : {body : List ℕ} {kind id : ℕ} {rest name bytes : List ℕ} → Named body kind id rest name bytes → AsksLimits kind rest → ⊥
no_limits_asked {kind = kind} {rest = rest} {name = name} {bytes = bytes} n asks =
    let yes = limits_named kind rest name bytes n.named asks in
    let not = n.no_limits in
    absurd cc

same_name : {body : List ℕ} {kind id : ℕ} {rest name bytes : List ℕ} (n : Named body kind id rest name bytes) (other more : List ℕ) → HasName kind rest other more → (name ≡ other) × (bytes ≡ more)
same_name {kind = kind} {rest = rest} {name = name} {bytes = bytes} n other more h =
    let same = some_is (name, bytes) (other, more) (sym (name_again kind rest name bytes n.named) ∙ name_again kind rest other more h) in
    (ap (λ (x : List ℕ × List ℕ). x.0) same, ap (λ (x : List ℕ × List ℕ). x.1) same)

known_row : {body : List ℕ} {kind id : ℕ} {rest name bytes : List ℕ} {shape : Shape} → Named body kind id rest name bytes → shape_of kind name ≡ Some shape → IsUnknown kind rest → ⊥
known_row {name = name} n row u =
    let same = (same_name n u.name u.fields u.named).0 in
    let none = u.no_row in
    absurd cc

request_found : {body : List ℕ} {kind id : ℕ} {rest name bytes : List ℕ} (shape : Shape) (request : WireRequest) → Named body kind id rest name bytes → IsBytes bytes → shape_of kind name ≡ Some shape
    → request_at shape bytes ≡ Some request → HasRequest kind rest request
request_found {kind = kind} {rest = rest} {name = name} {bytes = bytes} shape request n fits row e =
    let t = request_takes shape bytes request fits e in
    record {
      name = name;
      text = t.text;
      more = t.more;
      shape = shape;
      values = t.values;
      named = subst (HasName kind rest name) t.parts n.named;
      row = row;
      spelled = t.spelled;
      is = t.is;
    }

row_found : {body : List ℕ} {kind id : ℕ} {rest name bytes : List ℕ} (shape : Shape) (o : Option WireRequest) → Named body kind id rest name bytes → IsBytes bytes → shape_of kind name ≡ Some shape
    → request_at shape bytes ≡ o → Asks body (asked_by id o)
row_found {kind = kind} {rest = rest} {bytes = bytes} shape None n fits row e = (
  kind,
  rest,
  n.has,
  n.no_init,
  no_limits_asked n,
  known_row n row,
  λ request h.
      let same = same_name n h.name (h.text ++ h.more) h.named in
      let name_is = same.0 in
      let bytes_are = same.1 in
      let other = h.row in
      let again = request_again h.shape h.values h.text h.more h.spelled in
      absurd cc,
)
row_found {kind = kind} {rest = rest} shape (Some request) n fits row e = (kind, rest, n.has, request_found shape request n fits row e)

name_found : {body : List ℕ} {kind id : ℕ} {rest name bytes : List ℕ} (o : Option Shape) → Named body kind id rest name bytes → IsBytes bytes → shape_of kind name ≡ o → Asks body (asked_as id o bytes)
name_found {kind = kind} {rest = rest} {name = name} {bytes = bytes} None n fits row =
    (kind, rest, n.has, n.no_init, no_limits_asked n, record { name = name; fields = bytes; named = n.named; no_row = row })
name_found {bytes = bytes} (Some shape) n fits row = row_found shape (request_at shape bytes) n fits row refl

limits_found : {body : List ℕ} {kind id : ℕ} {rest name bytes : List ℕ} (b : Bool) → is_limits kind name ≡ b → HasId body kind id rest → kind ≢ 1 → HasName kind rest name bytes → IsBytes bytes
    → Asks body (cond b (Limits id) (asked_as id (shape_of kind name) bytes))
limits_found {kind = kind} {rest = rest} {name = name} {bytes = bytes} true is has ne named fits = (kind, rest, has, limits_asked kind rest name bytes named is)
limits_found {kind = kind} {name = name} false is has ne named fits = name_found (shape_of kind name) (record { has = has; no_init = ne; named = named; no_limits = is }) fits refl

id_found : {body : List ℕ} {kind id : ℕ} {rest : List ℕ} (one : Bool) (o : Option (List ℕ × List ℕ)) → eqb kind 1 ≡ one → name_at kind rest ≡ o → HasId body kind id rest → IsBytes rest
    → Asks body (cond one (Init id) (asked_named kind id o))
id_found {body} {kind} {id} {rest} true o p q has fits = (rest, subst (λ (k : ℕ). HasId body k id rest) (eqb-true kind 1 p) has)
id_found {kind = kind} {rest = rest} false None p q has fits = (
  kind,
  rest,
  has,
  eqb-false kind 1 p,
  λ h.
      let is : eqb kind 200 ≡ true = ap (λ (k : ℕ). eqb k 200) h.0 in
      let again = again_by true rest limits h.1 (lit< tt) (λ other. absurd cc) h.2 in
      absurd cc,
  λ u. let again = name_again kind rest u.name u.fields u.named in absurd cc,
  λ request h. let again = name_again kind rest h.name (h.text ++ h.more) h.named in absurd cc,
)
id_found {kind = kind} {rest = rest} false (Some n) p q has fits =
    let t = name_takes kind rest n.0 n.1 fits q in
    limits_found (is_limits kind n.0) refl has (eqb-false kind 1 p) t.0 t.1

head_is : (kind n : ℕ) (rest more : List ℕ) → kind ∷ rest ≡ n ∷ more → kind ≡ n
head_is kind n rest more e = cc

short_found : (kind : ℕ) (rest : List ℕ) (one : Bool) → eqb kind 1 ≡ one → length (kind ∷ rest) < 5 → Asks (kind ∷ rest) (cond one NoVersion NoId)
short_found kind rest true e short = (short, (rest, ap (λ (k : ℕ). k ∷ rest) (eqb-true kind 1 e)))
short_found kind rest false e short = (short, λ init. eqb-false kind 1 e (head_is kind 1 rest init.0 init.1))

number_found : (kind : ℕ) (rest : List ℕ) (o : Option (ℕ × List ℕ)) → number_at w32 rest ≡ o → IsBytes rest → Asks (kind ∷ rest) (asked_under kind o)
unfolding asked_under
number_found kind rest None e fits = short_found kind rest (eqb kind 1) refl (omega (arith, number_none w32 rest e))
number_found kind rest (Some n) e fits =
    let t = reads_u32.takes rest n.0 n.1 fits e in
    id_found (eqb kind 1) (name_at kind n.1) refl refl (record { fits = t.1; parts = ap (λ (t : List ℕ). kind ∷ t) t.0.parts }) t.0.rest_fits

pub asked_found : (body : List ℕ) → IsBytes body → Asks body (asked_of body)
unfolding asked_of
asked_found [] fits = (lit< tt, λ init. let e : [] ≡ 1 ∷ init.0 = init.1 in cc)
asked_found (kind ∷ rest) fits = number_found kind rest (number_at w32 rest) refl (IsBytes-rest kind rest fits)

-- ---- what is encoded is decoded

has_id : (body : List ℕ) (kind id : ℕ) (rest : List ℕ) → HasId body kind id rest → asked_of body ≡ asked_under kind (Some (id, rest))
unfolding asked_of
has_id body kind id rest has = ap asked_of has.parts ∙ ap (asked_under kind) (reads_u32.again id rest has.fits)

has_name : (body : List ℕ) (kind id : ℕ) (rest name bytes : List ℕ) → HasId body kind id rest → kind ≢ 1 → HasName kind rest name bytes
    → asked_of body ≡ cond (is_limits kind name) (Limits id) (asked_as id (shape_of kind name) bytes)
unfolding asked_under
has_name body kind id rest name bytes has ne named = has_id body kind id rest has ∙ rw (ne_eqb kind 1 ne, name_again kind rest name bytes named) refl

limits_have_name : (kind : ℕ) (rest : List ℕ) (asks : AsksLimits kind rest) → HasName kind rest limits asks.1
limits_have_name kind rest asks = record {
  short = lit< tt;
  none = λ other. absurd (other asks.0);
  parts = asks.2 ∙ ap (λ (k : ℕ). cond (eqb k 200) (string limits) [] ++ asks.1) (sym asks.0);
}

other_name : (kind : ℕ) (rest name bytes : List ℕ) → (AsksLimits kind rest → ⊥) → HasName kind rest name bytes → (b : Bool) → is_limits kind name ≡ b → b ≡ false
other_name kind rest name bytes none named false e = refl
other_name kind rest name bytes none named true e = absurd (none (limits_asked kind rest name bytes named e))

no_init : (kind : ℕ) (name : List ℕ) (shape : Shape) → shape_of kind name ≡ Some shape → kind ≢ 1
unfolding shape_of
no_init kind name shape row is = let none : None ≡ Some shape = ap (λ (k : ℕ). shape_of k name) (sym is) ∙ row in absurd cc

none_by : {body : List ℕ} {kind id : ℕ} {rest name bytes : List ℕ} (shape : Shape) (o : Option WireRequest) → Named body kind id rest name bytes → IsBytes bytes → shape_of kind name ≡ Some shape
    → request_at shape bytes ≡ o → ((request : WireRequest) → HasRequest kind rest request → ⊥) → asked_by id o ≡ BadFields id
none_by shape None n fits row e none = refl
none_by shape (Some request) n fits row e none = absurd (none request (request_found shape request n fits row e))

bad_by : {body : List ℕ} {kind id : ℕ} {rest name bytes : List ℕ} (o : Option Shape) → Named body kind id rest name bytes → IsBytes bytes → shape_of kind name ≡ o → (IsUnknown kind rest → ⊥)
    → ((request : WireRequest) → HasRequest kind rest request → ⊥) → asked_as id o bytes ≡ BadFields id
bad_by {name = name} {bytes = bytes} None n fits row no_unknown none = absurd (no_unknown (record { name = name; fields = bytes; named = n.named; no_row = row }))
bad_by {bytes = bytes} (Some shape) n fits row no_unknown none = none_by shape (request_at shape bytes) n fits row refl none

bad_name : {body : List ℕ} {kind id : ℕ} {rest : List ℕ} (o : Option (List ℕ × List ℕ)) → HasId body kind id rest → kind ≢ 1 → IsBytes rest → name_at kind rest ≡ o → (AsksLimits kind rest → ⊥) → (IsUnknown kind rest → ⊥)
    → ((request : WireRequest) → HasRequest kind rest request → ⊥) → asked_named kind id o ≡ BadFields id
bad_name None has ne fits e no_limits no_unknown none = refl
bad_name {kind = kind} {id = id} {rest = rest} (Some n) has ne fits e no_limits no_unknown none =
    let t = name_takes kind rest n.0 n.1 fits e in
    let other = other_name kind rest n.0 n.1 no_limits t.0 (is_limits kind n.0) refl in
    ap (λ (b : Bool). cond b (Limits id) (asked_as id (shape_of kind n.0) n.1)) other
    ∙ bad_by (shape_of kind n.0) (record { has = has; no_init = ne; named = t.0; no_limits = other }) t.1 refl no_unknown none

IsBytes-parts : (kind id : ℕ) (rest : List ℕ) → IsBytes (kind ∷ be32 id ++ rest) → IsBytes rest
IsBytes-parts kind id rest h i = h (suc (suc (suc (suc (suc i)))))

pub asked_only : (body : List ℕ) (other : Asked) → IsBytes body → Asks body other → asked_of body ≡ other
unfolding asked_of asked_under
asked_only body (Init version) fits h = has_id body 1 version h.0 h.1
asked_only body (Request id request) fits (kind, rest, has, h) =
    has_name body kind id rest h.name (h.text ++ h.more) has (no_init kind h.name h.shape h.row) h.named
    ∙ rw (row_no_limits kind h.name h.shape h.row _ refl, h.row, request_again h.shape h.values h.text h.more h.spelled) (ap (Request id) (sym h.is))
asked_only body (Limits id) fits (kind, rest, has, asks) =
    let is : eqb kind 200 ≡ true = ap (λ (k : ℕ). eqb k 200) asks.0 in
    let named = limits_have_name kind rest asks in
    has_name body kind id rest limits asks.1 has (λ one. let two : 1 ≡ 200 = sym one ∙ asks.0 in absurd cc) named ∙ rw (limits_named kind rest limits asks.1 named asks) refl
asked_only body (BadFields id) fits (kind, rest, has, ne, no_limits, no_unknown, none) =
    has_id body kind id rest has ∙ rw (ne_eqb kind 1 ne)
    (bad_name (name_at kind rest) has ne (IsBytes-parts kind id rest (subst IsBytes has.parts fits)) refl no_limits no_unknown none)
asked_only body (Unknown id) fits (kind, rest, has, ne, no_limits, u) =
    has_name body kind id rest u.name u.fields has ne u.named ∙ rw (other_name kind rest u.name u.fields no_limits u.named (is_limits kind u.name) refl, u.no_row) refl
asked_only [] NoVersion fits h = let e : [] ≡ 1 ∷ h.1.0 = h.1.1 in absurd cc
asked_only (kind ∷ rest) NoVersion fits h =
    let init : eqb kind 1 ≡ true = ap (λ (k : ℕ). eqb k 1) (head_is kind 1 rest h.1.0 h.1.1) in
    ap (asked_under kind) (number_short w32 rest (omega (arith, h.0))) ∙ rw init refl
asked_only [] NoId fits h = refl
asked_only (kind ∷ rest) NoId fits h =
    let other : eqb kind 1 ≡ false = ne_eqb kind 1 (λ is. h.1 (rest, ap (λ (k : ℕ). k ∷ rest) is)) in
    ap (asked_under kind) (number_short w32 rest (omega (arith, h.0))) ∙ rw other refl

-- a decoded request has an encoding
pub asked_fits : (body : List ℕ) (id : ℕ) (request : WireRequest) → Asks body (Request id request) → RequestFits request
asked_fits body id request (kind, rest, has, h) = request_fits kind rest request h
