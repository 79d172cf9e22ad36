-- No public clause cites this module.
-- Decoding of a body, from left to right.
use Rattle.std.specs.Prelude.{ℕ, List, [], ◌∷◌, Bool, Option, Some, None, option_map, codes, ◌==◌, ◌&&◌, if◌then◌else◌}
use Rattle.std.specs.Str.{bytes_eq}
use Rattle.std.specs.Int.{w32, w64}
use Rattle.sf_request.specs.declared.request.WireRequest.{WireRequest}
use Rattle.sf_request.specs.declared.request.Asked.{Asked}
use Rattle.sf_request.specs.declared.request.Asked.TheVariants.{Init, Request, Limits, BadFields, Unknown, NoVersion, NoId}
use Rattle.sf_request.specs.Requests.{Shape, Values, request_with, shape_of}
use Rattle.sf_request.specs.Requests.Shape.{OneText, TextAndAttrs, TwoTexts, OpenFields, ReadFields, WriteFields}
use Rattle.sf_field.specs.Reading.{◌>>=◌, number_at, string_at, attrs_at, flags_at}

-- two fields in sequence
abbrev pub both_at : {A B : Type 0} → (List ℕ → Option (A × List ℕ))
    → (List ℕ → Option (B × List ℕ)) → List ℕ → Option ((A × B) × List ℕ)
both_at first second bytes = do
  a ← first bytes
  b ← second a.1
  Some ((a.0, b.0), b.1)

-- fields, without the bytes after them
unfoldable pub fields : {A : Type 0} → (List ℕ → Option (A × List ℕ)) → List ℕ → Option A
fields read bytes = read bytes >>= λ x. Some x.0

-- the values of a shape's fields
abbrev pub values_at : (shape : Shape) → List ℕ → Option (Values shape × List ℕ)
values_at (OneText make) = string_at
values_at (TextAndAttrs make) = both_at string_at attrs_at
values_at (TwoTexts make) = both_at string_at string_at
values_at OpenFields = both_at string_at (both_at flags_at attrs_at)
values_at ReadFields = both_at string_at (both_at (number_at w64) (number_at w32))
values_at WriteFields = both_at string_at (both_at (number_at w64) string_at)

abbrev pub request_at : Shape → List ℕ → Option WireRequest
request_at shape bytes = option_map (request_with shape) (fields (values_at shape) bytes)

-- the name of an extension, and the bytes after it; other requests have none
abbrev pub name_at : ℕ → List ℕ → Option (List ℕ × List ℕ)
name_at kind bytes = if kind == 200 then string_at bytes else Some ([], bytes)

abbrev pub asked_by : ℕ → Option WireRequest → Asked
asked_by id None = BadFields id
asked_by id (Some request) = Request id request

-- by the shape of the request, if it is known
abbrev pub asked_as : ℕ → Option Shape → List ℕ → Asked
asked_as id None bytes = Unknown id
asked_as id (Some shape) bytes = asked_by id (request_at shape bytes)

abbrev pub is_limits : ℕ → List ℕ → Bool
is_limits kind name = kind == 200 && bytes_eq name (codes "limits@openssh.com")

abbrev pub asked_named : ℕ → ℕ → Option (List ℕ × List ℕ) → Asked
asked_named kind id None = BadFields id
asked_named kind id (Some n) =
    if is_limits kind n.0 then Limits id else asked_as id (shape_of kind n.0) n.1

unfoldable pub asked_under : ℕ → Option (ℕ × List ℕ) → Asked
asked_under kind None = if kind == 1 then NoVersion else NoId
asked_under kind (Some n) =
    if kind == 1 then Init n.0 else asked_named kind n.0 (name_at kind n.1)

unfoldable pub asked_of : List ℕ → Asked
asked_of [] = NoId
asked_of (kind ∷ rest) = asked_under kind (number_at w32 rest)
