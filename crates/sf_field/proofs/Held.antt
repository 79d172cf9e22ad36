-- What a type guarantees of its values: numbers are within their widths, and the items of a string
-- are bytes.
use denote.Builtin.{u32, u64}
use denote.Laws.{Is}
use denote.RattleType.{RattleType}
use mathlib.Core.Path.{subst}
use mir.Val.{Val}
use Rattle.std.specs.Prelude.{ℕ, List, Option, Some, None, ◌<◌, ◌-◌, ◌^◌, drop, IfSome}
use Rattle.std.proofs.lemmas.List.Elements.{All-take, All-drop}
use Rattle.std.specs.contracts.option.Option as options
use Rattle.sf_field.specs.Attributes.{AttrsFit, OwnerFits, TimesFit}
use Rattle.sf_field.specs.Fields.{AreBytes}
use Rattle.sf_field.specs.Strings.{owned}
use Rattle.sf_field.specs.declared.attrs.Attrs.{Attrs}
use Rattle.sf_field.specs.declared.attrs.Owner.{Owner}
use Rattle.sf_field.specs.declared.attrs.Times.{Times}
use Rattle.sf_field.specs.contracts.attrs.Attrs as attrs_type
use Rattle.sf_field.specs.contracts.attrs.Owner as owner_type
use Rattle.sf_field.specs.contracts.attrs.Times as times_type
use Rattle.sf_field.specs.contracts.byte_string.ByteString as string_type

held_some : (R : RattleType) (Fits : R.Denot → Type 0) → ((x : R.Denot) (vs : List Val) → Is R x vs → Fits x) → (o : Option R.Denot) (vs : List Val) → Is (options.the_row R) o vs → IfSome o Fits
held_some R Fits held None vs is = tt
held_some R Fits held (Some x) vs is = held x _ is.1.1.1.1.0

held_owner : (owner : Owner) (vs : List Val) → Is owner_type.the_row owner vs → OwnerFits owner
held_owner owner vs is = record { uid = is.1.1.0.1; gid = is.1.1.1.0.1 }

held_times : (times : Times) (vs : List Val) → Is times_type.the_row times vs → TimesFit times
held_times times vs is = record { atime = is.1.1.0.1; mtime = is.1.1.1.0.1 }

pub held_attrs : (attrs : Attrs) (vs : List Val) → Is attrs_type.the_row attrs vs → AttrsFit attrs
held_attrs attrs vs is = record {
  size = held_some u64 (λ n. n < 2 ^ 64) (λ n us small. small.1) attrs.size _ is.1.1.0;
  owner = held_some owner_type.the_row OwnerFits held_owner attrs.owner _ is.1.1.1.0;
  permissions = held_some u32 (λ n. n < 2 ^ 32) (λ n us small. small.1) attrs.permissions _ is.1.1.1.1.0;
  times = held_some times_type.the_row TimesFit held_times attrs.times _ is.1.1.1.1.1.0;
}

pub held_bytes : (bytes : List ℕ) (vs : List Val) → Is string_type.the_row bytes vs → AreBytes bytes
held_bytes bytes vs is =
    let string = is.0.0 in
    let all : AreBytes (owned string.whole) = is.0.1.1.2 in
    subst AreBytes is.0.1.0
    (All-take (λ b. b < 256) (string.to - string.from) (drop string.from (owned string.whole))
    (All-drop (λ b. b < 256) string.from (owned string.whole) all))
