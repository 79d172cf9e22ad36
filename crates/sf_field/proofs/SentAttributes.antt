-- Attributes that are sent are a valid encoding.
use Rattle.std.proofs.Common.{◌≡◌, ℕ, ◌+◌, ◌<◌, ◌^◌, true, List, [], ◌++◌, Option, Some, None, refl, append_assoc, lit<}
use Rattle.std.specs.Prelude.{is_none}
use Rattle.std.proofs.lemmas.List.{append-nil}
use Rattle.sf_field.specs.declared.attrs.Attrs.{Attrs}
use Rattle.sf_field.specs.declared.attrs.Owner.{Owner}
use Rattle.sf_field.specs.declared.attrs.Times.{Times}
use Rattle.sf_field.specs.Fields.{be32, be64, optional}
use Rattle.sf_field.specs.Attributes.{lacks, flag_of, flags_of, attrs_text, owner_text, times_text, AttrsFit, SpellsAttrs}

-- flags of exactly the parts present
record Flags (s : Option ℕ) (o : Option Owner) (p : Option ℕ) (t : Option Times) (flags : ℕ) : Type 0 where
  pub size : lacks flags 0x1 ≡ is_none s
  pub owner : lacks flags 0x2 ≡ is_none o
  pub permissions : lacks flags 0x4 ≡ is_none p
  pub times : lacks flags 0x8 ≡ is_none t
  pub extended : lacks flags 0x80000000 ≡ true
  pub fit : flags < 2 ^ 32

flags_say : (s : Option ℕ) (o : Option Owner) (p : Option ℕ) (t : Option Times) → Flags s o p t (flag_of 0x1 s + flag_of 0x2 o + flag_of 0x4 p + flag_of 0x8 t)
flags_say None None None None = record { size = refl; owner = refl; permissions = refl; times = refl; extended = refl; fit = lit< tt }
flags_say None None None (Some t) = record { size = refl; owner = refl; permissions = refl; times = refl; extended = refl; fit = lit< tt }
flags_say None None (Some p) None = record { size = refl; owner = refl; permissions = refl; times = refl; extended = refl; fit = lit< tt }
flags_say None None (Some p) (Some t) = record { size = refl; owner = refl; permissions = refl; times = refl; extended = refl; fit = lit< tt }
flags_say None (Some o) None None = record { size = refl; owner = refl; permissions = refl; times = refl; extended = refl; fit = lit< tt }
flags_say None (Some o) None (Some t) = record { size = refl; owner = refl; permissions = refl; times = refl; extended = refl; fit = lit< tt }
flags_say None (Some o) (Some p) None = record { size = refl; owner = refl; permissions = refl; times = refl; extended = refl; fit = lit< tt }
flags_say None (Some o) (Some p) (Some t) = record { size = refl; owner = refl; permissions = refl; times = refl; extended = refl; fit = lit< tt }
flags_say (Some s) None None None = record { size = refl; owner = refl; permissions = refl; times = refl; extended = refl; fit = lit< tt }
flags_say (Some s) None None (Some t) = record { size = refl; owner = refl; permissions = refl; times = refl; extended = refl; fit = lit< tt }
flags_say (Some s) None (Some p) None = record { size = refl; owner = refl; permissions = refl; times = refl; extended = refl; fit = lit< tt }
flags_say (Some s) None (Some p) (Some t) = record { size = refl; owner = refl; permissions = refl; times = refl; extended = refl; fit = lit< tt }
flags_say (Some s) (Some o) None None = record { size = refl; owner = refl; permissions = refl; times = refl; extended = refl; fit = lit< tt }
flags_say (Some s) (Some o) None (Some t) = record { size = refl; owner = refl; permissions = refl; times = refl; extended = refl; fit = lit< tt }
flags_say (Some s) (Some o) (Some p) None = record { size = refl; owner = refl; permissions = refl; times = refl; extended = refl; fit = lit< tt }
flags_say (Some s) (Some o) (Some p) (Some t) = record { size = refl; owner = refl; permissions = refl; times = refl; extended = refl; fit = lit< tt }

regroup : (a b c d e : List ℕ) → (((a ++ b) ++ c) ++ d) ++ e ≡ a ++ (b ++ (c ++ (d ++ (e ++ []))))
regroup a b c d e = simp append_assoc (simp append-nil)

pub sent_is_spelled : (attrs : Attrs) → AttrsFit attrs → SpellsAttrs (attrs_text attrs) attrs
sent_is_spelled attrs fits =
    let f = flags_say attrs.size attrs.owner attrs.permissions attrs.times in
    record {
      flags = flags_of attrs;
      pairs = None;
      flags_fit = f.fit;
      fits = fits;
      pairs_fit = tt;
      size = f.size;
      owner = f.owner;
      permissions = f.permissions;
      times = f.times;
      extended = f.extended;
      parts = regroup (be32 (flags_of attrs)) (optional be64 attrs.size) (optional owner_text attrs.owner) (optional be32 attrs.permissions) (optional times_text attrs.times);
    }
