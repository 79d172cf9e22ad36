-- The encoding that is sent is in the grammar.
use Rattle.std.proofs.Common.{◌≡◌, ℕ, ◌<◌, ◌^◌, Bool, false, cond, eqb, List, [], ◌++◌, length, Some, refl, append_assoc, append-nil, ap, sym, subst, ◌∙◌, lit<}
use Rattle.std.specs.Prelude.{codes}
use Rattle.sf_field.specs.declared.open_flags.OpenFlags.{OpenFlags}
use Rattle.sf_field.specs.Fields.{be32, be64, string}
use Rattle.sf_field.specs.OpenFlags.{bits_of}
use Rattle.sf_field.proofs.Laws.{sent_is_spelled}
use Rattle.sf_field.proofs.Laws.{bits_say}
use Rattle.sf_request.specs.declared.request.WireRequest.{WireRequest}
use Rattle.sf_field.specs.declared.operation.PathOp.TheVariants as path_op
use Rattle.sf_field.specs.declared.operation.PairOp.TheVariants as pair_op
use Rattle.sf_field.specs.declared.operation.HandleOp.TheVariants as handle_op
use Rattle.sf_request.specs.declared.request.WireRequest.TheVariants as request
use Rattle.sf_request.specs.declared.request.Asked.TheVariants.{Init, Request}
use Rattle.sf_request.specs.Requests.{IsU32, IsU64, IsString, IsFlags, ◌⨾◌, Shape, Values, SpellsShape, request_with, set_at, set_open, shape_of, HasRequest, Asks, kind_of, fields_text, request_body, init_body, IsShort, RequestFits}
use Rattle.sf_request.specs.Requests.Shape.{OneText, TextAndAttrs, TwoTexts, OpenFields, ReadFields, WriteFields}

a_string : (s : List ℕ) → IsShort s → IsString s (string s)
a_string s short = record { short = short; is = refl }

a_u32 : (n : ℕ) → n < 2 ^ 32 → IsU32 n (be32 n)
a_u32 n fits = record { fits = fits; is = refl }

a_u64 : (n : ℕ) → n < 2 ^ 64 → IsU64 n (be64 n)
a_u64 n fits = record { fits = fits; is = refl }

the_flags : (flags : OpenFlags) → IsFlags flags (be32 (bits_of flags))
the_flags flags = let say = bits_say flags in record { bits = bits_of flags; spelled = a_u32 (bits_of flags) say.1; say = say.0 }

then : {First Second : List ℕ → Type 0} (x y : List ℕ) → First x → Second y → (First ⨾ Second) (x ++ y)
then x y p q = record { front = x; back = y; first = p; second = q; parts = refl }

three : {A B C : List ℕ → Type 0} (x y z : List ℕ) → A x → B y → C z → (A ⨾ B ⨾ C) (x ++ y ++ z)
three x y z p q r = record { front = x; back = y ++ z; first = p; second = then y z q r; parts = append_assoc x y z }

plainly : (kind : ℕ) (shape : Shape) (x : Values shape) (text : List ℕ) → eqb kind 200 ≡ false → shape_of kind [] ≡ Some shape → SpellsShape shape x text → HasRequest kind text (request_with shape x)
plainly kind shape x text other row h = record {
  name = [];
  text = text;
  more = [];
  shape = shape;
  values = x;
  named = record {
    short = lit< tt;
    none = λ _. refl;
    parts = sym (append-nil text) ∙ ap (λ (b : Bool). cond b (string []) [] ++ (text ++ [])) (sym other);
  };
  row = row;
  spelled = h;
  is = refl;
}

by_name : (name : List ℕ) (shape : Shape) (x : Values shape) (text : List ℕ) → length name < 2 ^ 32 → shape_of 200 name ≡ Some shape → SpellsShape shape x text → HasRequest 200 (string name ++ text) (request_with shape x)
by_name name shape x text short row h = record {
  name = name;
  text = text;
  more = [];
  shape = shape;
  values = x;
  named = record {
    short = short;
    none = λ other. absurd (other refl);
    parts = ap (λ (t : List ℕ). string name ++ t) (sym (append-nil text));
  };
  row = row;
  spelled = h;
  is = refl;
}

with_paths : (name : List ℕ) (make : List ℕ → List ℕ → WireRequest) (old new : List ℕ) → length name < 2 ^ 32 → shape_of 200 name ≡ Some (TwoTexts make) → IsShort old → IsShort new
    → HasRequest 200 (string name ++ string old ++ string new) (make old new)
with_paths name make old new short row p q =
    subst (λ (t : List ℕ). HasRequest 200 t (make old new)) (sym (append_assoc (string name) (string old) (string new)))
    (by_name name (TwoTexts make) (old, new) (string old ++ string new) short row (then _ _ (a_string old p) (a_string new q)))

sent : (r : WireRequest) → RequestFits r → HasRequest (kind_of r) (fields_text r) r
unfolding shape_of
sent (request.OnPath (path_op.Open flags attrs) filename) fits =
    plainly 3 OpenFields (filename, (flags, attrs)) _ refl refl (three _ _ _ (a_string filename fits.0) (the_flags flags) (sent_is_spelled attrs fits.1))
sent (request.ByHandle handle_op.Close handle) fits = plainly 4 (OneText (request.ByHandle handle_op.Close)) handle _ refl refl (a_string handle fits)
sent (request.ByHandle (handle_op.Read offset len) handle) fits =
    plainly 5 ReadFields (handle, (offset, len)) _ refl refl (three _ _ _ (a_string handle fits.0) (a_u64 offset fits.1) (a_u32 len fits.2))
sent (request.Write handle offset bytes) fits =
    plainly 6 WriteFields (handle, (offset, bytes)) _ refl refl (three _ _ _ (a_string handle fits.0) (a_u64 offset fits.1) (a_string bytes fits.2))
sent (request.LStat path) fits = plainly 7 (OneText request.LStat) path _ refl refl (a_string path fits)
sent (request.ByHandle handle_op.FStat handle) fits = plainly 8 (OneText (request.ByHandle handle_op.FStat)) handle _ refl refl (a_string handle fits)
sent (request.OnPath (path_op.SetStat attrs) path) fits =
    plainly 9 (TextAndAttrs set_at) (path, attrs) _ refl refl (then _ _ (a_string path fits.0) (sent_is_spelled attrs fits.1))
sent (request.ByHandle (handle_op.FSetStat attrs) handle) fits =
    plainly 10 (TextAndAttrs set_open) (handle, attrs) _ refl refl (then _ _ (a_string handle fits.0) (sent_is_spelled attrs fits.1))
sent (request.OnPath path_op.OpenDir path) fits = plainly 11 (OneText (request.OnPath path_op.OpenDir)) path _ refl refl (a_string path fits)
sent (request.ByHandle handle_op.ReadDir handle) fits = plainly 12 (OneText (request.ByHandle handle_op.ReadDir)) handle _ refl refl (a_string handle fits)
sent (request.OnPath path_op.Remove path) fits = plainly 13 (OneText (request.OnPath path_op.Remove)) path _ refl refl (a_string path fits)
sent (request.OnPath (path_op.Mkdir attrs) path) fits =
    plainly 14 (TextAndAttrs (λ attrs. request.OnPath (path_op.Mkdir attrs))) (path, attrs) _ refl refl (then _ _ (a_string path fits.0) (sent_is_spelled attrs fits.1))
sent (request.OnPath path_op.Rmdir path) fits = plainly 15 (OneText (request.OnPath path_op.Rmdir)) path _ refl refl (a_string path fits)
sent (request.RealPath path) fits = plainly 16 (OneText request.RealPath) path _ refl refl (a_string path fits)
sent (request.OnPath path_op.Stat path) fits = plainly 17 (OneText (request.OnPath path_op.Stat)) path _ refl refl (a_string path fits)
sent (request.OnPaths pair_op.Rename old new) fits = plainly 18 (TwoTexts (request.OnPaths pair_op.Rename)) (old, new) _ refl refl (then _ _ (a_string old fits.0) (a_string new fits.1))
sent (request.OnPaths pair_op.PosixRename old new) fits = with_paths (codes "posix-rename@openssh.com") (request.OnPaths pair_op.PosixRename) old new (lit< tt) refl fits.0 fits.1
sent (request.OnPaths pair_op.Link old new) fits = with_paths (codes "hardlink@openssh.com") (request.OnPaths pair_op.Link) old new (lit< tt) refl fits.0 fits.1

pub sent_asks : (id : ℕ) (r : WireRequest) → id < 2 ^ 32 → RequestFits r → Asks (request_body id r) (Request id r)
sent_asks id r id_fits fits = (kind_of r, fields_text r, record { fits = id_fits; parts = refl }, sent r fits)

pub init_asks : Asks init_body (Init 3)
init_asks = ([], record { fits = lit< tt; parts = refl })
