-- For dependent crates: the lengths of replies, the end of a listing line, and that a body encodes
-- one reply. The laws are about definitions only. All other files here are private to this crate.
use Rattle.std.proofs.Common.{◌≡◌, ℕ, ◌+◌, ◌≤◌, List, length, sym, ◌∙◌, arith}
use Rattle.std.specs.List.{flat_map}
use Rattle.std.proofs.lemmas.Grind.{common_steps}
use Rattle.sf_field.specs.declared.attrs.Attrs.{Attrs}
use Rattle.sf_field.specs.Attributes.{attrs_text}
use Rattle.sf_field.specs.Fields.{packet}
use Rattle.sf_reply.specs.declared.reply.Entry.{Entry}
use Rattle.sf_reply.specs.declared.reply.Reply.{Reply}
use Rattle.sf_reply.specs.declared.reply.Reply.TheVariants.{Names}
use Rattle.sf_reply.specs.declared.reply.TheConstants.{MAX_PLAIN_REPLY}
use Rattle.sf_reply.specs.Reading.{IsReply}
use Rattle.sf_reply.specs.Replies.{reply_body, entry_text, IsPlain}
use Rattle.sf_reply.proofs.OneReply.{one_reply}
-- an entry, the reply to REALPATH, and a listing line
pub use Rattle.sf_reply.proofs.Entries.{length-entry, length-one_name}
pub use Rattle.sf_reply.proofs.LineLengths.{longname_short}
pub use Rattle.sf_reply.proofs.LineEnds.{longname_ends}

-- a plain reply
pub plain_short : (id : ℕ) (reply : Reply) → IsPlain reply → length (packet (reply_body id reply)) ≤ MAX_PLAIN_REPLY
plain_short id reply plain = grind (arith, common_steps)

pub length-names : (id : ℕ) (es : List Entry) → length (packet (reply_body id (Names es))) ≡ 13 + length (flat_map entry_text es)
length-names id es = grind (arith, common_steps)

pub attrs_short : (attrs : Attrs) → length (attrs_text attrs) ≤ 32
attrs_short attrs = grind (arith, common_steps)

-- a body encodes one reply, with one id
pub one_spelling : (body : List ℕ) (id other_id : ℕ) (reply other : Reply) → IsReply body id reply → IsReply body other_id other
    → (id ≡ other_id) × (reply ≡ other)
one_spelling body id other_id reply other is is_other =
    one_reply id other_id reply other is.id_fits is_other.id_fits is.fits is_other.fits (sym is.parts ∙ is_other.parts)
