-- The trees and the replies of legal histories, whose calls have values in range.
use Rattle.std.proofs.Common.{ℕ, ◌*◌, ◌≤◌, List, [], ◌∷◌, length, sym, subst, inl, inr, arith}
use Rattle.std.specs.List.{AllByRecursion, flat_map}
use Rattle.std.proofs.lemmas.List.{length-append}
use Rattle.sf_field.specs.Fields.{packet}
use Rattle.sf_reply.specs.declared.reply.Entry.{Entry}
use Rattle.sf_reply.specs.declared.reply.Reply.{Reply}
use Rattle.sf_reply.specs.declared.reply.Reply.TheVariants as reply
use Rattle.sf_reply.specs.Replies.{EntryFits, ReplyFits, entry_text, reply_body}
use Rattle.sf_reply.proofs.Laws.{attrs_short, plain_short, length-names, length-entry}
use Rattle.sf_call.specs.declared.record.Record.{Record}
use Rattle.sf_call.specs.Calls.{answer_to}
use Rattle.sf_call.specs.Histories.{replay, IsLegal, IsGiven}
use Rattle.sf_call.specs.ReplyKinds.{longest_packet}
use Rattle.sf_call.proofs.Growth.{holds_after}
use Rattle.sf_call.proofs.Sound.{sound_replay}
use Rattle.sf_call.proofs.FittingTrees.{TreeFits, fits_done, fits_left, fits_empty}
use Rattle.sf_call.proofs.FittingAnswers.{EntryIsShort, IsShort, answer_fits}

-- ---- histories

pub fits_replay : (history : List Record) → IsLegal history → TreeFits (replay history)
fits_replay =
    holds_after TreeFits
    (λ history number session moment request given legal may fits.
    fits_done (replay history) (answer_to (replay history) session number moment request).changes (answer_fits (replay history) session number moment request fits (sound_replay history legal).labelled.few may.is_call).1 fits)
    fits_left fits_empty

pub given_short : (number session : ℕ) (given : Reply) → IsGiven number session given → IsShort given
given_short number session given (before, moment, request, legal, may) =
    elim may.answered [
      | inl tells ↦ subst IsShort (sym tells) (answer_fits (replay before) session number moment request (fits_replay before legal) (sound_replay before legal).labelled.few may.is_call).0
      | inr none ↦ subst IsShort (sym none) tt
    ]

-- ---- packets

entries_short : (es : List Entry) → AllByRecursion EntryIsShort es → length (flat_map entry_text es) ≤ 638 * length es
entries_short [] short = omega arith
entries_short (e ∷ es) short =
    omega (arith, length-append (entry_text e) (flat_map entry_text es), length-entry e, attrs_short e.attrs, short.0.filename, short.0.longname, entries_short es short.1)

pub short_packet : (id : ℕ) (given : Reply) → IsShort given → length (packet (reply_body id given)) ≤ longest_packet
short_packet id (reply.Status code) short = omega (arith, plain_short id (reply.Status code) tt)
short_packet id reply.NoMemory short = omega (arith, plain_short id reply.NoMemory tt)
short_packet id (reply.Handle number) short = omega (arith, plain_short id (reply.Handle number) tt)
short_packet id (reply.Data bytes) short = omega (arith, short)
short_packet id (reply.Names es) short = omega (arith, length-names id es, entries_short es short.1, short.0)
short_packet id (reply.Attrs attrs) short = omega (arith, plain_short id (reply.Attrs attrs) tt)

entries_fit : (es : List Entry) → AllByRecursion EntryIsShort es → AllByRecursion EntryFits es
entries_fit [] short = tt
entries_fit (e ∷ es) short =
    (record { filename = omega (arith, short.0.filename); longname = omega (arith, short.0.longname); attrs = short.0.attrs }, entries_fit es short.1)

pub short_fits : (given : Reply) → IsShort given → ReplyFits given
short_fits (reply.Status code) short = tt
short_fits reply.NoMemory short = tt
short_fits (reply.Handle number) short = short
short_fits (reply.Data bytes) short = omega (arith, short)
short_fits (reply.Names es) short = (omega (arith, short.0), entries_fit es short.1)
short_fits (reply.Attrs attrs) short = short
