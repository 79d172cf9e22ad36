use Rattle.std.proofs.Common.{◌≡◌, Some, ◌-◌, length, take, ap, sym, ◌∙◌, arith}
use Rattle.std.proofs.lemmas.List.{take_all}
use Rattle.sf_reply.specs.Longname.{longname_text}
use Rattle.sf_reply.proofs.Laws.{longname_ends}
use Rattle.sf_walk.proofs.listing.entry_of.Goals as goal

pub returns-clause-name : goal.returns-clause-name
returns-clause-name c =
    let line : longname_text c.args.attrs c.args.links c.args.name.now ≡ Some c.in_ok-line.line =
    ap (longname_text c.args.attrs c.args.links) (sym c.as_slice.ensures.bytes) ∙ c.in_ok-longname.ensures ∙ ap Some (sym c.in_ok-line.ensures) in
    let end = longname_ends c.args.attrs c.args.links c.args.name.now c.in_ok-line.line line in
    let whole : length c.in_ok-line.line - (length c.in_ok-line.line - length c.args.name.now) ≡ length c.args.name.now = omega (arith, end.0) in
    c.in_ok-part.ensures
    ∙ rw (c.len.ensures, c.len-2.ensures, c.len-3.ensures)
    (rw whole (ap (take (length c.args.name.now)) end.1 ∙ take_all (length c.args.name.now) c.args.name.now (omega arith)))
