use Rattle.std.proofs.Common.{◌≡◌, ◌≢◌, ◌↔◌, ◌∷◌, map, List, Some, sym, subst}
use Rattle.sf_audit.specs.declared.transcript.AnsweredCall.{AnsweredCall}
use Rattle.sf_audit.specs.Audits.{call_record, call_record_of, call_records, IsWithin}
use Rattle.sf_audit.proofs.ToldCalls.{within_takes, within_passes}
use Rattle.sf_audit.proofs.audits.past_record.Goals as goal

pub returns-then-tells : goal.returns-then-tells
returns-then-tells c = λ later.
    let tells : call_record_of c.args.session c.args.entry.now ≡ Some (call_record c.in-Some.call.now) = c.tells.ensures.0 c.if-tells.true in
    let P : List AnsweredCall → Type 0 = λ es. IsWithin (map call_record es) (call_records c.args.session (c.args.entry.now ∷ later)) ↔ IsWithin (map call_record c.in-Some.left.now) (call_records c.args.session later) in
    subst P (sym c.in-Some.ensures.cases.0) (within_takes (call_record_of c.args.session c.args.entry.now) (call_record c.in-Some.call.now) (map call_record c.in-Some.left.now) (call_records c.args.session later) tells)

pub returns : goal.returns
returns c = λ later.
    let other : call_record_of c.args.session c.args.entry.now ≢ Some (call_record c.in-Some.call.now) = λ e. (let so = c.tells.ensures.1 e in absurd (let not_so = c.if-tells.false in cc)) in
    let P : List AnsweredCall → Type 0 = λ es. IsWithin (map call_record es) (call_records c.args.session (c.args.entry.now ∷ later)) ↔ IsWithin (map call_record es) (call_records c.args.session later) in
    subst P (sym c.in-Some.ensures.cases.0) (within_passes (call_record_of c.args.session c.args.entry.now) (call_record c.in-Some.call.now) (map call_record c.in-Some.left.now) (call_records c.args.session later) other)
