use Rattle.std.proofs.Common.{sym}
use Rattle.sf_reply.specs.Reading.{reply_of}
use Rattle.sf_reply.proofs.Laws.{one_spelling}
use Rattle.sf_client.proofs.pending.find_pending.Goals.{else-found_id-id-via-then-found_id-id+else-allows, else-found_id-id-via-else-found_id-id}
use Rattle.sf_client.proofs.pending.find_pending.Goals as goal

pub returns-else-found_id-id-clause-none : goal.returns-else-found_id-id-clause-none
returns-else-found_id-id-clause-none c = λ r is pending.
    let same = one_spelling c.args.body.now c.args.id c.in_ok-found_id.found_id r (reply_of c.in_ok-found_id.found) is c.in_ok-found_id.ensures.found in
    elim c.else-found_id-id.branch [
      | else-found_id-id-via-then-found_id-id+else-allows w ↦ let none = w.allows.ensures in let no = w.if-allows.false in absurd cc
      | else-found_id-id-via-else-found_id-id w ↦ w.if-found_id-id.false (sym same.0)
    ]
