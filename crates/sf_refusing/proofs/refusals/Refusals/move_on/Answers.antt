use Rattle.std.proofs.Common.{◌≡◌, ◌<◌, ◌+◌, ◌⊎◌, [], length, slice_get, Some, refl, arith, inl, inr}
use Rattle.std.specs.Vec.{with_item}
use Rattle.std.proofs.lemmas.Option.{slice_get_read}
use Rattle.sf_refusing.specs.declared.passage.Passage.{Passage}
use Rattle.sf_refusing.specs.declared.refusals.Refusals.{Refusals}
use Rattle.std.proofs.lemmas.Bool.{both_ways}
use Rattle.sf_refusing.specs.Journal.{log_of}
use Rattle.sf_refusing.proofs.Sessions.{nothing_held, have_still, stands, moved_on}
use Rattle.sf_refusing.proofs.refusals.Refusals.move_on.Goals as goal

pub returns-in_default : goal.returns-in_default
returns-in_default g c = λ journal H.
    let none : (c.args.session ≡ 0) ⊎ (length c.args.self.now.passages.items < c.args.session) = elim c.in_default.ensures.none [ inl z ↦ inl z | inr lt ↦ inr (omega (arith, lt, c.len.ensures, c.args.self.now.passages.ok.0)) ] in
    ([], nothing_held journal c.args.session (H.0.others c.args.session none), have_still g.E.Sftp.has_log c.args.engine.now c.args.self.now journal H)

pub returns-then-not-waits : goal.returns-then-not-waits
returns-then-not-waits g c = λ journal H. (
  [],
  (λ waits own held received. absurd (both_ways c.wants_bytes-waits.result c.if-not-waits.true ((c.wants_bytes-waits.ensures (log_of journal) H.1).1 waits))),
  have_still g.E.Sftp.has_log c.args.engine.now c.args.self.now journal H,
)

pub returns : goal.returns
returns g c = λ journal H.
    let p : Passage = c.index_mut.result.now in
    let here : slice_get c.args.self.now.passages.items c.in-Some.at ≡ Some p = slice_get_read c.args.self.now.passages.items (length c.args.self.now.passages.items) c.in-Some.at p refl (omega (arith, c.in-Some.ensures.some.1, c.len.ensures, c.args.self.now.passages.ok.0)) c.index_mut.ensures.value in
    let number : c.in-Some.at + 1 ≡ c.args.session = c.in-Some.ensures.some.0 in
    let now : Refusals = record { alloc = c.args.self.now.alloc; passages = with_item c.args.self.now.passages c.in-Some.at c.take_front.new.passage; rules = c.take_front.new.rules } in
    let waits = (c.wants_bytes-waits.ensures (log_of journal) H.1).0 c.if-not-waits.false in
    moved_on g.E.Sftp.has_log c.args.engine.now c.take_front.new.engine c.args.self.now now journal c.args.session c.in-Some.at p c.take_front.new.passage c.take_front.result H here number refl
    (c.take_front.ensures journal (stands g.E.Sftp.has_log c.args.engine.now c.args.self.now journal c.args.session c.in-Some.at p H waits here number))
