use Rattle.std.proofs.Common.{◌≡◌, ◌-◌, ◌∙◌, Some, arith}
use Rattle.sf_reply.specs.declared.reply.Entry.{Entry}
use Rattle.sf_reply.specs.Reading.{entry_at, entries_at}
use Rattle.sf_reply.proofs.ReadingLoop.{one_more, none_more, all_read, first}
use Rattle.sf_reply.proofs.reading.entries.Goals as goal

pub returns-in_default : goal.returns-in_default
returns-in_default c = c.new.ensures.items ∙ none_more c.args.count c.loop.counter c.loop.entries.items c.loop.rest.now _ c.loop-test.true c.in_default.ensures c.loop.invariant

pub loop-init : goal.loop-init
loop-init c = let k : c.args.count - 0 ≡ c.args.count = omega arith in rw (c.new-entries.ensures.items, k) (first (entries_at c.args.count c.args.bytes.now))

pub loop-preserved : goal.loop-preserved
loop-preserved c =
    let entry : Entry = record { filename = c.in_ok-filename.filename; longname = c.in_ok-longname.longname; attrs = c.in-Some.attrs } in
    let p = c.in_ok-filename.ensures in
    let q = c.in_ok-longname.ensures in
    let r = c.in-Some.ensures in
    let read : entry_at c.loop.rest.now ≡ Some (entry, c.in-Some.after.now) = rw (p, q) r in
    one_more c.args.count c.loop.counter c.loop.entries.items c.loop.rest.now c.loop-test.true read c.in_ok-push.ensures.items c.loop.invariant

pub returns : goal.returns
returns c = all_read c.args.count c.loop.counter c.loop.entries.items c.loop.rest.now _ c.loop-test.false c.loop.invariant
