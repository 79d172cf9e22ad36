use Rattle.std.proofs.Common.{arith}
use Rattle.sf_reply.proofs.Entries.{length-left, left_short, names_short, put_one, put_all}
use Rattle.sf_reply.proofs.replying.put_entries.Goals as goal

pub put_entry-requires : goal.put_entry-requires
put_entry-requires c =
    let one = length-left c.args.entries.now c.loop-entry.entry-index c.entry-item.result c.entry-item.is c.loop-entry-test.true in
    let all = left_short c.args.entries.now c.loop-entry.entry-index in
    let names = names_short c.entry-item.result in
    record {
      room = omega (arith, c.loop-entry.invariant.spare, one, c.requires.room);
      short_name = omega (arith, one, all, names, c.requires.short);
      short_longname = omega (arith, one, all, names, c.requires.short);
    }

pub loop-entry-preserved : goal.loop-entry-preserved
loop-entry-preserved c = put_one c.put_entry.new.out c.entry-item.result c.loop-entry.invariant c.entry-item.is c.loop-entry-test.true c.put_entry.ensures.items c.put_entry.ensures.spare

pub returns : goal.returns
returns c =
    let all = put_all c.args.out.now c.loop-entry.out c.args.entries.now c.loop-entry.entry-index c.loop-entry-test.false c.loop-entry.invariant in
    record { items = all.0; spare = all.1 }
