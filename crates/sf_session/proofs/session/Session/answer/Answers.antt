use Rattle.std.proofs.Common.{ap, length, arith}
use Rattle.sf_call.proofs.Laws.{packet_fits, packet_short}
use Rattle.sf_session.specs.Sessions.{SessionView}
use Rattle.sf_session.proofs.ShortPackets.{written_short}
use Rattle.sf_session.proofs.session.Session.answer.Goals as goal

pub write_reply-requires : goal.write_reply-requires
write_reply-requires c = packet_fits c.args.answer.now.number c.args.answer.now.session c.in-Some.id c.reply.result.now c.reply.ensures.given

pub returns-clause-short : goal.returns-clause-short
returns-clause-short c =
    let short = packet_short c.args.answer.now.number c.args.answer.now.session c.in-Some.id c.reply.result.now c.reply.ensures.given in
    let written = written_short c.write_reply.result c.self.inside.output.items c.write_reply.new.out.items _ c.write_reply.ensures.ok c.write_reply.ensures.err short in
    omega (arith, written, ap (λ (v : SessionView). length v.output) c.self.view_is)
