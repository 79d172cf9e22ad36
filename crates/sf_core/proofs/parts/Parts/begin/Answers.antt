use Rattle.std.proofs.Common.{◌+◌, arith, rules}
use Rattle.sf_call.proofs.Laws.{held_request}
use Rattle.sf_call.specs.Values.{IsCall}
use Rattle.sf_core.proofs.parts.Parts.begin.Goals as goal

pub returns-clause-ok : goal.returns-clause-ok
returns-clause-ok c =
    let is : IsCall (c.args.self.now.drawn + 1) c.args.session c.args.moment c.args.request = record {
      number_fits = omega (arith, c.requires);
      session_fits = c.ranges.session.fits;
      moment_fits = c.ranges.moment.fits;
      request_fits = held_request c.args.request _ c.well_formed.1.1.0.1;
    } in
    search rules
