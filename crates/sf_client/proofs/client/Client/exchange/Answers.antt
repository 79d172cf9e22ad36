use Rattle.std.proofs.Common.{rules, ap, sym, ◌∙◌}
use Rattle.sf_client.specs.Exchanges.{ClientView}
use Rattle.sf_client.proofs.Steps.{settled_comes}
use Rattle.sf_client.proofs.client.Client.exchange.Goals as goal

pub returns-clause-comes : goal.returns-clause-comes
returns-clause-comes g c = λ is.
    let going = sym (ap (λ (v : ClientView). v.failed) c.self.view_is) ∙ c.if-self.false in
    let next = ap (λ (v : ClientView). v.next) c.self.view_is in
    settled_comes (λ r. r) c.args.self.now c.settle.new.self c.args.request.now c.settle.result going (c.settle.ensures.comes c.args.request.now (first_of (search rules, cc (c.as_slice.ensures, c.in-Ok.ensures, next))) is)
