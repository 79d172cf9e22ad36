use Rattle.std.proofs.Common.{◌≡◌, ℕ, Some, length, slice_get, refl, ◌∙◌, arith, length-set}
use Rattle.std.proofs.lemmas.Option.{slice_get_read}
use Rattle.sf_refusing.specs.declared.given.GivenRule.{GivenRule}
use Rattle.sf_refusing.specs.Rules.{fits}
use Rattle.sf_refusing.proofs.Counts.{count_step}
use Rattle.sf_refusing.proofs.given.count_with.Goals as goal

pub rules-preserved : goal.rules-preserved
rules-preserved c =
    let rules = c.rules.rules.items in
    let n : ℕ = c.rules.number in
    let item : GivenRule = c.index_mut.result.now in
    let here : slice_get rules n ≡ Some item = slice_get_read rules (length rules) n item refl (omega (arith, c.rules-test.true, c.requires, c.rules.invariant.length)) c.index_mut.ensures.value in
    record {
      length = length-set rules n c.count.new.self ∙ c.rules.invariant.length;
      each = λ number given at. count_step rules n item c.count.new.self (λ g. fits g.rule c.args.subject.now.session c.args.subject.now.kind c.args.subject.now.paths.items) here c.count.ensures number given (c.rules.invariant.each number given at);
    }
