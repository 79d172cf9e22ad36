use Rattle.std.proofs.Common.{◌≡◌, ◌∙◌, ◌<◌, ◌+◌, ◌++◌, ℕ, suc, [], Result, refl, sym, subst, arith, rules}
use Rattle.sf_engine.specs.declared.event.Happened.{Happened}
use Rattle.sf_engine.specs.declared.event.EngineFault.{EngineFault}
use Rattle.sf_c.specs.Numbers.{replies_of}
use Rattle.sf_c.specs.Journals.{IsManyTurns, HaveReplied}
use Rattle.sf_c.proofs.Settling.{wrote_is, still, behind}
use Rattle.sf_c.proofs.turns.follow.Goals as goal

pub returns-then-replies_of-eq0 : goal.returns-then-replies_of-eq0
returns-then-replies_of-eq0 c = λ journal H.
    let front = c.loop.invariant journal H in
    let back = c.turns-outcome.ensures (journal ++ front.0) front.2 in
    let none : replies_of c.turns-outcome.result ≡ 0 = sym c.replies_of.ensures.is ∙ c.if-replies_of-eq0.true in
    let below : c.loop.counter < c.args.most = search rules in (
      front.0 ++ back.0,
      (c.loop.counter, below, front.0, back.0, refl, front.1, none, back.1),
      behind c.turns-outcome.new.engine c.turns-outcome.new.self journal front.0 back.0 back.2,
    )

pub loop-preserved : goal.loop-preserved
loop-preserved c = λ journal H.
    let front = c.loop.invariant journal H in
    let back = c.turns-outcome.ensures (journal ++ front.0) front.2 in
    let wrote = wrote_is c.turns-outcome.result (λ none. c.if-replies_of-eq0.false (c.replies_of.ensures.is ∙ none)) in
    let last = subst (λ (r : Result Happened EngineFault). IsManyTurns c.args.session c.args.moment r (journal ++ front.0) back.0) wrote back.1 in
    let one : suc c.loop.counter ≡ c.loop.counter + 1 = omega arith in
    let all : HaveReplied (suc c.loop.counter) c.args.session c.args.moment journal (front.0 ++ back.0) = (front.0, back.0, refl, front.1, last) in (
      front.0 ++ back.0,
      subst (λ (n : ℕ). HaveReplied n c.args.session c.args.moment journal (front.0 ++ back.0)) one all,
      behind c.turns-outcome.new.engine c.turns-outcome.new.self journal front.0 back.0 back.2,
    )

pub loop-init : goal.loop-init
loop-init c = λ journal H. ([], refl, still c.args.engine.now c.args.refusals.now journal H)
