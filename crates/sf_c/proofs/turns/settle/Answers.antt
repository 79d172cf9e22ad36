use Rattle.std.proofs.Common.{◌≡◌, ◌∙◌, ◌-◌, ◌++◌, Bool, true, false, ℕ, [], Some, None, refl, sym, subst}
use Rattle.sf_c.specs.declared.turns.Settled.{Settled}
use Rattle.sf_c.specs.Numbers.{leads_on, replies_of}
use Rattle.sf_c.specs.Journals.{AreSettled, FollowsFirst, TurnsTo}
use Rattle.sf_c.proofs.Settling.{settled_by, still, behind}
use Rattle.sf_c.proofs.turns.settle.Goals as goal

pub returns-then-most-eq0 : goal.returns-then-most-eq0
returns-then-most-eq0 c = λ journal H. (
  [],
  subst (λ (n : ℕ). AreSettled n c.args.session c.args.moment (record { last = None; moved = false }) journal []) (sym c.if-most-eq0.true) (refl, refl),
  still c.args.engine.now c.args.refusals.now journal H,
)

pub returns-then-not-leads_on : goal.returns-then-not-leads_on
returns-then-not-leads_on c = λ journal H.
    let first = c.turn-first.result in
    let settled : Settled = record { last = Some first; moved = false } in
    let one = c.turn-first.ensures journal H in
    let off : leads_on first ≡ false = sym c.leads_on.ensures ∙ c.if-not-leads_on.true in
    let follows = subst (λ (b : Bool). FollowsFirst b first c.args.most c.args.session c.args.moment settled (journal ++ one.0) []) (sym off) (refl, refl) in (
      one.0 ++ [],
      settled_by c.args.most c.args.session c.args.moment settled journal first one.0 [] c.if-most-eq0.false one.1 follows,
      behind c.turn-first.new.engine c.turn-first.new.self journal one.0 [] (still c.turn-first.new.engine c.turn-first.new.self (journal ++ one.0) one.2),
    )

pub returns : goal.returns
returns c = λ journal H.
    let first = c.turn-first.result in
    let settled : Settled = record { last = c.follow.result; moved = true } in
    let one = c.turn-first.ensures journal H in
    let on : leads_on first ≡ true = sym c.leads_on.ensures ∙ c.if-not-leads_on.false in
    let others = c.follow.ensures (journal ++ one.0) one.2 in
    let is : c.replies_of.result ≡ replies_of first = c.replies_of.ensures.is in
    let further = subst (λ (n : ℕ). TurnsTo (c.args.most - n) c.args.session c.args.moment c.follow.result (journal ++ one.0) others.0) is others.1 in
    let follows = subst (λ (b : Bool). FollowsFirst b first c.args.most c.args.session c.args.moment settled (journal ++ one.0) others.0) (sym on) (refl, further) in (
      one.0 ++ others.0,
      settled_by c.args.most c.args.session c.args.moment settled journal first one.0 others.0 c.if-most-eq0.false one.1 follows,
      behind c.follow.new.engine c.follow.new.refusals journal one.0 others.0 others.2,
    )
