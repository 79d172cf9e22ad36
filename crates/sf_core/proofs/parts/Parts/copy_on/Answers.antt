use Rattle.std.proofs.Common.{◌∙◌, ℕ, sym, subst}
use Rattle.sf_core.specs.Stepping.{FetchState}
use Rattle.sf_core.specs.Writing.{CopiedOn, CopiedBlock, EndsCopying}
use Rattle.sf_core.proofs.CopySteps.{block_of, copied_more, copied_none, copies_on, more_left, not_none, some_by, waits_on}
use Rattle.sf_core.proofs.Maps.{some_eq}
use Rattle.sf_core.proofs.parts.Parts.copy_on.Goals as goal

pub loop-init : goal.loop-init
loop-init c = record { copied = copied_none c.args.self.now c.args.number; on = c.requires }

pub returns-then-copy-eq0-clause-some : goal.returns-then-copy-eq0-clause-some
returns-then-copy-eq0-clause-some c =
    let p = c.loop.self in
    let q = c.copy.new.self in
    let last = subst (λ (k : ℕ). CopiedBlock p q c.args.number k) c.if-copy-eq0.true (block_of p q c.args.number c.copy.result c.loop.invariant.on c.copy.ensures) in
    some_by (λ given. FetchState q c.fetch.new.self c.args.session c.args.number) (λ given. EndsCopying c.args.self.now c.fetch.new.self c.args.session c.args.number c.args.most given) c.fetch.result
    (λ given told fetched. record {
      count = c.loop.counter;
      few = c.loop-test.true;
      mid = p;
      copied = c.loop.invariant.copied;
      last = q;
      ends = last;
      told = some_eq last.was.given given (sym (c.fetch.ensures.reply ∙ waits_on p q c.args.number last) ∙ told);
      fetched = fetched;
    }) c.fetch.ensures.some

pub returns-then-copy-eq0-clause-none : goal.returns-then-copy-eq0-clause-none
returns-then-copy-eq0-clause-none c =
    let p = c.loop.self in
    let q = c.copy.new.self in
    let last = subst (λ (k : ℕ). CopiedBlock p q c.args.number k) c.if-copy-eq0.true (block_of p q c.args.number c.copy.result c.loop.invariant.on c.copy.ensures) in
    not_none (CopiedOn c.args.most c.args.self.now c.args.number c.fetch.new.self) c.fetch.result last.was.given (c.fetch.ensures.reply ∙ waits_on p q c.args.number last)

pub loop-preserved : goal.loop-preserved
loop-preserved c =
    let p = c.loop.self in
    let q = c.copy.new.self in
    let more = more_left p q c.args.number c.copy.result c.if-copy-eq0.false (block_of p q c.args.number c.copy.result c.loop.invariant.on c.copy.ensures) in
    record {
      copied = copied_more c.args.self.now c.args.number c.loop.counter p q more.0 c.loop.invariant.copied more.1;
      on = copies_on p q c.args.number more.0 more.1;
    }
