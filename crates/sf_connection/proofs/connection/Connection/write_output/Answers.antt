use Rattle.std.proofs.Common.{◌≡◌, ◌<◌, ◌≤◌, ◌+◌, ◌++◌, ℕ, List, length, take, drop, refl, ap, sym, ◌∙◌, subst, inr, length-drop, arith}
use Rattle.std.proofs.lemmas.List.{take_all}
use Rattle.std.specs.Io.KnownBytes.{Appends}
use Rattle.sf_connection.specs.Hosts.{with_sent}
use Rattle.sf_connection.specs.Progress.{progress}
use Rattle.sf_connection.specs.Connections.{pending_output}
use Rattle.sf_connection.proofs.Passing.{unsent_is}
use Rattle.sf_connection.proofs.Turns.{direct_within, due_direct, due_some, part_of, direct_left, took_some, wrote_some, wrote_all, more_written}
use Rattle.sf_connection.proofs.connection.Connection.write_output.Goals as goal

pub returns-then-self-len-clause-wrote : goal.returns-then-self-len-clause-wrote
returns-then-self-len-clause-wrote g c = λ start moments from p tells s given.
    let self = c.args.self.now in
    let out = c.output-output.result.now in
    let n = c.in-Ok-Some.n in
    let k = c.min-start.result in
    let bytes = take n (drop self.direct out) in
    let waits = c.output-output.ensures start moments p.state tells in
    let within : self.direct ≤ length out = direct_within self p out s waits in
    let at : k ≡ self.direct = omega (arith, c.min-start.ensures, within) in
    let some : 0 < length (drop self.direct out) = subst (λ (b : List ℕ). 0 < length b) (due_direct self p.state out waits given.1) (due_some self p s given.0) in
    let took : 0 < length bytes = took_some out self.direct k n at some (rw c.in-Ok-Some.field-0-is at c.in-Ok-Some.ensures.some) (rw c.in-Ok-Some.field-0-is at c.in-Ok-Some.ensures.within) in
    let added : Appends (g.S.Stream.view self.stream).outgoing (g.S.Stream.view c.try_write.new.self).outgoing bytes = subst (λ (b : List ℕ). Appends (g.S.Stream.view self.stream).outgoing (g.S.Stream.view c.try_write.new.self).outgoing b) (part_of out k n ∙ ap (λ (j : ℕ). take n (drop j out)) at) (rw c.in-Ok-Some.field-0-is at c.in-Ok-Some.ensures.added) in
    let short = ap (λ (b : List ℕ). length b) (unsent_is p.state out waits) in (
      progress p.state p.unfed (p.written ++ bytes),
      tells,
      (
        wrote_some self _ bytes (direct_left self p.state out n self.gathered (k + n) waits given.1 given.1 (ap (λ (j : ℕ). j + n) at)) refl c.try_write.ensures.incoming added c.try_write.ensures.failures (inr (omega (arith, c.if-self-len.true, short))) s.buffer refl refl refl s,
        more_written p bytes took,
      ),
    )

pub returns-else-self-len-clause-wrote : goal.returns-else-self-len-clause-wrote
returns-else-self-len-clause-wrote g c = λ start moments from p tells s given.
    let self = c.args.self.now in
    let out = c.output-output.result.now in
    let n = c.in-Ok-Some.n in
    let k = c.min-start.result in
    let due = pending_output self p.state in
    let waits = c.output-output.ensures start moments p.state tells in
    let within : self.direct ≤ length out = direct_within self p out s waits in
    let at : k ≡ self.direct = omega (arith, c.min-start.ensures, within) in
    let all : take n (drop self.direct out) ≡ due = take_all n (drop self.direct out) (omega (arith, c.if-self-len.false, at, length-drop self.direct out)) ∙ sym (due_direct self p.state out waits given.1) in
    let added : Appends (g.S.Stream.view self.stream).outgoing (g.S.Stream.view c.try_write.new.self).outgoing due = subst (λ (b : List ℕ). Appends (g.S.Stream.view self.stream).outgoing (g.S.Stream.view c.try_write.new.self).outgoing b) (part_of out k n ∙ ap (λ (j : ℕ). take n (drop j out)) at ∙ all) (rw c.in-Ok-Some.field-0-is at c.in-Ok-Some.ensures.added) in (
      progress (with_sent p.state) p.unfed (p.written ++ due),
      c.sent.ensures.sent start moments p.state tells,
      (
        wrote_all self _ given.1 given.1 refl c.sent.ensures.work c.try_write.ensures.incoming added c.try_write.ensures.failures refl refl refl s,
        more_written p due (due_some self p s given.0),
      ),
    )
