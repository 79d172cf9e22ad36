use Rattle.std.proofs.Common.{◌<◌, ◌≤◌, length, refl, inl, sym, ◌∙◌, subst, arith}
use Rattle.std.proofs.lemmas.Bool.Decides.{nat_tests}
use Rattle.sf_connection.specs.declared.connection.Connection.{Connection}
use Rattle.sf_connection.specs.Connections.{IsServing}
use Rattle.sf_connection.proofs.Turns.{served_same, read_from, some_read}
use Rattle.sf_connection.proofs.connection.Connection.read.Goals as goal

pub returns-in-Ok-Some-clause-read : goal.returns-in-Ok-Some-clause-read
returns-in-Ok-Some-clause-read g c = λ start moments from p tells s given.
    let self = c.args.self.now in
    let now = g.S.Stream.view self.stream in
    let now' = g.S.Stream.view c.try_read.new.self in
    let n = c.in-Ok-Some.n in
    let buffer = c.try_read.new.buffer in
    let count = c.try_read.auto.buffer ∙ c.deref_mut.ensures.len in
    let read : Connection g.row.H.Denot g.row.S.Denot = record self { stream = c.try_read.new.self } in
    let by = read_from now now' n _ buffer c.args.piece.now.items count (rw c.in-Ok-Some.field-0-is at c.in-Ok-Some.ensures.taken) c.try_read.ensures.outgoing c.try_read.ensures.failures in
    let some : 0 < n = grind (arith, nat_tests, c.in-Ok-Some.n-test) in
    let more = some_read n _ buffer c.args.piece.now.items count some (rw c.in-Ok-Some.field-0-is at c.in-Ok-Some.ensures.within) in
    let f = c.feed.ensures.fed start moments from now p tells (served_same self read refl refl refl refl refl s) given.0 given.1 given.2 given.3 now' by in (
      f.0,
      f.1,
      (
        subst (λ (x : g.row.S.Denot). IsServing g.H.Host.held (g.H.Host.work c.feed.new.self.host c.feed.new.place) from (g.S.Stream.view x) c.feed.new.self f.0) (sym c.feed.ensures.stream) f.2,
        inl (omega (arith, f.3, more)),
      ),
    )

pub feed-requires-clause-short : goal.feed-requires-clause-short
feed-requires-clause-short g c =
    let fits : c.in-Ok-Some.n ≤ length c.try_read.new.buffer = rw c.in-Ok-Some.field-0-is at c.in-Ok-Some.ensures.within in
    omega (arith, fits, c.try_read.auto.buffer, c.deref_mut.ensures.len, c.requires.room)
