use Rattle.std.proofs.Common.{◌≡◌, ◌<◌, ◌≤◌, ◌++◌, ℕ, List, length, take, refl, ap, subst, length-take, length-drop, arith}
use Rattle.std.proofs.lemmas.Bool.Decides.{nat_tests}
use Rattle.std.specs.Io.KnownBytes.{Appends}
use Rattle.sf_connection.specs.Progress.{progress}
use Rattle.sf_connection.proofs.Turns.{gathered_left, wrote_some, more_written}
use Rattle.sf_connection.proofs.connection.Connection.write.Goals as goal

pub returns-in-Ok-Some-clause-wrote : goal.returns-in-Ok-Some-clause-wrote
returns-in-Ok-Some-clause-wrote g c = λ start moments from p tells s given.
    let self = c.args.self.now in
    let n = c.in-Ok-Some.n in
    let bytes = take n self.gathered in
    let same : c.as_slice-2.result.now ≡ self.gathered = c.as_slice-2.ensures.bytes in
    let first : c.as_slice.result.now ≡ self.gathered = c.as_slice.ensures.bytes in
    let count = ap (λ (b : List ℕ). length b) same in
    let some : 0 < length c.as_slice.result.now = grind (arith, nat_tests, c.is_empty.ensures) in
    let fits : n ≤ length c.as_slice-2.result.now = rw c.in-Ok-Some.field-0-is at c.in-Ok-Some.ensures.within in
    let more : 0 < length c.as_slice-2.result.now → 0 < n = rw c.in-Ok-Some.field-0-is at c.in-Ok-Some.ensures.some in
    let full : 0 < length c.as_slice-2.result.now = omega (arith, some, count, ap (λ (b : List ℕ). length b) first) in
    let took : 0 < length bytes = omega (arith, more full, fits, count, length-take n self.gathered) in
    let added : Appends (g.S.Stream.view self.stream).outgoing (g.S.Stream.view c.try_write.new.self).outgoing bytes = subst (λ (b : List ℕ). Appends (g.S.Stream.view self.stream).outgoing (g.S.Stream.view c.try_write.new.self).outgoing (take n b)) same (rw c.in-Ok-Some.field-0-is at c.in-Ok-Some.ensures.added) in
    let few : length c.pass.new.self ≤ 16384 = omega (arith, ap (λ (b : List ℕ). length b) c.pass.ensures, length-drop n self.gathered, s.buffer) in (
      progress p.state p.unfed (p.written ++ bytes),
      tells,
      (
        wrote_some self _ bytes (gathered_left self p.state n c.pass.new.self c.pass.ensures) refl c.try_write.ensures.incoming added c.try_write.ensures.failures s.within few refl refl refl s,
        more_written p bytes took,
      ),
    )
