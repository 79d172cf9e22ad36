use Rattle.std.proofs.Common.{◌≡◌, ◌+◌, ◌-◌, ◌≤◌, ℕ, List, length, drop, sym, subst, rules, arith}
use Rattle.std.proofs.lemmas.List.{length-drop, drop-drop}
use borrow.Rule.Slice.PartMut.{mid_of}
use Rattle.sf_c.specs.Trees.{IsFilled}
use Rattle.sf_c.proofs.Reading.{filled_more}
use Rattle.sf_c.proofs.leaves.read_runs.Goals as goal

pub runs-preserved : goal.runs-preserved
runs-preserved c =
    let all = c.args.contents.now in
    let bytes = drop c.args.offset all in
    let room = c.args.room.now in
    let now = c.runs.room in
    let done = c.runs.done in
    let k = c.in_ok-done.field-0 in
    let part = c.read_run.new.room in
    let n = c.args.count - done in
    let was = c.runs.invariant in
    let read = c.in_ok-done.ensures.ok in
    let size : length bytes ≡ length all - c.args.offset = length-drop c.args.offset all in
    let there : done ≤ length bytes = omega (arith, c.requires.there, was.0, size) in
    let fits : done + n ≤ length room = omega (arith, c.requires.fits, was.0) in
    let few : k ≤ n = search rules in
    let more : IsFilled (drop done bytes) k (mid_of done n now) part =
    subst (λ (b : List ℕ). IsFilled b k (mid_of done n now) part) (sym (drop-drop done c.args.offset all)) read.3 in
    let on : done + k ≤ c.args.count = omega (arith, few, was.0) in
    (on, filled_more bytes room now part done k n there fits few was.1 more)
