use Rattle.std.proofs.Common.{◌≡◌, ◌≤◌, ◌<◌, ◌+◌, length, arith, rules}
use Rattle.std.proofs.lemmas.Grind.{common_steps}
use Rattle.std.proofs.lemmas.Bool.Decides.{nat_tests}
use Rattle.sf_folder.proofs.Pieces.{piece_after}
use Rattle.sf_folder.proofs.file.LocalFile.next.Goals as goal

pub returns-clause-some : goal.returns-clause-some
returns-clause-some g c =
    let known = c.in_ok-bytes.bytes.ok.0 in
    let some : 0 < length c.in_ok-bytes.bytes.items = grind (arith, nat_tests, c.is_empty.ensures, c.if-is_empty.false, known) in
    let to = c.data_to-to.ensures c.if-from-size.false in
    let next : c.saturating_add-self.result ≡ c.data_from-from.result + length c.in_ok-bytes.bytes.items = omega (arith, c.in_ok-bytes.ensures.within, to.0, to.1, known) in
    piece_after _ _ _ _ _ (omega (arith, c.data_from-from.ensures.after)) c.data_from-from.ensures.zeros c.in_ok-bytes.ensures.read some next
