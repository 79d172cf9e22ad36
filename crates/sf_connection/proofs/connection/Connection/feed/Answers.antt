use Rattle.std.proofs.Common.{◌≡◌, ◌≤◌, ◌+◌, length, take, refl, length-take, arith}
use Rattle.sf_session.specs.SessionStates.{fed}
use Rattle.sf_connection.specs.Progress.{progress}
use Rattle.std.proofs.Common.{[]}
use Rattle.sf_connection.proofs.Turns.{was_fed, was_not_fed, amount_fed, amount_not_fed}
use Rattle.sf_connection.proofs.connection.Connection.feed.Goals as goal

pub returns-in_default-clause-fed : goal.returns-in_default-clause-fed
returns-in_default-clause-fed g c = λ start moments from now p tells s is_open none input few now' by.
    let bytes = take c.args.n c.args.piece.now.items in (
      progress p.state bytes p.written,
      c.in_default.ensures.err start moments p.state tells,
      was_not_fed c.args.self.now _ bytes none by refl refl refl refl refl input s,
      amount_not_fed p bytes none,
    )

pub returns-clause-fed : goal.returns-clause-fed
returns-clause-fed g c = λ start moments from now p tells s is_open none input few now' by.
    let self = c.args.self.now in
    let n = c.args.n in
    let bytes = take n c.args.piece.now.items in
    let count : length bytes ≡ n = omega (arith, length-take n c.args.piece.now.items, c.requires.within, c.args.piece.now.ok.0) in
    let ahead : c.saturating_add-self.result ≡ self.ahead + length bytes = omega (arith, c.saturating_add-self.ensures, count, few, c.requires.short) in
    let short : length bytes ≤ 65536 = omega (arith, count, c.requires.short) in (
      progress (fed p.state bytes) [] p.written,
      c.in-Ok.ensures.fed start moments p.state tells is_open,
      was_fed self _ bytes is_open none by refl refl ahead few short refl refl input s,
      amount_fed p bytes none,
    )
