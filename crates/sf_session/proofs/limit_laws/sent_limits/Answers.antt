use Rattle.std.proofs.Common.{ℕ, ◌≡◌, ◌+◌, ◌++◌, ◌∷◌, length, refl, ap, arith, lit<}
use Rattle.std.proofs.Math.Nat.{min-eq_left}
use Rattle.std.proofs.lemmas.Bool.{lt-leb}
use Rattle.std.proofs.lemmas.List.{length-append}
use Rattle.sf_field.specs.Fields.{be64, string}
use Rattle.sf_session.proofs.limit_laws.sent_limits.Goals as goal

pub returns-clause-sent : goal.returns-clause-sent
returns-clause-sent c id = refl

pub returns-clause-packet : goal.returns-clause-packet
returns-clause-packet c n rest long fits = (n, rest, long, fits, refl)

pub returns-clause-read : goal.returns-clause-read
returns-clause-read c offset len handle m contents reads some few = rw reads (rw (lt-leb (length contents) offset some) (rw (min-eq_left few) refl))

pub returns-clause-write : goal.returns-clause-write
returns-clause-write c id handle offset bytes few =
    record { some = omega arith; short = simp length-append (omega (arith, few)) }

pub returns-clause-handles : goal.returns-clause-handles
returns-clause-handles c tree session few = lt-leb 128 _ few
