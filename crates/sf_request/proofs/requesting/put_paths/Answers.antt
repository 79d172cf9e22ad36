use Rattle.std.proofs.Common.{◌≡◌, ℕ, List, ◌++◌, append_assoc}
use Rattle.std.specs.Prelude.{codes}
use Rattle.sf_field.specs.Fields.{string}
use Rattle.sf_request.proofs.requesting.put_paths.Goals as goal

regroup : (out x y z : List ℕ) → (out ++ x) ++ (y ++ z) ≡ out ++ ((x ++ y) ++ z)
regroup out x y z = simp append_assoc

pub returns-in-PosixRename-clause-items : goal.returns-in-PosixRename-clause-items
returns-in-PosixRename-clause-items c =
    rw (c.in-PosixRename.is, c.put_both-in-PosixRename.ensures.items, c.put_string.ensures.items)
    (regroup c.args.out.now.items (string (codes "posix-rename@openssh.com")) (string c.args.old.now) (string c.args.new.now))

pub returns-in-Link-clause-items : goal.returns-in-Link-clause-items
returns-in-Link-clause-items c =
    rw (c.in-Link.is, c.put_both-in-Link.ensures.items, c.put_string-in-Link.ensures.items)
    (regroup c.args.out.now.items (string (codes "hardlink@openssh.com")) (string c.args.old.now) (string c.args.new.now))
