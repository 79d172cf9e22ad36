-- No public clause cites this module.
-- Counting by a rule.
use Rattle.std.specs.Prelude.{◌+◌, ℕ, nat_lt, List, Bool, not, ◌&&◌, if◌then◌else◌}
use Rattle.sf_path.specs.Names.{Path}
use Rattle.sf_refusing.specs.declared.rule.RequestKind.{RequestKind}
use Rattle.sf_refusing.specs.declared.given.GivenRule.{GivenRule}
use Rattle.sf_refusing.specs.Rules.{fits}

-- whether the rule refuses the next request that it counts
abbrev pub is_ready : GivenRule → Bool
is_ready given = not (nat_lt given.passed given.rule.pass) && nat_lt given.refused given.rule.refuse

abbrev pub refuses_now : GivenRule → ℕ → RequestKind → List Path → Bool
refuses_now given session kind paths = fits given.rule session kind paths && is_ready given

-- the rule after it counted one more request, which passed or was refused
abbrev pub counted_once : GivenRule → GivenRule
counted_once given =
    if nat_lt given.passed given.rule.pass then record given { passed = given.passed + 1 }
    else if nat_lt given.refused given.rule.refuse then record given { refused = given.refused + 1 }
    else given

abbrev pub counted_if : Bool → GivenRule → GivenRule
counted_if fit given = if fit then counted_once given else given
