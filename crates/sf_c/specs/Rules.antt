-- Rules of fault injection, as C gives them.
use Rattle.std.specs.Prelude.{◌≡◌, ◌<◌, ◌^◌, ◌++◌, ◌⊎◌, Bool, true, false, ℕ, zero, suc, ℤ, pos, negsuc, List, [], ◌∷◌, Option, Some, None}
use Rattle.sf_path.specs.Names.{Path}
use Rattle.sf_reply.specs.Replies.{number_of}
use Rattle.sf_reply.specs.declared.reply.StatusCode.{StatusCode}
use Rattle.sf_session.specs.Asking.{path_at}
use Rattle.sf_refusing.specs.declared.rule.RequestKind.{RequestKind}
use Rattle.sf_refusing.specs.declared.rule.RequestKind.TheVariants as kind
use Rattle.sf_refusing.specs.declared.rule.Rule.{Rule}
use Rattle.sf_refusing.specs.declared.refusals.Refusals.{Refusals}
use Rattle.sf_refusing.specs.Journal.{Act, Ruled, since_given, refused_in}
use Rattle.sf_refusing.specs.Refusing.{HasJournal}
use Rattle.sf_c.specs.declared.rules.RuleParts.{RuleParts}
use Rattle.sf_c.specs.declared.rules.RuleFault.{RuleFault}
use Rattle.sf_c.specs.declared.rules.RuleFault.TheVariants as fault

-- the packet types; extended requests have numbers of their own
abbrev pub kind_number : RequestKind → ℕ
kind_number kind.Open = 3
kind_number kind.Close = 4
kind_number kind.Read = 5
kind_number kind.Write = 6
kind_number kind.LStat = 7
kind_number kind.FStat = 8
kind_number kind.SetStat = 9
kind_number kind.FSetStat = 10
kind_number kind.OpenDir = 11
kind_number kind.ReadDir = 12
kind_number kind.Remove = 13
kind_number kind.Mkdir = 14
kind_number kind.Rmdir = 15
kind_number kind.RealPath = 16
kind_number kind.Stat = 17
kind_number kind.Rename = 18
kind_number kind.PosixRename = 201
kind_number kind.Link = 202

-- 0 means any
abbrev pub HasKind : Option RequestKind → ℕ → Type 0
HasKind None number = number ≡ 0
HasKind (Some wanted) number = number ≡ kind_number wanted

abbrev pub ruled_session : ℕ → Option ℕ
ruled_session zero = None
ruled_session (suc before) = Some (suc before)

abbrev pub HasPath : Option Path → Bool → List ℕ → Type 0
HasPath wanted false text = wanted ≡ None
HasPath wanted true text = (path : Path) × (path_at text ≡ Some path) × (wanted ≡ Some path)

pub record IsRuleOf (parts : RuleParts) (text : List ℕ) (rule : Rule) : Type 0 where
  pub session : rule.session ≡ ruled_session parts.session
  pub kind : HasKind rule.kind parts.kind
  pub path : HasPath rule.path parts.has_path text
  pub pass : rule.pass ≡ parts.pass
  pub refuse : rule.refuse ≡ parts.refuse
  pub code : number_of rule.code ≡ parts.status

-- why there is no such rule
abbrev pub IsFaulty : RuleParts → List ℕ → RuleFault → Type 0
IsFaulty parts text fault.OutOfMemory = Unit {0}
IsFaulty parts text fault.Kind = (wanted : Option RequestKind) → HasKind wanted parts.kind → ⊥
IsFaulty parts text fault.Status = (code : StatusCode) → number_of code ≡ parts.status → ⊥
IsFaulty parts text fault.Path = (parts.has_path ≡ true) × (path_at text ≡ None)

abbrev pub rule_fault_number : RuleFault → ℤ
rule_fault_number fault.OutOfMemory = negsuc 0
rule_fault_number fault.Kind = negsuc 11
rule_fault_number fault.Status = negsuc 12
rule_fault_number fault.Path = negsuc 13

-- The rule was added, and has this number; or it was invalid, and the journals are unchanged.
abbrev pub GivesRule : RuleParts → List ℕ → Refusals → ℤ → Refusals → Type 0
GivesRule parts text r n r' =
    ((rule : Rule) × (number : ℕ) × IsRuleOf parts text rule × (n ≡ pos number)
    × ((journal : List Act) → HasJournal r journal → HasJournal r' (journal ++ Ruled rule ∷ [])
    × (since_given (journal ++ Ruled rule ∷ []) number ≡ Some (rule, []))))
    ⊎ ((why : RuleFault) × IsFaulty parts text why × (n ≡ rule_fault_number why)
    × ((journal : List Act) → HasJournal r journal → HasJournal r' journal))

-- the same for the refusals that C holds
abbrev pub TakesRule : Option Refusals → RuleParts → List ℕ → ℤ → Option Refusals → Type 0
TakesRule before parts text n after = (r : Refusals) × (r' : Refusals) × (before ≡ Some r)
    × (after ≡ Some r') × GivesRule parts text r n r'

-- The number of requests that the rule with this number has refused, or -15 if no rule has it.
abbrev pub TellsRefused : Refusals → ℕ → ℤ → Type 0
TellsRefused r number n = ((count : ℕ) × (count < 2 ^ 63 → n ≡ pos count)
    × ((journal : List Act) → HasJournal r journal → (rule : Rule) × (since : List Act)
    × (since_given journal number ≡ Some (rule, since)) × (count ≡ refused_in number since)))
    ⊎ ((n ≡ negsuc 14)
    × ((journal : List Act) → HasJournal r journal → since_given journal number ≡ None))
