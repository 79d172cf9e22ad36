-- A call that may follow a history, and the trees before it and after it.
use Rattle.std.proofs.Common.{◌≡◌, ◌<◌, ℕ, List, ◌∷◌, Some}
use Rattle.sf_path.specs.Names.{Name, Path}
use Rattle.sf_call.specs.declared.record.Record.{Record}
use Rattle.sf_call.specs.declared.request.Request.{Request}
use Rattle.sf_call.specs.Tree.{Tree, after_front}
use Rattle.sf_call.specs.Calls.{Outcome, answer_to, apply}
use Rattle.sf_call.specs.Histories.{IsLegal, IsNewNumber, replay}

-- a call on a tree
pub record CallOn : Type 0 where
  pub tree : Tree
  pub session : ℕ
  pub number : ℕ
  pub moment : ℕ
  pub request : Request

-- a call that may follow a legal history: its number is above zero, and new
pub record NewCall : Type 0 where
  pub history : List Record
  pub session : ℕ
  pub number : ℕ
  pub moment : ℕ
  pub request : Request
  pub legal : IsLegal history
  pub above : 0 < number
  pub fresh : IsNewNumber number history

abbrev pub tree_before : NewCall → Tree
tree_before c = replay c.history

abbrev pub outcome_of : NewCall → Outcome
outcome_of c = answer_to (replay c.history) c.session c.number c.moment c.request

abbrev pub tree_after : NewCall → Tree
tree_after c = (apply (replay c.history) c.session c.number c.moment c.request).tree

-- a path is strictly below another
pub record IsStrictlyBelow (old path : Path) : Type 0 where
  pub name : Name
  pub rest : Path
  pub is : after_front old path ≡ Some (name ∷ rest)
