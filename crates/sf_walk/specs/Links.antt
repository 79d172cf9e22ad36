-- No public clause cites this module.
-- The outcome of a link in the store.
use Rattle.std.specs.Prelude.{◌≡◌, ℕ, ◌<◌, true, nat_lt, if◌then◌else◌, [], ◌∷◌, ◌++◌, length, Some, None}
use Rattle.sf_path.specs.Names.{Name, Path}
use Rattle.sf_path.specs.Order.{parent}
use Rattle.sf_reply.specs.declared.reply.Reply.TheVariants as reply
use Rattle.sf_reply.specs.declared.reply.StatusCode.{StatusCode}
use Rattle.sf_reply.specs.declared.reply.StatusCode.TheVariants.{NoSuchFile, Failure}
use Rattle.sf_call.specs.Tree.{Tree}
use Rattle.sf_call.specs.Changes.{touched}
use Rattle.sf_call.specs.Changes.Change.{NewName}
use Rattle.sf_call.specs.Calls.{Outcome, tells, succeeds}
use Rattle.sf_inode.specs.declared.node.Node.{Node}
use Rattle.sf_inode.specs.Stores.{StoreState, node_in, child_of, is_directory_at, is_file_at}
use Rattle.sf_keeps.specs.Steps.{walk}
use Rattle.sf_walk.specs.declared.links.LinkCourse.{LinkCourse}
use Rattle.sf_walk.specs.declared.links.LinkCourse.TheVariants.{Told, Names}

-- the status if one path is a prefix of the other, and the old one leads to a file
abbrev pub nested_code : Path → Path → StatusCode
nested_code old new = if nat_lt (length old) (length new) then NoSuchFile else Failure

-- A name that a directory lacks may become a link to a file that has fewer than 1024 links.
pub record MayName (s : StoreState) (new : Path) (node into : ℕ) : Type 0 where
  pub it : Node
  pub is_node : node_in s.nodes node ≡ Some it
  pub file : is_file_at s.nodes node ≡ true
  pub fewer : it.names < 1024
  pub beside : Path
  pub last : Name
  pub is_new : new ≡ beside ++ last ∷ []
  pub leads : walk (child_of s.nodes) s.root beside ≡ Some into
  pub directory : is_directory_at s.nodes into ≡ true
  pub free : child_of s.nodes into last ≡ None

-- The answer is the link, and the link may be made.
pub record MakesLink (s : StoreState) (t : Tree) (moment : ℕ) (new : Path) (answer : Outcome)
    (node into : ℕ) : Type 0 where
  pub may : MayName s new node into
  pub is : answer ≡ succeeds (NewName new may.it.label ∷ touched t moment (parent new))

-- the status is the tree's answer; or the answer is a link
abbrev pub IsLinking : StoreState → Tree → ℕ → Path → Outcome → LinkCourse → Type 0
IsLinking s t moment new answer (Told code) = answer ≡ tells (reply.Status code)
IsLinking s t moment new answer (Names node into) = MakesLink s t moment new answer node into

-- the new path of a link that is made has a last name
abbrev pub IsNamed : Path → LinkCourse → Type 0
IsNamed new (Told code) = Unit {0}
IsNamed new (Names node into) = 0 < length new
