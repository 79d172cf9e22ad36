-- A request that fails changes nothing.
use Rattle.std.proofs.Common.{◌≡◌, ◌≢◌, ℕ, [], refl}
use Rattle.sf_reply.specs.declared.reply.Reply.TheVariants as reply
use Rattle.sf_reply.specs.declared.reply.StatusCode.{StatusCode}
use Rattle.sf_reply.specs.declared.reply.StatusCode.TheVariants.{Success}
use Rattle.sf_call.specs.declared.request.Request.{Request}
use Rattle.sf_call.specs.Tree.{Tree}
use Rattle.sf_call.specs.Calls.{Outcome, answer_to}
use Rattle.sf_laws.proofs.Shapes.{Shape, shape_of}
use Rattle.sf_laws.proofs.Shapes.Shape.{Refuses}

still : (tree : Tree) (session number moment : ℕ) (r : Request) (answer : Outcome) → Shape tree session number moment r answer → (code : StatusCode)
    → answer.reply ≡ reply.Status code → code ≢ Success → answer.changes ≡ []
still tree session number moment r answer (Refuses q refused) code is other = refl
still tree session number moment r answer _ code is other = absurd (other cc)

pub refused_still : (tree : Tree) (session number moment : ℕ) (request : Request) (code : StatusCode)
    → (answer_to tree session number moment request).reply ≡ reply.Status code → code ≢ Success → (answer_to tree session number moment request).changes ≡ []
refused_still tree session number moment request = still tree session number moment request _ (shape_of tree session number moment request)
