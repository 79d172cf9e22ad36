-- For other crates: what requests leave alone, and that the history of the examples is legal, so
-- that its replies may be sent. All other files here are private to this crate.
use Rattle.std.proofs.Common.{◌≡◌, ◌≢◌, ◌<◌, ℕ, [], ◌∷◌, arith, refl, inl, inr}
use Rattle.std.proofs.lemmas.List.Elements.{All-nil, All-cons, All-contains}
use Rattle.sf_path.specs.Names.{slash, IsName, Path, IsPath}
use Rattle.sf_field.specs.Attributes.{AttrsFit}
use Rattle.sf_field.specs.Attributes.{no_attrs}
use Rattle.sf_call.specs.declared.request.Request.{Request}
use Rattle.sf_call.specs.Tree.{Tree, label_at}
use Rattle.sf_call.specs.Calls.{answer_to, apply}
use Rattle.sf_call.specs.Histories.{IsLegal, IsLegalAfter, replay}
use Rattle.sf_laws.specs.Own.{IsOwnPath}
use Rattle.sf_laws.proofs.OwnChanges.{own, other_paths}
use Rattle.sf_laws.specs.Examples.{a, b, history}
-- a call that may follow a history, as the lemmas below take it
pub use Rattle.sf_laws.proofs.NewCalls.{CallOn, NewCall, IsStrictlyBelow}
-- no request changes an object's file type
pub use Rattle.sf_laws.proofs.SameKinds.{kinds_stay}
-- An allowed rename moves its old path. A call on two paths that moves nothing keeps the inode
-- numbers of existing paths. If one path begins with the other, it keeps all of them. No other
-- request moves a path.
pub use Rattle.sf_laws.proofs.Renames.{unmoved_labels, unmoved_nested, moved_changes, moved_old, never_moved}
-- A rename keeps the inode numbers of paths that begin with neither of its two. A request on one
-- path strictly below `old` keeps those of paths that aren't, and a move of `old` stays allowed.
pub use Rattle.sf_laws.proofs.Renames.{spared_labels, below_labels, still_move}
-- a call leaves the open handles of other sessions alone
pub use Rattle.sf_laws.proofs.OtherSessions.{others_handles}
-- the renames do an allowed move
pub use Rattle.sf_laws.proofs.MovingRenames.{rename_moves, posix_rename_moves}

-- a path that isn't a request's own keeps its inode number
pub other_labels : (tree : Tree) (session number moment : ℕ) (request : Request) (path : Path) → ¬ IsOwnPath request path
    → label_at (apply tree session number moment request).tree.names path ≡ label_at tree.names path
other_labels tree session number moment request path other =
    other_paths tree session number request (answer_to tree session number moment request).changes tree path (own tree session number moment request) other

-- a name of one byte
letter : (x : ℕ) → x < 256 → x ≢ slash → x ≢ 0 → x ≢ 46 → IsPath ((x ∷ []) ∷ [])
letter x byte no_slash no_zero no_dot = All-cons IsName (x ∷ []) [] (record {
  part = record {
    short = omega arith;
    bytes = All-cons (λ b. b < 256) x [] byte (All-nil (λ b. b < 256));
    no_slash = λ w. All-contains (λ b. b ≢ slash) (x ∷ []) slash (All-cons (λ b. b ≢ slash) x [] no_slash (All-nil (λ b. b ≢ slash))) w refl;
    no_zero = λ w. All-contains (λ b. b ≢ 0) (x ∷ []) 0 (All-cons (λ b. b ≢ 0) x [] no_zero (All-nil (λ b. b ≢ 0))) w refl;
  };
  not_empty = λ e. cc;
  not_dot = λ e. no_dot cc;
  not_dot_dot = λ e. cc;
}) (All-nil IsName)

path_a : IsPath (a ∷ [])
path_a = letter 97 (omega arith) (λ e. omega arith) (λ e. omega arith) (λ e. omega arith)

path_b : IsPath (b ∷ [])
path_b = letter 98 (omega arith) (λ e. omega arith) (λ e. omega arith) (λ e. omega arith)

nothing_fits : AttrsFit no_attrs
nothing_fits = record { size = tt; owner = tt; permissions = tt; times = tt }

pub legal_history : IsLegal history
unfolding IsLegal IsLegalAfter replay
legal_history = (
  record { is_call = record { number_fits = omega arith; session_fits = omega arith; moment_fits = omega arith; request_fits = (path_a, nothing_fits) }; above_zero = omega arith; new_number = tt; present = tt; answered = inl refl },
  (
    record { is_call = record { number_fits = omega arith; session_fits = omega arith; moment_fits = omega arith; request_fits = (path_b, nothing_fits) }; above_zero = omega arith; new_number = (λ e. omega arith, tt); present = (λ e. cc, tt); answered = inr refl },
    (
      record { is_call = record { number_fits = omega arith; session_fits = omega arith; moment_fits = omega arith; request_fits = path_b }; above_zero = omega arith; new_number = (λ e. omega arith, (λ e. omega arith, tt)); present = (λ e. cc, (λ e. cc, tt)); answered = inl refl },
      (
        (λ e. cc, (λ e. cc, (λ e. cc, tt))),
        tt,
      ),
    ),
  ),
)
