-- For dependent crates: the laws of requests, about definitions only. All other files here are
-- private to this crate.
use Rattle.std.proofs.Common.{◌≡◌, ℕ, List, sym, ◌∙◌}
use Rattle.sf_field.specs.Fields.{AreBytes}
use Rattle.sf_field.proofs.Laws.{IsBytes-of}
use Rattle.sf_request.specs.declared.request.Asked.{Asked}
use Rattle.sf_request.specs.Requests.{Asks}
use Rattle.sf_request.proofs.AskedLaws.{asked_only}
-- a decoded request has an encoding
pub use Rattle.sf_request.proofs.AskedLaws.{asked_fits}
-- a request that is sent decodes to itself, and INIT to version 3
pub use Rattle.sf_request.proofs.SentRequests.{sent_asks, init_asks}

-- a body encodes one thing
pub one_question : (body : List ℕ) (asked other : Asked) → AreBytes body → Asks body asked → Asks body other → asked ≡ other
one_question body asked other all h k = sym (asked_only body asked (IsBytes-of body all) h) ∙ asked_only body other (IsBytes-of body all) k
