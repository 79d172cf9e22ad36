use Rattle.sf_request.specs.Reading.{asked_of}
use Rattle.sf_request.proofs.AskedLaws.{asked_found}
use Rattle.sf_request.proofs.Laws.{one_question}
use Rattle.sf_field.proofs.Laws.{IsBytes-of}
use Rattle.sf_request.proofs.request_laws.one_question.Goals as goal

pub returns-clause-exists : goal.returns-clause-exists
returns-clause-exists c = λ body all. (asked_of body, asked_found body (IsBytes-of body all))

pub returns-clause-unique : goal.returns-clause-unique
returns-clause-unique c = one_question
