use Rattle.sf_request.proofs.SentRequests.{sent_asks, init_asks}
use Rattle.sf_request.proofs.request_laws.sent_requests.Goals as goal

pub returns-clause-request : goal.returns-clause-request
returns-clause-request c = sent_asks

pub returns-clause-init : goal.returns-clause-init
returns-clause-init c = init_asks
