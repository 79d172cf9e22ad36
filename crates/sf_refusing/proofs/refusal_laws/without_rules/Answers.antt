use Rattle.std.proofs.Common.{List, [], ap, sym, ◌∙◌, length}
use Rattle.sf_session.specs.Responses.{Response, transcript}
use Rattle.sf_refusing.specs.declared.rule.Rule.{Rule}
use Rattle.sf_refusing.specs.Journal.{log_of}
use Rattle.sf_refusing.proofs.Entries.{all_added}
use Rattle.sf_refusing.proofs.RefusalLaws.{ruleless}
use Rattle.sf_refusing.proofs.refusal_laws.without_rules.Goals as goal

pub returns : goal.returns
returns c = λ refusals journal H none session own.
    let all = all_added session (log_of journal) in
    let plain = ruleless [] journal H.happened (ap (λ (rs : List Rule). length rs) none) session own in
    (plain.0 ∙ ap (λ (ws : List Response). transcript ws) (sym all.1), plain.1 ∙ sym all.0)
