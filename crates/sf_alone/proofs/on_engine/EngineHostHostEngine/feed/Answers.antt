use Rattle.std.proofs.Common.{sym, subst}
use Rattle.std.proofs.lemmas.Result.{on_ok_weaker, on_err_weaker}
use Rattle.sf_engine.specs.Views.{EngineView}
use Rattle.sf_alone.specs.OnEngine.{IsToldBy}
use Rattle.sf_alone.proofs.Hosting.{fed_on}
use Rattle.sf_alone.proofs.on_engine.EngineHostHostEngine.feed.Goals as goal

pub returns-clause-fed : goal.returns-clause-fed
returns-clause-fed g c = on_ok_weaker c.feed.result (λ feeds start told t tells is_open. fed_on tells feeds) c.feed.ensures.fed

pub returns-clause-err : goal.returns-clause-err
returns-clause-err g c = on_err_weaker c.feed.result (λ same start told t tells.
    subst (λ (e : EngineView). IsToldBy c.args.self.now.turns start c.args.self.now.session e told t) (sym same) tells) c.feed.ensures.err
