use Rattle.std.proofs.Common.{ℕ, List, Option, refl, sym, subst}
use Rattle.sf_alone.specs.Talks.{talk_view, ConversesTo}
use Rattle.sf_alone.proofs.Talking.{says_nothing, talked}
use Rattle.sf_alone.proofs.own_engine.serve_alone.Goals as goal

pub returns-in-Ok : goal.returns-in-Ok
returns-in-Ok g c =
    let told = g.C.Clock.moments c.args.clock.now in
    let told' = g.C.Clock.moments c.serve_one-outcome.new.clock in
    let view = λ (l : g.row.L.Denot) (moments : Option (List ℕ)). talk_view (g.L.Line.incoming l) moments (g.L.Line.outgoing l) in
    let outcome = c.serve_one-outcome.result.0 in
    let last = c.serve_one-outcome.result.1 in
    let whole = talked _ _ outcome c.in-Ok.ensures.log c.serve_one-outcome.ensures.served c.serve_one-outcome.ensures.stopped in
    subst (λ (l : g.row.L.Denot). ConversesTo (view c.args.line told) (view l told') outcome) (sym c.into_line.ensures)
    (subst (λ (l : g.row.L.Denot). ConversesTo (view l told) (view last.line told') outcome) c.new-stream.ensures whole)

pub returns-in-Err : goal.returns-in-Err
returns-in-Err g c = says_nothing (talk_view (g.L.Line.incoming c.args.line) (g.C.Clock.moments c.args.clock.now) (g.L.Line.outgoing c.args.line)) _ refl
