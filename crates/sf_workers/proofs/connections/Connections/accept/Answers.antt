use Rattle.std.proofs.Common.{[], ◌∷◌, ◌++◌, Option, None, List, sym, ap, ◌∙◌, subst, append-nil}
use Rattle.std.specs.Prelude.{map, IsPermutation}
use Rattle.std.proofs.lemmas.List.Sorted.{IsPermutation-to_front}
use Rattle.slab.specs.Slab.{values}
use Rattle.sf_pool.specs.SessionLanes.{Notes}
use Rattle.sf_workers.specs.LaneSessions.{IsOpenSession, keeps_calls, stream_before}
use Rattle.sf_workers.specs.Streams.{SourceView}
use Rattle.sf_workers.proofs.Receiving.{same_go_on, more_go_on, opens, none_served, one_served}
use Rattle.sf_workers.proofs.connections.Connections.accept.Goals as goal

pub returns-in-Ok-clause-going : goal.returns-in-Ok-clause-going
returns-in-Ok-clause-going g c =
    let o = c.in-Ok.ensures.opened in
    more_go_on (IsOpenSession g.L.Stream.view) keeps_calls _ _ _ _ o.0 c.in-Ok.ensures.keeps o.3 o.4 o.1 c.requires

pub returns-in-Ok-clause-streams : goal.returns-in-Ok-clause-streams
returns-in-Ok-clause-streams g c =
    let o = c.in-Ok.ensures.opened in
    none_served _ _ _ _ _ _ _ _ (opens stream_before _ _ o.0 c.args.stream o.1 o.2)
    (ap (λ (v : SourceView g.row.L.Denot). v.returned) c.in-Ok.ensures.source) c.in-Ok.ensures.visits

pub returns-in-Err-clause-going : goal.returns-in-Err-clause-going
returns-in-Err-clause-going g c =
    same_go_on (IsOpenSession g.L.Stream.view) keeps_calls _ _ _ _ c.in-Err.ensures.keeps c.in-Err.ensures.refused.1 c.requires

pub returns-in-Err-clause-streams : goal.returns-in-Err-clause-streams
returns-in-Err-clause-streams g c =
    let refused = c.in-Err.ensures.refused in
    let same = ap (λ (v : SourceView g.row.L.Denot). v.returned) c.in-Err.ensures.source in
    let old = map stream_before (values c.args.self.now.active) in
    one_served _ (record { start = c.args.stream; finish = c.in-Err.stream; session = None }) _ _ _ _ _ _ _
    (ap g.L.Stream.view refused.0)
    (subst (λ l. IsPermutation (old ++ c.args.stream ∷ []) (c.args.stream ∷ map stream_before l)) (sym refused.1) (IsPermutation-to_front old c.args.stream))
    (subst (λ (r : Option (List g.row.L.Denot)). Notes r (g.S.StreamSource.view c.give_back.new.self).returned (c.in-Err.stream ∷ [])) same c.give_back.ensures.returned)
    (c.in-Err.ensures.visits ∙ sym (append-nil c.args.self.now.sessions.visits.items))
