use Rattle.std.proofs.Common.{Some, refl, sym, ap, ◌∙◌, subst}
use Rattle.sf_pool.proofs.Laws.{notes_none}
use Rattle.sf_workers.specs.LaneSessions.{IsOpenSession, IsEndedSession, keeps_calls, stream_before}
use Rattle.sf_workers.specs.Sessions.{WasServed}
use Rattle.sf_workers.proofs.Slabs.{replaced, replaced_and_removed, same_value}
use Rattle.sf_workers.proofs.Ending.{while_open, once_ended}
use Rattle.sf_workers.proofs.Receiving.{source_same, source_idle, none_served, one_served, one_goes_on, others_go_on, more_go_on, closes, goes_on}
use Rattle.sf_workers.proofs.connections.Connections.advance.Goals as goal

pub returns-in_default-clause-streams : goal.returns-in_default-clause-streams
returns-in_default-clause-streams g c =
    source_same g.L.Stream.view _ _ _ _ _ _ (notes_none _ _ refl) refl refl refl refl

pub advance_session-wants-requires-clause-is_open : goal.advance_session-wants-requires-clause-is_open
advance_session-wants-requires-clause-is_open g c =
    let v = c.in-Some.session.now in
    let r = replaced c.args.self.now.active c.args.key v v (sym c.in-Some.ensures.value) in
    (one_goes_on (IsOpenSession g.L.Stream.view) keeps_calls _ _ _ v r.1 c.requires.going).0

pub end_session-visit-requires : goal.end_session-visit-requires
end_session-visit-requires g c =
    let same = same_value c.args.self.now.active c.args.key _ _ _ (sym c.in-Some.ensures.value) c.remove.ensures.value in
    subst (IsEndedSession g.L.Stream.view) (sym same)
    (once_ended c.advance_session-wants.result _ _ c.in-Ended.field-0 c.in-Ended.is c.advance_session-wants.ensures.ended)

pub add-requires-clause-calls : goal.add-requires-clause-calls
add-requires-clause-calls g c =
    let v = c.in-Some.session.now in
    let found = sym c.in-Some.ensures.value in
    let same = same_value c.args.self.now.active c.args.key _ _ _ found c.remove.ensures.value in
    let r = replaced c.args.self.now.active c.args.key v v found in
    let own = one_goes_on (IsOpenSession g.L.Stream.view) keeps_calls _ _ _ v r.1 c.requires.going in
    λ kept. c.end_session-visit.ensures.transcript (ap keeps_calls same ∙ ap (λ s. s.value.transcript_lane.keeps) c.advance_session-wants.ensures.lane ∙ own.1 ∙ kept)

pub returns-in-Ended-clause-going : goal.returns-in-Ended-clause-going
returns-in-Ended-clause-going g c =
    let v = c.in-Some.session.now in
    let less = replaced_and_removed c.args.self.now.active c.remove.new.self c.args.key v c.advance_session-wants.new.session (sym c.in-Some.ensures.value) c.remove.ensures.slots in
    others_go_on (IsOpenSession g.L.Stream.view) keeps_calls _ _ _ _ v c.add.ensures.keeps less c.requires.going

pub returns-in-Ended-clause-streams : goal.returns-in-Ended-clause-streams
returns-in-Ended-clause-streams g c =
    let v = c.in-Some.session.now in
    let found = sym c.in-Some.ensures.value in
    let same = same_value c.args.self.now.active c.args.key _ _ _ found c.remove.ensures.value in
    let less = replaced_and_removed c.args.self.now.active c.remove.new.self c.args.key v c.advance_session-wants.new.session found c.remove.ensures.slots in
    let view = g.L.Stream.view in
    let ended = c.end_session-visit.result in
    source_idle view _ _ _ _ _ _ c.give_back.ensures.received c.give_back.ensures.count
    (one_served view (record { start = stream_before v; finish = ended.stream; session = Some ended.visit }) _ _ _ _ _ _ _
    (ended.steps, subst (λ s. WasServed ended.visit (view s.value) (view ended.stream) ended.steps) (ap (λ d. d.start_stream) same ∙ c.advance_session-wants.ensures.stream) c.end_session-visit.ensures.session)
    (closes stream_before _ _ v less) c.give_back.ensures.returned c.add.ensures.visits)

pub returns-then-eq : goal.returns-then-eq
returns-then-eq g c =
    let v = c.in-Some.session.now in
    let v' = c.advance_session-wants.new.session in
    let r = replaced c.args.self.now.active c.args.key v v' (sym c.in-Some.ensures.value) in
    let can = IsOpenSession g.L.Stream.view in
    let advanced = c.advance_session-wants.ensures in
    let own = one_goes_on can keeps_calls _ _ _ v r.1 c.requires.going in
    let others = others_go_on can keeps_calls _ _ _ _ v refl r.1 c.requires.going in
    record {
      going = more_go_on can keeps_calls _ _ _ _ v' refl (while_open c.advance_session-wants.result _ _ c.in_default-wants.not-Ended advanced.ended) (ap (λ s. s.value.transcript_lane.keeps) advanced.lane ∙ own.1) r.2 others;
      keeps = refl;
      streams = source_idle g.L.Stream.view _ _ _ _ _ _ refl refl
          (none_served g.L.Stream.view _ _ _ _ _ _ _ (goes_on stream_before _ _ _ v v' r.1 r.2 (ap (λ s. s.value) advanced.stream)) refl refl);
      len = advanced.len;
    }

pub returns-else-eq : goal.returns-else-eq
returns-else-eq g c =
    let v = c.in-Some.session.now in
    let v' = c.advance_session-wants.new.session in
    let r = replaced c.args.self.now.active c.args.key v v' (sym c.in-Some.ensures.value) in
    let can = IsOpenSession g.L.Stream.view in
    let advanced = c.advance_session-wants.ensures in
    let own = one_goes_on can keeps_calls _ _ _ v r.1 c.requires.going in
    let others = others_go_on can keeps_calls _ _ _ _ v refl r.1 c.requires.going in
    record {
      going = more_go_on can keeps_calls _ _ _ _ v' refl (while_open c.advance_session-wants.result _ _ c.in_default-wants.not-Ended advanced.ended) (ap (λ s. s.value.transcript_lane.keeps) advanced.lane ∙ own.1) r.2 others;
      keeps = refl;
      streams = source_idle g.L.Stream.view _ _ _ _ _ _ refl refl
          (none_served g.L.Stream.view _ _ _ _ _ _ _ (goes_on stream_before _ _ _ v v' r.1 r.2 (ap (λ s. s.value) advanced.stream)) refl refl);
      len = advanced.len;
    }
