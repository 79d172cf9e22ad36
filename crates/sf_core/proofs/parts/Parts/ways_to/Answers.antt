use Rattle.std.proofs.Common.{◌≡◌, Some, sym, ap, subst, ◌∙◌, arith}
use Rattle.sf_call.specs.declared.call.Call.{Call}
use Rattle.sf_inode.specs.Stores.{StoreState}
use Rattle.sf_call.specs.Routes.{Route, route_of}
use Rattle.sf_walk.specs.Ways.{AreWays, names_on, request_names}
use Rattle.sf_walk.specs.Served.{LookedUp}
use Rattle.sf_core.specs.Cores.{call_at}
use Rattle.sf_core.specs.Parts.{PartsView}
use Rattle.sf_core.specs.Finishing.{IsSettledWhereFree, IsReadyToHelp}
use Rattle.sf_core.proofs.Maps.{some_eq}
use Rattle.sf_core.proofs.LaneStates.{names_fit}
use Rattle.sf_core.proofs.Readying.{ready_alone, ready_finished}
use Rattle.sf_core.proofs.parts.Parts.ways_to.Goals as goal

looks_by : (s t : StoreState) (c : Call) (r : Route) → r ≡ route_of c.request → LookedUp s t (names_on r) → LookedUp s t (request_names c.request)
looks_by s t c r e looks = let a = looks.few in let b = ap names_on e in let f = names_fit c.request in record { count = looks.count; few = omega (arith, a, b, f); state = looks.state }

pub returns-in-Some-writer_to_finish-clause-ready : goal.returns-in-Some-writer_to_finish-clause-ready
returns-in-Some-writer_to_finish-clause-ready c = λ d at.
    let inside : PartsView = record { store = c.self.inside.store; book = c.self.inside.book; sessions = c.self.inside.sessions; calls = c.self.inside.calls; drawn = c.self.inside.drawn; joins = c.self.inside.joins } in
    let call = c.in-Some.call.now in
    let looked = c.locate_all-ways.new.store in
    let ways = c.locate_all-ways.result in
    let writer = c.in-Some-writer_to_finish.writer in
    let here : call_at c.self.inside.calls c.args.number ≡ Some d = subst (λ (v : PartsView). call_at v.calls c.args.number ≡ Some d) (sym c.self.view_is) at in
    let same : call ≡ d = some_eq call d (c.in-Some.ensures.call ∙ here) in
    let own : IsReadyToHelp inside c.finish_write.new.self call ways =
    subst (λ (q : PartsView). IsReadyToHelp inside q call ways) (sym c.finish_write.ensures)
    (ready_finished inside call ways looked (subst (λ (v : PartsView). IsSettledWhereFree v.store) (sym c.self.view_is) c.requires)
    (subst (λ (r : Route). AreWays c.self.inside.store r ways) c.in-Some.ensures.route c.locate_all-ways.ensures.located)
    (looks_by c.self.inside.store looked call _ c.in-Some.ensures.route c.locate_all-ways.ensures.looked) writer c.in-Some-writer_to_finish.ensures.some) in
    subst (λ (v : PartsView). IsReadyToHelp v c.finish_write.new.self d ways) c.self.view_is (subst (λ (x : Call). IsReadyToHelp inside c.finish_write.new.self x ways) same own)

pub returns-in_default-writer_to_finish-clause-ready : goal.returns-in_default-writer_to_finish-clause-ready
returns-in_default-writer_to_finish-clause-ready c = λ d at.
    let inside : PartsView = record { store = c.self.inside.store; book = c.self.inside.book; sessions = c.self.inside.sessions; calls = c.self.inside.calls; drawn = c.self.inside.drawn; joins = c.self.inside.joins } in
    let call = c.in-Some.call.now in
    let looked = c.locate_all-ways.new.store in
    let ways = c.locate_all-ways.result in
    let here : call_at c.self.inside.calls c.args.number ≡ Some d = subst (λ (v : PartsView). call_at v.calls c.args.number ≡ Some d) (sym c.self.view_is) at in
    let same : call ≡ d = some_eq call d (c.in-Some.ensures.call ∙ here) in
    let own : IsReadyToHelp inside (record inside { store = looked }) call ways =
    ready_alone inside call ways looked (subst (λ (v : PartsView). IsSettledWhereFree v.store) (sym c.self.view_is) c.requires)
    (subst (λ (r : Route). AreWays c.self.inside.store r ways) c.in-Some.ensures.route c.locate_all-ways.ensures.located)
    (looks_by c.self.inside.store looked call _ c.in-Some.ensures.route c.locate_all-ways.ensures.looked) c.in_default-writer_to_finish.ensures.none in
    subst (λ (v : PartsView). IsReadyToHelp v (record inside { store = looked }) d ways) c.self.view_is (subst (λ (x : Call). IsReadyToHelp inside (record inside { store = looked }) x ways) same own)
