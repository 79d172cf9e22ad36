use Rattle.sf_workers.proofs.lines.serve_named.Goals as goal

pub returns : goal.returns
returns g c =
    let o = c.in_ok-outcome.outcome in
    let e = c.in_ok-outcome.ensures in
    record { history = o.log; sessions = o.sessions.value.items; whole = e.history; order = e.order; kept = e.kept; each = e.each; many = e.served }
