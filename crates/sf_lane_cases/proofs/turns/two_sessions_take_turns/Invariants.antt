use Rattle.sf_lane_cases.proofs.turns.two_sessions_take_turns.Given as goal

abbrev pub ghosts-on_one_thread-B-RollName : goal.ghosts-on_one_thread-B-RollName
ghosts-on_one_thread-B-RollName g a = record { table = a.tokens.0 }

abbrev pub ghosts-on_one_thread-B-Ledger : goal.ghosts-on_one_thread-B-Ledger
ghosts-on_one_thread-B-Ledger g a = record { name = a.tokens.1.name; parts = a.tokens.1.parts }
