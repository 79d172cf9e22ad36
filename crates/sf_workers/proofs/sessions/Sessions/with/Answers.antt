use Rattle.std.proofs.Common.{◌≡◌, ◌∙◌, ap, subst, sym, List}
use Rattle.std.specs.Prelude.{map, Bool}
use Rattle.sf_audit.specs.declared.transcript.Transcript.{Transcript}
use Rattle.sf_workers.specs.Sessions.{calls_in_transcript, kept_transcripts}
use Rattle.sf_workers.proofs.Kept.{both_kept}
use Rattle.sf_workers.proofs.sessions.Sessions.with.Goals as goal

pub invariant_of-result : goal.invariant_of-result
invariant_of-result g c =
    let keeps = c.args.self.keeps in
    let theirs = subst (λ (k : Bool). map calls_in_transcript c.args.other.transcripts.items ≡ kept_transcripts k c.args.other.visits.items) c.requires c.args.other.kept in
    let both = both_kept keeps c.args.self.transcripts.items c.args.other.transcripts.items c.args.self.visits.items c.args.other.visits.items c.args.self.kept theirs in
    record {
      kept = ap (λ (ts : List Transcript). map calls_in_transcript ts) c.in_ok-append-2.ensures.items ∙ both
          ∙ sym (ap (kept_transcripts keeps) c.in_ok-append.ensures.items);
    }
