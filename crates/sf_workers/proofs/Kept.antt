-- What transcripts have of the sessions of two workers, one behind the other.
use Rattle.std.proofs.Common.{◌≡◌, ℕ, List, ◌++◌, refl, sym, ap, ◌∙◌}
use Rattle.std.proofs.lemmas.List.{map-append}
use Rattle.std.specs.Prelude.{map, Bool, true, false}
use Rattle.sf_audit.specs.declared.transcript.Transcript.{Transcript}
use Rattle.sf_audit.specs.Audits.{CallRecord}
use Rattle.sf_noted.specs.Pages.{Page}
use Rattle.sf_workers.specs.Sessions.{calls_on_page, calls_in_transcript, kept_transcripts}

kept_append : (keeps : Bool) (xs ys : List (ℕ × Page)) → kept_transcripts keeps (xs ++ ys) ≡ kept_transcripts keeps xs ++ kept_transcripts keeps ys
kept_append true xs ys = map-append calls_on_page xs ys
kept_append false xs ys = refl

pub both_kept : (keeps : Bool) (ts us : List Transcript) (xs ys : List (ℕ × Page)) → map calls_in_transcript ts ≡ kept_transcripts keeps xs → map calls_in_transcript us ≡ kept_transcripts keeps ys → map calls_in_transcript (ts ++ us) ≡ kept_transcripts keeps (xs ++ ys)
both_kept keeps ts us xs ys one other =
    map-append calls_in_transcript ts us
    ∙ ap (λ (l : List (ℕ × List CallRecord)). l ++ map calls_in_transcript us) one
    ∙ ap (λ (l : List (ℕ × List CallRecord)). kept_transcripts keeps xs ++ l) other
    ∙ sym (kept_append keeps xs ys)
