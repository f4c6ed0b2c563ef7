use Rattle.std.proofs.Common.{ℕ, List, sym, ap, subst, ◌∙◌}
use Rattle.s3_aws_chunked.specs.Verdict.{Judges}
use Rattle.s3_aws_chunked.specs.Decoder.{fault_at, progress_of}
use Rattle.s3_aws_chunked.specs.Reader.{verdict_at}
use Rattle.s3_aws_chunked.specs.declared.place.Place.{Place}
use Rattle.s3_aws_chunked.proofs.JudgeLemmas.{progress_judges, progress_counts}
use Rattle.s3_aws_chunked.proofs.OpenLemmas.{progress_come}
use Rattle.s3_aws_chunked.proofs.ReaderLemmas.{unfailed}
use Rattle.s3_aws_chunked.proofs.laws.readers_judge.Goals as goal

pub returns-clause-verdict : goal.returns-clause-verdict
returns-clause-verdict c = λ reader terms bytes ended held stands.
    subst (λ (place : Place). Judges terms bytes ended (verdict_at place.phase place.span.taken held)) (sym stands.shows.place)
    (subst (λ (given : List ℕ). Judges terms bytes ended (verdict_at (progress_of terms bytes ended).place.phase (progress_of terms bytes ended).place.span.taken given)) (sym stands.given)
    (progress_judges terms bytes ended))

pub returns-clause-count : goal.returns-clause-count
returns-clause-count c = λ reader terms bytes ended held stands unfailed'.
    ap (λ (place : Place). place.span.taken) stands.shows.place
    ∙ progress_counts terms bytes ended
    (ap (λ (place : Place). fault_at place.phase) (sym stands.shows.place)
    ∙ unfailed reader.lost reader.decoder.place.phase stands.kept unfailed')

pub returns-clause-within : goal.returns-clause-within
returns-clause-within c = λ reader terms bytes ended held stands.
    rw (stands.shows.place) (progress_come terms bytes ended)
