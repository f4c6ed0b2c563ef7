use Rattle.std.proofs.Common.{sym, ap, ◌∙◌}
use Rattle.s3_aws_chunked.specs.Decoder.{fault_at}
use Rattle.s3_aws_chunked.specs.Trailed.{reading_of}
use Rattle.s3_aws_chunked.specs.TrailedReader.{fault_of}
use Rattle.s3_aws_chunked.specs.declared.place.Place.{Place}
use Rattle.s3_aws_chunked.proofs.TrailedFinalLemmas.{reading_counts, reading_within}
use Rattle.s3_aws_chunked.proofs.TrailedReaderLemmas.{taken_shows, unfailed, verdict_shows}
use Rattle.s3_aws_chunked.proofs.trailed_laws.trailed_readers_judge.Goals as goal

pub returns-clause-verdict : goal.returns-clause-verdict
returns-clause-verdict c = verdict_shows

pub returns-clause-count : goal.returns-clause-count
returns-clause-count c = λ reader terms bytes ended held stands none.
    taken_shows reader.body (reading_of terms bytes ended) stands.shows
    ∙ reading_counts terms bytes ended
    (ap (λ (place : Place). fault_at place.phase) (sym stands.shows.chunks.place) ∙ unfailed reader.lost (fault_of reader) stands.kept none)

pub returns-clause-within : goal.returns-clause-within
returns-clause-within c = λ reader terms bytes ended held stands.
    rw (taken_shows reader.body (reading_of terms bytes ended) stands.shows) (reading_within terms bytes ended)
