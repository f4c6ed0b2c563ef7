use Rattle.std.proofs.Common.{sym, ap, ◌∙◌}
use Rattle.s3_unsigned_chunks.specs.Reading.{Reading, code_at}
use Rattle.s3_unsigned_chunks.specs.Verdict.{verdict_in}
use Rattle.s3_unsigned_chunks.proofs.FinalLemmas.{reading_counts, reading_within}
use Rattle.s3_unsigned_chunks.proofs.ReaderLemmas.{unfailed}
use Rattle.s3_unsigned_chunks.proofs.laws.readers_judge.Goals as goal

pub returns-clause-verdict : goal.returns-clause-verdict
returns-clause-verdict c = λ reader terms bytes ended held stands. ap verdict_in stands.shows

pub returns-clause-count : goal.returns-clause-count
returns-clause-count c = λ reader terms bytes ended held stands none.
    ap (λ (q : Reading). q.taken) stands.shows
    ∙ reading_counts terms bytes ended
    (ap (λ (q : Reading). code_at q.place) (sym stands.shows) ∙ unfailed reader.lost reader.standing.place stands.kept none)

pub returns-clause-within : goal.returns-clause-within
returns-clause-within c = λ reader terms bytes ended held stands.
    rw (ap (λ (q : Reading). q.taken) stands.shows) (reading_within terms bytes ended)
