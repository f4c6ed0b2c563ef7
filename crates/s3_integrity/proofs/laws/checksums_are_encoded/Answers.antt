use Rattle.s3_integrity.proofs.LawLemmas.{checksums_encoded, checksums_met, sums_read}
use Rattle.s3_integrity.proofs.laws.checksums_are_encoded.Goals as goal

pub returns-clause-encoded : goal.returns-clause-encoded
returns-clause-encoded c = checksums_encoded

pub returns-clause-met : goal.returns-clause-met
returns-clause-met c = checksums_met

pub returns-clause-read : goal.returns-clause-read
returns-clause-read c = sums_read
