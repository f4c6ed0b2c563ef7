use Rattle.std.proofs.Common.{sym, subst}
use Rattle.s3_keepers.specs.Sound.{IsSoundCatalogue}
use Rattle.s3_file_records.proofs.opening.make_missing.Goals as goal

-- a commit leaves the catalogue as it is
pub returns-in-Ok-clause-sound : goal.returns-in-Ok-clause-sound
returns-in-Ok-clause-sound g c = λ number is. subst (λ found. IsSoundCatalogue found number) (sym c.commit.ensures.same) (c.add_missing.ensures.sound number is)

pub returns-in-Err-NoMemory-clause-sound : goal.returns-in-Err-NoMemory-clause-sound
returns-in-Err-NoMemory-clause-sound g c = λ number is. subst (λ found. IsSoundCatalogue found number) (sym c.commit.ensures.same) (c.add_missing.ensures.sound number is)

pub returns-in-Err-Failed-clause-sound : goal.returns-in-Err-Failed-clause-sound
returns-in-Err-Failed-clause-sound g c = λ number is. subst (λ found. IsSoundCatalogue found number) (sym c.commit.ensures.same) (c.add_missing.ensures.sound number is)
