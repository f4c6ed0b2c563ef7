use Rattle.s3_records.proofs.PlaceLemmas.{changes_are_by_place}
use Rattle.s3_records.proofs.laws.changes_are_by_place.Goals as goal

pub returns : goal.returns
returns g c = record { places = changes_are_by_place c.one_id_changes.ensures.changes }
