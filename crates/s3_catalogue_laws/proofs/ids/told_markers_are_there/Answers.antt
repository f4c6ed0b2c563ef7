use Rattle.s3_catalogue_laws.proofs.IdLemmas.{told_ids_are_of_markers}
use Rattle.s3_catalogue_laws.proofs.ids.told_markers_are_there.Goals as goal

pub returns : goal.returns
returns g c = told_ids_are_of_markers c.changes_are_by_place.ensures.places c.changes_follow_rules.ensures.rules
