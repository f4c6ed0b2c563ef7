use Rattle.s3_catalogue_laws.proofs.IdLemmas.{versions_are_told_once, uploads_are_told_once, old_ids_name_one_version, new_ids_name_none, runs_stay_below, old_ids_name_one_upload, new_ids_name_no_upload, uploads_stay_below}
use Rattle.s3_catalogue_laws.proofs.ids.ids_are_given_once.Goals as goal

pub returns-clause-versions : goal.returns-clause-versions
returns-clause-versions g c = versions_are_told_once

pub returns-clause-uploads : goal.returns-clause-uploads
returns-clause-uploads g c = uploads_are_told_once c.uploads_are_listed.ensures.follow

pub returns-clause-old : goal.returns-clause-old
returns-clause-old g c = old_ids_name_one_version c.changes_are_by_place.ensures.places

pub returns-clause-new : goal.returns-clause-new
returns-clause-new g c = new_ids_name_none

pub returns-clause-below : goal.returns-clause-below
returns-clause-below g c = runs_stay_below c.numbers_stay_below.ensures.stay

pub returns-clause-begun : goal.returns-clause-begun
returns-clause-begun g c = old_ids_name_one_upload c.changes_are_by_upload.ensures

pub returns-clause-unbegun : goal.returns-clause-unbegun
returns-clause-unbegun g c = new_ids_name_no_upload

pub returns-clause-uploads_below : goal.returns-clause-uploads_below
returns-clause-uploads_below g c = uploads_stay_below c.changes_are_by_upload.ensures
