use Rattle.std.proofs.Common.{◌∙◌}
use Rattle.s3_records.proofs.UploadListingLemmas.{nothing_above}
use Rattle.s3_records.proofs.uploads.UploadMap.ids_behind.Goals as goal

-- where the key has no uploads
pub returns-in-None-clause-value : goal.returns-in-None-clause-value
returns-in-None-clause-value c = c.new.ensures.items ∙ nothing_above c.args.most c.args.key.now c.args.id _ c.in-None.ensures
