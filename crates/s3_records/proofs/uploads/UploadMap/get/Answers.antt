use Rattle.std.proofs.Common.{sym, ap, ◌∙◌}
use Rattle.std.specs.FinMap as map
use Rattle.std.specs.Ordering.{nat_cmp}
use Rattle.s3_records.specs.OpenUploads.{found_uploads}
use Rattle.s3_records.proofs.uploads.UploadMap.get.Goals as goal

-- where the key has no uploads
pub returns-in-None : goal.returns-in-None
returns-in-None c = sym (map.get-empty nat_cmp c.args.id) ∙ ap (λ found. map.get (found_uploads found) c.args.id) c.in-None.ensures
