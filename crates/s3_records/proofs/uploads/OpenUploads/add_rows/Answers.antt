use Rattle.std.proofs.Common.{sym, ap, ◌∙◌}
use Rattle.std.specs.Cmp.{nat_cmp_total}
use Rattle.std.specs.FinMap as map
use Rattle.s3_records.proofs.OrderedLemmas.{entries_are}
use Rattle.s3_records.proofs.UploadListingLemmas.{rows_of_all}
use Rattle.s3_records.proofs.uploads.OpenUploads.add_rows.Goals as goal

pub returns-clause-ok : goal.returns-clause-ok
returns-clause-ok c =
    let es = c.self.inside.by_id.entries in
    let made = sym (entries_are nat_cmp_total map.nat_cmp-IsAntisymmetric es c.add_ids.ensures.rising) ∙ ap map.entries c.self.view_is in
    rw (sym (rows_of_all c.args.key.now es c.args.self.now made)) c.add_ids.ensures.ok

pub returns-clause-memory : goal.returns-clause-memory
returns-clause-memory c =
    let es = c.self.inside.by_id.entries in
    let made = sym (entries_are nat_cmp_total map.nat_cmp-IsAntisymmetric es c.add_ids.ensures.rising) ∙ ap map.entries c.self.view_is in
    rw (sym (rows_of_all c.args.key.now es c.args.self.now made)) c.add_ids.ensures.memory
