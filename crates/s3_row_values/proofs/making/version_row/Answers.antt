use Rattle.std.proofs.Common.{◌≡◌, ap, ◌∙◌, rules, w64, to_z, of_z}
use Rattle.s3_columns.specs.Attributes.{content_type_in, metadata_in}
use Rattle.s3_columns.specs.Numbers.{numbers_in}
use Rattle.s3_rows.specs.Columns.{VersionColumns}
use Rattle.s3_stored_rows.specs.Changes.{version_columns}
use Rattle.s3_row_values.proofs.MakingLemmas.{version_row_is}
use Rattle.s3_row_values.proofs.making.version_row.Goals as goal

pub returns : goal.returns
returns c =
    let is = c.row_of.ensures in
    let row_is : to_z w64 (of_z w64 c.args.row) ≡ c.args.row = search rules in
    let place = c.in_ok-place.ensures in
    let content = c.in_ok-content.ensures in
    version_row_is (version_columns c.row_of.result) c.args.row c.args.bucket.now c.args.key.now c.args.versioning c.args.number c.args.moment c.args.described.now c.args.numbers.now
    (ap (λ (v : VersionColumns). v.row) is ∙ row_is)
    (ap (λ (v : VersionColumns). v.bucket) is ∙ place.bucket)
    (ap (λ (v : VersionColumns). v.key) is ∙ place.key)
    (ap (λ (v : VersionColumns). v.number) is ∙ place.number)
    (ap (λ (v : VersionColumns). v.id) is ∙ place.id)
    (ap (λ (v : VersionColumns). v.moment) is ∙ place.moment)
    (ap (λ (v : VersionColumns). v.marker) is ∙ content.marker)
    (ap (λ (v : VersionColumns). v.tag) is ∙ content.tag)
    (ap (λ (v : VersionColumns). content_type_in v.kept) is ∙ content.content_type)
    (ap (λ (v : VersionColumns). metadata_in v.kept) is ∙ content.metadata)
    (ap (λ (v : VersionColumns). v.size) is ∙ content.size)
    (ap (λ (v : VersionColumns). numbers_in v.bodies) is ∙ content.bodies)
