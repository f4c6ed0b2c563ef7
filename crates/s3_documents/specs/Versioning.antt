-- The versioning of a bucket, as it is told (Amazon S3 API Reference, GetBucketVersioning).
use Rattle.std.specs.Prelude.{[], ◌∷◌, codes}
use Rattle.s3_versions.specs.declared.version.Versioning.{Versioning}
use Rattle.s3_versions.specs.declared.version.Versioning.TheVariants.{Unversioned, Enabled, Suspended}
use Rattle.s3_documents.specs.Tree.{text, Fields}

-- what the document of a GetBucketVersioning tells: no status where none was ever set
abbrev pub versioning_fields : Versioning → Fields
versioning_fields Unversioned = []
versioning_fields Enabled = (codes "Status", text (codes "Enabled")) ∷ []
versioning_fields Suspended = (codes "Status", text (codes "Suspended")) ∷ []
