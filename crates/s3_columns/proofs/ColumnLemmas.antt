-- Numbers of ids and of versionings.
use Rattle.std.proofs.Common.{◌≡◌, refl, sym, ap, ◌∙◌}
use Rattle.s3_names.specs.declared.ids.VersionId.{VersionId}
use Rattle.s3_names.specs.declared.ids.VersionId.TheVariants.{Null, Numbered}
use Rattle.s3_versions.specs.declared.version.Versioning.{Versioning}
use Rattle.s3_versions.specs.declared.version.Versioning.TheVariants.{Unversioned, Enabled, Suspended}
use Rattle.s3_columns.specs.Columns.{id_column, id_in, mode_column, versioning_in}

pub id_found : (id : VersionId) → id_in (id_column id) ≡ id
id_found Null = refl
id_found (Numbered n) = refl

pub ids_apart : (id other : VersionId) → id_column id ≡ id_column other → id ≡ other
ids_apart id other same = sym (id_found id) ∙ ap id_in same ∙ id_found other

pub versioning_found : (versioning : Versioning) → versioning_in (mode_column versioning) ≡ versioning
versioning_found Unversioned = refl
versioning_found Enabled = refl
versioning_found Suspended = refl
