-- Numbers that stand for the id of a version and for the versioning of a bucket.
use Rattle.std.specs.Prelude.{◌<◌, ◌^◌, ℤ, pos, negsuc, zero, suc, ⊤}
use Rattle.s3_names.specs.declared.ids.VersionId.{VersionId}
use Rattle.s3_names.specs.declared.ids.VersionId.TheVariants.{Null, Numbered}
use Rattle.s3_versions.specs.declared.version.Versioning.{Versioning}
use Rattle.s3_versions.specs.declared.version.Versioning.TheVariants.{Unversioned, Enabled, Suspended}

-- the id of a version: -1 for `null`, and else its number
abbrev pub id_column : VersionId → ℤ
id_column Null = negsuc 0
id_column (Numbered number) = pos number

-- the id that a number stands for
abbrev pub id_in : ℤ → VersionId
id_in (pos number) = Numbered number
id_in (negsuc n) = Null

-- an id whose number is below 2 ^ 63
abbrev pub HasColumn : VersionId → Type 0
HasColumn Null = ⊤
HasColumn (Numbered number) = number < 2 ^ 63

-- the versioning of a bucket: 0 where it is unversioned, 1 where it is enabled and 2 where it is suspended
abbrev pub mode_column : Versioning → ℤ
mode_column Unversioned = pos 0
mode_column Enabled = pos 1
mode_column Suspended = pos 2

-- the versioning that a number stands for: unversioned where it stands for none
abbrev pub versioning_in : ℤ → Versioning
versioning_in (pos zero) = Unversioned
versioning_in (pos (suc zero)) = Enabled
versioning_in (pos (suc (suc zero))) = Suspended
versioning_in (pos (suc (suc (suc n)))) = Unversioned
versioning_in (negsuc n) = Unversioned
