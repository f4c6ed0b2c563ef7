-- The arguments of operations (Amazon S3 API Reference, GetObject): of a parameter the first occurrence counts.
use Rattle.std.specs.Prelude.{List, ℕ, Option, Some, None, option_map, ok_or, Result, Ok, Err}
use Rattle.s3_terms.specs.declared.code.Code.{Code}
use Rattle.s3_terms.specs.declared.code.Code.TheVariants.{InvalidArgument}
use Rattle.s3_names.specs.Ids.{version_id}
use Rattle.s3_names.specs.declared.ids.VersionId.{VersionId}
use Rattle.s3_http_heads.specs.Target.{TargetParts, first_parameter}

-- whatever is wrong with it, the argument is invalid
abbrev pub as_argument : {A E : Type 0} → Result A E → Result A Code
as_argument (Ok value) = Ok value
as_argument (Err fault) = Err InvalidArgument

-- the version whose id a text is
abbrev pub id_read : List ℕ → Result (Option VersionId) Code
id_read text = ok_or (option_map Some (version_id text)) InvalidArgument

-- the version that a parameter's value names, if it is there
abbrev pub version_named : Option (List ℕ) → Result (Option VersionId) Code
version_named None = Ok None
version_named (Some text) = id_read text

-- the version that the parameter of this name names, if it is there
unfoldable pub version_argument : List ℕ → TargetParts → Result (Option VersionId) Code
version_argument name target = version_named (first_parameter name target)
