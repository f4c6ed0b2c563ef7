-- What a read asks its reply to say of the object, in the place of what is kept with it (Amazon S3 API Reference, GetObject and
-- HeadObject, `response-content-type` and its like).
use Rattle.std.specs.Prelude.{ℕ, ◌==◌, if◌then◌else◌, List, [], ◌∷◌, length, codes, Option, Some, None, option_and_then, option_to_list, Result, Ok}
use Rattle.std.specs.List.{flat_map}
use Rattle.s3_terms.specs.declared.code.Code.{Code}
use Rattle.s3_terms.specs.declared.dialect.Dialect.{Dialect}
use Rattle.s3_terms.specs.declared.dialect.Dialect.TheVariants.{Json, S3}
use Rattle.s3_http_heads.specs.Target.{TargetParts, first_parameter}
use Rattle.s3_versions.specs.Metadata.{Entry}
use Rattle.s3_machine.specs.Overrides.{overrides}

-- the parameters, each with the header line that it sets
abbrev pub override_parameters : List (List ℕ × List ℕ)
override_parameters =
    (codes "response-cache-control", codes "cache-control")
    ∷ (codes "response-content-disposition", codes "content-disposition")
    ∷ (codes "response-content-encoding", codes "content-encoding")
    ∷ (codes "response-content-language", codes "content-language")
    ∷ (codes "response-content-type", codes "content-type")
    ∷ (codes "response-expires", codes "expires")
    ∷ []

-- the line of this name that a value sets; an empty one sets none
abbrev pub line_set : List ℕ → List ℕ → Option Entry
line_set name value = if length value == 0 then None else Some (record { name = name; value = value })

-- the line that a parameter sets, if it is sent
abbrev pub override_in : TargetParts → List ℕ × List ℕ → Option Entry
override_in target parameter = option_and_then (line_set parameter.1) (first_parameter parameter.0 target)

-- all lines that are set
abbrev pub overrides_sent : TargetParts → List Entry
overrides_sent target = flat_map (λ parameter. option_to_list (override_in target parameter)) override_parameters

-- what the reply is to say; where documents are JSON, what is kept
abbrev pub overrides_asked : Dialect → TargetParts → Result (List Entry) Code
overrides_asked Json target = Ok []
overrides_asked S3 target = overrides (overrides_sent target)
