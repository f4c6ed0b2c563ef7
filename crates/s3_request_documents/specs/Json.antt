-- The body of a request, as JSON (RFC 8259).
use Rattle.std.specs.Prelude.{ℕ, List, if◌then◌else◌, Option, None}
use Rattle.std.specs.Str.{is_utf8}
use Rattle.serde_json.specs.Data.{Data}
use Rattle.serde_json.specs.Read.{read}

-- the JSON that a body is, if it is UTF-8 and JSON
abbrev pub json_of : List ℕ → Option Data
json_of body = if is_utf8 body then read body else None
