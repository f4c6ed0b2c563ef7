-- The keys of a bucket and their versions, in the order in which lists tell them: by key in the order of bytes, and of one
-- key the newest version first (Amazon S3 API Reference, ListObjectsV2 and ListObjectVersions).
use Rattle.std.specs.Prelude.{ℕ, Bool, true, false, if◌then◌else◌, List, [], ◌∷◌, filter, map as each, Option, Some, None, option_map}
use Rattle.std.specs.List.{flat_map, after_first}
use Rattle.std.specs.Ordering.{is_lt, is_le}
use Rattle.std.specs.FinMap as map
use Rattle.std.specs.Result.{result_ok}
use Rattle.std.specs.Str.{bytes_eq}
use Rattle.s3_text.specs.Order.{byte_order}
use Rattle.s3_names.specs.declared.ids.VersionId.{VersionId}
use Rattle.s3_versions.specs.declared.version.Data.{Data}
use Rattle.s3_versions.specs.declared.version.Version.{Version}
use Rattle.s3_versions.specs.Rules.{id_of, is_under, stored, pick, facts_of, facts_read}
use Rattle.s3_records.specs.Catalogue.{Bucket, Catalogue}
use Rattle.s3_records.specs.declared.rows.KeyRow.{KeyRow}
use Rattle.s3_records.specs.declared.rows.Start.{Start}
use Rattle.s3_records.specs.declared.rows.Start.TheVariants.{First, From, Behind}
use Rattle.s3_records.specs.declared.rows.VersionRow.{VersionRow}
use Rattle.s3_records.specs.declared.rows.VersionStart.{VersionStart}
use Rattle.s3_records.specs.declared.rows.VersionStart.TheVariants.{At, BehindVersion}

-- a key with its versions
abbrev pub Held : Type 0 → Type 0
Held B = List ℕ × List (Version B)

-- the keys of a bucket with their versions, in the order of bytes; none where there is no such bucket
abbrev pub held_in : {B : Type 0} → Option (Bucket B) → List (Held B)
held_in None = []
held_in (Some b) = map.entries b.keys

abbrev pub held_of : {B : Type 0} → Catalogue B → List ℕ → List (Held B)
held_of c name = held_in (map.get c name)

-- what a list tells of a key: what is known of the version that a read of it picks
abbrev pub key_row : {B : Type 0} → Held B → KeyRow
key_row e = record { key = e.0; facts = result_ok (facts_read (pick None e.1)) }

abbrev pub key_rows : {B : Type 0} → Catalogue B → List ℕ → List KeyRow
key_rows c name = each key_row (held_of c name)

-- a key stands where a list begins, or behind that
abbrev pub is_from : Start → List ℕ → Bool
is_from First key = true
is_from (From first) key = is_le (byte_order first key)
is_from (Behind last) key = is_lt (byte_order last key)

-- the keys from a place on
abbrev pub keys_from : {B : Type 0} → Catalogue B → List ℕ → Start → List KeyRow
keys_from c name start = filter (λ row. is_from start row.key) (key_rows c name)

-- what a list tells of a version
abbrev pub version_row : {B : Type 0} → List ℕ → Bool → Version B → VersionRow
version_row {B} key is_latest v =
    record {
      key = key;
      id = id_of v;
      is_latest = is_latest;
      moment = v.moment;
      facts = option_map (λ (what : Data B). facts_of (v, what)) (stored v);
    }

-- and of all versions under a key, of which the first is the current one
abbrev pub rows_under : {B : Type 0} → List ℕ → List (Version B) → List VersionRow
rows_under key [] = []
rows_under key (v ∷ vs) = version_row key true v ∷ each (version_row key false) vs

abbrev pub rows_of : {B : Type 0} → Held B → List VersionRow
rows_of e = rows_under e.0 e.1

abbrev pub version_rows : {B : Type 0} → Catalogue B → List ℕ → List VersionRow
version_rows c name = flat_map rows_of (held_of c name)

-- the versions behind the one of an id; none where there is none of it
abbrev pub behind_version : {B : Type 0} → VersionId → List (Version B) → List (Version B)
behind_version id vs = after_first (is_under id) vs

-- the rows under a key that is there: behind the version of an id, none of which is the current one
abbrev pub rows_behind : {B : Type 0} → VersionId → Held B → List VersionRow
rows_behind id e = each (version_row e.0 false) (behind_version id e.1)

-- the rows under a key, from a place on
abbrev pub rows_at : {B : Type 0} → VersionStart → Held B → List VersionRow
rows_at (At start) e = if is_from start e.0 then rows_of e else []
rows_at (BehindVersion key id) e =
    if bytes_eq e.0 key then rows_behind id e else if is_lt (byte_order key e.0) then rows_of e else []

-- the versions from a place on
abbrev pub versions_from : {B : Type 0} → Catalogue B → List ℕ → VersionStart → List VersionRow
versions_from c name start = flat_map (rows_at start) (held_of c name)
