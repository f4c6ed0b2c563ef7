-- How std numbers versions, so that lists of them may stand in a finite map: each by its parts. Nothing here
-- is about the server.
use Rattle.std.specs.Prelude.{◌≡◌, ℕ, Bool, true, false, List, Option, Some, None, refl}
use Rattle.std.specs.Coded.{Coded, code_by, coded×, coded_ℕ, coded_bool, coded_list, coded_option}
use Rattle.s3_versions.specs.Metadata.{Entry, coded_entry}
use Rattle.s3_versions.specs.declared.version.Content.{Content}
use Rattle.s3_versions.specs.declared.version.Content.TheVariants.{DeleteMarker, Stored}
use Rattle.s3_versions.specs.declared.version.Data.{Data}
use Rattle.s3_versions.specs.declared.version.Version.{Version}
use Rattle.s3_versions.specs.declared.version.Versioning.{Versioning}
use Rattle.s3_versions.specs.declared.version.Versioning.TheVariants.{Unversioned, Enabled, Suspended}
use Rattle.s3_versions.specs.Rules.{stored_in}

-- a text, as its bytes
abbrev pub coded_bytes : Coded (List ℕ)
coded_bytes = coded_list coded_ℕ

-- what a put stored, as its tag, its media type, its metadata, its size and what stands for its bytes
abbrev pub coded_data : {B : Type 0} → Coded B → Coded (Data B)
coded_data {B} body =
    code_by (List ℕ × (List ℕ × (List Entry × (ℕ × B))))
    (coded× coded_bytes (coded× coded_bytes (coded× (coded_list coded_entry) (coded× coded_ℕ body))))
    (λ d. (d.tag, (d.content_type, (d.metadata, (d.size, d.body)))))
    (λ p. record { tag = p.0; content_type = p.1.0; metadata = p.1.1.0; size = p.1.1.1.0; body = p.1.1.1.1 })
    (λ _. refl)

-- what a version is, by what it stores
abbrev pub content_of : {B : Type 0} → Option (Data B) → Content B
content_of None = DeleteMarker
content_of (Some stored) = Stored stored

abbrev pub content_of-stored_in : {B : Type 0} (c : Content B) → content_of (stored_in c) ≡ c
content_of-stored_in DeleteMarker = refl
content_of-stored_in (Stored stored) = refl

abbrev pub coded_content : {B : Type 0} → Coded B → Coded (Content B)
coded_content {B} body = code_by (Option (Data B)) (coded_option (coded_data body)) stored_in content_of content_of-stored_in

-- a version, as whether it is `null`, its number, its moment and its content
abbrev pub coded_version : {B : Type 0} → Coded B → Coded (Version B)
coded_version {B} body =
    code_by (Bool × (ℕ × (ℕ × Content B))) (coded× coded_bool (coded× coded_ℕ (coded× coded_ℕ (coded_content body))))
    (λ v. (v.is_null, (v.number, (v.moment, v.content))))
    (λ p. record { is_null = p.0; number = p.1.0; moment = p.1.1.0; content = p.1.1.1 })
    (λ _. refl)

-- a bucket's versioning, as whether it is enabled, if it ever was
abbrev pub as_enabled : Versioning → Option Bool
as_enabled Unversioned = None
as_enabled Enabled = Some true
as_enabled Suspended = Some false

abbrev pub from_enabled : Option Bool → Versioning
from_enabled None = Unversioned
from_enabled (Some true) = Enabled
from_enabled (Some false) = Suspended

abbrev pub from_enabled-as_enabled : (v : Versioning) → from_enabled (as_enabled v) ≡ v
from_enabled-as_enabled Unversioned = refl
from_enabled-as_enabled Enabled = refl
from_enabled-as_enabled Suspended = refl

abbrev pub coded_versioning : Coded Versioning
coded_versioning = code_by (Option Bool) (coded_option coded_bool) as_enabled from_enabled from_enabled-as_enabled
