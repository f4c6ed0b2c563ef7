-- How std numbers uploads, so that they may stand in a finite map: each by its fields. Nothing here is about the server.
use Rattle.std.specs.Prelude.{ℕ, List, refl}
use Rattle.std.specs.Coded.{Coded, code_by, coded×, coded_ℕ, coded_list}
use Rattle.s3_versions.specs.Codes.{coded_bytes}
use Rattle.s3_versions.specs.Metadata.{Entry, coded_entry}
use Rattle.s3_uploads.specs.Codes.{coded_parts}
use Rattle.s3_uploads.specs.declared.part.Part.{Part}
use Rattle.s3_uploads.specs.declared.upload.Upload.{Upload}

-- an upload, as its moment, its media type, its metadata and its parts
abbrev pub coded_upload : {B : Type 0} → Coded B → Coded (Upload B)
coded_upload {B} body =
    code_by (ℕ × (List ℕ × (List Entry × List (ℕ × Part B))))
    (coded× coded_ℕ (coded× coded_bytes (coded× (coded_list coded_entry) (coded_parts body))))
    (λ u. (u.moment, (u.content_type, (u.metadata, u.parts))))
    (λ p. record { moment = p.0; content_type = p.1.0; metadata = p.1.1.0; parts = p.1.1.1 })
    (λ _. refl)
