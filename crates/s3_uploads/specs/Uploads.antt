-- An upload (Amazon S3 API Reference, CreateMultipartUpload and UploadPart).
use Rattle.std.specs.Prelude.{ℕ}
use Rattle.s3_uploads.specs.declared.part.Part.{Part}
use Rattle.s3_uploads.specs.declared.upload.Upload.{Upload}
use Rattle.s3_uploads.specs.Parts.{part_put}

-- an upload to which a part was sent
abbrev pub with_part : {B : Type 0} → ℕ → Part B → Upload B → Upload B
with_part n part u =
    record {
      moment = u.moment;
      content_type = u.content_type;
      metadata = u.metadata;
      parts = part_put n part u.parts;
    }
