-- The condition of a write, for the object that its key has (Amazon S3 API Reference, PutObject, CompleteMultipartUpload and
-- DeleteObject, `If-None-Match` and `If-Match`). Of each name the first line counts.
use Rattle.std.specs.Prelude.{ℕ, not, if◌then◌else◌, List, codes, Option, Some, None, is_some, Result, Ok, Err}
use Rattle.std.specs.Str.{bytes_eq}
use Rattle.s3_terms.specs.Fault.{refuse, ◌>>◌}
use Rattle.s3_terms.specs.declared.code.Code.{Code}
use Rattle.s3_terms.specs.declared.code.Code.TheVariants.{NotImplemented}
use Rattle.s3_terms.specs.declared.dialect.Dialect.{Dialect}
use Rattle.s3_http_heads.specs.Head.{HeadParts, first_value}
use Rattle.s3_names.specs.declared.ids.VersionId.{VersionId}
use Rattle.s3_machine.specs.declared.command.KeyCommand.{KeyCommand}
use Rattle.s3_machine.specs.declared.command.KeyCommand.TheVariants as key_commands
use Rattle.s3_machine.specs.declared.command.WriteCondition.{WriteCondition}
use Rattle.s3_machine.specs.declared.command.WriteCondition.TheVariants.{Unconditional, IfAbsent, IfMatch}
use Rattle.s3_requests.specs.Operations.{is_xml}

-- the tags one of which the object has to have: the If-Match line of a write, which counts where documents are XML alone
abbrev pub tags_wanted : Dialect → HeadParts → Option (List ℕ)
tags_wanted dialect head = if is_xml dialect then first_value (codes "if-match") head else None

-- what an If-None-Match line says: `*` wants no object, and this server has no other condition of that name
abbrev pub absence_said : List ℕ → Result WriteCondition Code
absence_said value = do
  refuse (not (bytes_eq value (codes "*"))) NotImplemented
  Ok IfAbsent

-- what an If-None-Match line and tags say together, of which one alone may be there
abbrev pub condition_said : Option (List ℕ) → Option (List ℕ) → Result WriteCondition Code
condition_said None None = Ok Unconditional
condition_said None (Some tags) = Ok (IfMatch tags)
condition_said (Some value) None = absence_said value
condition_said (Some value) (Some tags) = Err NotImplemented

-- the condition of a PutObject and of a CompleteMultipartUpload
unfoldable pub condition_of : Dialect → HeadParts → Result WriteCondition Code
condition_of dialect head = condition_said (first_value (codes "if-none-match") head) (tags_wanted dialect head)

-- the delete of this version, or of what is current; where there are tags, of the object alone, which has to have one of them
abbrev pub deletion_said : Option VersionId → Option (List ℕ) → Result KeyCommand Code
deletion_said version None = Ok (key_commands.Delete version)
deletion_said version (Some tags) = do
  refuse (is_some version) NotImplemented
  Ok (key_commands.DeleteMatching tags)
