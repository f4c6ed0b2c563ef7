use Rattle.s3_machine.proofs.PageLemmas.{object_lists_are_told, version_lists_are_told, upload_lists_are_told, part_lists_are_told}
use Rattle.s3_machine.proofs.list_laws.lists_are_told.Goals as goal

pub returns : goal.returns
returns c = record {
  objects = object_lists_are_told;
  versions = version_lists_are_told;
  uploads = upload_lists_are_told;
  parts = part_lists_are_told;
}
