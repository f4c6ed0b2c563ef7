use Rattle.std.proofs.Common.{◌≡◌, map, take}
use Rattle.std.specs.List.{filter_map}
use Rattle.s3_request_documents.specs.Data.{seen}
use Rattle.s3_request_documents.specs.Completion.{listed_in}
use Rattle.s3_request_documents.proofs.completion.listed.Given as goal

-- the parts so far are listed
abbrev pub invariant-loop-part : goal.invariant-loop-part
invariant-loop-part l = l.listed.items ≡ filter_map listed_in (map seen (take l.part-index l.parts))
