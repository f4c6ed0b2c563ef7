use Rattle.std.proofs.Common.{take}
use Rattle.md5.specs.Md5.{Holds}
use Rattle.s3_uploads.proofs.CompletionLemmas.{parts_of, digests_of}
use Rattle.s3_uploads.proofs.completion.joined_tag.Given as goal

-- the digests of the parts so far are hashed
abbrev pub invariant-loop-part : goal.invariant-loop-part
invariant-loop-part g l = Holds l.digests (digests_of (parts_of (take l.part-index l.parts)))
