-- The names under which the lines so far are kept.
use Rattle.std.proofs.Common.{◌≡◌, take}
use Rattle.s3_requests.specs.Name.{texts}
use Rattle.s3_requests.proofs.DescriptionLemmas.{names_in}
use Rattle.s3_requests.proofs.description.names_sent.Given as goal

abbrev pub invariant-loop-index : goal.invariant-loop-index
invariant-loop-index l = texts l.names.items ≡ names_in l.dialect (take l.index l.head.headers)
