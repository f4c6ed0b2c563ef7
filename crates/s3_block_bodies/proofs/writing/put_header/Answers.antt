use Rattle.std.proofs.Common.{refl, ap, ◌∙◌, [], length, arith}
use Rattle.std.proofs.lemmas.Result.{on_ok_weaker}
use Rattle.s3_block_file.specs.BlockFile.{disk_of}
use Rattle.s3_block_bodies.proofs.FileLemmas.{starts_none, starts_header}
use Rattle.s3_block_bodies.proofs.HeaderLemmas.{length-header}
use Rattle.s3_block_bodies.proofs.writing.put_header.Goals as goal

-- a header has 32 bytes
pub put-requires-clause-inside : goal.put-requires-clause-inside
put-requires-clause-inside g c =
    let size = ap length (c.as_slice.ensures.value ∙ c.in_ok-header.ensures) ∙ length-header c.of.result.size c.of.result.sum in
    (c.requires.addressable, omega (arith, size, c.requires.size))

pub put-requires-clause-some : goal.put-requires-clause-some
put-requires-clause-some g c = omega (arith, ap length (c.as_slice.ensures.value ∙ c.in_ok-header.ensures) ∙ length-header c.of.result.size c.of.result.sum)

pub returns-clause-begun : goal.returns-clause-begun
returns-clause-begun g c =
    on_ok_weaker c.put.result
    (λ more. starts_header (g.D.Disk.seen (disk_of c.put.new.self)) c.args.body.now c.as_slice.result.now c.args.extent c.of.result.size c.of.result.sum
    (c.as_slice.ensures.value ∙ c.in_ok-header.ensures) c.of.ensures.size c.of.ensures.sum
    (more [] refl (starts_none (g.D.Disk.seen (disk_of c.args.file.now)) c.args.extent)))
    c.put.ensures.more
