use Rattle.std.proofs.Common.{◌≡◌, ◌+◌, ap}
use Rattle.s3_block_file.proofs.PieceLemmas.{stays_apart, begun_if_ok, whole_if_ok}
use Rattle.s3_block_file.proofs.block_file.BlockFile.put.Goals as goal

pub returns-clause-more : goal.returns-clause-more
returns-clause-more g c =
    begun_if_ok _ _ _ c.args.extent c.args.from _ (ap (λ n. n + c.args.from) c.offset.ensures) c.write.ensures.others c.write.result c.write.ensures.written

pub returns-clause-whole : goal.returns-clause-whole
returns-clause-whole g c =
    whole_if_ok _ _ _ c.args.extent c.args.from _ (ap (λ n. n + c.args.from) c.offset.ensures) c.write.ensures.others c.write.result c.requires.some c.write.ensures.written

pub returns-clause-stay : goal.returns-clause-stay
returns-clause-stay g c x bytes apart stores =
    stays_apart _ _ bytes x c.args.extent c.args.from _ _ (ap (λ n. n + c.args.from) c.offset.ensures) c.requires.inside c.requires.some apart c.write.ensures.others stores

pub returns-clause-survive : goal.returns-clause-survive
returns-clause-survive g c x bytes apart survives left leaves =
    let was = c.write.ensures.crash left leaves in
    stays_apart _ _ bytes x c.args.extent c.args.from _ _ (ap (λ n. n + c.args.from) c.offset.ensures) c.requires.inside c.requires.some apart was.2 (survives was.0 was.1)
