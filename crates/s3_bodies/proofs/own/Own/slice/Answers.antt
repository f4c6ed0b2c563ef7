use Rattle.s3_bodies.proofs.PartLemmas.{part_of_part}
use Rattle.s3_bodies.proofs.own.Own.slice.Goals as goal

pub returns : goal.returns
returns c = part_of_part _ _ _ _ c.self.invariant c.self.view_is c.args.from c.args.size c.requires
