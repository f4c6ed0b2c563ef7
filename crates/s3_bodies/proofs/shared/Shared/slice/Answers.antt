use Rattle.std.proofs.Common.{arith}
use Rattle.s3_bodies.proofs.PartLemmas.{part_of_part, within_part, place_fits}
use Rattle.s3_bodies.proofs.shared.Shared.slice.Goals as goal

pub overflow_add-result : goal.overflow_add-result
overflow_add-result g c = record { fits = place_fits _ _ _ _ c.self.invariant c.self.view_is c.args.from (omega arith) }

pub invariant_of-result : goal.invariant_of-result
invariant_of-result g c = within_part _ _ _ _ c.self.invariant c.self.view_is c.args.from c.args.size c.requires

pub returns : goal.returns
returns g c = part_of_part _ _ _ _ c.self.invariant c.self.view_is c.args.from c.args.size c.requires
