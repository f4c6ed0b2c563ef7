use Rattle.std.proofs.Common.{◌≡◌, ap, arith, inl, inr, length}
use Rattle.std.proofs.lemmas.List.{nil_from_length}
use Rattle.s3_simulation.specs.Run.{each_moments}
use Rattle.s3_simulation.proofs.TrimLemmas.{trimmed_nothing}
use Rattle.s3_simulation.proofs.trimming.trim.Goals as goal

pub returns-then-is_empty-clause-trimmed : goal.returns-then-is_empty-clause-trimmed
returns-then-is_empty-clause-trimmed c =
    let count : length c.args.moments.now ≡ 0 = grind (arith, c.is_empty.ensures, c.if-is_empty.true) in
    trimmed_nothing c.args.config.now (each_moments c.args.moments.now) c.args.events.now c.new.result.items (c.nothing_is_sound.ensures c.args.config.now)
    (inl (ap each_moments (nil_from_length c.args.moments.now count))) c.new.ensures.items

pub returns-then-is_empty-2-clause-trimmed : goal.returns-then-is_empty-2-clause-trimmed
returns-then-is_empty-2-clause-trimmed c =
    let count : length c.args.events.now ≡ 0 = grind (arith, c.is_empty-2.ensures, c.if-is_empty-2.true) in
    trimmed_nothing c.args.config.now (each_moments c.args.moments.now) c.args.events.now c.new-then-is_empty-2.result.items (c.nothing_is_sound.ensures c.args.config.now)
    (inr (nil_from_length c.args.events.now count)) c.new-then-is_empty-2.ensures.items
