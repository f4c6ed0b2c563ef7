use Rattle.std.proofs.Common.{◌++◌, sym, ap, ◌∙◌}
use Rattle.s3_transfer_chunks.specs.Decoder.{reading_in}
use Rattle.s3_transfer_chunks.proofs.RunLemmas.{count_data, front_of_data}
use Rattle.s3_transfer_chunks.proofs.SinkLemmas.{got_by}
use Rattle.s3_transfer_chunks.proofs.steps.step_data.Goals as goal

pub returns-clause-value : goal.returns-clause-value
returns-clause-value g c = λ held.
    ap (λ more. reading_in c.take_data.new.self (held ++ more)) (got_by _ _ _ c.in_ok-take_data.ensures.sink)
    ∙ c.in_ok-take_data.ensures.value held
    ∙ sym
    (front_of_data (reading_in c.args.standing.now held) c.args.left c.data_there-count.result c.args.bytes.now c.requires.place
    (c.data_there-count.ensures.some c.requires.left c.requires.some) c.data_there-count.ensures.there c.data_there-count.ensures.left)

pub returns-clause-reads : goal.returns-clause-reads
returns-clause-reads g c = λ held.
    count_data (reading_in c.args.standing.now held) c.args.left c.data_there-count.result c.args.bytes.now c.requires.place
    (c.data_there-count.ensures.some c.requires.left c.requires.some) c.data_there-count.ensures.there c.data_there-count.ensures.left
