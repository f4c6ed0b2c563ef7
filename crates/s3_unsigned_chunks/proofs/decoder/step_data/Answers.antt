use Rattle.std.proofs.Common.{◌++◌, sym, ap, ◌∙◌}
use Rattle.s3_unsigned_chunks.specs.Reading.{Terms}
use Rattle.s3_unsigned_chunks.specs.Reader.{reading_in}
use Rattle.s3_unsigned_chunks.proofs.RunLemmas.{front_of_data}
use Rattle.s3_unsigned_chunks.proofs.SinkLemmas.{got_by}
use Rattle.s3_unsigned_chunks.proofs.decoder.step_data.Goals as goal

pub returns-clause-value : goal.returns-clause-value
returns-clause-value g c = λ name decoded held.
    let terms : Terms = record { name = name; encoded = c.args.encoded; decoded = decoded } in
    ap (λ more. reading_in c.take_data.new.self (held ++ more)) (got_by _ _ _ c.in_ok-take_data.ensures.sink)
    ∙ c.in_ok-take_data.ensures.value held
    ∙ sym
    (front_of_data terms (reading_in c.args.standing.now held) c.args.left c.data_there-count.result c.args.bytes.now c.requires.place
    (c.data_there-count.ensures.some c.requires.left c.requires.some c.requires.open) c.data_there-count.ensures.there c.data_there-count.ensures.left c.data_there-count.ensures.open)
