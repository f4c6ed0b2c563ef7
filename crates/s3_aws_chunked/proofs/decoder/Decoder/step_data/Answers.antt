use Rattle.s3_aws_chunked.proofs.RunLemmas.{front_of_data, keeps_data}
use Rattle.s3_aws_chunked.proofs.BeforeLemmas.{data_before}
use Rattle.s3_aws_chunked.proofs.decoder.Decoder.step_data.Goals as goal

pub returns-clause-shows : goal.returns-clause-shows
returns-clause-shows g c = λ p shown.
    rw (front_of_data c.args.self.now.place p c.args.left c.data_there-count.result c.args.last c.args.bytes.now shown.place c.requires.phase
    (c.data_there-count.ensures.some c.requires.left c.requires.some c.requires.open) c.data_there-count.ensures.there c.data_there-count.ensures.left c.data_there-count.ensures.open)
    (c.in_ok-take_data.ensures.shows p shown)

pub returns-clause-sink : goal.returns-clause-sink
returns-clause-sink g c = λ p shown.
    keeps_data _ _ p _ _ c.in_ok-take_data.ensures.sink
    (front_of_data c.args.self.now.place p c.args.left c.data_there-count.result c.args.last c.args.bytes.now shown.place c.requires.phase
    (c.data_there-count.ensures.some c.requires.left c.requires.some c.requires.open) c.data_there-count.ensures.there c.data_there-count.ensures.left c.data_there-count.ensures.open)

pub returns-clause-before : goal.returns-clause-before
returns-clause-before g c = λ open' p shown.
    data_before c.args.self.now.place p c.args.left c.data_there-count.result c.args.last c.args.bytes.now shown.place c.requires.phase open'
    c.data_there-count.ensures.there c.data_there-count.ensures.left c.data_there-count.ensures.open
