use Rattle.std.proofs.Common.{◌≡◌, ◌∙◌, ap, get_or, take, [], ◌∷◌}
use Rattle.std.proofs.lemmas.List.{take_more}
use Rattle.s3_aws_chunked.specs.Decoder.{Progress}
use Rattle.s3_aws_chunked.proofs.RunLemmas.{first_byte, byte_held}
use Rattle.s3_aws_chunked.proofs.BeforeLemmas.{before_first}
use Rattle.s3_aws_chunked.proofs.decoder.Decoder.step_byte.Goals as goal

pub returns-clause-shows : goal.returns-clause-shows
returns-clause-shows c = λ p shown.
    let bytes = c.args.bytes.now in
    let first : take 1 bytes ≡ get_or bytes 0 0 ∷ [] = take_more bytes 0 0 c.requires.some in
    rw (first_byte c.args.self.now.place p bytes (get_or bytes 0 0) shown.place c.requires.open c.requires.phase first)
    (c.take_byte.ensures.shows p shown)

pub returns-clause-held : goal.returns-clause-held
returns-clause-held c = λ p shown.
    let bytes = c.args.bytes.now in
    let first : take 1 bytes ≡ get_or bytes 0 0 ∷ [] = take_more bytes 0 0 c.requires.some in
    ap (λ (q : Progress). q.held) (first_byte c.args.self.now.place p bytes (get_or bytes 0 0) shown.place c.requires.open c.requires.phase first)
    ∙ byte_held p (get_or bytes 0 0)

pub returns-clause-before : goal.returns-clause-before
returns-clause-before c = λ open' p shown. before_first c.args.self.now.place p c.args.bytes.now shown.place open'
