use Rattle.std.proofs.Common.{◌≡◌, ◌∙◌, sym, get_or, take, [], ◌∷◌}
use Rattle.std.proofs.lemmas.List.{take_more}
use Rattle.s3_transfer_chunks.specs.Decoder.{reading_in}
use Rattle.s3_transfer_chunks.proofs.RunLemmas.{count_first, first_byte}
use Rattle.s3_transfer_chunks.proofs.steps.step_byte.Goals as goal

pub returns-clause-value : goal.returns-clause-value
returns-clause-value c = λ held.
    let bytes = c.args.bytes.now in
    let first : take 1 bytes ≡ get_or bytes 0 0 ∷ [] = take_more bytes 0 0 c.requires.some in
    c.take_byte.ensures held
    ∙ sym (first_byte (reading_in c.args.standing.now held) bytes (get_or bytes 0 0) c.requires.open c.requires.place first)

pub returns-clause-reads : goal.returns-clause-reads
returns-clause-reads c = λ held.
    let bytes = c.args.bytes.now in
    let first : take 1 bytes ≡ get_or bytes 0 0 ∷ [] = take_more bytes 0 0 c.requires.some in
    count_first (reading_in c.args.standing.now held) bytes (get_or bytes 0 0) c.requires.open first
