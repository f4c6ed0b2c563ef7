use Rattle.std.proofs.Common.{◌≡◌, ◌∙◌, sym, get_or, take, [], ◌∷◌}
use Rattle.std.proofs.lemmas.List.{take_more}
use Rattle.s3_unsigned_chunks.specs.Reading.{Terms}
use Rattle.s3_unsigned_chunks.specs.Reader.{reading_in}
use Rattle.s3_unsigned_chunks.proofs.RunLemmas.{first_byte}
use Rattle.s3_unsigned_chunks.proofs.decoder.step_byte.Goals as goal

pub returns-clause-value : goal.returns-clause-value
returns-clause-value c = λ decoded held.
    let bytes = c.args.bytes.now in
    let first : take 1 bytes ≡ get_or bytes 0 0 ∷ [] = take_more bytes 0 0 c.requires.some in
    let terms : Terms = record { name = c.args.name.now; encoded = c.args.encoded; decoded = decoded } in
    c.take_byte.ensures.value held
    ∙ sym (first_byte terms (reading_in c.args.standing.now held) bytes (get_or bytes 0 0) c.requires.open c.requires.place first)
