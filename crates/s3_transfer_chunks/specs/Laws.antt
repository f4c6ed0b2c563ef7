-- What the clauses of the decoder come to: laws about every decoder.
use Rattle.std.specs.Prelude.{◌≡◌, ℕ, ◌<◌, ◌≤◌, ◌^◌, Bool, List, length}
use Rattle.s3_transfer_chunks.specs.Reading.{taken_in}
use Rattle.s3_transfer_chunks.specs.Verdict.{verdict_of}
use Rattle.s3_transfer_chunks.specs.Decoder.{Stands, taken_of, verdict_by}
use Rattle.s3_transfer_chunks.specs.declared.decoder.TransferDecoder.{TransferDecoder}

-- a decoder that stands after some bytes says of its body what they say, as long as a `u64` counts what was taken
abbrev pub DecodersJudge : Type 0
DecodersJudge =
    (decoder : TransferDecoder) (limit : ℕ) (bytes : List ℕ) (ended : Bool) (held : List ℕ)
    → Stands decoder limit bytes ended held → taken_in limit bytes < 2 ^ 64
    → verdict_by decoder held ≡ verdict_of limit bytes ended

-- it never has taken more than have come
abbrev pub DecodersStayWithin : Type 0
DecodersStayWithin =
    (decoder : TransferDecoder) (limit : ℕ) (bytes : List ℕ) (ended : Bool) (held : List ℕ)
    → Stands decoder limit bytes ended held → taken_of decoder ≤ length bytes
