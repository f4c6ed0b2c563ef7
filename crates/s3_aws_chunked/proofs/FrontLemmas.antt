-- The front of a body with a trailer: where its reader stands before the chunks are over.
use Rattle.std.proofs.Common.{◌≡◌, ℕ, Bool, true, false, not, ◌&&◌, ◌==◌, nat_lt, if◌then◌else◌, List, [], ◌∷◌, length, refl, Option, Some, None}
use Rattle.std.specs.Prelude.{slice_index}
use Rattle.std.specs.Str.{bytes_eq}
use Rattle.sha2.specs.Sha256.{sha256}
use Rattle.s3_text.specs.Characters.{is_lower_hex}
use Rattle.s3_signing.specs.Chain.{linked, next_signature}
use Rattle.s3_aws_chunked.specs.Chunk.{label}
use Rattle.s3_aws_chunked.specs.Count.{more_digits}
use Rattle.s3_aws_chunked.specs.Phase.{read, to_digits}
use Rattle.s3_aws_chunked.specs.Decoder.{Progress, byte_read, closed, closed_by, counted, data_left, data_read, is_at_end, is_closed, is_data, is_settled, moved, opened, passed, refused, settled, stepped, turned}
use Rattle.s3_aws_chunked.specs.declared.place.Place.{Place}
use Rattle.s3_aws_chunked.specs.declared.phase.Phase.{Phase}
use Rattle.s3_aws_chunked.specs.declared.phase.Fault.TheVariants.{Incomplete}
use Rattle.s3_aws_chunked.specs.declared.phase.Phase.TheVariants.{Size, Line, Data, Ending, Over, Refused}
use Rattle.s3_aws_chunked.specs.declared.phase.Event.{Event}
use Rattle.s3_aws_chunked.specs.declared.phase.Event.TheVariants.{Misspelled, Moves, Signs, Opens, Closes}
use Rattle.s3_aws_chunked.proofs.RunLemmas.{stepped_closed, step_byte, step_data}

-- not behind the first line of the last chunk
abbrev pub IsFront : Phase → Type 0
IsFront (Size digits) = Unit {0}
IsFront (Line place size) = Unit {0}
IsFront (Data left last) = last ≡ false
IsFront (Ending last) = last ≡ false
IsFront Over = ⊥
IsFront (Refused fault) = Unit {0}

-- at the front, or at its end
abbrev pub MayEnd : Phase → Type 0
MayEnd phase = is_at_end phase ≡ false → IsFront phase

front_between : (phase : Phase) → IsFront phase → MayEnd phase
front_between phase front open' = front

-- an event at the front
abbrev pub IsFrontEvent : Event → Type 0
IsFrontEvent Misspelled = Unit {0}
IsFrontEvent (Moves phase) = IsFront phase
IsFrontEvent (Signs index size) = Unit {0}
IsFrontEvent (Opens size) = Unit {0}
IsFrontEvent (Closes last) = last ≡ false

event_if : (test : Bool) (one other : Event) → IsFrontEvent one → IsFrontEvent other → IsFrontEvent (if test then one else other)
event_if true one other x y = x
event_if false one other x y = y

event_digits : (digits : Option (ℕ × ℕ)) → IsFrontEvent (to_digits digits)
event_digits None = tt
event_digits (Some digits) = tt

event_read : (phase : Phase) (byte : ℕ) → IsFront phase → IsFrontEvent (read phase byte)
unfolding read
event_read (Size digits) byte front = event_if (byte == 59 && nat_lt 0 digits.0) _ _ tt (event_digits (more_digits digits byte))
event_read (Line place size) byte front =
    event_if (nat_lt place 17 && byte == slice_index label place) _ _ tt
    (event_if (nat_lt 16 place && nat_lt place 81 && is_lower_hex byte) _ _ tt
    (event_if (place == 81 && byte == 13) _ _ tt
    (event_if (place == 82 && byte == 10) _ _ tt tt)))
event_read (Data left last) byte front = event_if (byte == 13) _ _ front tt
event_read (Ending last) byte front = event_if (byte == 10) _ _ front tt
event_read Over byte front = tt
event_read (Refused fault) byte front = tt

may_if : (test : Bool) (one other : Place) → MayEnd one.phase → MayEnd other.phase → MayEnd (if test then one else other).phase
may_if true one other x y = x
may_if false one other x y = y

may_settled : (place : Place) → MayEnd place.phase → MayEnd (settled place).phase
unfolding settled
may_settled place may = may_if (not (is_settled place.phase) && place.span.taken == place.span.whole) _ _ (λ open'. tt) may

may_opened : (place : Place) (size : ℕ) → MayEnd (opened place size).phase
unfolding opened
may_opened place size = may_if (nat_lt place.left size) _ _ (λ open'. tt) (λ open'. open')

may_passed : (place : Place) (last : Bool) → last ≡ false → MayEnd (passed place last).phase
may_passed place last is = rw is (λ open'. tt)

may_closed : (place : Place) (last : Bool) (hash : List ℕ) → last ≡ false → MayEnd (closed place last hash).phase
unfolding closed
may_closed place last hash is =
    may_if (bytes_eq place.signature (next_signature place.chain hash)) _ _
    (may_passed (record place { chain = linked place.chain (next_signature place.chain hash) }) last is)
    (λ open'. tt)

may_turned : (place : Place) (event : Event) (byte : ℕ) (hash : List ℕ) → IsFront place.phase → IsFrontEvent event → MayEnd (closed_by (turned place event byte) event hash).phase
unfolding turned
may_turned place Misspelled byte hash front is = λ open'. tt
may_turned place (Moves phase) byte hash front is = λ open'. is
may_turned place (Signs index size) byte hash front is = λ open'. tt
may_turned place (Opens size) byte hash front is = may_opened place size
may_turned place (Closes last) byte hash front is = may_closed place last hash is

may_byte : (p : Progress) (byte : ℕ) → IsFront p.place.phase → MayEnd (byte_read p byte).place.phase
unfolding byte_read
may_byte p byte front =
    may_settled _ (may_turned (counted p.place 1) (read p.place.phase byte) byte (sha256 p.current) front (event_read p.place.phase byte front))

front_left : (phase : Phase) (count : ℕ) → IsFront phase → IsFront (data_left phase count)
front_left (Size digits) count front = front
front_left (Line place size) count front = front
front_left (Data left last) count front = front
front_left (Ending last) count front = front
front_left Over count front = front
front_left (Refused fault) count front = front

may_data : (p : Progress) (bytes : List ℕ) → IsFront p.place.phase → MayEnd (data_read p bytes).place.phase
unfolding data_read
may_data p bytes front = may_settled _ (λ open'. front_left p.place.phase _ front)

may_step_as : (p : Progress) (byte : ℕ) (shut inside : Bool) → is_closed p.place ≡ shut → is_data p.place.phase ≡ inside → IsFront p.place.phase → MayEnd (stepped p byte).place.phase
may_step_as p byte true inside h k front = rw (stepped_closed p byte h) (front_between p.place.phase front)
may_step_as p byte false true h k front = rw (step_data p byte h k) (may_data p (byte ∷ []) front)
may_step_as p byte false false h k front = rw (step_byte p byte h k) (may_byte p byte front)

-- a byte leaves the reader at the front of a body, but for the one that ends the first line of the last chunk
pub may_step : (p : Progress) (byte : ℕ) → IsFront p.place.phase → MayEnd (stepped p byte).place.phase
may_step p byte front = may_step_as p byte (is_closed p.place) (is_data p.place.phase) refl refl front

-- ---- data is no end

same_if : (test : Bool) (one other : Place) → is_at_end one.phase ≡ false → is_at_end other.phase ≡ false → is_at_end (if test then one else other).phase ≡ false
same_if true one other x y = x
same_if false one other x y = y

left_between : (phase : Phase) (count : ℕ) → is_at_end phase ≡ false → is_at_end (data_left phase count) ≡ false
left_between (Size digits) count is = is
left_between (Line place size) count is = is
left_between (Data left last) count is = is
left_between (Ending last) count is = is
left_between Over count is = is
left_between (Refused fault) count is = is

pub data_between : (p : Progress) (bytes : List ℕ) → is_at_end p.place.phase ≡ false → is_at_end (data_read p bytes).place.phase ≡ false
unfolding data_read settled
data_between p bytes is =
    let place = moved (counted p.place (length bytes)) (data_left p.place.phase (length bytes)) in
    same_if (not (is_settled place.phase) && place.span.taken == place.span.whole) (refused place Incomplete) place refl (left_between p.place.phase (length bytes) is)
