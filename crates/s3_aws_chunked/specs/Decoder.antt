-- How a reader goes on, byte by byte.
-- Nobody has to believe the definitions of this file: what they come to, the verdict on the bytes, is a law.
use Rattle.std.specs.Prelude.{◌≡◌, ℕ, ◌+◌, ◌-◌, ◌<◌, Bool, true, false, not, ◌==◌, nat_lt, if◌then◌else◌, List, [], ◌∷◌, ◌++◌, slice_set, replicate, length, take, ◌&&◌, ◌||◌, Option, Some, None}
use Rattle.std.specs.Str.{bytes_eq}
use Rattle.sha2.specs.Sha256.{sha256}
use Rattle.sha2.specs.Hashers.{Holds256}
use Rattle.s3_terms.specs.declared.code.Code.{Code}
use Rattle.s3_terms.specs.declared.code.Code.TheVariants.{InvalidRequest, SignatureDoesNotMatch, IncompleteBody}
use Rattle.s3_signing.specs.Chain.{linked, next_signature}
use Rattle.s3_aws_chunked.specs.Count.{advanced}
use Rattle.s3_aws_chunked.specs.Phase.{read}
use Rattle.s3_aws_chunked.specs.Verdict.{Terms}
use Rattle.s3_aws_chunked.specs.declared.place.Place.{Place}
use Rattle.s3_aws_chunked.specs.declared.phase.Phase.{Phase}
use Rattle.s3_aws_chunked.specs.declared.phase.Phase.TheVariants.{Size, Line, Data, Ending, Over, Refused}
use Rattle.s3_aws_chunked.specs.declared.phase.Fault.{Fault}
use Rattle.s3_aws_chunked.specs.declared.phase.Fault.TheVariants.{Invalid, Forged, Incomplete}
use Rattle.s3_aws_chunked.specs.declared.phase.Event.{Event}
use Rattle.s3_aws_chunked.specs.declared.phase.Event.TheVariants.{Misspelled, Moves, Signs, Opens, Closes}
use Rattle.s3_aws_chunked.specs.declared.decoder.Decoder.{Decoder}

-- the code of a fault
abbrev pub code_of : Fault → Code
code_of Invalid = InvalidRequest
code_of Forged = SignatureDoesNotMatch
code_of Incomplete = IncompleteBody

-- the fault, where it refused
abbrev pub fault_at : Phase → Option Fault
fault_at (Refused fault) = Some fault
fault_at Over = None
fault_at (Size digits) = None
fault_at (Line place size) = None
fault_at (Data left last) = None
fault_at (Ending last) = None

-- nothing more is read
abbrev pub is_settled : Phase → Bool
is_settled Over = true
is_settled (Refused fault) = true
is_settled (Size digits) = false
is_settled (Line place size) = false
is_settled (Data left last) = false
is_settled (Ending last) = false

-- data of a chunk is to come
abbrev pub is_data : Phase → Bool
is_data (Data left last) = nat_lt 0 left
is_data (Size digits) = false
is_data (Line place size) = false
is_data (Ending last) = false
is_data Over = false
is_data (Refused fault) = false

-- the first line of the last chunk has come
abbrev pub is_at_end : Phase → Bool
is_at_end (Data left last) = last
is_at_end (Size digits) = false
is_at_end (Line place size) = false
is_at_end (Ending last) = false
is_at_end Over = false
is_at_end (Refused fault) = false

abbrev pub moved : Place → Phase → Place
moved place phase = record place { phase = phase }

abbrev pub refused : Place → Fault → Place
refused place fault = moved place (Refused fault)

-- a first line has ended
unfoldable pub opened : Place → ℕ → Place
opened place size =
    if nat_lt place.left size then refused place Invalid
    else record place { left = place.left - size; phase = Data size (size == 0) }

-- the chunk's signature is right
abbrev pub passed : Place → Bool → Place
passed place last =
    if not last then moved place (Size (0, 0))
    else if nat_lt 0 place.left then refused place Incomplete
    else if nat_lt place.span.taken place.span.whole then refused place Invalid
    else moved place Over

-- a chunk has ended, whose data has this hash
unfoldable pub closed : Place → Bool → List ℕ → Place
closed place last hash =
    let chained : Place = record place { chain = linked place.chain (next_signature place.chain hash) } in
    if bytes_eq place.signature (next_signature place.chain hash) then passed chained last
    else refused chained Forged

-- what a byte says that is no data, but the end of a chunk
unfoldable pub turned : Place → Event → ℕ → Place
turned place Misspelled byte = refused place Invalid
turned place (Moves phase) byte = moved place phase
turned place (Signs index size) byte =
    record place { signature = slice_set place.signature index byte; phase = Line (index + 18) size }
turned place (Opens size) byte = opened place size
turned place (Closes last) byte = place

-- and where it ends a chunk, whose data has this hash
abbrev pub closed_by : Place → Event → List ℕ → Place
closed_by place (Closes last) hash = closed place last hash
closed_by place Misspelled hash = place
closed_by place (Moves phase) hash = place
closed_by place (Signs index size) hash = place
closed_by place (Opens size) hash = place

-- so many more bytes have come
abbrev pub counted : Place → ℕ → Place
counted place more = record place { span = advanced place.span more }

-- all bytes of Content-Length have come, and no empty chunk has ended
unfoldable pub settled : Place → Place
settled place =
    if not (is_settled place.phase) && place.span.taken == place.span.whole then refused place Incomplete else place

-- how a reader stands, with the data of the chunk so far, and all data so far
pub record Progress : Type 0 where
  pub place : Place
  pub current : List ℕ
  pub held : List ℕ

-- the data of the chunk behind an event
abbrev pub current_after : Event → List ℕ → List ℕ
current_after (Closes last) current = []
current_after Misspelled current = current
current_after (Moves phase) current = current
current_after (Signs index size) current = current
current_after (Opens size) current = current

-- a byte that is no data has come
unfoldable pub byte_read : Progress → ℕ → Progress
byte_read p byte = record {
  place = settled (closed_by (turned (counted p.place 1) (read p.place.phase byte) byte) (read p.place.phase byte) (sha256 p.current));
  current = current_after (read p.place.phase byte) p.current;
  held = p.held;
}

-- so many bytes of the data are gone
abbrev pub data_left : Phase → ℕ → Phase
data_left (Data left last) count = Data (left - count) last
data_left (Size digits) count = Size digits
data_left (Line place size) count = Line place size
data_left (Ending last) count = Ending last
data_left Over count = Over
data_left (Refused fault) count = Refused fault

-- data of the chunk has come
unfoldable pub data_read : Progress → List ℕ → Progress
data_read p bytes = record {
  place = settled (moved (counted p.place (length bytes)) (data_left p.place.phase (length bytes)));
  current = p.current ++ bytes;
  held = p.held ++ bytes;
}

-- no byte is read any more
abbrev pub is_closed : Place → Bool
is_closed place = is_settled place.phase || not (nat_lt place.span.taken place.span.whole)

-- a byte has come
unfoldable pub stepped : Progress → ℕ → Progress
stepped p byte =
    if is_closed p.place then p
    else if is_data p.place.phase then data_read p (byte ∷ [])
    else byte_read p byte

-- nothing is read at a place: no byte, or at the front of a body no byte behind the first line of its last chunk
abbrev pub stops : Bool → Place → Bool
stops true place = is_closed place || is_at_end place.phase
stops false place = is_closed place

-- these bytes have come
abbrev pub run : Progress → List ℕ → Progress
run p [] = p
run p (byte ∷ bytes) = run (stepped p byte) bytes

-- the input has ended
abbrev pub stopped : Progress → Progress
stopped p = if is_settled p.place.phase then p else record p { place = refused p.place Incomplete }

-- nothing has come
abbrev pub started : Terms → Progress
started terms = record {
  place = settled (record {
    chain = terms.seed;
    span = record { taken = 0; whole = terms.encoded };
    left = terms.decoded;
    signature = replicate 64 48;
    phase = Size (0, 0);
  });
  current = [];
  held = [];
}

-- these bytes have come, and the end of the input where it has ended
abbrev pub progress_of : Terms → List ℕ → Bool → Progress
progress_of terms bytes true = stopped (run (started terms) bytes)
progress_of terms bytes false = run (started terms) bytes

-- the decoder is there
pub record Shows (decoder : Decoder) (p : Progress) : Type 0 where
  pub place : decoder.place ≡ p.place
  pub hash : Holds256 decoder.hash p.current

-- a sink that had these bytes, and got what the reader gave between these two, has those
abbrev pub Keeps : List ℕ → List ℕ → Progress → Progress → Type 0
Keeps old new before after = (front : List ℕ) → old ≡ front ++ before.held → new ≡ front ++ after.held

-- so many of these bytes stand before what follows the first line of the last chunk
abbrev pub StandBefore : Progress → List ℕ → ℕ → Type 0
StandBefore p bytes n = (m : ℕ) → m < n → is_at_end (run p (take m bytes)).place.phase ≡ false
