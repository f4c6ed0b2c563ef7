-- How a body is read that is signed in chunks with a trailer behind them, byte by byte, and what is known of it then.
-- What this comes to for a whole body is a law, `trailed_bodies_are_accepted`.
use Rattle.std.specs.Prelude.{ℕ, ◌-◌, Bool, true, false, not, ◌&&◌, nat_lt, if◌then◌else◌, List, [], ◌∷◌, ◌++◌, length, Option, Some, None}
use Rattle.std.specs.Str.{bytes_eq}
use Rattle.sha2.specs.Sha256.{sha256}
use Rattle.s3_signing.specs.Chain.{linked, next_signature}
use Rattle.s3_unsigned_chunks.specs.Verdict.{Verdict, Refused, Accepted, Open}
use Rattle.s3_aws_chunked.specs.Verdict.{Terms}
use Rattle.s3_aws_chunked.specs.Trailer.{is_room, taken_with, trailer_fault, value_of_trailer}
use Rattle.s3_aws_chunked.specs.Decoder.{Progress, code_of, fault_at, is_at_end, moved, refused, started, stepped}
use Rattle.s3_aws_chunked.specs.declared.place.Place.{Place}
use Rattle.s3_aws_chunked.specs.declared.phase.Fault.{Fault}
use Rattle.s3_aws_chunked.specs.declared.phase.Fault.TheVariants.{Invalid, Forged, Incomplete}
use Rattle.s3_aws_chunked.specs.declared.phase.Phase.TheVariants as phases

-- what a head says of its body: the name of its trailer (`x-amz-trailer`), and what it says of the chunks
pub record TrailedTerms : Type 0 where
  pub name : List ℕ
  pub chunks : Terms

-- how it was read so far: the chunks, how long the trailer is, once they are over, and what has come of it
pub record Reading : Type 0 where
  pub chunks : Progress
  pub size : ℕ
  pub trailer : List ℕ

-- what is wrong at the end of the first line of the last chunk, behind which a trailer with a name of so many bytes stands:
-- the signature, too little data, or no room for a trailer
unfoldable pub fault_at_end : ℕ → Place → List ℕ → Option Fault
fault_at_end name place hash =
    if not (bytes_eq place.signature (next_signature place.chain hash)) then Some Forged
    else if nat_lt 0 place.left then Some Incomplete
    else if not (is_room name (place.span.whole - place.span.taken)) then Some Invalid
    else None

-- the chain goes on behind that chunk
abbrev pub chained : Place → List ℕ → Place
chained place hash = record place { chain = linked place.chain (next_signature place.chain hash) }

-- the reading at such a place
abbrev pub placed : Reading → Place → Reading
placed r place = record r { chunks = record r.chunks { place = place; current = [] } }

-- refused from now on
abbrev pub refused_by : Reading → Fault → Reading
refused_by r fault = record r { chunks = record r.chunks { place = refused r.chunks.place fault } }

-- the chunks are over, with that wrong
abbrev pub ended_by : Option Fault → Reading → Place → Reading
ended_by (Some fault) r place = placed r (refused place fault)
ended_by None r place = record (placed r (moved place phases.Over)) { size = place.span.whole - place.span.taken; trailer = [] }

-- where the first line of the last chunk has come, the chunks are over
unfoldable pub ended : List ℕ → Reading → Reading
ended name r =
    if is_at_end r.chunks.place.phase
    then ended_by (fault_at_end (length name) r.chunks.place (sha256 r.chunks.current)) r (chained r.chunks.place (sha256 r.chunks.current))
    else r

-- what is wrong with the trailer, if anything
abbrev pub judged_by : Option Fault → Reading → Reading
judged_by (Some fault) r = refused_by r fault
judged_by None r = r

-- where the trailer is whole, it is judged
unfoldable pub judged : List ℕ → Reading → Reading
judged name r =
    if nat_lt (length r.trailer) r.size then r else judged_by (trailer_fault r.chunks.place.chain name r.trailer) r

abbrev pub spelled : Reading → List ℕ → Reading
spelled r more = record r { trailer = r.trailer ++ more }

-- a byte has come: of the trailer once the chunks are over, and of the chunks before that
unfoldable pub after_byte : List ℕ → Reading → ℕ → Reading
after_byte name r byte =
    if nat_lt 0 r.size
    then (if nat_lt (length r.trailer) r.size then judged name (spelled r (byte ∷ [])) else r)
    else ended name (record r { chunks = stepped r.chunks byte })

-- these bytes have come
abbrev pub run : List ℕ → Reading → List ℕ → Reading
run name r [] = r
run name r (byte ∷ bytes) = run name (after_byte name r byte) bytes

-- nothing has come
abbrev pub begun : TrailedTerms → Reading
begun terms = record { chunks = started terms.chunks; size = 0; trailer = [] }

-- the trailer is there, whole
abbrev pub is_whole : ℕ → List ℕ → Bool
is_whole size trailer = nat_lt 0 size && not (nat_lt (length trailer) size)

-- how many bytes were taken
abbrev pub taken_in : Reading → ℕ
taken_in r = taken_with r.size r.chunks.place.span.taken r.trailer

-- what is known: refused with a fault at this place, accepted once the trailer is whole, or open
abbrev pub verdict_at : Option Fault → Bool → ℕ → List ℕ → List ℕ → Verdict
verdict_at (Some fault) whole taken held value = Refused taken (code_of fault)
verdict_at None true taken held value = Accepted held value
verdict_at None false taken held value = Open held

abbrev pub verdict_in : List ℕ → Reading → Verdict
verdict_in name r =
    verdict_at (fault_at r.chunks.place.phase) (is_whole r.size r.trailer) (taken_in r) r.chunks.held (value_of_trailer name r.trailer)

-- nothing more is read
abbrev pub is_shut : Option Fault → Bool → Bool
is_shut (Some fault) whole = true
is_shut None whole = whole

abbrev pub shut : Reading → Bool
shut r = is_shut (fault_at r.chunks.place.phase) (is_whole r.size r.trailer)

-- the input has ended
abbrev pub stopped : Reading → Reading
stopped r = if shut r then r else refused_by r Incomplete

-- these bytes have come, and the end of the input where it has ended
abbrev pub reading_of : TrailedTerms → List ℕ → Bool → Reading
reading_of terms bytes true = stopped (run terms.name (begun terms) bytes)
reading_of terms bytes false = run terms.name (begun terms) bytes

-- what these bytes of a body with these terms say of it, where the last argument says that no more come
abbrev pub verdict_of : TrailedTerms → List ℕ → Bool → Verdict
verdict_of terms bytes ended = verdict_in terms.name (reading_of terms bytes ended)
