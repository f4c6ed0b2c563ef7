-- The checksum that a reader has of a body that it accepts.
use Rattle.std.proofs.Common.{◌≡◌, ℕ, Bool, true, false, List, refl, ap, ◌∙◌, Option, Some, None}
use Rattle.std.specs.Prelude.{option_map}
use Rattle.s3_terms.specs.declared.code.Code.{Code}
use Rattle.s3_aws_chunked.specs.Verdict.{Accepted}
use Rattle.s3_aws_chunked.specs.Trailed as signed
use Rattle.s3_aws_chunked.specs.declared.phase.Fault.{Fault}
use Rattle.s3_integrity.specs.Sum.{algorithm_of}
use Rattle.s3_integrity.specs.declared.algorithm.ChecksumAlgorithm.{ChecksumAlgorithm}
use Rattle.s3_integrity.specs.declared.checksum.Checksum.{Checksum}
use Rattle.s3_unsigned_chunks.specs.Verdict as unsigned
use Rattle.s3_unsigned_chunks.specs.declared.place.Place.{Place}
use Rattle.s3_unsigned_chunks.specs.declared.place.Place.TheVariants as places
use Rattle.s3_payloads.specs.EitherChunks.{chunks_by}
use Rattle.s3_payloads.specs.FoundSum.{found_sum, sum_by}
use Rattle.s3_payloads.specs.Form.{Announced}
use Rattle.s3_payloads.specs.Reader.{ChunksFor, ModeStands, Stands, TrailedFor, WholeFor, mode_verdict, verdict_of}
use Rattle.s3_payloads.specs.Trailed.{told_by, trailed_by}
use Rattle.s3_payloads.specs.Whole.{WholeState, told}
use Rattle.s3_payloads.specs.declared.chunks.ChunksReader.{ChunksReader}
use Rattle.s3_payloads.specs.declared.either_chunks.EitherChunks.{EitherChunks}
use Rattle.s3_payloads.specs.declared.either_chunks.EitherChunks.TheVariants.{Unsigned, Signed}
use Rattle.s3_payloads.specs.declared.form.Digests.{Digests}
use Rattle.s3_payloads.specs.declared.form.Form.{Form}
use Rattle.s3_payloads.specs.declared.form.Form.TheVariants as forms
use Rattle.s3_payloads.specs.declared.reader.Mode.{Mode}
use Rattle.s3_payloads.specs.declared.reader.Mode.TheVariants as modes
use Rattle.s3_payloads.specs.declared.reader.PayloadReader.{PayloadReader}
use Rattle.s3_payloads.specs.declared.trailed.TrailedReader.{TrailedReader}
use Rattle.s3_payloads.specs.declared.whole.Stage.{Stage}
use Rattle.s3_payloads.specs.declared.whole.Stage.TheVariants as stages

-- what is accepted of a body that is sent as it is are all bytes
told_bytes : (stage : Stage) (bytes payload : List ℕ) → told bytes stage ≡ Accepted payload → bytes ≡ payload
told_bytes stages.Reading bytes payload is = absurd (cc)
told_bytes stages.Passed bytes payload is = cc
told_bytes (stages.Failed code) bytes payload is = absurd (cc)

-- of one in chunks, all data
unsigned_held : (place : Place) (taken : ℕ) (value held payload said : List ℕ)
    → unsigned.verdict_at place taken value held ≡ unsigned.Accepted payload said → held ≡ payload
unsigned_held places.Over taken value held payload said is = cc
unsigned_held _ taken value held payload said is = absurd (cc)

signed_held : (fault : Option Fault) (whole : Bool) (taken : ℕ) (value held payload said : List ℕ)
    → signed.verdict_at fault whole taken held value ≡ unsigned.Accepted payload said → held ≡ payload
signed_held (Some fault) whole taken value held payload said is = absurd (cc)
signed_held None true taken value held payload said is = cc
signed_held None false taken value held payload said is = absurd (cc)

chunks_held : (chunks : EitherChunks) (held payload said : List ℕ) → chunks_by chunks held ≡ unsigned.Accepted payload said → held ≡ payload
chunks_held (Unsigned chunks) held payload said is = unsigned_held _ _ _ held payload said is
chunks_held (Signed chunks) held payload said is = signed_held _ _ _ _ held payload said is

told_held : (wrong : Option Code) (taken : ℕ) (verdict : unsigned.Verdict) (payload : List ℕ) → told_by wrong taken verdict ≡ Accepted payload
    → (value : List ℕ) × (verdict ≡ unsigned.Accepted payload value)
told_held (Some code) taken verdict payload is = absurd (cc)
told_held None taken (unsigned.Refused place code) payload is = absurd (cc)
told_held None taken (unsigned.Accepted held value) payload is = let same : held ≡ payload = cc in (value, ap (λ (h : List ℕ). unsigned.Accepted h value) same)
told_held None taken (unsigned.Open held) payload is = absurd (cc)

-- the kind and the bytes name the checksum
same_sum : (kind other : Option ChecksumAlgorithm) (bytes payload : List ℕ) → kind ≡ other → bytes ≡ payload → sum_by kind bytes ≡ sum_by other payload
same_sum kind other bytes payload is same = rw (is, same) refl

whole_sum : (form : Form) (whole : WholeState) (announced : Announced) (bytes payload : List ℕ) (ended : Bool) → WholeFor form whole announced bytes ended
    → told whole.bytes whole.stage ≡ Accepted payload → sum_by (option_map algorithm_of whole.digests.checksum) whole.bytes ≡ found_sum form payload
whole_sum (forms.Whole hash digests) whole announced bytes payload ended stands is =
    same_sum _ _ whole.bytes payload (ap (λ (d : Digests). option_map algorithm_of d.checksum) stands.digests_are) (told_bytes whole.stage whole.bytes payload is)
whole_sum (forms.Chunks decoded) whole announced bytes payload ended stands is = absurd stands
whole_sum (forms.TrailedChunks decoded algorithm signed) whole announced bytes payload ended stands is = absurd stands

chunks_sum : (form : Form) (chunks : ChunksReader) (announced : Announced) (bytes payload : List ℕ) (ended : Bool) → ChunksFor form chunks announced bytes ended
    → ◌≡◌ {A = Option Checksum} None (found_sum form payload)
chunks_sum (forms.Whole hash digests) chunks announced bytes payload ended stands = absurd stands
chunks_sum (forms.Chunks decoded) chunks announced bytes payload ended stands = refl
chunks_sum (forms.TrailedChunks decoded algorithm signed) chunks announced bytes payload ended stands = absurd stands

trailed_sum : (form : Form) (trailed : TrailedReader) (announced : Announced) (bytes payload : List ℕ) (ended : Bool) → TrailedFor form trailed announced bytes ended
    → trailed_by trailed ≡ Accepted payload → sum_by (Some trailed.summed.algorithm) trailed.summed.bytes ≡ found_sum form payload
trailed_sum (forms.Whole hash digests) trailed announced bytes payload ended stands is = absurd stands
trailed_sum (forms.Chunks decoded) trailed announced bytes payload ended stands is = absurd stands
trailed_sum (forms.TrailedChunks decoded algorithm signed) trailed announced bytes payload ended stands is =
    let accepted = told_held trailed.wrong _ (chunks_by trailed.chunks trailed.summed.bytes) payload is in
    same_sum _ _ trailed.summed.bytes payload (ap (λ (a : ChecksumAlgorithm). Some a) stands.kind)
    (chunks_held trailed.chunks trailed.summed.bytes payload accepted.0 accepted.1)

-- the checksum that each reader has
abbrev mode_sum : Mode → Option Checksum
mode_sum (modes.Whole whole) = sum_by (option_map algorithm_of whole.digests.checksum) whole.bytes
mode_sum (modes.Chunks chunks) = None
mode_sum (modes.Trailed trailed) = sum_by (Some trailed.summed.algorithm) trailed.summed.bytes

found_by : (mode : Mode) (announced : Announced) (bytes payload : List ℕ) (ended : Bool) → ModeStands mode announced bytes ended
    → mode_verdict mode ≡ Accepted payload → mode_sum mode ≡ found_sum announced.form payload
found_by (modes.Whole whole) announced bytes payload ended stands is = whole_sum announced.form whole announced bytes payload ended stands is
found_by (modes.Chunks chunks) announced bytes payload ended stands is = chunks_sum announced.form chunks announced bytes payload ended stands
found_by (modes.Trailed trailed) announced bytes payload ended stands is = trailed_sum announced.form trailed announced bytes payload ended stands is

-- is that of the body
pub sum_found : (reader : PayloadReader) (result : Option Checksum) (announced : Announced) (bytes payload : List ℕ) (ended : Bool)
    → result ≡ mode_sum reader.mode → Stands reader announced bytes ended → verdict_of reader ≡ Accepted payload
    → result ≡ found_sum announced.form payload
sum_found reader result announced bytes payload ended is stands accepted = is ∙ found_by reader.mode announced bytes payload ended stands accepted
