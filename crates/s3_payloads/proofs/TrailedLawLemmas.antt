-- What is known of bodies with a checksum behind their chunks, and of their readers.
use Rattle.std.proofs.Common.{◌≡◌, ℕ, ◌≤◌, Bool, true, false, min, List, take, drop, length, refl, sym, ap, ◌∙◌, arith, subst, Option, None, Some, Result, Ok, Err}
use Rattle.std.specs.Prelude.{ok_or, not}
use Rattle.std.proofs.lemmas.List.{length-take-le, take-append-drop}
use Rattle.s3_terms.specs.declared.code.Code.{Code}
use Rattle.s3_terms.specs.declared.code.Code.TheVariants.{BadDigest, InvalidRequest}
use Rattle.s3_terms.proofs.FaultLemmas.{one_value, stage_ok, test_ok}
use Rattle.s3_aws_chunked.specs.Verdict.{Accepted, Open, Refused}
use Rattle.s3_aws_chunked.specs.Verdict as payload
use Rattle.s3_aws_chunked.specs.Finality.{IsDecided}
use Rattle.s3_integrity.specs.Sum.{checksum_of, has_sum}
use Rattle.s3_integrity.specs.declared.algorithm.ChecksumAlgorithm.{ChecksumAlgorithm}
use Rattle.s3_unsigned_chunks.specs.Finality as unsigned_finality
use Rattle.s3_unsigned_chunks.specs.Verdict as unsigned
use Rattle.s3_payloads.specs.declared.either_chunks.EitherChunks.{EitherChunks}
use Rattle.s3_payloads.specs.EitherChunks.{ChunksAreShort, ChunksAreWhole, ChunksCount, ChunksEnd, ChunksEndIncomplete, ChunksFailed, ChunksJudge, ChunksRefusalsStand, ChunksStay, ChunksStayWithin, chunks_by, chunks_lost, chunks_taken}
use Rattle.s3_payloads.specs.declared.form.Form.{Form}
use Rattle.s3_payloads.specs.declared.form.Form.TheVariants as forms
use Rattle.s3_payloads.specs.declared.trailed.TrailedReader.{TrailedReader}
use Rattle.s3_payloads.specs.Form.{Announced}
use Rattle.s3_payloads.specs.Reader.{TrailedFor}
use Rattle.s3_payloads.specs.Summed.{fault_in}
use Rattle.s3_payloads.specs.Trailed.{TrailedAreShort, TrailedAreWhole, TrailedCount, TrailedDone, TrailedEnd, TrailedEndIncomplete, TrailedFailed, TrailedJudge, TrailedRefusalsStand, TrailedStay, TrailedStayWithin, refusal_by, told_by, trailed_by, trailed_taken, verdict_on, wrong_in}
use Rattle.s3_payloads.specs.Verdict.{JudgesForm, TrailerTerms, chunks_verdict, decided_at, trailed_data, trailed_terms, trailed_verdict}
use Rattle.s3_payloads.proofs.EitherLemmas.{never_failed, says_done, says_failed, says_refusal, stood_kept}

-- ---- what is accepted has all its bytes, and they alone have decided

-- the bytes of Content-Length have a verdict by themselves, and it stays
front_same : ChunksStay → ChunksAreShort
    → (terms : TrailerTerms) (bytes : List ℕ) (front : unsigned.Verdict) → terms.encoded ≤ length bytes
    → chunks_verdict terms (take terms.encoded bytes) false ≡ front
    → chunks_verdict terms bytes false ≡ front
front_same stay short terms bytes (unsigned.Open held) come is =
    let less = short terms (take terms.encoded bytes) held is in
    absurd (omega (arith, less, length-take-le terms.encoded bytes come))
front_same stay short terms bytes (unsigned.Refused place code) come is =
    let size = terms.encoded in
    let stays = stay terms (take size bytes) (drop size bytes) false (subst unsigned_finality.IsDecided (sym is) tt) in
    ap (λ (all : List ℕ). chunks_verdict terms all false) (sym (take-append-drop size bytes)) ∙ stays ∙ is
front_same stay short terms bytes (unsigned.Accepted held value) come is =
    let size = terms.encoded in
    let stays = stay terms (take size bytes) (drop size bytes) false (subst unsigned_finality.IsDecided (sym is) tt) in
    ap (λ (all : List ℕ). chunks_verdict terms all false) (sym (take-append-drop size bytes)) ∙ stays ∙ is

-- ---- the verdict by that on the chunks

-- the data that is judged is that of the chunks
same_data : (algorithm : ChecksumAlgorithm) (value held given : List ℕ) → trailed_data algorithm value held ≡ Ok given → held ≡ given
unfolding trailed_data
same_data algorithm value held given is =
    let sum = stage_ok (ok_or (checksum_of algorithm value) InvalidRequest) _ given is in
    let met = test_ok (not (has_sum sum.0 held)) BadDigest _ given sum.2 in
    one_value held given met.1

told_decided : (taken size : ℕ) (held value : List ℕ) (judged : Result (List ℕ) Code) → ((given : List ℕ) → judged ≡ Ok given → held ≡ given)
    → taken ≡ size → told_by (fault_in judged) taken (unsigned.Accepted held value) ≡ decided_at size judged
told_decided taken size held value (Ok given) same all = ap Accepted (same given refl)
told_decided taken size held value (Err code) same all = ap (λ (n : ℕ). Refused n code) all

told_verdict : (algorithm : ChecksumAlgorithm) (taken size : ℕ) (verdict : unsigned.Verdict)
    → ((held value : List ℕ) → verdict ≡ unsigned.Accepted held value → taken ≡ size)
    → told_by (wrong_in algorithm verdict) taken verdict ≡ trailed_verdict algorithm size verdict
told_verdict algorithm taken size (unsigned.Refused place code) all = refl
told_verdict algorithm taken size (unsigned.Accepted held value) all =
    told_decided taken size held value (trailed_data algorithm value held) (same_data algorithm value held) (all held value refl)
told_verdict algorithm taken size (unsigned.Open held) all = refl

-- ---- a reader and what it stands after

pub judges : ChunksJudge → ChunksCount → ChunksAreWhole → TrailedJudge
judges judge count bodies reader algorithm terms bytes ended stood =
    let held = reader.summed.bytes in
    let same = judge reader.chunks terms bytes ended held stood.shows in
    let all : (given value : List ℕ) → chunks_by reader.chunks held ≡ unsigned.Accepted given value → chunks_taken reader.chunks ≡ terms.encoded =
    λ given value is.
    let come = bodies terms bytes ended given value (sym same ∙ is) in
    let taken = count reader.chunks terms bytes ended held stood.shows (never_failed reader.chunks held given value (stood_kept reader.chunks terms bytes ended held stood.shows) is) in
    omega (arith, come, taken) in
    ap (λ (wrong : Option Code). told_by wrong (chunks_taken reader.chunks) (chunks_by reader.chunks held)) stood.judged
    ∙ told_verdict algorithm (chunks_taken reader.chunks) terms.encoded (chunks_by reader.chunks held) all
    ∙ ap (trailed_verdict algorithm terms.encoded) same

-- one that has refused no checksum and no chunks has taken all
not_wrong : (wrong : Option Code) (reader : EitherChunks) → ((code : Code) → ¬ (refusal_by wrong reader ≡ Some code))
    → (code : Code) → ¬ (ChunksFailed reader code)
not_wrong None reader never code failed = never code failed
not_wrong (Some other) reader never code failed = never other refl

pub counts : ChunksCount → TrailedCount
counts count reader algorithm terms bytes ended stood never =
    count reader.chunks terms bytes ended reader.summed.bytes stood.shows (not_wrong reader.wrong reader.chunks never)

pub within : ChunksStayWithin → TrailedStayWithin
within law reader algorithm terms bytes ended stood = law reader.chunks terms bytes ended reader.summed.bytes stood.shows

-- ---- verdicts

decided_unsigned : (algorithm : ChecksumAlgorithm) (size : ℕ) (verdict : unsigned.Verdict) → IsDecided (trailed_verdict algorithm size verdict)
    → unsigned_finality.IsDecided verdict
decided_unsigned algorithm size (unsigned.Refused place code) is = tt
decided_unsigned algorithm size (unsigned.Accepted held value) is = tt
decided_unsigned algorithm size (unsigned.Open held) is = is

decided_result : (place : ℕ) (judged : Result (List ℕ) Code) → IsDecided (decided_at place judged)
decided_result place (Ok held) = tt
decided_result place (Err code) = tt

decided_trailed : (algorithm : ChecksumAlgorithm) (size : ℕ) (verdict : unsigned.Verdict) → unsigned_finality.IsDecided verdict
    → IsDecided (trailed_verdict algorithm size verdict)
decided_trailed algorithm size (unsigned.Refused place code) is = tt
decided_trailed algorithm size (unsigned.Accepted held value) is = decided_result size (trailed_data algorithm value held)
decided_trailed algorithm size (unsigned.Open held) is = is

pub stays : ChunksStay → TrailedStay
stays law algorithm terms bytes more ended decided =
    ap (trailed_verdict algorithm terms.encoded)
    (law terms bytes more ended (decided_unsigned algorithm terms.encoded (chunks_verdict terms bytes false) decided))

pub ends : ChunksEnd → TrailedEnd
ends law algorithm terms bytes = decided_trailed algorithm terms.encoded (chunks_verdict terms bytes true) (law terms bytes)

decided_shut : (place : ℕ) (judged : Result (List ℕ) Code) (held : List ℕ) → ¬ (Open held ≡ decided_at place judged)
decided_shut place (Ok given) held is = cc
decided_shut place (Err code) held is = cc

open_unsigned : (algorithm : ChecksumAlgorithm) (size : ℕ) (verdict : unsigned.Verdict) (held : List ℕ) → Open held ≡ trailed_verdict algorithm size verdict
    → verdict ≡ unsigned.Open held
open_unsigned algorithm size (unsigned.Refused place code) held is = absurd (cc)
open_unsigned algorithm size (unsigned.Accepted given value) held is = absurd (decided_shut size (trailed_data algorithm value given) held is)
open_unsigned algorithm size (unsigned.Open given) held is = let same : held ≡ given = cc in ap unsigned.Open (sym same)

pub are_short : ChunksAreShort → TrailedAreShort
are_short law algorithm terms bytes held is =
    law terms bytes held (open_unsigned algorithm terms.encoded (chunks_verdict terms bytes false) held is)

pub end_incomplete : ChunksEndIncomplete → TrailedEndIncomplete
end_incomplete law algorithm terms bytes held is =
    sym (ap (trailed_verdict algorithm terms.encoded)
    (law terms bytes held (open_unsigned algorithm terms.encoded (chunks_verdict terms bytes false) held is)))

-- ---- what is accepted is whole

open_never : (verdict : unsigned.Verdict) (algorithm : ChecksumAlgorithm) (size : ℕ) (held : List ℕ) → Accepted held ≡ trailed_verdict algorithm size verdict
    → (given : List ℕ) × (value : List ℕ) × (verdict ≡ unsigned.Accepted given value)
open_never (unsigned.Refused place code) algorithm size held is = absurd (cc)
open_never (unsigned.Accepted given value) algorithm size held is = (given, value, refl)
open_never (unsigned.Open given) algorithm size held is = absurd (cc)

pub are_whole : ChunksAreWhole → TrailedAreWhole
are_whole law algorithm terms bytes payload ended is =
    let accepted = open_never (chunks_verdict terms bytes ended) algorithm terms.encoded payload is in
    law terms bytes ended accepted.0 accepted.1 accepted.2

-- ---- refusals stand at their place

decided_place : (at place : ℕ) (judged : Result (List ℕ) Code) (code : Code) → Refused place code ≡ decided_at at judged → place ≡ at
decided_place at place (Ok all) code is = absurd (cc)
decided_place at place (Err other) code is = cc

stand_by : ChunksStay → ChunksAreShort → ChunksRefusalsStand → ChunksAreWhole
    → (algorithm : ChecksumAlgorithm) (terms : TrailerTerms) (bytes : List ℕ) (place : ℕ) (code : Code) (verdict : unsigned.Verdict)
    → chunks_verdict terms bytes false ≡ verdict → Refused place code ≡ trailed_verdict algorithm terms.encoded verdict
    → (place ≤ length bytes) × (Refused place code ≡ verdict_on algorithm terms (take place bytes) false)
stand_by stay short stand bodies algorithm terms bytes place code (unsigned.Refused at other) is refused =
    let same_place : place ≡ at = cc in
    let same_code : code ≡ other = cc in
    let there = stand terms bytes place code (is ∙ rw (same_place, same_code) refl) in
    (there.0, sym (ap (trailed_verdict algorithm terms.encoded) there.1))
stand_by stay short stand bodies algorithm terms bytes place code (unsigned.Accepted held value) is refused =
    let size = terms.encoded in
    let come = bodies terms bytes false held value is in
    let last = decided_place size place (trailed_data algorithm value held) code refused in
    let front = front_same stay short terms bytes (chunks_verdict terms (take size bytes) false) come refl in (
      omega (arith, come, last),
      refused
          ∙ ap (trailed_verdict algorithm size) (sym is ∙ front)
          ∙ ap (λ (n : ℕ). verdict_on algorithm terms (take n bytes) false) (sym last),
    )
stand_by stay short stand bodies algorithm terms bytes place code (unsigned.Open held) is refused = absurd (cc)

pub stand_there : ChunksStay → ChunksAreShort → ChunksRefusalsStand → ChunksAreWhole → TrailedRefusalsStand
stand_there stay short stand bodies algorithm terms bytes place code is =
    stand_by stay short stand bodies algorithm terms bytes place code (chunks_verdict terms bytes false) refl is

-- ---- the same of a reader by the form of its body

pub trailed_judges : TrailedJudge → (form : Form) (trailed : TrailedReader) (announced : Announced) (bytes : List ℕ) (ended : Bool)
    → TrailedFor form trailed announced bytes ended → JudgesForm form announced bytes ended (trailed_by trailed)
trailed_judges law (forms.Whole hash digests) trailed announced bytes ended stands = absurd stands
trailed_judges law (forms.Chunks decoded) trailed announced bytes ended stands = absurd stands
trailed_judges law (forms.TrailedChunks decoded algorithm signed) trailed announced bytes ended stands =
    law trailed algorithm (trailed_terms announced decoded algorithm signed) bytes ended stands

pub trailed_counts : TrailedCount → (form : Form) (trailed : TrailedReader) (announced : Announced) (bytes : List ℕ) (ended : Bool)
    → TrailedFor form trailed announced bytes ended → ((code : Code) → ¬ (TrailedFailed trailed code))
    → trailed_taken trailed ≡ min announced.length (length bytes)
trailed_counts law (forms.Whole hash digests) trailed announced bytes ended stands never = absurd stands
trailed_counts law (forms.Chunks decoded) trailed announced bytes ended stands never = absurd stands
trailed_counts law (forms.TrailedChunks decoded algorithm signed) trailed announced bytes ended stands never =
    law trailed algorithm (trailed_terms announced decoded algorithm signed) bytes ended stands never

pub trailed_within : TrailedStayWithin → (form : Form) (trailed : TrailedReader) (announced : Announced) (bytes : List ℕ) (ended : Bool)
    → TrailedFor form trailed announced bytes ended → trailed_taken trailed ≤ length bytes
trailed_within law (forms.Whole hash digests) trailed announced bytes ended stands = absurd stands
trailed_within law (forms.Chunks decoded) trailed announced bytes ended stands = absurd stands
trailed_within law (forms.TrailedChunks decoded algorithm signed) trailed announced bytes ended stands =
    law trailed algorithm (trailed_terms announced decoded algorithm signed) bytes ended stands

-- ---- a refusal, a body that is whole, and one that is open

-- what the chunks say is told where no checksum is wrong
told_refused : (verdict : unsigned.Verdict) (taken : ℕ) (code : Code) → verdict ≡ unsigned.Refused taken code → told_by None taken verdict ≡ Refused taken code
told_refused verdict taken code is = ap (told_by None taken) is

fails_by : (wrong : Option Code) (reader : EitherChunks) (held : List ℕ) (code : Code) → chunks_lost reader ≡ false → refusal_by wrong reader ≡ Some code
    → told_by wrong (chunks_taken reader) (chunks_by reader held) ≡ Refused (chunks_taken reader) code
fails_by (Some other) reader held code kept is = let same : other ≡ code = cc in ap (Refused (chunks_taken reader)) same
fails_by None reader held code kept is =
    told_refused (chunks_by reader held) (chunks_taken reader) code (says_failed reader held code kept is)

pub trailed_fails : (form : Form) (trailed : TrailedReader) (announced : Announced) (bytes : List ℕ) (ended : Bool) (code : Code)
    → TrailedFor form trailed announced bytes ended → TrailedFailed trailed code → trailed_by trailed ≡ Refused (trailed_taken trailed) code
trailed_fails (forms.Whole hash digests) trailed announced bytes ended code stands is = absurd stands
trailed_fails (forms.Chunks decoded) trailed announced bytes ended code stands is = absurd stands
trailed_fails (forms.TrailedChunks decoded algorithm signed) trailed announced bytes ended code stands is =
    fails_by trailed.wrong trailed.chunks trailed.summed.bytes code (stood_kept trailed.chunks (trailed_terms announced decoded algorithm signed) bytes ended trailed.summed.bytes stands.shows) is

pub trailed_passes : (trailed : TrailedReader) → TrailedDone trailed → (payload : List ℕ) × (trailed_by trailed ≡ Accepted payload)
trailed_passes trailed is = (
  trailed.summed.bytes,
  ap (λ (wrong : Option Code). told_by wrong (chunks_taken trailed.chunks) (chunks_by trailed.chunks trailed.summed.bytes)) is.0
      ∙ ap (told_by None (chunks_taken trailed.chunks)) (says_done trailed.chunks trailed.summed.bytes is.1),
)

told_open : (verdict : unsigned.Verdict) (taken : ℕ) → ((place : ℕ) (code : Code) → ¬ (verdict ≡ unsigned.Refused place code))
    → payload.accepts (told_by None taken verdict) ≡ false → (others : List ℕ) × (told_by None taken verdict ≡ Open others)
told_open (unsigned.Refused place code) taken never is = absurd (never place code refl)
told_open (unsigned.Accepted held value) taken never is = absurd (cc)
told_open (unsigned.Open held) taken never is = (held, refl)

open_wrong : (wrong : Option Code) (reader : EitherChunks) (held : List ℕ) → ((code : Code) → ¬ (refusal_by wrong reader ≡ Some code))
    → payload.accepts (told_by wrong (chunks_taken reader) (chunks_by reader held)) ≡ false
    → (others : List ℕ) × (told_by wrong (chunks_taken reader) (chunks_by reader held) ≡ Open others)
open_wrong (Some code) reader held never is = absurd (never code refl)
open_wrong None reader held never is =
    told_open (chunks_by reader held) (chunks_taken reader) (λ place code said. let failed = says_refusal reader held place code said in never failed.0 failed.1) is

pub trailed_open : (trailed : TrailedReader) → ((code : Code) → ¬ (TrailedFailed trailed code)) → payload.accepts (trailed_by trailed) ≡ false
    → (held : List ℕ) × (trailed_by trailed ≡ Open held)
trailed_open trailed never is = open_wrong trailed.wrong trailed.chunks trailed.summed.bytes never is
