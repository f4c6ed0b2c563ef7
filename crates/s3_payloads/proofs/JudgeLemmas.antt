-- What a reader says of its body is what the bytes so far say.
use Rattle.std.proofs.Common.{◌≡◌, ℕ, Bool, min, List, length, refl, ap, ◌∙◌, arith, ◌≤◌, Option, Some, inl, inr}
use Rattle.std.specs.Prelude.{option_map}
use Rattle.std.proofs.lemmas.Bool.{cases_lt}
use Rattle.std.proofs.lemmas.List.{length-take}
use Rattle.s3_terms.specs.declared.code.Code.{Code}
use Rattle.s3_terms.specs.declared.code.Code.TheVariants.{IncompleteBody}
use Rattle.s3_aws_chunked.specs.Verdict.{Accepted, Refused}
use Rattle.s3_aws_chunked.specs.Laws.{ReadersCount, ReadersJudge, ReadersStayWithin}
use Rattle.s3_aws_chunked.specs.Decoder.{code_of, fault_at}
use Rattle.s3_aws_chunked.specs.Reader as chunked
use Rattle.s3_aws_chunked.specs.declared.phase.Phase.{Phase}
use Rattle.s3_aws_chunked.specs.declared.phase.Phase.TheVariants as phases
use Rattle.s3_payloads.specs.declared.chunks.ChunksReader.{ChunksReader}
use Rattle.s3_payloads.specs.declared.form.Digests.{Digests}
use Rattle.s3_payloads.specs.declared.form.Form.{Form}
use Rattle.s3_payloads.specs.declared.form.Form.TheVariants as forms
use Rattle.s3_payloads.specs.declared.reader.Mode.{Mode}
use Rattle.s3_payloads.specs.declared.reader.Mode.TheVariants as modes
use Rattle.s3_payloads.specs.Form.{Announced}
use Rattle.s3_payloads.specs.Reader.{ChunksFor, ModeFailed, ModePassed, ModeStands, WholeFor, mode_taken, mode_verdict}
use Rattle.s3_payloads.specs.Verdict.{Judges, JudgesForm, terms_of, trailed_terms, whole_verdict}
use Rattle.s3_payloads.proofs.WholeLemmas.{nat_le-false, undecided}
use Rattle.s3_payloads.specs.Whole.{WholeState, told}
use Rattle.s3_payloads.specs.Trailed.{TrailedAreWhole, TrailedCount, TrailedJudge, TrailedStayWithin}
use Rattle.s3_payloads.proofs.TrailedLawLemmas.{trailed_counts, trailed_fails, trailed_judges, trailed_passes, trailed_within}

-- ---- the verdict

whole_judges : (form : Form) (whole : WholeState) (announced : Announced) (bytes : List ℕ) (ended : Bool)
    → WholeFor form whole announced bytes ended → JudgesForm form announced bytes ended (told whole.bytes whole.stage)
whole_judges (forms.Whole hash digests) whole announced bytes ended stands = stands.told
whole_judges (forms.Chunks decoded) whole announced bytes ended stands = absurd stands
whole_judges (forms.TrailedChunks decoded algorithm signed) whole announced bytes ended stands = absurd stands

chunks_judge : ReadersJudge → (form : Form) (chunks : ChunksReader) (announced : Announced) (bytes : List ℕ) (ended : Bool)
    → ChunksFor form chunks announced bytes ended → JudgesForm form announced bytes ended (chunked.verdict_of chunks.chunks chunks.payload)
chunks_judge law (forms.Whole hash digests) chunks announced bytes ended stands = absurd stands
chunks_judge law (forms.Chunks decoded) chunks announced bytes ended stands =
    law chunks.chunks (terms_of announced decoded) bytes ended chunks.payload stands
chunks_judge law (forms.TrailedChunks decoded algorithm signed) chunks announced bytes ended stands = absurd stands

pub judge_mode : ReadersJudge → TrailedJudge → (mode : Mode) (announced : Announced) (bytes : List ℕ) (ended : Bool)
    → ModeStands mode announced bytes ended → Judges announced bytes ended (mode_verdict mode)
judge_mode law trails (modes.Whole whole) announced bytes ended stands = whole_judges announced.form whole announced bytes ended stands
judge_mode law trails (modes.Chunks chunks) announced bytes ended stands = chunks_judge law announced.form chunks announced bytes ended stands
judge_mode law trails (modes.Trailed trailed) announced bytes ended stands = trailed_judges trails announced.form trailed announced bytes ended stands

-- ---- the count

whole_counts : (form : Form) (whole : WholeState) (announced : Announced) (bytes : List ℕ) (ended : Bool)
    → WholeFor form whole announced bytes ended → length whole.bytes ≡ min announced.length (length bytes)
whole_counts (forms.Whole hash digests) whole announced bytes ended stands =
    ap length stands.taken ∙ length-take announced.length bytes
whole_counts (forms.Chunks decoded) whole announced bytes ended stands = absurd stands
whole_counts (forms.TrailedChunks decoded algorithm signed) whole announced bytes ended stands = absurd stands

chunks_count : ReadersCount → (form : Form) (chunks : ChunksReader) (announced : Announced) (bytes : List ℕ) (ended : Bool)
    → ChunksFor form chunks announced bytes ended → ((code : Code) → ¬ (chunked.Failed chunks.chunks code))
    → chunked.taken_of chunks.chunks ≡ min announced.length (length bytes)
chunks_count law (forms.Whole hash digests) chunks announced bytes ended stands never = absurd stands
chunks_count law (forms.Chunks decoded) chunks announced bytes ended stands never =
    law chunks.chunks (terms_of announced decoded) bytes ended chunks.payload stands never
chunks_count law (forms.TrailedChunks decoded algorithm signed) chunks announced bytes ended stands never = absurd stands

pub count_mode : ReadersCount → TrailedCount → (mode : Mode) (announced : Announced) (bytes : List ℕ) (ended : Bool)
    → ModeStands mode announced bytes ended → ((code : Code) → ¬ (ModeFailed mode code))
    → mode_taken mode ≡ min announced.length (length bytes)
count_mode law trails (modes.Whole whole) announced bytes ended stands never = whole_counts announced.form whole announced bytes ended stands
count_mode law trails (modes.Chunks chunks) announced bytes ended stands never = chunks_count law announced.form chunks announced bytes ended stands never
count_mode law trails (modes.Trailed trailed) announced bytes ended stands never = trailed_counts trails announced.form trailed announced bytes ended stands never

-- ---- no more was taken than has come

whole_within : (form : Form) (whole : WholeState) (announced : Announced) (bytes : List ℕ) (ended : Bool)
    → WholeFor form whole announced bytes ended → length whole.bytes ≤ length bytes
whole_within form whole announced bytes ended stands =
    let many = whole_counts form whole announced bytes ended stands in omega (arith, many)

chunks_within : ReadersStayWithin → (form : Form) (chunks : ChunksReader) (announced : Announced) (bytes : List ℕ) (ended : Bool)
    → ChunksFor form chunks announced bytes ended → chunked.taken_of chunks.chunks ≤ length bytes
chunks_within law (forms.Whole hash digests) chunks announced bytes ended stands = absurd stands
chunks_within law (forms.Chunks decoded) chunks announced bytes ended stands =
    law chunks.chunks (terms_of announced decoded) bytes ended chunks.payload stands
chunks_within law (forms.TrailedChunks decoded algorithm signed) chunks announced bytes ended stands = absurd stands

pub within_mode : ReadersStayWithin → TrailedStayWithin → (mode : Mode) (announced : Announced) (bytes : List ℕ) (ended : Bool)
    → ModeStands mode announced bytes ended → mode_taken mode ≤ length bytes
within_mode law trails (modes.Whole whole) announced bytes ended stands = whole_within announced.form whole announced bytes ended stands
within_mode law trails (modes.Chunks chunks) announced bytes ended stands = chunks_within law announced.form chunks announced bytes ended stands
within_mode law trails (modes.Trailed trailed) announced bytes ended stands = trailed_within trails announced.form trailed announced bytes ended stands

-- ---- a refusal

phase_fails : (phase : Phase) (taken : ℕ) (held : List ℕ) (code : Code) → option_map code_of (fault_at phase) ≡ Some code
    → chunked.verdict_at phase taken held ≡ Refused taken code
phase_fails (phases.Refused fault) taken held code is = let same : code_of fault ≡ code = cc in ap (Refused taken) same
phase_fails phases.Over taken held code is = absurd (cc)
phase_fails (phases.Size digits) taken held code is = absurd (cc)
phase_fails (phases.Line place size) taken held code is = absurd (cc)
phase_fails (phases.Data left last) taken held code is = absurd (cc)
phase_fails (phases.Ending last) taken held code is = absurd (cc)

chunks_fail : (form : Form) (chunks : ChunksReader) (announced : Announced) (bytes : List ℕ) (ended : Bool) (code : Code)
    → ChunksFor form chunks announced bytes ended → chunked.Failed chunks.chunks code
    → chunked.verdict_of chunks.chunks chunks.payload ≡ Refused (chunked.taken_of chunks.chunks) code
chunks_fail (forms.Whole hash digests) chunks announced bytes ended code stands is = absurd stands
chunks_fail (forms.Chunks decoded) chunks announced bytes ended code stands is =
    phase_fails chunks.chunks.decoder.place.phase (chunked.taken_of chunks.chunks) chunks.payload code (rw stands.kept at is)
chunks_fail (forms.TrailedChunks decoded algorithm signed) chunks announced bytes ended code stands is = absurd stands

pub fail_mode : (mode : Mode) (announced : Announced) (bytes : List ℕ) (ended : Bool) (code : Code)
    → ModeStands mode announced bytes ended → ModeFailed mode code → mode_verdict mode ≡ Refused (mode_taken mode) code
fail_mode (modes.Whole whole) announced bytes ended code stands is = rw is refl
fail_mode (modes.Chunks chunks) announced bytes ended code stands is = chunks_fail announced.form chunks announced bytes ended code stands is
fail_mode (modes.Trailed trailed) announced bytes ended code stands is = trailed_fails announced.form trailed announced bytes ended code stands is

-- ---- a body that is whole

pub pass_mode : (mode : Mode) → ModePassed mode → (payload : List ℕ) × (mode_verdict mode ≡ Accepted payload)
pass_mode (modes.Whole whole) is = (whole.bytes, rw is refl)
pass_mode (modes.Chunks chunks) is = (chunks.payload, rw (is.1) refl)
pass_mode (modes.Trailed trailed) is = trailed_passes trailed is

-- ---- bodies that are accepted

pub whole_come : (hash : Option (List ℕ)) (digests : Digests) (size : ℕ) (ended : Bool) (bytes held : List ℕ) → Accepted held ≡ whole_verdict hash digests size ended bytes
    → size ≤ length bytes
unfolding whole_verdict
whole_come hash digests size ended bytes held is = elim (cases_lt (length bytes) size) [
  | inl part ↦ absurd (undecided (length bytes) bytes held IncompleteBody ended (rw (nat_le-false size (length bytes) part) at is))
  | inr whole ↦ whole
]

-- a body that is accepted has come
pub accepted_come : TrailedAreWhole → (form : Form) (announced : Announced) (bytes : List ℕ) (ended : Bool) (held : List ℕ)
    → JudgesForm form announced bytes ended (Accepted held) → announced.length ≤ length bytes
accepted_come whole (forms.Whole hash digests) announced bytes ended held is = whole_come hash digests announced.length ended bytes held is
accepted_come whole (forms.Chunks decoded) announced bytes ended held is = is.1.come
accepted_come whole (forms.TrailedChunks decoded algorithm signed) announced bytes ended held is =
    whole algorithm (trailed_terms announced decoded algorithm signed) bytes held ended is
