-- What is known of a body that is open: it lacks bytes, and what refuses it stands behind those that have come.
use Rattle.std.proofs.Common.{◌≡◌, ℕ, ◌<◌, ◌≤◌, Bool, true, false, if◌then◌else◌, List, ◌++◌, take, drop, length, refl, sym, ap, arith, ◌∙◌, subst, Option, Some, Result, Ok, Err, inl, inr}
use Rattle.std.specs.Prelude.{option_map}
use Rattle.std.proofs.lemmas.Bool.{cases_lt}
use Rattle.std.proofs.lemmas.List.{length-take-le, take-append-drop, take-append-le}
use Rattle.s3_terms.specs.declared.code.Code.{Code}
use Rattle.s3_terms.specs.declared.code.Code.TheVariants.{IncompleteBody, InternalError}
use Rattle.s3_aws_chunked.specs.Verdict.{Verdict, Open, Refused, accepts}
use Rattle.s3_aws_chunked.specs.Decoder.{code_of, fault_at}
use Rattle.s3_aws_chunked.specs.Finality as chunked
use Rattle.s3_aws_chunked.specs.Laws.{ReadersJudge}
use Rattle.s3_aws_chunked.specs.Reader.{verdict_at}
use Rattle.s3_aws_chunked.specs.declared.phase.Phase.{Phase}
use Rattle.s3_aws_chunked.specs.declared.phase.Phase.TheVariants as phases
use Rattle.s3_payloads.specs.declared.form.Digests.{Digests}
use Rattle.s3_payloads.specs.declared.form.Form.{Form}
use Rattle.s3_payloads.specs.declared.form.Form.TheVariants.{Whole, Chunks, TrailedChunks}
use Rattle.s3_payloads.specs.declared.reader.Mode.{Mode}
use Rattle.s3_payloads.specs.declared.reader.Mode.TheVariants as modes
use Rattle.s3_payloads.specs.declared.whole.Stage.{Stage}
use Rattle.s3_payloads.specs.declared.whole.Stage.TheVariants as stages
use Rattle.s3_payloads.specs.Form.{Announced}
use Rattle.s3_payloads.specs.Reader.{ModeFailed, ModeStands, mode_taken, mode_verdict}
use Rattle.s3_payloads.specs.Verdict.{JudgesForm, checked_data, decided_at, terms_of, trailed_terms, whole_verdict}
use Rattle.s3_payloads.specs.Whole.{told}
use Rattle.s3_payloads.specs.Trailed.{TrailedAreShort, TrailedEndIncomplete, TrailedJudge, TrailedRefusalsStand, TrailedStay}
use Rattle.s3_payloads.proofs.TrailedLawLemmas.{trailed_open}
use Rattle.s3_payloads.proofs.FinalLemmas.{one_form, stay_form, whole_open}
use Rattle.s3_payloads.proofs.JudgeLemmas.{fail_mode, judge_mode}
use Rattle.s3_payloads.proofs.StandsLemmas.{open_ends, refused_whole, verdict_stays}
use Rattle.s3_payloads.proofs.WholeLemmas.{nat_le-true}

-- ---- what is open lacks bytes

whole_short : (hash : Option (List ℕ)) (digests : Digests) (size : ℕ) (bytes held : List ℕ) → Open held ≡ whole_verdict hash digests size false bytes → length bytes < size
whole_short hash digests size bytes held is = elim (cases_lt (length bytes) size) [
  | inl part ↦ part
  | inr come ↦ absurd (whole_open hash digests size bytes held come is)
]

pub short_form : chunked.OpenBodiesAreShort → TrailedAreShort → (form : Form) (announced : Announced) (bytes held : List ℕ)
    → JudgesForm form announced bytes false (Open held) → length bytes < announced.length
short_form law trails (Whole hash digests) announced bytes held is = whole_short hash digests announced.length bytes held is
short_form law trails (Chunks decoded) announced bytes held judged = law (terms_of announced decoded) bytes held judged
short_form law trails (TrailedChunks decoded algorithm signed) announced bytes held is = trails algorithm (trailed_terms announced decoded algorithm signed) bytes held is

pub incomplete_form : chunked.OpenBodiesEndIncomplete → TrailedEndIncomplete → (form : Form) (announced : Announced) (bytes held : List ℕ)
    → JudgesForm form announced bytes false (Open held) → JudgesForm form announced bytes true (Refused (length bytes) IncompleteBody)
incomplete_form law trails (Whole hash digests) announced bytes held is = sym (open_ends hash digests announced.length bytes held false is)
incomplete_form law trails (Chunks decoded) announced bytes held judged = law (terms_of announced decoded) bytes held judged
incomplete_form law trails (TrailedChunks decoded algorithm signed) announced bytes held is = trails algorithm (trailed_terms announced decoded algorithm signed) bytes held is

-- ---- a refusal stands at its place

decided_place : (at place : ℕ) (judged : Result (List ℕ) Code) (code : Code) → Refused place code ≡ decided_at at judged → place ≡ at
decided_place at place (Ok all) code is = absurd (cc)
decided_place at place (Err other) code is = cc

-- the one of a body that is sent as it is at its last byte
whole_place : (hash : Option (List ℕ)) (digests : Digests) (size place : ℕ) (bytes : List ℕ) (code : Code) → Refused place code ≡ whole_verdict hash digests size false bytes
    → size ≤ length bytes → place ≡ size
unfolding whole_verdict
whole_place hash digests size place bytes code is come =
    decided_place size place (checked_data hash digests (take size bytes)) code (rw (nat_le-true size (length bytes) come) at is)

whole_stands : (hash : Option (List ℕ)) (digests : Digests) (size place : ℕ) (bytes : List ℕ) (code : Code) → Refused place code ≡ whole_verdict hash digests size false bytes
    → (place ≤ length bytes) × (Refused place code ≡ whole_verdict hash digests size false (take place bytes))
whole_stands hash digests size place bytes code is =
    let come = refused_whole hash digests size place bytes code is in
    let last = whole_place hash digests size place bytes code is come in
    let stays = verdict_stays hash digests size false (take size bytes) (drop size bytes) (omega (arith, length-take-le size bytes come)) in
    let same : whole_verdict hash digests size false bytes ≡ whole_verdict hash digests size false (take size bytes) =
    ap (whole_verdict hash digests size false) (sym (take-append-drop size bytes)) ∙ stays in
    (omega (arith, come, last), is ∙ same ∙ ap (λ (n : ℕ). whole_verdict hash digests size false (take n bytes)) (sym last))

pub stand_form : chunked.RefusalsStand → TrailedRefusalsStand → (form : Form) (announced : Announced) (bytes : List ℕ) (place : ℕ) (code : Code)
    → JudgesForm form announced bytes false (Refused place code)
    → (place ≤ length bytes) × JudgesForm form announced (take place bytes) false (Refused place code)
stand_form law trails (Whole hash digests) announced bytes place code is = whole_stands hash digests announced.length place bytes code is
stand_form law trails (Chunks decoded) announced bytes place code judged = law (terms_of announced decoded) bytes place code judged
stand_form law trails (TrailedChunks decoded algorithm signed) announced bytes place code is = trails algorithm (trailed_terms announced decoded algorithm signed) bytes place code is

-- what is refused within some bytes isn't open behind them
pub behind_form : chunked.RefusalsStand → chunked.VerdictsStay → chunked.VerdictsAreOne → TrailedRefusalsStand → TrailedStay
    → (form : Form) (announced : Announced) (bytes more held : List ℕ) (place : ℕ) (code : Code)
    → JudgesForm form announced bytes false (Open held) → JudgesForm form announced (bytes ++ more) false (Refused place code)
    → (length bytes < place) × (place ≤ length (bytes ++ more))
behind_form stand stay one trails trails_stay form announced bytes more held place code still refused =
    let front = stand_form stand trails form announced (bytes ++ more) place code refused in
    elim (cases_lt (length bytes) place) [
      | inl behind ↦ (behind, front.0)
      | inr within ↦
          let same = take-append-le place bytes more within in
          let stays = stay_form stay trails_stay form announced (take place bytes) (drop place bytes) false (Refused place code)
          (subst (λ (text : List ℕ). JudgesForm form announced text false (Refused place code)) same front.1) tt in
          let early = subst (λ (text : List ℕ). JudgesForm form announced text false (Refused place code)) (take-append-drop place bytes) stays in
          absurd (one_form one form announced bytes false (Refused place code) (Open held) early still)
    ]

-- and the reader has taken the bytes up to there
pub stop_mode : ReadersJudge → chunked.RefusalsStand → chunked.VerdictsStay → chunked.VerdictsAreOne → TrailedJudge → TrailedRefusalsStand → TrailedStay
    → (mode : Mode) (announced : Announced) (bytes piece held : List ℕ) (code : Code)
    → JudgesForm announced.form announced bytes false (Open held) → ModeStands mode announced (bytes ++ piece) false → ModeFailed mode code
    → (length bytes < mode_taken mode) × (mode_taken mode ≤ length (bytes ++ piece))
stop_mode judge stand stay one trails_judge trails trails_stay mode announced bytes piece held code still stands failed =
    let says = fail_mode mode announced (bytes ++ piece) false code stands failed in
    behind_form stand stay one trails trails_stay announced.form announced bytes piece held (mode_taken mode) code still
    (subst (λ (verdict : Verdict). JudgesForm announced.form announced (bytes ++ piece) false verdict) says
    (judge_mode judge trails_judge mode announced (bytes ++ piece) false stands))

-- ---- a reader that has neither refused nor accepted

stage_open : (stage : Stage) (bytes : List ℕ) → ((code : Code) → ¬ (stage ≡ stages.Failed code)) → accepts (told bytes stage) ≡ false
    → (held : List ℕ) × (told bytes stage ≡ Open held)
stage_open stages.Reading bytes never is = (bytes, refl)
stage_open stages.Passed bytes never is = absurd (cc)
stage_open (stages.Failed code) bytes never is = absurd (never code refl)

phase_open : (lost : Bool) (phase : Phase) (taken : ℕ) (held : List ℕ)
    → ((code : Code) → ¬ ((if lost then Some InternalError else option_map code_of (fault_at phase)) ≡ Some code))
    → accepts (verdict_at phase taken held) ≡ false → (others : List ℕ) × (verdict_at phase taken held ≡ Open others)
phase_open true phase taken held never is = absurd (never InternalError refl)
phase_open false (phases.Refused fault) taken held never is = absurd (never (code_of fault) refl)
phase_open false phases.Over taken held never is = absurd (cc)
phase_open false (phases.Size digits) taken held never is = (held, refl)
phase_open false (phases.Line place size) taken held never is = (held, refl)
phase_open false (phases.Data left last) taken held never is = (held, refl)
phase_open false (phases.Ending last) taken held never is = (held, refl)

pub open_stays : (mode : Mode) → ((code : Code) → ¬ (ModeFailed mode code)) → accepts (mode_verdict mode) ≡ false
    → (held : List ℕ) × (mode_verdict mode ≡ Open held)
open_stays (modes.Whole whole) never is = stage_open whole.stage whole.bytes never is
open_stays (modes.Chunks chunks) never is =
    phase_open chunks.chunks.lost chunks.chunks.decoder.place.phase chunks.chunks.decoder.place.span.taken chunks.payload never is
open_stays (modes.Trailed trailed) never is = trailed_open trailed never is
