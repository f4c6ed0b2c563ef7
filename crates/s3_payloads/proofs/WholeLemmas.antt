-- What is known of the verdict on a body that is sent as it is.
use Rattle.std.proofs.Common.{◌≡◌, ℕ, ◌-◌, ◌<◌, ◌≤◌, Bool, true, false, min, nat_le, if◌then◌else◌, List, ◌++◌, ◌+◌, length, take, refl, sym, ap, ◌∙◌, arith, [], Option, Result, Ok, Err, inl, inr}
use Rattle.std.specs.Prelude.{⊤, IfErr, IfOk}
use Rattle.std.proofs.lemmas.Bool.Decides.{nat_tests}
use Rattle.std.proofs.lemmas.List.{append-nil, take_all, length-append, length-take-le}
use Rattle.std.proofs.lemmas.Bool.{cases_Bool, cases_lt}
use Rattle.std.proofs.Math.Seq.{take-append-add, take-append_seam}
use Rattle.s3_terms.specs.declared.code.Code.{Code}
use Rattle.s3_payloads.specs.declared.form.Digests.{Digests}
use Rattle.s3_payloads.specs.declared.whole.Stage.{Stage}
use Rattle.s3_payloads.specs.declared.whole.Stage.TheVariants as stages
use Rattle.s3_payloads.specs.Whole.{EndedAt, FedAt, FinishedAt, WholeState, IsRead, IsStage, answered, at_stage, body_part, told, verdict_on, with_bytes}
use Rattle.s3_aws_chunked.specs.Verdict.{Accepted, Open, Refused}
use Rattle.s3_payloads.specs.Verdict.{checked_data, decided_at, whole_verdict}

pub nat_le-true : (m n : ℕ) → m ≤ n → nat_le m n ≡ true
nat_le-true m n le = grind (arith, nat_tests)

pub nat_le-false : (m n : ℕ) → n < m → nat_le m n ≡ false
nat_le-false m n lt = grind (arith, nat_tests)

-- a body of which bytes are to come is not accepted
pub undecided : (place : ℕ) (bytes held : List ℕ) (code : Code) (ended : Bool) → Accepted held ≡ (if ended then Refused place code else Open bytes) → ⊥
undecided place bytes held code true is = cc
undecided place bytes held code false is = cc

-- once it is whole, it is judged
pub whole_bytes : (hash : Option (List ℕ)) (digests : Digests) (size : ℕ) (ended : Bool) (bytes : List ℕ) → length bytes ≡ size
    → whole_verdict hash digests size ended bytes ≡ decided_at (length bytes) (checked_data hash digests bytes)
unfolding whole_verdict
whole_bytes hash digests size ended bytes many =
    let all : take size bytes ≡ bytes = take_all size bytes (omega arith) in
    grind (arith, nat_tests, all)

-- the first bytes of two texts, where they are more than the first of these has
pub cut_at : (bytes piece : List ℕ) (more size : ℕ) → size ≡ length bytes + more → take size (bytes ++ piece) ≡ bytes ++ take more piece
cut_at bytes piece more size is = rw is (take-append-add bytes piece more)

-- what comes behind the last byte is not judged, and is not taken
pub verdict_cut : (hash : Option (List ℕ)) (digests : Digests) (size : ℕ) (bytes piece : List ℕ) → length bytes ≤ size
    → whole_verdict hash digests size false (bytes ++ take (min (length piece) (size - length bytes)) piece)
    ≡ whole_verdict hash digests size false (bytes ++ piece)
unfolding whole_verdict
verdict_cut hash digests size bytes piece within = elim (cases_lt (size - length bytes) (length piece)) [
  | inr short ↦
      let part : min (length piece) (size - length bytes) ≡ length piece = omega arith in
      rw (part, take_all (length piece) piece (omega arith)) refl
  | inl long ↦
      let part : min (length piece) (size - length bytes) ≡ size - length bytes = omega arith in
      let cut = cut_at bytes piece (size - length bytes) size (omega arith) in
      let many : length (bytes ++ take (size - length bytes) piece) ≡ size =
      omega (arith, length-append bytes (take (size - length bytes) piece), length-take-le (size - length bytes) piece (omega arith)) in
      let more : size ≤ length (bytes ++ piece) = omega (arith, length-append bytes piece) in
      let all : take size (bytes ++ take (size - length bytes) piece) ≡ bytes ++ take (size - length bytes) piece = take_all size _ (omega arith) in
      rw (part, nat_le-true size (length (bytes ++ take (size - length bytes) piece)) (omega arith), nat_le-true size (length (bytes ++ piece)) more, all, cut) refl
]

-- the body's part of a piece was taken and judged
pub read_part : (old read new : WholeState) (piece : List ℕ) (stage : Stage) (len : ℕ) (result : Result ℕ Code)
    → length old.bytes ≤ old.size
    → read ≡ with_bytes old (old.bytes ++ take (body_part old piece) piece)
    → new ≡ at_stage read stage
    → told read.bytes stage ≡ verdict_on read false read.bytes
    → len ≡ body_part old piece
    → result ≡ answered len stage
    → IsRead old piece result new
read_part old read new piece stage len result within taken is judged part answer =
    let told_cut = rw taken at judged in
    record {
      taken = rw (is, taken) refl;
      same = rw (is, taken) refl;
      told = rw (is, taken) (told_cut ∙ verdict_cut old.hash old.digests old.size old.bytes piece within);
      answer = rw (is, ← part) answer;
    }

-- a body that has passed stays accepted, whatever comes behind it
pub passed_verdict : (s : WholeState) (ended : Bool) (more : List ℕ) → IsStage s.hash s.digests s.size s.bytes stages.Passed
    → verdict_on s ended (s.bytes ++ more) ≡ Accepted s.bytes
unfolding whole_verdict
passed_verdict s ended more (many, passed) =
    let whole : take s.size (s.bytes ++ more) ≡ s.bytes = rw (← many) (take-append_seam s.bytes more) in
    rw (nat_le-true s.size (length (s.bytes ++ more)) (omega (arith, length-append s.bytes more)), whole, passed) refl

-- and then nothing is taken
pub pass_part : (s : WholeState) (piece : List ℕ) → IsStage s.hash s.digests s.size s.bytes s.stage → s.stage ≡ stages.Passed
    → IsRead s piece (Ok 0) s
pass_part s piece kept is =
    let passed = rw is at kept in
    let part : body_part s piece ≡ 0 = omega (arith, passed.0) in
    record {
      taken = rw part (sym (append-nil s.bytes));
      same = refl;
      told = rw is (sym (passed_verdict s false piece passed));
      answer = rw (part, is) refl;
    }

-- and nothing changes at the end
pub pass_end : (stage : Stage) (s : WholeState) → IsStage s.hash s.digests s.size s.bytes s.stage → s.stage ≡ stage
    → stage ≡ stages.Passed → EndedAt stage s (Ok tt) s
pass_end stages.Reading s kept is other = absurd (cc)
pass_end (stages.Failed code) s kept is other = absurd (cc)
pass_end stages.Passed s kept is other =
    let passed = rw is at kept in
    (refl, rw is (sym (rw append-nil at (passed_verdict s true [] passed))), rw is refl)

pub decided_never_open : (place : ℕ) (judged : Result (List ℕ) Code) (bytes : List ℕ) → Open bytes ≡ decided_at place judged → ⊥
decided_never_open place (Ok all) bytes is = cc
decided_never_open place (Err code) bytes is = cc

-- nothing stays open once no more bytes come
pub never_open : (hash : Option (List ℕ)) (digests : Digests) (size : ℕ) (bytes other : List ℕ) → Open other ≡ whole_verdict hash digests size true bytes → ⊥
unfolding whole_verdict
never_open hash digests size bytes other is = elim (cases_Bool (nat_le size (length bytes))) [
  | inl whole ↦ decided_never_open size (checked_data hash digests (take size bytes)) other (rw whole at is)
  | inr part ↦ let refused = rw part at is in cc
]

ended_ok : (s new : WholeState) (stage : Stage) (result : Result ⊤ Code) → told new.bytes stage ≡ verdict_on s true s.bytes
    → result ≡ answered tt stage → result ≡ Ok tt → verdict_on s true s.bytes ≡ Accepted new.bytes
ended_ok s new stages.Reading result is answer ok = absurd (never_open s.hash s.digests s.size s.bytes new.bytes is)
ended_ok s new stages.Passed result is answer ok = sym is
ended_ok s new (stages.Failed code) result is answer ok = let other = sym answer ∙ ok in absurd (cc)

-- what is handed out where the end of input brings no refusal
pub finish_ok : (stage : Stage) (s new : WholeState) (result : Result ⊤ Code) → EndedAt stage s result new → result ≡ Ok tt
    → FinishedAt stage s (Ok new.bytes)
finish_ok stages.Reading s new result (same, is, answer) ok = ended_ok s new new.stage result is answer ok
finish_ok stages.Passed s new result (same, is, answer) ok = ended_ok s new new.stage result is answer ok
finish_ok (stages.Failed code) s new result (refused, same) ok = let other = sym refused ∙ ok in absurd (cc)

-- ---- a refusal is kept

answered_err : {A : Type 0} (result : Result A Code) (value : A) (s : WholeState) (stage : Stage) → s.stage ≡ stage → result ≡ answered value stage
    → IfErr result (λ code. s.stage ≡ stages.Failed code)
answered_err result value s stages.Reading is answer = rw answer tt
answered_err result value s stages.Passed is answer = rw answer tt
answered_err result value s (stages.Failed code) is answer = rw answer is

pub fed_err : (stage : Stage) (old new : WholeState) (piece : List ℕ) (result : Result ℕ Code) → old.stage ≡ stage → FedAt stage old piece result new
    → IfErr result (λ code. new.stage ≡ stages.Failed code)
fed_err stages.Reading old new piece result is (inl ran) = rw (ran.answer) (rw (ran.failed) refl)
fed_err stages.Reading old new piece result is (inr read) = answered_err result (body_part old piece) new new.stage refl read.answer
fed_err stages.Passed old new piece result is read = answered_err result (body_part old piece) new new.stage refl read.answer
fed_err (stages.Failed code) old new piece result is (answer, same) = rw (answer, same) is

pub ended_err : (stage : Stage) (old new : WholeState) (result : Result ⊤ Code) → old.stage ≡ stage → EndedAt stage old result new
    → IfErr result (λ code. new.stage ≡ stages.Failed code)
ended_err stages.Reading old new result is (same, told_so, answer) = answered_err result tt new new.stage refl answer
ended_err stages.Passed old new result is (same, told_so, answer) = answered_err result tt new new.stage refl answer
ended_err (stages.Failed code) old new result is (answer, same) = rw (answer, same) is

-- ---- what a piece adds to the count

answered_count : (result : Result ℕ Code) (value old new : ℕ) (stage : Stage) → new ≡ old + value → result ≡ answered value stage
    → IfOk result (λ n. new ≡ old + n)
answered_count result value old new stages.Reading more answer = rw answer more
answered_count result value old new stages.Passed more answer = rw answer more
answered_count result value old new (stages.Failed code) more answer = rw answer tt

read_count : (old new : WholeState) (piece : List ℕ) (result : Result ℕ Code) → IsRead old piece result new
    → length new.bytes ≡ length old.bytes + body_part old piece
read_count old new piece result read =
    let long = length-append old.bytes (take (body_part old piece) piece) in
    ap length read.taken ∙ long ∙ ap (λ (n : ℕ). length old.bytes + n) (length-take-le (body_part old piece) piece (omega arith))

pub fed_count : (stage : Stage) (old new : WholeState) (piece : List ℕ) (result : Result ℕ Code) → FedAt stage old piece result new
    → IfOk result (λ n. length new.bytes ≡ length old.bytes + n)
fed_count stages.Reading old new piece result (inl ran) = rw (ran.answer) tt
fed_count stages.Reading old new piece result (inr read) =
    answered_count result (body_part old piece) (length old.bytes) (length new.bytes) new.stage (read_count old new piece result read) read.answer
fed_count stages.Passed old new piece result read =
    answered_count result (body_part old piece) (length old.bytes) (length new.bytes) new.stage (read_count old new piece result read) read.answer
fed_count (stages.Failed code) old new piece result (answer, same) = rw answer tt

pub fed_counts : (stage : Stage) (old new : WholeState) (piece : List ℕ) (result : Result ℕ Code) → FedAt stage old piece result new
    → (length old.bytes ≤ length new.bytes) × (length new.bytes ≤ length old.bytes + length piece)
fed_counts stages.Reading old new piece result (inl ran) = rw (ran.failed) (omega arith, omega arith)
fed_counts stages.Reading old new piece result (inr read) =
    let more = read_count old new piece result read in (omega (arith, more), omega (arith, more))
fed_counts stages.Passed old new piece result read =
    let more = read_count old new piece result read in (omega (arith, more), omega (arith, more))
fed_counts (stages.Failed code) old new piece result (answer, same) = rw same (omega arith, omega arith)

-- and the end of input adds none
pub ended_bytes : (stage : Stage) (old new : WholeState) (result : Result ⊤ Code) → EndedAt stage old result new → new.bytes ≡ old.bytes
ended_bytes stages.Reading old new result (same, told_so, answer) = ap (λ (s : WholeState). s.bytes) same
ended_bytes stages.Passed old new result (same, told_so, answer) = ap (λ (s : WholeState). s.bytes) same
ended_bytes (stages.Failed code) old new result (answer, same) = ap (λ (s : WholeState). s.bytes) same
