-- How a reader of a whole body stands after a piece more, and at the end of input.
use Rattle.std.proofs.Common.{◌≡◌, ℕ, ◌-◌, ◌≤◌, Bool, true, false, min, List, [], ◌++◌, length, take, refl, sym, ap, ◌∙◌, arith, Option, Result, Ok, Err, inl, inr}
use Rattle.std.specs.Prelude.{⊤}
use Rattle.std.proofs.lemmas.Bool.{cases_lt}
use Rattle.std.proofs.lemmas.List.{append-nil, take_all, length-append, length-take, length-take-le, take-append-le}
use Rattle.s3_terms.specs.declared.code.Code.{Code}
use Rattle.s3_payloads.specs.declared.form.Digests.{Digests}
use Rattle.s3_payloads.specs.declared.whole.Stage.{Stage}
use Rattle.s3_payloads.specs.declared.whole.Stage.TheVariants as stages
use Rattle.s3_aws_chunked.specs.Reader.{said_at_end}
use Rattle.s3_aws_chunked.specs.Verdict.{Accepted, Open, Refused}
use Rattle.s3_payloads.specs.Verdict.{checked_data, decided_at, whole_verdict}
use Rattle.s3_payloads.specs.Whole.{FinishedAt, EndedAt, FedAt, IsOpen, IsRead, WholeEnded, WholeFed, WholeStands, WholeState, answered, at_stage, body_part, told, verdict_on}
use Rattle.s3_payloads.specs.Outcome.{finished, part_of}
use Rattle.s3_terms.specs.declared.code.Code.TheVariants.{IncompleteBody}
use Rattle.s3_payloads.proofs.WholeLemmas.{cut_at, nat_le-false, nat_le-true, never_open, decided_never_open, undecided}

-- ---- what comes behind Content-Length

-- the first bytes stay, whatever follows
front_stays : (size : ℕ) (bytes more : List ℕ) → size ≤ length bytes → take size (bytes ++ more) ≡ take size bytes
front_stays size bytes more le = take-append-le size bytes more le

-- and a verdict on them all stays
pub verdict_stays : (hash : Option (List ℕ)) (digests : Digests) (size : ℕ) (ended : Bool) (bytes more : List ℕ) → size ≤ length bytes
    → whole_verdict hash digests size ended (bytes ++ more) ≡ whole_verdict hash digests size false bytes
unfolding whole_verdict
verdict_stays hash digests size ended bytes more le =
    rw (nat_le-true size (length (bytes ++ more)) (omega (arith, length-append bytes more)), nat_le-true size (length bytes) le, front_stays size bytes more le) refl

-- what was taken of the bytes, and a piece more, has the front that the bytes and the piece have
front_same : (size : ℕ) (bytes piece : List ℕ) → take size (take size bytes ++ piece) ≡ take size (bytes ++ piece)
front_same size bytes piece = elim (cases_lt (length bytes) size) [
  | inl part ↦ rw (take_all size bytes (omega arith)) refl
  | inr whole ↦
      let many : length (take size bytes) ≡ size = length-take-le size bytes whole in
      rw (front_stays size (take size bytes) piece (omega arith), take_all size (take size bytes) (omega arith), front_stays size bytes piece whole) refl
]

-- and the verdict that they have
verdict_same : (hash : Option (List ℕ)) (digests : Digests) (size : ℕ) (bytes piece : List ℕ)
    → whole_verdict hash digests size false (take size bytes ++ piece) ≡ whole_verdict hash digests size false (bytes ++ piece)
unfolding whole_verdict
verdict_same hash digests size bytes piece = elim (cases_lt (length bytes) size) [
  | inl part ↦ rw (take_all size bytes (omega arith)) refl
  | inr whole ↦
      let many : length (take size bytes) ≡ size = length-take-le size bytes whole in
      rw (nat_le-true size (length (take size bytes ++ piece)) (omega (arith, length-append (take size bytes) piece)), nat_le-true size (length (bytes ++ piece)) (omega (arith, length-append bytes piece)), front_same size bytes piece) refl
]

-- a refusal before the end of input comes where all bytes of Content-Length have come
pub refused_whole : (hash : Option (List ℕ)) (digests : Digests) (size place : ℕ) (bytes : List ℕ) (code : Code)
    → Refused place code ≡ whole_verdict hash digests size false bytes → size ≤ length bytes
unfolding whole_verdict
refused_whole hash digests size place bytes code is = elim (cases_lt (length bytes) size) [
  | inl part ↦ let other = rw (nat_le-false size (length bytes) part) at is in absurd (cc)
  | inr whole ↦ whole
]

-- the part of a piece by what was taken
part_same : (old : WholeState) (hash : Option (List ℕ)) (digests : Digests) (size : ℕ) (bytes piece : List ℕ) → WholeStands old hash digests size bytes false
    → body_part old piece ≡ part_of size bytes piece
part_same old hash digests size bytes piece stands =
    rw (stands.size_is, stands.taken) (omega (arith, length-take size bytes))

-- what was taken of the bytes has the verdict that they have
verdict_front : (hash : Option (List ℕ)) (digests : Digests) (size : ℕ) (bytes : List ℕ)
    → whole_verdict hash digests size true (take size bytes) ≡ whole_verdict hash digests size true bytes
unfolding whole_verdict
verdict_front hash digests size bytes = elim (cases_lt (length bytes) size) [
  | inl part ↦ ap (whole_verdict hash digests size true) (take_all size bytes (omega arith))
  | inr whole ↦
      let many : length (take size bytes) ≡ size = length-take-le size bytes whole in
      rw (nat_le-true size (length (take size bytes)) (omega arith), nat_le-true size (length bytes) whole) (ap (λ (front : List ℕ). decided_at size (checked_data hash digests front)) (take_all size (take size bytes) (omega arith)))
]

-- ---- a piece

-- more than there is of a piece is all of it
take_min : (more : ℕ) (piece : List ℕ) → take (min (length piece) more) piece ≡ take more piece
take_min more piece = elim (cases_lt more (length piece)) [
  | inl part ↦ let least : min (length piece) more ≡ more = omega arith in rw least refl
  | inr whole ↦
      let all : min (length piece) more ≡ length piece = omega arith in
      rw (all, take_all (length piece) piece (omega arith), take_all more piece whole) refl
]

-- the front of two texts is that of the first one, and of the second one what it leaves room for
take_both : (size : ℕ) (bytes piece : List ℕ) → take size bytes ++ take (size - length bytes) piece ≡ take size (bytes ++ piece)
take_both size bytes piece = elim (cases_lt (length bytes) size) [
  | inl part ↦ rw (take_all size bytes (omega arith), cut_at bytes piece (size - length bytes) size (omega arith)) refl
  | inr whole ↦
      let none : size - length bytes ≡ 0 = omega arith in
      rw (none, front_stays size bytes piece whole) (append-nil (take size bytes))
]

-- the bytes that were taken, once the body's part of the piece is
taken_more : (old new : WholeState) (hash : Option (List ℕ)) (digests : Digests) (size : ℕ) (bytes piece : List ℕ) → WholeStands old hash digests size bytes false
    → new.bytes ≡ old.bytes ++ take (body_part old piece) piece → new.bytes ≡ take size (bytes ++ piece)
taken_more old new hash digests size bytes piece stands is =
    rw (is, part_same old hash digests size bytes piece stands, stands.taken, take_min (size - length bytes) piece) (take_both size bytes piece)

-- the reader has read it
read_stands : (old new : WholeState) (hash : Option (List ℕ)) (digests : Digests) (size : ℕ) (bytes piece : List ℕ) (result : Result ℕ Code)
    → WholeStands old hash digests size bytes false → IsRead old piece result new → WholeStands new hash digests size (bytes ++ piece) false
read_stands old new hash digests size bytes piece result stands read = record {
  hash_is = rw read.same (stands.hash_is);
  digests_are = rw read.same (stands.digests_are);
  size_is = rw read.same (stands.size_is);
  taken = taken_more old new hash digests size bytes piece stands read.taken;
  told = read.told ∙ rw (stands.hash_is, stands.digests_are, stands.size_is, stands.taken) (verdict_same hash digests size bytes piece);
}

-- a stage that is no refusal is none
open_stage : (s : WholeState) (stage : Stage) → s.stage ≡ stage → IsOpen stage → (code : Code) → ¬ (s.stage ≡ stages.Failed code)
open_stage s stages.Reading is open_yet code failed = let both = sym is ∙ failed in cc
open_stage s stages.Passed is open_yet code failed = let both = sym is ∙ failed in cc
open_stage s (stages.Failed other) is open_yet code failed = open_yet

-- what is answered then
read_answers : (hash : Option (List ℕ)) (digests : Digests) (size len : ℕ) (bytes piece : List ℕ) (result : Result ℕ Code) (new : WholeState) (stage : Stage)
    → WholeStands new hash digests size (bytes ++ piece) false → len ≡ part_of size bytes piece
    → new.stage ≡ stage → result ≡ answered len stage → WholeFed hash digests size bytes piece result new
read_answers hash digests size len bytes piece result new stages.Reading stands part is answer = rw answer (part, stands, open_stage new stages.Reading is tt)
read_answers hash digests size len bytes piece result new stages.Passed stands part is answer = rw answer (part, stands, open_stage new stages.Passed is tt)
read_answers hash digests size len bytes piece result new (stages.Failed code) stands part is answer = rw answer (is, inr stands)

read_fed : (old new : WholeState) (hash : Option (List ℕ)) (digests : Digests) (size : ℕ) (bytes piece : List ℕ) (result : Result ℕ Code)
    → WholeStands old hash digests size bytes false → IsRead old piece result new → WholeFed hash digests size bytes piece result new
read_fed old new hash digests size bytes piece result stands read =
    read_answers hash digests size (body_part old piece) bytes piece result new new.stage
    (read_stands old new hash digests size bytes piece result stands read) (part_same old hash digests size bytes piece stands) refl read.answer

-- a reader that has refused stands so, whatever follows
failed_stands : (old : WholeState) (hash : Option (List ℕ)) (digests : Digests) (size : ℕ) (bytes piece : List ℕ) (code : Code)
    → WholeStands old hash digests size bytes false → old.stage ≡ stages.Failed code → WholeStands old hash digests size (bytes ++ piece) false
failed_stands old hash digests size bytes piece code stands is =
    let told_so = rw is at (stands.told) in
    let whole = refused_whole hash digests size (length old.bytes) bytes code told_so in
    record {
      hash_is = stands.hash_is;
      digests_are = stands.digests_are;
      size_is = stands.size_is;
      taken = stands.taken ∙ sym (front_stays size bytes piece whole);
      told = stands.told ∙ sym (verdict_stays hash digests size false bytes piece whole);
    }

-- what a piece brings
pub whole_fed : (stage : Stage) (old new : WholeState) (hash : Option (List ℕ)) (digests : Digests) (size : ℕ) (bytes piece : List ℕ) (result : Result ℕ Code)
    → old.stage ≡ stage → WholeStands old hash digests size bytes false → FedAt stage old piece result new
    → WholeFed hash digests size bytes piece result new
whole_fed stages.Reading old new hash digests size bytes piece result is stands (inr read) =
    read_fed old new hash digests size bytes piece result stands read
whole_fed stages.Reading old new hash digests size bytes piece result is stands (inl ran) =
    rw (ran.answer) (rw (ran.failed) refl, inl (refl, rw (← (part_same old hash digests size bytes piece stands)) (ran.wanted)))
whole_fed stages.Passed old new hash digests size bytes piece result is stands read =
    read_fed old new hash digests size bytes piece result stands read
whole_fed (stages.Failed code) old new hash digests size bytes piece result is stands (answer, same) =
    rw (answer, same) (is, inr (failed_stands old hash digests size bytes piece code stands is))

-- ---- the end of input

ended_stands : (old new : WholeState) (hash : Option (List ℕ)) (digests : Digests) (size : ℕ) (bytes : List ℕ)
    → WholeStands old hash digests size bytes false → new ≡ at_stage old new.stage → told new.bytes new.stage ≡ verdict_on old true old.bytes
    → WholeStands new hash digests size bytes true
ended_stands old new hash digests size bytes stands same is = record {
  hash_is = rw same (stands.hash_is);
  digests_are = rw same (stands.digests_are);
  size_is = rw same (stands.size_is);
  taken = rw same (stands.taken);
  told = is ∙ rw (stands.hash_is, stands.digests_are, stands.size_is, stands.taken) (verdict_front hash digests size bytes);
}

-- nothing changes for a reader that has refused
failed_ended : (old : WholeState) (hash : Option (List ℕ)) (digests : Digests) (size : ℕ) (bytes : List ℕ) (code : Code)
    → WholeStands old hash digests size bytes false → old.stage ≡ stages.Failed code → WholeStands old hash digests size bytes true
failed_ended old hash digests size bytes code stands is =
    let whole = refused_whole hash digests size (length old.bytes) bytes code (rw is at (stands.told)) in
    record {
      hash_is = stands.hash_is;
      digests_are = stands.digests_are;
      size_is = stands.size_is;
      taken = stands.taken;
      told = stands.told ∙ sym (verdict_stays hash digests size true bytes [] whole) ∙ ap (whole_verdict hash digests size true) (append-nil bytes);
    }

end_answers : (s : WholeState) (hash : Option (List ℕ)) (digests : Digests) (size : ℕ) (bytes : List ℕ) (result : Result ⊤ Code) (stage : Stage)
    → WholeStands s hash digests size bytes true → s.stage ≡ stage → result ≡ answered tt stage → WholeEnded hash digests size bytes result s
end_answers s hash digests size bytes result stages.Reading stands is answer =
    absurd (never_open hash digests size bytes s.bytes (rw is at (stands.told)))
end_answers s hash digests size bytes result stages.Passed stands is answer = rw answer (stands, is)
end_answers s hash digests size bytes result (stages.Failed code) stands is answer = rw answer (stands, is)

-- what the end of input brings
pub whole_ended : (stage : Stage) (old new : WholeState) (hash : Option (List ℕ)) (digests : Digests) (size : ℕ) (bytes : List ℕ) (result : Result ⊤ Code)
    → old.stage ≡ stage → WholeStands old hash digests size bytes false → EndedAt stage old result new
    → WholeEnded hash digests size bytes result new
whole_ended stages.Reading old new hash digests size bytes result is stands (same, told_so, answer) =
    end_answers new hash digests size bytes result new.stage (ended_stands old new hash digests size bytes stands same told_so) refl answer
whole_ended stages.Passed old new hash digests size bytes result is stands (same, told_so, answer) =
    end_answers new hash digests size bytes result new.stage (ended_stands old new hash digests size bytes stands same told_so) refl answer
whole_ended (stages.Failed code) old new hash digests size bytes result is stands (answer, same) =
    rw (answer, same) (failed_ended old hash digests size bytes code stands is, is)

finish_verdict : (s : WholeState) (hash : Option (List ℕ)) (digests : Digests) (size : ℕ) (bytes : List ℕ) (ended : Bool) → WholeStands s hash digests size bytes ended
    → verdict_on s true s.bytes ≡ whole_verdict hash digests size true bytes
finish_verdict s hash digests size bytes ended stands =
    rw (stands.hash_is, stands.digests_are, stands.size_is, stands.taken) (verdict_front hash digests size bytes)

-- a body that is open is incomplete where it ends
pub open_ends : (hash : Option (List ℕ)) (digests : Digests) (size : ℕ) (bytes held : List ℕ) (ended : Bool) → Open held ≡ whole_verdict hash digests size ended bytes
    → whole_verdict hash digests size true bytes ≡ Refused (length bytes) IncompleteBody
unfolding whole_verdict
open_ends hash digests size bytes held ended is = elim (cases_lt (length bytes) size) [
  | inl part ↦ rw (nat_le-false size (length bytes) part) refl
  | inr whole ↦ absurd (decided_never_open size (checked_data hash digests (take size bytes)) held (rw (nat_le-true size (length bytes) whole) at is))
]

-- a body that is accepted stays so where it ends
accepted_ends : (hash : Option (List ℕ)) (digests : Digests) (size : ℕ) (bytes held : List ℕ) (ended : Bool) → Accepted held ≡ whole_verdict hash digests size ended bytes
    → whole_verdict hash digests size true bytes ≡ Accepted held
unfolding whole_verdict
accepted_ends hash digests size bytes held ended is = elim (cases_lt (length bytes) size) [
  | inl part ↦ absurd (undecided (length bytes) bytes held IncompleteBody ended (rw (nat_le-false size (length bytes) part) at is))
  | inr whole ↦ sym (is ∙ rw (nat_le-true size (length bytes) whole) refl)
]

stage_refused : (bytes : List ℕ) (place : ℕ) (code : Code) (stage : Stage) → told bytes stage ≡ Refused place code → stage ≡ stages.Failed code
stage_refused bytes place code stages.Reading is = absurd (cc)
stage_refused bytes place code stages.Passed is = absurd (cc)
stage_refused bytes place code (stages.Failed other) is = let same : other ≡ code = cc in ap stages.Failed same

stage_accepted : (bytes held : List ℕ) (stage : Stage) → told bytes stage ≡ Accepted held → stage ≡ stages.Passed
stage_accepted bytes held stages.Reading is = absurd (cc)
stage_accepted bytes held stages.Passed is = refl
stage_accepted bytes held (stages.Failed other) is = absurd (cc)

-- what the end of input is answered
pub whole_said : (stage : Stage) (old new : WholeState) (hash : Option (List ℕ)) (digests : Digests) (size : ℕ) (bytes : List ℕ) (result : Result ⊤ Code)
    → old.stage ≡ stage → WholeStands old hash digests size bytes false → EndedAt stage old result new
    → result ≡ said_at_end (told old.bytes stage)
whole_said stages.Reading old new hash digests size bytes result is stands (same, told_so, answer) =
    let ends = open_ends hash digests size bytes old.bytes false (rw is at (stands.told)) in
    let stage = stage_refused new.bytes (length bytes) IncompleteBody new.stage (told_so ∙ finish_verdict old hash digests size bytes false stands ∙ ends) in
    rw stage at answer
whole_said stages.Passed old new hash digests size bytes result is stands (same, told_so, answer) =
    let ends = accepted_ends hash digests size bytes old.bytes false (rw is at (stands.told)) in
    let stage = stage_accepted new.bytes old.bytes new.stage (told_so ∙ finish_verdict old hash digests size bytes false stands ∙ ends) in
    rw stage at answer
whole_said (stages.Failed code) old new hash digests size bytes result is stands (answer, same) = answer

-- what is handed out
pub whole_finished : (stage : Stage) (s : WholeState) (hash : Option (List ℕ)) (digests : Digests) (size : ℕ) (bytes : List ℕ) (ended : Bool) (result : Result (List ℕ) Code)
    → s.stage ≡ stage → WholeStands s hash digests size bytes ended → FinishedAt stage s result
    → result ≡ finished (told s.bytes stage)
whole_finished stages.Reading s hash digests size bytes ended (Ok payload) is stands done =
    let ends = open_ends hash digests size bytes s.bytes ended (rw is at (stands.told)) in
    let both = sym done ∙ finish_verdict s hash digests size bytes ended stands ∙ ends in
    absurd (cc)
whole_finished stages.Reading s hash digests size bytes ended (Err code) is stands done =
    let ends = open_ends hash digests size bytes s.bytes ended (rw is at (stands.told)) in
    let both = sym done ∙ finish_verdict s hash digests size bytes ended stands ∙ ends in
    cc
whole_finished stages.Passed s hash digests size bytes ended (Ok payload) is stands done =
    let ends = accepted_ends hash digests size bytes s.bytes ended (rw is at (stands.told)) in
    let both = sym done ∙ finish_verdict s hash digests size bytes ended stands ∙ ends in
    cc
whole_finished stages.Passed s hash digests size bytes ended (Err code) is stands done =
    let ends = accepted_ends hash digests size bytes s.bytes ended (rw is at (stands.told)) in
    let both = sym done ∙ finish_verdict s hash digests size bytes ended stands ∙ ends in
    absurd (cc)
whole_finished (stages.Failed code) s hash digests size bytes ended result is stands done = done
