-- How the reader of a body that is sent as it is stands.
-- Only clauses of private functions cite these, and nobody has to believe them.
use Rattle.std.specs.Prelude.{◌≡◌, ◌⊎◌, ℕ, ◌-◌, ◌<◌, Bool, true, false, min, List, ◌++◌, length, take, Option, Some, None, Result, Ok, Err, ⊤}
use Rattle.sha2.specs.Hashers.{Holds256}
use Rattle.s3_integrity.specs.declared.checksum.Checksum.{Checksum}
use Rattle.s3_integrity.specs.Hasher.{Holds}
use Rattle.s3_integrity.specs.Sum.{algorithm_of}
use Rattle.s3_terms.specs.declared.code.Code.{Code}
use Rattle.s3_terms.specs.declared.code.Code.TheVariants.{InternalError}
use Rattle.s3_payloads.specs.Outcome.{EndedTo, FedTo, part_of}
use Rattle.s3_payloads.specs.declared.whole.Stage.{Stage}
use Rattle.s3_payloads.specs.declared.whole.Stage.TheVariants as stages
use Rattle.s3_payloads.specs.declared.form.Digests.{Digests}
use Rattle.s3_payloads.specs.declared.running_hash.RunningHash.{RunningHash}
use Rattle.s3_payloads.specs.declared.running_sum.RunningSum.{RunningSum}
use Rattle.s3_aws_chunked.specs.Verdict.{Verdict, Open, Accepted, Refused}
use Rattle.s3_payloads.specs.Verdict.{checked_data, whole_verdict}

-- what the reader knows: what has to be found, how many bytes there are, and those that were taken
pub record WholeState : Type 0 where
  pub hash : Option (List ℕ)
  pub digests : Digests
  pub size : ℕ
  pub bytes : List ℕ
  pub stage : Stage

-- the hash that is told
abbrev pub hash_told : Option RunningHash → Option (List ℕ)
hash_told None = None
hash_told (Some hash) = Some hash.told

-- it runs over these bytes
abbrev pub RunsOver : Option RunningHash → List ℕ → Type 0
RunsOver None bytes = Unit {0}
RunsOver (Some hash) bytes = Holds256 hash.running bytes

-- the checksum that is told
abbrev pub sum_told : Option RunningSum → Option Checksum
sum_told None = None
sum_told (Some sum) = Some sum.told

-- it runs over these bytes
abbrev pub SumsUp : Option RunningSum → List ℕ → Type 0
SumsUp None bytes = Unit {0}
SumsUp (Some sum) bytes = Holds sum.running (algorithm_of sum.told) bytes

-- what was decided agrees with what was found
abbrev pub IsStage : Option (List ℕ) → Digests → ℕ → List ℕ → Stage → Type 0
IsStage hash digests size bytes stages.Reading = Unit {0}
IsStage hash digests size bytes stages.Passed = (length bytes ≡ size) × (checked_data hash digests bytes ≡ Ok bytes)
IsStage hash digests size bytes (stages.Failed code) = Unit {0}

-- nothing is refused
abbrev pub IsOpen : Stage → Type 0
IsOpen stages.Reading = Unit {0}
IsOpen stages.Passed = Unit {0}
IsOpen (stages.Failed code) = ⊥

-- the verdict that the stage tells
abbrev pub told : List ℕ → Stage → Verdict
told bytes stages.Reading = Open bytes
told bytes stages.Passed = Accepted bytes
told bytes (stages.Failed code) = Refused (length bytes) code

-- the verdict on so many bytes as these are, once they have ended or not
abbrev pub verdict_on : WholeState → Bool → List ℕ → Verdict
verdict_on s ended bytes = whole_verdict s.hash s.digests s.size ended bytes

-- the same reader with these bytes, and at this stage
abbrev pub with_bytes : WholeState → List ℕ → WholeState
with_bytes s bytes = record s { bytes = bytes }

abbrev pub at_stage : WholeState → Stage → WholeState
at_stage s stage = record s { stage = stage }

-- how much of a piece is the body's
abbrev pub body_part : WholeState → List ℕ → ℕ
body_part s piece = min (length piece) (s.size - length s.bytes)

-- what a call answers by the stage that it leaves: the code of a failed one, and this value otherwise
abbrev pub answered : {A : Type 0} → A → Stage → Result A Code
answered value stages.Reading = Ok value
answered value stages.Passed = Ok value
answered value (stages.Failed code) = Err code

-- memory ran out for bytes of the body, of which none was taken
pub record RanOut (old : WholeState) (piece : List ℕ) (result : Result ℕ Code) (new : WholeState) : Type 0 where
  pub wanted : 0 < body_part old piece
  pub failed : new ≡ at_stage old (stages.Failed InternalError)
  pub answer : result ≡ Err InternalError

-- the body's part of the piece was taken and judged
pub record IsRead (old : WholeState) (piece : List ℕ) (result : Result ℕ Code) (new : WholeState) : Type 0 where
  pub taken : new.bytes ≡ old.bytes ++ take (body_part old piece) piece
  pub same : new ≡ at_stage (with_bytes old new.bytes) new.stage
  pub told : told new.bytes new.stage ≡ verdict_on old false (old.bytes ++ piece)
  pub answer : result ≡ answered (body_part old piece) new.stage

-- what a piece makes of the reader at each stage
abbrev pub FedAt : Stage → WholeState → List ℕ → Result ℕ Code → WholeState → Type 0
FedAt stages.Reading old piece result new = RanOut old piece result new ⊎ IsRead old piece result new
FedAt stages.Passed old piece result new = IsRead old piece result new
FedAt (stages.Failed code) old piece result new = (result ≡ Err code) × (new ≡ old)

-- what the end of input makes of it at each stage
abbrev pub EndedAt : Stage → WholeState → Result ⊤ Code → WholeState → Type 0
EndedAt (stages.Failed code) old result new = (result ≡ Err code) × (new ≡ old)
EndedAt other old result new =
    (new ≡ at_stage old new.stage)
    × (told new.bytes new.stage ≡ verdict_on old true old.bytes)
    × (result ≡ answered tt new.stage)

-- what is handed out at the end of input: the data of a body that is accepted, or the code of one that is
-- refused
abbrev pub FinishedAt : Stage → WholeState → Result (List ℕ) Code → Type 0
FinishedAt (stages.Failed code) s result = result ≡ Err code
FinishedAt other s (Ok bytes) = verdict_on s true s.bytes ≡ Accepted bytes
FinishedAt other s (Err code) = verdict_on s true s.bytes ≡ Refused (length s.bytes) code

-- after these bytes of a body of this length, and the end of the input where it has ended, the reader has the
-- body's part of them, and says what is known of the body; the hash and the digests are told where they are
pub record WholeStands (s : WholeState) (hash : Option (List ℕ)) (digests : Digests) (size : ℕ) (bytes : List ℕ) (ended : Bool) : Type 0 where
  pub hash_is : s.hash ≡ hash
  pub digests_are : s.digests ≡ digests
  pub size_is : s.size ≡ size
  pub taken : s.bytes ≡ take size bytes
  pub told : told s.bytes s.stage ≡ whole_verdict hash digests size ended bytes

-- what a piece brings behind these bytes: how much of it was taken, with the verdict; or a refusal, where memory
-- ran out for some of the body's bytes, or by the verdict
abbrev pub WholeFed : Option (List ℕ) → Digests → ℕ → List ℕ → List ℕ → Result ℕ Code → WholeState → Type 0
WholeFed hash digests size bytes piece result new =
    FedTo piece (part_of size bytes piece) (WholeStands new hash digests size (bytes ++ piece) false) (λ code. new.stage ≡ stages.Failed code) result

-- what the end of input brings
abbrev pub WholeEnded : Option (List ℕ) → Digests → ℕ → List ℕ → Result ⊤ Code → WholeState → Type 0
WholeEnded hash digests size bytes result new =
    EndedTo (WholeStands new hash digests size bytes true) (λ code. new.stage ≡ stages.Failed code) (new.stage ≡ stages.Passed) result
