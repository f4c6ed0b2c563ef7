-- Verdicts on bodies are final, there is one for all bytes, and no second one.
use Rattle.std.specs.Prelude.{◌≡◌, ℕ, ◌<◌, ◌≤◌, Bool, true, false, List, ◌++◌, length, take}
use Rattle.s3_terms.specs.declared.code.Code.{Code}
use Rattle.s3_terms.specs.declared.code.Code.TheVariants.{IncompleteBody}
use Rattle.s3_aws_chunked.specs.Verdict.{Terms, Verdict, Judges, Accepted, Open, Refused}

-- something is decided
abbrev pub IsDecided : Verdict → Type 0
IsDecided (Refused place code) = Unit {0}
IsDecided (Accepted held) = Unit {0}
IsDecided (Open held) = ⊥

-- the same is decided, or nothing by both
abbrev pub DecidesAs : Verdict → Verdict → Type 0
DecidesAs (Refused place code) (Refused at other) = (place ≡ at) × (code ≡ other)
DecidesAs (Accepted held) (Accepted other) = held ≡ other
DecidesAs (Open held) (Open other) = Unit {0}
DecidesAs one other = ⊥

-- what was decided before the end of the input stays decided, whatever follows, and whether or not that is the end
abbrev pub VerdictsStay : Type 0
VerdictsStay =
    (terms : Terms) (bytes more : List ℕ) (ended : Bool) (verdict : Verdict)
    → Judges terms bytes false verdict → IsDecided verdict → Judges terms (bytes ++ more) ended verdict

-- no two verdicts on the same bytes decide something else
abbrev pub VerdictsAreOne : Type 0
VerdictsAreOne =
    (terms : Terms) (bytes : List ℕ) (ended : Bool) (one other : Verdict)
    → Judges terms bytes ended one → Judges terms bytes ended other → DecidesAs one other

-- all bytes have a verdict
abbrev pub VerdictsExist : Type 0
VerdictsExist = (terms : Terms) (bytes : List ℕ) (ended : Bool) → (verdict : Verdict) × Judges terms bytes ended verdict

-- once no more bytes come, something is decided
abbrev pub EndsDecide : Type 0
EndsDecide = (terms : Terms) (bytes : List ℕ) (verdict : Verdict) → Judges terms bytes true verdict → IsDecided verdict

-- a body that is open lacks bytes: where all bytes of Content-Length have come, something is decided
abbrev pub OpenBodiesAreShort : Type 0
OpenBodiesAreShort = (terms : Terms) (bytes held : List ℕ) → Judges terms bytes false (Open held) → length bytes < terms.encoded

-- and is incomplete where its input ends there
abbrev pub OpenBodiesEndIncomplete : Type 0
OpenBodiesEndIncomplete =
    (terms : Terms) (bytes held : List ℕ) → Judges terms bytes false (Open held)
    → Judges terms bytes true (Refused (length bytes) IncompleteBody)

-- a refusal stands at its place: the bytes up to there have come, and are refused for themselves
abbrev pub RefusalsStand : Type 0
RefusalsStand =
    (terms : Terms) (bytes : List ℕ) (place : ℕ) (code : Code) → Judges terms bytes false (Refused place code)
    → (place ≤ length bytes) × Judges terms (take place bytes) false (Refused place code)
