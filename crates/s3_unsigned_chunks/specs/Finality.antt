-- Verdicts on bodies are final, and stand at their place.
use Rattle.std.specs.Prelude.{◌≡◌, ℕ, ◌<◌, ◌≤◌, Bool, true, false, List, ◌++◌, length, take}
use Rattle.s3_terms.specs.declared.code.Code.{Code}
use Rattle.s3_terms.specs.declared.code.Code.TheVariants.{IncompleteBody}
use Rattle.s3_unsigned_chunks.specs.Reading.{Terms}
use Rattle.s3_unsigned_chunks.specs.Verdict.{Verdict, Refused, Accepted, Open, verdict_of}

-- something is decided
abbrev pub IsDecided : Verdict → Type 0
IsDecided (Refused place code) = Unit {0}
IsDecided (Accepted held value) = Unit {0}
IsDecided (Open held) = ⊥

-- what was decided before the end of the input stays decided, whatever follows, and whether or not that is the end
abbrev pub VerdictsStay : Type 0
VerdictsStay =
    (terms : Terms) (bytes more : List ℕ) (ended : Bool) → IsDecided (verdict_of terms bytes false)
    → verdict_of terms (bytes ++ more) ended ≡ verdict_of terms bytes false

-- once no more bytes come, something is decided
abbrev pub EndsDecide : Type 0
EndsDecide = (terms : Terms) (bytes : List ℕ) → IsDecided (verdict_of terms bytes true)

-- a body that is open lacks bytes: where all bytes of Content-Length have come, something is decided
abbrev pub OpenBodiesAreShort : Type 0
OpenBodiesAreShort =
    (terms : Terms) (bytes held : List ℕ) → verdict_of terms bytes false ≡ Open held → length bytes < terms.encoded

-- and is incomplete where its input ends there
abbrev pub OpenBodiesEndIncomplete : Type 0
OpenBodiesEndIncomplete =
    (terms : Terms) (bytes held : List ℕ) → verdict_of terms bytes false ≡ Open held
    → verdict_of terms bytes true ≡ Refused (length bytes) IncompleteBody

-- a refusal stands at its place: the bytes up to there have come, and are refused for themselves
abbrev pub RefusalsStand : Type 0
RefusalsStand =
    (terms : Terms) (bytes : List ℕ) (place : ℕ) (code : Code) → verdict_of terms bytes false ≡ Refused place code
    → (place ≤ length bytes) × (verdict_of terms (take place bytes) false ≡ Refused place code)

-- also one that comes with the end of the input is at no byte behind those that have come
abbrev pub RefusalsStayWithin : Type 0
RefusalsStayWithin =
    (terms : Terms) (bytes : List ℕ) (ended : Bool) (place : ℕ) (code : Code) → verdict_of terms bytes ended ≡ Refused place code
    → place ≤ length bytes
