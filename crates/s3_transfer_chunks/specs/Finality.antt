-- Verdicts on bodies are final, and stand at their place.
use Rattle.std.specs.Prelude.{◌≡◌, ℕ, ◌<◌, ◌≤◌, Bool, true, false, List, ◌++◌, length, take}
use Rattle.s3_terms.specs.declared.code.Code.{Code}
use Rattle.s3_terms.specs.declared.code.Code.TheVariants.{IncompleteBody}
use Rattle.s3_transfer_chunks.specs.Reading.{taken_in}
use Rattle.s3_transfer_chunks.specs.Verdict.{Verdict, Refused, Accepted, Open, verdict_of}

-- something is decided
abbrev pub IsDecided : Verdict → Type 0
IsDecided (Refused place code) = Unit {0}
IsDecided (Accepted place held) = Unit {0}
IsDecided (Open held) = ⊥

-- what was decided before the end of the input stays decided, whatever follows, and whether or not that is the end
abbrev pub VerdictsStay : Type 0
VerdictsStay =
    (limit : ℕ) (bytes more : List ℕ) (ended : Bool) → IsDecided (verdict_of limit bytes false)
    → verdict_of limit (bytes ++ more) ended ≡ verdict_of limit bytes false

-- and of what follows no byte is taken
abbrev pub NoMoreIsTaken : Type 0
NoMoreIsTaken =
    (limit : ℕ) (bytes more : List ℕ) → IsDecided (verdict_of limit bytes false)
    → taken_in limit (bytes ++ more) ≡ taken_in limit bytes

-- once no more bytes come, something is decided
abbrev pub EndsDecide : Type 0
EndsDecide = (limit : ℕ) (bytes : List ℕ) → IsDecided (verdict_of limit bytes true)

-- a body that is open has taken all bytes that have come
abbrev pub OpenBodiesTakeAll : Type 0
OpenBodiesTakeAll =
    (limit : ℕ) (bytes held : List ℕ) → verdict_of limit bytes false ≡ Open held → taken_in limit bytes ≡ length bytes

-- and is incomplete where its input ends there
abbrev pub OpenBodiesEndIncomplete : Type 0
OpenBodiesEndIncomplete =
    (limit : ℕ) (bytes held : List ℕ) → verdict_of limit bytes false ≡ Open held
    → verdict_of limit bytes true ≡ Refused (length bytes) IncompleteBody

-- a refusal stands at its place: the bytes up to there have come, and are refused for themselves
abbrev pub RefusalsStand : Type 0
RefusalsStand =
    (limit : ℕ) (bytes : List ℕ) (place : ℕ) (code : Code) → verdict_of limit bytes false ≡ Refused place code
    → (place ≤ length bytes) × (verdict_of limit (take place bytes) false ≡ Refused place code)

-- with any byte fewer nothing is decided
abbrev pub RefusalsAreFirst : Type 0
RefusalsAreFirst =
    (limit : ℕ) (bytes : List ℕ) (place : ℕ) (code : Code) → verdict_of limit bytes false ≡ Refused place code
    → (count : ℕ) → count < place → ¬ (IsDecided (verdict_of limit (take count bytes) false))

-- a refusal that comes with the end of the input is at no byte behind those that have come
abbrev pub RefusalsStayWithin : Type 0
RefusalsStayWithin =
    (limit : ℕ) (bytes : List ℕ) (ended : Bool) (place : ℕ) (code : Code) → verdict_of limit bytes ended ≡ Refused place code
    → place ≤ length bytes
