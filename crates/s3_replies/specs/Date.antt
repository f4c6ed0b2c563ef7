-- The dates of HTTP (RFC 9110, section 5.6.7).
use Rattle.std.specs.Prelude.{◌≡◌, ℕ, List, Option, Some, None}
use Rattle.httpdate.specs.declared.date.HttpDate.{HttpDate}
use Rattle.httpdate.specs.Date.{unix_secs, date_text}

-- the text is the moment as a date of HTTP, in the form IMF-fixdate
abbrev pub IsHttpDate : ℕ → List ℕ → Type 0
IsHttpDate t text = (date : HttpDate) × (unix_secs date ≡ t) × (text ≡ date_text date)

-- the same of a moment and a text that are there or not
abbrev pub IsDateShown : Option ℕ → Option (List ℕ) → Type 0
IsDateShown None text = text ≡ None
IsDateShown (Some t) None = ⊥
IsDateShown (Some t) (Some text) = IsHttpDate t text
