-- What the test of UTF-8 says.
use Rattle.std.proofs.Common.{◌≡◌, ℕ, List, Result, Ok, Err, MatchResult, is_ok, IsUtf8, Bool, true, false, sym, refl}
use Rattle.std.specs.Str.{is_utf8}
use Rattle.std.proofs.lemmas.Str.{IsUtf8-from_is_utf8, is_utf8-from_IsUtf8}

not_true : (b : Bool) → ¬ (b ≡ true) → false ≡ b
not_true true h = absurd (h refl)
not_true false h = refl

-- the test holds exactly where the reading succeeds
pub utf8_answer : {T E : Type 0} (P : T → Type 0) (Q : E → Type 0) (bs : List ℕ) (r : Result T E) → MatchResult r (λ s. P s × IsUtf8 bs) (λ e. ¬ (IsUtf8 bs) × Q e) → is_ok r ≡ is_utf8 bs
utf8_answer P Q bs (Ok s) h = sym (is_utf8-from_IsUtf8 bs h.1)
utf8_answer P Q bs (Err e) h = not_true (is_utf8 bs) (λ t. h.0 (IsUtf8-from_is_utf8 bs t))
