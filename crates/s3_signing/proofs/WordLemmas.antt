-- A line that names another word than that of a body that is not signed.
use Rattle.std.proofs.Common.{◌≡◌, ℕ, ◌+◌, ◌≤◌, Bool, true, false, not, ◌&&◌, ◌||◌, length, List, ◌∷◌, drop, map, filter, Some, slice_get, refl, sym, ap, ◌∙◌, inl, inr}
use Rattle.std.specs.Prelude.{codes}
use Rattle.std.specs.List.{list_any}
use Rattle.std.specs.Str.{bytes_eq, str_to_ascii_lowercase}
use Rattle.std.proofs.lemmas.Bool.{cases_Bool}
use Rattle.std.proofs.lemmas.List.{drop_all}
use Rattle.s3_text.proofs.ListLemmas.{elements_from}
use Rattle.s3_http_heads.specs.Head.{HeadParts, is_named, values_of}
use Rattle.s3_signing.specs.Verdict.{names_other_word}
use Rattle.s3_signing.specs.Word.{unsigned_payload}
use Rattle.s3_signing.proofs.OtherLineLemmas.{Lines}

abbrev is_other_word : List ℕ → Bool
is_other_word word = not (bytes_eq word unsigned_payload)

-- one of these lines names another word
abbrev pub other_word_in : Lines → Bool
other_word_in lines = list_any is_other_word (map (λ (line : List ℕ × List ℕ). line.1) (filter (is_named (codes "x-amz-content-sha256")) lines))

first_or_more : (line : List ℕ × List ℕ) (lines : Lines) → other_word_in (line ∷ lines) ≡ ((is_named (codes "x-amz-content-sha256") line && is_other_word line.1) || other_word_in lines)
first_or_more line lines = elim (cases_Bool (is_named (codes "x-amz-content-sha256") line)) [
  | inl named ↦ rw named refl
  | inr other ↦ rw other refl
]

-- where a line from here on does so just where one of all does, this line decides, or those behind it
module _ (head : HeadParts) (i : ℕ) (rest : other_word_in (drop i head.headers) ≡ names_other_word head) where
  at_place : (sent value : List ℕ) → slice_get head.headers i ≡ Some (sent, value) → other_word_in (drop i head.headers) ≡ ((bytes_eq (str_to_ascii_lowercase sent) (codes "x-amz-content-sha256") && not (bytes_eq value unsigned_payload)) || other_word_in (drop (i + 1) head.headers))
  at_place sent value is = ap other_word_in (elements_from head.headers i (sent, value) is) ∙ first_or_more (sent, value) (drop (i + 1) head.headers)

  pub other_word_here : (sent value : List ℕ) → slice_get head.headers i ≡ Some (sent, value) → (bytes_eq (str_to_ascii_lowercase sent) (codes "x-amz-content-sha256") && not (bytes_eq value unsigned_payload)) ≡ true → names_other_word head ≡ true
  other_word_here sent value is other = sym rest ∙ at_place sent value is ∙ ap (λ b. b || other_word_in (drop (i + 1) head.headers)) other

  pub other_word_behind : (sent value : List ℕ) → slice_get head.headers i ≡ Some (sent, value) → (bytes_eq (str_to_ascii_lowercase sent) (codes "x-amz-content-sha256") && not (bytes_eq value unsigned_payload)) ≡ false → other_word_in (drop (i + 1) head.headers) ≡ names_other_word head
  other_word_behind sent value is same = sym (sym rest ∙ at_place sent value is ∙ ap (λ b. b || other_word_in (drop (i + 1) head.headers)) same)

  pub other_word_nowhere : length head.headers ≤ i → names_other_word head ≡ false
  other_word_nowhere past = sym rest ∙ ap other_word_in (drop_all i head.headers past)

-- all lines are those of a head
pub other_word_head : (head : HeadParts) → other_word_in head.headers ≡ names_other_word head
unfolding values_of
other_word_head head = refl
