-- What a text is as a word of each dialect.
use Rattle.std.proofs.Common.{◌≡◌, ℕ, Bool, false, true, List, refl, sym, ap, ◌∙◌, subst, inl, inr}
use Rattle.std.specs.Prelude.{◌||◌}
use Rattle.std.specs.Str.{bytes_eq}
use Rattle.std.proofs.lemmas.Bool.{cases_Bool}
use Rattle.std.proofs.lemmas.Slice.Eq.{bytes_eq-Decides}
use Rattle.s3_terms.specs.declared.dialect.Dialect.{Dialect}
use Rattle.s3_terms.specs.declared.dialect.Dialect.TheVariants.{Json, S3}
use Rattle.s3_signing.specs.Verdict.{is_word, is_word_in, is_word_of_s3}
use Rattle.s3_signing.specs.Word.{trailed_chunks, unsigned_chunks}

or_false : (test : Bool) → (test || false) ≡ test
or_false true = refl
or_false false = refl

or_true : (test : Bool) → (test || true) ≡ true
or_true true = refl
or_true false = refl

-- what is a word is one in each dialect
pub word_in : (dialect : Dialect) (word : List ℕ) → is_word word ≡ true → is_word_in dialect word ≡ true
word_in Json word is = is
word_in S3 word is = rw is refl

-- the words of S3's dialect alone are words there
pub own_in : (text : List ℕ) → is_word_of_s3 text ≡ true → is_word_in S3 text ≡ true
own_in text own = rw own (or_true (is_word text))

-- and no words of the other
pub own_apart : (text : List ℕ) → is_word_of_s3 text ≡ true → is_word text ≡ false
own_apart text own = elim (cases_Bool (bytes_eq text unsigned_chunks)) [
  | inl is ↦ subst (λ (t : List ℕ). is_word t ≡ false) (sym ((bytes_eq-Decides text unsigned_chunks).0 is)) refl
  | inr other ↦ subst (λ (t : List ℕ). is_word t ≡ false)
      (sym ((bytes_eq-Decides text trailed_chunks).0 (ap (λ b. b || bytes_eq text trailed_chunks) (sym other) ∙ own))) refl
]

-- what is another text is a word in one dialect where it is in each
pub other_in : (dialect : Dialect) (text : List ℕ) → is_word_of_s3 text ≡ false → is_word_in dialect text ≡ is_word text
other_in Json text other = refl
other_in S3 text other = rw other (or_false (is_word text))
