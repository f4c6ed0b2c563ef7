-- The word of a verified head is one of the four forms.
use Rattle.std.proofs.Common.{◌≡◌, ℕ, true, List, Ok, refl, sym, ap, ◌∙◌, inl, inr}
use Rattle.std.specs.Prelude.{not, ◌&&◌, nat_eq, codes}
use Rattle.std.specs.List.{starts_with}
use Rattle.std.proofs.lemmas.Bool.{cases_Bool, not-false}
use Rattle.std.proofs.Math.Bool.{Bool-set}
use Rattle.std.proofs.Math.Logic.{∥∥₁_elim}
use Rattle.s3_terms.specs.declared.dialect.Dialect.{Dialect}
use Rattle.s3_terms.specs.declared.dialect.Dialect.TheVariants.{Json, S3}
use Rattle.s3_terms.specs.declared.code.Code.TheVariants.{AccessDenied, NotImplemented, InvalidArgument}
use Rattle.s3_config.specs.Settings.{Settings}
use Rattle.s3_http_heads.specs.Head.{HeadParts, is_sent}
use Rattle.s3_http_heads.specs.Target.{TargetParts, target_of}
use Rattle.s3_signing.specs.Cover.{covers_enough}
use Rattle.s3_signing.specs.Verdict.{Checked, Proved, WasVerified, authorization_at, checked_head, checked_lines, checked_query, head_verdict, is_word_in, key_proved, names_other_word, presigned_secret_at, secret_at, stamp_at, word_at, word_line, word_of}
use Rattle.s3_signing.specs.Presigned.{is_presigned, presigned_at}
use Rattle.s3_signing.specs.Word.{unsigned_payload}
use Rattle.s3_terms.proofs.FaultLemmas.{one_value, stage_ok, test_ok}

-- a word of any dialect is one of S3's
in_s3 : (dialect : Dialect) (word : List ℕ) → is_word_in dialect word ≡ true → is_word_in S3 word ≡ true
in_s3 S3 word is = is
in_s3 Json word is = rw is refl

-- a text that is read as a word is one
word_of_is : (dialect : Dialect) (text word : List ℕ) → word_of dialect text ≡ Ok word → is_word_in S3 word ≡ true
unfolding word_of
word_of_is dialect text word is =
    let other = test_ok (not (is_word_in dialect text) && starts_with nat_eq text (codes "STREAMING-")) NotImplemented _ word is in
    let form = test_ok (not (is_word_in dialect text)) InvalidArgument _ word other.1 in
    in_s3 dialect word (ap (is_word_in dialect) (sym (one_value text word form.1)) ∙ not-false (is_word_in dialect text) form.0)

-- the word of a body that is not signed is one
unsigned_is : is_word_in S3 unsigned_payload ≡ true
unsigned_is = refl

module _ (settings : Settings) (head : HeadParts) (moment : ℕ) where
  -- the word that was found in the lines of a head is one
  word_in_lines : (checked : Checked) → checked_lines settings head moment ≡ Ok checked → is_word_in S3 checked.word ≡ true
  unfolding checked_lines word_at
  word_in_lines checked is =
      let sent = stage_ok (authorization_at head) _ checked is in
      let stamp = stage_ok (stamp_at head) _ checked sent.2 in
      let secret = stage_ok (secret_at settings moment sent.0 stamp.0) _ checked stamp.2 in
      let word = stage_ok (word_at settings.dialect head) _ checked secret.2 in
      let text = stage_ok (word_line head) _ word.0 word.1 in
      let covered = test_ok (not (covers_enough head sent.0.signed)) AccessDenied _ checked word.2 in
      ap (λ (c : Checked). is_word_in S3 c.word) (sym (one_value _ checked covered.1)) ∙ word_of_is settings.dialect text.0 word.0 text.2

  -- that of a presigned head is the word of a body that is not signed
  word_in_query : (target : TargetParts) (checked : Checked) → checked_query settings head target moment ≡ Ok checked → is_word_in S3 checked.word ≡ true
  unfolding checked_query
  word_in_query target checked is =
      let alone = test_ok (is_sent (codes "authorization") head) InvalidArgument _ checked is in
      let asked = stage_ok (presigned_at target) _ checked alone.1 in
      let secret = stage_ok (presigned_secret_at settings moment asked.0) _ checked asked.2 in
      let word = test_ok (names_other_word head) NotImplemented _ checked secret.2 in
      let covered = test_ok (not (covers_enough head asked.0.sent.signed)) AccessDenied _ checked word.1 in
      ap (λ (c : Checked). is_word_in S3 c.word) (sym (one_value _ checked covered.1)) ∙ unsigned_is

  -- so the word that was found in a head is one
  word_found : (checked : Checked) → checked_head settings head moment ≡ Ok checked → is_word_in S3 checked.word ≡ true
  unfolding checked_head
  word_found checked is =
      let target = stage_ok (target_of head.target) _ checked is in
      elim (cases_Bool (is_presigned target.0)) [
        | inl presigned ↦ word_in_query target.0 checked (rw presigned at target.2)
        | inr other ↦ word_in_lines checked (rw other at target.2)
      ]

  -- so is that of a head that is verified
  is_word_verified : (proved : Proved) → head_verdict settings head moment ≡ Ok proved → is_word_in S3 proved.word ≡ true
  unfolding head_verdict
  is_word_verified proved is =
      let checked = stage_ok (checked_head settings head moment) _ proved is in
      let key = stage_ok (key_proved settings head checked.0) _ proved checked.2 in
      ap (λ (p : Proved). is_word_in S3 p.word) (sym (one_value _ proved key.2)) ∙ word_found checked.0 checked.1

-- and so is that of what is kept of one
pub is_word_kept : (proved : Proved) → ∥ WasVerified proved ∥₁ → is_word_in S3 proved.word ≡ true
is_word_kept proved kept =
    ∥∥₁_elim kept (Bool-set _ _) (λ (was : WasVerified proved). is_word_verified was.settings was.head was.moment proved was.verdict)
