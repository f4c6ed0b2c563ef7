-- Whether a head is verified, by its Authorization or by its query, and otherwise which fault comes first (AWS Signature
-- Version 4; Amazon S3 API Reference, "Authenticating requests (AWS Signature Version 4)" and "Error responses").
use Rattle.std.specs.Prelude.{◌≡◌, ℕ, ◌+◌, ◌≤◌, Bool, true, not, ◌&&◌, ◌||◌, ◌==◌, nat_le, nat_eq, if◌then◌else◌, List, [], length, codes, Option, Some, None, option_and_then, ok_or, unwrap_or, Result, Ok}
use Rattle.std.specs.List.{list_any, starts_with}
use Rattle.std.specs.Str.{bytes_eq}
use Rattle.s3_text.specs.Digest.{is_hex_digest}
use Rattle.s3_terms.specs.Fault.{refuse, ◌>>◌, ◌>>=◌}
use Rattle.s3_config.specs.Settings.{Settings, are_settings, secret_of}
use Rattle.s3_calendar.specs.Moment.{last_moment, is_stamp, stamp_seconds, stamp_date}
use Rattle.s3_terms.specs.declared.dialect.Dialect.{Dialect}
use Rattle.s3_terms.specs.declared.dialect.Dialect.TheVariants.{Json, S3}
use Rattle.s3_terms.specs.declared.code.Code.{Code}
use Rattle.s3_terms.specs.declared.code.Code.TheVariants.{AccessDenied, AuthorizationHeaderMalformed, AuthorizationQueryParametersError, InvalidAccessKeyId, RequestTimeTooSkewed, InvalidRequest, InvalidArgument, NotImplemented, SignatureDoesNotMatch}
use Rattle.s3_http_heads.specs.Head.{HeadParts, values_of, first_value, is_sent, only}
use Rattle.s3_http_heads.specs.Target.{TargetParts, target_of}
use Rattle.s3_authorization.specs.Authorization.{authorization_of}
use Rattle.s3_authorization.specs.Authorization as authorization
use Rattle.s3_signing.specs.Cover.{covers_enough}
use Rattle.s3_signing.specs.Key.{signing_key}
use Rattle.s3_signing.specs.Presigned.{Presigned, is_presigned, presigned_at}
use Rattle.s3_signing.specs.Signature.{signature_of}
use Rattle.s3_signing.specs.Word.{signed_chunks, trailed_chunks, unsigned_chunks, unsigned_payload}

-- the parts of the one Authorization line, if it has the form
abbrev pub sent_authorization : HeadParts → Option authorization.Parts
sent_authorization head =
    option_and_then authorization_of (only (values_of (codes "authorization") head))

-- the text, if it is a stamp
abbrev pub checked_stamp : List ℕ → Option (List ℕ)
checked_stamp text = if is_stamp text then Some text else None

-- the stamp of the one x-amz-date line
abbrev pub sent_stamp : HeadParts → Option (List ℕ)
sent_stamp head = option_and_then checked_stamp (only (values_of (codes "x-amz-date") head))

-- the scope of the authorization is another one than the server's and the stamp's
abbrev pub is_other_scope : Settings → authorization.Parts → List ℕ → Bool
is_other_scope settings a stamp =
    not (bytes_eq a.service (codes "s3") && bytes_eq a.region settings.region && bytes_eq a.date (stamp_date stamp))

-- how far a stamp and the moment of its message may lie apart, in seconds
abbrev pub skew_limit : ℕ
skew_limit = 900

abbrev pub is_near : ℕ → ℕ → Bool
is_near stamped moment = nat_le stamped (moment + skew_limit) && nat_le moment (stamped + skew_limit)

-- the lines that say what stands for the body
abbrev pub word_lines : HeadParts → List (List ℕ)
word_lines head = values_of (codes "x-amz-content-sha256") head

-- what a signer takes for the word: the value of the first of them, and empty where there is none
abbrev pub sent_word : HeadParts → List ℕ
sent_word head = unwrap_or (first_value (codes "x-amz-content-sha256") head) []

-- the three forms of that word: the body's hash, no hash at all, or chunks that are signed
abbrev pub is_word : List ℕ → Bool
is_word word =
    is_hex_digest word || bytes_eq word unsigned_payload || bytes_eq word signed_chunks

-- and two of S3's dialect: chunks with a checksum behind them, which are not signed, or are
abbrev pub is_word_of_s3 : List ℕ → Bool
is_word_of_s3 word = bytes_eq word unsigned_chunks || bytes_eq word trailed_chunks

-- those of a dialect
abbrev pub is_word_in : Dialect → List ℕ → Bool
is_word_in Json word = is_word word
is_word_in S3 word = is_word word || is_word_of_s3 word

-- the parts of the one Authorization line
unfoldable pub authorization_at : HeadParts → Result authorization.Parts Code
authorization_at head = do
  refuse (not (is_sent (codes "authorization") head)) AccessDenied
  ok_or (sent_authorization head) AuthorizationHeaderMalformed

-- the stamp of the one x-amz-date line
unfoldable pub stamp_at : HeadParts → Result (List ℕ) Code
stamp_at head = ok_or (sent_stamp head) AccessDenied

-- the secret behind an authorization of the server's scope, which was stamped near to the moment
unfoldable pub secret_at : Settings → ℕ → authorization.Parts → List ℕ → Result (List ℕ) Code
secret_at settings moment sent stamp = do
  refuse (is_other_scope settings sent stamp) AuthorizationHeaderMalformed
  secret ← ok_or (secret_of settings.keys sent.id) InvalidAccessKeyId
  refuse (not (is_near (stamp_seconds stamp) moment)) RequestTimeTooSkewed
  Ok secret

-- the value of the one line that says what stands for the body
unfoldable pub word_line : HeadParts → Result (List ℕ) Code
word_line head = do
  text ← ok_or (first_value (codes "x-amz-content-sha256") head) InvalidRequest
  refuse (not (length (word_lines head) == 1)) InvalidArgument
  Ok text

-- the text as a word of one of the dialect's forms
unfoldable pub word_of : Dialect → List ℕ → Result (List ℕ) Code
word_of dialect text = do
  refuse (not (is_word_in dialect text) && starts_with nat_eq text (codes "STREAMING-")) NotImplemented
  refuse (not (is_word_in dialect text)) InvalidArgument
  Ok text

-- the word of that line
unfoldable pub word_at : Dialect → HeadParts → Result (List ℕ) Code
word_at dialect head = do
  text ← word_line head
  word_of dialect text

-- what was found in a head: the parts of its authorization, its stamp, the secret of the authorization's
-- id, and the word that stands for the body
pub record Checked : Type 0 where
  pub sent : authorization.Parts
  pub stamp : List ℕ
  pub secret : List ℕ
  pub word : List ℕ

-- what is found in the lines of a head that is signed by its Authorization, or the first fault
unfoldable pub checked_lines : Settings → HeadParts → ℕ → Result Checked Code
checked_lines settings head moment = do
  sent ← authorization_at head
  stamp ← stamp_at head
  secret ← secret_at settings moment sent stamp
  word ← word_at settings.dialect head
  refuse (not (covers_enough head sent.signed)) AccessDenied
  Ok (record { sent = sent; stamp = stamp; secret = secret; word = word })

-- what is presigned holds from so long before its stamp as clocks may differ to so many seconds behind it
abbrev pub is_current : ℕ → ℕ → ℕ → Bool
is_current stamped expires moment = nat_le stamped (moment + skew_limit) && nat_le moment (stamped + expires)

-- the secret behind a presigned query of the server's scope, at a moment at which it holds
unfoldable pub presigned_secret_at : Settings → ℕ → Presigned → Result (List ℕ) Code
presigned_secret_at settings moment asked = do
  refuse (is_other_scope settings asked.sent asked.stamp) AuthorizationQueryParametersError
  secret ← ok_or (secret_of settings.keys asked.sent.id) InvalidAccessKeyId
  refuse (not (is_current (stamp_seconds asked.stamp) asked.expires moment)) AccessDenied
  Ok secret

-- a line names another word than that of a body that is not signed
abbrev pub names_other_word : HeadParts → Bool
names_other_word head = list_any (λ word. not (bytes_eq word unsigned_payload)) (word_lines head)

-- what is found in a head that is signed by its query, or the first fault: nothing is said of its body
unfoldable pub checked_query : Settings → HeadParts → TargetParts → ℕ → Result Checked Code
checked_query settings head target moment = do
  refuse (is_sent (codes "authorization") head) InvalidArgument
  asked ← presigned_at target
  secret ← presigned_secret_at settings moment asked
  refuse (names_other_word head) NotImplemented
  refuse (not (covers_enough head asked.sent.signed)) AccessDenied
  Ok (record { sent = asked.sent; stamp = asked.stamp; secret = secret; word = unsigned_payload })

-- what is found in a head with which nothing is wrong before its signature is computed, or the first fault
unfoldable pub checked_head : Settings → HeadParts → ℕ → Result Checked Code
checked_head settings head moment = do
  target ← target_of head.target
  if is_presigned target then checked_query settings head target moment else checked_lines settings head moment

-- the signature that the head has to have
abbrev pub signature_due : Settings → HeadParts → Checked → List ℕ
signature_due settings head checked =
    signature_of checked.secret checked.stamp settings.region head checked.sent.signed checked.word

-- the key of the day, past a signature that is not the formula
unfoldable pub key_proved : Settings → HeadParts → Checked → Result (List ℕ) Code
key_proved settings head checked = do
  refuse (not (bytes_eq checked.sent.signature (signature_due settings head checked))) SignatureDoesNotMatch
  Ok (signing_key checked.secret (stamp_date checked.stamp) settings.region)

-- what a verified head has proved: its stamp, its scope's region, the key of the day, the signature
-- that was sent, and the word that stands for its body
pub record Proved : Type 0 where
  pub stamp : List ℕ
  pub region : List ℕ
  pub key : List ℕ
  pub seed : List ℕ
  pub word : List ℕ

-- what was found proves this, in this region and with this key
abbrev pub proved_with : Checked → List ℕ → List ℕ → Proved
proved_with checked region key =
    record { stamp = checked.stamp; region = region; key = key; seed = checked.sent.signature; word = checked.word }

-- what the head has proved at this moment to a server of these settings, or the first fault
unfoldable pub head_verdict : Settings → HeadParts → ℕ → Result Proved Code
head_verdict settings head moment = do
  checked ← checked_head settings head moment
  key ← key_proved settings head checked
  Ok (proved_with checked settings.region key)

-- some head has proved this to some server at some moment
pub record WasVerified (proved : Proved) : Type 0 where
  pub settings : Settings
  pub head : HeadParts
  pub moment : ℕ
  pub limits : are_settings settings ≡ true
  pub within : moment ≤ last_moment
  pub verdict : head_verdict settings head moment ≡ Ok proved
