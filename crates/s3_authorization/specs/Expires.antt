-- For how many seconds from its stamp a presigned request holds (Amazon S3 API Reference, "Authenticating requests: using
-- query parameters (AWS Signature Version 4)", X-Amz-Expires).
use Rattle.std.specs.Prelude.{ℕ, ◌&&◌, nat_le, if◌then◌else◌, List, Option, Some, None, option_and_then}
use Rattle.s3_text.specs.Digits.{decimal_number}

-- so many seconds: one at least, and seven days at most
abbrev pub as_expires : ℕ → Option ℕ
as_expires seconds = if nat_le 1 seconds && nat_le seconds 604_800 then Some seconds else None

-- the seconds that one to six decimal digits spell
unfoldable pub expires_of : List ℕ → Option ℕ
expires_of text = option_and_then as_expires (decimal_number 6 text)
