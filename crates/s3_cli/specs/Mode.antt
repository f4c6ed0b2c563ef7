-- Where the options of a signing ask for the signature, and what they ask to write.
use Rattle.std.specs.Prelude.{ℕ, Bool, true, false, ◌&&◌, nat_le, if◌then◌else◌, List, Option, Some, None, option_map, option_and_then}
use Rattle.s3_authorization.specs.Expires.{as_expires}
use Rattle.s3_settings.specs.declared.options.SignOptions.{SignOptions}
use Rattle.s3_settings.specs.Settings.{option_number}
use Rattle.s3_signer.specs.Chunked.{greatest_chunk}
use Rattle.s3_cli.specs.declared.mode.SignMode.{SignMode}
use Rattle.s3_cli.specs.declared.mode.SignMode.TheVariants.{Hashed, Chunked, Presigned, Address}

-- the number, if it is a size of chunks
abbrev pub as_chunk : ℕ → Option ℕ
as_chunk bytes = if nat_le 1 bytes && nat_le bytes greatest_chunk then Some bytes else None

-- what a size of chunks, seconds of a presigned request and the wish for its address alone ask for together: a presigned
-- request isn't sent in chunks, and no other has an address of this kind
abbrev pub mode_of : Option (List ℕ) → Option (List ℕ) → Bool → Option SignMode
mode_of None None false = Some Hashed
mode_of (Some size) None false = option_map Chunked (option_and_then as_chunk (option_number size))
mode_of None (Some seconds) false = option_map Presigned (option_and_then as_expires (option_number seconds))
mode_of None (Some seconds) true = option_map Address (option_and_then as_expires (option_number seconds))
mode_of chunk presign url = None

-- the same of the options
abbrev pub sign_mode : SignOptions → Option SignMode
sign_mode o = mode_of (option_map (λ text. text.now) o.chunk) (option_map (λ text. text.now) o.presign) o.url
