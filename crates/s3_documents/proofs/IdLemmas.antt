-- The ids of versions and uploads are texts.
use Rattle.std.proofs.Common.{ℕ, refl, zero, suc, [], ◌∷◌, codes, IsAscii, lit<}
use Rattle.std.specs.Int.{w64, to_be_bytes}
use Rattle.std.specs.Str.{IsUtf8}
use Rattle.std.proofs.lemmas.Str.{IsAscii-append, IsUtf8-from_ascii}
use Rattle.hex.specs.Hex.{lower_digits}
use Rattle.hex.proofs.HexLemmas.{IsAscii-encode_with}
use Rattle.s3_text.specs.Digits.{number_digits}
use Rattle.s3_names.specs.Ids.{numbered_id, upload_id_text, version_id_text}
use Rattle.s3_names.specs.declared.ids.VersionId.{VersionId}
use Rattle.s3_names.specs.declared.ids.VersionId.TheVariants.{Null, Numbered}
use Rattle.s3_documents.proofs.CopiedLemmas.{tag_is_ascii}

numbered_ascii : (letter number : ℕ) → IsAscii (letter ∷ []) → IsAscii (numbered_id letter number)
unfolding numbered_id number_digits
numbered_ascii letter number first =
    IsAscii-append (letter ∷ []) (number_digits number) first (IsAscii-encode_with lower_digits (to_be_bytes w64 number) (tag_is_ascii lower_digits refl))

letter_ascii : IsAscii (codes "v")
letter_ascii zero = lit< tt
letter_ascii (suc i) = lit< tt

upload_letter_ascii : IsAscii (codes "u")
upload_letter_ascii zero = lit< tt
upload_letter_ascii (suc i) = lit< tt

null_ascii : IsAscii (codes "null")
null_ascii zero = lit< tt
null_ascii (suc zero) = lit< tt
null_ascii (suc (suc zero)) = lit< tt
null_ascii (suc (suc (suc zero))) = lit< tt
null_ascii (suc (suc (suc (suc i)))) = lit< tt

id_ascii : (id : VersionId) → IsAscii (version_id_text id)
id_ascii Null = null_ascii
id_ascii (Numbered number) = numbered_ascii 118 number letter_ascii

pub id_utf8 : (id : VersionId) → IsUtf8 (version_id_text id)
id_utf8 id = IsUtf8-from_ascii (version_id_text id) (id_ascii id)

pub upload_id_utf8 : (id : ℕ) → IsUtf8 (upload_id_text id)
upload_id_utf8 id = IsUtf8-from_ascii (upload_id_text id) (numbered_ascii 117 id upload_letter_ascii)
