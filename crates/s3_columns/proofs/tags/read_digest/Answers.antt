use Rattle.std.proofs.Common.{◌≡◌, sym, ap, ◌∙◌, Ok, Some}
use Rattle.std.proofs.lemmas.Bool.{iff_false}
use Rattle.std.proofs.lemmas.Result.{MatchResult-at_ok}
use Rattle.hex.specs.Hex.{encode_lower, decode_sized}
use Rattle.s3_columns.proofs.TagLemmas.{digest_decoded}
use Rattle.s3_columns.proofs.tags.read_digest.Goals as goal

pub returns-then-not-is_digest_in-clause-found : goal.returns-then-not-is_digest_in-clause-found
returns-then-not-is_digest_in-clause-found c = λ md5 is e.
    let decoded : decode_sized c.as_slice.result.now 16 ≡ Ok md5 = ap (λ t. decode_sized t 16) (c.as_slice.ensures ∙ e) ∙ digest_decoded md5 is in
    let same = (MatchResult-at_ok _ _ md5 decoded c.decode_to_slice-decoded.ensures.value).1 in
    absurd (iff_false c.is_digest_in.ensures c.if-not-is_digest_in.true (e ∙ ap encode_lower (sym same)))

pub returns-clause-found : goal.returns-clause-found
returns-clause-found c = λ md5 is e.
    let decoded : decode_sized c.as_slice.result.now 16 ≡ Ok md5 = ap (λ t. decode_sized t 16) (c.as_slice.ensures ∙ e) ∙ digest_decoded md5 is in
    let same = (MatchResult-at_ok _ _ md5 decoded c.decode_to_slice-decoded.ensures.value).1 in
    ap (λ t. Some t) same
