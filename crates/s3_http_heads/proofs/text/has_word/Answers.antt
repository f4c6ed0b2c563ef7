use Rattle.std.proofs.Common.{◌≡◌, ◌∙◌, sym, eqb, rules, tests}
use Rattle.std.specs.List.{list_any, slice_split}
use Rattle.std.specs.Str.{bytes_eq, str_to_ascii_lowercase}
use Rattle.std.proofs.lemmas.Iterator.Splits.{YieldsList-from_slice_split}
use Rattle.std.proofs.lemmas.Iterator.Search.{any_from_yields_List}
use Rattle.httparse.specs.Grammar.{trim_ows}
use Rattle.s3_text.proofs.ListLemmas.{list_any-map}
use Rattle.s3_http_heads.proofs.text.has_word.Goals as goal

pub returns : goal.returns
returns c =
    let parts = slice_split (λ b. eqb b 44) c.args.value.now in
    let found : c.any.result ≡ list_any (λ part. bytes_eq (str_to_ascii_lowercase (trim_ows part)) c.args.word.now) parts =
    any_from_yields_List (λ part. bytes_eq (str_to_ascii_lowercase (trim_ows part)) c.args.word.now) _ _ c.any.result c.any.ensures.ran
    (YieldsList-from_slice_split _ (λ b. eqb b 44) c.args.value.now c.split.ensures.rest c.split.ensures.done c.split.ensures.closure (λ x b q k. search (rules, tests)))
    (λ x b q k. search (rules, tests)) in
    found ∙ sym (list_any-map (λ w. bytes_eq w c.args.word.now) (λ part. str_to_ascii_lowercase (trim_ows part)) parts)
