use Rattle.std.proofs.Common.{◌≡◌, ◌∙◌, length, sym, ap}
use Rattle.std.specs.Prelude.{codes, option_and_then}
use Rattle.s3_http_heads.specs.Head.{values_of}
use Rattle.s3_integrity.specs.Algorithm.{named}
use Rattle.s3_payloads.proofs.WordLemmas.{only_first}
use Rattle.s3_payloads.proofs.form.trailer_named.Goals as goal

pub returns-in-Some : goal.returns-in-Some
returns-in-Some c =
    let lines = values_of (codes "x-amz-trailer") c.args.head.now in
    let one : length lines ≡ 1 = sym c.count.ensures ∙ c.if-count-ne1.false in
    c.named.ensures ∙ sym (ap (option_and_then named) (only_first lines one ∙ sym (rw c.in-Some.is at c.first.ensures)))

pub returns-in-None : goal.returns-in-None
returns-in-None c =
    let lines = values_of (codes "x-amz-trailer") c.args.head.now in
    let one : length lines ≡ 1 = sym c.count.ensures ∙ c.if-count-ne1.false in
    sym (ap (option_and_then named) (only_first lines one ∙ sym (rw c.in-None.is at c.first.ensures)))
