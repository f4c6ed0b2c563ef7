use Rattle.std.proofs.Common.{◌++◌, sym, ◌∙◌, ap, arith}
use Rattle.std.specs.Option.{option_to_list}
use Rattle.std.proofs.lemmas.List.{take_all}
use Rattle.s3_requests.specs.Description.{name_in}
use Rattle.s3_requests.proofs.DescriptionLemmas.{names_in, names_more}
use Rattle.s3_requests.proofs.description.names_sent.Goals as goal

pub loop-index-preserved : goal.loop-index-preserved
loop-index-preserved c =
    let more = names_more c.args.dialect c.args.head.now.headers c.loop-index.index _ _ c.header.ensures in
    c.in_ok-push_name.ensures ∙ ap (λ names. names ++ option_to_list (name_in c.args.dialect c.header.result.0.now)) c.loop-index.invariant ∙ sym more

pub returns : goal.returns
returns c =
    let lines = c.args.head.now.headers in
    c.loop-index.invariant ∙ ap (names_in c.args.dialect) (take_all c.loop-index.index lines (omega (arith, c.header_count-index-end.ensures)))
