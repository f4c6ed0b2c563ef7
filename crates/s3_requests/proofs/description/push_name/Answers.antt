use Rattle.std.proofs.Common.{◌++◌, ◌∙◌, sym, ap}
use Rattle.std.proofs.lemmas.List.{map_push}
use Rattle.s3_requests.specs.Name.{texts, text_of}
use Rattle.s3_requests.proofs.DescriptionLemmas.{name_no, name_yes}
use Rattle.s3_requests.proofs.description.push_name.Goals as goal

pub returns-else-is_kept : goal.returns-else-is_kept
returns-else-is_kept c = name_no c.args.dialect (texts c.args.names.now.items) c.args.sent.now (sym c.is_kept.ensures ∙ c.if-is_kept.false)

pub returns-in_ok-push : goal.returns-in_ok-push
returns-in_ok-push c =
    let names = c.args.names.now.items in
    let same = name_yes c.args.dialect c.args.sent.now _ (sym c.is_kept.ensures ∙ c.if-is_kept.true) c.in_ok-text.ensures.ok in
    ap texts c.in_ok-push.ensures.items ∙ map_push text_of names _ ∙ ap (λ more. texts names ++ more) same
