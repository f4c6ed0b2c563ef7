use Rattle.std.proofs.Common.{sym, ap, ◌∙◌}
use Rattle.std.specs.Cmp.Lexicographic.{texts_ties}
use Rattle.std.specs.Option.{option_copied}
use Rattle.s3_rows.specs.VersionListLaws.{is_last}
use Rattle.s3_row_lists.proofs.last_key.is_last.Goals as goal

pub returns-in-Some : goal.returns-in-Some
returns-in-Some c =
    c.eq.ensures ∙ texts_ties c.in-Some.last.now c.args.key.now ∙ sym (ap (λ o. is_last (option_copied o) c.args.key.now) c.in-Some.is)
