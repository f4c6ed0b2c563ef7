use Rattle.std.proofs.Common.{sym, ◌∙◌}
use Rattle.std.proofs.lemmas.Result.{IfOk-weaker, IfErr-weaker}
use Rattle.s3_cli.proofs.SignLemmas.{text_of_draft, fault_of_draft}
use Rattle.s3_cli.proofs.sign.signed_text.Goals as goal

pub returns-clause-value : goal.returns-clause-value
returns-clause-value g c =
    IfOk-weaker c.signed_draft.result _ _ (λ text h. text_of_draft _ _ _ _ _ _ (sym c.option_moment.ensures ∙ c.in-Some.is) c.in_ok-setup.ensures.value c.in_ok-draft.ensures.value h) c.signed_draft.ensures.value

pub returns-clause-refused : goal.returns-clause-refused
returns-clause-refused g c =
    IfErr-weaker c.signed_draft.result _ _ (λ fault h. fault_of_draft _ _ _ _ _ _ (sym c.option_moment.ensures ∙ c.in-Some.is) c.in_ok-setup.ensures.value c.in_ok-draft.ensures.value h) c.signed_draft.ensures.refused
