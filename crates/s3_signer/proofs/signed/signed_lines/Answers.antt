use Rattle.std.proofs.Common.{◌≡◌, [], ◌∷◌, ◌∙◌, ap, rules, subst, sym}
use Rattle.std.specs.Prelude.{IsErrOf}
use Rattle.s3_signer.specs.declared.unsigned.Unsigned.TheVariants.{NotSignable}
use Rattle.s3_signer.specs.Line.{head_with, pairs, told_by}
use Rattle.s3_signer.specs.Request.{ReadsBack, authorization_line, given_lines, head_of, unsigned_head, unsigned_lines}
use Rattle.s3_signer.proofs.GrammarLemmas.{says_first}
use Rattle.s3_signer.proofs.VerifiedLemmas.{ready_along}
use Rattle.s3_signer.proofs.signed.signed_lines.Goals as goal

pub returns-in_err-value-clause-refused : goal.returns-in_err-value-clause-refused
returns-in_err-value-clause-refused c = λ refused body sent.
    let method = c.args.method.now in
    let target = c.args.target.now in
    let given = given_lines c.args.headers.now in
    let told = told_by c.args.telling.now in
    let made : unsigned_head method target given told c.args.stamp ≡ head_with method target c.deref.result.now =
    ap (head_of method target) (sym (ap pairs c.deref.ensures.value ∙ c.in_ok-lines.ensures ∙ ap (unsigned_lines given told) c.text.ensures.text)) in
    let same : IsErrOf c.authorization.result NotSignable = search rules in
    c.authorization.ensures.refused same
    (subst ReadsBack made (says_first method target (unsigned_lines given told c.args.stamp) (authorization_line c.args.id.now c.args.secret.now c.args.region.now (unsigned_head method target given told c.args.stamp) c.args.stamp ∷ []) sent.message.text sent.message.says))
    (ready_along told c.args.stamp _ _ made sent.ready)
