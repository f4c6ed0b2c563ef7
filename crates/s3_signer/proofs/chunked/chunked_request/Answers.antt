use Rattle.std.proofs.Common.{◌≤◌, ◌^◌, arith, length, subst, sym}
use Rattle.std.proofs.lemmas.List.{length-map}
use Rattle.s3_aws_chunked.specs.Write.{Writes, written_length}
use Rattle.s3_signer.specs.Chunked.{chunked}
use Rattle.s3_signer.specs.Request.{given_lines}
use Rattle.s3_signer.proofs.ChunkedLemmas.{chunked_text, chunked_verified, not_signable, signable, too_long, value_ends}
use Rattle.s3_signer.proofs.GrammarLemmas.{not_more}
use Rattle.s3_signer.proofs.LineLemmas.{given_line}
use Rattle.s3_signer.proofs.VerifiedLemmas.{ok_with, on_ok}
use Rattle.s3_signer.proofs.chunked.chunked_request.Goals.{then-headers-gt-LINE_LIMIT-via-then-headers-gt-LINE_LIMIT, then-headers-gt-LINE_LIMIT-via-else-headers-gt-LINE_LIMIT+then-secret-gt-SECRET_MAX, then-headers-gt-LINE_LIMIT-via-else-headers-gt-LINE_LIMIT+else-secret-gt-SECRET_MAX+then-region-gt-REGION_MAX}
use Rattle.s3_signer.proofs.chunked.chunked_request.Goals as goal

pub returns-then-headers-gt-LINE_LIMIT-clause-refused : goal.returns-then-headers-gt-LINE_LIMIT-clause-refused
returns-then-headers-gt-LINE_LIMIT-clause-refused c = λ refused s.
    elim c.then-headers-gt-LINE_LIMIT.branch [
      | then-headers-gt-LINE_LIMIT-via-then-headers-gt-LINE_LIMIT w ↦
          not_more c.args.id.now c.args.secret.now c.args.region.now c.args.method.now c.args.target.now (given_lines c.args.headers.now) (chunked c.args.body.now c.args.size) c.args.stamp s.body
          (omega (arith, w.if-headers-gt-LINE_LIMIT.true, length-map c.args.headers.now given_line)) s.sent
      | then-headers-gt-LINE_LIMIT-via-else-headers-gt-LINE_LIMIT+then-secret-gt-SECRET_MAX w ↦ absurd (omega (arith, w.if-secret-gt-SECRET_MAX.true, s.key))
      | then-headers-gt-LINE_LIMIT-via-else-headers-gt-LINE_LIMIT+else-secret-gt-SECRET_MAX+then-region-gt-REGION_MAX w ↦ absurd (omega (arith, w.if-region-gt-REGION_MAX.true, s.place))
    ]

pub returns-in_default-clause-refused : goal.returns-in_default-clause-refused
returns-in_default-clause-refused c = λ refused.
    too_long c.args.id.now c.args.secret.now c.args.region.now c.args.method.now c.args.target.now (given_lines c.args.headers.now) c.args.body.now c.args.size c.args.stamp
    (subst (λ n. 2 ^ 64 ≤ written_length (length c.args.body.now) n) c.bytes.ensures.value (rw c.in_default.is at c.written_length.ensures))

pub chunked_body-requires-clause-value : goal.chunked_body-requires-clause-value
chunked_body-requires-clause-value c =
    value_ends c.args.id.now c.args.secret.now c.args.region.now c.args.method.now c.args.target.now (given_lines c.args.headers.now) c.args.body.now c.args.size c.args.stamp c.in_ok-signed.signed c.in_ok-signed.ensures.signed

pub returns-clause-text : goal.returns-clause-text
returns-clause-text c =
    let body = c.deref.result.now in
    let written = subst (Writes _ c.args.body.now c.args.size) (sym c.deref.ensures.value) c.in_ok-text.ensures in
    ok_with c.signed_text.result _ _ _ _ c.signed_text.ensures.text c.signed_text.ensures.message c.signed_text.ensures.own (λ text is message own.
    chunked_text c.args.id.now c.args.secret.now c.args.region.now c.args.method.now c.args.target.now (given_lines c.args.headers.now) c.args.body.now c.args.size c.args.stamp c.in_ok-signed.signed c.in_ok-signed.ensures.signed body written message own text.items is)

pub returns-clause-signable : goal.returns-clause-signable
returns-clause-signable c =
    let body = c.deref.result.now in
    let written = subst (Writes _ c.args.body.now c.args.size) (sym c.deref.ensures.value) c.in_ok-text.ensures in
    on_ok c.signed_text.result _ _ _ c.signed_text.ensures.message c.signed_text.ensures.own (λ message own.
    signable c.args.id.now c.args.secret.now c.args.region.now c.args.method.now c.args.target.now (given_lines c.args.headers.now) c.args.body.now c.args.size c.args.stamp c.in_ok-signed.signed c.in_ok-signed.ensures.signed body written message own
    (omega (arith, c.if-secret-gt-SECRET_MAX.false)) (omega (arith, c.if-region-gt-REGION_MAX.false)))

pub returns-clause-refused : goal.returns-clause-refused
returns-clause-refused c = λ refused.
    let body = c.deref.result.now in
    let written = subst (Writes _ c.args.body.now c.args.size) (sym c.deref.ensures.value) c.in_ok-text.ensures in
    not_signable c.args.id.now c.args.secret.now c.args.region.now c.args.method.now c.args.target.now (given_lines c.args.headers.now) c.args.body.now c.args.size c.args.stamp c.in_ok-signed.signed c.in_ok-signed.ensures.signed body written c.writings_are_accepted.ensures.one (c.signed_text.ensures.refused refused)

pub returns-clause-verified : goal.returns-clause-verified
returns-clause-verified c =
    let body = c.deref.result.now in
    let written = subst (Writes _ c.args.body.now c.args.size) (sym c.deref.ensures.value) c.in_ok-text.ensures in
    ok_with c.signed_text.result _ _ _ _ c.signed_text.ensures.text c.signed_text.ensures.message c.signed_text.ensures.own (λ text is message own.
    chunked_verified c.args.id.now c.args.secret.now c.args.region.now c.args.method.now c.args.target.now (given_lines c.args.headers.now) c.args.body.now c.args.size c.args.stamp c.in_ok-signed.signed c.in_ok-signed.ensures.signed body written message own text.items is
    c.writings_are_accepted.ensures.writings)
