use Rattle.std.proofs.Common.{codes, [], ◌∷◌, ◌∙◌, ap, sym}
use Rattle.std.proofs.lemmas.Bool.{iff_false}
use Rattle.s3_http_heads.specs.Head.{parts_of, values_of}
use Rattle.s3_signer.specs.Line.{head_with}
use Rattle.s3_signer.specs.Request.{HasOne}
use Rattle.s3_signer.proofs.signed.signed_text.Goals as goal

pub returns-then-not-has_one-clause-refused : goal.returns-then-not-has_one-clause-refused
returns-then-not-has_one-clause-refused c = λ refused message own.
    let head = c.in_ok-text.ensures.head ∙ ap (λ lines. parts_of (head_with c.args.method.now c.args.target.now lines)) c.deref.ensures.value in
    iff_false c.has_one.ensures c.if-not-has_one.true
    (ap (values_of (codes "authorization")) head ∙ own ∙ ap (λ value. value ∷ []) (sym c.deref-2.ensures.value))

pub returns-clause-own : goal.returns-clause-own
returns-clause-own c =
    let head = c.in_ok-text.ensures.head ∙ ap (λ lines. parts_of (head_with c.args.method.now c.args.target.now lines)) c.deref.ensures.value in
    let own : HasOne (parts_of (head_with c.args.method.now c.args.target.now c.args.signed.now.lines.items)) (codes "authorization", c.args.signed.now.value.items) =
    sym (ap (values_of (codes "authorization")) head) ∙ c.has_one.ensures.0 c.if-not-has_one.false ∙ ap (λ value. value ∷ []) c.deref-2.ensures.value in
    own
