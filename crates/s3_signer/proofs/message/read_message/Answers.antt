use Rattle.std.proofs.Common.{◌∙◌, length, length-drop, length-take, sym, ap, arith}
use Rattle.std.proofs.lemmas.Bool.{iff_false, not-false, not-true}
use Rattle.std.proofs.lemmas.Slice.Eq.{bytes_eq-Decides}
use Rattle.s3_http_heads.specs.declared.find.Found.TheVariants.{Head}
use Rattle.s3_http_heads.specs.BodyLength.{announced, length_lines}
use Rattle.s3_signer.proofs.MessageLemmas.{cut_message, joined_parts, same_count, whole_rest}
use Rattle.s3_signer.proofs.message.read_message.Goals as goal

pub split_at-requires : goal.split_at-requires
split_at-requires c =
    let found = (c.verdict_is_exact.ensures.head c.args.bytes.now c.in-Head.len).0 (sym c.in-Head.ensures) in
    let within = rw (← c.skipped.ensures.pairs) at found.within in
    grind (arith, length-take, length-drop, within)

pub returns-then-ne-clause-refused : goal.returns-then-ne-clause-refused
returns-then-ne-clause-refused c = λ refused message.
    let begun = whole_rest c.args.bytes.now c.skipped.result ∙ c.skipped.ensures.pairs in
    iff_false (bytes_eq-Decides c.split_at.result.1.now c.args.body.now) (not-true _ (sym c.ne.ensures ∙ c.if-ne.true))
    (c.split_at.ensures.back ∙ (cut_message c.args.bytes.now _ c.args.body.now c.in-Head.len _ c.in-Head.ensures begun message).1)

pub returns-clause-message : goal.returns-clause-message
returns-clause-message c =
    let begun = whole_rest c.args.bytes.now c.skipped.result ∙ c.skipped.ensures.pairs in
    let same = (bytes_eq-Decides c.split_at.result.1.now c.args.body.now).0 (not-false _ (sym c.ne.ensures ∙ c.if-ne.false)) in
    let told = same_count c.announced_length.result (length c.args.body.now) (not-false _ (sym c.ne-2.ensures ∙ c.if-ne-2.false)) in
    record {
      text = c.split_at.result.0.now;
      found = sym c.in-Head.ensures ∙ ap Head (sym c.split_at.ensures.front_len);
      joined = joined_parts _ _ c.split_at.result.0.now c.split_at.result.1.now c.args.body.now c.in-Head.len begun c.split_at.ensures.front c.split_at.ensures.back same;
      says = c.in_ok-head.ensures.says;
      whole = ap (λ parts. announced (length_lines parts)) (sym c.in_ok-head.ensures.head) ∙ sym c.announced_length.ensures ∙ told;
    }
