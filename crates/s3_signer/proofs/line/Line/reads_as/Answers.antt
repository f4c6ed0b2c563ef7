use Rattle.std.proofs.Common.{◌∙◌, ap, sym}
use Rattle.std.specs.Str.{bytes_eq}
use Rattle.std.proofs.lemmas.Slice.Eq.{bytes_eq-Decides}
use Rattle.httparse.specs.Grammar.{trim_ows}
use Rattle.s3_signer.proofs.MessageLemmas.{same_line}
use Rattle.s3_signer.proofs.line.Line.reads_as.Goals as goal

pub returns-then-eq : goal.returns-then-eq
returns-then-eq c =
    let line = c.args.self.now in
    let same = (bytes_eq-Decides c.args.name.now c.as_slice.result.now).0 (sym c.eq.ensures ∙ c.if-eq.true) ∙ c.as_slice.ensures.value in
    same_line c.args.name.now line.name.items c.args.value.now line.value.items c.eq-then-eq.result same
    (c.eq-then-eq.ensures ∙ ap (bytes_eq c.args.value.now) (c.trimmed.ensures ∙ ap trim_ows c.deref.ensures.value))
