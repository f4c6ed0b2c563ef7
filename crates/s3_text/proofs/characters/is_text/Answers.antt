use Rattle.std.proofs.Common.{◌∙◌}
use Rattle.s3_text.proofs.CharacterLemmas.{utf8_answer}
use Rattle.s3_text.proofs.characters.is_text.Goals as goal

pub returns : goal.returns
returns c = c.is_ok.ensures.value ∙ utf8_answer _ _ _ _ c.from_utf8.ensures.cases
