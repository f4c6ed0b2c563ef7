use Rattle.std.proofs.Common.{sym, subst}
use Rattle.std.specs.Str.{IsUtf8}
use Rattle.s3_documents.proofs.IdLemmas.{id_utf8}
use Rattle.s3_documents.proofs.texts.id_told.Goals as goal

pub returns-in-Some-clause-utf8 : goal.returns-in-Some-clause-utf8
returns-in-Some-clause-utf8 c = subst IsUtf8 (sym c.id_spelled.ensures) (id_utf8 _)
