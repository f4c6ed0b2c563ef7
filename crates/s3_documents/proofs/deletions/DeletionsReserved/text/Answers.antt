use Rattle.std.proofs.Common.{arith}
use Rattle.s3_documents.proofs.deletions.DeletionsReserved.text.Goals as goal

pub text_in-requires-clause-json : goal.text_in-requires-clause-json
text_in-requires-clause-json c = omega (arith, c.args.self.suffices c.args.self.list.markers)
