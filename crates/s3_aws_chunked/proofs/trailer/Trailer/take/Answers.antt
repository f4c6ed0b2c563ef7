use Rattle.std.proofs.Common.{ℕ, List, ap, sym, arith}
use Rattle.std.proofs.lemmas.List.{append-nil}
use Rattle.s3_aws_chunked.proofs.trailer.Trailer.take.Goals as goal

pub loop-taken-init : goal.loop-taken-init
loop-taken-init c = record {
  within = omega arith;
  fits = omega arith;
  value = ap (λ (t : List ℕ). record c.args.self.now { bytes = t }) (sym (append-nil c.args.self.now.bytes));
}
