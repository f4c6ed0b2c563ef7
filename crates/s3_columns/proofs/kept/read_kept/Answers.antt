use Rattle.std.proofs.Common.{arith}
use Rattle.s3_columns.proofs.KeptLemmas.{is_written, is_allowed, is_found, is_told}
use Rattle.s3_columns.proofs.kept.read_kept.Goals as goal

pub returns-clause-written : goal.returns-clause-written
returns-clause-written c = is_written c.args.bytes.now c.kept_in.result (λ i. omega (arith, c.type_inv.bytes i)) c.kept_in.ensures.value

pub returns-clause-allowed : goal.returns-clause-allowed
returns-clause-allowed c = is_allowed c.args.bytes.now c.kept_in.result (λ i. omega (arith, c.type_inv.bytes i)) c.kept_in.ensures.value

pub returns-clause-found : goal.returns-clause-found
returns-clause-found c = is_found c.args.bytes.now c.kept_in.result c.kept_in.ensures.value

pub returns-clause-told : goal.returns-clause-told
returns-clause-told c = is_told c.args.bytes.now c.kept_in.result (λ i. omega (arith, c.type_inv.bytes i)) c.kept_in.ensures.value
