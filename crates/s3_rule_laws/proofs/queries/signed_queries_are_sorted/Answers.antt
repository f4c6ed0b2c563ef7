use Rattle.s3_rule_laws.proofs.SignedQueryLemmas.{parameters_are_ordered, parameters_are_sorted, sent_order_is_not_signed, signature_is_not_signed}
use Rattle.s3_rule_laws.proofs.queries.signed_queries_are_sorted.Goals as goal

pub returns-clause-order : goal.returns-clause-order
returns-clause-order c = parameters_are_ordered

pub returns-clause-sorted : goal.returns-clause-sorted
returns-clause-sorted c = parameters_are_sorted

pub returns-clause-forgotten : goal.returns-clause-forgotten
returns-clause-forgotten c = sent_order_is_not_signed

pub returns-clause-unsigned : goal.returns-clause-unsigned
returns-clause-unsigned c = signature_is_not_signed
