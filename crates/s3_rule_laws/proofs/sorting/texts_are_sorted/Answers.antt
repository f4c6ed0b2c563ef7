use Rattle.s3_rule_laws.proofs.TextLemmas.{bytes_order_texts, texts_are_sorted, distinct_texts_rise}
use Rattle.s3_rule_laws.proofs.sorting.texts_are_sorted.Goals as goal

pub returns-clause-bytes : goal.returns-clause-bytes
returns-clause-bytes c = bytes_order_texts

pub returns-clause-sorted : goal.returns-clause-sorted
returns-clause-sorted c = texts_are_sorted

pub returns-clause-distinct : goal.returns-clause-distinct
returns-clause-distinct c = distinct_texts_rise
