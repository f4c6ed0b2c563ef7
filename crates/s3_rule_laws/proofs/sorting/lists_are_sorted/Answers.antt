use Rattle.s3_rule_laws.proofs.SortingLemmas.{sorting_keeps_elements, sorting_makes_order, sorting_keeps_ties, one_list_is_stable, one_list_is_in_order, order_before_is_forgotten}
use Rattle.s3_rule_laws.proofs.sorting.lists_are_sorted.Goals as goal

pub returns-clause-elements : goal.returns-clause-elements
returns-clause-elements g c = sorting_keeps_elements

pub returns-clause-order : goal.returns-clause-order
returns-clause-order g c = sorting_makes_order

pub returns-clause-ties : goal.returns-clause-ties
returns-clause-ties g c = sorting_keeps_ties

pub returns-clause-stable : goal.returns-clause-stable
returns-clause-stable g c = one_list_is_stable

pub returns-clause-once : goal.returns-clause-once
returns-clause-once g c = one_list_is_in_order

pub returns-clause-forgotten : goal.returns-clause-forgotten
returns-clause-forgotten g c = order_before_is_forgotten
