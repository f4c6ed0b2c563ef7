use Rattle.s3_catalogue_laws.proofs.ObjectListLemmas.{lists_begin_behind, tokens_are_not_told, starts_are_not_told, parts_begin_behind}
use Rattle.s3_catalogue_laws.proofs.objects.lists_begin_behind.Goals as goal

pub returns-clause-items : goal.returns-clause-items
returns-clause-items g c = lists_begin_behind c.items_are_distinct.ensures.keys c.keys_rise.ensures

pub returns-clause-tokens : goal.returns-clause-tokens
returns-clause-tokens g c = tokens_are_not_told c.items_are_distinct.ensures.keys c.keys_rise.ensures

pub returns-clause-starts : goal.returns-clause-starts
returns-clause-starts g c = starts_are_not_told c.items_are_distinct.ensures.keys c.keys_rise.ensures

pub returns-clause-parts : goal.returns-clause-parts
returns-clause-parts g c = parts_begin_behind
