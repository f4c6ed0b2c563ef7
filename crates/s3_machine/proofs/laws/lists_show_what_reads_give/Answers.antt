use Rattle.s3_machine.proofs.ListLemmas.{listed_is_current, lists_show_what_reads_give}
use Rattle.s3_machine.proofs.laws.lists_show_what_reads_give.Goals as goal

pub returns : goal.returns
returns c = lists_show_what_reads_give (listed_is_current c.listed_keys_are_read.ensures.read)
