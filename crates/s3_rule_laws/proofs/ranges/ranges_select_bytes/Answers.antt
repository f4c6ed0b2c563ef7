use Rattle.s3_rule_laws.proofs.RangeLemmas.{ranges_are_read, outside_has_no_byte, ranges_select_parts, ranges_select_nothing_else, long_suffixes_are_all, long_ranges_end}
use Rattle.s3_rule_laws.proofs.ranges.ranges_select_bytes.Goals as goal

pub returns-clause-read : goal.returns-clause-read
returns-clause-read c = ranges_are_read

pub returns-clause-outside : goal.returns-clause-outside
returns-clause-outside c = outside_has_no_byte

pub returns-clause-parts : goal.returns-clause-parts
returns-clause-parts c = ranges_select_parts

pub returns-clause-nothing_else : goal.returns-clause-nothing_else
returns-clause-nothing_else c = ranges_select_nothing_else

pub returns-clause-suffixes : goal.returns-clause-suffixes
returns-clause-suffixes c = long_suffixes_are_all

pub returns-clause-ends : goal.returns-clause-ends
returns-clause-ends c = long_ranges_end
