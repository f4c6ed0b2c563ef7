use Rattle.std.proofs.Common.{sym, length, drop}
use Rattle.s3_prefixes.proofs.RollingLemmas.{common_cut, common_utf8}
use Rattle.s3_prefixes.proofs.rolling.rolled_len.Goals as goal

pub returns-clause-value : goal.returns-clause-value
returns-clause-value c =
    let rest = drop (length c.args.prefix.now) c.args.key.now in
    common_cut c.args.prefix.now c.args.delimiter.now c.args.key.now c.in_ok-end.end c.requires (rw (sym c.from.ensures) c.in_ok-end.ensures.within) (rw (sym c.from.ensures) c.in_ok-end.ensures.value)

pub returns-clause-utf8 : goal.returns-clause-utf8
returns-clause-utf8 c = λ text delimiter.
    common_utf8 c.args.prefix.now c.args.delimiter.now c.args.key.now c.in_ok-end.end text delimiter c.requires (rw (sym c.from.ensures) c.in_ok-end.ensures.within) (rw (sym c.from.ensures) c.in_ok-end.ensures.value)
