use Rattle.std.proofs.Common.{sym, ◌∙◌, arith}
use Rattle.s3_http_heads.proofs.NameLemmas.{count_yes, count_no, count_all}
use Rattle.s3_http_heads.proofs.head.Head.count.Goals as goal
use Rattle.s3_http_heads.proofs.head.Head.count.Goals.{then-is_named, else-is_named}

pub loop-index-preserved : goal.loop-index-preserved
loop-index-preserved c = elim c.if-is_named.branch [
  | then-is_named w ↦
      let more = count_yes c.args.name.now c.args.self.now.headers c.loop-index.index _ _ c.header.ensures (sym w.if-is_named.true ∙ c.is_named.ensures) in
      record { counted = omega (arith, more, w.count-is, c.loop-index.invariant.counted); few = omega (arith, w.count-is) }
  | else-is_named w ↦
      let more = count_no c.args.name.now c.args.self.now.headers c.loop-index.index _ _ c.header.ensures (sym w.if-is_named.false ∙ c.is_named.ensures) in
      record { counted = omega (arith, more, w.count-is, c.loop-index.invariant.counted); few = omega (arith, w.count-is) }
]

pub returns : goal.returns
returns c = c.loop-index.invariant.counted ∙ count_all c.args.name.now c.args.self.now c.loop-index.index (omega (arith, c.header_count-index-end.ensures))
