use Rattle.std.proofs.Common.{sym, ◌∙◌, arith}
use Rattle.s3_http_heads.proofs.NameLemmas.{close_unnamed, close_other, close_found, close_old, close_nowhere}
use Rattle.s3_http_heads.proofs.head.Head.closes.Goals as goal
use Rattle.s3_http_heads.proofs.head.Head.closes.Goals.{else-is_named-via-then-is_named+else-has_word, else-is_named-via-else-is_named}

pub returns-then-minor-eq0 : goal.returns-then-minor-eq0
returns-then-minor-eq0 c = close_old c.args.self.now (sym c.minor.ensures ∙ c.if-minor-eq0.true)

pub returns-then-has_word : goal.returns-then-has_word
returns-then-has_word c =
    close_found c.args.self.now c.loop-index.index _ _ c.loop-index.invariant c.header.ensures c.if-is_named.ensures c.if-has_word.ensures

pub loop-index-preserved : goal.loop-index-preserved
loop-index-preserved c = elim c.else-is_named.branch [
  | else-is_named-via-then-is_named+else-has_word w ↦
      close_other c.args.self.now.headers c.loop-index.index _ _ c.header.ensures
      (sym w.if-is_named.true ∙ c.is_named.ensures) (sym w.if-has_word.false ∙ w.has_word.ensures)
      ∙ c.loop-index.invariant
  | else-is_named-via-else-is_named w ↦
      close_unnamed c.args.self.now.headers c.loop-index.index _ _ c.header.ensures (sym w.if-is_named.false ∙ c.is_named.ensures)
      ∙ c.loop-index.invariant
]

pub returns : goal.returns
returns c =
    close_nowhere c.args.self.now c.loop-index.index (λ old. c.if-minor-eq0.false (c.minor.ensures ∙ old)) c.loop-index.invariant
    (omega (arith, c.header_count-index-end.ensures))
