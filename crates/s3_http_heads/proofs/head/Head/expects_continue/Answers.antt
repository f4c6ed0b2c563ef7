use Rattle.std.proofs.Common.{None, sym, ◌∙◌}
use Rattle.s3_http_heads.proofs.NameLemmas.{expect_old, expect_said}
use Rattle.s3_http_heads.proofs.head.Head.expects_continue.Goals as goal

pub returns-then-minor-ne1 : goal.returns-then-minor-ne1
returns-then-minor-ne1 c = expect_old c.args.self.now (λ new. c.if-minor-ne1.true (c.minor.ensures ∙ new))

pub returns-in-Some : goal.returns-in-Some
returns-in-Some c =
    c.is_named.ensures ∙ expect_said c.args.self.now _ (sym c.minor.ensures ∙ c.if-minor-ne1.false) c.in-Some.ensures

pub returns-in-None : goal.returns-in-None
returns-in-None c = expect_said c.args.self.now None (sym c.minor.ensures ∙ c.if-minor-ne1.false) c.in-None.ensures
