use Rattle.std.proofs.Common.{sym, ap, ◌∙◌, append-nil}
use Rattle.s3_xml_reader.specs.Names.{innermost_first}
use Rattle.s3_xml_reader.proofs.NameLemmas.{close_same, close_other, close_none}
use Rattle.s3_xml_reader.proofs.names.Open.close.Goals as goal

pub returns-then-eq : goal.returns-then-eq
returns-then-eq c =
    rw (← c.self.view_is) (close_same c.self.inside.names.items c.pop.new.self.items c.in-Some.outer c.args.name.now c.in-Some.ensures.items (sym c.if-eq.ensures))

pub returns-else-eq : goal.returns-else-eq
returns-else-eq c = (
  rw (← c.self.view_is) (close_other c.self.inside.names.items c.pop.new.self.items c.in-Some.outer c.args.name.now c.in-Some.ensures.items (sym c.if-eq.ensures)),
  ap innermost_first (c.push.ensures.items ∙ sym c.in-Some.ensures.items) ∙ c.self.view_is,
)

pub returns-in-None : goal.returns-in-None
returns-in-None c = (
  rw (← c.self.view_is) (close_none c.self.inside.names.items c.pop.new.self.items c.args.name.now c.in-None.ensures.items c.in-None.ensures.rest),
  ap innermost_first (sym (append-nil c.pop.new.self.items) ∙ sym c.in-None.ensures.items) ∙ c.self.view_is,
)
