use Rattle.std.proofs.Common.{◌≡◌, sym, ap, subst, ◌∙◌, arith}
use Rattle.std.specs.Prelude.{take, length}
use Rattle.s3_tables.specs.Keeping.{tables}
use Rattle.s3_stored_rows.specs.Changes.{after_all}
use Rattle.s3_mirrored_rows.specs.Mirror.{Awaits}
use Rattle.s3_mirrored_rows.proofs.mirrored_rows.MirroredRowsStoredRows.apply.Goals as goal

-- the file doesn't have the changes yet
pub invariant_of-self-in-Ok : goal.invariant_of-self-in-Ok
invariant_of-self-in-Ok g c = λ clean up.
    c.in-Ok.ensures.more (tables (g.F.LastingTables.state c.self.inside.file)) ∙ ap (after_all c.args.changes.now) (c.self.invariant clean up) ∙ sym c.in-Ok.ensures.ok

-- what waited waits
pub invariant_of-self-in-Err : goal.invariant_of-self-in-Err
invariant_of-self-in-Err g c =
    let waited = c.self.inside.waiting in
    let count : c.len-before.result ≡ length waited.items = omega (arith, c.len-before.ensures, waited.ok.0) in
    let front = c.truncate.ensures.items ∙ ap (λ n. take n c.apply_both.new.waiting.items) count ∙ c.apply_both.ensures.front in
    subst (λ waiting. Awaits (g.F.LastingTables.state c.self.inside.file) waiting c.apply_both.new.memory) (sym front)
    (subst (λ memory. Awaits (g.F.LastingTables.state c.self.inside.file) c.self.inside.waiting.items memory) (sym c.in-Err.ensures.err) c.self.invariant)
