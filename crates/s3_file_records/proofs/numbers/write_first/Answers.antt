use Rattle.std.proofs.Common.{refl, sym, ap, subst, ◌∙◌}
use Rattle.s3_table_records.specs.Numbered.{row_of, SaysNumber}
use Rattle.s3_table_records.proofs.NumberLemmas.{store_row_put}
use Rattle.s3_file_records.specs.Found.{said}
use Rattle.s3_file_records.proofs.numbers.write_first.Goals as goal

pub returns-clause-says : goal.returns-clause-says
returns-clause-says g c =
    let made = c.in_ok-apply.ensures.ok ∙ store_row_put c.args.memory.now c.args.number (row_of 1) c.requires.store in
    subst (λ n. SaysNumber (said n) c.apply.new.self) (sym c.requires.none) (row_of 1, refl, refl, ap (λ t. t.store) made)

pub returns-clause-rest : goal.returns-clause-rest
returns-clause-rest g c =
    let made = c.in_ok-apply.ensures.ok ∙ store_row_put c.args.memory.now c.args.number (row_of 1) c.requires.store in
    made ∙ ap (λ xs. record c.args.memory.now { store = xs }) (sym (ap (λ t. t.store) made))

pub returns-clause-was : goal.returns-clause-was
returns-clause-was g c = λ clean. (c.change.ensures.clean clean, c.change.ensures.was_open clean (c.in_ok-change.ensures.made clean).is_open)
