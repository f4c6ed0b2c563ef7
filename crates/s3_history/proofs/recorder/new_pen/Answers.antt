use Rattle.std.proofs.Common.{sym, ◌∙◌, ap}
use Rattle.logbook.specs.Pages.{Named}
use Rattle.s3_history.proofs.StepLemmas.{word_is_made}
use Rattle.s3_history.proofs.recorder.new_pen.Goals as goal

pub compare_exchange-requires : goal.compare_exchange-requires
compare_exchange-requires g c =
    let pen = c.no_pen-pen.ensures in
    let silent = c.plain-silent.ensures in
    let book = ap (λ s. s.book) c.again-view.ensures ∙ sym (ap (λ (w : Named). w.book) c.requires) in
    let asked = c.plain-silent.result.ask in (
      ap (λ (w : Named). w.tracked) c.requires,
      book,
      pen.0 ∙ book,
      silent.0,
      rw (ap (λ (w : Named). w.key) c.requires, pen.1, silent.3) (word_is_made c.again-view.result.log asked),
    )
