use Rattle.std.proofs.Common.{sym, ◌∙◌, ap}
use Rattle.logbook.specs.Pages.{Named, Nib}
use Rattle.s3_history.proofs.StepLemmas.{word_is_made}
use Rattle.s3_history.proofs.recorder.Recorder.new.Goals as goal

pub compare_exchange-found-requires : goal.compare_exchange-found-requires
compare_exchange-found-requires g c =
    let head = c.tracked-head.ensures.0 in
    let opened = c.open-seen.ensures in
    let pen = c.no_pen-pen.ensures in
    let silent = c.plain-silent.ensures in
    let book = sym (ap (λ (w : Named). w.book) head ∙ opened.2) in
    let seen = c.open-seen.result.0.log in
    let asked = c.plain-silent.result.ask in (
      ap (λ (w : Named). w.tracked) head,
      book,
      pen.0 ∙ book,
      silent.0,
      rw (ap (λ (w : Named). w.key) head, ap (λ (n : Nib). n.key) opened.4, pen.1, silent.3) (word_is_made seen asked),
    )
