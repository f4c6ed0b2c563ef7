use Rattle.std.proofs.Common.{◌≡◌, sym, ◌∙◌, ap, ◌∷◌, [], ◌++◌, Some}
use Rattle.logbook.specs.Pages.{Named, nib, may_write}
use Rattle.s3_history.specs.Log.{Trace, first_key, key_after, before, told, head_of}
use Rattle.s3_history.proofs.LineLemmas.{key_after-push, told-append}
use Rattle.s3_history.proofs.StepLemmas.{line_is_added}
use Rattle.s3_history.proofs.recorder.Recorder.record.Goals as goal

pub compare_exchange-requires : goal.compare_exchange-requires
compare_exchange-requires g c =
    let at = c.self.invariant in
    let offer = c.plain-offer.ensures in
    let book = sym (ap (λ (w : Named). w.book) at.head_is) in
    let asked = c.plain-offer.result.ask in (
      ap (λ (w : Named). w.tracked) at.head_is,
      book,
      at.same_book ∙ book,
      offer.0,
      rw (ap (λ (w : Named). w.key) at.head_is, at.writes_next, offer.3) (line_is_added c.self.inside.seen.log asked),
    )

pub invariant_of-self : goal.invariant_of-self
invariant_of-self g c =
    let at = c.self.invariant in
    let added = c.compare_exchange.ensures in
    let next = c.new_pen.result.nib.key in
    let line = c.plain-offer.result.ask in
    let leaves : key_after first_key c.compare_exchange.new.seen.log ≡ next =
    ap (key_after first_key) added.7 ∙ key_after-push first_key c.self.inside.seen.log line ∙ ap (λ l. l.next) c.plain-offer.ensures.1 in
    record {
      head_is = at.head_is ∙ ap head_of (sym added.0);
      same_book = c.new_pen.ensures.book ∙ sym added.0;
      writes_next = c.new_pen.ensures.fresh ∙ ap (λ key. nib may_write key 0) (sym leaves);
    }

pub returns-clause-entry : goal.returns-clause-entry
returns-clause-entry g c =
    let old = c.self.inside.seen.log in
    let line = c.plain-offer.result.ask in
    let entry = g.D.Describes.entry c.args.about.now in
    let tells : line.entry ≡ Some entry = ap (λ l. l.entry) c.plain-offer.ensures.1 ∙ ap (λ x. Some (g.D.Describes.entry x)) c.of.ensures in
    ap told c.compare_exchange.ensures.7 ∙ told-append old (line ∷ []) ∙ ap (λ o. told old ++ before o []) tells
    ∙ ap (λ (t : Trace g.row.E.Denot). t.entries ++ entry ∷ []) c.self.view_is
