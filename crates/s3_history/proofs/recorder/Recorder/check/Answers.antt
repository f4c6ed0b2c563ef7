use Rattle.std.proofs.Common.{◌≡◌, sym, ◌∙◌, ap, subst}
use mathlib.Core.List.{IsPrefix}
use Rattle.logbook.specs.Pages.{Named, Nib}
use Rattle.s3_history.specs.Log.{Trace, first_key, key_after, told}
use Rattle.s3_history.proofs.LineLemmas.{told-prefix, prefix-trans}
use Rattle.s3_history.proofs.StepLemmas.{end_is_found}
use Rattle.s3_history.proofs.recorder.Recorder.check.Goals as goal

pub compare_exchange-requires : goal.compare_exchange-requires
compare_exchange-requires g c =
    let at = c.self.invariant in
    let silent = c.plain-silent.ensures in
    let book = sym (ap (λ (w : Named). w.book) at.head_is) in
    let asked = c.plain-silent.result.ask in (
      ap (λ (w : Named). w.tracked) at.head_is,
      c.learn.ensures.0 ∙ ap (λ s. s.book) c.again-view.ensures ∙ book,
      at.same_book ∙ book,
      silent.0,
      rw (ap (λ (w : Named). w.key) at.head_is, at.writes_next, silent.3) (end_is_found c.learn.new.self.log (key_after first_key c.self.inside.seen.log) asked),
    )

pub returns-clause-begins : goal.returns-clause-begins
returns-clause-begins g c =
    let mine = c.self.inside.seen.log in
    let known = c.known.inside.seen.log in
    let both = c.learn.new.self.log in
    let all = c.compare_exchange.new.seen.log in
    let begins : IsPrefix mine both = subst (λ l. IsPrefix l both) (ap (λ s. s.log) c.again-view.ensures) c.learn.ensures.2 in
    let more : IsPrefix both all = c.compare_exchange.ensures.6 in
    let whole : mine ≡ all = c.compare_exchange.ensures.7.0 mine (prefix-trans mine both all begins more) (sym (ap (λ (n : Nib). n.key) c.self.invariant.writes_next)) in
    let part : IsPrefix known mine = subst (IsPrefix known) (sym whole) (prefix-trans known both all c.learn.ensures.3 more) in
    subst (λ (t : Trace g.row.E.Denot). IsPrefix t.entries c.args.self.now.entries) c.known.view_is
    (subst (λ (t : Trace g.row.E.Denot). IsPrefix (told known) t.entries) c.self.view_is (told-prefix known mine part))
