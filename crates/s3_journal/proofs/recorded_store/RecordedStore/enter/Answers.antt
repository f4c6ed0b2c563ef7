use Rattle.std.proofs.Common.{◌≡◌, ◌∷◌, [], ◌++◌, List, Option, ap, sym, subst, ◌∙◌, false}
use Rattle.std.specs.Prelude.{IfSome}
use Rattle.s3_machine.specs.declared.command.Answer.{Answer}
use Rattle.s3_machine.specs.declared.turn.Turn.{Turn}
use Rattle.s3_journal.specs.RecordedStore.{Journal, KeepsHistory, LastsFrom, told_or}
use Rattle.s3_journal.specs.Noted.{committed_in, ends_with_commit, entries_in}
use Rattle.s3_journal.specs.Recorded.{Recorded, recorded}
use Rattle.s3_journal.specs.declared.entry.Note.TheVariants as notes
use Rattle.s3_journal.proofs.CrashLemmas.{all_kept, all_push, kept_still}
use Rattle.s3_journal.proofs.HistoryLemmas.{keeps_push, told_stays}
use Rattle.s3_journal.proofs.NoteLemmas.{committed_still, ends_push, entries_push}
use Rattle.s3_journal.proofs.recorded_store.RecordedStore.enter.Goals as goal

pub invariant_of-self : goal.invariant_of-self
invariant_of-self g c =
    let old = c.self.inside in
    let new = c.apply.new.self in
    let opening = (told_or old.opening.entries old.store).standing.state in
    kept_still g.R.Records.leaves_one_of old.recorder.origin old.rules old.opening.entries old.recorder.entries old.first old.is_settled old.store new
    c.self.invariant c.in_err-answer.ensures.err
    (all_kept g.R.Records.leaves_one_of g.R.Records.or_of_more old.store.records new.records old.rules opening (entries_in old.recorder.entries) (committed_in old.recorder.entries)
    c.apply.ensures.stays c.self.invariant.3)

pub invariant_of-self-2 : goal.invariant_of-self-2
invariant_of-self-2 g c =
    let old = c.self.inside in
    let noted = old.recorder.entries in
    let all = c.record.new.self.entries in
    let committed = committed_in noted in
    let opening = (told_or old.opening.entries old.store).standing in
    let was : Journal = record { origin = old.recorder.origin; rules = old.rules; opening = opening; entries = entries_in noted; store = old.store.standing; committed = committed } in
    let seat = c.args.seat in
    let turn = c.args.turn in
    let answer = c.in_ok-answer.answer in
    let r : Recorded = recorded seat turn answer in
    let one : all ≡ noted ++ notes.Entry r ∷ [] =
    c.record.ensures.entry ∙ ap (λ (t : Turn). noted ++ notes.Entry (recorded seat t c.of.result.value) ∷ []) c.of-asked.ensures
    ∙ ap (λ (a : Answer). noted ++ notes.Entry (recorded seat turn a) ∷ []) c.of.ensures in
    let added : entries_in all ≡ entries_in noted ++ r ∷ [] = ap entries_in one ∙ entries_push noted r in
    let same : committed_in all ≡ committed = ap committed_in one ∙ committed_still noted r in
    let keeps = keeps_push c.one_more_entry.ensures.legal c.one_more_entry.ensures.leaves was seat turn answer (entries_in all) c.apply.new.self.standing c.record.new.self.origin (committed_in all) c.self.invariant.1 added c.in_ok-answer.ensures.answer c.in_ok-answer.ensures.state in
    let lasts = all_push g.R.Records.leaves_one_of g.R.Records.or_of_more old.store.records c.apply.new.self.records old.rules opening.state (entries_in noted) committed
    r (entries_in all) added c.apply.ensures.stays c.self.invariant.3 in
    subst (λ store. (old.opening.entries ≡ store ∷ [])
    × KeepsHistory (record { origin = c.record.new.self.origin; rules = old.rules; opening = store.standing; entries = entries_in all; store = c.apply.new.self.standing; committed = committed_in all })
    × (old.first ≡ store.standing.number)
    × IfSome (committed_in all) (LastsFrom (g.R.Records.leaves_one_of c.apply.new.self.records) old.rules store.standing.state (entries_in all))
    × (false ≡ ends_with_commit false all))
    (sym (told_stays old.opening.entries old.store c.apply.new.self c.self.invariant.0)) (
      c.self.invariant.0,
      keeps,
      c.self.invariant.2,
      subst (λ (front : Option (List Recorded)). IfSome front (LastsFrom (g.R.Records.leaves_one_of c.apply.new.self.records) old.rules opening.state (entries_in all))) (sym same) lasts,
      sym (ap (ends_with_commit false) one ∙ ends_push false noted r),
    )

pub returns-clause-entry : goal.returns-clause-entry
returns-clause-entry g c =
    let noted = c.self.inside.recorder.entries in
    let all = c.record.new.self.entries in
    let seat = c.args.seat in
    let turn = c.args.turn in
    let answer = c.in_ok-answer.answer in
    let r : Recorded = recorded seat turn answer in
    let one : all ≡ noted ++ notes.Entry r ∷ [] =
    c.record.ensures.entry ∙ ap (λ (t : Turn). noted ++ notes.Entry (recorded seat t c.of.result.value) ∷ []) c.of-asked.ensures
    ∙ ap (λ (a : Answer). noted ++ notes.Entry (recorded seat turn a) ∷ []) c.of.ensures in
    ap entries_in one ∙ entries_push noted r ∙ ap (λ (j : Journal). j.entries ++ r ∷ []) c.self.view_is

pub returns-clause-committed : goal.returns-clause-committed
returns-clause-committed g c =
    let noted = c.self.inside.recorder.entries in
    let all = c.record.new.self.entries in
    let seat = c.args.seat in
    let turn = c.args.turn in
    let answer = c.in_ok-answer.answer in
    let r : Recorded = recorded seat turn answer in
    let one : all ≡ noted ++ notes.Entry r ∷ [] =
    c.record.ensures.entry ∙ ap (λ (t : Turn). noted ++ notes.Entry (recorded seat t c.of.result.value) ∷ []) c.of-asked.ensures
    ∙ ap (λ (a : Answer). noted ++ notes.Entry (recorded seat turn a) ∷ []) c.of.ensures in
    ap committed_in one ∙ committed_still noted r ∙ ap (λ (j : Journal). j.committed) c.self.view_is
