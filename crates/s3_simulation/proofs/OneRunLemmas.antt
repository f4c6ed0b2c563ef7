-- Settings, moments and events fix a run.
use Rattle.std.proofs.Common.{◌≡◌, ◌+◌, ◌<◌, ℕ, suc, Bool, false, List, [], ◌∷◌, ◌++◌, length, slice_index_or, refl, sym, ap, subst, ◌∙◌, append_assoc, arith, inl, inr}
use Rattle.std.proofs.lemmas.Bool.{true≢false}
use Rattle.s3_config.specs.Settings.{Settings}
use Rattle.s3_records.specs.Catalogue.{opening}
use Rattle.s3_machine.specs.Step.{State, step}
use Rattle.s3_machine.specs.History.{IsAnswer, Legal, after}
use Rattle.s3_machine.specs.declared.command.Answer.{Answer}
use Rattle.s3_machine.specs.declared.turn.Turn.{Turn}
use Rattle.s3_machine.specs.Rules.{rules_of}
use Rattle.s3_machine.specs.declared.rules.Rules.{Rules}
use Rattle.s3_journal.specs.Recorded.{Recorded, entries_of_seat, history_of, recorded}
use Rattle.s3_session.specs.Output.{is_dead}
use Rattle.s3_session.specs.Output as standings
use Rattle.s3_connection.specs.Output.{Input, OneOutput, answered_turn}
use Rattle.s3_simulation.specs.Events.{TurnAt, received, turns_given}
use Rattle.s3_simulation.specs.Run.{AreTaken, HasNoEntry, WaitsAt, moments_of, output_of}
use Rattle.s3_simulation.specs.Laws.{OneRun}
use Rattle.s3_simulation.specs.Timed.{TimedOutputs}
use Rattle.s3_simulation.proofs.PlayedLemmas.{OneTimedOutput, timed_one}
use Rattle.s3_simulation.proofs.EntryLemmas.{answer_there, history_more}

-- the answer to a turn
abbrev given : Rules → State → ℕ → Turn → Answer
given rules s n turn = record { number = n; outcome = (step rules s n turn.moment turn.command).1 }

first_same : {A : Type 0} (x y : A) (xs ys : List A) → x ∷ xs ≡ y ∷ ys → x ≡ y
first_same x y xs ys same = cc

module _ (one : OneTimedOutput) (settings : Settings) (moments : List (List ℕ)) where
  abbrev IsLegal : List Recorded → Type 0
  IsLegal entries = Legal (rules_of settings) (opening settings.buckets) 0 (history_of entries)

  module _ (lost lost' : ℕ → Bool) (live : (c : ℕ) → c < length moments → lost c ≡ false) (live' : (c : ℕ) → c < length moments → lost' c ≡ false) where
    -- no command waits, where there is no entry
    none_waits : (mine : ℕ → Bool) → ((c : ℕ) → c < length moments → mine c ≡ false) → (done : List Recorded) (at : TurnAt) (later : List Recorded)
        → HasNoEntry settings moments mine done at later → (turn : Turn) → ¬ (WaitsAt settings moments done at turn)
    none_waits mine lives done at later (inl none) = none
    none_waits mine lives done at later (inr dead) = λ turn waits. true≢false (sym dead.0 ∙ lives at.connection waits.0)

    -- the turns that wait are one
    one_waits : (done : List Recorded) (at : TurnAt) (t u : Turn) → WaitsAt settings moments done at t → WaitsAt settings moments done at u → t ≡ u
    one_waits done at t u waits other =
        first_same t u [] []
        (one settings (moments_of at.connection moments) at.input (entries_of_seat at.connection done) standings.Waiting standings.Waiting (t ∷ []) (u ∷ [])
        waits.1.0 other.1.0 refl refl waits.1.1 other.1.1).1

    -- and so are their entries
    one_answer : (done : List Recorded) (r s : Recorded) (rest others : List Recorded) → IsLegal (done ++ r ∷ rest) → IsLegal (done ++ s ∷ others)
        → answered_turn r.entry ≡ answered_turn s.entry → r.entry.answer ≡ s.entry.answer
    one_answer done r s rest others legal legal' same =
        let rules = rules_of settings in
        let first = opening settings.buckets in
        let a : IsAnswer rules (after rules first (history_of done)) (0 + length (history_of done)) r.entry =
        answer_there rules first 0 (history_of done) r.entry (history_of rest) (subst (Legal rules first 0) (history_more done (r ∷ rest)) legal) in
        let b : IsAnswer rules (after rules first (history_of done)) (0 + length (history_of done)) s.entry =
        answer_there rules first 0 (history_of done) s.entry (history_of others) (subst (Legal rules first 0) (history_more done (s ∷ others)) legal') in
        a ∙ ap (λ (t : Turn). given rules (after rules first (history_of done)) (0 + length (history_of done)) t) same ∙ sym b

    -- the entries are one, after the same entries
    one_taking : (done : List Recorded) (turns : List TurnAt) (later later' : List Recorded)
        → AreTaken settings moments lost done turns later → AreTaken settings moments lost' done turns later'
        → IsLegal (done ++ later) → IsLegal (done ++ later') → later ≡ later'
    one_taking done [] later later' taken taken' legal legal' = taken ∙ sym taken'
    one_taking done (at ∷ turns) later later' (inl none) (inl none') legal legal' =
        one_taking done turns later later' none.1 none'.1 legal legal'
    one_taking done (at ∷ turns) later later' (inl none) (inr some') legal legal' =
        absurd (none_waits lost live done at later none.0 (answered_turn some'.0.entry) some'.3.1)
    one_taking done (at ∷ turns) later later' (inr some) (inl none') legal legal' =
        absurd (none_waits lost' live' done at later' none'.0 (answered_turn some.0.entry) some.3.1)
    one_taking done (at ∷ turns) later later' (inr some) (inr some') legal legal' =
        let legal-here : IsLegal (done ++ some.0 ∷ some.1) = subst (λ (es : List Recorded). IsLegal (done ++ es)) some.2 legal in
        let legal-there : IsLegal (done ++ some'.0 ∷ some'.1) = subst (λ (es : List Recorded). IsLegal (done ++ es)) some'.2 legal' in
        let turn : answered_turn some.0.entry ≡ answered_turn some'.0.entry = one_waits done at (answered_turn some.0.entry) (answered_turn some'.0.entry) some.3.1 some'.3.1 in
        let answer : some.0.entry.answer ≡ some'.0.entry.answer = one_answer done some.0 some'.0 some.1 some'.1 legal-here legal-there turn in
        let same : some.0 ≡ some'.0 =
        ap (λ (k : ℕ). recorded k (answered_turn some.0.entry) some.0.entry.answer) (some.3.0 ∙ sym some'.3.0)
        ∙ ap (λ (t : Turn). recorded some'.0.seat t some.0.entry.answer) turn
        ∙ ap (recorded some'.0.seat (answered_turn some'.0.entry)) answer in
        some.2
        ∙ ap (λ (es : List Recorded). some.0 ∷ es)
        (one_taking (done ++ some.0 ∷ []) turns some.1 some'.1 some.4
        (subst (λ (r : Recorded). AreTaken settings moments lost' (done ++ r ∷ []) turns some'.1) (sym same) some'.4)
        (subst IsLegal (sym (append_assoc done (some.0 ∷ []) some.1)) legal-here)
        (subst IsLegal (sym (append_assoc done (some.0 ∷ []) some'.1)) (subst (λ (r : Recorded). IsLegal (done ++ r ∷ some'.1)) (sym same) legal-there)))
        ∙ ap (λ (r : Recorded). r ∷ some'.1) same ∙ sym some'.2

-- ---- outputs

outs_same : (outs outs' : List (List ℕ)) → length outs ≡ length outs'
    → ((c : ℕ) → c < length outs → slice_index_or outs c [] ≡ slice_index_or outs' c []) → outs ≡ outs'
outs_same [] [] count each = refl
outs_same [] (x ∷ outs') count each = absurd (omega arith)
outs_same (x ∷ outs) [] count each = absurd (omega arith)
outs_same (x ∷ outs) (y ∷ outs') count each =
    ap (λ (z : List ℕ). z ∷ outs) (each 0 (omega arith))
    ∙ ap (λ (zs : List (List ℕ)). y ∷ zs) (outs_same outs outs' (omega arith) (λ c less. each (suc c) (omega arith)))

pub one_run : OneOutput → OneRun
one_run one settings moments happened other outs outs' entries entries' run run' whole whole' alike =
    let taken' : AreTaken settings moments (λ c. is_dead (run'.standing c)) [] (turns_given happened) entries' =
    subst (λ (turns : List TurnAt). AreTaken settings moments (λ c. is_dead (run'.standing c)) [] turns entries') (sym alike.turns) run'.taken in
    let same : entries ≡ entries' =
    one_taking (timed_one one) settings moments (λ c. is_dead (run.standing c)) (λ c. is_dead (run'.standing c)) whole whole' [] (turns_given happened) entries entries' run.taken taken' run.legal run'.legal in (
      same,
      outs_same outs outs' (run.each ∙ sym run'.each)
          (λ c less.
          let there : c < length moments = omega (arith, run.each) in
          let ours = run.outputs c there in
          let theirs : TimedOutputs (run'.standing c) settings (moments_of c moments) (received c happened) (entries_of_seat c entries) (run'.waiting c) (output_of c outs') =
          subst (λ (es : List Recorded). TimedOutputs (run'.standing c) settings (moments_of c moments) (received c happened) (entries_of_seat c es) (run'.waiting c) (output_of c outs')) (sym same)
          (subst (λ (input : Input). TimedOutputs (run'.standing c) settings (moments_of c moments) input (entries_of_seat c entries') (run'.waiting c) (output_of c outs')) (sym (alike.inputs c)) (run'.outputs c there)) in
          (timed_one one settings (moments_of c moments) (received c happened) (entries_of_seat c entries) (run.standing c) (run'.standing c) (run.waiting c) (run'.waiting c) (output_of c outs) (output_of c outs')
          (whole c there) (whole' c there) ours theirs).0),
    )
