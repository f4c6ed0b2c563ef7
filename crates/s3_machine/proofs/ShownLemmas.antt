-- A read that succeeds is shown what its conditions select.
use Rattle.std.proofs.Common.{◌≡◌, refl, sym, ap, subst, ◌∙◌, true, not, ℕ, List, Some, Result, Ok, Err}
use Rattle.std.proofs.lemmas.Bool.{false≢true}
use Rattle.s3_terms.specs.declared.code.Code.{Code}
use Rattle.s3_terms.specs.declared.code.Code.TheVariants.{NoSuchBucket}
use Rattle.s3_terms.specs.Fault.{◌>>=◌}
use Rattle.s3_conditions.specs.declared.conditions.Conditions.{Conditions}
use Rattle.s3_conditions.specs.declared.conditions.Selection.{Selection}
use Rattle.s3_conditions.specs.declared.conditions.Selection.TheVariants.{Whole, Part, Unchanged, Outside}
use Rattle.s3_conditions.specs.Conditions.{judged}
use Rattle.s3_versions.specs.declared.picking.Refusal.{Refusal}
use Rattle.s3_versions.specs.declared.version.Data.{Data}
use Rattle.s3_versions.specs.declared.version.Version.{Version}
use Rattle.s3_versions.specs.Metadata.{Entry as MetadataEntry}
use Rattle.s3_versions.specs.Rules.{pick, facts_of}
use Rattle.s3_records.specs.Catalogue.{has_bucket, versions_of, versioning_of}
use Rattle.s3_machine.specs.declared.command.Command.{Command}
use Rattle.s3_machine.specs.declared.command.Command.TheVariants as commands
use Rattle.s3_machine.specs.declared.command.KeyCommand.TheVariants as key_commands
use Rattle.s3_machine.specs.declared.command.Found.{Found}
use Rattle.s3_machine.specs.declared.rules.Rules.{Rules}
use Rattle.s3_machine.specs.Fault.{as_refusal}
use Rattle.s3_machine.specs.Effects.{Read, reads, read_at, succeeds, facts_found}
use Rattle.s3_machine.specs.History.{after}
use Rattle.s3_machine.specs.Kept.{EveryHistory, IsShown, ReadsAreJudged}
use Rattle.s3_machine.specs.Step.{State, Stepped, found_in, outcome_shown, shown_by, key_done, done, stepped, step}
use Rattle.s3_machine.proofs.EffectLemmas.{shown, after_line}
use Rattle.s3_machine.proofs.HistoryLemmas.{right_at}
use Rattle.s3_machine.proofs.KeptLemmas.{outcome_is}

-- what succeeds is shown so
abbrev ShownOf : Conditions → Stepped → Type 0
ShownOf conditions st = succeeds st.1 ≡ true → IsShown conditions st.1

-- no refusal is in the judgement of conditions that select something
judged_ok : (judgement : Result Selection Code) (selection : Selection) → as_refusal judgement ≡ Ok selection → judgement ≡ Ok selection
judged_ok (Ok other) selection is = let same : other ≡ selection = cc in ap (λ (x : Selection). Ok x) same
judged_ok (Err code) selection is = absurd (cc)

chosen_shown : (s : State) (conditions : Conditions) (found : Found (List ℕ)) (overrides : List MetadataEntry) (selection : Result Selection Refusal)
    → shown_by conditions (facts_found found) ≡ selection
    → ShownOf conditions (stepped s (selection >>= (λ chosen. Ok (s, outcome_shown found overrides chosen))))
chosen_shown s conditions found overrides (Ok Whole) is success =
    record { found = found; selection = Whole; overrides = overrides; shows = refl; gives = refl; selects = judged_ok (judged conditions found.moment found.stored.tag found.stored.size) Whole is }
chosen_shown s conditions found overrides (Ok (Part first last)) is success =
    record { found = found; selection = Part first last; overrides = overrides; shows = refl; gives = refl; selects = judged_ok (judged conditions found.moment found.stored.tag found.stored.size) (Part first last) is }
chosen_shown s conditions found overrides (Ok Unchanged) is success = absurd (false≢true success)
chosen_shown s conditions found overrides (Ok Outside) is success = absurd (false≢true success)
chosen_shown s conditions found overrides (Err refusal) is success = absurd (false≢true success)

read_shown : (s : State) (name : List ℕ) (conditions : Conditions) (overrides : List MetadataEntry) (read : Result (Version (List ℕ) × Data (List ℕ)) Refusal)
    → ShownOf conditions (stepped s (read >>= shown s name conditions overrides))
read_shown s name conditions overrides (Ok read) =
    chosen_shown s conditions (found_in (versioning_of s name) read) overrides (shown_by conditions (facts_of read)) refl
read_shown s name conditions overrides (Err refusal) = λ success. absurd (false≢true success)

step_shown : (rules : Rules) (s : State) (n t : ℕ) (command : Command) (asked : Read) → reads command ≡ Some asked
    → ShownOf asked.conditions (step rules s n t command)
unfolding done key_done
step_shown rules s n t (commands.Key name key (key_commands.Read wanted)) asked is =
    let same : read_at (record { bucket = name; key = key }) wanted ≡ asked = cc in
    subst (λ (q : Read). ShownOf q.conditions (step rules s n t (commands.Key name key (key_commands.Read wanted)))) same
    (after_line (ShownOf wanted.conditions) s (not (has_bucket s name)) NoSuchBucket (key_done s n t name key (key_commands.Read wanted))
    (λ success. absurd (false≢true success))
    (λ there. read_shown s name wanted.conditions wanted.overrides (pick wanted.version (versions_of s name key))))
step_shown rules s n t _ asked is = absurd (cc)

pub reads_are_judged : EveryHistory ReadsAreJudged
reads_are_judged rules s n entries legal before later e asked parts is success =
    let there = after rules s before in
    let outcome = outcome_is rules there _ e (right_at rules s n entries before later e legal parts) in
    subst (IsShown asked.conditions) (sym outcome)
    (step_shown rules there e.answer.number e.moment e.command asked is (sym (ap succeeds outcome) ∙ success))
