-- A condition of a write alone decides: by which code it is refused, and that it is met.
use Rattle.std.proofs.Common.{◌≡◌, refl, sym, ap, subst, ◌∙◌, Bool, true, false, not, ℕ, IsTrue, List, [], ◌∷◌, Option, Some, None, is_some, Result, ok_or}
use Rattle.std.proofs.lemmas.Bool.{false≢true}
use Rattle.std.proofs.lemmas.Option.{same_Some}
use Rattle.std.specs.Prelude.{option_and_then}
use Rattle.s3_terms.specs.declared.code.Code.{Code}
use Rattle.s3_terms.specs.declared.code.Code.TheVariants.{NoSuchUpload}
use Rattle.s3_terms.specs.Fault.{◌>>◌, ◌>>=◌}
use Rattle.s3_versions.specs.declared.picking.Refusal.{Refusal}
use Rattle.s3_versions.specs.declared.version.Data.{Data}
use Rattle.s3_versions.specs.Rules.{stored, current}
use Rattle.s3_uploads.specs.declared.upload.Upload.{Upload}
use Rattle.s3_records.specs.Catalogue.{has_bucket, versions_of}
use Rattle.s3_records.specs.OpenUploads.{upload_at}
use Rattle.s3_machine.specs.declared.command.Command.{Command}
use Rattle.s3_machine.specs.declared.command.Command.TheVariants as commands
use Rattle.s3_machine.specs.declared.command.KeyCommand.TheVariants as key_commands
use Rattle.s3_machine.specs.declared.command.UploadCommand.TheVariants as upload_commands
use Rattle.s3_machine.specs.declared.command.Outcome.{Outcome}
use Rattle.s3_machine.specs.declared.command.Outcome.TheVariants as outcomes
use Rattle.s3_machine.specs.declared.command.WriteCondition.{WriteCondition}
use Rattle.s3_machine.specs.declared.command.WriteCondition.TheVariants as write_conditions
use Rattle.s3_machine.specs.declared.rules.Rules.{Rules}
use Rattle.s3_machine.specs.Fault.{refuse, as_refusal}
use Rattle.s3_machine.specs.Effects.{Address, place_of, writes, brought, where_absent, wants_absent, where_matching, wants_matching, completes, succeeds}
use Rattle.s3_machine.specs.Conditional.{has_object, FindsItsPlace, unmet_code, TakenIsRefused, UnmatchedIsRefused, FreeIsAccepted, MatchedIsAccepted, PlainIsAccepted}
use Rattle.s3_machine.specs.History.{after}
use Rattle.s3_machine.specs.Kept.{EveryHistory}
use Rattle.s3_machine.specs.Step.{State, Stepped, tag_at, is_taken, is_barred, barred_code, key_done, upload_done, done, stepped, step}
use Rattle.s3_machine.proofs.ConditionalLemmas.{wanted, tagged, unmet, wanted_match}
use Rattle.s3_machine.proofs.HistoryLemmas.{right_at}
use Rattle.s3_machine.proofs.KeptLemmas.{outcome_is, past_line}

-- the condition of a write, and where that writes
abbrev conditional : Command → Option (Address × WriteCondition)
conditional (commands.Key bucket key (key_commands.Put put)) = Some (record { bucket = bucket; key = key }, put.condition)
conditional (commands.Key bucket key (key_commands.DeleteMatching tags)) =
    Some (record { bucket = bucket; key = key }, write_conditions.IfMatch tags)
conditional (commands.Upload bucket key id (upload_commands.Complete listed condition)) =
    Some (record { bucket = bucket; key = key }, condition)
conditional other = None

absent_conditional : (command : Command) (a : Address) → wants_absent command ≡ Some a → conditional command ≡ Some (a, write_conditions.IfAbsent)
absent_conditional (commands.Key name key (key_commands.Put put)) a wants =
    let here : Address = record { bucket = name; key = key } in
    let asked = wanted put.condition here a wants in
    ap (λ (c : WriteCondition). Some (here, c)) asked.0 ∙ ap (λ (b : Address). Some (b, write_conditions.IfAbsent)) asked.1
absent_conditional (commands.Upload name key id (upload_commands.Complete listed condition)) a wants =
    let here : Address = record { bucket = name; key = key } in
    let asked = wanted condition here a wants in
    ap (λ (c : WriteCondition). Some (here, c)) asked.0 ∙ ap (λ (b : Address). Some (b, write_conditions.IfAbsent)) asked.1
absent_conditional _ a wants = absurd (cc)

matching_conditional : (command : Command) (a : Address) (tags : List ℕ) → wants_matching command ≡ Some (a, tags)
    → conditional command ≡ Some (a, write_conditions.IfMatch tags)
matching_conditional (commands.Key name key (key_commands.Put put)) a tags wants =
    let here : Address = record { bucket = name; key = key } in
    let asked = wanted_match put.condition here a tags wants in
    ap (λ (c : WriteCondition). Some (here, c)) asked.0 ∙ ap (λ (b : Address). Some (b, write_conditions.IfMatch tags)) asked.1
matching_conditional (commands.Key name key (key_commands.DeleteMatching listed)) a tags wants =
    let here : Address = record { bucket = name; key = key } in
    let asked = wanted_match (write_conditions.IfMatch listed) here a tags wants in
    ap (λ (c : WriteCondition). Some (here, c)) asked.0 ∙ ap (λ (b : Address). Some (b, write_conditions.IfMatch tags)) asked.1
matching_conditional (commands.Upload name key id (upload_commands.Complete listed condition)) a tags wants =
    let here : Address = record { bucket = name; key = key } in
    let asked = wanted_match condition here a tags wants in
    ap (λ (c : WriteCondition). Some (here, c)) asked.0 ∙ ap (λ (b : Address). Some (b, write_conditions.IfMatch tags)) asked.1
matching_conditional _ a tags wants = absurd (cc)

-- ---- unmet

-- the code of a condition that isn't met tells whether an object is there
code_tells : (found : Option (List ℕ)) → barred_code found ≡ unmet_code (is_some found)
code_tells None = refl
code_tells (Some tag) = refl

unmet_is : (s : State) (name key : List ℕ) → barred_code (tag_at s name key) ≡ unmet_code (is_taken s name key)
unmet_is s name key =
    code_tells (tag_at s name key) ∙ ap unmet_code (tagged (option_and_then stored (current (versions_of s name key))))

-- what is refused at a line is refused with its code
pub refused_with : (s : State) (fault : Bool) (code : Code) (next : Result Stepped Refusal) → fault ≡ true
    → (stepped s (refuse fault code >> next)).1 ≡ outcomes.Refused code false
refused_with s true code next is = refl
refused_with s false code next is = absurd (false≢true is)

-- what comes of a command on an upload that is open
open_line : (s : State) (found : Option (Upload (List ℕ))) (next : Upload (List ℕ) → Result Stepped Refusal) (outcome : Outcome)
    → IsTrue (is_some found) → ((u : Upload (List ℕ)) → (stepped s (next u)).1 ≡ outcome)
    → (stepped s (as_refusal (ok_or found NoSuchUpload) >>= next)).1 ≡ outcome
open_line s None next outcome there each = absurd (false≢true there)
open_line s (Some u) next outcome there each = each u

-- the write is refused, where its condition isn't met
abbrev IsRefusedWhereUnmet : State → Command → Outcome → Address × WriteCondition → Type 0
IsRefusedWhereUnmet s command outcome p =
    FindsItsPlace s p.0 command → is_barred p.1 (tag_at s p.0.bucket p.0.key) ≡ true
    → outcome ≡ outcomes.Refused (unmet_code (has_object s p.0)) false

is_refused_there : (s : State) (name key : List ℕ) (condition : WriteCondition) (next : Result Stepped Refusal)
    → is_barred condition (tag_at s name key) ≡ true
    → (stepped s (refuse (is_barred condition (tag_at s name key)) (barred_code (tag_at s name key)) >> next)).1
    ≡ outcomes.Refused (unmet_code (is_taken s name key)) false
is_refused_there s name key condition next barred =
    refused_with s (is_barred condition (tag_at s name key)) (barred_code (tag_at s name key)) next barred
    ∙ ap (λ (code : Code). outcomes.Refused code false) (unmet_is s name key)

unmet_refused : (rules : Rules) (s : State) (n t : ℕ) (command : Command) (a : Address) (condition : WriteCondition)
    → conditional command ≡ Some (a, condition) → IsRefusedWhereUnmet s command (step rules s n t command).1 (a, condition)
unfolding done key_done upload_done
unmet_refused rules s n t (commands.Key name key (key_commands.Put put)) a condition is =
    let asked = commands.Key name key (key_commands.Put put) in
    subst (IsRefusedWhereUnmet s asked (step rules s n t asked).1) (same_Some (record { bucket = name; key = key }, put.condition) (a, condition) is)
    (λ place barred.
    ap (λ (st : Stepped). st.1) (past_line s (not (has_bucket s name)) (key_done s n t name key (key_commands.Put put)) (ap not place.bucket))
    ∙ is_refused_there s name key put.condition _ barred)
unmet_refused rules s n t (commands.Key name key (key_commands.DeleteMatching tags)) a condition is =
    let asked = commands.Key name key (key_commands.DeleteMatching tags) in
    subst (IsRefusedWhereUnmet s asked (step rules s n t asked).1)
    (same_Some (record { bucket = name; key = key }, write_conditions.IfMatch tags) (a, condition) is)
    (λ place barred.
    ap (λ (st : Stepped). st.1) (past_line s (not (has_bucket s name)) (key_done s n t name key (key_commands.DeleteMatching tags)) (ap not place.bucket))
    ∙ is_refused_there s name key (write_conditions.IfMatch tags) _ barred)
unmet_refused rules s n t (commands.Upload name key id (upload_commands.Complete listed wants)) a condition is =
    let asked = commands.Upload name key id (upload_commands.Complete listed wants) in
    subst (IsRefusedWhereUnmet s asked (step rules s n t asked).1) (same_Some (record { bucket = name; key = key }, wants) (a, condition) is)
    (λ place barred.
    ap (λ (st : Stepped). st.1)
    (past_line s (not (has_bucket s name)) (upload_done rules s n t name key id (upload_commands.Complete listed wants)) (ap not place.bucket))
    ∙ open_line s (upload_at s name key id) _ _ (place.upload (place_of name key id) listed refl)
    (λ u. is_refused_there s name key wants _ barred))
unmet_refused rules s n t _ a condition is = absurd (cc)

pub taken_is_refused : EveryHistory TakenIsRefused
taken_is_refused rules s n entries legal before later write address parts wants place taken =
    let here = after rules s before in
    outcome_is rules here _ write (right_at rules s n entries before later write legal parts)
    ∙ unmet_refused rules here write.answer.number write.moment write.command address write_conditions.IfAbsent
    (absent_conditional write.command address wants) place (unmet write_conditions.IfAbsent here address.bucket address.key refl ∙ taken)
    ∙ ap (λ (is : Bool). outcomes.Refused (unmet_code is) false) taken

pub unmatched_is_refused : EveryHistory UnmatchedIsRefused
unmatched_is_refused rules s n entries legal before later write address tags parts wants place none =
    let here = after rules s before in
    outcome_is rules here _ write (right_at rules s n entries before later write legal parts)
    ∙ unmet_refused rules here write.answer.number write.moment write.command address (write_conditions.IfMatch tags)
    (matching_conditional write.command address tags wants) place (ap not none)

-- ---- met

-- what isn't refused at a line goes on
past_met : (s : State) (fault : Bool) (code : Code) (next : Result Stepped Refusal) → fault ≡ false
    → (stepped s (refuse fault code >> next)).1 ≡ (stepped s next).1
past_met s false code next is = refl
past_met s true code next is = absurd (false≢true (sym is))

-- the write succeeds, where its condition is met
abbrev IsAcceptedWhereMet : State → Outcome → Address × WriteCondition → Type 0
IsAcceptedWhereMet s outcome p =
    IsTrue (has_bucket s p.0.bucket) → is_barred p.1 (tag_at s p.0.bucket p.0.key) ≡ false → succeeds outcome ≡ true

met_accepted : (rules : Rules) (s : State) (n t : ℕ) (command : Command) (a : Address) (condition : WriteCondition)
    → conditional command ≡ Some (a, condition) → completes command ≡ None → IsAcceptedWhereMet s (step rules s n t command).1 (a, condition)
unfolding done key_done
met_accepted rules s n t (commands.Key name key (key_commands.Put put)) a condition is alone =
    let asked = commands.Key name key (key_commands.Put put) in
    subst (IsAcceptedWhereMet s (step rules s n t asked).1) (same_Some (record { bucket = name; key = key }, put.condition) (a, condition) is)
    (λ there met.
    ap (λ (st : Stepped). succeeds st.1) (past_line s (not (has_bucket s name)) (key_done s n t name key (key_commands.Put put)) (ap not there))
    ∙ ap succeeds (past_met s (is_barred put.condition (tag_at s name key)) (barred_code (tag_at s name key)) _ met))
met_accepted rules s n t (commands.Key name key (key_commands.DeleteMatching tags)) a condition is alone =
    let asked = commands.Key name key (key_commands.DeleteMatching tags) in
    subst (IsAcceptedWhereMet s (step rules s n t asked).1)
    (same_Some (record { bucket = name; key = key }, write_conditions.IfMatch tags) (a, condition) is)
    (λ there met.
    ap (λ (st : Stepped). succeeds st.1)
    (past_line s (not (has_bucket s name)) (key_done s n t name key (key_commands.DeleteMatching tags)) (ap not there))
    ∙ ap succeeds (past_met s (is_barred (write_conditions.IfMatch tags) (tag_at s name key)) (barred_code (tag_at s name key)) _ met))
met_accepted rules s n t (commands.Upload name key id (upload_commands.Complete listed wants)) a condition is alone = absurd (cc)
met_accepted rules s n t _ a condition is alone = absurd (cc)

pub free_is_accepted : EveryHistory FreeIsAccepted
free_is_accepted rules s n entries legal before later write address parts wants alone there free =
    let here = after rules s before in
    ap succeeds (outcome_is rules here _ write (right_at rules s n entries before later write legal parts))
    ∙ met_accepted rules here write.answer.number write.moment write.command address write_conditions.IfAbsent
    (absent_conditional write.command address wants) alone there (unmet write_conditions.IfAbsent here address.bucket address.key refl ∙ free)

pub matched_is_accepted : EveryHistory MatchedIsAccepted
matched_is_accepted rules s n entries legal before later write address tags parts wants alone there found =
    let here = after rules s before in
    ap succeeds (outcome_is rules here _ write (right_at rules s n entries before later write legal parts))
    ∙ met_accepted rules here write.answer.number write.moment write.command address (write_conditions.IfMatch tags)
    (matching_conditional write.command address tags wants) alone there (ap not found)

-- who wants nothing of the object of a key has no condition
no_condition : (condition : WriteCondition) (a : Address) → where_absent condition a ≡ None → where_matching condition a ≡ None
    → condition ≡ write_conditions.Unconditional
no_condition write_conditions.Unconditional a absent matching = refl
no_condition write_conditions.IfAbsent a absent matching = absurd (cc)
no_condition (write_conditions.IfMatch tags) a absent matching = absurd (cc)

plain_conditional : (command : Command) (a : Address) (what : Data (List ℕ)) → brought command ≡ Some what → writes command ≡ a ∷ []
    → wants_absent command ≡ None → wants_matching command ≡ None
    → (conditional command ≡ Some (a, write_conditions.Unconditional)) × (completes command ≡ None)
plain_conditional (commands.Key name key (key_commands.Put put)) a what brings written absent matching =
    let here : Address = record { bucket = name; key = key } in
    let same : here ≡ a = cc in (
      ap (λ (c : WriteCondition). Some (here, c)) (no_condition put.condition here absent matching)
          ∙ ap (λ (b : Address). Some (b, write_conditions.Unconditional)) same,
      refl,
    )
plain_conditional _ a what brings written absent matching = absurd (cc)

pub plain_is_accepted : EveryHistory PlainIsAccepted
plain_is_accepted rules s n entries legal before later write address what parts brings written absent matching there =
    let here = after rules s before in
    let is = plain_conditional write.command address what brings written absent matching in
    ap succeeds (outcome_is rules here _ write (right_at rules s n entries before later write legal parts))
    ∙ met_accepted rules here write.answer.number write.moment write.command address write_conditions.Unconditional is.0 is.1 there refl
