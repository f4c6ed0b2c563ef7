-- What is brought through a connection has no carriage return beside bodies, nor has what is said of an upload or of a copy.
use Rattle.std.proofs.Common.{◌≡◌, ℕ, Bool, true, List, [], ◌∷◌, map, inl, inr, Option, Some, None, Result, Ok, Err, refl, sym, ap, subst, ◌∙◌}
use Rattle.std.specs.Prelude.{⊤}
use Rattle.std.specs.List.{AllByRecursion, list_all}
use Rattle.std.proofs.lemmas.Bool.{cases_Bool, MatchBool-at_true, MatchBool-at_false}
use Rattle.std.proofs.lemmas.List.Folds.{list_all-map}
use Rattle.std.proofs.lemmas.Option.{same_Some}
use Rattle.s3_config.specs.Settings.{Settings}
use Rattle.s3_versions.specs.Metadata.{Entry}
use Rattle.s3_versions.specs.declared.version.Data.{Data}
use Rattle.s3_versions.specs.declared.version.VersioningStatus.{VersioningStatus}
use Rattle.s3_uploads.specs.declared.listed.ListedPart.{ListedPart}
use Rattle.s3_machine.specs.declared.command.Command.{Command}
use Rattle.s3_terms.specs.Fault.{◌>>◌, ◌>>=◌}
use Rattle.s3_terms.specs.declared.code.Code.{Code}
use Rattle.s3_machine.specs.declared.command.Description.{Description}
use Rattle.s3_machine.specs.declared.command.Command.TheVariants as commands
use Rattle.s3_requests.specs.declared.routing.Plan.{Plan}
use Rattle.s3_requests.specs.declared.routing.Plan.TheVariants as plans
use Rattle.s3_requests.specs.Laws.{is_unbroken_entry, IsUnbrokenSaid, IsUnbrokenCommand, IsUnbrokenPlan, PlansAreUnbroken, SumsAreUnbroken}
use Rattle.s3_integrity.specs.declared.checksum.Checksum.{Checksum}
use Rattle.s3_requests.specs.Commands.{put_of, command_of, reads_body}
use Rattle.s3_requests.specs.KeptSum.{with_sum}
use Rattle.s3_machine.specs.declared.command.BucketCommand.TheVariants as bucket_commands
use Rattle.s3_machine.specs.declared.command.KeyCommand.TheVariants as key_commands
use Rattle.s3_machine.specs.declared.command.UploadCommand.TheVariants as upload_commands
use Rattle.s3_machine.specs.Step.{data_of}
use Rattle.s3_machine.specs.Effects.{Address, Read, source_read, begins, brought, copies, overrides_of, sent}
use Rattle.s3_replies.specs.declared.context.Context.{Context}
use Rattle.s3_replies.specs.Laws.{AreUnbroken, IsUnbroken, TagsAreUnbroken, is_unbroken, is_whole_line}
use Rattle.s3_replies.specs.Lines.{metadata_line}
use Rattle.s3_session.specs.Laws.{IsSound, SoundMessages}
use Rattle.s3_session.specs.Output.{Exchange, message_of}
use Rattle.s3_session.specs.Walk.{Walks}
use Rattle.s3_session.proofs.SoundLemmas.{admitted_route}

-- what is said of an object is so
abbrev pub SaysUnbroken : Description → Type 0
SaysUnbroken said = (is_unbroken said.content_type ≡ true) × (list_all is_whole_line (map metadata_line said.metadata) ≡ true)

-- all that the command brings along is so, what it begins an upload with, what it says of a copy, and what a reply is to say
pub record BringsUnbroken (command : Command) : Type 0 where
  pub whole : (what : Data (List ℕ)) → brought command ≡ Some what → IsUnbroken what
  pub begun : (address : Address) (asked : Description) → begins command ≡ Some (address, asked) → SaysUnbroken asked
  pub said : (asked : Read) (said : Description) → copies command ≡ Some (asked, Some said) → SaysUnbroken said
  pub overrides : AreUnbroken (overrides_of command)

told_whole : (entries : List Entry) → list_all is_unbroken_entry entries ≡ true → list_all is_whole_line (map metadata_line entries) ≡ true
told_whole entries all = list_all-map is_whole_line metadata_line entries ∙ all

-- so what a plan says of a copy may stand in lines
copy_said : (found : Option Description) → IsUnbrokenSaid found → (said : Description) → found ≡ Some said → SaysUnbroken said
copy_said (Some found) unbroken said is = subst SaysUnbroken (same_Some found said is) (unbroken.0, told_whole found.metadata unbroken.1)
copy_said None unbroken said is = absurd (cc)

-- a command that is made of what a body tells is made of something that it tells
pub made_of : {A : Type 0} (rule : Result A Code) (make : A → Command) (command : Command) → (rule >>= (λ (a : A). Ok (make a))) ≡ Ok command
    → (a : A) × (rule ≡ Ok a) × (make a ≡ command)
made_of (Ok a) make command made = (a, refl, cc)
made_of (Err code) make command made = absurd (cc)

-- the command brings nothing along, begins no upload, copies to no key, and reads nothing
pub record BringsNothing (command : Command) : Type 0 where
  pub put : brought command ≡ None
  pub part : sent command ≡ None
  pub begun : begins command ≡ None
  pub copied : copies command ≡ None
  pub unread : overrides_of command ≡ []

nothing_is_unbroken : (command : Command) → BringsNothing command → BringsUnbroken command
nothing_is_unbroken command nothing =
    record {
      whole = λ what is. let none : None ≡ Some what = sym nothing.put ∙ is in absurd (cc);
      begun = λ address asked is. let none : None ≡ Some (address, asked) = sym nothing.begun ∙ is in absurd (cc);
      said = λ asked told is. let none : None ≡ Some (asked, Some told) = sym nothing.copied ∙ is in absurd (cc);
      overrides = ap (λ (entries : List Entry). list_all is_whole_line (map metadata_line entries)) nothing.unread;
    }

-- where a rule of nothing passes, what follows is made
passed : (rule : Result ⊤ Code) (made command : Command) → (rule >> Ok made) ≡ Ok command → made ≡ command
passed (Ok done) made command is = cc
passed (Err code) made command is = absurd (cc)

-- what is made of a document in the body is nothing else
pub read_brings : (plan : Plan) (sum : Option Checksum) (payload : List ℕ) (command : Command) → reads_body plan ≡ true
    → command_of plan sum payload ≡ Ok command → BringsNothing command
unfolding command_of
read_brings (plans.CreateBucket name region) sum payload command reads made =
    subst BringsNothing (passed _ (commands.Bucket name bucket_commands.Create) command made)
    (record { put = refl; part = refl; begun = refl; copied = refl; unread = refl })
read_brings (plans.PutVersioning name dialect) sum payload command reads made =
    let read = made_of _ (λ (status : VersioningStatus). commands.Bucket name (bucket_commands.PutVersioning status)) command made in
    subst BringsNothing read.2 (record { put = refl; part = refl; begun = refl; copied = refl; unread = refl })
read_brings (plans.Complete bucket key id dialect condition) sum payload command reads made =
    let read = made_of _ (λ (listed : List ListedPart). commands.Upload bucket key id (upload_commands.Complete listed condition)) command made in
    subst BringsNothing read.2 (record { put = refl; part = refl; begun = refl; copied = refl; unread = refl })
read_brings (plans.DeleteObjects bucket) sum payload command reads made =
    let read = made_of _ (commands.DeleteObjects bucket) command made in
    subst BringsNothing read.2 (record { put = refl; part = refl; begun = refl; copied = refl; unread = refl })
read_brings _ sum payload command reads made = absurd (cc)

-- what a command stores beside a body may stand in lines
stores_unbroken : TagsAreUnbroken → (command : Command) → IsUnbrokenCommand command → BringsUnbroken command
stores_unbroken tags (commands.Key bucket key (key_commands.Put put)) unbroken =
    let all : IsUnbroken (data_of put) =
    record { tag = tags _ None; content_type = unbroken.0; metadata = told_whole put.metadata unbroken.1 } in
    record {
      whole = λ what is. let stored : data_of put ≡ what = cc in subst IsUnbroken stored all;
      begun = λ address began is. absurd (cc);
      said = λ asked said is. absurd (cc);
      overrides = refl;
    }
stores_unbroken tags (commands.Key bucket key (key_commands.Begin begin)) unbroken =
    record {
      whole = λ what is. absurd (cc);
      begun = λ address asked is.
          let said : begin ≡ asked = ap (λ (it : Address × Description). it.1) (same_Some (record { bucket = bucket; key = key }, begin) (address, asked) is) in
          subst SaysUnbroken said (unbroken.0, told_whole begin.metadata unbroken.1);
      said = λ asked said is. absurd (cc);
      overrides = refl;
    }
stores_unbroken tags (commands.Key bucket key (key_commands.Copy copy)) unbroken =
    record {
      whole = λ what is. absurd (cc);
      begun = λ address began is. absurd (cc);
      said = λ asked said is.
          copy_said copy.description unbroken said
          (ap (λ (it : Read × Option Description). it.1) (same_Some (source_read copy.source, copy.description) (asked, Some said) is));
      overrides = refl;
    }
stores_unbroken tags (commands.Key bucket key (key_commands.Read asked)) unbroken =
    record {
      whole = λ what is. absurd (cc);
      begun = λ address asked is. absurd (cc);
      said = λ asked told is. absurd (cc);
      overrides = told_whole asked.overrides unbroken;
    }
stores_unbroken tags _ unbroken =
    record {
      whole = λ what is. absurd (cc);
      begun = λ address asked is. absurd (cc);
      said = λ asked told is. absurd (cc);
      overrides = refl;
    }

planned : SumsAreUnbroken → TagsAreUnbroken → (plan : Plan) (sum : Option Checksum) (payload : List ℕ) (command : Command) → IsUnbrokenPlan plan
    → command_of plan sum payload ≡ Ok command → BringsUnbroken command
unfolding command_of
planned sums tags (plans.Ready ready) sum payload command unbroken made =
    let same : ready ≡ command = cc in
    subst BringsUnbroken same (stores_unbroken tags ready unbroken)
planned sums tags (plans.Put bucket key said condition) sum payload command unbroken made =
    let put = λ (metadata : List Entry). commands.Key bucket key (key_commands.Put (put_of said.content_type metadata condition payload)) in
    let kept = made_of (with_sum sum said.metadata) put command made in
    subst BringsUnbroken kept.2
    (stores_unbroken tags (put kept.0) (unbroken.0, sums sum said.metadata kept.0 kept.1 unbroken.1))
planned sums tags (plans.PutPart bucket key id number) sum payload command unbroken made =
    let same : commands.Upload bucket key id (upload_commands.PutPart number payload) ≡ command = cc in
    subst BringsUnbroken same (stores_unbroken tags (commands.Upload bucket key id (upload_commands.PutPart number payload)) tt)
planned sums tags plan sum payload command unbroken made = nothing_is_unbroken command (read_brings plan sum payload command refl made)

module _ (law : PlansAreUnbroken) (sums : SumsAreUnbroken) (messages : SoundMessages) (tags : TagsAreUnbroken) (settings : Settings) where
  sound_unbroken : (moment : ℕ) (bytes rest : List ℕ) (context : Context) (command : Command)
      → IsSound settings moment bytes context command rest → BringsUnbroken command
  sound_unbroken moment bytes rest context command sound =
      let routed = admitted_route settings sound.head moment sound.asks sound.admitted in
      planned sums tags sound.asks.plan _ sound.payload command
      (law settings sound.message.text sound.head sound.asks.plan sound.message.says routed) sound.asked

  no_more : (xs : List Exchange) → map message_of xs ≡ [] → AllByRecursion (λ (x : Exchange). BringsUnbroken x.command) xs
  no_more [] none = tt
  no_more (x ∷ xs) none = absurd (cc)

  -- all messages that were answered bring nothing else
  pub walked_unbroken : (ended : Bool) (bytes : List ℕ) (xs : List Exchange) (left : Option (List ℕ)) → Walks settings ended bytes (map message_of xs) left
      → AllByRecursion (λ (x : Exchange). BringsUnbroken x.command) xs
  walked_unbroken ended bytes [] left walk = tt
  walked_unbroken ended bytes (x ∷ xs) left walk =
      let sound = messages settings x.context.moment ended bytes walk.0 x.context x.command walk.1 in
      let more : AllByRecursion (λ (y : Exchange). BringsUnbroken y.command) xs = elim (cases_Bool x.context.closes) [
        | inl closing ↦ no_more xs (MatchBool-at_true _ _ closing walk.3).0
        | inr open_still ↦ walked_unbroken ended walk.0 xs left (MatchBool-at_false _ _ open_still walk.3)
      ] in
      (sound_unbroken x.context.moment bytes walk.0 x.context x.command sound, more)
