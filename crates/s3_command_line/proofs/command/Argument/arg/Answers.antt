use Rattle.std.proofs.Common.{◌∙◌, [], ◌∷◌, ap, refl, true, Some}
use Rattle.std.proofs.lemmas.List.{nil_from_length}
use Rattle.clap.specs.Words.{Rule}
use Rattle.clap.specs.declared.builder.action.ArgAction.TheVariants.{Append, SetTrue}
use Rattle.clap.specs.declared.builder.arg.Arg.{Arg}
use Rattle.clap.specs.declared.builder.texts.Texts.TheVariants.{One}
use Rattle.s3_command_line.proofs.ArgumentLemmas.{valued, named, is_made}
use Rattle.s3_command_line.proofs.command.Argument.arg.Goals as goal

pub returns-in-Optional : goal.returns-in-Optional
returns-in-Optional c =
    let a = c.args.self.now in
    let name = Some a.name.now in
    let arg = c.long.ensures ∙ ap (named a) (c.value_name.ensures ∙ ap (valued a) c.help-arg.ensures) in
    let rule = ap (λ (r : Rule). record r { long = name; value_names = 1 }) c.new.ensures.rule in
    let is = is_made _ a _ _ c.in-Optional.is arg rule c.new.ensures.optional.1 refl refl in
    record { rule = is.rule; local = is.local; told = is.told }

pub returns-in-Required : goal.returns-in-Required
returns-in-Required c =
    let a = c.args.self.now in
    let name = Some a.name.now in
    let arg = c.long-in-Required.ensures ∙ ap (named a) (c.value_name-in-Required.ensures ∙ ap (valued a) c.help-arg.ensures) in
    let last = c.required.ensures ∙ ap (λ (x : Arg). record x { required = true }) arg in
    let rule = ap (λ (r : Rule). record r { long = name; value_names = 1; required = true }) c.new.ensures.rule in
    let is = is_made _ a _ _ c.in-Required.is last rule c.new.ensures.optional.1 refl refl in
    record { rule = is.rule; local = is.local; told = is.told }

pub returns-in-Defaulted : goal.returns-in-Defaulted
returns-in-Defaulted c =
    let a = c.args.self.now in
    let name = Some a.name.now in
    let value = c.in-Defaulted.value in
    let arg = c.long-in-Defaulted.ensures ∙ ap (named a) (c.value_name-in-Defaulted.ensures ∙ ap (valued a) c.help-arg.ensures) in
    let last = c.default_value.ensures ∙ ap (λ (x : Arg). record x { default_vals = One value }) arg in
    let rule = ap (λ (r : Rule). record r { long = name; value_names = 1; defaults = value.now ∷ [] }) c.new.ensures.rule in
    let is = is_made _ a _ _ c.in-Defaulted.is last rule c.new.ensures.optional.1 refl refl in
    record { rule = is.rule; local = is.local; told = is.told }

pub returns-in-Flag : goal.returns-in-Flag
returns-in-Flag c =
    let a = c.args.self.now in
    let name = Some a.name.now in
    let last = c.action.ensures ∙ ap (λ (x : Arg). record x { action = Some SetTrue }) (c.long-in-Flag.ensures ∙ ap (named a) c.help-arg.ensures) in
    let rule = ap (λ (r : Rule). record r { long = name; action = Some SetTrue }) c.new.ensures.rule in
    let names = nil_from_length _ (ap (λ (r : Rule). r.value_names) c.new.ensures.rule) in
    let is = is_made _ a _ _ c.in-Flag.is last rule c.new.ensures.optional.1 names refl in
    record { rule = is.rule; local = is.local; told = is.told }

pub returns-in-Words : goal.returns-in-Words
returns-in-Words c =
    let a = c.args.self.now in
    let arg = c.value_name-in-Words.ensures ∙ ap (valued a) c.help-arg.ensures in
    let last = c.action-in-Words.ensures ∙ ap (λ (x : Arg). record x { action = Some Append }) arg in
    let rule = ap (λ (r : Rule). record r { action = Some Append; value_names = 1 }) c.new.ensures.rule in
    let is = is_made _ a _ _ c.in-Words.is last rule c.new.ensures.optional.1 refl refl in
    record { rule = is.rule; local = is.local; told = is.told }
