-- What the arguments in the code's tables add to a command line.
use Rattle.std.specs.Prelude.{◌≡◌, List, [], ◌∷◌, Some}
use Rattle.std.specs.Borrow.{Bor}
use Rattle.std.specs.List.{fold}
use Rattle.clap.specs.Words.{App, Rule, Text, with_rule, items_of}
use Rattle.clap.specs.declared.builder.arg.Arg.{Arg}
use Rattle.s3_command_line.specs.Words.{option_rule, required_rule, default_rule, flag_rule, words_rule}
use Rattle.s3_command_line.specs.declared.command.Argument.{Argument}
use Rattle.s3_command_line.specs.declared.command.Kind.{Kind}
use Rattle.s3_command_line.specs.declared.command.Kind.TheVariants.{Optional, Required, Defaulted, Flag, Words}

-- the rule of an argument of this kind and name
abbrev pub rule_of_kind : Kind → Text → Rule
rule_of_kind Optional name = option_rule name
rule_of_kind Required name = required_rule name
rule_of_kind (Defaulted value) name = default_rule name value.now
rule_of_kind Flag name = flag_rule name
rule_of_kind Words name = words_rule name

-- the rule of an argument
abbrev pub rule_of_argument : Argument → Rule
rule_of_argument argument = rule_of_kind argument.kind argument.name.now

-- a command line with some more arguments
abbrev pub with_arguments : App → List Argument → App
with_arguments app arguments = fold (λ a argument. with_rule a (rule_of_argument argument)) app arguments

-- what help calls the values of an argument: nothing where it is a flag
abbrev pub value_names : Kind → Bor Text → List (Bor Text)
value_names Flag value = []
value_names kind value = value ∷ []

-- what help says of an argument: what it calls its value, and the text
abbrev pub IsTold : Argument → Arg → Type 0
IsTold argument arg = (items_of arg.val_names ≡ value_names argument.kind argument.value) × (arg.help ≡ Some argument.help)
