-- An argument as `clap` takes it has the rule of its kind, and help says of it what it is to say.
use Rattle.std.proofs.Common.{◌≡◌, ◌∙◌, false, sym, ap, Some}
use Rattle.clap.specs.Words.{rule_of, items_of}
use Rattle.clap.specs.declared.builder.arg.Arg.{Arg}
use Rattle.clap.specs.declared.builder.texts.Texts.TheVariants.{One}
use Rattle.s3_command_line.specs.declared.command.Argument.{Argument}
use Rattle.s3_command_line.specs.declared.command.Kind.{Kind}
use Rattle.s3_command_line.specs.Command.{rule_of_kind, rule_of_argument, value_names, IsTold}

-- steps that make an argument of a new one
abbrev pub valued : Argument → Arg → Arg
valued a arg = record arg { val_names = One a.value }

abbrev pub named : Argument → Arg → Arg
named a arg = record arg { long = Some a.name }

-- what is promised of the argument
pub record IsArgument (a : Argument) (arg : Arg) : Type 0 where
  pub rule : rule_of arg ≡ rule_of_argument a
  pub local : arg.global ≡ false
  pub told : IsTold a arg

-- what the last step gives is what was made of a new one, which has this kind's rule
pub is_made : (k : Kind) (a : Argument) (made arg : Arg) → a.kind ≡ k → arg ≡ made
    → rule_of made ≡ rule_of_kind k a.name.now → made.global ≡ false → items_of made.val_names ≡ value_names k a.value → made.help ≡ Some a.help → IsArgument a arg
is_made k a made arg kind e rule local names help = record {
  rule = ap rule_of e ∙ rule ∙ ap (λ k. rule_of_kind k a.name.now) (sym kind);
  local = ap (λ (x : Arg). x.global) e ∙ local;
  told = (
    ap (λ (x : Arg). items_of x.val_names) e ∙ names ∙ ap (λ k. value_names k a.value) (sym kind),
    ap (λ (x : Arg). x.help) e ∙ help,
  );
}
