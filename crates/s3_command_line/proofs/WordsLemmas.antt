-- What a parse gives, by the words alone.
use Rattle.std.proofs.Common.{◌≡◌, ◌≢◌, ◌∙◌, ◌||◌, Bool, true, false, List, [], ◌∷◌, codes, refl, sym, ap, ap₂, subst, inl, inr, Option, Some, None, option_map, Result, Ok, Err, IfOk, IfErr}
use Rattle.std.specs.Result.{IsErrAnd}
use Rattle.clap.specs.Words.{App, Row, Rule, Text, with_rule, HasMatchesOf, HasKind, kind_of, is_simple, is_simple_and_free, fault_of, subcommand_of, subcommand_rows_of, subcommand_name_of}
use Rattle.clap.specs.declared.error.Error.{Error}
use Rattle.clap.specs.declared.error.kind.ErrorKind.TheVariants.{OutOfMemory}
use Rattle.clap.specs.declared.parser.matches.ArgMatches.{ArgMatches}
use Rattle.clap.specs.declared.parser.matches.ArgMatches.TheViews.{out-ArgMatches}
use Rattle.clap.proofs.OnLiterals.{clap_on_literals}
use Rattle.clap.proofs.WalkLemmas.{first_value-rows, raw_values-rows}
use Rattle.s3_command_line.specs.declared.error.WordsError.{WordsError}
use Rattle.s3_command_line.specs.declared.error.WordsError.TheVariants.{OutOfMemory as NoMemory}
use Rattle.s3_command_line.specs.declared.task.Asked.{Asked}
use Rattle.s3_command_line.specs.declared.task.Asked.TheVariants.{Work, Server}
use Rattle.s3_command_line.specs.declared.task.Task.TheVariants.{Replay, Sign}
use Rattle.s3_command_line.specs.Task.{AskFor, AskForNothing, Have}
use Rattle.s3_command_line.specs.Words.{s3d_app, AreReplayWords, AreSignWords, AreServeWords, AreRightWords, Give, IsAskedBy}

pub ruleset rows = (first_value-rows, raw_values-rows)

-- a command with one more argument
pub added : {new old a : App} {rule r : Rule} → old ≡ a → new ≡ with_rule old rule → rule ≡ r → new ≡ with_rule a r
added before with is = with ∙ ap₂ with_rule before is

pub or_false : (new old added : Bool) → new ≡ (old || added) → added ≡ false → new ≡ old
or_false new true added e h = e
or_false new false added e h = e ∙ h

-- the program's command line is one of which `clap` says what words give
simple : is_simple s3d_app ≡ true
simple = refl

simple_and_free : is_simple_and_free s3d_app ≡ true
simple_and_free = refl

-- right words have no fault
no_fault : (words : List Text) → AreRightWords words → fault_of s3d_app words ≡ []
no_fault words (inl replay) = replay.0
no_fault words (inr (inl sign)) = sign.0
no_fault words (inr (inr serve)) = serve.0

-- an error that is not out of memory says that the words are wrong
pub words_refused : (a : App) (words : List Text) (e : Error) → a ≡ s3d_app → (is_simple_and_free a ≡ true → HasKind (fault_of a words) e) → kind_of e ≢ OutOfMemory → AreRightWords words → ⊥
words_refused a words e same fails other right =
    let has : HasKind (fault_of s3d_app words) e = subst (λ (b : App). HasKind (fault_of b words) e) same (fails (ap is_simple_and_free same ∙ simple_and_free)) in
    let none : HasKind [] e = subst (λ kinds. HasKind kinds e) (no_fault words right) has in
    elim none [ inl memory ↦ other memory | inr among ↦ absurd among ]

-- both parts of pairs in an option
firsts : {X A B : Type 0} (f : X → A) (g : X → B) (o : Option X) → option_map f o ≡ option_map (λ (p : A × B). p.0) (option_map (λ x. (f x, g x)) o)
firsts f g None = refl
firsts f g (Some x) = refl

rows_are : (a : App) (words : List Text) (m : ArgMatches) → a ≡ s3d_app → HasMatchesOf a words m → subcommand_rows_of m ≡ subcommand_of s3d_app words
rows_are a words m same has =
    (has (ap is_simple same ∙ simple)).1 ∙ ap (λ (b : App). subcommand_of b words) same

name_is : (a : App) (words : List Text) (m : ArgMatches) → a ≡ s3d_app → HasMatchesOf a words m → subcommand_name_of m ≡ option_map (λ p. p.0) (subcommand_of s3d_app words)
name_is a words m same has =
    firsts _ _ (out-ArgMatches m).subcommand ∙ ap (option_map (λ p. p.0)) (rows_are a words m same has)

-- an error is no value
pub no_value : {T E : Type 0} (r : Result T E) (P : T → Type 0) (Q : E → Type 0) → IsErrAnd r Q → IfOk r P
no_value (Ok x) P Q is = absurd is
no_value (Err e) P Q is = tt

-- and says nothing of the words
pub no_memory : {T : Type 0} (r : Result T WordsError) (P : WordsError → Type 0) → IsErrAnd r (λ e. e ≡ NoMemory) → IfErr r (λ e. e ≢ NoMemory → P e)
no_memory (Ok x) P is = absurd is
no_memory (Err e) P is = λ other. absurd (other is)

-- where the matches have neither subcommand the words are wrong
pub words_unnamed : (a : App) (words : List Text) (m : ArgMatches) → a ≡ s3d_app → HasMatchesOf a words m → AskForNothing m → AreRightWords words → ⊥
words_unnamed a words m same has nothing (inl replay) = nothing.no_task.no_replay (name_is a words m same has ∙ replay.1)
words_unnamed a words m same has nothing (inr (inl sign)) = nothing.no_task.no_sign (name_is a words m same has ∙ sign.1)
words_unnamed a words m same has nothing (inr (inr serve)) = nothing.no_serve (name_is a words m same has ∙ serve.1)

-- what holds of the matches of the subcommand holds of those that the words give it
given : (a : App) (words : List Text) (m : ArgMatches) (name : Text) (Holds : List Row → Type 0) → a ≡ s3d_app → HasMatchesOf a words m → (is_simple_and_free a ≡ true → fault_of a words ≡ []) → Have m name Holds → Give words name Holds
given a words m name Holds same has clean have = record {
  rows = have.rows;
  right = (
    sym (ap (λ (b : App). fault_of b words) same) ∙ clean (ap is_simple_and_free same ∙ simple_and_free),
    sym (name_is a words m same has) ∙ have.named,
  );
  given = sym (ap (option_map (λ p. p.1)) (rows_are a words m same has)) ∙ have.given;
  options = have.options;
}

-- what the matches ask for, the words ask for
pub asked_by : (a : App) (words : List Text) (m : ArgMatches) (asked : Asked) → a ≡ s3d_app → HasMatchesOf a words m → (is_simple_and_free a ≡ true → fault_of a words ≡ []) → AskFor m asked → IsAskedBy words asked
asked_by a words m (Work (Replay options)) same has clean asked = given a words m _ _ same has clean asked
asked_by a words m (Work (Sign options)) same has clean asked = given a words m _ _ same has clean asked
asked_by a words m (Server options) same has clean asked = given a words m _ _ same has clean asked

-- some words that are right
right_replay_words : AreReplayWords (codes "s3d" ∷ codes "replay" ∷ codes "--keys" ∷ codes "keys" ∷ codes "--moment" ∷ codes "0" ∷ [])
unfolding clap_on_literals
right_replay_words = (refl, refl)

right_serve_words : AreServeWords (codes "s3d" ∷ codes "serve" ∷ codes "--keys" ∷ codes "keys" ∷ codes "--listen" ∷ codes "127.0.0.1:0" ∷ codes "--connections" ∷ codes "3" ∷ codes "--rounds" ∷ codes "2" ∷ [])
unfolding clap_on_literals
right_serve_words = (refl, refl)

right_sign_words : AreSignWords (codes "s3d" ∷ codes "sign" ∷ codes "--keys" ∷ codes "keys" ∷ codes "--id" ∷ codes "id" ∷ codes "--moment" ∷ codes "0" ∷ codes "--method" ∷ codes "GET" ∷ codes "--target" ∷ codes "/" ∷ codes "--host" ∷ codes "h" ∷ codes "--presign" ∷ codes "60" ∷ codes "--url" ∷ codes "range:bytes=0-9" ∷ codes "a:b" ∷ [])
unfolding clap_on_literals
right_sign_words = (refl, refl)
