-- Changes one after another.
use Rattle.std.proofs.Common.{◌≡◌, ℕ, ◌+◌, ◌<◌, List, take, length, get_or, Ok, Err, Result, refl, sym, subst, ◌∙◌, arith}
use Rattle.std.specs.Prelude.{IsErr}
use Rattle.std.proofs.lemmas.List.Sums.{fold_more}
use Rattle.sqlite.specs.declared.error.Error.{Error}
use Rattle.sqlite.specs.State.{State, HasCleanDisk}
use Rattle.sqlite.proofs.StateLemmas.{survives_then}
use Rattle.s3_rows.specs.Columns.{Tables}
use Rattle.s3_stored_rows.specs.declared.change.Change.{Change}
use Rattle.s3_stored_rows.specs.Changes.{changed_by, after_all}
use Rattle.s3_tables.specs.Keeping.{Advances}
use Rattle.s3_tables.proofs.StepLemmas.{survives_itself}
use Rattle.s3_tables.proofs.TransactionLemmas.{advances_then, chained}

-- nothing is run
pub no_advance : {X : Type 0} (s : State) (x : X) → Advances (λ t. t) s s (Ok x)
no_advance s x = record { made = λ _ base t was. was; kept = λ _. record { was_open = λ up. up; committed = λ up. refl }; survives = survives_itself s _ }

-- a refusal says nothing of the change
pub stopped_short : {X Y Z : Type 0} (f g h : Tables → Tables) (a b c : State) (x : X) → Advances f a b (Ok x) → (r : Result Y Error) → Advances g b c r → (s : Result Z Error) → IsErr s → Advances h a c s
stopped_short f g h a b c x one r two (Ok z) is = absurd cc
stopped_short f g h a b c x one r two (Err e) is =
    let early = λ (clean : HasCleanDisk c). let it : HasCleanDisk b = omega (arith, two.survives.clean) in it in
    record {
      made = λ _. tt;
      kept = λ clean. chained a b c (one.kept (early clean)) (two.kept clean);
      survives = survives_then a b c _ _ (λ _. ⊥) (λ _ db none. none) (λ _ db none. none) one.survives two.survives;
    }

ok_again : {X Y : Type 0} (change : Tables → Tables) (a b : State) (y : Y) (x : X) → Advances change a b (Ok x) → Advances change a b (Ok y)
ok_again change a b y x h = record { made = h.made; kept = h.kept; survives = h.survives }

module _ (changes : List Change) (i : ℕ) (change : Change) (low : i < length changes) (found : change ≡ get_or changes i change) (a b c : State) where
  next_is : (t : Tables) → changed_by change (after_all (take i changes) t) ≡ after_all (take (i + 1) changes) t
  next_is t =
      subst (λ x. changed_by change (after_all (take i changes) t) ≡ changed_by x (after_all (take i changes) t)) found refl
      ∙ sym (fold_more (λ now x. changed_by x now) t changes i change low)

  pub one_more : {X Y Z : Type 0} (x : X) (y : Y) (z : Z) → Advances (after_all (take i changes)) a b (Ok x) → Advances (changed_by change) b c (Ok y) → Advances (after_all (take (i + 1) changes)) a c (Ok z)
  one_more x y z one two =
      ok_again (after_all (take (i + 1) changes)) a c z y
      (subst (λ f. Advances f a c (Ok y)) (λ k t. next_is t k) (advances_then (after_all (take i changes)) (changed_by change) a b c x one (Ok y) two))
