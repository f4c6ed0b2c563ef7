-- All that is unsent, or a beginning of it: what waits of the replies, and what is left of the last text behind it.
use Rattle.std.proofs.Common.{◌≡◌, ◌≢◌, ℕ, ◌-◌, ◌<◌, ◌≤◌, ◌==◌, Bool, true, false, List, [], ◌∷◌, ◌++◌, length, take, drop, sym, ap, ◌∙◌, arith, length-append, Result, Ok, Err, OnErr}
use Rattle.std.proofs.lemmas.Bool.{eqb-true, false≢true}
use Rattle.std.proofs.Math.Seq.{take-length}
use Rattle.std.proofs.lemmas.List.{take-append-le, take_rest, nil_from_length}
use Rattle.s3_outbox.proofs.PartLemmas.{beginning_fits}

-- what is promised of the bytes that go out
pub record IsBeginning (all part : List ℕ) : Type 0 where
  pub beginning : take (length part) all ≡ part
  pub fits : length part ≤ length all
  pub empty : part ≡ [] → all ≡ []

-- where no reply waits, the last text is all
pub last_begins : (w last text part all : List ℕ) (sent : ℕ) → w ++ drop sent last ≡ all → w ≡ [] → text ≡ last → part ≡ take (length text - sent) (drop sent text) → IsBeginning all part
last_begins w last text part all sent view none is out =
    let same : part ≡ all = out ∙ take_rest text sent ∙ ap (drop sent) is ∙ ap (λ (xs : List ℕ). xs ++ drop sent last) (sym none) ∙ view in record {
      beginning = ap (λ xs. take (length part) xs) (sym same) ∙ take-length part;
      fits = omega (arith, ap length same);
      empty = λ e. sym same ∙ e;
    }

-- where one waits, what begins the replies begins all
pub reply_begins : (w last part all : List ℕ) → w ++ last ≡ all → w ≢ [] → take (length part) w ≡ part → (part ≡ [] → w ≡ []) → IsBeginning all part
reply_begins w last part all view some begins empty =
    let fits = beginning_fits w part begins in record {
      beginning = ap (take (length part)) (sym view) ∙ take-append-le (length part) w last fits ∙ begins;
      fits = omega (arith, fits, ap length view, length-append w last);
      empty = λ e. absurd (some (empty e));
    }

-- both parts copied one behind the other are all
pub all_copied : (w last text none copied all unsent : List ℕ) (sent : ℕ)
    → w ++ drop sent last ≡ unsent → text ≡ last → none ≡ [] → copied ≡ none ++ w → all ≡ copied ++ take (length text - sent) (drop sent text) → all ≡ unsent
all_copied w last text none copied all unsent sent view is nothing first adds =
    let second = take_rest text sent ∙ ap (drop sent) is in
    adds ∙ ap (λ xs. copied ++ xs) second ∙ ap (λ xs. xs ++ drop sent last) (first ∙ ap (λ xs. xs ++ w) nothing) ∙ view

-- what a test for emptiness says
pub none_out : (out : List ℕ) (r : Bool) → r ≡ (length out == 0) → r ≡ true → out ≡ []
none_out out r is e = nil_from_length out (eqb-true (length out) 0 (sym is ∙ e))

pub some_out : (out : List ℕ) (r : Bool) → r ≡ (length out == 0) → r ≡ false → 0 < length out
some_out [] r is e = absurd (false≢true (sym e ∙ is))
some_out (x ∷ out) r is e = omega arith

-- where something begins the replies, one waits
pub some_waits : (w out : List ℕ) → take (length out) w ≡ out → 0 < length out → w ≢ []
some_waits w out begins some none = absurd (omega (arith, some, beginning_fits w out begins, ap length none))

pub on_err : {T E P : Type 0} (r : Result T E) → P → OnErr r P
on_err (Ok x) p = tt
on_err (Err e) p = p
