-- What writers tell over several calls.
use Rattle.std.proofs.Common.{◌≡◌, ◌∙◌, ℕ, List, ◌++◌, length, take, drop, Some, None, ◌-◌, [], Option, Result, Ok, Err, refl, subst, sym, ap, arith, append_assoc, append-nil, take-append-drop}
use Rattle.std.proofs.lemmas.List.{take_all, take_rest}
use Rattle.std.proofs.KnownBytes.{Appends-trans}
use Rattle.std.proofs.lemmas.List.{take_at}
use Rattle.std.specs.Prelude.{true, false, is_ok, OnOk, OnErr}
use Rattle.std.specs.Io.KnownBytes.{Appends, Keeps}
use Rattle.s3_settings.specs.Devices.{AppendsBeginning}

-- what stays has gained nothing, and what gained nothing stays
pub nothing_taken : (before after : Option (List ℕ)) (bytes : List ℕ) → Keeps before after → Appends before after (take 0 bytes)
nothing_taken None after bytes k = tt
nothing_taken (Some xs) None bytes k = absurd k
nothing_taken (Some xs) (Some ys) bytes k = k ∙ sym (append-nil xs)

pub zero_kept : (before after : Option (List ℕ)) (bytes : List ℕ) → Appends before after (take 0 bytes) → Keeps before after
zero_kept None after bytes a = tt
zero_kept (Some xs) None bytes a = absurd a
zero_kept (Some xs) (Some ys) bytes a = a ∙ append-nil xs

pub ruleset kept = (nothing_taken, zero_kept)

-- all of the bytes are a beginning of them
pub whole_taken : (before after : Option (List ℕ)) (bytes : List ℕ) → Appends before after bytes → AppendsBeginning before after bytes
whole_taken before after bytes a = record { taken = bytes; first = take_all (length bytes) bytes (omega arith); gained = a }

-- one write more
pub more_taken : (before between after : Option (List ℕ)) (bytes done left : List ℕ) (count : ℕ) → bytes ≡ done ++ left → Appends before between done → Appends between after (take count left) → (more : List ℕ) × (bytes ≡ more ++ take (length left - count) (drop count left)) × Appends before after more
more_taken before between after bytes done left count e a b =
    let rest : take (length left - count) (drop count left) ≡ drop count left = take_rest left count in (
      done ++ take count left,
      e ∙ ap (λ (l : List ℕ). done ++ l) (sym (take-append-drop count left)) ∙ sym (append_assoc done (take count left) (drop count left)) ∙ ap (λ (l : List ℕ). (done ++ take count left) ++ l) (sym rest),
      Appends-trans before between after done (take count left) a b,
    )

still_taken : (before between after : Option (List ℕ)) (bytes : List ℕ) → Appends before between bytes → Keeps between after → Appends before after bytes
still_taken before between after bytes a k =
    subst (Appends before after) (append-nil bytes) (Appends-trans before between after bytes [] a (nothing_taken between after bytes k))

-- what was taken before is a beginning, also where a write that fails leaves it
pub taken_so_far : (before after : Option (List ℕ)) (bytes done left : List ℕ) → bytes ≡ done ++ left → Appends before after done → AppendsBeginning before after bytes
taken_so_far before after bytes done left split a =
    record { taken = done; first = ap (take (length done)) split ∙ take_at done left (length done) refl; gained = a }

pub fails_so_far : {T E : Type 0} (r : Result T E) (before between after : Option (List ℕ)) (bytes done left : List ℕ)
    → bytes ≡ done ++ left → Appends before between done → Keeps between after → OnErr r (AppendsBeginning before after bytes)
fails_so_far (Ok x) before between after bytes done left split a k = tt
fails_so_far (Err e) before between after bytes done left split a k = taken_so_far before after bytes done left split (still_taken before between after done a k)

-- what was written stays where the writer is flushed, and where the write failed there is no flush
pub flushed : {T E U F : Type 0} (written : Result T E) (r : Result U F) (before between after : Option (List ℕ)) (bytes : List ℕ) → true ≡ is_ok written
    → OnOk written (Appends before between bytes) → Keeps between after → OnOk r (Appends before after bytes) × OnErr r (AppendsBeginning before after bytes)
flushed (Err e) r before between after bytes ok a k = absurd cc
flushed (Ok x) (Ok y) before between after bytes ok a k = (still_taken before between after bytes a k, tt)
flushed (Ok x) (Err f) before between after bytes ok a k = (tt, whole_taken before after bytes (still_taken before between after bytes a k))

pub unflushed : {T E U F : Type 0} (written : Result T E) (r : Result U F) (before after : Option (List ℕ)) (bytes : List ℕ) → false ≡ is_ok written
    → OnErr written (AppendsBeginning before after bytes) → OnErr r (AppendsBeginning before after bytes)
unflushed (Ok x) r before after bytes failed a = absurd cc
unflushed (Err e) (Ok y) before after bytes failed a = tt
unflushed (Err e) (Err f) before after bytes failed a = a
