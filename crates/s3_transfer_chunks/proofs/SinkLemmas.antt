-- What a sink got, after some calls.
use Rattle.std.proofs.Common.{◌≡◌, ℕ, List, [], ◌++◌, length, drop, refl, sym, ap, ◌∙◌, append_assoc}
use Rattle.std.proofs.lemmas.List.{append-nil, drop_at}
use Rattle.s3_transfer_chunks.specs.Sinks.{Grows, got}

-- what was added
pub got_by : (old new more : List ℕ) → new ≡ old ++ more → got old new ≡ more
got_by old new more is = ap (drop (length old)) is ∙ drop_at old more (length old) refl

pub grows_by : (old new more : List ℕ) → new ≡ old ++ more → Grows old new
grows_by old new more is = is ∙ ap (λ x. old ++ x) (sym (got_by old new more is))

pub grows_more : (old mid new : List ℕ) → Grows old mid → Grows mid new → Grows old new
grows_more old mid new first second =
    grows_by old new (got old mid ++ got mid new)
    (second ∙ ap (λ x. x ++ got mid new) first ∙ append_assoc old (got old mid) (got mid new))

-- nothing was added
pub got_none : (old : List ℕ) → got old old ≡ []
got_none old = got_by old old [] (sym (append-nil old))

-- and so the data is the same
pub none_behind : (held old : List ℕ) → held ++ got old old ≡ held
none_behind held old = ap (λ x. held ++ x) (got_none old) ∙ append-nil held

-- what was added by two calls
pub got_more : (held old mid new : List ℕ) → Grows old mid → Grows mid new → held ++ got old new ≡ (held ++ got old mid) ++ got mid new
got_more held old mid new first second =
    ap (λ x. held ++ x)
    (got_by old new (got old mid ++ got mid new)
    (second ∙ ap (λ x. x ++ got mid new) first ∙ append_assoc old (got old mid) (got mid new)))
    ∙ sym (append_assoc held (got old mid) (got mid new))
