-- Parts that are joined by a byte, and a text that is cut at one.
use Rattle.std.proofs.Common.{◌≡◌, ℕ, ◌+◌, ◌<◌, Bool, true, false, not, ◌==◌, List, [], ◌∷◌, ◌++◌, length, take, get_or, refl, sym, ap, ◌∙◌, ⊎_elim, arith, append_assoc, length-take-le}
use Rattle.std.specs.Prelude.{All}
use Rattle.std.specs.List.{list_all, slice_split, onto_first, join_with_byte}
use Rattle.std.proofs.lemmas.Bool.{cases_Bool, false≢true, and_parts, and_from, not-true, ne_eqb, eq-eqb}
use Rattle.std.proofs.lemmas.List.{take_more}
use Rattle.std.proofs.lemmas.List.Folds.{list_all-append}
use Rattle.std.proofs.lemmas.List.Elements.{All-weaker}
use Rattle.std.proofs.lemmas.List.Splits.{slice_split-cons_yes, slice_split-cons_no, slice_split_none, slice_split_at}
use Rattle.std.proofs.lemmas.List.Sums.{AllPass-from_list_all}
use Rattle.s3_text.specs.Cut.{parts_at}
use Rattle.s3_text.proofs.ListLemmas.{all_weaker}

-- ---- one more part at the end

-- it comes after a separator, unless it is the first
pub join_with_byte_push : (c : ℕ) (xs : List (List ℕ)) (x : List ℕ) → 0 < length xs → join_with_byte c (xs ++ x ∷ []) ≡ join_with_byte c xs ++ c ∷ x
join_with_byte_push c [] x some = absurd (omega arith)
join_with_byte_push c (w ∷ []) x some = refl
join_with_byte_push c (w ∷ v ∷ ws) x some =
    let rest = join_with_byte_push c (v ∷ ws) x (omega arith) in
    ap (λ more. w ++ (c ∷ more)) rest ∙ sym (append_assoc w (c ∷ join_with_byte c (v ∷ ws)) (c ∷ x))

-- the first part comes with nothing before it
pub join_with_byte_first : (c : ℕ) (xs : List (List ℕ)) (i : ℕ) → i ≡ 0 → i < length xs → join_with_byte c (take (i + 1) xs) ≡ join_with_byte c (take i xs) ++ get_or xs i []
join_with_byte_first c [] i first within = absurd (omega arith)
join_with_byte_first c (x ∷ xs) i first within = rw first refl

-- each further one comes after a separator
pub join_with_byte_more : (c : ℕ) (xs : List (List ℕ)) (i : ℕ) → 0 < i → i < length xs → join_with_byte c (take (i + 1) xs) ≡ join_with_byte c (take i xs) ++ c ∷ get_or xs i []
join_with_byte_more c xs i later within =
    let some : 0 < length (take i xs) = omega (arith, length-take-le i xs (omega arith)) in
    ap (join_with_byte c) (take_more xs i [] within) ∙ join_with_byte_push c (take i xs) (get_or xs i []) some

-- ---- joined parts, cut again
-- the byte is not in the text
abbrev pub lacks : ℕ → List ℕ → Bool
lacks c text = list_all (λ b. not (b == c)) text

-- a byte that passes a test is not one that fails it
pub other_than : (p : ℕ → Bool) (c : ℕ) → p c ≡ false → (b : ℕ) → p b ≡ true → (b == c) ≡ false
other_than p c fails b passes = ne_eqb b c (λ same. false≢true (sym fails ∙ ap p (sym same) ∙ passes))

-- it is not, where all bytes pass a test that it fails
pub lacks_failing : (p : ℕ → Bool) (c : ℕ) → p c ≡ false → (text : List ℕ) → list_all p text ≡ true → lacks c text ≡ true
lacks_failing p c fails =
    all_weaker p (λ b. not (b == c)) (λ b passes. ap not (other_than p c fails b passes))

none_same : (c : ℕ) (text : List ℕ) → lacks c text ≡ true → All (λ b. (b == c) ≡ false) text
none_same c text none =
    All-weaker (λ b. not (b == c) ≡ true) (λ b. (b == c) ≡ false) (λ b other. not-true (b == c) other) text (AllPass-from_list_all (λ b. not (b == c)) text none)

-- joined parts are split into these parts
pub split_joined : (c : ℕ) (part : List ℕ) (parts : List (List ℕ)) → list_all (lacks c) (part ∷ parts) ≡ true → parts_at c (join_with_byte c (part ∷ parts)) ≡ part ∷ parts
split_joined c part [] all =
    slice_split_none (λ b. b == c) part (none_same c part (and_parts (lacks c part) true all).0)
split_joined c part (next ∷ parts) all =
    let both = and_parts (lacks c part) (list_all (lacks c) (next ∷ parts)) all in
    slice_split_at (λ b. b == c) part c (join_with_byte c (next ∷ parts)) (none_same c part both.0) (eq-eqb c c refl)
    ∙ ap (λ rest. part ∷ rest) (split_joined c next parts both.1)

-- a test that the joining byte passes too
pub joined_all : (p : ℕ → Bool) (c : ℕ) → p c ≡ true → (parts : List (List ℕ)) → list_all (list_all p) parts ≡ true → list_all p (join_with_byte c parts) ≡ true
joined_all p c here [] all = refl
joined_all p c here (part ∷ []) all = (and_parts (list_all p part) true all).0
joined_all p c here (part ∷ next ∷ parts) all =
    let both = and_parts (list_all p part) (list_all (list_all p) (next ∷ parts)) all in
    list_all-append p part (c ∷ join_with_byte c (next ∷ parts))
    ∙ and_from _ _ both.0 (and_from _ _ here (joined_all p c here (next ∷ parts) both.1))

-- the first part takes one more byte, which passes too
onto_first_all : (q : ℕ → Bool) (b : ℕ) → q b ≡ true → (parts : List (List ℕ)) → list_all (list_all q) parts ≡ true → list_all (list_all q) (onto_first b parts) ≡ true
onto_first_all q b passes [] all = and_from _ _ (and_from _ _ passes refl) refl
onto_first_all q b passes (part ∷ parts) all =
    let both = and_parts (list_all q part) (list_all (list_all q) parts) all in
    and_from _ _ (and_from _ _ passes both.0) both.1

-- the bytes of the parts of a text are bytes of the text at which it was not cut
pub split_all : (cuts p q : ℕ → Bool) → ((b : ℕ) → cuts b ≡ false → p b ≡ true → q b ≡ true) → (text : List ℕ) → list_all p text ≡ true → list_all (list_all q) (slice_split cuts text) ≡ true
split_all cuts p q kept [] all = refl
split_all cuts p q kept (b ∷ text) all =
    let both = and_parts (p b) (list_all p text) all in
    let rest = split_all cuts p q kept text both.1 in
    ⊎_elim
    (λ cut. ap (list_all (list_all q)) (slice_split-cons_yes cuts b text cut) ∙ rest)
    (λ uncut. ap (list_all (list_all q)) (slice_split-cons_no cuts b text uncut) ∙ onto_first_all q b (kept b uncut both.0) (slice_split cuts text) rest)
    (cases_Bool (cuts b))

all_true : (text : List ℕ) → list_all (λ (b : ℕ). true) text ≡ true
all_true [] = refl
all_true (b ∷ text) = all_true text

-- so none of them has the byte at which a text was cut
pub split_lacks : (c : ℕ) (text : List ℕ) → list_all (lacks c) (parts_at c text) ≡ true
split_lacks c text =
    split_all (λ b. b == c) (λ b. true) (λ b. not (b == c)) (λ b uncut any. ap not uncut) text (all_true text)
