-- Texts that can be told apart: two texts of one length, a run of digits and what follows it, and chunks.
use Rattle.std.proofs.Common.{◌≡◌, ℕ, ◌+◌, ◌<◌, ◌≤◌, Bool, true, false, ◌&&◌, nat_le, List, [], ◌∷◌, ◌++◌, length, take, drop, get_or, refl, sym, ap, ◌∙◌, arith, append_assoc, ◌⊎◌, ⊎_elim, inl, inr, leb-true, eqb-true, ◌==◌, length-append}
use Rattle.std.proofs.lemmas.Bool.{false≢true, and_parts}
use Rattle.std.proofs.lemmas.List.{append-nil, take_at, drop_at}
use Rattle.std.specs.List.{list_all, AllByRecursion}
use Rattle.s3_text.specs.Characters.{is_lower_hex}
use Rattle.s3_text.specs.Digest.{is_hex_digest}
use Rattle.s3_text.specs.Characters.{crlf}
use Rattle.s3_aws_chunked.specs.Chunk.{Chunk, IsChunk, is_hex, is_size, size_of, label, line_behind, first_line, chunk_text, chunks_text}

-- texts of one length at the front of one text
pub fronts : (a b c d : List ℕ) → a ++ b ≡ c ++ d → length a ≡ length c → (a ≡ c) × (b ≡ d)
fronts a b c d same long = (
  sym (take_at a b (length a) refl) ∙ ap (take (length a)) same ∙ take_at c d (length a) (sym long),
  sym (drop_at a b (length a) refl) ∙ ap (drop (length a)) same ∙ drop_at c d (length a) (sym long),
)

head_of : (x y : ℕ) (xs ys : List ℕ) → x ∷ xs ≡ y ∷ ys → x ≡ y
head_of x y xs ys same = ap (λ (l : List ℕ). get_or l 0 0) same

tail_of : (x y : ℕ) (xs ys : List ℕ) → x ∷ xs ≡ y ∷ ys → xs ≡ ys
tail_of x y xs ys same = ap (λ (l : List ℕ). drop 1 l) same

-- what passes a test, and then a byte that fails it
pub runs : (f : ℕ → Bool) (a c : List ℕ) (x y : ℕ) (b d : List ℕ) → list_all f a ≡ true → list_all f c ≡ true → f x ≡ false → f y ≡ false → a ++ x ∷ b ≡ c ++ y ∷ d → (a ≡ c) × (x ∷ b ≡ y ∷ d)
runs f [] [] x y b d h k fails fails' same = (refl, same)
runs f [] (z ∷ c) x y b d h k fails fails' same =
    absurd (false≢true (sym fails ∙ ap f (head_of x z b _ same) ∙ (and_parts (f z) (list_all f c) k).0))
runs f (w ∷ a) [] x y b d h k fails fails' same =
    absurd (false≢true (sym fails' ∙ ap f (sym (head_of w y _ d same)) ∙ (and_parts (f w) (list_all f a) h).0))
runs f (w ∷ a) (z ∷ c) x y b d h k fails fails' same =
    let rest = runs f a c x y b d (and_parts (f w) (list_all f a) h).1 (and_parts (f z) (list_all f c) k).1 fails fails' (tail_of w z _ _ same) in
    (ap (λ v. v ∷ a) (head_of w z _ _ same) ∙ ap (λ v. z ∷ v) rest.0, rest.1)

-- a front of such a run, and the byte behind that front
pub run_front : (f : ℕ → Bool) (a u : List ℕ) (x b : ℕ) (z r : List ℕ) → list_all f a ≡ true → list_all f u ≡ true → f x ≡ false → a ++ x ∷ z ≡ u ++ b ∷ r → ((f b ≡ true) × (length u < length a)) ⊎ ((u ≡ a) × (b ≡ x))
run_front f [] [] x b z r h k fails same = inr (refl, sym (head_of x b z r same))
run_front f [] (w ∷ u) x b z r h k fails same =
    absurd (false≢true (sym fails ∙ ap f (head_of x w z _ same) ∙ (and_parts (f w) (list_all f u) k).0))
run_front f (v ∷ a) [] x b z r h k fails same =
    inl (ap f (sym (head_of v b _ r same)) ∙ (and_parts (f v) (list_all f a) h).0, omega arith)
run_front f (v ∷ a) (w ∷ u) x b z r h k fails same =
    ⊎_elim
    (λ (more : (f b ≡ true) × (length u < length a)). inl (more.0, omega (arith, more.1)))
    (λ (all : (u ≡ a) × (b ≡ x)). inr (ap (λ t. w ∷ t) all.0 ∙ ap (λ t. t ∷ a) (sym (head_of v w _ _ same)), all.1))
    (run_front f a u x b z r (and_parts (f v) (list_all f a) h).1 (and_parts (f w) (list_all f u) k).1 fails (tail_of v w _ _ same))

-- what a size is made of
pub size_digits : (size : List ℕ) → is_size size ≡ true → list_all is_hex size ≡ true
size_digits size form = (and_parts (nat_le 1 (length size) && nat_le (length size) 8) (list_all is_hex size) form).1

pub size_bounds : (size : List ℕ) → is_size size ≡ true → (1 ≤ length size) × (length size ≤ 8)
size_bounds size form =
    let both = and_parts (nat_le 1 (length size)) (nat_le (length size) 8) (and_parts (nat_le 1 (length size) && nat_le (length size) 8) (list_all is_hex size) form).0 in
    (leb-true _ _ both.0, leb-true _ _ both.1)

pub digest_length : (signature : List ℕ) → is_hex_digest signature ≡ true → length signature ≡ 64
digest_length signature form = eqb-true _ _ (and_parts (length signature == 64) (list_all is_lower_hex signature) form).0

-- what stands behind a size begins with the semicolon
pub label_rest : List ℕ
label_rest = drop 1 label

pub behind_is : (signature : List ℕ) → line_behind signature ≡ 59 ∷ (label_rest ++ (signature ++ crlf))
unfolding line_behind label_rest
behind_is signature = refl

pub length-behind : (signature : List ℕ) → is_hex_digest signature ≡ true → length (line_behind signature) ≡ 83
unfolding line_behind
length-behind signature form =
    let long : length (signature ++ crlf) ≡ length signature + 2 = length-append signature crlf in
    omega (arith, long, digest_length signature form)

-- one text begins with two first lines
pub lines_size : (size size' signature signature' x y : List ℕ) → is_size size ≡ true → is_size size' ≡ true → first_line size signature ++ x ≡ first_line size' signature' ++ y → (size ≡ size') × (line_behind signature ++ x ≡ line_behind signature' ++ y)
lines_size size size' signature signature' x y form form' same =
    let here : size ++ 59 ∷ ((label_rest ++ (signature ++ crlf)) ++ x) ≡ size' ++ 59 ∷ ((label_rest ++ (signature' ++ crlf)) ++ y) =
    ap (λ t. size ++ (t ++ x)) (sym (behind_is signature)) ∙ sym (append_assoc size (line_behind signature) x)
    ∙ same
    ∙ append_assoc size' (line_behind signature') y ∙ ap (λ t. size' ++ (t ++ y)) (behind_is signature') in
    let both = runs is_hex size size' 59 59 _ _ (size_digits size form) (size_digits size' form') refl refl here in
    (both.0, ap (λ t. t ++ x) (behind_is signature) ∙ both.1 ∙ ap (λ t. t ++ y) (sym (behind_is signature')))

pub lines_apart : (size size' signature signature' x y : List ℕ) → is_size size ≡ true → is_size size' ≡ true → is_hex_digest signature ≡ true → is_hex_digest signature' ≡ true → first_line size signature ++ x ≡ first_line size' signature' ++ y → (size ≡ size') × (signature ≡ signature') × (x ≡ y)
unfolding line_behind
lines_apart size size' signature signature' x y form form' digits digits' same =
    let sizes = lines_size size size' signature signature' x y form form' same in
    let labels = fronts label ((signature ++ crlf) ++ x) label ((signature' ++ crlf) ++ y)
    (sym (append_assoc label (signature ++ crlf) x) ∙ sizes.1 ∙ append_assoc label (signature' ++ crlf) y) refl in
    let long : length signature ≡ length signature' = digest_length signature digits ∙ sym (digest_length signature' digits') in
    let signs = fronts signature (crlf ++ x) signature' (crlf ++ y)
    (sym (append_assoc signature crlf x) ∙ labels.1 ∙ append_assoc signature' crlf y) long in
    (sizes.0, signs.0, (fronts crlf x crlf y signs.1 refl).1)

-- one text begins with two chunks
pub chunks_apart : (c d : Chunk) (x y : List ℕ) → IsChunk c → IsChunk d → chunk_text c ++ x ≡ chunk_text d ++ y → (c ≡ d) × (x ≡ y)
chunks_apart c d x y is is' same =
    let lines = lines_apart c.size d.size c.signature d.signature ((c.bytes ++ crlf) ++ x) ((d.bytes ++ crlf) ++ y) is.size is'.size is.signature is'.signature
    (sym (append_assoc (first_line c.size c.signature) (c.bytes ++ crlf) x) ∙ same ∙ append_assoc (first_line d.size d.signature) (d.bytes ++ crlf) y) in
    let long : length c.bytes ≡ length d.bytes = sym is.length ∙ ap size_of lines.0 ∙ is'.length in
    let datas = fronts c.bytes (crlf ++ x) d.bytes (crlf ++ y)
    (sym (append_assoc c.bytes crlf x) ∙ lines.2 ∙ append_assoc d.bytes crlf y) long in
    (one_chunk c d lines.0 lines.1 datas.0, (fronts crlf x crlf y datas.1 refl).1)
  where
    one_chunk : (c d : Chunk) → c.size ≡ d.size → c.signature ≡ d.signature → c.bytes ≡ d.bytes → c ≡ d
    one_chunk c d sizes signatures datas =
        ap (λ (s : List ℕ). record c { size = s }) sizes
        ∙ ap (λ (s : List ℕ). record { size = d.size; signature = s; bytes = c.bytes }) signatures
        ∙ ap (λ (s : List ℕ). record { size = d.size; signature = d.signature; bytes = s }) datas

-- a part of a chunk, and not the whole of it
pub record Partial (part : List ℕ) : Type 0 where
  pub chunk : Chunk
  pub rest : List ℕ
  pub form : IsChunk chunk
  pub begun : chunk_text chunk ≡ part ++ rest
  pub more : 0 < length rest

abbrev pub AreChunks : List Chunk → Type 0
AreChunks chunks = AllByRecursion IsChunk chunks

-- a part of a chunk begins with no whole one
pub part_short : (part : List ℕ) → Partial part → (c : Chunk) (x : List ℕ) → IsChunk c → part ≡ chunk_text c ++ x → ⊥
part_short part p c x is same =
    let both = chunks_apart p.chunk c [] (x ++ p.rest) p.form is
    (append-nil (chunk_text p.chunk) ∙ p.begun ∙ ap (λ t. t ++ p.rest) same ∙ append_assoc (chunk_text c) x p.rest) in
    let long : length x + length p.rest ≡ 0 = sym (length-append x p.rest) ∙ sym (ap length both.1) in
    absurd (omega (arith, long, p.more))

-- one text is whole chunks and a part of one in one way
pub parse_one : (xs ys : List Chunk) (u v : List ℕ) → AreChunks xs → AreChunks ys → Partial u → Partial v → chunks_text xs ++ u ≡ chunks_text ys ++ v → (xs ≡ ys) × (u ≡ v)
parse_one [] [] u v all all' part part' same = (refl, same)
parse_one [] (y ∷ ys) u v all all' part part' same =
    absurd (part_short u part y (chunks_text ys ++ v) all'.0 (same ∙ append_assoc (chunk_text y) (chunks_text ys) v))
parse_one (x ∷ xs) [] u v all all' part part' same =
    absurd (part_short v part' x (chunks_text xs ++ u) all.0 (sym same ∙ append_assoc (chunk_text x) (chunks_text xs) u))
parse_one (x ∷ xs) (y ∷ ys) u v all all' part part' same =
    let first = chunks_apart x y (chunks_text xs ++ u) (chunks_text ys ++ v) all.0 all'.0
    (sym (append_assoc (chunk_text x) (chunks_text xs) u) ∙ same ∙ append_assoc (chunk_text y) (chunks_text ys) v) in
    let rest = parse_one xs ys u v all.1 all'.1 part part' first.1 in
    (ap (λ c. c ∷ xs) first.0 ∙ ap (λ cs. y ∷ cs) rest.0, rest.1)
