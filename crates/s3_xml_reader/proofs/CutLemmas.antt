-- A text cut at the first place of a mark, place by place.
use Rattle.std.proofs.Common.{◌≡◌, ℕ, suc, ◌+◌, ◌<◌, ◌≤◌, Bool, true, false, List, [], ◌∷◌, ◌++◌, length, take, drop, refl, subst, arith, get_or, add-one, drop-cons, append_assoc, append-nil, length-drop, Option, Some, None, option_map, if◌then◌else◌}
use Rattle.std.proofs.lemmas.List.{take_more, drop_all}
use Rattle.s3_xml.specs.Grammar.{Front, begins_with, behind, cut_at}

-- a cut of what stands behind a front, as one of both
abbrev pub behind_front : List ℕ → Option Front → Option Front
behind_front front cut = option_map (λ cut. (front ++ cut.0, cut.1)) cut

found : (t : Bool) (rest : List ℕ) (x : List ℕ) (later : Option Front) → Some rest ≡ (if t then Some x else None) → (if t then Some ([], x) else later) ≡ Some ([], rest)
found true rest x later is = cc
found false rest x later is = absurd (cc)

passed : (t : Bool) (x : List ℕ) (here : Option Front) (later : Option Front) → None ≡ (if t then Some x else None) → (if t then here else later) ≡ later
passed true x here later is = absurd (cc)
passed false x here later is = refl

-- the mark is at the front
cut_front : (mark bytes rest : List ℕ) → 0 < length bytes → Some rest ≡ behind mark bytes → cut_at mark bytes ≡ Some ([], rest)
unfolding cut_at
cut_front mark [] rest some is = absurd (omega arith)
cut_front mark (b ∷ bytes) rest some is = found (begins_with mark (b ∷ bytes)) rest _ _ is

cut_behind : (mark : List ℕ) (b : ℕ) (bytes : List ℕ) → None ≡ behind mark (b ∷ bytes) → cut_at mark (b ∷ bytes) ≡ option_map (λ cut. (b ∷ cut.0, cut.1)) (cut_at mark bytes)
unfolding cut_at
cut_behind mark b bytes is = passed (begins_with mark (b ∷ bytes)) _ _ _ is

one_more : (bytes : List ℕ) (at : ℕ) (cut : Option Front) → at < length bytes → behind_front (take at bytes) (option_map (λ cut. (get_or bytes at 0 ∷ cut.0, cut.1)) cut) ≡ behind_front (take (at + 1) bytes) cut
one_more bytes at None within = refl
one_more bytes at (Some cut) within = rw (take_more bytes at 0 within, append_assoc)

-- at a place: the mark stands there
pub cut_here : (mark bytes : List ℕ) (at : ℕ) (rest : List ℕ) → at < length bytes → Some rest ≡ behind mark (drop at bytes) → behind_front (take at bytes) (cut_at mark (drop at bytes)) ≡ Some (take at bytes, rest)
cut_here mark bytes at rest within is =
    let front = cut_front mark (drop at bytes) rest (omega (arith, length-drop at bytes)) is in
    rw (front, append-nil)

-- it doesn't
pub cut_later : (mark bytes : List ℕ) (at : ℕ) → at < length bytes → None ≡ behind mark (drop at bytes) → behind_front (take (at + 1) bytes) (cut_at mark (drop (at + 1) bytes)) ≡ behind_front (take at bytes) (cut_at mark (drop at bytes))
cut_later mark bytes at within is =
    let apart = drop-cons bytes at 0 within in
    let later = cut_behind mark (get_or bytes at 0) (drop (suc at) bytes) (subst (λ xs. None ≡ behind mark xs) apart is) in
    rw (apart, later, one_more bytes at _ within, add-one)

-- it stands nowhere
pub cut_end : (mark bytes : List ℕ) (at : ℕ) → length bytes ≤ at → behind_front (take at bytes) (cut_at mark (drop at bytes)) ≡ None
unfolding cut_at
cut_end mark bytes at past = rw (drop_all at bytes past)
