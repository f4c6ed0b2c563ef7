-- What a write of a piece leaves of the bodies of a file.
use Rattle.std.proofs.Common.{◌≡◌, ℕ, ◌+◌, ◌-◌, ◌<◌, ◌≤◌, List, ◌++◌, length, length-append, slice_index, Result, Ok, Err, inl, inr, sym, subst, ◌∙◌, arith}
use Rattle.std.specs.Prelude.{OnOk}
use Rattle.std.proofs.lemmas.Bool.{cases_lt}
use Rattle.std.proofs.Math.ListN.{get_or-append}
use Rattle.std.proofs.Math.Seq.{get_or-append_right}
use Rattle.sqlite_disk.specs.Disk.{Holds, Torn}
use Rattle.s3_block_file.specs.declared.extent.Extent.{Extent}
use Rattle.s3_block_file.specs.Extent.{granules_for, offset_of, IsInside, AreApart, Stores, StartsWith}

-- what was put before stays, and behind it stands the piece
begun : (old new before piece : List ℕ) (e : Extent) → Holds new (offset_of e + length before) piece → Torn (offset_of e + length before) (length piece) old new → StartsWith old e before → StartsWith new e (before ++ piece)
begun old new before piece e holds torn starts = record {
  each = λ i inside.
      let all = length-append before piece in
      elim (cases_lt i (length before)) [
        | inl front ↦
            let was = starts.each i front in (
              omega (arith, was.0, torn.no_shorter),
              torn.below (offset_of e + i) was.0 (omega arith) ∙ was.1 ∙ sym (get_or-append before piece 0 i front),
            )
        | inr past ↦
            let there : i - length before < length piece = omega arith in
            let place : offset_of e + length before + (i - length before) ≡ offset_of e + i = omega arith in (
              omega (arith, holds.within),
              subst (λ n. slice_index new n ≡ slice_index piece (i - length before)) place (holds.each (i - length before) there) ∙ sym (get_or-append_right before piece i 0 past),
            )
      ];
}

-- all of it, where it is as long as the extent
whole : (file bytes : List ℕ) (e : Extent) → length bytes ≡ e.size → 0 < length bytes → StartsWith file e bytes → Stores file e bytes
whole file bytes e size some starts = record { size = size; holds = record { within = omega (arith, (starts.each (length bytes - 1) (omega arith)).0); each = λ i inside. (starts.each i inside).1 } }

-- the bytes of a body that lies apart from the extent are not those of the piece
past_piece : (x e : Extent) (from at count i : ℕ) → at ≡ offset_of e + from → from + count ≤ e.size → 0 < count → AreApart x e → i < x.size → at ≤ offset_of x + i → at + count ≤ offset_of x + i
past_piece x e from at count i is inside some apart low past =
    elim (cases_lt x.first (e.first + granules_for e.size)) [
      | inr behind ↦ omega arith
      | inl starts ↦
          elim (cases_lt e.first (x.first + granules_for x.size)) [
            | inr before ↦ omega arith
            | inl meets ↦
                elim (cases_lt x.first e.first) [
                  | inl lt ↦ absurd (apart e.first (omega arith) meets (omega arith) (omega arith))
                  | inr ge ↦ absurd (apart x.first (omega arith) (omega arith) ge starts)
                ]
          ]
    ]

-- so such a body stays
pub stays_apart : (old new bytes : List ℕ) (x e : Extent) (from at count : ℕ) → at ≡ offset_of e + from → IsInside e from count → 0 < count → AreApart x e → Torn at count old new → Stores old x bytes → Stores new x bytes
stays_apart old new bytes x e from at count is inside some apart torn stores = record {
  size = stores.size;
  holds = record {
    within = omega (arith, stores.holds.within, torn.no_shorter);
    each = λ i low.
        let there : offset_of x + i < length old = omega (arith, stores.holds.within) in
        let same : slice_index new (offset_of x + i) ≡ slice_index old (offset_of x + i) = elim (cases_lt (offset_of x + i) at) [
          | inl front ↦ torn.below (offset_of x + i) there front
          | inr past ↦
              torn.above (offset_of x + i) there (past_piece x e from at count i is inside.1 some apart (omega (arith, stores.size)) past)
        ] in
        same ∙ stores.holds.each i low;
  };
}

module _ (old new piece : List ℕ) (e : Extent) (from at : ℕ) (is : at ≡ offset_of e + from) (torn : Torn at (length piece) old new) where
  begun_at : (before : List ℕ) → length before ≡ from → Holds new at piece → StartsWith old e before → StartsWith new e (before ++ piece)
  begun_at before behind holds starts =
      let same : at ≡ offset_of e + length before = omega arith in
      begun old new before piece e (subst (λ n. Holds new n piece) same holds) (subst (λ n. Torn n (length piece) old new) same torn) starts

  pub begun_if_ok : {T E : Type 0} (r : Result T E) → OnOk r (Holds new at piece) → OnOk r ((before : List ℕ) → length before ≡ from → StartsWith old e before → StartsWith new e (before ++ piece))
  begun_if_ok (Ok _) holds = λ before behind starts. begun_at before behind holds starts
  begun_if_ok (Err _) holds = tt

  pub whole_if_ok : {T E : Type 0} (r : Result T E) → 0 < length piece → OnOk r (Holds new at piece) → OnOk r ((before : List ℕ) → length before ≡ from → from + length piece ≡ e.size → StartsWith old e before → Stores new e (before ++ piece))
  whole_if_ok (Ok _) some holds = λ before behind end starts. whole new (before ++ piece) e (length-append before piece ∙ omega arith) (omega (arith, length-append before piece)) (begun_at before behind holds starts)
  whole_if_ok (Err _) some holds = tt
