use Rattle.std.proofs.Common.{sym, ap, ◌∙◌, ℕ, List, ◌++◌}
use Rattle.std.specs.Int.{w64, to_le_bytes}
use Rattle.s3_block_bodies.specs.Header.{mark}
use Rattle.s3_block_bodies.proofs.HeaderLemmas.{header_is}
use Rattle.s3_block_bodies.proofs.header.Header.to_bytes.Goals as goal

-- the parts one behind another
pub returns : goal.returns
returns c =
    let front = c.as_slice.result.now in
    header_is c.args.self.size c.args.self.sum front c.extend_from_slice-4.new.self.items
    (c.as_slice.ensures.value ∙ c.in_ok-extend_from_slice-3.ensures.items
    ∙ ap (λ (l : List ℕ). c.extend_from_slice-2.new.self.items ++ l) c.to_le_bytes-2.ensures
    ∙ ap (λ (l : List ℕ). l ++ to_le_bytes w64 c.args.self.sum)
    (c.in_ok-extend_from_slice-2.ensures.items
    ∙ ap (λ (l : List ℕ). c.extend_from_slice.new.self.items ++ l) c.to_le_bytes.ensures
    ∙ ap (λ (l : List ℕ). l ++ to_le_bytes w64 c.args.self.size)
    (c.in_ok-extend_from_slice.ensures.items ∙ ap (λ (l : List ℕ). l ++ mark) c.in_ok-bytes.ensures.items)))
    (c.in_ok-extend_from_slice-4.ensures.items
    ∙ ap (λ (l : List ℕ). l ++ c.to_le_bytes-3.result) (sym c.as_slice.ensures.value)
    ∙ ap (λ (l : List ℕ). front ++ l) (c.to_le_bytes-3.ensures ∙ ap (to_le_bytes w64) c.sum_of_bytes-sum.ensures))
