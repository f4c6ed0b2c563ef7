use Rattle.std.proofs.Common.{◌≡◌, ◌+◌, ◌++◌, length, take, drop, refl, sym, ap, ◌∙◌, arith, take_at, take-append-drop}
use Rattle.std.specs.Io.Slices.{io_slice_bytes, io_slices_bytes}
use Rattle.std.proofs.lemmas.List.Concat.{flat_map-append}
use Rattle.std.proofs.lemmas.Grind.{common_steps}
use Rattle.s3_devices.proofs.parts.first_part.Goals as goal

pub returns-then-not-is_empty : goal.returns-then-not-is_empty
returns-then-not-is_empty c =
    let parts = c.args.parts.now in
    let bytes = c.as_slice-bytes.result.now in
    let count = c.loop-part.part-index + 1 in
    let none = c.loop-part.invariant in
    let here : io_slices_bytes (take count parts) ≡ bytes = grind (arith, common_steps) in
    let all = ap io_slices_bytes (sym (take-append-drop count parts)) ∙ flat_map-append io_slice_bytes (take count parts) (drop count parts) in
    let behind = io_slices_bytes (drop count parts) in
    sym (ap (take (length bytes)) (all ∙ ap (λ l. l ++ behind) here) ∙ take_at bytes behind _ refl)
