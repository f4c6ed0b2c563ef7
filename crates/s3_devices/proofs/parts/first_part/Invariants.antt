use Rattle.std.proofs.Common.{◌≡◌, [], take}
use Rattle.std.specs.Io.Slices.{io_slices_bytes}
use Rattle.s3_devices.proofs.parts.first_part.Given as goal

-- the parts so far have no bytes
abbrev pub invariant-loop-part : goal.invariant-loop-part
invariant-loop-part l = io_slices_bytes (take l.part-index l.parts) ≡ []
