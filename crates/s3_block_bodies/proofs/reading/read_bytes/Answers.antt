use Rattle.std.proofs.Common.{◌+◌, ◌∙◌, ap, subst, arith, length-take}
use Rattle.sqlite_disk.specs.Disk.{Holds}
use Rattle.s3_block_bodies.proofs.reading.read_bytes.Goals as goal

pub loop-from-preserved : goal.loop-from-preserved
loop-from-preserved g c =
    let was = c.loop-from.invariant in
    record {
      inside = omega (arith, c.min-count.ensures, was.inside);
      taken = omega (arith, c.in_ok-read_piece.ensures.size, length-take c.min-count.result c.deref_mut.result.now, c.deref_mut.ensures.len, was.room, was.taken, c.min-count.ensures);
      holds = λ clean. subst (λ file. Holds file c.args.at c.loop-from.builder → Holds file c.args.at c.read_piece.new.builder) was.seen
          (c.in_ok-read_piece.ensures.read clean c.args.at (ap (λ n. c.args.at + n) was.taken)) (was.holds (c.read_piece.ensures.clean clean));
      room = was.room;
      seen = c.read_piece.ensures.seen ∙ was.seen;
      usable = c.read_piece.ensures.usable;
      clean = λ clean. was.clean (c.read_piece.ensures.clean clean);
    }
