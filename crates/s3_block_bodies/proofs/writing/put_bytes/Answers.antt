use Rattle.std.proofs.Common.{ap, ◌++◌, length, take, arith}
use Rattle.s3_bodies.specs.Pieces.{IsPieceAt}
use Rattle.s3_block_file.specs.BlockFile.{disk_of}
use Rattle.s3_block_bodies.specs.Header.{header_of}
use Rattle.s3_block_bodies.proofs.FileLemmas.{starts_first, starts_more, starts_stored, length-before}
use Rattle.s3_block_bodies.proofs.SparesLemmas.{spares_same, spares_both}
use Rattle.s3_block_bodies.proofs.writing.put_bytes.Goals as goal

pub loop-at-init : goal.loop-at-init
loop-at-init g c = record {
  inside = omega arith;
  begun = starts_first (g.D.Disk.seen (disk_of c.args.file.now)) c.args.body.now c.args.extent c.requires.begun;
  spares = spares_same c.args.extent c.args.file.now;
  usable = c.requires.usable;
}

pub put-requires-clause-inside : goal.put-requires-clause-inside
put-requires-clause-inside g c = (c.requires.addressable, omega (arith, ap length c.bytes-piece.ensures, c.piece.ensures.within, c.requires.size))

pub put-requires-clause-some : goal.put-requires-clause-some
put-requires-clause-some g c = omega (arith, ap length c.bytes-piece.ensures, c.piece.ensures.piece.some)

pub loop-at-preserved : goal.loop-at-preserved
loop-at-preserved g c =
    let body = c.args.body.now in
    let at = c.loop-at.at in
    let is : IsPieceAt at body c.bytes-piece.result.now = rw c.bytes-piece.ensures c.piece.ensures.piece in
    let size = ap length c.bytes-piece.ensures in
    record {
      inside = omega (arith, size, c.piece.ensures.within);
      begun = starts_more (g.D.Disk.seen (disk_of c.put.new.self)) body c.bytes-piece.result.now c.args.extent at is
          (c.in_ok-put.ensures.more (header_of body ++ take at body) (length-before body at c.loop-at.invariant.inside) c.loop-at.invariant.begun);
      spares = spares_both c.args.extent c.args.file.now c.loop-at.file c.put.new.self c.loop-at.invariant.spares
          (record { stay = c.put.ensures.stay; survive = c.put.ensures.survive; uses = c.put.ensures.live; clean = c.put.ensures.clean });
      usable = c.put.ensures.usable;
    }

pub returns-in_err-put-clause-spares : goal.returns-in_err-put-clause-spares
returns-in_err-put-clause-spares g c =
    spares_both c.args.extent c.args.file.now c.loop-at.file c.put.new.self c.loop-at.invariant.spares
    (record { stay = c.put.ensures.stay; survive = c.put.ensures.survive; uses = c.put.ensures.live; clean = c.put.ensures.clean })

pub returns-clause-whole : goal.returns-clause-whole
returns-clause-whole g c = starts_stored (g.D.Disk.seen (disk_of c.loop-at.file)) c.args.body.now c.args.extent c.loop-at.at c.requires.size (omega arith) c.loop-at.invariant.begun
