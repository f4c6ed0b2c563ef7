use Rattle.std.proofs.Common.{refl}
use Rattle.s3_integrity.specs.Algorithm.{header_of}
use Rattle.s3_unsigned_chunks.proofs.reader.UnsignedChunkReader.new.Goals as goal

pub returns : goal.returns
returns c = record { name = refl; encoded = refl; kept = refl; shows = c.new.ensures (header_of c.args.algorithm) }
