use Rattle.s3_framed_bodies.proofs.DataLemmas.{sized_sum}
use Rattle.s3_framed_bodies.proofs.reader.BodyReader.sum.Goals as goal

pub returns-in-Sized : goal.returns-in-Sized
returns-in-Sized c = λ body bytes payload ended stands is.
    sized_sum body.framing c.in-Sized.sized body bytes payload ended c.sum.result c.sum.ensures (rw c.in-Sized.is at stands) (rw c.in-Sized.is at is)
