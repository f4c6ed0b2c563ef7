use Rattle.std.proofs.Common.{refl}
use Rattle.s3_server.specs.Served.{address_line}
use Rattle.s3_server.proofs.ToldLemmas.{place_begun}
use Rattle.s3_server.proofs.telling.tell_address.Goals as goal

pub returns-clause-begun : goal.returns-clause-begun
returns-clause-begun g c =
    place_begun c.tell_place.result c.args.mode.now.rounds (g.W.Write.contents c.args.output.now) (g.W.Write.contents c.tell_place.new.output) c.in-Ok.place (address_line c.in-Ok.place) refl c.tell_place.ensures.begun
