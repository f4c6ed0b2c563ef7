use denote.Param.Send.{sendable}
use Rattle.std.proofs.Crossing.{crosses}
use Rattle.s3_server.proofs.SendLemmas.{door_send}
use Rattle.s3_server.proofs.running.work_all.Goals as goal

-- a worker's task and its door may go to another thread
pub map_vec-requires-send-J : goal.map_vec-requires-send-J
map_vec-requires-send-J g c κs within = search (sendable, crosses, door_send) depth 40 fits 20000

pub map_vec-requires-send-X : goal.map_vec-requires-send-X
map_vec-requires-send-X g c κs within = search (sendable, crosses, door_send) depth 40 fits 20000
