use Rattle.s3_block_bodies.proofs.block_bodies.BlockBodiesStoredBodies.outlive_crashes.Goals as goal

pub returns : goal.returns
returns g c left found number bytes out = found.has number bytes (out.later found.clean found.file found.left)
