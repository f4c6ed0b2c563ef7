use Rattle.s3_aws_chunked.proofs.write.+write_size.Given as goal

abbrev pub decreases-write_size : goal.decreases-write_size
decreases-write_size l = l.size
