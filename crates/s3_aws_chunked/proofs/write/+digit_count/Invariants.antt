use Rattle.s3_aws_chunked.proofs.write.+digit_count.Given as goal

abbrev pub decreases-digit_count : goal.decreases-digit_count
decreases-digit_count l = l.size
