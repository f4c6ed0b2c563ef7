use Rattle.std.proofs.lemmas.List.{drop-replicate}
use Rattle.s3_hmac.proofs.HmacLemmas.{padded_key-short}
use Rattle.s3_hmac.proofs.mac.padded_key.Goals as goal

pub returns-else-key-gt-BLOCK_LEN : goal.returns-else-key-gt-BLOCK_LEN
returns-else-key-gt-BLOCK_LEN c =
    rw (padded_key-short _ c.if-key-gt-BLOCK_LEN.false, c.copy_from_slice-else-key-gt-BLOCK_LEN.ensures.after, drop-replicate)
