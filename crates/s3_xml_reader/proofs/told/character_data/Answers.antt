use Rattle.std.proofs.lemmas.List.{take_rest}
use Rattle.s3_xml_reader.proofs.ToldLemmas.{told_characters}
use Rattle.s3_xml_reader.proofs.told.character_data.Goals as goal

pub returns-in-None : goal.returns-in-None
returns-in-None c =
    rw take_rest (told_characters c.before_first-raw.result c.args.bytes.now c.before_first-raw.ensures c.in-None.ensures)
