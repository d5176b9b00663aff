use Rattle.session_record.proofs.RecordLemmas.{record-read}
use Rattle.session_record.proofs.laws.records_are_read_back.Goals as goal

pub returns : goal.returns
returns c = record-read
