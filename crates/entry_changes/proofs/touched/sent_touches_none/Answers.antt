use Rattle.std.specs.Result.{result_ok}
use Rattle.pus_messages.specs.Messages.{protocol}
use Rattle.ground_history.specs.Histories.{newest_tag}
use Rattle.entry_changes.proofs.TouchLemmas.{request-touches}
use Rattle.entry_changes.proofs.touched.sent_touches_none.Goals as goal

pub returns : goal.returns
returns c = λ g packet. request-touches g (record { packet = packet; request = result_ok ((protocol g.tailoring).request packet); floor = newest_tag g.history })
