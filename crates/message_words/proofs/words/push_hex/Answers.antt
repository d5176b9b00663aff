use Rattle.message_words.proofs.TailLemmas.{hex_turn}
use Rattle.message_words.proofs.words.push_hex.Goals as goal

pub loop-place-preserved : goal.loop-place-preserved
loop-place-preserved c =
    hex_turn _ _ _ _ c.args.places c.loop-place.place c.args.number c.hex_digit.result c.loop-place-test.true c.in_ok-push-2.ensures.bytes (c.in_ok-push-2.ensures.ascii c.hex_digit.ensures.ascii) c.hex_digit.ensures.digit c.loop-place.invariant
