use Rattle.std.proofs.Common.{◌≡◌, ◌≤◌, drop}
use Rattle.message_words.specs.Numbers.{number_from}
use Rattle.message_words.proofs.numbers.number_up_to.Given as goal

abbrev pub invariant-loop-digit : goal.invariant-loop-digit
invariant-loop-digit l = (number_from l.most l.number (drop l.digit-index l.digits) ≡ number_from l.most 0 l.digits) × (l.number ≤ l.most)
