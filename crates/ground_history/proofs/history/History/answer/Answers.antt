use Rattle.std.proofs.Common.{sym, ◌∙◌, ap}
use Rattle.pus_messages.specs.Messages.{protocol}
use Rattle.ground_history.specs.Ground.{answer_by_count}
use Rattle.ground_history.proofs.OutcomeLemmas.{answer-is}
use Rattle.ground_history.proofs.history.History.answer.Goals as goal

pub returns-in-Ok-clause-answer : goal.returns-in-Ok-clause-answer
returns-in-Ok-clause-answer c =
    c.is_new.ensures.answer
    ∙ (ap (answer_by_count c.args.self.now.history c.args.bytes.now) (sym c.in-Ok.is ∙ c.own_count.ensures.count)
    ∙ sym (answer-is c.args.self.now.tailoring c.args.self.now.history c.args.bytes.now ((protocol c.args.self.now.tailoring).command c.args.bytes.now)))

pub returns-in-Err-clause-answer : goal.returns-in-Err-clause-answer
returns-in-Err-clause-answer c =
    ap (answer_by_count c.args.self.now.history c.args.bytes.now) (sym c.in-Err.is ∙ c.own_count.ensures.count)
    ∙ sym (answer-is c.args.self.now.tailoring c.args.self.now.history c.args.bytes.now ((protocol c.args.self.now.tailoring).command c.args.bytes.now))
