use Rattle.board_steps.proofs.AddedLemmas.{step-adds, closing-settable, waits-same, works-on, stands-up-to, begins-unfiled}
use Rattle.board_steps.proofs.SlotLemmas.{closes-same}
use Rattle.board_steps.proofs.laws.steps.Goals as goal

pub returns-clause-adds : goal.returns-clause-adds
returns-clause-adds c before event after made = step-adds before event after made

pub returns-clause-settable : goal.returns-clause-settable
returns-clause-settable c core fit = closing-settable core fit

pub returns-clause-waits : goal.returns-clause-waits
returns-clause-waits c before x after made = waits-same before x after made

pub returns-clause-works : goal.returns-clause-works
returns-clause-works c core some = works-on core some

pub returns-clause-filed : goal.returns-clause-filed
returns-clause-filed c core stands = stands-up-to core stands

pub returns-clause-unfiled : goal.returns-clause-unfiled
returns-clause-unfiled c before after stands made id = begins-unfiled before after stands made id

pub returns-clause-closes : goal.returns-clause-closes
returns-clause-closes c before after step = closes-same before after step
