use Rattle.hk_tailoring.proofs.section.Section.number_or.Goals as goal

pub returns-in-Some-clause-number : goal.returns-in-Some-clause-number
returns-in-Some-clause-number c = c.number_of.ensures.number c.args.missing
