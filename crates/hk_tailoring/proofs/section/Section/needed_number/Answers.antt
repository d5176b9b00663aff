use Rattle.hk_tailoring.specs.Keys.{section_of, needed_number_checks, number_checks, natural_at, presence}
use Rattle.hk_tailoring.proofs.CheckLemmas.{answers-after}
use Rattle.hk_tailoring.proofs.section.Section.needed_number.Goals as goal

pub returns-in-Some-clause-number : goal.returns-in-Some-clause-number
unfolding needed_number_checks
returns-in-Some-clause-number c =
    let s = section_of c.args.self.now in
    answers-after (λ n. n) (presence s c.args.key.now) (number_checks s c.args.key.now c.args.low c.args.high) (natural_at s c.args.key.now 0) c.number_of.result
    (rw (← c.in-Some.ensures)) (c.number_of.ensures.number 0)
