use Rattle.std.proofs.Common.{arith, ◌≡◌, ◌<◌, ◌≤◌, List, length, sym, ap, subst, map}
use Rattle.std.proofs.lemmas.List.{take_all}
use Rattle.opening_sweeps.specs.Courses.{AreAlike, course_after}
use Rattle.opening_sweeps.specs.Groups.{courses}
use Rattle.opening_sweeps.specs.declared.group.Group.{Group}
use Rattle.opening_sweeps.proofs.SettleLemmas.{alike-more}
use Rattle.opening_sweeps.proofs.settling.settle_one.Goals as goal

pub loop-group-preserved : goal.loop-group-preserved
loop-group-preserved c =
    let gs = c.args.groups.now in
    let i = c.loop-group.group-index in
    let within : i < length gs = omega arith in
    record {
      alike = λ rest rising.
          alike-more c.args.tailoring.now c.args.request.now rest gs i c.group-item.result c.loop-group.later.items c.settle_group.new.groups.items within c.group-item.is
          (c.loop-group.invariant.alike rest rising) (c.in_ok-settle_group.ensures.alike rest rising);
      reached = λ rs. c.in_ok-settle_group.ensures.reached rs (c.loop-group.invariant.reached rs);
    }

pub returns-clause-alike : goal.returns-clause-alike
returns-clause-alike c =
    let gs = c.args.groups.now in
    let r = c.args.request.now in
    let past : length gs ≤ c.loop-group.group-index = omega arith in
    λ rest rising.
    subst (λ (xs : List Group). AreAlike rest (map (course_after c.args.tailoring.now r) (courses xs)) (courses c.loop-group.later.items))
    (take_all c.loop-group.group-index gs past) (c.loop-group.invariant.alike rest rising)
