use Rattle.std.proofs.Common.{arith, ◌≡◌, ◌∙◌, ◌<◌, length, ap}
use Rattle.opening_sweeps.specs.Requests.{settled}
use Rattle.opening_sweeps.specs.Courses.{first_after_one}
use Rattle.opening_sweeps.proofs.FoldLemmas.{first-settled-more}
use Rattle.opening_sweeps.proofs.naming.first_settled.Goals as goal

pub loop-place-preserved : goal.loop-place-preserved
loop-place-preserved c =
    let rs = c.args.requests.now in
    let i = c.loop-place.place in
    let r = c.index-requests-place.result in
    let within : i < length rs = omega arith in
    λ h.
    c.first_with-first.ensures
    ∙ (ap (λ f. first_after_one (settled c.args.tag r) f) (c.loop-place.invariant h) ∙ first-settled-more c.args.tag rs i r within c.index-requests-place.is)
