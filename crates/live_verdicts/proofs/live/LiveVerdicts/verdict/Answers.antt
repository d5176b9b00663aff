use Rattle.std.proofs.Common.{◌≡◌, ℕ, Option, sym, subst}
use Rattle.std.specs.Prelude.{IfOk, IfSome}
use Rattle.hk_base.specs.TailoringParts.{TailoringParts}
use Rattle.definition_intervals.specs.Openings.{openings}
use Rattle.definition_intervals.specs.Bases.{IsBasis}
use Rattle.definition_intervals.specs.Verdicts.{verdict_of}
use Rattle.definition_intervals.specs.declared.answer.Verdict.{Verdict}
use Rattle.live_verdicts.specs.Marks.{AreListedBelow, IsNear, IsPlaceOf}
use Rattle.live_verdicts.specs.declared.mark.Mark.{Mark}
use Rattle.live_verdicts.proofs.HeldLemmas.{place-at, held-mark}
use Rattle.live_verdicts.proofs.MarkLemmas.{near-basis}
use Rattle.live_verdicts.proofs.live.LiveVerdicts.verdict.Goals as goal

pub returns-clause-verdict : goal.returns-clause-verdict
returns-clause-verdict c =
    let g = c.args.history.now in
    let t = g.tailoring in
    let h = g.history in
    let asked = c.asked_on-asked.result in
    let held = c.place_for.new.held.items in
    let x = c.index.result.now in
    let told = subst (λ (o : Option ℕ). IfSome o (IsPlaceOf (λ (m : Mark). IsNear h asked.key m asked.listed asked.tag) asked.key held)) c.in-Some.is c.in_ok-place.ensures.near in
    let both = place-at (λ (m : Mark). IsNear h asked.key m asked.listed asked.tag) asked.key held c.in-Some.place x told c.index.ensures in
    let mark = held-mark g asked.key held c.in-Some.place x c.in_ok-place.ensures.stands told.0 c.index.ensures both.0 in
    let grounded = c.tailoring-tailoring.ensures.grounded in
    let basis = near-basis c.openings_are_found.ensures c.finds_give_bases.ensures g asked.key x.mark asked.listed asked.tag grounded mark both.1
    (subst (λ tag. AreListedBelow h tag asked.listed) (sym c.asked_on-asked.ensures.same.1) c.asked_on-asked.ensures.listed) in
    let own =
    subst (λ tag. IsBasis t (openings t h c.args.key tag) x.mark.basis) c.asked_on-asked.ensures.same.1
    (subst (λ key. IsBasis t (openings t h key asked.tag) x.mark.basis) c.asked_on-asked.ensures.same.0 basis) in
    let tailoring = c.tailoring-tailoring.ensures.tailoring in
    subst (λ (u : TailoringParts). IfOk c.verdict_on.result (λ (v : Verdict). v ≡ verdict_of u c.args.tag c.args.payload.now (openings t h c.args.key c.args.tag))) tailoring
    (c.verdict_on.ensures.of_openings (openings t h c.args.key c.args.tag)
    (subst (λ (u : TailoringParts). IsBasis u (openings t h c.args.key c.args.tag) x.mark.basis) (sym tailoring) own))
