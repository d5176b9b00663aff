use Rattle.std.proofs.Common.{◌∙◌, ◌+◌, List, Option, refl, sym, ap, subst}
use Rattle.std.specs.Prelude.{unwrap_or}
use Rattle.std.specs.List.{All}
use Rattle.hk_base.specs.TailoringParts.{TailoringParts}
use Rattle.hk_base.specs.declared.types.Structure.{Structure}
use Rattle.definition_intervals.specs.Openings.{Candidate}
use Rattle.definition_intervals.specs.Founds.{first_after_all, IsFormedFound, IsBasisOf}
use Rattle.live_verdicts.specs.Marks.{IsFormedMark}
use Rattle.live_verdicts.specs.declared.mark.Mark.{Mark}
use Rattle.live_verdicts.proofs.FindLemmas.{early-from}
use Rattle.live_verdicts.proofs.GrowLemmas.{grown-mark}
use Rattle.live_verdicts.proofs.growing.grown.Goals as goal

pub returns-clause-mark : goal.returns-clause-mark
returns-clause-mark c =
    λ starts mark.
    let g = c.args.history.now in
    let t = g.tailoring in
    let m = c.args.mark.now in
    let finds = c.in_ok-finds.finds.items in
    let first = c.first_over-first.result in
    let formed = subst (λ (x : TailoringParts). All (IsFormedFound x) finds) c.tailoring.ensures.tailoring c.in_ok-finds.ensures.formed in
    let now : Mark =
    record { tag = m.tag; opened = m.opened; past = m.past; listed = m.calm + 1; calm = m.calm + 1; finds = c.in_ok-finds.finds; first = first; open_change = c.first_over.result; origins = c.in_ok-copied_finds.field-0; basis = c.in_ok-basis.basis } in
    let is_formed : IsFormedMark t now =
    record {
      finds = formed;
      basis = subst (λ (fs : List (Option (List (Option Structure)))). IsBasisOf fs (unwrap_or first 0) c.in_ok-basis.basis) c.deref-4.ensures.value c.in_ok-basis.ensures.basis;
      valid = c.in_ok-basis.ensures.formed t (subst (λ (fs : List (Option (List (Option Structure)))). All (IsFormedFound t) fs) (sym c.deref-4.ensures.value) formed);
    } in
    grown-mark c.same_is_found.ensures g c.args.key starts m now c.requires.within refl refl refl refl
    (early-from _ t _ _ _ m.finds.items finds c.tailoring.ensures.tailoring (c.deref.ensures.value ∙ c.in_ok-requests.ensures.requests) c.deref-2.ensures.value c.in_ok-finds.ensures.alike)
    (c.first_over-first.ensures ∙ ap (λ (cs : List Candidate). first_after_all cs m.first) (c.deref-3.ensures.value ∙ c.in_ok-requests.ensures.requests))
    (c.first_over.ensures ∙ ap (λ (cs : List Candidate). first_after_all cs m.open_change) (c.deref-5.ensures.value ∙ c.in_ok-requests.ensures.requests))
    (c.in_ok-copied_finds.ensures ∙ c.deref-6.ensures.value) is_formed mark
