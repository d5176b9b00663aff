use Rattle.std.proofs.Common.{◌∙◌, ◌++◌, List, Option, map, refl, sym, subst}
use Rattle.std.specs.Prelude.{unwrap_or}
use Rattle.std.specs.List.{All}
use Rattle.hk_base.specs.declared.types.Structure.{Structure}
use Rattle.definition_intervals.specs.Founds.{IsFormedFound, IsBasisOf}
use Rattle.opening_sweeps.specs.Requests.{Start, IsFormedStart}
use Rattle.entry_changes.specs.Changes as changes
use Rattle.live_verdicts.specs.Marks.{AreAlike, AreKnown, IsFormedMark, found_at, told_between}
use Rattle.live_verdicts.specs.declared.mark.Mark.{Mark}
use Rattle.live_verdicts.proofs.AmongLemmas.{told-formed}
use Rattle.live_verdicts.proofs.MarkLemmas.{IsOpened, IsTold, told-mark}
use Rattle.live_verdicts.proofs.told.told_mark.Goals as goal

pub with_told-requires-clause-formed : goal.with_told-requires-clause-formed
with_told-requires-clause-formed c =
    let g = c.args.history.now in
    let told = told-formed g.tailoring g.history c.args.asked.key c.args.mark.now.tag c.args.asked.tag (c.starts_rise.ensures.formed g c.args.asked.key c.tailoring-tailoring.ensures.grounded) in
    subst (λ (ss : List Start). All (IsFormedStart g.tailoring) ss) (sym (c.deref-3.ensures.value ∙ c.in_ok-starts.ensures)) told

pub with_told-requires-clause-known : goal.with_told-requires-clause-known
with_told-requires-clause-known c =
    let g = c.args.history.now in
    let m = c.args.mark.now in
    let us = changes.unsures g.history c.args.asked.key m.past c.args.asked.listed in
    let known = c.requires.mark.mark.known c.args.asked.listed c.requires.coming.from c.requires.reaches in
    subst (λ (os : List (Option (List (Option Structure)))). AreKnown g.tailoring us os c.in_ok-copied_finds.field-0.items) (sym (c.in_ok-copied_finds-2.ensures ∙ c.deref-2.ensures.value))
    (subst (λ (fs : List (Option (List (Option Structure)))). AreKnown g.tailoring us m.origins.items fs) (sym (c.in_ok-copied_finds.ensures ∙ c.deref.ensures.value)) known)

pub returns : goal.returns
returns c =
    let g = c.args.history.now in
    let t = g.tailoring in
    let h = g.history in
    let key = c.args.asked.key in
    let m = c.args.mark.now in
    let listed = c.args.asked.listed in
    let tag = c.args.asked.tag in
    let told = c.in_ok-finds.field-0 in
    let first = c.first_of-first.result in
    let starts = c.in_ok-starts.ensures in
    let copied = c.in_ok-copied_finds.ensures ∙ c.deref.ensures.value in
    let formed = c.in_ok-finds.ensures.formed (subst (λ (fs : List (Option (List (Option Structure)))). All (IsFormedFound t) fs) (sym copied) c.requires.mark.mark.formed.finds) in
    let now : Mark =
    record {
      tag = c.above_told-tag.result;
      opened = c.opened_at.result;
      past = m.past;
      listed = listed;
      calm = listed;
      finds = told.finds;
      first = first;
      open_change = m.open_change;
      origins = told.origins;
      basis = c.in_ok-basis.basis;
    } in
    let is_formed : IsFormedMark t now =
    record {
      finds = formed;
      basis = subst (λ (fs : List (Option (List (Option Structure)))). IsBasisOf fs (unwrap_or first 0) c.in_ok-basis.basis) c.deref-5.ensures.value c.in_ok-basis.ensures.basis;
      valid = c.in_ok-basis.ensures.formed t (subst (λ (fs : List (Option (List (Option Structure)))). All (IsFormedFound t) fs) (sym c.deref-5.ensures.value) formed);
    } in
    let opened : IsOpened g key m now (told_between h key m.tag tag) =
    record {
      none = λ e. c.opened_at.ensures.none (c.deref-6.ensures.value ∙ (starts ∙ e));
      some = λ no. c.opened_at.ensures.some (λ e. no (sym (c.deref-6.ensures.value ∙ starts) ∙ e));
    } in
    let is : IsTold g key m now listed tag =
    record {
      alike = λ fs alike.
          subst (λ (ss : List Start). AreAlike (fs ++ map (found_at t (λ s. changes.unsures h key m.past listed)) ss) told.finds.items) (c.deref-3.ensures.value ∙ starts)
          (c.in_ok-finds.ensures.alike fs (subst (λ (gs : List (Option (List (Option Structure)))). AreAlike fs gs) (sym copied) alike));
      none = λ e. c.first_of-first.ensures.none (c.deref-4.ensures.value ∙ (starts ∙ e));
      some = λ no. c.first_of-first.ensures.some (λ e. no (sym (c.deref-4.ensures.value ∙ starts) ∙ e));
      known = c.in_ok-finds.ensures.known;
    } in
    told-mark g key m now listed tag c.tailoring-tailoring.ensures.grounded c.requires.mark c.requires.coming c.requires.reaches is_formed refl refl refl refl c.above_told-tag.ensures.from
    c.above_told-tag.ensures.to c.above_told-tag.ensures.untold opened is
