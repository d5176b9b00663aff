use Rattle.std.proofs.Common.{◌∙◌, ◌++◌, List, Option, map, refl, sym, ap, subst}
use Rattle.std.specs.Prelude.{unwrap_or}
use Rattle.std.specs.List.{All}
use Rattle.hk_base.specs.TailoringParts.{TailoringParts}
use Rattle.hk_base.specs.declared.types.Structure.{Structure}
use Rattle.definition_intervals.specs.Openings.{Candidate}
use Rattle.definition_intervals.specs.Founds.{first_after_all, IsFormedFound, IsBasisOf}
use Rattle.opening_sweeps.specs.Requests.{Start, IsFormedStart}
use Rattle.live_verdicts.specs.Marks.{AreAlike, IsFormedMark, told_between, found_by, first_by}
use Rattle.live_verdicts.specs.declared.mark.Mark.{Mark}
use Rattle.live_verdicts.proofs.AmongLemmas.{told-formed}
use Rattle.live_verdicts.proofs.FindLemmas.{early-from}
use Rattle.live_verdicts.proofs.MarkLemmas.{IsLater, IsOpened, later-mark}
use Rattle.live_verdicts.proofs.later.later_mark.Goals as goal

pub with_starts-requires-clause-formed : goal.with_starts-requires-clause-formed
with_starts-requires-clause-formed c =
    let g = c.args.history.now in
    let told = told-formed g.tailoring g.history c.args.key c.args.mark.now.tag c.args.tag (c.starts_rise.ensures.formed g c.args.key c.tailoring-tailoring.ensures.grounded) in
    subst (λ (ss : List Start). All (IsFormedStart g.tailoring) ss) (sym (c.deref-4.ensures.value ∙ c.in_ok-starts.ensures)) told

pub returns-clause-mark : goal.returns-clause-mark
returns-clause-mark c =
    λ holds.
    let g = c.args.history.now in
    let t = g.tailoring in
    let h = g.history in
    let key = c.args.key in
    let m = c.args.mark.now in
    let tag = c.args.tag in
    let n = c.args.numbers.first in
    let end = c.args.numbers.end in
    let grounded = c.tailoring-tailoring.ensures.grounded in
    let tailoring = c.tailoring-tailoring.ensures.tailoring in
    let early = c.in_ok-finds_over.field-0.items in
    let first = c.first_over.result in
    let later = c.in_ok-finding.finding.finds.items in
    let last = c.in_ok-finding.finding.first in
    let starts = c.deref-4.ensures.value ∙ c.in_ok-starts.ensures in
    let formed =
    c.in_ok-finding.ensures.formed
    (subst (λ (x : TailoringParts). All (IsFormedFound x) early) tailoring c.in_ok-finds_over.ensures.formed) in
    let is : IsLater g key m tag n end early first later last =
    record {
      early = early-from _ t _ _ _ m.finds.items early tailoring (c.deref.ensures.value ∙ c.in_ok-tail.ensures.requests) c.deref-2.ensures.value c.in_ok-finds_over.ensures.alike;
      change = c.first_over.ensures ∙ ap (λ (cs : List Candidate). first_after_all cs m.first) (c.deref-3.ensures.value ∙ c.in_ok-tail.ensures.requests);
      all = λ fs alike. subst (λ (ss : List Start). AreAlike (fs ++ map (found_by t h key tag m.past end) ss) later) starts (c.in_ok-finding.ensures.alike fs alike);
      latest = c.in_ok-finding.ensures.first ∙ ap (λ (ss : List Start). first_by h key tag m.past end ss first) starts;
    } in
    let now : Mark =
    record {
      tag = c.mark_tag-tag.result;
      opened = c.opened_at.result;
      past = c.ended_before-past.result;
      listed = end;
      calm = end;
      finds = c.in_ok-finding.finding.finds;
      first = last;
      open_change = c.in_ok-first_open.field-0;
      origins = c.new.result;
      basis = c.in_ok-basis.basis;
    } in
    let is_formed : IsFormedMark t now =
    record {
      finds = formed;
      basis = subst (λ (fs : List (Option (List (Option Structure)))). IsBasisOf fs (unwrap_or last 0) c.in_ok-basis.basis) c.deref-5.ensures.value c.in_ok-basis.ensures.basis;
      valid = c.in_ok-basis.ensures.formed t (subst (λ (fs : List (Option (List (Option Structure)))). All (IsFormedFound t) fs) (sym c.deref-5.ensures.value) formed);
    } in
    let opened : IsOpened g key m now (told_between h key m.tag tag) =
    record {
      none = λ e. c.opened_at.ensures.none (c.deref-6.ensures.value ∙ (c.in_ok-starts.ensures ∙ e));
      some = λ no. c.opened_at.ensures.some (λ e. no (sym (c.deref-6.ensures.value ∙ c.in_ok-starts.ensures) ∙ e));
    } in
    later-mark c.same_is_found.ensures g key m now tag n end early first grounded c.requires.mark c.requires.goes c.requires.order is is_formed refl refl c.mark_tag-tag.ensures.from c.mark_tag-tag.ensures.to
    c.mark_tag-tag.ensures.untold opened c.new.ensures.items c.in_ok-first_open.ensures holds
