use Rattle.std.proofs.Common.{◌∙◌, List, Option, None, refl, sym, subst}
use Rattle.std.specs.List.{All}
use Rattle.hk_base.specs.declared.types.Structure.{Structure}
use Rattle.definition_intervals.specs.Founds.{IsFormedFound, IsBasisOf}
use Rattle.live_verdicts.proofs.MarkLemmas.{first-formed, first-mark, found-once}
use Rattle.live_verdicts.proofs.later.first_mark.Goals as goal

pub basis_of_finds-requires : goal.basis_of_finds-requires
basis_of_finds-requires c =
    let t = c.args.history.now.tailoring in
    let formed = first-formed t c.boot_start.result c.boot_start.ensures.formed in
    found-once t c.deref.result.now
    (subst (λ (fs : List (Option (List (Option Structure)))). All (IsFormedFound t) fs) (sym (c.deref.ensures.value ∙ c.in_ok-finds.ensures.finds)) formed)

pub returns : goal.returns
returns c =
    let g = c.args.history.now in
    let t = g.tailoring in
    let formed = first-formed t c.boot_start.result c.boot_start.ensures.formed in
    let valid = c.in_ok-basis.ensures.formed t (subst (λ (fs : List (Option (List (Option Structure)))). All (IsFormedFound t) fs) (sym (c.deref.ensures.value ∙ c.in_ok-finds.ensures.finds)) formed) in
    first-mark g c.args.key c.boot_start.result
    (record { tag = 0; opened = 0; past = 0; listed = 0; calm = 0; finds = c.in_ok-finds.finds; first = None; open_change = None; origins = c.new.result; basis = c.in_ok-basis.basis })
    refl refl refl refl refl refl refl c.new.ensures.items c.boot_start.ensures.start c.boot_start.ensures.formed c.in_ok-finds.ensures.finds
    (subst (λ (fs : List (Option (List (Option Structure)))). IsBasisOf fs 0 c.in_ok-basis.basis) c.deref.ensures.value c.in_ok-basis.ensures.basis) valid
