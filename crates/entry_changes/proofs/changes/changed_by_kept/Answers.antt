use Rattle.std.proofs.Common.{◌∙◌, sym, ap, subst}
use Rattle.std.specs.Option.{option_copied}
use Rattle.pus_messages.specs.Messages.{protocol}
use Rattle.ground_history.specs.Histories.{Kept, History}
use Rattle.ground_history.specs.Ground.{Ground, with_history}
use Rattle.entry_changes.specs.Changes.{with_packet}
use Rattle.entry_changes.proofs.KeptLemmas.{kept-as, kept-found, IsKeptAs}
use Rattle.entry_changes.proofs.changes.changed_by_kept.Goals as goal

pub returns-in-Some : goal.returns-in-Some
returns-in-Some c =
    λ g packet grounded kind e.
    let later = c.args.history.now in
    let n = c.in-Some.kept.now in
    let is = kept-as g.history packet c.args.tag ((protocol g.tailoring).reception packet) kind in
    let history = ap (λ (x : Ground). x.history) e in
    let here : IsKeptAs g.history later.history c.args.tag = subst (λ (x : History). IsKeptAs g.history x c.args.tag) (sym history) is in
    let found = kept-found g.history later.history c.args.tag n here (sym c.kept_from.ensures ∙ ap (λ o. option_copied o) c.in-Some.is) in
    let whole = e ∙ (ap (λ (x : History). with_history g x) (sym history ∙ here.with_it) ∙ ap (λ (k : Kept). with_history g (with_packet g.history k)) found) in
    c.changed_by_packet.ensures g grounded whole
