use Rattle.std.proofs.Common.{◌∙◌, sym, ap, subst, Some}
use Rattle.std.specs.Prelude.{find, nat_le}
use Rattle.std.specs.Option.{option_copied}
use Rattle.pus_messages.specs.Messages.{protocol}
use Rattle.ground_history.specs.Histories.{Kept, tag_of, history_with_got}
use Rattle.ground_history.specs.Ground.{Ground, with_history}
use Rattle.entry_changes.specs.Changes.{AreUnsureSame, with_packet}
use Rattle.entry_changes.proofs.KeptLemmas.{kept-as, kept-found}
use Rattle.entry_changes.proofs.TouchLemmas.{first-touches}
use Rattle.entry_changes.proofs.touched.touched_by_kept.Goals as goal

pub returns-in-Some : goal.returns-in-Some
returns-in-Some c =
    λ g packet grounded kind e.
    let n = c.in-Some.kept.now in
    let later = history_with_got g.history packet ((protocol g.tailoring).reception packet) in
    let is = kept-as g.history packet c.args.tag ((protocol g.tailoring).reception packet) kind in
    let there = ap (λ (x : Ground). find (λ j. nat_le c.args.tag (tag_of j)) x.history.kept) (sym e) ∙ (sym c.kept_from.ensures ∙ ap (λ o. option_copied o) c.in-Some.is) in
    let found = kept-found g.history later c.args.tag n is there in
    let whole = e ∙ (ap (with_history g) is.with_it ∙ ap (λ (k : Kept). with_history g (with_packet g.history k)) found) in
    subst (λ (x : Ground). AreUnsureSame c.touched_by_packet.result g x) (sym whole) (c.touched_by_packet.ensures g)

pub returns-in-None : goal.returns-in-None
returns-in-None c =
    λ g packet grounded kind e.
    let is = kept-as g.history packet c.args.tag ((protocol g.tailoring).reception packet) kind in
    subst (λ (x : Ground). AreUnsureSame (Some 0) g x) (sym (e ∙ ap (with_history g) is.with_it)) (first-touches g is.packet)
