use Rattle.std.proofs.Common.{◌≡◌, ◌<◌, ◌++◌, ◌∷◌, [], List, ℕ, ◌+◌, length, drop, refl, sym, ◌∙◌, ap, subst, rules}
use Rattle.board_steps.specs.SlotRuns.{Ahead, at_start}
use Rattle.sampler_threads.specs.Deeds.{Deed}
use Rattle.sampler_threads.specs.Slots.{IsUplinkNext}
use Rattle.sampler_threads.proofs.ListLemmas.{drop_next}
use Rattle.sampler_threads.proofs.RunLemmas.{went_append}
use Rattle.sampler_threads.proofs.ServeLemmas.{received_deeds, served_more}
use Rattle.sampler_threads.proofs.arms.serve.Goals as goal

pub returns-in-Err : goal.returns-in-Err
returns-in-Err g c =
    let i = c.loop-packet.invariant.1 in
    let xs = c.args.uplinks.now in
    let k = c.loop-packet.packet-index in
    let packet = c.packet-item.result in
    let within : k < length xs = search rules in
    let next : IsUplinkNext i.1 c.loop-packet.core packet (drop (k + 1) xs) =
    (i.2.is_open, i.3, i.4 ∙ (drop_next xs k packet within ∙ ap (λ p. p ∷ drop (k + 1) xs) (sym c.packet-item.is))) in
    let e = c.in-Err.ensures.went i.1 (drop (k + 1) xs) next in
    (i.0 ++ e.0, e.1, served_more (at_start xs) i.1 e.1 c.args.core.now c.loop-packet.core c.serve_one.new.core c.args.rings.now c.loop-packet.rings c.serve_one.new.rings i.0 e.0 i.2 e.2, tt, e.4)

pub loop-packet-preserved : goal.loop-packet-preserved
loop-packet-preserved g c =
    let i = c.loop-packet.invariant.1 in
    let xs = c.args.uplinks.now in
    let k = c.loop-packet.packet-index in
    let packet = c.packet-item.result in
    let within : k < length xs = search rules in
    let next : IsUplinkNext i.1 c.loop-packet.core packet (drop (k + 1) xs) =
    (i.2.is_open, i.3, i.4 ∙ (drop_next xs k packet within ∙ ap (λ p. p ∷ drop (k + 1) xs) (sym c.packet-item.is))) in
    let e = c.in_default.ensures.went i.1 (drop (k + 1) xs) next in (
      c.loop-packet.invariant.0 ∙ sym c.serve_one.ensures.tailoring,
      (
        i.0 ++ e.0,
        e.1,
        served_more (at_start xs) i.1 e.1 c.args.core.now c.loop-packet.core c.serve_one.new.core c.args.rings.now c.loop-packet.rings c.serve_one.new.rings i.0 e.0 i.2 e.2,
        e.3.0,
        e.3.1,
      ),
    )
