use Rattle.std.proofs.Common.{ℕ, ◌+◌, max, sym, ◌∙◌, ap, length}
use Rattle.simulated_link.specs.Links.{Given, Copy}
use Rattle.simulated_link.proofs.LinkLemmas.{lost-held, once-held, twice-held, drawn-same}
use Rattle.simulated_link.proofs.link.Link.give.Goals as goal

pub returns-then-fate-clause-held : goal.returns-then-fate-clause-held
returns-then-fate-clause-held c = λ d from earlier held.
    let e = c.draw_fate-fate.ensures in
    lost-held d from earlier (record { direction = c.args.direction; slot = c.args.slot; earliest = c.args.earliest; packet = c.args.packet }) c.args.self.now c.draw_fate-fate.new.self held
    e.settings e.requests e.reports (e.drawn (length earlier) held.drawn) (sym (e.lost (length earlier) held.drawn) ∙ c.if-fate.true)

pub returns-in_ok-put-2-clause-held : goal.returns-in_ok-put-2-clause-held
returns-in_ok-put-2-clause-held c = λ d from earlier held.
    let e = c.draw_fate-fate.ensures in
    let p = c.in_ok-put.ensures in
    let q = c.in_ok-put-2.ensures in
    let n = length earlier in
    let g : Given ℕ = record { direction = c.args.direction; slot = c.args.slot; earliest = c.args.earliest; packet = c.args.packet } in
    let late : ℕ → Copy ℕ = λ m. record { arrival = max c.args.earliest (c.args.slot + m); packet = c.args.packet } in
    let at : ℕ → Copy ℕ = λ m. record { arrival = m; packet = c.args.packet } in
    let drawn = drawn-same (n + 1) c.draw_fate-fate.new.self c.put.new.self p.settings p.words (e.drawn n held.drawn) in
    twice-held d from earlier g c.args.self.now c.draw_fate-fate.new.self c.put.new.self c.put-then-fate-2.new.self c.max.result c.max-then-fate-2.result held
    e.settings e.requests e.reports (drawn-same (n + 1) c.put.new.self c.put-then-fate-2.new.self q.settings q.words drawn) p.settings q.settings p.put q.put
    (sym (e.lost n held.drawn) ∙ c.if-fate.false) (sym (e.repeated n held.drawn) ∙ c.if-fate-2.true)
    (ap at c.max.ensures ∙ ap late (e.delay n held.drawn)) (ap at c.max-then-fate-2.ensures ∙ ap late (e.second n held.drawn))

pub returns-else-fate-2-clause-held : goal.returns-else-fate-2-clause-held
returns-else-fate-2-clause-held c = λ d from earlier held.
    let e = c.draw_fate-fate.ensures in
    let p = c.in_ok-put.ensures in
    let n = length earlier in
    let g : Given ℕ = record { direction = c.args.direction; slot = c.args.slot; earliest = c.args.earliest; packet = c.args.packet } in
    let late : ℕ → Copy ℕ = λ m. record { arrival = max c.args.earliest (c.args.slot + m); packet = c.args.packet } in
    let at : ℕ → Copy ℕ = λ m. record { arrival = m; packet = c.args.packet } in
    once-held d from earlier g c.args.self.now c.draw_fate-fate.new.self c.put.new.self c.max.result held
    e.settings e.requests e.reports (drawn-same (n + 1) c.draw_fate-fate.new.self c.put.new.self p.settings p.words (e.drawn n held.drawn)) p.settings p.put
    (sym (e.lost n held.drawn) ∙ c.if-fate.false) (sym (e.repeated n held.drawn) ∙ c.if-fate-2.false)
    (ap at c.max.ensures ∙ ap late (e.delay n held.drawn))
