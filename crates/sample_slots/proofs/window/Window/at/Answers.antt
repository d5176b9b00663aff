use Rattle.std.proofs.Common.{◌+◌, ◌-◌, ◌/◌, ◌<◌, ℕ, ℤ, FitsSigned, Some, rules, arith, ap, sym, subst, ◌∙◌}
use Rattle.circular_buffer.specs.Buffer.{Buffer}
use Rattle.std.specs.Int.{w128}
use Rattle.std.proofs.lemmas.Int.{to_z-of_z}
use Rattle.sample_slots.specs.Windows.{AreRising, sample_at}
use Rattle.sample_slots.proofs.WindowLemmas.{between-up, between-down, found-at, absent-between}
use Rattle.sample_slots.proofs.window.Window.at.Goals as goal

pub returns-then-found-slot : goal.returns-then-found-slot
returns-then-found-slot c =
    let items = c.args.self.now.items in
    let rising = subst (λ (b : Buffer (ℕ × ℤ)). AreRising b.items) c.self.view_is c.self.invariant in
    let fits : FitsSigned w128 c.sample-found.result.1 = search rules in
    ap Some (to_z-of_z w128 c.sample-found.result.1 fits)
    ∙ (sym (found-at items (c.loop-low.low + (c.loop-low.high - c.loop-low.low) / 2) c.sample-found.result rising c.sample-found.ensures)
    ∙ ap (λ (slot : ℕ). sample_at items slot) c.if-found-slot.true)

pub loop-low-preserved-then-found-slot-2 : goal.loop-low-preserved-then-found-slot-2
loop-low-preserved-then-found-slot-2 c =
    let rising = subst (λ (b : Buffer (ℕ × ℤ)). AreRising b.items) c.self.view_is c.self.invariant in
    let middle = c.loop-low.low + (c.loop-low.high - c.loop-low.low) / 2 in
    between-up c.args.self.now.items c.args.slot c.loop-low.low c.loop-low.high middle c.sample-found.result rising c.loop-low.invariant (omega (arith, c.loop-low-test.true)) c.sample-found.ensures c.if-found-slot-2.true

pub loop-low-preserved : goal.loop-low-preserved
loop-low-preserved c =
    let rising = subst (λ (b : Buffer (ℕ × ℤ)). AreRising b.items) c.self.view_is c.self.invariant in
    let middle = c.loop-low.low + (c.loop-low.high - c.loop-low.low) / 2 in
    let other = c.if-found-slot.false in
    let above : c.args.slot < c.sample-found.result.0 = omega (arith, other, c.if-found-slot-2.false) in
    between-down c.args.self.now.items c.args.slot c.loop-low.low c.loop-low.high middle c.sample-found.result rising c.loop-low.invariant (omega arith) (omega (arith, c.loop-low-test.true)) c.sample-found.ensures above

pub returns : goal.returns
returns c = sym (absent-between c.args.self.now.items c.args.slot c.loop-low.low c.loop-low.high c.loop-low.invariant c.loop-low-test.false)
