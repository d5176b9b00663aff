use Rattle.std.proofs.Common.{◌-◌, ◌<◌, ◌++◌, ◌∷◌, [], ℕ, ℤ, length, sym, subst, to_z, of_z}
use Rattle.std.specs.Prelude.{IfSome}
use Rattle.std.specs.Int.{w128}
use Rattle.circular_buffer.specs.Buffer.{Buffer, last_item}
use Rattle.sample_slots.specs.Windows.{AreRising}
use Rattle.sample_slots.proofs.WindowLemmas.{rising-latest}
use Rattle.sample_slots.proofs.window.Window.push.Goals as goal

pub invariant_of-self : goal.invariant_of-self
invariant_of-self c =
    let items = c.self.inside.samples.items in
    let capacity = c.self.inside.samples.capacity in
    let value = to_z w128 (of_z w128 c.args.value) in
    let later = subst (λ (b : Buffer (ℕ × ℤ)). IfSome (last_item b.items) (λ (newest : ℕ × ℤ). newest.0 < c.args.slot)) (sym c.self.view_is) c.requires in
    subst (λ (b : Buffer (ℕ × ℤ)). AreRising b.items) (sym c.push_back.ensures.items)
    (rising-latest (length (items ++ (c.args.slot, value) ∷ []) - capacity) items c.args.slot value c.self.invariant later)
