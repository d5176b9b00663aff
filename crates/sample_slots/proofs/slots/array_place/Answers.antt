use Rattle.std.proofs.Common.{◌≡◌, ◌/◌, ◌%◌, ◌*◌, ◌-◌, ℕ, List, length, get_or, arith, ap, sym, ◌∙◌, Some}
use Rattle.std.proofs.lemmas.Nat.{div-add-mod', div_below, mod_below}
use Rattle.sample_slots.proofs.Places.{array_place_at}
use Rattle.sample_slots.proofs.slots.array_place.Goals as goal

pub returns : goal.returns
returns c =
    let array = c.args.array.now in
    let w = length array.params in
    let spacing = c.args.interval / array.repetition in
    let at = array_place_at c.args.last c.args.interval array (c.args.number / w) (c.args.number % w) c.args.number (sym (div-add-mod' c.args.number w)) (div_below c.args.number w array.repetition (omega arith) c.requires.within) (mod_below c.args.number w (omega arith)) in
    let lag : c.from.result ≡ (array.repetition - 1 - c.args.number / w) * spacing =
    c.from.ensures ∙ ap (λ (xs : List ℕ). (array.repetition - 1 - c.args.number / length xs) * spacing) c.as_slice-members.ensures in
    at
    ∙ (ap (λ (x : ℕ). Some (record { param = get_or array.params (c.args.number % w) 0; slot = c.args.last - x })) (sym lag)
    ∙ ap (λ (xs : List ℕ). Some (record { param = get_or xs (c.args.number % length xs) 0; slot = c.args.last - c.from.result })) (sym c.as_slice-members.ensures))
