-- The numbers of the end of a slot have room in 64 bits.
use Rattle.std.proofs.Common.{arith, ◌≡◌, ℕ, zero, suc, ◌+◌, ◌-◌, ◌*◌, ◌^◌, ◌<◌, ◌≤◌}
use Rattle.std.proofs.Math.Nat.{pow-le-pow_right}
use Rattle.hk_base.specs.Fit.{IsFit, greatest_tag}
use Rattle.hk_base.specs.TailoringParts.{TailoringParts}
use Rattle.board_steps.specs.Cores.{Core}
use Rattle.board_steps.specs.Timeline.{Stands}

pub greatest-few : (t : TailoringParts) → IsFit t → greatest_tag t < 2 ^ 56
greatest-few t fit =
    let coarse = fit.widths.coarse.1 in
    let fine = fit.widths.fine in
    let most : 256 ^ (t.widths.coarse + t.widths.fine) ≤ 256 ^ 7 =
    (let some : 0 < 256 = omega arith in let le : t.widths.coarse + t.widths.fine ≤ 7 = omega (arith, coarse, fine) in pow-le-pow_right some le) in
    omega (arith, most)

grow : (n width : ℕ) → 1 ≤ width → n ≤ n * width
grow zero width some = omega arith
grow (suc n) width some = omega (arith, some, grow n width some)

-- the slot that runs is small
pub slot-few : (c : Core) → IsFit c.tailoring → Stands c → c.slot_now < 2 ^ 56
slot-few c fit stands =
    let most = greatest-few c.tailoring fit in
    let early = stands.early in
    let wide = fit.widths.slot.0 in
    let more = grow c.slot_now c.tailoring.widths.slot (omega (arith, wide)) in
    omega (arith, most, early, more)

-- so are the tags of the next slots
pub end-few : (c : Core) → IsFit c.tailoring → Stands c → (c.slot_now + 1) * c.tailoring.widths.slot < 2 ^ 60
end-few c fit stands =
    let most = greatest-few c.tailoring fit in
    let early = stands.early in
    let few = fit.widths.slot.1 in
    omega (arith, most, early, few)

pub next-end-few : (c : Core) → IsFit c.tailoring → Stands c → (c.slot_now + 2) * c.tailoring.widths.slot < 2 ^ 58
next-end-few c fit stands =
    let most = greatest-few c.tailoring fit in
    let early = stands.early in
    let few = fit.widths.slot.1 in
    omega (arith, most, early, few)

-- three numbers of which two are taken away
pub taken-both : (a b c : ℕ) → a - b - c ≡ a - (b + c)
taken-both a b c = omega arith
