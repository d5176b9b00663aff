-- The moments of a board are within the ranges of what a record can tell.
use Rattle.std.proofs.Common.{arith, ◌≡◌, ℕ, ◌<◌, ◌≤◌, ◌^◌, List, [], ◌∷◌}
use Rattle.std.specs.List.{AllByRecursion}
use Rattle.hk_base.specs.Fit.{greatest_tag}
use Rattle.hk_base.specs.TailoringParts.{TailoringParts}
use Rattle.hk_world.specs.declared.moment.Moment.{Moment}
use Rattle.hk_world.specs.declared.moment.Act.{Act}
use Rattle.hk_world.specs.declared.moment.Act.TheVariants.{Accepted, TurnedAway, Started, NotStarted, Executed, Completed, Emitted, Filed}
use Rattle.journal_texts.specs.Moments.{IsMoment, IsAct}
use Rattle.board_steps.specs.Cores.{Core}
use Rattle.board_steps.specs.Added.{IsActWithin, IsWithin, IsJournal}

numbers-small : (ns : List ℕ) → AllByRecursion (λ n. n ≤ 255) ns → AllByRecursion (λ n. n < 2 ^ 32) ns
numbers-small [] h = tt
numbers-small (n ∷ ns) h = let low = h.0 in (omega (arith, low), numbers-small ns h.1)

act-small : (t : TailoringParts) (slot : ℕ) (act : Act) → slot < 2 ^ 56 → IsActWithin t slot act → IsAct act
act-small t slot (Accepted k) low h = omega (arith, h)
act-small t slot (TurnedAway k) low h = omega (arith, h)
act-small t slot (Started k) low h = omega (arith, h)
act-small t slot (NotStarted k) low h = omega (arith, h)
act-small t slot (Executed k number flag) low h = let a = h.0 in let b = h.1 in (omega (arith, a), omega (arith, b))
act-small t slot (Completed k refused) low h = let a = h.0 in (omega (arith, a), numbers-small refused h.2)
act-small t slot Emitted low h = tt
act-small t slot (Filed id x value) low h = let a = h.0 in let b = h.1 in (omega (arith, a), omega (arith, b, low), h.2)

moments-small : (t : TailoringParts) (slot : ℕ) (moments : List Moment) → greatest_tag t < 2 ^ 56 → slot < 2 ^ 56 → AllByRecursion (IsWithin t slot) moments → AllByRecursion IsMoment moments
moments-small t slot [] top low h = tt
moments-small t slot (m ∷ moments) top low h =
    let tag = h.0.tag in
    (record { tag = omega (arith, tag, top); act = act-small t slot m.act low h.0.act; packet = h.0.octets }, moments-small t slot moments top low h.1)

pub journal-small : (c : Core) → IsJournal c → AllByRecursion IsMoment c.moments
journal-small c j =
    let top = j.greatest in
    let slot = j.slot in
    moments-small c.tailoring c.slot_now c.moments top (omega (arith, top, slot)) j.moments
