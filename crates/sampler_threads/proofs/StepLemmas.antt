-- What a step that was made adds.
use Rattle.std.proofs.Common.{◌≡◌, ℕ, ◌+◌, ◌<◌, ◌≤◌, ◌++◌, List, length, reverse, Result, Ok, Err, OnOk, IfErr, true, false, refl, sym, ◌∙◌, ap, arith}
use Rattle.std.proofs.lemmas.List.{length-append, length-reverse}
use Rattle.hk_world.specs.declared.moment.Moment.{Moment}
use Rattle.board_steps.specs.Cores.{Core}
use Rattle.board_steps.specs.Steps.{Answers, IsEvent}
use Rattle.board_steps.specs.Added.{Adds}
use Rattle.board_steps.specs.Runs.{IsMade}
use Rattle.board_steps.specs.SlotRuns.{Refuses, waiting}
use Rattle.board_steps.proofs.AddedLemmas.{step-adds, waits-same, works-on}
use Rattle.board_steps.specs.declared.event.Sample.{Sample}
use Rattle.board_steps.specs.declared.event.Event.{Event}
use Rattle.board_steps.specs.declared.event.Event.TheVariants.{Filing, Work}
use Rattle.board_steps.specs.declared.event.BoardFault.{BoardFault}
use Rattle.board_steps.specs.declared.event.BoardFault.TheVariants.{JournalFull, TimeExhausted, Memory}

-- the moments that it adds
pub adds : (before after : Core) (event : Event) → IsMade before event after → (new : List Moment) × Adds before event new after
adds before after event h = step-adds before event after h.step

-- a filing leaves as many requests waiting
pub filing_waits : (before after : Core) (sample : Sample) → IsMade before (Filing sample) after → waiting after ≡ waiting before
filing_waits before after sample h = waits-same before sample after h.step

-- work on a request that waits adds a moment or more
pub work_adds : (before after : Core) → IsMade before Work after → 0 < waiting before → length before.moments < length after.moments
work_adds before after h waits =
    let a = adds before after Work h in
    omega (arith, works-on before waits, a.1.count, ap length a.1.moments, length-append (reverse a.0) before.moments, length-reverse a.0)

-- the tailoring stays
pub made_tailoring : (before after : Core) (event : Event) → IsMade before event after → after.tailoring ≡ before.tailoring
made_tailoring before after event h = (adds before after event h).1.tailoring

-- the journal only grows
pub made_moments : (before after : Core) (event : Event) → IsMade before event after → length before.moments ≤ length after.moments
made_moments before after event h =
    let a = adds before after event h in
    omega (arith, ap length a.1.moments, length-append (reverse a.0) before.moments)

-- what follows from the answer of a step
pub answers_made : (before after : Core) (event : Event) (r : Result ℕ BoardFault) → IsEvent before event → Answers before event after r → OnOk r (IsMade before event after)
answers_made before after event (Ok count) comes h = record { comes = comes; room = h.0; time = h.1; step = h.3 }
answers_made before after event (Err fault) comes h = tt

pub answers_refused : (before after : Core) (event : Event) (fault : BoardFault) → Answers before event after (Err fault) → (after ≡ before) × Refuses before event fault
answers_refused before after event JournalFull h = (h.1, h.0)
answers_refused before after event TimeExhausted h = (h.2, (h.0, h.1))
answers_refused before after event Memory h = (h, tt)

-- an event was given, whatever the answer
pub given_tailoring : (before after : Core) (event : Event) {X : Type 0} (r : Result X BoardFault) → OnOk r (IsMade before event after)
    → IfErr r (λ fault. (after ≡ before) × Refuses before event fault) → after.tailoring ≡ before.tailoring
given_tailoring before after event (Ok x) made refused = made_tailoring before after event made
given_tailoring before after event (Err e) made refused = ap (λ (k : Core). k.tailoring) refused.0

pub given_moments : (before after : Core) (event : Event) {X : Type 0} (r : Result X BoardFault) → OnOk r (IsMade before event after)
    → IfErr r (λ fault. (after ≡ before) × Refuses before event fault) → length before.moments ≤ length after.moments
given_moments before after event (Ok x) made refused = made_moments before after event made
given_moments before after event (Err e) made refused = omega (arith, ap (λ (k : Core). length k.moments) refused.0)
