-- Slots begin with no sample of theirs.
use Rattle.std.proofs.Common.{arith, ◌≡◌, ℕ, ◌+◌, refl, sym, ap, subst, ◌∙◌, List, [], ◌∷◌, ◌++◌, length, reverse, true, false, append_assoc}
use Rattle.std.proofs.lemmas.Bool.{false≢true}
use Rattle.std.proofs.lemmas.List.{reverse-append}
use Rattle.hk_base.specs.Fit.{IsFit}
use Rattle.hk_base.specs.TailoringParts.{TailoringParts}
use Rattle.hk_world.specs.declared.moment.Moment.{Moment}
use Rattle.board_scripts.specs.declared.script.Script.{Script}
use Rattle.board_steps.specs.Added.{Adds}
use Rattle.board_steps.specs.Cores.{Core, new_core}
use Rattle.board_steps.specs.Runs.{IsMade}
use Rattle.board_steps.specs.SlotRuns.{Ahead, Leads, IsSlot, at_start, at_end}
use Rattle.board_steps.specs.Slots.{is_filed}
use Rattle.board_steps.specs.Steps.{IsStep}
use Rattle.board_steps.specs.Timeline.{Stands}
use Rattle.board_steps.specs.declared.event.Event.{Event}
use Rattle.board_steps.specs.declared.event.Event.TheVariants.{Uplink, Clock, Work, Filing, CloseSlot}
use Rattle.sampler_threads.specs.Samplings.{NoneFiled}
use Rattle.board_runs.specs.Runs.{HasDone, HasRun}
use Rattle.board_runs.specs.Slots.{uplinks}

-- a core stands after each step from one that stands
abbrev pub GoesOn : Type 0
GoesOn = (before : Core) (event : Event) (after : Core) → IsFit before.tailoring → Stands before → IsMade before event after → Stands after

-- a slot begins without samples
abbrev pub BeginsUnfiled : Type 0
BeginsUnfiled = (before after : Core) → Stands before → IsStep before CloseSlot after → (id : ℕ) → is_filed after id ≡ false

leads-stand : GoesOn → (a b : Ahead) (core after : Core) (events : List Event) → IsFit core.tailoring → Stands core → Leads a core events b after
    → Stands after × (after.tailoring ≡ core.tailoring)
leads-stand goes a b core after [] fit stands h = (subst Stands (sym h.1) stands, ap (λ (c : Core). c.tailoring) h.1)
leads-stand goes a b core after (event ∷ events) fit stands h =
    let same = h.3.step.tailoring in
    let rest = leads-stand goes h.0 b h.1 after events (subst IsFit (sym same) fit) (goes core event h.1 fit stands h.3) h.4 in
    (rest.0, rest.1 ∙ same)

-- nothing comes after the end
closed : (a b : Ahead) (core after : Core) (events : List Event) → a.is_open ≡ false → Leads a core events b after → after ≡ core
closed a b core after [] shut h = h.1
closed a b core after (Filing x ∷ events) shut h = absurd (false≢true (sym shut ∙ h.2.0))
closed a b core after (Uplink packet ∷ events) shut h = absurd (false≢true (sym shut ∙ h.2.0))
closed a b core after (Work ∷ events) shut h = absurd (false≢true (sym shut ∙ h.2.0))
closed a b core after (CloseSlot ∷ events) shut h = absurd (false≢true (sym shut ∙ h.2.0))
closed a b core after (Clock tag ∷ events) shut h = absurd h.2

-- after a whole slot no parameter has a sample in the one that runs
ends-unfiled : GoesOn → BeginsUnfiled → (a : Ahead) (core after : Core) (events : List Event) → IsFit core.tailoring → Stands core → a.is_open ≡ true
    → Leads a core events at_end after → (id : ℕ) → is_filed after id ≡ false
ends-unfiled goes begins a core after [] fit stands open_ h id = absurd (false≢true (ap (λ (x : Ahead). x.is_open) h.0 ∙ open_))
ends-unfiled goes begins a core after (CloseSlot ∷ events) fit stands open_ h id =
    let shut : h.0.is_open ≡ false = ap (λ (x : Ahead). x.is_open) h.2.1.2 in
    subst (λ c. is_filed c id ≡ false) (sym (closed h.0 at_end h.1 after events shut h.4)) (begins core h.1 stands h.3.step id)
ends-unfiled goes begins a core after (Filing x ∷ events) fit stands open_ h id =
    ends-unfiled goes begins h.0 h.1 after events (subst IsFit (sym h.3.step.tailoring) fit) (goes core (Filing x) h.1 fit stands h.3)
    (ap (λ (y : Ahead). y.is_open) h.2.2 ∙ open_) h.4 id
ends-unfiled goes begins a core after (Uplink packet ∷ events) fit stands open_ h id =
    ends-unfiled goes begins h.0 h.1 after events (subst IsFit (sym h.3.step.tailoring) fit) (goes core (Uplink packet) h.1 fit stands h.3)
    (ap (λ (y : Ahead). y.is_open) h.2.1.1.2) h.4 id
ends-unfiled goes begins a core after (Work ∷ events) fit stands open_ h id =
    ends-unfiled goes begins h.0 h.1 after events (subst IsFit (sym h.3.step.tailoring) fit) (goes core Work h.1 fit stands h.3)
    (ap (λ (y : Ahead). y.is_open) h.2.1.2 ∙ open_) h.4 id
ends-unfiled goes begins a core after (Clock tag ∷ events) fit stands open_ h id = absurd h.2

-- the core of a run stands, and has its tailoring
pub run-stands : GoesOn → ((t : TailoringParts) → Stands (new_core t)) → (t : TailoringParts) (s : Script) (slots : List (List Moment)) (c : Core) → IsFit t → HasRun t s slots c
    → Stands c × (c.tailoring ≡ t)
run-stands goes begins t s [] c fit h = (subst Stands (sym h) (begins t), ap (λ (x : Core). x.tailoring) h)
run-stands goes begins t s (ms ∷ earlier) c fit h =
    let before = run-stands goes begins t s earlier h.0 fit h.1 in
    let after = leads-stand goes (at_start (uplinks t s earlier)) at_end h.0 c h.2.0 (subst IsFit (sym before.1) fit) before.0 h.2.1 in
    (after.0, after.1 ∙ before.1)

pub run-unfiled : GoesOn → BeginsUnfiled → ((t : TailoringParts) → Stands (new_core t)) → (t : TailoringParts) (s : Script) (slots : List (List Moment)) (c : Core)
    → IsFit t → HasRun t s slots c → NoneFiled c
run-unfiled goes unfiled begins t s [] c fit h param e = ap (λ (x : Core). is_filed x param) h
run-unfiled goes unfiled begins t s (ms ∷ earlier) c fit h param e =
    let before = run-stands goes begins t s earlier h.0 fit h.1 in
    ends-unfiled goes unfiled (at_start (uplinks t s earlier)) h.0 c h.2.0 (subst IsFit (sym before.1) fit) before.0 refl h.2.1 param

-- it is in the slot after those that ran
pub run-slot : ((packets : List (List ℕ)) (before after : Core) → IsSlot packets before after → after.slot_now ≡ before.slot_now + 1)
    → (t : TailoringParts) (s : Script) (slots : List (List Moment)) (c : Core) → HasRun t s slots c → c.slot_now ≡ length slots
run-slot next t s [] c h = ap (λ (x : Core). x.slot_now) h
run-slot next t s (ms ∷ earlier) c h =
    let here = next (uplinks t s earlier) h.0 c h.2 in
    let before = run-slot next t s earlier h.0 h.1 in
    omega (arith, here, before)

-- what some steps of a slot have done
pub leads-grow : ((before : Core) (event : Event) (after : Core) → IsStep before event after → (new : List Moment) × Adds before event new after)
    → (a b : Ahead) (core after : Core) (events : List Event) → Leads a core events b after → (new : List Moment) × HasDone core new after
leads-grow adds a b core after [] h = ([], ap (λ (c : Core). c.moments) h.1)
leads-grow adds a b core after (event ∷ events) h =
    let one = adds core event h.1 h.3.step in
    let rest = leads-grow adds h.0 b h.1 after events h.4 in (
      one.0 ++ rest.0,
      rest.1
          ∙ (ap (λ ms. reverse rest.0 ++ ms) one.1.moments
          ∙ (sym (append_assoc (reverse rest.0) (reverse one.0) core.moments) ∙ ap (λ ms. ms ++ core.moments) (sym (reverse-append one.0 rest.0)))),
    )
