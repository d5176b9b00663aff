-- What a slot that is opened has, whatever was answered.
use Rattle.std.proofs.Common.{◌≡◌, ◌+◌, ◌≤◌, ◌++◌, ℕ, List, [], length, drop, map, Result, Ok, Err, ◌∙◌}
use Rattle.std.specs.Prelude.{IfOk, OnOk}
use Rattle.hk_base.specs.TailoringParts.{TailoringParts}
use Rattle.hk_world.specs.declared.moment.Moment.{Moment}
use Rattle.session_record.specs.declared.entry.WriteFault.{WriteFault}
use Rattle.simulated_link.specs.Links.{arrivals}
use Rattle.simulated_link.specs.Holding.{IsHeld}
use Rattle.simulated_link.specs.declared.link.Link.{Link}
use Rattle.simulated_link.specs.declared.settings.Direction.TheVariants.{Request, Report}
use Rattle.board_scripts.specs.Spelling.{AreSent}
use Rattle.board_scripts.specs.declared.script.Script.{Script}
use Rattle.board_scripts.specs.declared.script.Sending.{Sending}
use Rattle.board_runs.specs.Slots.{uplinks}
use Rattle.run_slots.specs.Arrivals.{requested}
use Rattle.run_slots.specs.Fronts.{front, numbers}
use Rattle.run_slots.specs.Standing.{IsBeforeSlot, IsInSlot}
use Rattle.run_slots.specs.declared.opening.Opened.{Opened}
use Rattle.run_slots.proofs.RisingLemmas.{front-within}
use Rattle.run_slots.proofs.StandingLemmas.{Renames, uplinks-are, opens, both}

-- the number of the next line is one of the script's
pub next-within : (slot next : ℕ) (xs : List Sending) (result : Result Opened WriteFault) → next ≤ length xs → IfOk result (λ x. x.next ≡ next + length (front slot (drop next xs)))
    → IfOk result (λ x. x.next ≤ length xs)
next-within slot next xs (Ok x) within is = front-within slot next x.next xs within is
next-within slot next xs (Err f) within is = tt

module _ (t : TailoringParts) (s : Script) (slots : List (List Moment)) (journal : List Moment) (slot next : ℕ) (link after : Link) where
  pub uplinks-ok : (result : Result Opened WriteFault) → Renames → AreSent t [] s.sendings → (was : IsBeforeSlot t s slots journal slot next link)
      → IfOk result (λ x. x.uplinks.items ≡ map (requested s.sendings) (arrivals link.settings Request slot (was.held.numbers ++ numbers slot next (front slot (drop next s.sendings)))))
      → IfOk result (λ x. x.uplinks.items ≡ uplinks t s slots)
  uplinks-ok (Ok x) law sent was is = is ∙ uplinks-are t s slots journal slot next link law sent was
  uplinks-ok (Err f) law sent was is = tt

  pub opens-ok : (result : Result Opened WriteFault) → AreSent t [] s.sendings → (was : IsBeforeSlot t s slots journal slot next link) → after.settings ≡ link.settings
      → IfOk result (λ x. x.next ≡ next + length (front slot (drop next s.sendings)))
      → OnOk result (IsHeld Request (slot + 1) (was.held.numbers ++ numbers slot next (front slot (drop next s.sendings))) after)
      → OnOk result (IsHeld Report (slot + 1) (was.held.numbers ++ numbers slot next (front slot (drop next s.sendings))) after)
      → IfOk result (λ x. IsInSlot t s slots journal slot x.next after)
  opens-ok (Ok x) sent was same is requests reports =
      opens t s slots journal slot next link x.next after sent was same is
      (λ d h. both (λ d. IsHeld d (slot + 1) (was.held.numbers ++ numbers slot next (front slot (drop next s.sendings))) after) requests reports d)
  opens-ok (Err f) sent was same is requests reports = tt
