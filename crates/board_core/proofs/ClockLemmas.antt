-- What is answered where the clock is set.
use Rattle.std.proofs.Common.{arith, ◌≡◌, ℕ, ◌+◌, ◌≤◌, max, refl, List, length, false, Ok}
use Rattle.std.specs.Prelude.{nat_lt}
use Rattle.std.proofs.lemmas.Bool.Decides.{nat_tests}
use Rattle.hk_base.specs.declared.types.Key.{Key}
use Rattle.board_core.specs.Logs.{LogParts}
use Rattle.board_steps.specs.Steps.{Answers}
use Rattle.board_core.specs.Boards.{core_of, IsBoard}
use Rattle.board_state.specs.Waiting.{RequestsHeld}
use Rattle.board_steps.specs.declared.event.Event.TheVariants.{Clock}
use Rattle.board_state.specs.declared.structures.Held.{Held}

module _ (clock slot tag : ℕ) (rq : RequestsHeld) (held : List (Key × Held)) (l : LogParts) (b : IsBoard (core_of clock slot rq held l) rq.waiting) where
  not-full : (n : ℕ) → n ≤ 1048576 → nat_lt 1048576 (n + 0) ≡ false
  not-full n le = grind (arith, nat_tests)

  pub clock-set : Answers (core_of clock slot rq held l) (Clock tag) (core_of (max clock tag) slot rq held l) (Ok 0)
  clock-set = (
    not-full (length l.moments) b.room,
    refl,
    refl,
    record { tailoring = refl; clock = refl; requests = refl; slot_now = refl; one_shots = λ key. refl; moments = refl },
  )

  pub clock-board : IsBoard (core_of (max clock tag) slot rq held l) rq.waiting
  clock-board =
      record {
        stands = record { good = record { timeline = b.stands.good.timeline; below = b.stands.good.below; filed = b.stands.good.filed }; octets = b.stands.octets; packets = b.stands.packets; few = b.stands.few; room = b.stands.room; early = b.stands.early };
        waits = record { each = b.waits.each; order = b.waits.order; all = b.waits.all };
        room = b.room;
      }
