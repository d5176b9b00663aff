use Rattle.std.proofs.Common.{◌≡◌, List, ℕ, sym, subst, ◌∙◌, None}
use Rattle.board_steps.specs.Plans.{handled_as}
use Rattle.board_core.proofs.HandledLemmas.{none-handled}
use Rattle.board_core.proofs.board.BoardCore.uplink.Goals as goal

pub returns-in-None : goal.returns-in-None
returns-in-None c =
    let e = sym c.handled_as.ensures.number ∙ c.in-None.is in
    none-handled c.args.self.now c.args.octets (subst (λ (xs : List ℕ). handled_as c.args.self.now xs ≡ None) c.as_slice.ensures e) c.handled_as.ensures.room
