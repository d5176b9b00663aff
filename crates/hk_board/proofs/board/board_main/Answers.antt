use Rattle.std.proofs.Common.{◌≡◌, Option, Some, sym, ap, subst, ◌∙◌}
use Rattle.std.specs.Option.{option_map}
use Rattle.hk_board.specs.Words.{Command, asked}
use Rattle.hk_board.specs.Inputs.{TellsOf, HasReadAllOf, runs}
use Rattle.hk_board.proofs.OuterLemmas.{if_done}
use Rattle.hk_board.proofs.board.board_main.Goals as goal

pub returns-in-Some-clause-end : goal.returns-in-Some-clause-end
returns-in-Some-clause-end g c = λ is.
    subst (λ (o : Option Command). HasReadAllOf (g.F.Shelf.files c.args.shelf.now) o (g.F.Shelf.rest c.run.new.shelf)) (sym (ap (option_map asked) c.in-Some.is) ∙ c.command_in.ensures)
    (if_done c.run.result _ c.run.ensures.done c.run.ensures.end (sym c.done.ensures ∙ is))

pub returns-in-Some-clause-bounded : goal.returns-in-Some-clause-bounded
returns-in-Some-clause-bounded g c = λ t s told room fault is.
    c.run.ensures.run.bounded t s
    (subst (λ (o : Option Command). TellsOf (g.F.Shelf.files c.args.shelf.now) o (runs t s)) (sym (sym (ap (option_map asked) c.in-Some.is) ∙ c.command_in.ensures)) told) room fault (sym c.done.ensures ∙ is)

pub returns-in-Some-clause-sound : goal.returns-in-Some-clause-sound
returns-in-Some-clause-sound g c = λ safe outcome told.
    c.run.ensures.run.sound safe outcome
    (subst (λ (o : Option Command). TellsOf (g.F.Shelf.files c.args.shelf.now) o outcome) (sym (sym (ap (option_map asked) c.in-Some.is) ∙ c.command_in.ensures)) told)
