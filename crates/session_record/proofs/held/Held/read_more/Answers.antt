use Rattle.std.proofs.Common.{List, ℕ, drop, arith, subst, ◌∙◌}
use Rattle.session_record.specs.Reading.{Gains, ahead, KeepsAhead}
use Rattle.session_record.proofs.HeldLemmas.{keeps-append}
use Rattle.session_record.proofs.OnwardLemmas.{gains-append}
use Rattle.session_record.proofs.held.Held.read_more.Goals as goal

pub returns-clause-ahead : goal.returns-clause-ahead
returns-clause-ahead g c =
    let P : List ℕ → Type 0 = λ held. KeepsAhead (ahead held (g.F.Shelf.rest c.args.shelf.now)) (ahead (drop c.self.inside.given c.append_piece.new.octets.items) (g.F.Shelf.rest c.append_piece.new.shelf)) in
    subst P (c.self.view_is ∙ c.compact.ensures)
    (keeps-append c.self.inside.given c.self.inside.octets.items c.append_piece.new.octets.items c.append_piece.new.piece c.in_ok-count.count _ _ (omega arith) c.in_ok-count.ensures.more c.in_ok-count.ensures.moved)

pub returns-clause-gains : goal.returns-clause-gains
returns-clause-gains g c =
    let P : List ℕ → Type 0 = λ held. Gains held (g.F.Shelf.rest c.args.shelf.now) (drop c.self.inside.given c.append_piece.new.octets.items) (g.F.Shelf.rest c.append_piece.new.shelf) in
    subst P (c.self.view_is ∙ c.compact.ensures)
    (gains-append c.self.inside.given c.self.inside.octets.items c.append_piece.new.octets.items c.append_piece.new.piece c.in_ok-count.count _ _ (omega arith) c.in_ok-count.ensures.more c.in_ok-count.ensures.moved)
