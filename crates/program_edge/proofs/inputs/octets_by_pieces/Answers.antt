use Rattle.std.proofs.Common.{◌+◌, length, arith, ◌∙◌}
use Rattle.program_edge.proofs.InputLemmas.{held_taken, more_taken, read_out, still_told, whole_at_end, too_long}
use Rattle.program_edge.proofs.inputs.octets_by_pieces.Goals as goal

pub returns-in_err-append_piece-clause-sound : goal.returns-in_err-append_piece-clause-sound
returns-in_err-append_piece-clause-sound g c = λ sound some.
    c.append_piece.ensures.sound (c.loop-octets.invariant.sound sound)
    (still_told (g.F.Shelf.rest c.args.shelf.now) (g.F.Shelf.rest c.loop-octets.shelf) c.loop-octets.octets.items c.loop-octets.invariant.ahead some)
    ∙ c.loop-octets.invariant.faults

pub returns-in_err-append_piece-clause-stays_sound : goal.returns-in_err-append_piece-clause-stays_sound
returns-in_err-append_piece-clause-stays_sound g c = λ sound. c.append_piece.ensures.stays_sound (c.loop-octets.invariant.sound sound)

pub returns-then-branch-eq0-clause-whole : goal.returns-then-branch-eq0-clause-whole
returns-then-branch-eq0-clause-whole g c =
    whole_at_end c.args.most _ _ (g.F.Shelf.rest c.args.shelf.now) (g.F.Shelf.rest c.loop-octets.shelf) (g.F.Shelf.rest c.append_piece.new.shelf)
    c.loop-octets.octets.items c.append_piece.new.octets.items c.loop-octets.invariant.ahead c.in_ok-append_piece.ensures.ahead c.in_ok-append_piece.ensures.end
    (omega (arith, c.if-branch-eq0.true)) c.in_ok-append_piece.ensures.more (omega (arith, c.loop-octets-test.true, c.len.ensures)) c.from_vec.ensures

pub returns-then-branch-eq0-clause-stays_sound : goal.returns-then-branch-eq0-clause-stays_sound
returns-then-branch-eq0-clause-stays_sound g c = λ sound. c.append_piece.ensures.stays_sound (c.loop-octets.invariant.sound sound)

pub returns-clause-whole : goal.returns-clause-whole
returns-clause-whole g c =
    too_long c.args.most (g.F.Shelf.rest c.args.shelf.now) (g.F.Shelf.rest c.loop-octets.shelf) c.loop-octets.octets.items c.loop-octets.invariant.ahead
    (omega (arith, c.loop-octets-test.false, c.len.ensures))

pub returns-in_err-append_piece-clause-bounded : goal.returns-in_err-append_piece-clause-bounded
returns-in_err-append_piece-clause-bounded g c =
    more_taken (c.args.most + length c.args.piece.now) (length c.loop-octets.piece) (g.F.Shelf.rest c.args.shelf.now) (g.F.Shelf.rest c.loop-octets.shelf) (g.F.Shelf.rest c.append_piece.new.shelf)
    c.loop-octets.octets.items c.loop-octets.invariant.ahead c.append_piece.ensures.bounded (omega (arith, c.loop-octets-test.true, c.len.ensures, c.loop-octets.invariant.size))
