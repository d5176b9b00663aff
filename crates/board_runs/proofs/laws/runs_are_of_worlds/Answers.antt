use Rattle.std.proofs.Common.{◌≡◌, ℕ, suc, List, [], ◌∷◌, length, sym, ap, subst, ◌∙◌, false}
use Rattle.hk_base.specs.Fit.{IsFit}
use Rattle.hk_base.specs.TailoringParts.{TailoringParts}
use Rattle.session_record.specs.Records.{header_of}
use Rattle.session_record.specs.declared.entry.Entry.{Entry}
use Rattle.board_runs.proofs.WorldLemmas.{HasSteps, run-steps, run-moments, part-steps, steps-world, own-world, tells-own}
use Rattle.board_runs.specs.Slots.{entries_of}
use Rattle.board_runs.proofs.laws.runs_are_of_worlds.Goals as goal

pub returns-clause-whole : goal.returns-clause-whole
returns-clause-whole c t s slots core fit script ran =
    own-world c.journals.ensures.stands c.told_worlds.ensures.entries t s (length slots) (entries_of t s slots) core fit
    (run-steps t s slots core fit (c.requests_are_spelled.ensures.only t) script.sendings ran)

pub returns-clause-part : goal.returns-clause-part
returns-clause-part c t s slots moments ahead core fit script began =
    let only = c.requests_are_spelled.ensures.only t in
    let before = run-steps t s slots began.0 fit only script.sendings began.1 in
    own-world c.journals.ensures.stands c.told_worlds.ensures.entries t s (suc (length slots)) (entries_of t s (moments ∷ slots)) core fit
    (part-steps t s slots moments began.0 core ahead fit only script.sendings before (run-moments t s slots began.0 began.1) began.2 began.3)

pub returns-clause-tells : goal.returns-clause-tells
returns-clause-tells c t s slots core fit script ran fits =
    tells-own c.journals.ensures.stands c.told_worlds.ensures.octets t s (length slots) (entries_of t s slots) core fit fits
    (run-steps t s slots core fit (c.requests_are_spelled.ensures.only t) script.sendings ran)

pub returns-clause-tells_part : goal.returns-clause-tells_part
returns-clause-tells_part c t s slots moments ahead core fit script began fits =
    let only = c.requests_are_spelled.ensures.only t in
    let before = run-steps t s slots began.0 fit only script.sendings began.1 in
    tells-own c.journals.ensures.stands c.told_worlds.ensures.octets t s (suc (length slots)) (entries_of t s (moments ∷ slots)) core fit fits
    (part-steps t s slots moments began.0 core ahead fit only script.sendings before (run-moments t s slots began.0 began.1) began.2 began.3)
