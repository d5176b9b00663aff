use Rattle.std.proofs.Common.{arith, ◌≡◌, ◌+◌, ◌≤◌, ◌++◌, Ok, Err, drop, map, subst, sym, ap, ◌∙◌}
use Rattle.std.proofs.lemmas.Result.{err_from_is_err_and}
use Rattle.simulated_link.specs.Links.{arrivals}
use Rattle.simulated_link.specs.Holding.{IsHeld}
use Rattle.simulated_link.specs.declared.settings.Settings.{Settings}
use Rattle.simulated_link.specs.declared.settings.Direction.TheVariants.{Request, Report}
use Rattle.run_records.specs.Putting.{HasPut, HasFailed, as_seen}
use Rattle.run_records.proofs.PuttingLemmas.{puts-then}
use Rattle.run_slots.specs.Arrivals.{got_entries, requested}
use Rattle.run_slots.specs.Fronts.{front, numbers, sent_entries}
use Rattle.run_slots.specs.Opening.{Answers}
use Rattle.run_slots.proofs.OpeningLemmas.{report-apart, request-apart, put-and-stopped}
use Rattle.run_slots.proofs.opening.open_lines.Goals as goal

pub returns-in_err-last-clause-text : goal.returns-in_err-last-clause-text
returns-in_err-last-clause-text g c = λ given held.
    let was = as_seen g.K.Sink c.args.sink.now in
    let mid = as_seen g.K.Sink c.deliver.new.sink in
    let after = as_seen g.K.Sink c.send_slot.new.sink in
    let sent = sent_entries (front c.args.slot (drop c.args.next c.args.sendings.now)) in
    let within : c.args.slot ≤ c.from.result = omega (arith, c.from.ensures) in
    let got : c.deref.result.now ≡ arrivals c.args.link.now.settings Report c.args.slot given =
    c.deref.ensures.value ∙ (c.take-arrived.ensures.arrived c.args.slot given within held ∙ ap (λ n. arrivals c.args.link.now.settings Report n given) c.from.ensures) in
    let fault = c.in_err-last.field-0.0 in
    let p = err_from_is_err_and c.from_residual-in_err-last.result c.from_residual-in_err-last.ensures.1 in
    let whole : HasFailed (got_entries c.args.journal.now c.deref.result.now ++ sent) fault was after =
    puts-then (got_entries c.args.journal.now c.deref.result.now) sent (Err fault) was mid after c.in_ok-deliver.ensures c.in_err-last.ensures.sends in
    let text = got_entries c.args.journal.now (arrivals c.args.link.now.settings Report c.args.slot given) ++ sent in
    let there : HasFailed text fault was after = subst (λ ns. HasFailed (got_entries c.args.journal.now ns ++ sent) fault was after) got whole in
    subst (λ result. Answers text result was after) (sym p.1) (subst (λ f. HasFailed text f was after) (sym p.2) there)

pub returns-in-Ok-clause-text : goal.returns-in-Ok-clause-text
returns-in-Ok-clause-text g c = λ given held.
    let was = as_seen g.K.Sink c.args.sink.now in
    let mid = as_seen g.K.Sink c.deliver.new.sink in
    let after = as_seen g.K.Sink c.send_slot.new.sink in
    let sent = sent_entries (front c.args.slot (drop c.args.next c.args.sendings.now)) in
    let within : c.args.slot ≤ c.from.result = omega (arith, c.from.ensures) in
    let got : c.deref.result.now ≡ arrivals c.args.link.now.settings Report c.args.slot given =
    c.deref.ensures.value ∙ (c.take-arrived.ensures.arrived c.args.slot given within held ∙ ap (λ n. arrivals c.args.link.now.settings Report n given) c.from.ensures) in
    subst (λ ns. HasPut (got_entries c.args.journal.now ns ++ sent) was after) got
    (puts-then (got_entries c.args.journal.now c.deref.result.now) sent (Ok tt) was mid after c.in_ok-deliver.ensures c.in_ok-last.ensures.sends.2)

pub returns-clause-text : goal.returns-clause-text
returns-clause-text g c = λ given held.
    let was = as_seen g.K.Sink c.args.sink.now in
    let mid = as_seen g.K.Sink c.deliver.new.sink in
    let after = as_seen g.K.Sink c.send_slot.new.sink in
    let sent = sent_entries (front c.args.slot (drop c.args.next c.args.sendings.now)) in
    let within : c.args.slot ≤ c.from.result = omega (arith, c.from.ensures) in
    let got : c.deref.result.now ≡ arrivals c.args.link.now.settings Report c.args.slot given =
    c.deref.ensures.value ∙ (c.take-arrived.ensures.arrived c.args.slot given within held ∙ ap (λ n. arrivals c.args.link.now.settings Report n given) c.from.ensures) in
    put-and-stopped (got_entries c.args.journal.now (arrivals c.args.link.now.settings Report c.args.slot given) ++ sent) was after
    (subst (λ ns. HasPut (got_entries c.args.journal.now ns ++ sent) was after) got
    (puts-then (got_entries c.args.journal.now c.deref.result.now) sent (Ok tt) was mid after c.in_ok-deliver.ensures c.in_ok-last.ensures.sends.2))

pub returns-in-Ok-clause-reports : goal.returns-in-Ok-clause-reports
returns-in-Ok-clause-reports g c = λ given held.
    let more = numbers c.args.slot c.args.next (front c.args.slot (drop c.args.next c.args.sendings.now)) in
    let within : c.args.slot ≤ c.from.result = omega (arith, c.from.ensures) in
    let taken = c.take-arrived.ensures.later c.args.slot given within held in
    let sent = c.in_ok-last.ensures.sends.1 Report (c.from.result + 1) given taken in
    let left = c.take-due.ensures.others Report (c.from.result + 1) (given ++ more) report-apart sent in
    subst (λ n. IsHeld Report (n + 1) (given ++ more) c.take-due.new.self) c.from.ensures left

pub returns-in-Ok-clause-requests : goal.returns-in-Ok-clause-requests
returns-in-Ok-clause-requests g c = λ given held.
    let more = numbers c.args.slot c.args.next (front c.args.slot (drop c.args.next c.args.sendings.now)) in
    let kept = c.take-arrived.ensures.others Request c.args.slot given request-apart held in
    let sent = c.in_ok-last.ensures.sends.1 Request c.args.slot given kept in
    let within : c.args.slot ≤ c.from-2.result = omega (arith, c.from-2.ensures) in
    let left = c.take-due.ensures.later c.args.slot (given ++ more) within sent in
    subst (λ n. IsHeld Request (n + 1) (given ++ more) c.take-due.new.self) c.from-2.ensures left

pub returns-in-Ok-clause-uplinks : goal.returns-in-Ok-clause-uplinks
returns-in-Ok-clause-uplinks g c = λ given held.
    let more = numbers c.args.slot c.args.next (front c.args.slot (drop c.args.next c.args.sendings.now)) in
    let kept = c.take-arrived.ensures.others Request c.args.slot given request-apart held in
    let sent = c.in_ok-last.ensures.sends.1 Request c.args.slot given kept in
    let within : c.args.slot ≤ c.from-2.result = omega (arith, c.from-2.ensures) in
    let same : c.send_slot.new.link.settings ≡ c.args.link.now.settings = c.in_ok-last.ensures.settings ∙ c.take-arrived.ensures.settings in
    let due : c.deref-2.result.now ≡ arrivals c.args.link.now.settings Request c.args.slot (given ++ more) =
    c.deref-2.ensures.value
    ∙ (c.take-due.ensures.arrived c.args.slot (given ++ more) within sent
    ∙ (ap (λ n. arrivals c.send_slot.new.link.settings Request n (given ++ more)) c.from-2.ensures
    ∙ ap (λ (s : Settings). arrivals s Request c.args.slot (given ++ more)) same)) in
    c.in-Ok.ensures.packets ∙ ap (map (requested c.args.sendings.now)) due
