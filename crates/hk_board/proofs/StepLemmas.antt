-- What the steps of a slot did.
use Rattle.std.proofs.Common.{◌≡◌, ℕ, List, [], ◌∷◌, ◌++◌, length, Result, Ok, Err, refl, sym, ap, subst, ◌∙◌, append_assoc}
use Rattle.std.specs.Prelude.{reverse, drop, IfOk, IfErr}
use Rattle.std.proofs.lemmas.List.{reverse-append, reverse-reverse, length-reverse}
use Rattle.std.proofs.Math.Seq.{drop-append_seam}
use Rattle.hk_world.specs.Timelines.{Session}
use Rattle.hk_world.specs.declared.moment.Moment.{Moment}
use Rattle.board_steps.specs.Cores.{Core, session}
use Rattle.board_steps.specs.Plans.{Plan, planned, prepared}
use Rattle.board_steps.specs.Steps.{AreNext}
use Rattle.board_steps.specs.SlotRuns.{Ahead, Leads, IsSlot, IsPart, IsStopped, at_start, at_end}
use Rattle.board_steps.specs.declared.event.Event.{Event}
use Rattle.board_steps.specs.declared.event.BoardFault.{BoardFault}
use Rattle.board_runs.specs.Runs.{HasDone}
use Rattle.hk_board.specs.Progress.{DoesPart}

grows : (s : Session) (clock slot : ℕ) (plans : List Plan) (earlier after : List Moment) → AreNext s clock slot earlier plans after → (new : List Moment) × (after ≡ new ++ earlier)
grows s clock slot [] earlier after is = ([], is)
grows s clock slot (plan ∷ plans) earlier after (m, next, rest) =
    let more = grows s clock slot plans (m ∷ earlier) after rest in
    (more.0 ++ m ∷ [], more.1 ∙ sym (append_assoc more.0 (m ∷ []) earlier))

leads_on : (ahead : Ahead) (before : Core) (events : List Event) (next : Ahead) (after : Core) → Leads ahead before events next after → (new : List Moment) × (after.moments ≡ new ++ before.moments)
leads_on ahead before [] next after (left, same) = ([], ap (λ (c : Core). c.moments) same)
leads_on ahead before (event ∷ events) next after (between, mid, comes, made, rest) =
    let first = grows (session (prepared before event)) (prepared before event).clock before.slot_now (planned before event) before.moments mid.moments made.step.moments in
    let second = leads_on between mid events next after rest in
    (second.0 ++ first.0, second.1 ∙ (ap (λ xs. second.0 ++ xs) first.1 ∙ sym (append_assoc second.0 first.0 before.moments)))

-- some first steps of a slot did some moments
pub does : (uplinks : List (List ℕ)) (before : Core) (ahead : Ahead) (after : Core) → IsPart uplinks before ahead after → (moments : List Moment) × DoesPart uplinks before moments ahead after
does uplinks before ahead after part =
    let more = leads_on (at_start uplinks) before part.0 ahead after part.1 in
    (reverse more.0, (part, more.1 ∙ ap (λ xs. xs ++ before.moments) (sym (reverse-reverse more.0))))

-- no step was made yet
pub does_none : (uplinks : List (List ℕ)) (core : Core) → DoesPart uplinks core [] (at_start uplinks) core
does_none uplinks core = (([], (refl, refl)), refl)

-- the moments that a journal has more
pub journal_from : (journal moments old : List Moment) → reverse journal ≡ reverse moments ++ old → drop (length old) journal ≡ moments
journal_from journal moments old is =
    let whole : journal ≡ reverse old ++ moments =
    sym (reverse-reverse journal) ∙ (ap reverse is ∙ (reverse-append (reverse moments) old ∙ ap (λ xs. reverse old ++ xs) (reverse-reverse moments))) in
    subst (λ n. drop n journal ≡ moments) (length-reverse old) (subst (λ xs. drop (length (reverse old)) xs ≡ moments) (sym whole) (drop-append_seam (reverse old) moments))

-- and it is those before with these behind them
pub journal_whole : (journal moments old : List Moment) → reverse journal ≡ reverse moments ++ old → journal ≡ reverse old ++ moments
journal_whole journal moments old is =
    sym (reverse-reverse journal) ∙ (ap reverse is ∙ (reverse-append (reverse moments) old ∙ ap (λ xs. reverse old ++ xs) (reverse-reverse moments)))

-- whether it was run to its end or up to a step, a slot did some moments
pub ran : (uplinks : List (List ℕ)) (before after : Core) (result : Result ℕ BoardFault) → IfOk result (λ count. IsSlot uplinks before after)
    → IfErr result (λ fault. (ahead : Ahead) × IsPart uplinks before ahead after × IsStopped ahead after fault)
    → (moments : List Moment) × (ahead : Ahead) × DoesPart uplinks before moments ahead after
ran uplinks before after (Ok count) whole part =
    let done = does uplinks before at_end after whole in (done.0, at_end, done.1)
ran uplinks before after (Err fault) whole (ahead, some, stopped) =
    let done = does uplinks before ahead after some in (done.0, ahead, done.1)

leads_tailoring : (ahead : Ahead) (before : Core) (events : List Event) (next : Ahead) (after : Core) → Leads ahead before events next after → after.tailoring ≡ before.tailoring
leads_tailoring ahead before [] next after (left, same) = ap (λ (c : Core). c.tailoring) same
leads_tailoring ahead before (event ∷ events) next after (between, mid, comes, made, rest) = leads_tailoring between mid events next after rest ∙ made.step.tailoring

-- a slot leaves the tailoring as it is
pub slot_tailoring : (uplinks : List (List ℕ)) (before after : Core) → IsSlot uplinks before after → after.tailoring ≡ before.tailoring
slot_tailoring uplinks before after whole = leads_tailoring (at_start uplinks) before whole.0 at_end after whole.1
