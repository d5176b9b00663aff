use Rattle.std.proofs.Common.{ℕ, List, [], ◌∷◌, ◌++◌, flat_map, rules}
use Rattle.std.specs.Prelude.{codes}
use Rattle.std.specs.String.{string_bytes}
use Rattle.std.specs.Fmt.{decimal}
use Rattle.std.proofs.lemmas.Result.{on_ok_weaker}
use Rattle.message_words.specs.Words.{id_words, refused_words}
use Rattle.message_words.proofs.TailLemmas.{joined}
use Rattle.message_words.proofs.reports.push_verification.Goals as goal

pub returns-in-Refused : goal.returns-in-Refused
returns-in-Refused c = rw c.in-Refused.is c.push_refusal.ensures

pub returns-in-Started : goal.returns-in-Started
returns-in-Started c = rw c.in-Started.is c.push_id-in-Started.ensures

pub returns-in-NotStarted : goal.returns-in-NotStarted
returns-in-NotStarted c = rw c.in-NotStarted.is c.push_refusal-in-NotStarted.ensures

pub returns-in-Step : goal.returns-in-Step
returns-in-Step c = rw c.in-Step.is c.push_step.ensures

pub returns-in-Completed : goal.returns-in-Completed
returns-in-Completed c = rw c.in-Completed.is c.push_id-in-Completed.ensures

pub returns-in-NotRouted : goal.returns-in-NotRouted
returns-in-NotRouted c = rw c.in-NotRouted.is c.push_refusal-in-NotRouted.ensures

pub returns-in_ok-push_named-in-Incomplete : goal.returns-in_ok-push_named-in-Incomplete
returns-in_ok-push_named-in-Incomplete c =
    let before : List ℕ = string_bytes c.args.line.now in
    let then : List ℕ = string_bytes c.push_id-in-Incomplete.new.line in
    let next : List ℕ = string_bytes c.push_named.new.line in
    let after : List ℕ = string_bytes c.push_refused.new.line in
    let id : List (List ℕ) = id_words c.in-Incomplete.id in
    let code : List (List ℕ) = codes "code" ∷ decimal c.in-Incomplete.code ∷ [] in
    let steps : List (List ℕ) = flat_map refused_words c.in-Incomplete.steps in
    rw c.in-Incomplete.is
    (on_ok_weaker c.push_refused.result
    (λ e. joined before then after id (code ++ steps) c.in_ok-push_id-in-Incomplete.ensures (joined then next after code steps (search rules) (search rules)))
    c.push_refused.ensures)
