use Rattle.std.proofs.Common.{ℕ, List, [], ◌∷◌, ◌++◌, map, ap, ◌∙◌}
use Rattle.std.specs.Prelude.{codes}
use Rattle.std.specs.Fmt.{decimal}
use Rattle.std.specs.String.{string_bytes}
use Rattle.std.proofs.lemmas.Result.{on_ok_weaker}
use Rattle.message_words.specs.Tails.{tail}
use Rattle.message_words.proofs.TailLemmas.{joined}
use Rattle.message_words.proofs.requests.push_request20.Goals as goal

pub returns-in_ok-push_word-in-Report : goal.returns-in_ok-push_word-in-Report
returns-in_ok-push_word-in-Report c =
    let before : List ℕ = string_bytes c.args.line.now in
    let word : List ℕ = codes "report-values" in
    rw c.in-Report.is
    (on_ok_weaker c.push_numbers.result
    (λ e. joined before _ _ (word ∷ []) (map decimal c.as_slice.result.now) c.in_ok-push_word-in-Report.ensures e ∙ ap (λ ids. before ++ tail (word ∷ map decimal ids)) c.as_slice.ensures)
    c.push_numbers.ensures)
