use Rattle.std.proofs.Common.{◌≡◌, ℕ, List, Bor, map, rules, sym, ◌∙◌}
use Rattle.std.specs.Prelude.{IfOk}
use Rattle.std.proofs.lemmas.Result.{IfOk-weaker}
use mathlib.Core.List.{map-map}
use Rattle.message_words.specs.Numbers.{number_in}
use Rattle.journal_texts.proofs.acts.numbers_in.Goals as goal

pub returns : goal.returns
returns c =
    let each : IfOk c.collect.result (λ numbers. numbers.items ≡ map (λ (word : Bor (List ℕ)). number_in word.now) c.args.words.now) = search rules in
    IfOk-weaker c.collect.result _ _ (λ numbers e. e ∙ sym (map-map number_in (λ (word : Bor (List ℕ)). word.now) c.args.words.now)) each
