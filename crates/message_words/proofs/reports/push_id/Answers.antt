use Rattle.std.proofs.Common.{[], ◌∷◌}
use Rattle.std.specs.Prelude.{codes}
use Rattle.std.proofs.lemmas.Result.{on_ok_weaker}
use Rattle.message_words.specs.Words.{hex}
use Rattle.message_words.proofs.TailLemmas.{joined}
use Rattle.message_words.proofs.reports.push_id.Goals as goal

pub returns : goal.returns
returns c = on_ok_weaker c.push_hex.result (λ e. joined _ _ _ (codes "request" ∷ []) (hex 8 c.args.id.word ∷ []) c.in_ok-push_word.ensures e) c.push_hex.ensures
