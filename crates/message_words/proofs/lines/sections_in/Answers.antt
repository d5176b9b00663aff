use Rattle.std.proofs.Common.{rules}
use Rattle.std.specs.Str.{bytes_eq}
use Rattle.std.proofs.lemmas.Result.{IfOk-weaker}
use Rattle.std.proofs.lemmas.Iterator.Consumers.{map_from_collect}
use Rattle.std.proofs.lemmas.Iterator.Splits.{YieldsList-from_slice_split}
use Rattle.message_words.proofs.SplitLemmas.{split-viewed}
use Rattle.message_words.proofs.lines.sections_in.Goals as goal

pub returns : goal.returns
returns c =
    IfOk-weaker c.collect.result _ _ (λ parts e. split-viewed (λ word. word.now) (λ part. part.now) (λ word. bytes_eq word c.args.mark.now) parts.items c.args.words.now e)
    (map_from_collect _ c.collect.ensures.ran
    (YieldsList-from_slice_split _ (λ word. bytes_eq word.now c.args.mark.now) c.args.words.now c.split.ensures.rest c.split.ensures.done c.split.ensures.closure (λ x b q k. search rules)))
