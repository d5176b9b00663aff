use Rattle.std.proofs.Common.{List, sym, subst}
use Rattle.std.specs.List.{AllByRecursion}
use Rattle.st20_grammar.specs.Spelling.{IsSetting}
use Rattle.st20_grammar.specs.declared.bodies.Setting.{Setting}
use Rattle.st20_grammar.proofs.SpellingLemmas.{pairs_fit}
use Rattle.st20_grammar.proofs.writing.encode_report.Goals as goal

pub write_list-requires-clause-members : goal.write_list-requires-clause-members
write_list-requires-clause-members c =
    let t = c.args.tailoring.now in
    subst (λ (xs : List Setting). AllByRecursion (IsSetting t) xs) (sym c.as_slice.ensures) (pairs_fit t c.args.report.now.pairs c.requires)
