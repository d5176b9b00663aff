use Rattle.std.proofs.Common.{List, [], subst}
use Rattle.std.proofs.lemmas.Result.{IfOk-weaker}
use Rattle.hk_base.specs.declared.types.Boot.{Boot}
use Rattle.board_state.specs.Holdings.{AreBoots}
use Rattle.board_state.proofs.BootLemmas.{boots-held}
use Rattle.board_state.proofs.structures.Structures.new.Goals as goal

pub returns-clause-held : goal.returns-clause-held
returns-clause-held c =
    IfOk-weaker c.of_boots.result _ _
    (λ held h. boots-held c.args.tailoring.now held c.boots.ensures.fit (subst (λ (bs : List Boot). AreBoots bs held) c.boots.ensures.boots h)) c.of_boots.ensures
