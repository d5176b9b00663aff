use Rattle.std.proofs.Common.{List, take}
use Rattle.hk_base.specs.declared.types.Param.{Param}
use Rattle.hk_tailoring.specs.Ids.{AreSame, AreIdsOf}
use Rattle.hk_tailoring.proofs.DefinitionLemmas.{SameFault}
use Rattle.hk_tailoring.proofs.definitions.check_ids.Given as goal

abbrev pub invariant-loop-id : goal.invariant-loop-id
invariant-loop-id l = record {
  checks : (params : List Param) → AreIdsOf params l.known → SameFault params l.ids l.id-index;
  earlier : AreSame l.earlier (take l.id-index l.ids);
}
