-- The end of a slot, put together.
use Rattle.std.proofs.Common.{◌≡◌, ℕ, List, [], ◌∷◌, ◌++◌, refl, sym, ◌∙◌, subst, true}
use Rattle.std.proofs.lemmas.List.{append-nil}
use Rattle.board_steps.specs.Cores.{Core}
use Rattle.board_steps.specs.Runs.{IsMade}
use Rattle.board_steps.specs.SlotRuns.{Ahead, IsStopped, Refuses, at_end}
use Rattle.board_steps.specs.declared.event.Event.TheVariants.{CloseSlot}
use Rattle.board_steps.specs.declared.event.BoardFault.{BoardFault}
use Rattle.sampler_threads.specs.Deeds.{Deed, gives, takings, Went}
use Rattle.sampler_threads.specs.Rings.{Received}
use Rattle.sampler_threads.specs.Slots.{Ring, IsReadyToClose}
use Rattle.sampler_threads.proofs.RunLemmas.{went_append, takings_append}

-- the end of a slot comes last
pub closed : (a ahead : Ahead) (core mid after : Core) (ds : List Deed) → Went a core ds ahead mid → IsReadyToClose ahead mid → IsMade mid CloseSlot after
    → Went a core (ds ++ gives CloseSlot ∷ []) at_end after
closed a ahead core mid after ds went ready made =
    went_append a ahead at_end core mid after ds (gives CloseSlot ∷ []) went
    (ready.0, (at_end, after, (ready.1, ready.2, refl), made, (refl, refl)))

pub closed_received : (rings after : List Ring) (ds : List Deed) → Received rings (takings ds) after → Received rings (takings (ds ++ gives CloseSlot ∷ [])) after
closed_received rings after ds h = subst (λ ts. Received rings ts after) (sym (takings_append ds (gives CloseSlot ∷ []) ∙ append-nil (takings ds))) h

-- the end of a slot that is refused
pub close_stops : (ahead : Ahead) (core : Core) (fault : BoardFault) → IsReadyToClose ahead core → Refuses core CloseSlot fault → IsStopped ahead core fault
close_stops ahead core fault ready refused = λ other. (CloseSlot, at_end, (ready.0, (ready.1, ready.2, refl)), tt, refused)
