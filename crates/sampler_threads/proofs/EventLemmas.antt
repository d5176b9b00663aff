-- What an executor does, as the events of the slot alone.
use Rattle.std.proofs.Common.{◌≡◌, ℕ, ◌⊎◌, inl, inr, true, List, [], ◌∷◌, Option, Some, None, refl, sym, subst}
use Rattle.board_steps.specs.Cores.{Core}
use Rattle.board_steps.specs.SlotRuns.{Ahead, Follows, Comes, Leads}
use Rattle.board_steps.specs.declared.event.Sample.{Sample}
use Rattle.board_steps.specs.declared.event.Event.{Event}
use Rattle.board_steps.specs.declared.event.Event.TheVariants.{Uplink, Clock, Work, Filing, CloseSlot}
use Rattle.sampler_threads.specs.Deeds.{sample_of, FilesAny, Deed, takes, gives, Went}

-- an event that follows comes
comes : (a : Ahead) (core : Core) (event : Event) (next : Ahead) → a.is_open ≡ true → Follows a core event next → Comes a core event next
comes a core (Uplink packet) next is_open h = (is_open, h)
comes a core Work next is_open h = (is_open, h)
comes a core CloseSlot next is_open h = (is_open, h)
comes a core (Filing sample) next is_open h = absurd h
comes a core (Clock time) next is_open h = absurd h

-- an item that is taken is a filing, or nothing
taken : (a b : Ahead) (core mid after : Core) (s : Option Sample) → a.is_open ≡ true → FilesAny core s mid
    → (events : List Event) → Leads a mid events b after → (all : List Event) × Leads a core all b after
taken a b core mid after None is_open h events rest = (events, subst (λ k. Leads a k events b after) h rest)
taken a b core mid after (Some s) is_open (inl h) events rest = (Filing s ∷ events, (a, mid, (is_open, h.comes, refl), h, rest))
taken a b core mid after (Some s) is_open (inr h) events rest = (events, subst (λ k. Leads a k events b after) h.1 rest)

pub events_of : (a b : Ahead) (core after : Core) (ds : List Deed) → Went a core ds b after → (events : List Event) × Leads a core events b after
events_of a b core after [] h = ([], h)
events_of a b core after (takes x ∷ ds) h =
    let rest = events_of a b h.1.0 after ds h.1.2 in
    taken a b core h.1.0 after (sample_of x.1) h.0 h.1.1 rest.0 rest.1
events_of a b core after (gives e ∷ ds) h =
    let rest = events_of h.1.0 b h.1.1 after ds h.1.4 in
    (e ∷ rest.0, (h.1.0, h.1.1, comes a core e h.1.0 h.0 h.1.2, h.1.3, rest.1))
