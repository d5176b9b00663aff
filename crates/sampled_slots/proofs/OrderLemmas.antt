-- Orders, ends and sensors from slot to slot.
use Rattle.std.proofs.Common.{arith, map, ◌≡◌, ◌≢◌, ℕ, ◌+◌, ◌<◌, refl, sym, ap, subst, ◌∙◌, List, [], ◌∷◌, ◌++◌, length, reverse, true, Option, Some, None, ap₂, suc}
use Rattle.std.specs.Prelude.{is_some, IsSome, slice_index_or}
use Rattle.std.specs.List.{AllByRecursion}
use Rattle.std.proofs.lemmas.Bool.{false≢true}
use Rattle.std.proofs.lemmas.List.{length-map, get_or-map, append_cancel_right, reverse-reverse}
use Rattle.hk_base.specs.Fit.{IsFit}
use Rattle.hk_base.specs.Outside.{GivesAlike, StaysSure}
use Rattle.hk_base.specs.Parameters.{parameter}
use Rattle.hk_base.specs.TailoringParts.{TailoringParts}
use Rattle.hk_base.specs.declared.outside.Sensor.{Ghosts}
use Rattle.hk_base.specs.declared.types.Param.{Param}
use Rattle.hk_world.specs.declared.moment.Moment.{Moment}
use Rattle.board_steps.specs.Cores.{Core}
use Rattle.sampler_threads.specs.Orders.{orders_for, dealt, sensed}
use Rattle.sampler_threads.specs.Samples.{places_of, sent_by}
use Rattle.sampler_threads.specs.Samplings.{AreFresh, AreDistinctOrders, Filed, FiledPart, HavePlaces, IsDue, NoneFiled, is_sensed}
use Rattle.sampler_threads.specs.Slots.{AreSampled, CanOrderAll, FreshEnd, IsEndOf, IsSamplerOf, Ring, SettledSampler, WithEach, ends_of}
use Rattle.sampler_threads.specs.declared.item.Order.{Order}
use Rattle.sampler_threads.specs.declared.end.SamplerEnd.{SamplerEnd}
use Rattle.sampler_threads.specs.declared.slot.Sampler.{Sampler}
use Rattle.sampled_slots.specs.Seats.{sensors_of, AreFiled, AreFiledInPart, AreTakenOut, HaveOrders, HaveStayed}
use Rattle.sampled_slots.proofs.SeatLemmas.{member}

-- orders are due where no sensed parameter is filed
abbrev pub AreDueWhereUnfiled : Type 0
AreDueWhereUnfiled =
    (core : Core) (count k : ℕ) → IsFit core.tailoring → NoneFiled core → AllByRecursion (IsDue core) (orders_for core.tailoring count k core.slot_now)

-- no parameter stands in two orders of a sampler
abbrev pub AreDistinctEach : Type 0
AreDistinctEach = (t : TailoringParts) (count k slot : ℕ) → IsFit t → AreDistinctOrders (orders_for t count k slot)

-- nor in orders of two samplers
abbrev pub AreApartEach : Type 0
AreApartEach =
    (t : TailoringParts) (count j k slot : ℕ) → IsFit t → j ≢ k
    → AllByRecursion (λ order. AllByRecursion (λ other. other.param ≢ order.param) (orders_for t count k slot)) (orders_for t count j slot)

pub all-fresh : {S : Type 0} → AreDueWhereUnfiled → AreDistinctEach → AreApartEach → (core : Core) (count : ℕ) (rings : List Ring) (samplers : List (Sampler S))
    → IsFit core.tailoring → NoneFiled core → HaveOrders core.tailoring count core.slot_now samplers → AreTakenOut rings (ends_of samplers) → AreFresh core rings samplers
all-fresh {S} due distinct apart core count rings samplers fit none orders empty =
    record {
      due = λ k s below. subst (λ os. AllByRecursion (IsDue core) os) (sym (orders k s below)) (due core count k fit none);
      distinct = λ k s below. subst (λ os. AreDistinctOrders os) (sym (orders k s below)) (distinct core.tailoring count k core.slot_now fit);
      apart = λ j k s bj bk ne.
          subst (λ os. AllByRecursion (λ order. AllByRecursion (λ other. other.param ≢ order.param) (slice_index_or samplers k s).orders) os) (sym (orders j s bj))
          (subst (λ os. AllByRecursion (λ order. AllByRecursion (λ other. other.param ≢ order.param) os) (orders_for core.tailoring count j core.slot_now)) (sym (orders k s bk))
          (apart core.tailoring count j k core.slot_now fit ne));
      empty = λ k r s below.
          let end : Sampler S → SamplerEnd = λ (x : Sampler S). x.end in
          let within : k < length (ends_of samplers) = omega (arith, below, length-map samplers end) in
          empty k r s.end within ∙ ap sent_by (get_or-map end samplers k s s.end below);
    }

sensed-some : (o : Option Param) → is_sensed o ≡ true → is_some o ≡ true
sensed-some None e = absurd (false≢true e)
sensed-some (Some p) e = refl

all-known : (core : Core) (os : List Order) → AllByRecursion (IsDue core) os → AllByRecursion (λ (o : Order). IsSome (parameter core.tailoring o.param)) os
all-known core [] h = tt
all-known core (o ∷ os) h = (sensed-some (parameter core.tailoring o.param) h.0.1, all-known core os h.1)

-- a core of a tailoring in a slot
abbrev core_at : TailoringParts → ℕ → Core
core_at t slot = record { tailoring = t; clock = 0; slot_now = slot; one_shots = []; requests = []; moments = [] }

orders-length : (t : TailoringParts) (count k slot : ℕ) → length (orders_for t count k slot) ≡ length (orders_for t count k 0)
orders-length t count k slot =
    let ps = dealt count k 0 (sensed t.params) in
    length-map ps (λ (p : Param). record { param = p.id; slot = slot }) ∙ sym (length-map ps (λ (p : Param). record { param = p.id; slot = 0 }))

-- the samplers can take their orders for a slot
pub all-can : {S : Type 0} → AreDueWhereUnfiled → (t : TailoringParts) (count slot : ℕ) (samplers : List (Sampler S)) → IsFit t → HaveOrders t count slot samplers
    → HavePlaces t count (ends_of samplers) → CanOrderAll t samplers
all-can {S} due t count slot samplers fit orders places k s below =
    let within : k < length (ends_of samplers) = omega (arith, below, length-map samplers (λ (x : Sampler S). x.end)) in
    let known = all-known (core_at t slot) (orders_for t count k slot) (due (core_at t slot) count k fit (λ param e. refl)) in
    let here : places_of (slice_index_or samplers k s).end ≡ length (orders_for t count k 0) + 1 =
    ap places_of (sym (get_or-map (λ (x : Sampler S). x.end) samplers k s s.end below)) ∙ places k s.end within in
    let long = ap length (orders k s below) ∙ orders-length t count k slot in (
      subst (λ os. AllByRecursion (λ (o : Order). IsSome (parameter t o.param)) os) (sym (orders k s below)) known,
      omega (arith, here, long),
    )

-- all is as it was at first
pub stayed-first : {S : Type 0} (g : Ghosts S) (sensors : List S) → HaveStayed g sensors sensors
stayed-first g sensors =
    record {
      count = refl;
      gives = λ k x below param slot value. (λ h. h, λ h. h);
      stays_sure = λ k x below param slot h. h;
    }

alike-more : {S : Type 0} (g : Ghosts S) (a b c : S) → GivesAlike (g.gives a) (g.gives b) → GivesAlike (g.gives b) (g.gives c) → GivesAlike (g.gives a) (g.gives c)
alike-more g a b c h k param slot value = (λ x. (k param slot value).0 ((h param slot value).0 x), λ x. (h param slot value).1 ((k param slot value).1 x))

sure-more : {S : Type 0} (g : Ghosts S) (a b c : S) → StaysSure (g.is_sure a) (g.is_sure b) → StaysSure (g.is_sure b) (g.is_sure c) → StaysSure (g.is_sure a) (g.is_sure c)
sure-more g a b c h k param slot x = k param slot (h param slot x)

module _ {S : Type 0} (g : Ghosts S) where
  -- sensors after a slot are as they were
  pub stayed-more : (t : TailoringParts) (was : List S) (samplers after : List (Sampler S)) → HaveStayed g was (sensors_of samplers) → AreSampled g t samplers after
      → HaveStayed g was (sensors_of after)
  stayed-more t was samplers after stayed sampled =
      let sensor : Sampler S → S = λ (x : Sampler S). x.sensor in
      let many : length samplers ≡ length was = sym (length-map samplers sensor) ∙ stayed.count in
      record {
        count = length-map after sensor ∙ (sampled.count ∙ many);
        gives = λ k x low.
            let below : k < length samplers = omega (arith, low, many) in
            let beyond : k < length after = omega (arith, below, sampled.count) in
            let s = member samplers k below in
            subst (λ z. GivesAlike (g.gives (slice_index_or was k x)) (g.gives z)) (sym (get_or-map sensor after k s x beyond))
            (alike-more g (slice_index_or was k x) (slice_index_or samplers k s).sensor (slice_index_or after k s).sensor
            (subst (λ z. GivesAlike (g.gives (slice_index_or was k x)) (g.gives z)) (get_or-map sensor samplers k s x below) (stayed.gives k x low))
            (sampled.each k s below).gives);
        stays_sure = λ k x low.
            let below : k < length samplers = omega (arith, low, many) in
            let beyond : k < length after = omega (arith, below, sampled.count) in
            let s = member samplers k below in
            subst (λ z. StaysSure (g.is_sure (slice_index_or was k x)) (g.is_sure z)) (sym (get_or-map sensor after k s x beyond))
            (sure-more g (slice_index_or was k x) (slice_index_or samplers k s).sensor (slice_index_or after k s).sensor
            (subst (λ z. StaysSure (g.is_sure (slice_index_or was k x)) (g.is_sure z)) (get_or-map sensor samplers k s x below) (stayed.stays_sure k x low))
            (sampled.each k s below).stays_sure);
      }

  -- rings have the places that they had
  pub places-more : (t u : TailoringParts) (count : ℕ) (samplers after : List (Sampler S)) → HavePlaces t count (ends_of samplers) → AreSampled g u samplers after
      → HavePlaces t count (ends_of after)
  places-more t u count samplers after places sampled k e low =
      let end : Sampler S → SamplerEnd = λ (x : Sampler S). x.end in
      let beyond : k < length after = omega (arith, low, length-map after end) in
      let below : k < length samplers = omega (arith, beyond, sampled.count) in
      let within : k < length (ends_of samplers) = omega (arith, below, length-map samplers end) in
      let s = member samplers k below in
      let same : places_of (slice_index_or after k s).end ≡ places_of (slice_index_or samplers k s).end = (sampled.each k s below).same.1 in
      ap places_of (get_or-map end after k s e beyond)
      ∙ (same
      ∙ (ap places_of (sym (get_or-map end samplers k s e below)) ∙ places k e within))

-- what was done is done once
same-moments : (ms ns earlier all : List Moment) → all ≡ reverse ms ++ earlier → all ≡ reverse ns ++ earlier → ms ≡ ns
same-moments ms ns earlier all a b =
    let e = append_cancel_right (reverse ms) (reverse ns) earlier (sym a ∙ b) in
    sym (reverse-reverse ms) ∙ (ap reverse e ∙ reverse-reverse ns)

module _ {S : Type 0} (g : Ghosts S) (t : TailoringParts) (before after : Core) (ms : List Moment) (samplers : List (Sampler S)) (done : after.moments ≡ reverse ms ++ before.moments) where
  pub all-filed : (later : List (Sampler S))
      → ((k : ℕ) (s : Sampler S) → k < length samplers
      → (ns : List Moment) × (after.moments ≡ reverse ns ++ before.moments) × Filed g t ns (slice_index_or samplers k s) (slice_index_or later k s))
      → AreFiled g t ms samplers later
  all-filed later h k s below =
      let r = h k s below in
      subst (λ ns. Filed g t ns (slice_index_or samplers k s) (slice_index_or later k s)) (same-moments r.0 ms before.moments after.moments r.1 done) r.2

  pub all-filed-part : ((k : ℕ) (s : Sampler S) → k < length samplers
      → (ns : List Moment) × (after.moments ≡ reverse ns ++ before.moments) × FiledPart g t ns (slice_index_or samplers k s))
      → AreFiledInPart g t ms samplers
  all-filed-part h k s below =
      let r = h k s below in
      subst (λ ns. FiledPart g t ns (slice_index_or samplers k s)) (same-moments r.0 ms before.moments after.moments r.1 done) r.2

-- the ends of samplers, and the samplers with them
module _ {S : Type 0} (rings : List Ring) (samplers : List (Sampler S)) where
  pub samplers-paired : WithEach IsEndOf rings (ends_of samplers) → WithEach IsSamplerOf rings samplers
  samplers-paired h =
      let end : Sampler S → SamplerEnd = λ (x : Sampler S). x.end in
      record {
        count = sym (length-map samplers end) ∙ h.count;
        each = λ k r s below.
            let within : k < length samplers = omega (arith, below, length-map samplers end, h.count) in
            subst (λ e. IsEndOf (slice_index_or rings k r) e) (get_or-map end samplers k s s.end within) (h.each k r s.end below);
      }

  pub ends-paired : WithEach IsSamplerOf rings samplers → WithEach IsEndOf rings (ends_of samplers)
  ends-paired h =
      let end : Sampler S → SamplerEnd = λ (x : Sampler S). x.end in
      record {
        count = length-map samplers end ∙ h.count;
        each = λ k r e below.
            let within : k < length samplers = omega (arith, below, h.count) in
            let s = member samplers k within in
            subst (λ z. IsEndOf (slice_index_or rings k r) z) (sym (get_or-map end samplers k s e within)) (h.each k r s below);
      }

  -- what was sent was taken where all is settled
  pub settled-out : WithEach SettledSampler rings samplers → AreTakenOut rings (ends_of samplers)
  settled-out h k r e below =
      let end : Sampler S → SamplerEnd = λ (x : Sampler S). x.end in
      let within : k < length samplers = omega (arith, below, length-map samplers end) in
      let there : k < length rings = omega (arith, within, h.count) in
      let s = member samplers k within in
      (h.each k r s there).whole ∙ ap sent_by (sym (get_or-map end samplers k s e within))

-- so are those of new ends
pub new-paired : (rings : List Ring) (ends : List SamplerEnd) → WithEach FreshEnd rings ends → WithEach IsEndOf rings ends
new-paired rings ends h = record { count = h.count; each = λ k r e below. (h.each k r e below).0 }

pub new-out : (rings : List Ring) (ends : List SamplerEnd) → WithEach FreshEnd rings ends → AreTakenOut rings ends
new-out rings ends h k r e below =
    let there : k < length rings = omega (arith, below, h.count) in
    let fresh = h.each k r e there in
    fresh.1 ∙ sym fresh.3

-- lists whose members are alike in a part
same-parts : {X Y : Type 0} (f : X → Y) (xs ys : List X) → length ys ≡ length xs
    → ((k : ℕ) (x : X) → k < length xs → f (slice_index_or ys k x) ≡ f (slice_index_or xs k x)) → map f ys ≡ map f xs
same-parts f [] [] e h = refl
same-parts f [] (y ∷ ys) e h = absurd (omega (arith, e))
same-parts f (x ∷ xs) [] e h = absurd (omega (arith, e))
same-parts f (x ∷ xs) (y ∷ ys) e h =
    ap₂ (λ z zs. z ∷ zs) (h 0 x (omega arith)) (same-parts f xs ys (omega (arith, e)) (λ k z below. h (suc k) z (omega (arith, below))))

pub same-seats : {S : Type 0} (samplers others : List (Sampler S)) → length others ≡ length samplers
    → ((k : ℕ) (s : Sampler S) → k < length samplers → (slice_index_or others k s).end ≡ (slice_index_or samplers k s).end)
    → ((k : ℕ) (s : Sampler S) → k < length samplers → (slice_index_or others k s).sensor ≡ (slice_index_or samplers k s).sensor)
    → (ends_of others ≡ ends_of samplers) × (sensors_of others ≡ sensors_of samplers)
same-seats {S} samplers others count ends sensors =
    (same-parts (λ (s : Sampler S). s.end) samplers others count ends, same-parts (λ (s : Sampler S). s.sensor) samplers others count sensors)
