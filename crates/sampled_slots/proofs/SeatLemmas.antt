-- What samplers in their seats file, as a run has it.
use Rattle.std.proofs.Common.{arith, ◌≡◌, ℕ, zero, suc, ◌<◌, refl, sym, ap, subst, List, [], ◌∷◌, ◌++◌, length, filter, true, Option, Some, None, ◌⊎◌, inl, inr}
use Rattle.std.specs.Prelude.{IfSome, slice_get, slice_index_or}
use Rattle.std.specs.List.{AllByRecursion}
use Rattle.std.proofs.lemmas.List.{append-nil, length-map, get_or-map}
use Rattle.std.proofs.lemmas.Option.{none-some}
use Rattle.hk_base.specs.Fit.{IsFit}
use Rattle.hk_base.specs.Outside.{GivesAlike, StaysSure}
use Rattle.hk_base.specs.TailoringParts.{TailoringParts}
use Rattle.hk_base.specs.declared.outside.Sensor.{Ghosts}
use Rattle.hk_base.proofs.Membership.{some_value}
use Rattle.hk_world.specs.declared.moment.Moment.{Moment}
use Rattle.sampler_threads.specs.Orders.{orders_for, dealt, sensed}
use Rattle.sampler_threads.specs.Samplings.{Filed, FiledPart, samples_of, is_ordered, sensed_filings}
use Rattle.sampler_threads.specs.Slots.{AreReadings}
use Rattle.sampler_threads.specs.declared.item.Item.{Item}
use Rattle.sampler_threads.specs.declared.slot.Sampler.{Sampler}
use Rattle.board_runs.specs.Samplers.{ordered_of, is_filed_in, IsPartOf, IsGivenBy, HasSampled, HasBeenSure, HaveSampled, HaveBeenSure}
use Rattle.sampled_slots.specs.Seats.{sensors_of, HaveSeats, AreFiled, AreFiledInPart}
use Rattle.sampled_slots.proofs.ParamLemmas.{dealt-own, dealt-shared}
use Rattle.sampled_slots.proofs.ReadingLemmas.{filings-read, params_of, ids_of, readings-order, readings-given, readings-sure}

-- a member of a list that has one
pub member : {X : Type 0} (xs : List X) (k : ℕ) → k < length xs → X
member [] k below = absurd (omega (arith, below))
member (x ∷ xs) k below = x

-- the member at a place
pub got : {X : Type 0} (xs : List X) (k : ℕ) (x d : X) → slice_get xs k ≡ Some x → (k < length xs) × (slice_index_or xs k d ≡ x)
got [] k x d h = absurd (none-some x h)
got (y ∷ xs) zero x d h = (omega arith, some_value y x h)
got (y ∷ xs) (suc k) x d h = let r = got xs k x d h in (omega (arith, r.0), r.1)

pub at-each : {X : Type 0} (P : ℕ → X → Type 0) (xs : List X) → ((i : ℕ) (x : X) → slice_get xs i ≡ Some x → P i x) → (i : ℕ) → IfSome (slice_get xs i) (λ x. P i x)
at-each {X} P xs h i = by (slice_get xs i) refl
  where
    by : (o : Option X) → slice_get xs i ≡ o → IfSome o (λ x. P i x)
    by None e = tt
    by (Some x) e = h i x e

module _ {S : Type 0} (g : Ghosts S) where
  -- a sampler in its seat
  pub record IsSeat (t : TailoringParts) (count k slot : ℕ) (was : S) (s : Sampler S) : Type 0 where
    pub orders : s.orders ≡ orders_for t count k slot
    pub gives : GivesAlike (g.gives was) (g.gives s.sensor)
    pub stays_sure : StaysSure (g.is_sure was) (g.is_sure s.sensor)

  pub seat : (t : TailoringParts) (was : List S) (slot : ℕ) (samplers : List (Sampler S)) → HaveSeats g t was slot samplers → (k : ℕ) (w : S) → slice_get was k ≡ Some w
      → (s : Sampler S) × (k < length samplers) × IsSeat t (length was) k slot w (slice_index_or samplers k s)
  seat t was slot samplers h k w e =
      let here = got was k w w e in
      let below : k < length samplers = omega (arith, here.0, h.stayed.count, length-map samplers (λ (x : Sampler S). x.sensor)) in
      let s : Sampler S = member samplers k below in
      let sensor : slice_index_or (sensors_of samplers) k w ≡ (slice_index_or samplers k s).sensor = get_or-map (λ (x : Sampler S). x.sensor) samplers k s w below in (
        s,
        below,
        record {
          orders = h.orders k s below;
          gives = subst (λ z. GivesAlike (g.gives w) (g.gives z)) sensor
              (subst (λ z. GivesAlike (g.gives z) (g.gives (slice_index_or (sensors_of samplers) k w))) here.1 (h.stayed.gives k w here.0));
          stays_sure = subst (λ z. StaysSure (g.is_sure w) (g.is_sure z)) sensor
              (subst (λ z. StaysSure (g.is_sure z) (g.is_sure (slice_index_or (sensors_of samplers) k w))) here.1 (h.stayed.stays_sure k w here.0));
        },
      )

  from-readings : (t : TailoringParts) (count k slot : ℕ) (ms : List Moment) (was sensor : S) (taken left : List Item) → IsFit t → GivesAlike (g.gives was) (g.gives sensor)
      → filter (is_ordered (orders_for t count k slot)) (sensed_filings t ms) ≡ samples_of taken → AreReadings g t sensor (orders_for t count k slot) (taken ++ left)
      → HasSampled g was (dealt count k 0 (sensed t.params)) slot ms
  from-readings t count k slot ms was sensor taken left fit alike filed h =
      let ps = dealt count k 0 (sensed t.params) in
      let own = dealt-own t count k fit in
      let read = filings-read t slot ps ms taken own filed in
      record {
        order = subst (λ xs. IsPartOf (params_of xs) (ids_of ps)) (sym read) (readings-order g t sensor slot ps taken left h);
        given = subst (λ xs. AllByRecursion (IsGivenBy g was ps slot) xs) (sym read) (readings-given g t sensor slot was alike ps ps taken left own h);
      }

  from-none : (t : TailoringParts) (count k slot : ℕ) (ms : List Moment) (was : S) (taken left : List Item) → IsFit t
      → filter (is_ordered (orders_for t count k slot)) (sensed_filings t ms) ≡ samples_of taken → taken ++ left ≡ []
      → HasSampled g was (dealt count k 0 (sensed t.params)) slot ms
  from-none t count k slot ms was [] left fit filed none =
      let ps = dealt count k 0 (sensed t.params) in
      let read = filings-read t slot ps ms [] (dealt-own t count k fit) filed in
      record {
        order = subst (λ xs. IsPartOf (params_of xs) (ids_of ps)) (sym read) tt;
        given = subst (λ xs. AllByRecursion (IsGivenBy g was ps slot) xs) (sym read) tt;
      }
  from-none t count k slot ms was (i ∷ items) left fit filed none = let bad : suc (length (items ++ left)) ≡ 0 = ap length none in absurd (omega (arith, bad))

  from-part : (t : TailoringParts) (count k slot : ℕ) (ms : List Moment) (was sensor : S) (taken left : List Item) → IsFit t → GivesAlike (g.gives was) (g.gives sensor)
      → filter (is_ordered (orders_for t count k slot)) (sensed_filings t ms) ≡ samples_of taken
      → (taken ++ left ≡ []) ⊎ AreReadings g t sensor (orders_for t count k slot) (taken ++ left)
      → HasSampled g was (dealt count k 0 (sensed t.params)) slot ms
  from-part t count k slot ms was sensor taken left fit alike filed (inl none) = from-none t count k slot ms was taken left fit filed none
  from-part t count k slot ms was sensor taken left fit alike filed (inr h) = from-readings t count k slot ms was sensor taken left fit alike filed h

  -- a sampler in its seat, whose slot was run up to a step
  pub seat-part : (t : TailoringParts) (count k slot : ℕ) (ms : List Moment) (was : S) (s : Sampler S) → IsFit t → IsSeat t count k slot was s → FiledPart g t ms s
      → HasSampled g was (ordered_of t count k) slot ms
  seat-part t count k slot ms was s fit is h =
      subst (λ ps. HasSampled g was ps slot ms) (dealt-shared count k 0 (sensed t.params))
      (from-part t count k slot ms was s.sensor h.0 h.1 fit is.gives
      (subst (λ os. filter (is_ordered os) (sensed_filings t ms) ≡ samples_of h.0) is.orders h.2)
      (subst (λ os. (h.0 ++ h.1 ≡ []) ⊎ AreReadings g t s.sensor os (h.0 ++ h.1)) is.orders h.3))

  -- and one whose slot is whole
  pub seat-whole : (t : TailoringParts) (count k slot : ℕ) (ms : List Moment) (was : S) (s after : Sampler S) → IsFit t → IsSeat t count k slot was s → Filed g t ms s after
      → HasSampled g was (ordered_of t count k) slot ms
  seat-whole t count k slot ms was s after fit is h =
      seat-part t count k slot ms was s fit is (h.0, [], h.1, inr (subst (λ xs. AreReadings g t s.sensor s.orders xs) (sym (append-nil h.0)) h.2))

  pub seat-sure : (t : TailoringParts) (count k slot : ℕ) (ms : List Moment) (was : S) (s after : Sampler S) → IsFit t → IsSeat t count k slot was s → Filed g t ms s after
      → HasBeenSure g was (ordered_of t count k) slot ms
  seat-sure t count k slot ms was s after fit is h =
      let ps = dealt count k 0 (sensed t.params) in
      let own = dealt-own t count k fit in
      let read = filings-read t slot ps ms h.0 own (subst (λ os. filter (is_ordered os) (sensed_filings t ms) ≡ samples_of h.0) is.orders h.1) in
      let sure = readings-sure g t s.sensor slot was is.stays_sure ps h.0 own (subst (λ os. AreReadings g t s.sensor os h.0) is.orders h.2) in
      subst (λ qs. HasBeenSure g was qs slot ms) (dealt-shared count k 0 (sensed t.params))
      (subst (λ xs. AllByRecursion (λ p. g.is_sure was p slot → is_filed_in xs p ≡ true) ps) (sym read) sure)

  -- of all samplers
  pub all-part : (t : TailoringParts) (was : List S) (slot : ℕ) (ms : List Moment) (samplers : List (Sampler S)) → IsFit t → HaveSeats g t was slot samplers
      → AreFiledInPart g t ms samplers → HaveSampled g t was slot ms
  all-part t was slot ms samplers fit seats filed =
      at-each (λ i w. HasSampled g w (ordered_of t (length was) i) slot ms) was
      (λ i w e.
      let r = seat t was slot samplers seats i w e in
      seat-part t (length was) i slot ms w (slice_index_or samplers i r.0) fit r.2 (filed i r.0 r.1))

  pub all-whole : (t : TailoringParts) (was : List S) (slot : ℕ) (ms : List Moment) (samplers after : List (Sampler S)) → IsFit t → HaveSeats g t was slot samplers
      → AreFiled g t ms samplers after → HaveSampled g t was slot ms
  all-whole t was slot ms samplers after fit seats filed =
      at-each (λ i w. HasSampled g w (ordered_of t (length was) i) slot ms) was
      (λ i w e.
      let r = seat t was slot samplers seats i w e in
      seat-whole t (length was) i slot ms w (slice_index_or samplers i r.0) (slice_index_or after i r.0) fit r.2 (filed i r.0 r.1))

  pub all-sure : (t : TailoringParts) (was : List S) (slot : ℕ) (ms : List Moment) (samplers after : List (Sampler S)) → IsFit t → HaveSeats g t was slot samplers
      → AreFiled g t ms samplers after → HaveBeenSure g t was slot ms
  all-sure t was slot ms samplers after fit seats filed =
      at-each (λ i w. HasBeenSure g w (ordered_of t (length was) i) slot ms) was
      (λ i w e.
      let r = seat t was slot samplers seats i w e in
      seat-sure t (length was) i slot ms w (slice_index_or samplers i r.0) (slice_index_or after i r.0) fit r.2 (filed i r.0 r.1))
