-- What the readings of a sampler file, as a run has it.
use Rattle.std.proofs.Common.{arith, ◌≡◌, ℕ, ℤ, ◌+◌, refl, sym, ap, ap₂, subst, ◌∙◌, List, [], ◌∷◌, ◌++◌, length, map, filter, cond, Bool, true, false, ◌==◌, Option, Some, None, inl, inr}
use Rattle.std.specs.Prelude.{◌||◌, if◌then◌else◌}
use Rattle.std.specs.List.{AllByRecursion, cons_option}
use Rattle.std.proofs.lemmas.Bool.{eq-eqb, false≢true, false_from_ne_true, or_left, or_right}
use Rattle.std.proofs.lemmas.List.{length-map}
use Rattle.hk_base.specs.Outside.{GivesAlike, StaysSure}
use Rattle.hk_base.specs.Parameters.{parameter}
use Rattle.hk_base.specs.TailoringParts.{TailoringParts}
use Rattle.hk_base.specs.declared.outside.Sensor.{Ghosts}
use Rattle.hk_base.specs.declared.types.Param.{Param}
use Rattle.hk_world.specs.declared.moment.Moment.{Moment}
use Rattle.hk_world.specs.declared.moment.Act.{Act}
use Rattle.hk_world.specs.declared.moment.Act.TheVariants.{Accepted, TurnedAway, Started, NotStarted, Executed, Completed, Emitted, Filed}
use Rattle.board_steps.specs.SlotRuns.{filings, filed_sample}
use Rattle.board_steps.specs.declared.event.Sample.{Sample}
use Rattle.sampler_threads.specs.Deeds.{sample_of}
use Rattle.sampler_threads.specs.Orders.{orders_from}
use Rattle.sampler_threads.specs.Samplings.{samples_of, is_ordered, is_sensed_sample, sensed_filings}
use Rattle.sampler_threads.specs.Slots.{AreReadings, IsReadingOf, failures, one_if_none}
use Rattle.sampler_threads.specs.declared.item.Item.{Item}
use Rattle.board_runs.specs.Samplers.{Filing, filing_of, filings_of, is_among, is_filed_in, IsPartOf, IsGivenBy}
use Rattle.sampled_slots.proofs.ParamLemmas.{IsSensedOf, among-sensed}

-- a sample as it was filed
abbrev pub filing : Sample → Filing
filing x = record { param = x.param; value = x.value }

-- the samples of some parameters
abbrev pub samples_among : List Param → List Sample → List Sample
samples_among ps xs = filter (λ (x : Sample). is_among ps x.param) xs

one-filed : (ps : List Param) (act : Act) (rest : List Filing) (xs : List Sample) → rest ≡ map filing (samples_among ps xs)
    → cons_option (filing_of ps act) rest ≡ map filing (samples_among ps (cons_option (filed_sample act) xs))
one-filed ps (Filed id slot value) rest xs h = by (is_among ps id)
  where
    by : (b : Bool) → cons_option (if b then Some (record { param = id; value = value }) else None) rest
        ≡ map filing (cond b ((record { param = id; slot = slot; value = value }) ∷ samples_among ps xs) (samples_among ps xs))
    by true = ap (λ (ys : List Filing). (record { param = id; value = value }) ∷ ys) h
    by false = h
one-filed ps (Accepted k) rest xs h = h
one-filed ps (TurnedAway k) rest xs h = h
one-filed ps (Started k) rest xs h = h
one-filed ps (NotStarted k) rest xs h = h
one-filed ps (Executed k number flag) rest xs h = h
one-filed ps (Completed k refused) rest xs h = h
one-filed ps Emitted rest xs h = h

-- what moments file of some parameters are the samples of them
pub filings-among : (ps : List Param) (ms : List Moment) → filings_of ps ms ≡ map filing (samples_among ps (filings ms))
filings-among ps [] = refl
filings-among ps (m ∷ ms) = one-filed ps m.act (filings_of ps ms) (filings ms) (filings-among ps ms)

pub filings-count : (ps : List Param) (ms : List Moment) → length (filings_of ps ms) ≡ length (samples_among ps (filings ms))
filings-count ps ms = ap length (filings-among ps ms) ∙ length-map (samples_among ps (filings ms)) filing

ordered-among : (slot : ℕ) (x : Sample) (ps : List Param) → is_ordered (orders_from slot ps) x ≡ is_among ps x.param
ordered-among slot x [] = refl
ordered-among slot x (p ∷ ps) = ap (λ b. (p.id == x.param) || b) (ordered-among slot x ps)

filter-within : {X : Type 0} (f g h : X → Bool) → ((x : X) → f x ≡ h x) → ((x : X) → h x ≡ true → g x ≡ true) → (xs : List X) → filter f (filter g xs) ≡ filter h xs
filter-within f g h same within [] = refl
filter-within f g h same within (x ∷ xs) = by (g x) refl (filter-within f g h same within xs)
  where
    by : (b : Bool) → g x ≡ b → filter f (filter g xs) ≡ filter h xs → filter f (cond b (x ∷ filter g xs) (filter g xs)) ≡ cond (h x) (x ∷ filter h xs) (filter h xs)
    by true e rest = ap₂ (λ c ys. cond c (x ∷ ys) ys) (same x) rest
    by false e rest =
        let none : h x ≡ false = false_from_ne_true (h x) (λ y. false≢true (sym e ∙ within x y)) in
        rest ∙ sym (ap (λ c. cond c (x ∷ filter h xs) (filter h xs)) none)

-- where those of the orders are the samples of items, what was filed are these
pub filings-read : (t : TailoringParts) (slot : ℕ) (ps : List Param) (ms : List Moment) (items : List Item) → AllByRecursion (IsSensedOf t) ps
    → filter (is_ordered (orders_from slot ps)) (sensed_filings t ms) ≡ samples_of items → filings_of ps ms ≡ map filing (samples_of items)
filings-read t slot ps ms items own h =
    filings-among ps ms
    ∙ ap (map filing)
    (sym (filter-within (is_ordered (orders_from slot ps)) (is_sensed_sample t) (λ (x : Sample). is_among ps x.param) (λ x. ordered-among slot x ps)
    (λ x e. among-sensed t x.param ps own e) (filings ms)) ∙ h)

part-more : (y : ℕ) (xs ys : List ℕ) → IsPartOf xs ys → IsPartOf xs (y ∷ ys)
part-more y [] ys h = tt
part-more y (x ∷ xs) ys h = inr h

-- the sample of a value
abbrev pub sample_with : ℕ → ℕ → Option ℤ → Option Sample
sample_with param slot None = None
sample_with param slot (Some v) = Some (record { param = param; slot = slot; value = v })

sample-is : (param slot : ℕ) (value : Option ℤ) → sample_of (record { param = param; slot = slot; value = value }) ≡ sample_with param slot value
sample-is param slot None = refl
sample-is param slot (Some v) = refl

-- the parameters of filings
abbrev pub params_of : List Filing → List ℕ
params_of xs = map (λ (x : Filing). x.param) xs

-- the IDs of parameters
abbrev pub ids_of : List Param → List ℕ
ids_of ps = map (λ (p : Param). p.id) ps

map-all : {X : Type 0} (P Q : X → Type 0) → ((x : X) → P x → Q x) → (xs : List X) → AllByRecursion P xs → AllByRecursion Q xs
map-all P Q f [] h = tt
map-all P Q f (x ∷ xs) h = (f x h.0, map-all P Q f xs h.1)

module _ {S : Type 0} (g : Ghosts S) (t : TailoringParts) (sensor : S) (slot : ℕ) where
  -- filed in the order of the parameters
  pub readings-order : (ps : List Param) (taken left : List Item) → AreReadings g t sensor (orders_from slot ps) (taken ++ left)
      → IsPartOf (params_of (map filing (samples_of taken))) (ids_of ps)
  readings-order ps [] left h = tt
  readings-order [] (i ∷ items) left h = absurd h
  readings-order (p ∷ ps) (i ∷ items) left h = by i.value (readings-order ps items left h.1)
    where
      by : (value : Option ℤ) → IsPartOf (params_of (map filing (samples_of items))) (ids_of ps)
          → IsPartOf (params_of (map filing (cons_option (sample_of (record { param = i.param; slot = i.slot; value = value })) (samples_of items)))) (p.id ∷ ids_of ps)
      by None rest = part-more p.id (params_of (map filing (samples_of items))) (ids_of ps) rest
      by (Some v) rest = inl (h.0.0, rest)

  -- each value is one that the sensor gives
  pub readings-given : (was : S) → GivesAlike (g.gives was) (g.gives sensor) → (all ps : List Param) (taken left : List Item) → AllByRecursion (IsSensedOf t) ps
      → AreReadings g t sensor (orders_from slot ps) (taken ++ left) → AllByRecursion (IsGivenBy g was all slot) (map filing (samples_of taken))
  readings-given was alike all ps [] left own h = tt
  readings-given was alike all [] (i ∷ items) left own h = absurd h
  readings-given was alike all (p ∷ ps) (i ∷ items) left own h = by i.value h.0.2 (readings-given was alike all ps items left own.1 h.1)
    where
      by : (value : Option ℤ) → IsReadingOf g (parameter t p.id) sensor slot value → AllByRecursion (IsGivenBy g was all slot) (map filing (samples_of items))
          → AllByRecursion (IsGivenBy g was all slot) (map filing (cons_option (sample_of (record { param = i.param; slot = i.slot; value = value })) (samples_of items)))
      by None reading rest = rest
      by (Some v) reading rest =
          let given = subst (λ o. IsReadingOf g o sensor slot (Some v)) own.0.0 reading in
          ((p, sym h.0.0, (alike p slot v).1 given.0), rest)

  -- what the sensor is sure of was filed
  pub readings-sure : (was : S) → StaysSure (g.is_sure was) (g.is_sure sensor) → (ps : List Param) (items : List Item) → AllByRecursion (IsSensedOf t) ps
      → AreReadings g t sensor (orders_from slot ps) items → AllByRecursion (λ p. g.is_sure was p slot → is_filed_in (map filing (samples_of items)) p ≡ true) ps
  readings-sure was stays [] items own h = tt
  readings-sure was stays (p ∷ ps) [] own h = absurd h
  readings-sure was stays (p ∷ ps) (i ∷ items) own h = by i.value h.0.2 (readings-sure was stays ps items own.1 h.1)
    where
      by : (value : Option ℤ) → IsReadingOf g (parameter t p.id) sensor slot value
          → AllByRecursion (λ q. g.is_sure was q slot → is_filed_in (map filing (samples_of items)) q ≡ true) ps
          → AllByRecursion (λ q. g.is_sure was q slot → is_filed_in (map filing (cons_option (sample_of (record { param = i.param; slot = i.slot; value = value })) (samples_of items))) q ≡ true) (p ∷ ps)
      by None reading rest =
          let none = subst (λ o. IsReadingOf g o sensor slot None) own.0.0 reading in
          (λ sure. absurd (none (stays p slot sure)), rest)
      by (Some v) reading rest = (
        λ sure. or_left (i.param == p.id) (is_filed_in (map filing (samples_of items)) p) (eq-eqb i.param p.id h.0.0),
        map-all (λ q. g.is_sure was q slot → is_filed_in (map filing (samples_of items)) q ≡ true)
            (λ q. g.is_sure was q slot → ((i.param == q.id) || is_filed_in (map filing (samples_of items)) q) ≡ true)
            (λ q filed sure. or_right (i.param == q.id) (is_filed_in (map filing (samples_of items)) q) (filed sure)) ps rest,
      )

  -- each order has a value or none
  pub readings-count : (ps : List Param) (items : List Item) → AreReadings g t sensor (orders_from slot ps) items
      → failures items + length (samples_of items) ≡ length ps
  readings-count [] [] h = refl
  readings-count [] (i ∷ items) h = absurd h
  readings-count (p ∷ ps) [] h = absurd h
  readings-count (p ∷ ps) (i ∷ items) h = by i.value (readings-count ps items h.1)
    where
      by : (value : Option ℤ) → failures items + length (samples_of items) ≡ length ps
          → (one_if_none value + failures items) + length (cons_option (sample_of (record { param = i.param; slot = i.slot; value = value })) (samples_of items)) ≡ length (p ∷ ps)
      by None rest = omega (arith, rest)
      by (Some v) rest = omega (arith, rest)
