-- What was taken out of all rings, told from what was taken out of each.
use Rattle.std.proofs.Common.{◌≡◌, ◌≢◌, ℕ, ℤ, ◌+◌, ◌<◌, ◌≤◌, Bool, true, false, not, ◌==◌, ◌&&◌, ◌||◌, cond, List, [], ◌∷◌, ◌++◌, length, map, filter, Option, Some, None, refl, sym, ◌∙◌, ap, ap₂, subst, arith}
use Rattle.std.specs.Prelude.{IsTrue, option_map}
use Rattle.std.specs.Option.{option_map_or}
use Rattle.std.specs.List.{list_any, AllByRecursion, cons_option}
use Rattle.std.proofs.lemmas.Bool.{eqb-true, eqb-false, false≢true, false_from_ne_true, true_from_ne_false}
use Rattle.hk_base.specs.TailoringParts.{TailoringParts}
use Rattle.hk_base.specs.Parameters.{parameter, is_settable, fits}
use Rattle.hk_base.specs.declared.outside.Sensor.{Ghosts}
use Rattle.hk_base.specs.declared.types.Param.{Param}
use Rattle.board_steps.specs.Cores.{Core}
use Rattle.board_steps.specs.Slots.{is_filed}
use Rattle.board_steps.specs.Steps.{MayFile}
use Rattle.board_steps.specs.declared.event.Sample.{Sample}
use Rattle.sampler_threads.specs.Deeds.{sample_of, items_from}
use Rattle.sampler_threads.specs.Slots.{AreReadings, IsReadingOf}
use Rattle.sampler_threads.specs.Samplings.{samples_of, is_sensed, is_ordered, AreDistinctOrders, IsDue}
use Rattle.sampler_threads.specs.declared.item.Item.{Item}
use Rattle.sampler_threads.specs.declared.item.Order.{Order}
use Rattle.sampler_threads.proofs.FilingLemmas.{CanFile, CanFileAll, AreApart, sample_with}

-- of each two items the parameters differ
abbrev pub DistinctItems : List Item → Type 0
DistinctItems [] = Unit {0}
DistinctItems (x ∷ xs) = AllByRecursion (λ (y : Item). y.param ≢ x.param) xs × DistinctItems xs

abbrev second : ℕ × Item → Item
second t = t.1

tail_all : (P : Item → Type 0) (b : Bool) (t : ℕ × Item) (fs : List (ℕ × Item)) → AllByRecursion P (map (λ (u : ℕ × Item). u.1) (cond b (t ∷ fs) fs)) → AllByRecursion P (map (λ (u : ℕ × Item). u.1) fs)
tail_all P true t fs h = h.1
tail_all P false t fs h = h

head_all : (P : Item → Type 0) (b : Bool) (t : ℕ × Item) (fs : List (ℕ × Item)) → b ≡ true → AllByRecursion P (map (λ (u : ℕ × Item). u.1) (cond b (t ∷ fs) fs)) → P t.1
head_all P true t fs e h = h.0
head_all P false t fs e h = absurd (false≢true e)

tail_distinct : (b : Bool) (t : ℕ × Item) (fs : List (ℕ × Item)) → DistinctItems (map (λ (u : ℕ × Item). u.1) (cond b (t ∷ fs) fs)) → DistinctItems (map (λ (u : ℕ × Item). u.1) fs)
tail_distinct true t fs h = h.1
tail_distinct false t fs h = h

head_distinct : (b : Bool) (t : ℕ × Item) (fs : List (ℕ × Item)) → b ≡ true → DistinctItems (map (λ (u : ℕ × Item). u.1) (cond b (t ∷ fs) fs)) → AllByRecursion (λ (y : Item). y.param ≢ t.1.param) (map (λ (u : ℕ × Item). u.1) fs)
head_distinct true t fs e h = h.0
head_distinct false t fs e h = absurd (false≢true e)

self_eq : (k : ℕ) → (k == k) ≡ true
self_eq k = true_from_ne_false (k == k) (λ e. eqb-false k k e refl)

pub map_all : (P Q : Item → Type 0) → ((x : Item) → P x → Q x) → (xs : List Item) → AllByRecursion P xs → AllByRecursion Q xs
map_all P Q f [] h = tt
map_all P Q f (x ∷ xs) h = (f x h.0, map_all P Q f xs h.1)

-- of all items, where it is so of those of each ring
pub all_by_rings : (P : ℕ → Item → Type 0) (ts : List (ℕ × Item)) → ((k : ℕ) → AllByRecursion (P k) (items_from k ts)) → AllByRecursion (λ (t : ℕ × Item). P t.0 t.1) ts
all_by_rings P [] h = tt
all_by_rings P (t ∷ ts) h = (
  head_all (P t.0) (t.0 == t.0) t (filter (λ (u : ℕ × Item). u.0 == t.0) ts) (self_eq t.0) (h t.0),
  all_by_rings P ts (λ k. tail_all (P k) (t.0 == k) t (filter (λ (u : ℕ × Item). u.0 == k) ts) (h k)),
)

apart_case : (Owned : ℕ → ℕ → Type 0) → ((j k p : ℕ) → j ≢ k → Owned j p → Owned k p → ⊥)
    → (k : ℕ) (t : ℕ × Item) (fs : List (ℕ × Item)) (b : Bool) → (t.0 == k) ≡ b → Owned t.0 t.1.param
    → AllByRecursion (λ (i : Item). Owned k i.param) (map (λ (u : ℕ × Item). u.1) (cond b (t ∷ fs) fs))
    → DistinctItems (map (λ (u : ℕ × Item). u.1) (cond b (t ∷ fs) fs))
    → AllByRecursion (λ (i : Item). i.param ≢ t.1.param) (map (λ (u : ℕ × Item). u.1) fs)
apart_case Owned excl k t fs true e mine owned distinct = distinct.0
apart_case Owned excl k t fs false e mine owned distinct =
    map_all (λ (i : Item). Owned k i.param) (λ (i : Item). i.param ≢ t.1.param)
    (λ i own same. excl t.0 k t.1.param (λ q. eqb-false t.0 k e q) mine (subst (λ p. Owned k p) same own)) (map (λ (u : ℕ × Item). u.1) fs) owned

pub apart_by_rings : (Owned : ℕ → ℕ → Type 0) → ((j k p : ℕ) → j ≢ k → Owned j p → Owned k p → ⊥) → (ts : List (ℕ × Item))
    → ((k : ℕ) → AllByRecursion (λ (i : Item). Owned k i.param) (items_from k ts)) → ((k : ℕ) → DistinctItems (items_from k ts)) → AreApart ts
apart_by_rings Owned excl [] owned distinct = tt
apart_by_rings Owned excl (t ∷ ts) owned distinct =
    let fs = λ (k : ℕ). filter (λ (u : ℕ × Item). u.0 == k) ts in
    let mine = head_all (λ (i : Item). Owned t.0 i.param) (t.0 == t.0) t (fs t.0) (self_eq t.0) (owned t.0) in (
      all_by_rings (λ k i. i.param ≢ t.1.param) ts (λ k. apart_case Owned excl k t (fs k) (t.0 == k) refl mine (owned k) (distinct k)),
      apart_by_rings Owned excl ts (λ k. tail_all (λ (i : Item). Owned k i.param) (t.0 == k) t (fs k) (owned k)) (λ k. tail_distinct (t.0 == k) t (fs k) (distinct k)),
    )

-- the samples of one ring
ring_case : (orders : List Order) (t : ℕ × Item) (param slot : ℕ) (value : Option ℤ) (rest : List Sample) (items : List Item) (b : Bool)
    → ((s : Sample) → s.param ≡ param → is_ordered orders s ≡ b) → filter (is_ordered orders) rest ≡ samples_of items
    → filter (is_ordered orders) (cons_option (sample_with param slot value) rest) ≡ cond b (cons_option (sample_with param slot value) (samples_of items)) (samples_of items)
ring_case orders t param slot None rest items true is h = h
ring_case orders t param slot None rest items false is h = h
ring_case orders t param slot (Some v) rest items true is h =
    let s : Sample = record { param = param; slot = slot; value = v } in rw (is s refl) (ap (λ w. s ∷ w) h)
ring_case orders t param slot (Some v) rest items false is h =
    let s : Sample = record { param = param; slot = slot; value = v } in rw (is s refl) h

cond_items : (b : Bool) (t : ℕ × Item) (fs : List (ℕ × Item)) → samples_of (map (λ (u : ℕ × Item). u.1) (cond b (t ∷ fs) fs)) ≡ cond b (cons_option (sample_of t.1) (samples_of (map (λ (u : ℕ × Item). u.1) fs))) (samples_of (map (λ (u : ℕ × Item). u.1) fs))
cond_items true t fs = refl
cond_items false t fs = refl

pub ring_samples : (k : ℕ) (orders : List Order) (ts : List (ℕ × Item))
    → AllByRecursion (λ (t : ℕ × Item). (s : Sample) → s.param ≡ t.1.param → is_ordered orders s ≡ (t.0 == k)) ts
    → filter (is_ordered orders) (samples_of (map (λ (u : ℕ × Item). u.1) ts)) ≡ samples_of (items_from k ts)
ring_samples k orders [] h = refl
ring_samples k orders (t ∷ ts) h =
    ring_case orders t t.1.param t.1.slot t.1.value (samples_of (map (λ (u : ℕ × Item). u.1) ts)) (items_from k ts) (t.0 == k) h.0 (ring_samples k orders ts h.1)
    ∙ sym (cond_items (t.0 == k) t (filter (λ (u : ℕ × Item). u.0 == k) ts))

-- readings of orders
or_right : (a b : Bool) → b ≡ true → (a || b) ≡ true
or_right true b e = refl
or_right false b e = e

or_left : (a b : Bool) → a ≡ true → (a || b) ≡ true
or_left true b e = refl
or_left false b e = absurd (false≢true e)

eq_true : (a b : ℕ) → a ≡ b → (a == b) ≡ true
eq_true a b e = true_from_ne_false (a == b) (λ n. eqb-false a b n e)

more_ordered : (order : Order) (orders : List Order) (items : List Item) → AllByRecursion (λ (i : Item). list_any (λ o. o.param == i.param) orders ≡ true) items
    → AllByRecursion (λ (i : Item). list_any (λ o. o.param == i.param) (order ∷ orders) ≡ true) items
more_ordered order orders items h =
    map_all (λ (i : Item). list_any (λ o. o.param == i.param) orders ≡ true) (λ (i : Item). list_any (λ o. o.param == i.param) (order ∷ orders) ≡ true)
    (λ i e. or_right (order.param == i.param) (list_any (λ o. o.param == i.param) orders) e) items h

pub readings_ordered : {S : Type 0} (g : Ghosts S) (t : TailoringParts) (sensor : S) (orders : List Order) (items : List Item) → AreReadings g t sensor orders items
    → AllByRecursion (λ (i : Item). list_any (λ o. o.param == i.param) orders ≡ true) items
readings_ordered g t sensor [] [] h = tt
readings_ordered g t sensor [] (i ∷ items) h = absurd h
readings_ordered g t sensor (o ∷ orders) [] h = absurd h
readings_ordered g t sensor (o ∷ orders) (i ∷ items) h = (
  or_left (o.param == i.param) (list_any (λ q. q.param == i.param) orders) (eq_true o.param i.param (sym h.0.0)),
  more_ordered o orders items (readings_ordered g t sensor orders items h.1),
)

differ : {S : Type 0} (g : Ghosts S) (t : TailoringParts) (sensor : S) (param : ℕ) (orders : List Order) (items : List Item) → AreReadings g t sensor orders items
    → AllByRecursion (λ (o : Order). o.param ≢ param) orders → AllByRecursion (λ (i : Item). i.param ≢ param) items
differ g t sensor param [] [] h d = tt
differ g t sensor param [] (i ∷ items) h d = absurd h
differ g t sensor param (o ∷ orders) [] h d = absurd h
differ g t sensor param (o ∷ orders) (i ∷ items) h d = (λ e. d.0 (sym h.0.0 ∙ e), differ g t sensor param orders items h.1 d.1)

pub readings_distinct : {S : Type 0} (g : Ghosts S) (t : TailoringParts) (sensor : S) (orders : List Order) (items : List Item) → AreReadings g t sensor orders items
    → AreDistinctOrders orders → DistinctItems items
readings_distinct g t sensor [] [] h d = tt
readings_distinct g t sensor [] (i ∷ items) h d = absurd h
readings_distinct g t sensor (o ∷ orders) [] h d = absurd h
readings_distinct g t sensor (o ∷ orders) (i ∷ items) h d =
    (subst (λ p. AllByRecursion (λ (y : Item). y.param ≢ p) items) (sym h.0.0) (differ g t sensor o.param orders items h.1 d.0), readings_distinct g t sensor orders items h.1 d.1)

-- a reading of a due order may be filed
not_true : (b : Bool) → not b ≡ true → b ≡ false
not_true true e = sym e
not_true false e = refl

may_file : {S : Type 0} (g : Ghosts S) (core : Core) (sensor : S) (at : ℕ) (q : Option Param) (param slot : ℕ) (v : ℤ) → parameter core.tailoring param ≡ q
    → IsReadingOf g q sensor at (Some v) → is_sensed q ≡ true → slot ≡ core.slot_now → is_filed core param ≡ false
    → MayFile core (record { param = param; slot = slot; value = v })
may_file g core sensor at None param slot v known reading sensed now once = absurd (false≢true sensed)
may_file g core sensor at (Some p) param slot v known reading sensed now once =
    record { param = p; known = known; sensed = not_true (is_settable p) sensed; fit = reading.1; slot = now; once = once }

can_case : {S : Type 0} (g : Ghosts S) (core : Core) (sensor : S) (o : Order) (param slot : ℕ) (value : Option ℤ) → param ≡ o.param → slot ≡ o.slot
    → IsReadingOf g (parameter core.tailoring o.param) sensor o.slot value → IsDue core o → CanFile core (sample_with param slot value)
can_case g core sensor o param slot None e f h due = tt
can_case g core sensor o param slot (Some v) e f h due =
    may_file g core sensor o.slot (parameter core.tailoring o.param) param slot v (ap (parameter core.tailoring) e) h due.1 (f ∙ due.0) (ap (is_filed core) e ∙ due.2)

pub readings_can : {S : Type 0} (g : Ghosts S) (core : Core) (sensor : S) (orders : List Order) (items : List Item) → AreReadings g core.tailoring sensor orders items
    → AllByRecursion (IsDue core) orders → AllByRecursion (λ (i : Item). CanFile core (sample_of i)) items
readings_can g core sensor [] [] h d = tt
readings_can g core sensor [] (i ∷ items) h d = absurd h
readings_can g core sensor (o ∷ orders) [] h d = absurd h
readings_can g core sensor (o ∷ orders) (i ∷ items) h d =
    (can_case g core sensor o i.param i.slot i.value h.0.0 h.0.1 h.0.2 d.0, readings_can g core sensor orders items h.1 d.1)

-- orders without a common parameter
none_ordered : (p : ℕ) (orders : List Order) → AllByRecursion (λ (o : Order). o.param ≢ p) orders → list_any (λ o. o.param == p) orders ≡ false
none_ordered p [] h = refl
none_ordered p (o ∷ orders) h = rw (false_from_ne_true (o.param == p) (λ e. h.0 (eqb-true o.param p e))) (none_ordered p orders h.1)

apart_at : (p : ℕ) (o : Order) (js ks : List Order) (b : Bool) → (o.param == p) ≡ b → AllByRecursion (λ (q : Order). q.param ≢ o.param) ks → list_any (λ q. q.param == p) ks ≡ true
    → (b || list_any (λ q. q.param == p) js) ≡ true → list_any (λ q. q.param == p) js ≡ true
apart_at p o js ks true e apart there h =
    absurd (false≢true (sym (none_ordered p ks (subst (λ z. AllByRecursion (λ (q : Order). q.param ≢ z) ks) (eqb-true o.param p e) apart)) ∙ there))
apart_at p o js ks false e apart there h = h

pub any_apart : (p : ℕ) (js ks : List Order) → AllByRecursion (λ (o : Order). AllByRecursion (λ (q : Order). q.param ≢ o.param) ks) js
    → list_any (λ q. q.param == p) js ≡ true → list_any (λ q. q.param == p) ks ≡ true → ⊥
any_apart p [] ks apart here there = false≢true here
any_apart p (o ∷ js) ks apart here there = any_apart p js ks apart.1 (apart_at p o js ks (o.param == p) refl apart.0 there here) there
