-- The orders of the samplers are of sensed parameters, each of which is ordered once.
use Rattle.std.proofs.Common.{◌≡◌, ◌≢◌, ℕ, ◌+◌, ◌%◌, Bool, true, false, not, ◌==◌, cond, List, [], ◌∷◌, map, filter, find, Option, Some, None, refl, sym, ◌∙◌, ap, subst}
use Rattle.std.specs.Prelude.{nat_eq, is_some, IsSome}
use Rattle.std.specs.List.{AllByRecursion, IsDistinct}
use Rattle.std.proofs.lemmas.Bool.{eqb-true, eqb-false, false≢true, false_from_ne_true, true_from_ne_false}
use Rattle.std.proofs.lemmas.Map.Keys.{IsDistinct-head, IsDistinct-tail}
use Rattle.hk_base.specs.Fit.{IsFit}
use Rattle.hk_base.specs.TailoringParts.{TailoringParts}
use Rattle.hk_base.specs.Parameters.{parameter, is_settable}
use Rattle.hk_base.specs.declared.types.Param.{Param}
use Rattle.board_steps.specs.Cores.{Core}
use Rattle.board_steps.specs.Slots.{is_filed}
use Rattle.sampler_threads.specs.Orders.{orders_from, kept_if, dealt, sensed, orders_for}
use Rattle.sampler_threads.specs.Samplings.{is_sensed, IsDue, AreDistinctOrders, NoneFiled}
use Rattle.sampler_threads.specs.declared.item.Order.{Order}

abbrev DistinctIds : List Param → Type 0
DistinctIds [] = Unit {0}
DistinctIds (p ∷ ps) = AllByRecursion (λ (q : Param). q.id ≢ p.id) ps × DistinctIds ps

others : (id : ℕ) (ps : List Param) → AllByRecursion (λ y. nat_eq id y ≡ false) (map (λ (p : Param). p.id) ps) → AllByRecursion (λ (q : Param). q.id ≢ id) ps
others id [] h = tt
others id (p ∷ ps) h = (λ e. eqb-false id p.id h.0 (sym e), others id ps h.1)

distinct_ids : (ps : List Param) → IsDistinct nat_eq (map (λ (p : Param). p.id) ps) → DistinctIds ps
distinct_ids [] h = tt
distinct_ids (p ∷ ps) h =
    (others p.id ps (IsDistinct-head nat_eq p.id (map (λ (q : Param). q.id) ps) h), distinct_ids ps (IsDistinct-tail nat_eq p.id (map (λ (q : Param). q.id) ps) h))

-- parts of a list
all_cond : (P : Param → Type 0) (b : Bool) (p : Param) (xs ys : List Param) → P p → AllByRecursion P xs → AllByRecursion P (cond b (p ∷ xs) xs)
all_cond P true p xs ys h k = (h, k)
all_cond P false p xs ys h k = k

all_filter : (P : Param → Type 0) (f : Param → Bool) (ps : List Param) → AllByRecursion P ps → AllByRecursion P (filter f ps)
all_filter P f [] h = tt
all_filter P f (p ∷ ps) h = all_cond P (f p) p (filter f ps) [] h.0 (all_filter P f ps h.1)

passed_cond : (b : Bool) (f : Param → Bool) (p : Param) (xs : List Param) → f p ≡ b → AllByRecursion (λ q. f q ≡ true) xs → AllByRecursion (λ q. f q ≡ true) (cond b (p ∷ xs) xs)
passed_cond true f p xs e h = (e, h)
passed_cond false f p xs e h = h

all_passed : (f : Param → Bool) (ps : List Param) → AllByRecursion (λ q. f q ≡ true) (filter f ps)
all_passed f [] = tt
all_passed f (p ∷ ps) = passed_cond (f p) f p (filter f ps) refl (all_passed f ps)

distinct_cond : (b : Bool) (p : Param) (xs : List Param) → AllByRecursion (λ (q : Param). q.id ≢ p.id) xs → DistinctIds xs → DistinctIds (cond b (p ∷ xs) xs)
distinct_cond true p xs h k = (h, k)
distinct_cond false p xs h k = k

distinct_filter : (f : Param → Bool) (ps : List Param) → DistinctIds ps → DistinctIds (filter f ps)
distinct_filter f [] h = tt
distinct_filter f (p ∷ ps) h = distinct_cond (f p) p (filter f ps) (all_filter (λ (q : Param). q.id ≢ p.id) f ps h.0) (distinct_filter f ps h.1)

all_kept : (P : Param → Type 0) (b : Bool) (p : Param) (xs : List Param) → P p → AllByRecursion P xs → AllByRecursion P (kept_if b p xs)
all_kept P true p xs h k = (h, k)
all_kept P false p xs h k = k

all_dealt : (P : Param → Type 0) (n k i : ℕ) (ps : List Param) → AllByRecursion P ps → AllByRecursion P (dealt n k i ps)
all_dealt P n k i [] h = tt
all_dealt P n k i (p ∷ ps) h = all_kept P (i % n == k) p (dealt n k (i + 1) ps) h.0 (all_dealt P n k (i + 1) ps h.1)

distinct_kept : (b : Bool) (p : Param) (xs : List Param) → AllByRecursion (λ (q : Param). q.id ≢ p.id) xs → DistinctIds xs → DistinctIds (kept_if b p xs)
distinct_kept true p xs h k = (h, k)
distinct_kept false p xs h k = k

distinct_dealt : (n k i : ℕ) (ps : List Param) → DistinctIds ps → DistinctIds (dealt n k i ps)
distinct_dealt n k i [] h = tt
distinct_dealt n k i (p ∷ ps) h =
    distinct_kept (i % n == k) p (dealt n k (i + 1) ps) (all_dealt (λ (q : Param). q.id ≢ p.id) n k (i + 1) ps h.0) (distinct_dealt n k (i + 1) ps h.1)

map_all : (P Q : Param → Type 0) → ((x : Param) → P x → Q x) → (xs : List Param) → AllByRecursion P xs → AllByRecursion Q xs
map_all P Q f [] h = tt
map_all P Q f (x ∷ xs) h = (f x h.0, map_all P Q f xs h.1)

both_all : (P Q : Param → Type 0) (xs : List Param) → AllByRecursion P xs → AllByRecursion Q xs → AllByRecursion (λ x. P x × Q x) xs
both_all P Q [] h k = tt
both_all P Q (x ∷ xs) h k = ((h.0, k.0), both_all P Q xs h.1 k.1)

apart_kept : (j k m : ℕ) (a b : Bool) (p : Param) (xs ys : List Param) → (m == j) ≡ a → (m == k) ≡ b → j ≢ k
    → AllByRecursion (λ (q : Param). q.id ≢ p.id) xs → AllByRecursion (λ (q : Param). q.id ≢ p.id) ys
    → AllByRecursion (λ (x : Param). AllByRecursion (λ (q : Param). q.id ≢ x.id) ys) xs
    → AllByRecursion (λ (x : Param). AllByRecursion (λ (q : Param). q.id ≢ x.id) (kept_if b p ys)) (kept_if a p xs)
apart_kept j k m true true p xs ys e f ne hx hy h = absurd (ne (sym (eqb-true m j e) ∙ eqb-true m k f))
apart_kept j k m true false p xs ys e f ne hx hy h = (hy, h)
apart_kept j k m false true p xs ys e f ne hx hy h =
    map_all (λ (x : Param). (x.id ≢ p.id) × AllByRecursion (λ (q : Param). q.id ≢ x.id) ys) (λ (x : Param). (p.id ≢ x.id) × AllByRecursion (λ (q : Param). q.id ≢ x.id) ys)
    (λ x z. (λ s. z.0 (sym s), z.1)) xs
    (both_all (λ (x : Param). x.id ≢ p.id) (λ (x : Param). AllByRecursion (λ (q : Param). q.id ≢ x.id) ys) xs hx h)
apart_kept j k m false false p xs ys e f ne hx hy h = h

apart_dealt : (n j k i : ℕ) (ps : List Param) → j ≢ k → DistinctIds ps → AllByRecursion (λ (x : Param). AllByRecursion (λ (q : Param). q.id ≢ x.id) (dealt n k i ps)) (dealt n j i ps)
apart_dealt n j k i [] ne h = tt
apart_dealt n j k i (p ∷ ps) ne h =
    apart_kept j k (i % n) (i % n == j) (i % n == k) p (dealt n j (i + 1) ps) (dealt n k (i + 1) ps) refl refl ne
    (all_dealt (λ (q : Param). q.id ≢ p.id) n j (i + 1) ps h.0) (all_dealt (λ (q : Param). q.id ≢ p.id) n k (i + 1) ps h.0) (apart_dealt n j k (i + 1) ps ne h.1)

-- as orders
all_orders : (P : Order → Type 0) (slot : ℕ) (ps : List Param) → AllByRecursion (λ (p : Param). P (record { param = p.id; slot = slot })) ps → AllByRecursion P (orders_from slot ps)
all_orders P slot [] h = tt
all_orders P slot (p ∷ ps) h = (h.0, all_orders P slot ps h.1)

distinct_orders : (slot : ℕ) (ps : List Param) → DistinctIds ps → AreDistinctOrders (orders_from slot ps)
distinct_orders slot [] h = tt
distinct_orders slot (p ∷ ps) h = (all_orders (λ o. o.param ≢ p.id) slot ps h.0, distinct_orders slot ps h.1)

apart_orders : (slot : ℕ) (xs ys : List Param) → AllByRecursion (λ (x : Param). AllByRecursion (λ (q : Param). q.id ≢ x.id) ys) xs
    → AllByRecursion (λ order. AllByRecursion (λ other. other.param ≢ order.param) (orders_from slot ys)) (orders_from slot xs)
apart_orders slot xs ys h =
    all_orders (λ order. AllByRecursion (λ other. other.param ≢ order.param) (orders_from slot ys)) slot xs
    (map_all (λ (x : Param). AllByRecursion (λ (q : Param). q.id ≢ x.id) ys) (λ (x : Param). AllByRecursion (λ (other : Order). other.param ≢ x.id) (orders_from slot ys))
    (λ x z. all_orders (λ other. other.param ≢ x.id) slot ys z) xs h)

-- a parameter is found by its ID
self_eq : (k : ℕ) → (k == k) ≡ true
self_eq k = true_from_ne_false (k == k) (λ e. eqb-false k k e refl)

skips : (x : Param) (ps : List Param) (p : Param) → p.id ≢ x.id → find (λ (q : Param). q.id == p.id) ps ≡ Some p → find (λ (q : Param). q.id == p.id) (x ∷ ps) ≡ Some p
skips x ps p ne h = rw (false_from_ne_true (x.id == p.id) (λ e. ne (sym (eqb-true x.id p.id e)))) h

found : (ps : List Param) → DistinctIds ps → AllByRecursion (λ (p : Param). find (λ (q : Param). q.id == p.id) ps ≡ Some p) ps
found [] h = tt
found (x ∷ ps) h = (
  rw (self_eq x.id) refl,
  map_all (λ (p : Param). (p.id ≢ x.id) × (find (λ (q : Param). q.id == p.id) ps ≡ Some p)) (λ (p : Param). find (λ (q : Param). q.id == p.id) (x ∷ ps) ≡ Some p)
      (λ p z. skips x ps p z.0 z.1) ps
      (both_all (λ (p : Param). p.id ≢ x.id) (λ (p : Param). find (λ (q : Param). q.id == p.id) ps ≡ Some p) ps h.0 (found ps h.1)),
)

-- the laws
pub due_law : (core : Core) (n k : ℕ) → IsFit core.tailoring → NoneFiled core → AllByRecursion (IsDue core) (orders_for core.tailoring n k core.slot_now)
due_law core n k fit none =
    let ps = core.tailoring.params in
    let f : Param → Bool = λ p. not (is_settable p) in
    let ids = distinct_ids ps fit.ids in
    let known = both_all (λ (p : Param). find (λ (q : Param). q.id == p.id) ps ≡ Some p) (λ (p : Param). f p ≡ true) (filter f ps)
    (all_filter (λ (p : Param). find (λ (q : Param). q.id == p.id) ps ≡ Some p) f ps (found ps ids)) (all_passed f ps) in
    let due = map_all (λ (p : Param). (find (λ (q : Param). q.id == p.id) ps ≡ Some p) × (f p ≡ true)) (λ (p : Param). IsDue core (record { param = p.id; slot = core.slot_now }))
    (λ p z. let sensed_is : is_sensed (parameter core.tailoring p.id) ≡ true = ap is_sensed z.0 ∙ z.1 in (refl, sensed_is, none p.id sensed_is)) (filter f ps) known in
    all_orders (IsDue core) core.slot_now (dealt n k 0 (sensed ps)) (all_dealt (λ (p : Param). IsDue core (record { param = p.id; slot = core.slot_now })) n k 0 (sensed ps) due)

pub distinct_law : (t : TailoringParts) (n k slot : ℕ) → IsFit t → AreDistinctOrders (orders_for t n k slot)
distinct_law t n k slot fit =
    distinct_orders slot (dealt n k 0 (sensed t.params)) (distinct_dealt n k 0 (sensed t.params) (distinct_filter (λ (p : Param). not (is_settable p)) t.params (distinct_ids t.params fit.ids)))

pub apart_law : (t : TailoringParts) (n j k slot : ℕ) → IsFit t → j ≢ k
    → AllByRecursion (λ order. AllByRecursion (λ other. other.param ≢ order.param) (orders_for t n k slot)) (orders_for t n j slot)
apart_law t n j k slot fit ne =
    apart_orders slot (dealt n j 0 (sensed t.params)) (dealt n k 0 (sensed t.params))
    (apart_dealt n j k 0 (sensed t.params) ne (distinct_filter (λ (p : Param). not (is_settable p)) t.params (distinct_ids t.params fit.ids)))

-- the orders are of known parameters
pub known_law : (t : TailoringParts) (n k slot : ℕ) → IsFit t → AllByRecursion (λ (o : Order). IsSome (parameter t o.param)) (orders_for t n k slot)
known_law t n k slot fit =
    let ps = t.params in
    let f : Param → Bool = λ p. not (is_settable p) in
    let known = map_all (λ (p : Param). find (λ (q : Param). q.id == p.id) ps ≡ Some p) (λ (p : Param). IsSome (parameter t p.id))
    (λ p z. ap is_some z) (filter f ps)
    (all_filter (λ (p : Param). find (λ (q : Param). q.id == p.id) ps ≡ Some p) f ps (found ps (distinct_ids ps fit.ids))) in
    all_orders (λ (o : Order). IsSome (parameter t o.param)) slot (dealt n k 0 (sensed ps)) (all_dealt (λ (p : Param). IsSome (parameter t p.id)) n k 0 (sensed ps) known)
