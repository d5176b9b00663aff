-- What a ring has received, put together.
use Rattle.std.proofs.Common.{◌≡◌, ℕ, ◌+◌, ◌<◌, ◌≤◌, ◌==◌, Bool, true, false, map, List, [], ◌∷◌, ◌++◌, length, take, drop, refl, sym, ◌∙◌, ap, ap₂, subst, arith}
use mathlib.Core.List.{IsPrefix}
use lib.ListN.{get_or, set}
use Rattle.std.specs.List.{AllByRecursion}
use Rattle.std.proofs.lemmas.Bool.{eqb-true, eqb-false}
use Rattle.sampler_threads.specs.Deeds.{items_from}
use Rattle.sampler_threads.proofs.ListLemmas.{items_append, items_same, items_other, items_apart}
use borrow.Author.Count.{below_more}
use Rattle.std.proofs.lemmas.List.{append_assoc, append-nil, take-append-drop, take-append-le, get_or-set_same, get_or-set_other, get_or_default, length-set}
use Rattle.std.proofs.Math.Seq.{take-append_seam}
use Rattle.rtrb.specs.Ends.{SameRing}
use Rattle.rtrb.specs.Ring.{received, known_items, consumer_capacity, SameConsumer, ConsumerLooked}
use Rattle.rtrb.specs.declared.end.End.{End}
use Rattle.rtrb.specs.declared.consumer.Consumer.{Consumer}
use Rattle.sampler_threads.specs.Rings.{AreInTurn, Drained, Received}
use Rattle.sampler_threads.specs.Samples.{SameEnd}
use Rattle.sampler_threads.specs.declared.end.SamplerEnd.{SamplerEnd}
use Rattle.sampler_threads.specs.declared.item.Item.{Item}

-- a beginning of ys ++ zs that isn't longer than ys begins ys
pub prefix_short : {X : Type 0} (xs ys zs : List X) → IsPrefix xs (ys ++ zs) → length xs ≤ length ys → IsPrefix xs ys
prefix_short xs ys zs h le =
    let e : xs ≡ take (length xs) ys = sym (take-append_seam xs h.0) ∙ (ap (take (length xs)) h.1 ∙ take-append-le (length xs) ys zs le) in
    (drop (length xs) ys, ap (λ w. w ++ drop (length xs) ys) e ∙ take-append-drop (length xs) ys)

-- what begins a list begins the longer ones
prefix_more : {X : Type 0} (xs ys zs vs : List X) → IsPrefix xs (ys ++ zs) → IsPrefix zs vs → IsPrefix xs (ys ++ vs)
prefix_more xs ys zs vs h k =
    (h.0 ++ k.0, sym (append_assoc xs h.0 k.0) ∙ (ap (λ w. w ++ k.0) h.1 ∙ (append_assoc ys zs k.0 ∙ ap (λ w. ys ++ w) k.1)))

-- the same end, over two steps
pub same_end : (a b c : SamplerEnd) → SameEnd a b → SameEnd b c → SameEnd a c
same_end a b c h k = ((k.0.0 ∙ h.0.0, k.0.1 ∙ h.0.1, k.0.2 ∙ h.0.2, k.0.3 ∙ h.0.3), k.1 ∙ h.1)

module _ {A P : Type 0} where
  pub same_ring : (a b c : End Item A P) → SameRing a b → SameRing b c → SameRing a c
  same_ring a b c h k = (k.0 ∙ h.0, k.1 ∙ h.1, k.2 ∙ h.2, k.3 ∙ h.3)

  pub same_consumer : (a b c : Consumer Item A P) → SameConsumer a b → SameConsumer b c → SameConsumer a c
  same_consumer a b c h k = (same_ring a.end b.end c.end h.0 k.0, k.1 ∙ h.1)

  pub consumer_itself : (a : Consumer Item A P) → SameConsumer a a
  consumer_itself a = ((refl, refl, refl, refl), refl)

  -- nothing is taken out
  pub drained_none : (a : Consumer Item A P) → Drained a [] a
  drained_none a = record { same = consumer_itself a; taken = sym (append-nil (received a)); known = ([], append-nil (known_items a)) }

  -- more may be known then
  pub drained_looked : (a b c : Consumer Item A P) (items : List Item) → Drained a items b → ConsumerLooked b c → Drained a items c
  drained_looked a b c items h k =
      record {
        same = same_consumer a b c h.same k.0;
        taken = k.1 ∙ h.taken;
        known = prefix_more (known_items a) items (known_items b) (known_items c) h.known k.2;
      }

  -- one more item is taken out
  pub drained_next : (a b c : Consumer Item A P) (items : List Item) (item : Item) → Drained a items b → SameConsumer b c → known_items b ≡ item ∷ known_items c → received c ≡ received b ++ item ∷ [] → Drained a (items ++ item ∷ []) c
  drained_next a b c items item h same known is =
      record {
        same = same_consumer a b c h.same same;
        taken = is ∙ (ap (λ w. w ++ item ∷ []) h.taken ∙ append_assoc (received a) items (item ∷ []));
        known = subst (λ w. IsPrefix (known_items a) w) (ap (λ w. items ++ w) known ∙ sym (append_assoc items (item ∷ []) (known_items c))) h.known;
      }

  -- where no more is known, all that was known was taken out
  pub drained_empty : (a b : Consumer Item A P) (items : List Item) → Drained a items b → known_items b ≡ [] → IsPrefix (known_items a) items
  drained_empty a b items h none = subst (λ w. IsPrefix (known_items a) w) (ap (λ w. items ++ w) none ∙ append-nil items) h.known

  -- as it was where as many items were taken out as were known
  pub drained_all : (a b : Consumer Item A P) (items : List Item) → Drained a items b → length (known_items a) ≤ length items → IsPrefix (known_items a) items
  drained_all a b items h le = prefix_short (known_items a) items (known_items b) h.known le

  -- one ring more
  received_at : (before now : List (Consumer Item A P)) (ts : List (ℕ × Item)) (k j : ℕ) (r d : Consumer Item A P) (items : List Item) (b : Bool)
      → (k == j) ≡ b → Received before ts now → k < length now → j < length before
      → Drained (get_or now k d) items r
      → SameConsumer (get_or before j d) (get_or (set now k r) j d) × (received (get_or (set now k r) j d) ≡ received (get_or before j d) ++ items_from j (ts ++ map (λ item. (k, item)) items))
  received_at before now ts k j r d items true e h within below drained =
      let same : k ≡ j = eqb-true k j e in
      let n = h.items k d (subst (λ i. i < length before) (sym same) below) in
      let s = h.same k d (subst (λ i. i < length before) (sym same) below) in
      let at = get_or-set_same now k r d within in
      let from = items_append k ts (map (λ item. (k, item)) items) ∙ ap (λ w. items_from k ts ++ w) (items_same k items) in
      subst (λ i. SameConsumer (get_or before i d) (get_or (set now k r) i d) × (received (get_or (set now k r) i d) ≡ received (get_or before i d) ++ items_from i (ts ++ map (λ item. (k, item)) items))) same
      (subst (λ z. SameConsumer (get_or before k d) z × (received z ≡ received (get_or before k d) ++ items_from k (ts ++ map (λ item. (k, item)) items))) (sym at) (
        same_consumer (get_or before k d) (get_or now k d) r s drained.same,
        drained.taken ∙ (ap (λ w. w ++ items) n ∙ (append_assoc (received (get_or before k d)) (items_from k ts) items ∙ ap (λ w. received (get_or before k d) ++ w) (sym from))),
      ))
  received_at before now ts k j r d items false e h within below drained =
      let apart : get_or (set now k r) j d ≡ get_or now j d = get_or-set_other now k j r d (λ q. absurd (eqb-false k j e (sym q))) in
      let from = items_append j ts (map (λ item. (k, item)) items) ∙ (ap (λ w. items_from j ts ++ w) (items_other j k items e) ∙ append-nil (items_from j ts)) in
      subst (λ z. SameConsumer (get_or before j d) z × (received z ≡ received (get_or before j d) ++ items_from j (ts ++ map (λ item. (k, item)) items))) (sym apart)
      (h.same j d below, h.items j d below ∙ ap (λ w. received (get_or before j d) ++ w) (sym from))

  pub received_next : (before now : List (Consumer Item A P)) (ts : List (ℕ × Item)) (k : ℕ) (r one : Consumer Item A P) (items : List Item)
      → Received before ts now → k < length now → Drained (get_or now k one) items r
      → Received before (ts ++ map (λ item. (k, item)) items) (set now k r)
  received_next before now ts k r one items h within drained =
      let at = λ (j : ℕ) (d : Consumer Item A P) (below : j < length before). received_at before now ts k j r d items (k == j) refl h within below (subst (λ z. Drained z items r) (get_or_default now k one d within) drained) in
      record {
        count = length-set now k r ∙ h.count;
        same = λ j d below. (at j d below).0;
        items = λ j d below. (at j d below).1;
        others = λ j above. items_apart j k ts items (λ e. omega (arith, e, above, within, h.count)) ∙ h.others j above;
      }

  -- what was known of one ring more was taken out of it
  pub known_next : (before : List (Consumer Item A P)) (ts : List (ℕ × Item)) (k : ℕ) (items : List Item) (one : Consumer Item A P)
      → ((j : ℕ) (d : Consumer Item A P) → j < k → IsPrefix (known_items (get_or before j d)) (items_from j ts))
      → items_from k ts ≡ []
      → ((d : Consumer Item A P) → get_or before k d ≡ one)
      → IsPrefix (known_items one) items
      → (j : ℕ) (d : Consumer Item A P) → j < k + 1 → IsPrefix (known_items (get_or before j d)) (items_from j (ts ++ map (λ item. (k, item)) items))
  known_next before ts k items one earlier none is known j d below =
      below_more (λ i. IsPrefix (known_items (get_or before i d)) (items_from i (ts ++ map (λ item. (k, item)) items))) k
      (λ i u. subst (λ w. IsPrefix (known_items (get_or before i d)) w) (sym (items_apart i k ts items (λ e. omega arith))) (earlier i d u))
      (subst (λ w. IsPrefix (known_items w) (items_from k (ts ++ map (λ item. (k, item)) items))) (sym (is d))
      (subst (λ w. IsPrefix (known_items one) w) (sym (items_append k ts (map (λ item. (k, item)) items) ∙ ap₂ ◌++◌ none (items_same k items))) known))
      j below

  -- nothing was taken
  pub received_none : (a : List (Consumer Item A P)) → Received a [] a
  received_none a = record { count = refl; same = λ j d below. consumer_itself (get_or a j d); items = λ j d below. sym (append-nil (received (get_or a j d))); others = λ j above. refl }

  -- more was taken
  pub received_append : (a b c : List (Consumer Item A P)) (ts us : List (ℕ × Item)) → Received a ts b → Received b us c → Received a (ts ++ us) c
  received_append a b c ts us h k =
      let within = λ (j : ℕ) (below : j < length a). subst (λ n. j < n) (sym h.count) below in
      record {
        count = k.count ∙ h.count;
        same = λ j d below. same_consumer (get_or a j d) (get_or b j d) (get_or c j d) (h.same j d below) (k.same j d (within j below));
        items = λ j d below.
            k.items j d (within j below)
            ∙ (ap (λ w. w ++ items_from j us) (h.items j d below)
            ∙ (append_assoc (received (get_or a j d)) (items_from j ts) (items_from j us)
            ∙ ap (λ w. received (get_or a j d) ++ w) (sym (items_append j ts us))));
        others = λ j above. items_append j ts us ∙ ap₂ ◌++◌ (h.others j above) (k.others j (subst (λ n. n ≤ j) (sym h.count) above));
      }

-- the rings that are still ahead
pub none_next : (ts : List (ℕ × Item)) (k : ℕ) (items : List Item) → ((j : ℕ) → k ≤ j → items_from j ts ≡ []) → (j : ℕ) → k + 1 ≤ j → items_from j (ts ++ map (λ item. (k, item)) items) ≡ []
none_next ts k items before j above = items_apart j k ts items (λ e. omega arith) ∙ before j (omega arith)

-- items are taken ring after ring
later_than : (k : ℕ) (t : ℕ × Item) (ts : List (ℕ × Item)) (items : List Item) → t.0 < k → AllByRecursion (λ (u : ℕ × Item). t.0 ≤ u.0) ts
    → AllByRecursion (λ (u : ℕ × Item). t.0 ≤ u.0) (ts ++ map (λ item. (k, item)) items)
later_than k t [] [] below h = tt
later_than k t [] (x ∷ xs) below h = (omega (arith, below), later_than k t [] xs below tt)
later_than k t (u ∷ ts) items below h = (h.0, later_than k t ts items below h.1)

same_turn : (k : ℕ) (items : List Item) → AllByRecursion (λ (u : ℕ × Item). k ≤ u.0) (map (λ item. (k, item)) items)
same_turn k [] = tt
same_turn k (x ∷ xs) = (omega arith, same_turn k xs)

pub turn_next : (k : ℕ) (ts : List (ℕ × Item)) (items : List Item) → AllByRecursion (λ (t : ℕ × Item). t.0 < k) ts → AreInTurn ts → AreInTurn (ts ++ map (λ item. (k, item)) items)
turn_next k [] [] below h = tt
turn_next k [] (x ∷ xs) below h = (same_turn k xs, turn_next k [] xs tt tt)
turn_next k (t ∷ ts) items below h = (later_than k t ts items below.0 h.0, turn_next k ts items below.1 h.1)

pub below_next : (k : ℕ) (ts : List (ℕ × Item)) (items : List Item) → AllByRecursion (λ (t : ℕ × Item). t.0 < k) ts → AllByRecursion (λ (t : ℕ × Item). t.0 < k + 1) (ts ++ map (λ item. (k, item)) items)
below_next k [] [] h = tt
below_next k [] (x ∷ xs) h = (omega arith, below_next k [] xs tt)
below_next k (t ∷ ts) items h = (omega (arith, h.0), below_next k ts items h.1)

module _ {A P : Type 0} where
  most_at : (before : List (Consumer Item A P)) (ts : List (ℕ × Item)) (k j : ℕ) (items : List Item) (one d : Consumer Item A P) (b : Bool) → (k == j) ≡ b
      → items_from k ts ≡ [] → ((e : Consumer Item A P) → get_or before k e ≡ one) → length items ≤ consumer_capacity one
      → length (items_from j ts) ≤ consumer_capacity (get_or before j d)
      → length (items_from j (ts ++ map (λ item. (k, item)) items)) ≤ consumer_capacity (get_or before j d)
  most_at before ts k j items one d true e none is few before_most =
      subst (λ i. length (items_from i (ts ++ map (λ item. (k, item)) items)) ≤ consumer_capacity (get_or before i d)) (eqb-true k j e)
      (subst (λ z. length (items_from k (ts ++ map (λ item. (k, item)) items)) ≤ consumer_capacity z) (sym (is d))
      (subst (λ w. length w ≤ consumer_capacity one) (sym (items_append k ts (map (λ item. (k, item)) items) ∙ ap₂ ◌++◌ none (items_same k items))) few))
  most_at before ts k j items one d false e none is few before_most =
      subst (λ w. length w ≤ consumer_capacity (get_or before j d)) (sym (items_apart j k ts items (λ q. absurd (eqb-false k j e q)))) before_most

  -- no more was taken out of a ring than it has places
  pub most_next : (before : List (Consumer Item A P)) (ts : List (ℕ × Item)) (k : ℕ) (items : List Item) (one : Consumer Item A P)
      → items_from k ts ≡ [] → ((e : Consumer Item A P) → get_or before k e ≡ one) → length items ≤ consumer_capacity one
      → ((j : ℕ) (d : Consumer Item A P) → j < length before → length (items_from j ts) ≤ consumer_capacity (get_or before j d))
      → (j : ℕ) (d : Consumer Item A P) → j < length before → length (items_from j (ts ++ map (λ item. (k, item)) items)) ≤ consumer_capacity (get_or before j d)
  most_next before ts k items one none is few most j d below = most_at before ts k j items one d (k == j) refl none is few (most j d below)
