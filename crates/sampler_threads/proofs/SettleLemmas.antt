-- What a settling does, put together: of samplers with their ends, and of bare ends.
use Rattle.std.proofs.Common.{◌≡◌, ℕ, ◌+◌, ◌<◌, ◌≤◌, List, [], ◌∷◌, ◌++◌, length, refl, sym, ◌∙◌, ap, subst, arith}
use mathlib.Core.List.{IsPrefix}
use lib.ListN.{get_or}
use Rattle.std.proofs.lemmas.List.{append_assoc, append-nil, length-append, nil_from_length}
use Rattle.rtrb.specs.Ring.{received, known_items, SameConsumer, IsPair}
use Rattle.sampler_threads.specs.Samples.{SameEnd, sent_by, free_of, places_of}
use Rattle.sampler_threads.specs.Deeds.{items_from}
use Rattle.sampler_threads.specs.Rings.{Received, TookKnown}
use Rattle.sampler_threads.specs.Slots.{Ring, Met, Settled, MetSampler, MetEnd, KeptSampler, KeptEnd, AtEach, WithEach}
use Rattle.sampler_threads.specs.declared.item.Item.{Item}
use Rattle.sampler_threads.specs.declared.end.SamplerEnd.{SamplerEnd}
use Rattle.sampler_threads.specs.declared.slot.Sampler.{Sampler}
use Rattle.sampler_threads.proofs.RingLemmas.{received_append, same_end}

-- the ends of a ring stay a pair
pub pair_kept : (e : SamplerEnd) (a b : Ring) → IsPair e.producer a → SameConsumer a b → IsPair e.producer b
pair_kept e a b h k = (k.0.0 ∙ h.0, k.0.1 ∙ h.1, k.0.2 ∙ h.2, k.0.3 ∙ h.3)

-- all that was sent was taken where all that was known was
pub settled_at : (a b c : Ring) (e : SamplerEnd) (items : List Item) (sent : List Item)
    → received a ++ known_items a ≡ sent → received b ≡ received a ++ items → IsPrefix (known_items a) items → received c ≡ received b
    → received c ++ known_items c ≡ sent_by e → sent_by e ≡ sent → places_of e + length (received c) ≤ free_of e + length (sent_by e)
    → Settled c e
settled_at a b c e items sent whole taken known looked again same free =
    let rest = known.0 in
    let beyond : received c ≡ sent ++ rest =
    looked ∙ (taken ∙ (ap (λ w. received a ++ w) (sym known.1) ∙ (sym (append_assoc (received a) (known_items a) rest) ∙ ap (λ w. w ++ rest) whole))) in
    let lengths = ap length beyond ∙ length-append sent rest in
    let all = sym (length-append (received c) (known_items c)) ∙ ap length (again ∙ same) in
    let none : known_items c ≡ [] = nil_from_length (known_items c) (omega (arith, lengths, all)) in
    let here : received c ≡ sent_by e = sym (append-nil (received c)) ∙ (ap (λ w. received c ++ w) (sym none) ∙ again) in
    record { whole = here; free = omega (arith, free, ap length here) }

-- a member of a list that has one
pub some_of : {X : Type 0} (xs : List X) (k : ℕ) → k < length xs → X
some_of [] k below = absurd (omega (arith, below))
some_of (x ∷ xs) k below = x

-- what holds an end, and what a look and a settling leave of it
pub record Holder (X : Type 0) : Type 1 where
  pub end : X → SamplerEnd
  pub IsMet : Ring → Ring → X → X → Type 0
  pub IsKept : Ring → Ring → X → X → Type 0
  pub met : (a b : Ring) (x y : X) → IsMet a b x y → Met a (end x) b (end y)
  pub keeps : (a b c : Ring) (x y : X) → IsMet a b x y → IsKept a c x y
  pub keeps_on : (a b c : Ring) (x y z : X) → IsKept a b x y → IsMet b c y z → IsKept a c x z

-- samplers
abbrev pub samplers : {N : Type 0} → Holder (Sampler N)
samplers {N} =
    record {
      end = λ s. s.end;
      IsMet = MetSampler;
      IsKept = KeptSampler;
      met = λ a b x y m. m.0;
      keeps = λ a b c x y m. (m.0.same, m.0.sent, m.1, m.2);
      keeps_on = λ a b c x y z k m. (same_end x.end y.end z.end k.0 m.0.same, m.0.sent ∙ k.1, m.1 ∙ k.2, m.2 ∙ k.3);
    }

-- bare ends
abbrev pub bare : Holder SamplerEnd
bare =
    record {
      end = λ e. e;
      IsMet = MetEnd;
      IsKept = KeptEnd;
      met = λ a b x y m. m;
      keeps = λ a b c x y m. (m.same, m.sent);
      keeps_on = λ a b c x y z k m. (same_end x y z k.0 m.same, m.sent ∙ k.1);
    }

module _ {X : Type 0} (o : Holder X) where
  -- the two looks at one ring
  met_at : (rings after : List Ring) (xs ys : List X) → AtEach o.IsMet rings after xs ys → (j : ℕ) (r : Ring) (x : X) → j < length rings
      → Met (get_or rings j r) (o.end (get_or xs j x)) (get_or after j r) (o.end (get_or ys j x))
  met_at rings after xs ys h j r x below = o.met (get_or rings j r) (get_or after j r) (get_or xs j x) (get_or ys j x) (h.each j r x below)

  -- a meeting takes nothing
  pub met_received : (rings after : List Ring) (xs ys : List X) → length xs ≡ length rings → AtEach o.IsMet rings after xs ys → Received rings [] after
  met_received rings after xs ys count h =
      let met = λ (j : ℕ) (d : Ring) (below : j < length rings). (met_at rings after xs ys h j d (some_of xs j (omega (arith, count, below))) below).looked in
      record {
        count = h.count;
        same = λ j d below. (met j d below).0;
        items = λ j d below. (met j d below).1 ∙ sym (append-nil (received (get_or rings j d)));
        others = λ j above. refl;
      }

  -- the ends after a meeting
  pub met_ends : (rings after : List Ring) (xs ys : List X) → length xs ≡ length rings → AtEach o.IsMet rings after xs ys → WithEach (λ ring x. IsPair (o.end x).producer ring) after ys
  met_ends rings after xs ys count h =
      record {
        count = h.others ∙ (count ∙ sym h.count);
        each = λ j r x below. (met_at rings after xs ys h j r x (omega (arith, h.count, below))).pair;
      }

  -- what is known after a meeting
  pub met_whole : (rings after : List Ring) (xs ys : List X) → length xs ≡ length rings → AtEach o.IsMet rings after xs ys
      → WithEach (λ ring x. received ring ++ known_items ring ≡ sent_by (o.end x)) after ys
  met_whole rings after xs ys count h =
      record {
        count = h.others ∙ (count ∙ sym h.count);
        each = λ j r x below. (met_at rings after xs ys h j r x (omega (arith, h.count, below))).whole;
      }

  -- the ends after items were taken
  pub taken_ends : (rings after : List Ring) (ts : List (ℕ × Item)) (xs : List X) → WithEach (λ ring x. IsPair (o.end x).producer ring) rings xs → Received rings ts after
      → WithEach (λ ring x. IsPair (o.end x).producer ring) after xs
  taken_ends rings after ts xs h k =
      record {
        count = h.count ∙ sym k.count;
        each = λ j r x below.
            let inside : j < length rings = omega (arith, k.count, below) in
            pair_kept (o.end (get_or xs j x)) (get_or rings j r) (get_or after j r) (h.each j r x inside) (k.same j r inside);
      }

  -- what is kept in a meeting, and while items are taken
  pub met_kept : (rings after later : List Ring) (ts : List (ℕ × Item)) (xs ys : List X) → AtEach o.IsMet rings after xs ys → Received after ts later → AtEach o.IsKept rings later xs ys
  met_kept rings after later ts xs ys h k =
      record {
        count = k.count ∙ h.count;
        others = h.others;
        each = λ j r x below. o.keeps (get_or rings j r) (get_or after j r) (get_or later j r) (get_or xs j x) (get_or ys j x) (h.each j r x below);
      }

  -- in two meetings
  pub kept_twice : (rings later last : List Ring) (xs ys zs : List X) → AtEach o.IsKept rings later xs ys → AtEach o.IsMet later last ys zs → AtEach o.IsKept rings last xs zs
  kept_twice rings later last xs ys zs h k =
      record {
        count = k.count ∙ h.count;
        others = k.others ∙ h.others;
        each = λ j r x below.
            o.keeps_on (get_or rings j r) (get_or later j r) (get_or last j r) (get_or xs j x) (get_or ys j x) (get_or zs j x)
            (h.each j r x below) (k.each j r x (omega (arith, h.count, below)));
      }

  -- all that was sent was taken
  pub all_settled : (rings after later last : List Ring) (ts : List (ℕ × Item)) (xs ys zs : List X) → length xs ≡ length rings
      → AtEach o.IsMet rings after xs ys → Received after ts later → TookKnown after ts → AtEach o.IsMet later last ys zs
      → WithEach (λ ring x. Settled ring (o.end x)) last zs
  all_settled rings after later last ts xs ys zs count h k known m =
      record {
        count = m.others ∙ (h.others ∙ (count ∙ sym (m.count ∙ (k.count ∙ h.count))));
        each = λ j r x below.
            let in_later : j < length later = omega (arith, m.count, below) in
            let in_after : j < length after = omega (arith, k.count, in_later) in
            let in_rings : j < length rings = omega (arith, h.count, in_after) in
            let a = met_at rings after xs ys h j r x in_rings in
            let b = met_at later last ys zs m j r x in_later in
            settled_at (get_or after j r) (get_or later j r) (get_or last j r) (o.end (get_or zs j x)) (items_from j ts) (sent_by (o.end (get_or ys j x)))
            a.whole (k.items j r in_after) (known j r in_after) b.looked.1 b.whole b.sent b.free;
      }

  -- what was taken between two meetings
  pub met_twice : (rings after later last : List Ring) (ts : List (ℕ × Item)) (xs ys zs : List X) → length xs ≡ length rings
      → AtEach o.IsMet rings after xs ys → Received after ts later → AtEach o.IsMet later last ys zs → Received rings ts last
  met_twice rings after later last ts xs ys zs count h k m =
      subst (λ us. Received rings us last) (append-nil ts)
      (received_append rings later last ts [] (received_append rings after later [] ts (met_received rings after xs ys count h) k)
      (met_received later last ys zs (h.others ∙ (count ∙ sym (k.count ∙ h.count))) m))
