-- The sample with a number.
use Rattle.std.proofs.Common.{◌≡◌, ◌+◌, ◌-◌, ◌*◌, ◌/◌, ◌<◌, ℕ, zero, suc, List, [], ◌∷◌, ◌++◌, length, take, drop, get_or, Some, refl, sym, ap, ◌∙◌, arith, append-nil}
use Rattle.std.specs.List.{slice_get, flat_map}
use Rattle.std.specs.Option.{option_map}
use Rattle.std.proofs.lemmas.Option.{slice_get-map, slice_get-get_or}
use Rattle.std.proofs.lemmas.List.{length-map, length-append, take_more, drop_more, flat_map_more}
use Rattle.std.proofs.lemmas.Grind.{flat_map-append}
use Rattle.std.proofs.Math.Nat.{suc-mul, zero-mul}
use Rattle.hk_base.specs.Payload.{Group, repetitions, simple_group, places}
use Rattle.hk_base.specs.declared.types.SuperList.{SuperList}
use Rattle.hk_base.specs.declared.types.Definition.{Definition}
use Rattle.hk_base.specs.declared.types.Place.{Place}
use Rattle.sample_slots.specs.Slots.{slot_places, array_places}

pub slice_get-append_left : {X : Type 0} (xs ys : List X) (n : ℕ) → n < length xs → slice_get (xs ++ ys) n ≡ slice_get xs n
slice_get-append_left [] ys n h = absurd (omega arith)
slice_get-append_left (x ∷ xs) ys zero h = refl
slice_get-append_left (x ∷ xs) ys (suc n) h = slice_get-append_left xs ys n (omega (arith, h))

pub slice_get-append_right : {X : Type 0} (xs ys : List X) (k n : ℕ) → n ≡ length xs + k → slice_get (xs ++ ys) n ≡ slice_get ys k
slice_get-append_right [] ys k n e = ap (λ i. slice_get ys i) (omega (arith, e))
slice_get-append_right (x ∷ xs) ys k zero e = absurd (omega (arith, e))
slice_get-append_right (x ∷ xs) ys k (suc n) e = slice_get-append_right xs ys k n (omega (arith, e))

-- the samples of a group
abbrev pub group_places : ℕ → Group → List Place
group_places last g = slot_places (last - g.lag) g.params

pub length-slot_places : (slot : ℕ) (ids : List ℕ) → length (slot_places slot ids) ≡ length ids
length-slot_places slot ids = length-map ids (λ (id : ℕ). record { param = id; slot = slot })

slice_get-slot_places : (slot : ℕ) (ids : List ℕ) (m : ℕ) → m < length ids → slice_get (slot_places slot ids) m ≡ Some (record { param = get_or ids m 0; slot = slot })
slice_get-slot_places slot ids m h =
    slice_get-map (λ (id : ℕ). record { param = id; slot = slot }) ids m ∙ ap (λ o. option_map (λ (id : ℕ). record { param = id; slot = slot }) o) (slice_get-get_or ids m 0 h)

-- member m of repetition q, from 0
slice_get-repetitions : (last : ℕ) (ids : List ℕ) (spacing r q m n : ℕ) → n ≡ q * length ids + m → q < r → m < length ids
    → slice_get (flat_map (group_places last) (repetitions ids spacing r)) n ≡ Some (record { param = get_or ids m 0; slot = last - (r - 1 - q) * spacing })
slice_get-repetitions last ids spacing zero q m n e h g = absurd (omega arith)
slice_get-repetitions last ids spacing (suc r) zero m n e h g =
    let here = slot_places (last - r * spacing) ids in
    let rest = flat_map (group_places last) (repetitions ids spacing r) in
    slice_get-append_left here rest n (omega (arith, length-slot_places (last - r * spacing) ids, e, zero-mul (length ids), g))
    ∙ (ap (λ i. slice_get here i) (omega (arith, e, zero-mul (length ids)))
    ∙ (slice_get-slot_places (last - r * spacing) ids m g
    ∙ ap (λ k. Some (record { param = get_or ids m 0; slot = last - k * spacing })) (omega arith)))
slice_get-repetitions last ids spacing (suc r) (suc q) m n e h g =
    slice_get-append_right (slot_places (last - r * spacing) ids) (flat_map (group_places last) (repetitions ids spacing r)) (q * length ids + m) n (omega (arith, length-slot_places (last - r * spacing) ids, e, suc-mul q (length ids)))
    ∙ (slice_get-repetitions last ids spacing r q m (q * length ids + m) refl (omega (arith, h)) g
    ∙ ap (λ k. Some (record { param = get_or ids m 0; slot = last - k * spacing })) (omega arith))

length-repetitions : (last : ℕ) (ids : List ℕ) (spacing r : ℕ) → length (flat_map (group_places last) (repetitions ids spacing r)) ≡ r * length ids
length-repetitions last ids spacing zero = sym (zero-mul (length ids))
length-repetitions last ids spacing (suc r) =
    length-append (slot_places (last - r * spacing) ids) (flat_map (group_places last) (repetitions ids spacing r))
    ∙ omega (arith, length-slot_places (last - r * spacing) ids, length-repetitions last ids spacing r, suc-mul r (length ids))

pub length-array_places : (last n : ℕ) (array : SuperList) → length (array_places last n array) ≡ array.repetition * length array.params
length-array_places last n array = length-repetitions last array.params (n / array.repetition) array.repetition

-- a sample of an array
pub array_place_at : (last n : ℕ) (array : SuperList) (q m number : ℕ) → number ≡ q * length array.params + m → q < array.repetition → m < length array.params
    → slice_get (array_places last n array) number ≡ Some (record { param = get_or array.params m 0; slot = last - (array.repetition - 1 - q) * (n / array.repetition) })
array_place_at last n array q m number e h g = slice_get-repetitions last array.params (n / array.repetition) array.repetition q m number e h g

simple_places : (last : ℕ) (ids : List ℕ) → flat_map (group_places last) (simple_group ids) ≡ slot_places last ids
simple_places last [] = refl
simple_places last (id ∷ ids) = single (λ (slot : ℕ). slot_places slot (id ∷ ids)) (last - 0) last (omega arith)
  where
    single : (f : ℕ → List Place) (a b : ℕ) → a ≡ b → f a ++ [] ≡ f b
    single f a b e = append-nil (f a) ∙ ap f e

arrays_places : (last n : ℕ) (arrays : List SuperList) → flat_map (group_places last) (flat_map (λ (a : SuperList). repetitions a.params (n / a.repetition) a.repetition) arrays) ≡ flat_map (array_places last n) arrays
arrays_places last n [] = refl
arrays_places last n (a ∷ arrays) =
    flat_map-append (group_places last) (repetitions a.params (n / a.repetition) a.repetition) (flat_map (λ (a : SuperList). repetitions a.params (n / a.repetition) a.repetition) arrays)
    ∙ ap (λ ps. array_places last n a ++ ps) (arrays_places last n arrays)

-- the samples of a report: those of the simple parameters, and then array by array
pub places_are : (d : Definition) (last : ℕ) → places d last ≡ slot_places last d.simple ++ flat_map (array_places last d.interval) d.arrays
places_are d last =
    flat_map-append (group_places last) (simple_group d.simple) (flat_map (λ (a : SuperList). repetitions a.params (d.interval / a.repetition) a.repetition) d.arrays)
    ∙ (ap (λ ps. ps ++ flat_map (group_places last) (flat_map (λ (a : SuperList). repetitions a.params (d.interval / a.repetition) a.repetition) d.arrays)) (simple_places last d.simple)
    ∙ ap (λ ps. slot_places last d.simple ++ ps) (arrays_places last d.interval d.arrays))

-- the next part, and what is behind it
pub opened : {X Y : Type 0} (f : X → List Y) (xs : List X) (i : ℕ) (x : X) → i < length xs → x ≡ get_or xs i x → flat_map f (drop i xs) ≡ f x ++ flat_map f (drop (i + 1) xs)
opened f xs i x h e = ap (λ ys. flat_map f ys) (drop_more xs i x h ∙ ap (λ y. y ∷ drop (i + 1) xs) (sym e))

-- what lies in the next part
pub in_first : {X Y : Type 0} (f : X → List Y) (xs : List X) (i : ℕ) (x : X) (n : ℕ) → i < length xs → x ≡ get_or xs i x → n < length (f x) → slice_get (flat_map f (drop i xs)) n ≡ slice_get (f x) n
in_first f xs i x n h e g = ap (λ ys. slice_get ys n) (opened f xs i x h e) ∙ slice_get-append_left (f x) (flat_map f (drop (i + 1) xs)) n g

-- what lies behind it
pub in_later : {X Y : Type 0} (f : X → List Y) (xs : List X) (i : ℕ) (x : X) (n k : ℕ) → i < length xs → x ≡ get_or xs i x → n ≡ length (f x) + k → slice_get (flat_map f (drop i xs)) n ≡ slice_get (flat_map f (drop (i + 1) xs)) k
in_later f xs i x n k h e g = ap (λ ys. slice_get ys n) (opened f xs i x h e) ∙ slice_get-append_right (f x) (flat_map f (drop (i + 1) xs)) k n g

-- one part more
pub length-more : {X Y : Type 0} (f : X → List Y) (front : List Y) (xs : List X) (i : ℕ) (x : X) → i < length xs → x ≡ get_or xs i x → length (front ++ flat_map f (take (i + 1) xs)) ≡ length (front ++ flat_map f (take i xs)) + length (f x)
length-more f front xs i x h e =
    ap (λ ys. length (front ++ flat_map f ys)) (take_more xs i x h ∙ ap (λ y. take i xs ++ y ∷ []) (sym e))
    ∙ (ap (λ (ys : List _). length ys) (sym (flat_map_more f front (take i xs) x)) ∙ length-append (front ++ flat_map f (take i xs)) (f x))

-- a sample of the arrays
pub in_arrays : (d : Definition) (last n k : ℕ) → n ≡ length d.simple + k → slice_get (places d last) n ≡ slice_get (flat_map (array_places last d.interval) d.arrays) k
in_arrays d last n k e =
    ap (λ ps. slice_get ps n) (places_are d last)
    ∙ slice_get-append_right (slot_places last d.simple) (flat_map (array_places last d.interval) d.arrays) k n (omega (arith, length-slot_places last d.simple, e))
