-- The keys that are reported at the end of a slot: of those that are held, the ones that are due are all that are due.
use Rattle.std.proofs.Common.{arith, ◌≡◌, ℕ, zero, suc, ◌+◌, ◌^◌, ◌<◌, ◌≤◌, refl, sym, ◌∙◌, ap, ap₂, subst, List, [], ◌∷◌, ◌++◌, map, filter, cond, Bool, true, false, ◌==◌, ◌&&◌, ◌||◌, nat_lt, Option, Some, None, inl, inr}
use Rattle.std.specs.Prelude.{⊤, IfSome, option_map}
use Rattle.std.specs.List.{AllByRecursion, range_with_len}
use Rattle.std.specs.Map.{lookup}
use Rattle.std.specs.Option.{option_map_or, option_and_then}
use Rattle.std.proofs.lemmas.Bool.{eq-eqb}
use Rattle.std.proofs.lemmas.Bool.Decides.{Decides-eqb, nat_tests}
use Rattle.std.proofs.lemmas.Option.{same_Some, none-some}
use Rattle.hk_base.proofs.Membership.{IsIn}
use Rattle.hk_base.specs.Parameters.{key_eq, kind_eq}
use Rattle.hk_base.specs.TailoringParts.{TailoringParts}
use Rattle.hk_base.specs.declared.types.Key.{Key}
use Rattle.hk_base.specs.declared.types.Kind.{Kind}
use Rattle.hk_base.specs.declared.types.Kind.TheVariants.{Housekeeping, Diagnostic}
use Rattle.hk_base.proofs.Membership.{IsIn-left, IsIn-right, IsIn-filter, filter-IsIn}
use Rattle.st03_grammar.specs.Instructions.{key_of}
use Rattle.hk_world.specs.Timelines.{done_instructions}
use Rattle.hk_world.proofs.OrderLemmas.{true_is_not_false}
use Rattle.board_steps.specs.Cores.{Core, session, state_of, pending}
use Rattle.board_steps.specs.Plans.{every_key, is_reported}
use Rattle.board_steps.specs.Slots.{ends_interval, is_due, is_complete}
use Rattle.board_state.specs.Holdings.{held_at, is_before, is_due_in, due_keys, one_shots_of, AreRisingKeys, AreStructures, IsHeld}
use Rattle.board_state.specs.declared.structures.Held.{Held}
use Rattle.board_state.proofs.HoldingLemmas.{keys-one}
use Rattle.board_state.proofs.RisingLemmas.{pending-is}
use Rattle.board_core.specs.Closing.{is_whole}

-- keys that rise
abbrev pub AreSorted : List Key → Type 0
AreSorted [] = ⊤
AreSorted (k ∷ ks) = AllByRecursion (λ j. is_before k j ≡ true) ks × AreSorted ks

less : (m n : ℕ) → nat_lt m n ≡ true → m < n
less m n e = grind (arith, nat_tests)

is-less : (m n : ℕ) → m < n → nat_lt m n ≡ true
is-less m n h = grind (arith, nat_tests)

-- of two keys one alone is before the other
pub before-once : (a b : Key) → is_before a b ≡ true → is_before b a ≡ true → ⊥
before-once a b e f = go a.kind b.kind a.id b.id e f
  where
    go : (k l : Kind) (m n : ℕ) → is_before (record { kind = k; id = m }) (record { kind = l; id = n }) ≡ true
        → is_before (record { kind = l; id = n }) (record { kind = k; id = m }) ≡ true → ⊥
    go Housekeeping Housekeeping m n p q = let x = less m n p in let y = less n m q in omega (arith, x, y)
    go Diagnostic Diagnostic m n p q = let x = less m n p in let y = less n m q in omega (arith, x, y)
    go Housekeeping Diagnostic m n p q = true_is_not_false (sym q)
    go Diagnostic Housekeeping m n p q = true_is_not_false (sym p)

all-in : (P : Key → Type 0) (ks : List Key) (k : Key) → AllByRecursion P ks → IsIn k ks → P k
all-in P [] k h i = absurd i
all-in P (x ∷ ks) k h (inl e) = subst P (sym e) h.0
all-in P (x ∷ ks) k h (inr i) = all-in P ks k h.1 i

-- two lists that rise and have the same members are one
pub same-sorted : (xs ys : List Key) → AreSorted xs → AreSorted ys → ((k : Key) → IsIn k xs → IsIn k ys) → ((k : Key) → IsIn k ys → IsIn k xs) → xs ≡ ys
same-sorted [] [] p q f g = refl
same-sorted [] (y ∷ ys) p q f g = absurd (g y (inl refl))
same-sorted (x ∷ xs) [] p q f g = absurd (f x (inl refl))
same-sorted (x ∷ xs) (y ∷ ys) p q f g =
    let head : x ≡ y = first (f x (inl refl)) (g y (inl refl)) in
    let tails : xs ≡ ys = same-sorted xs ys p.1 q.1 (λ k i. rest_left head k i (f k (inr i))) (λ k i. rest_right head k i (g k (inr i))) in
    ap₂ (λ (z : Key) (zs : List Key). z ∷ zs) head tails
  where
    first : IsIn x (y ∷ ys) → IsIn y (x ∷ xs) → x ≡ y
    first (inl e) j = e
    first (inr i) (inl e) = sym e
    first (inr i) (inr j) = absurd (before-once x y (all-in (λ k. is_before x k ≡ true) xs y p.0 j) (all-in (λ k. is_before y k ≡ true) ys x q.0 i))

    rest_left : x ≡ y → (k : Key) → IsIn k xs → IsIn k (y ∷ ys) → IsIn k ys
    rest_left same k i (inl e) =
        let b = all-in (λ j. is_before x j ≡ true) xs k p.0 i in
        let c : is_before x x ≡ true = subst (λ j. is_before x j ≡ true) (e ∙ sym same) b in
        absurd (before-once x x c c)
    rest_left same k i (inr j) = j

    rest_right : x ≡ y → (k : Key) → IsIn k ys → IsIn k (x ∷ xs) → IsIn k xs
    rest_right same k i (inl e) =
        let b = all-in (λ j. is_before y j ≡ true) ys k q.0 i in
        let c : is_before y y ≡ true = subst (λ j. is_before y j ≡ true) (e ∙ same) b in
        absurd (before-once y y c c)
    rest_right same k i (inr j) = j

all-filtered : (P : Key → Type 0) (f : Key → Bool) (ks : List Key) → AllByRecursion P ks → AllByRecursion P (filter f ks)
all-filtered P f [] h = tt
all-filtered P f (k ∷ ks) h = go (f k) (all-filtered P f ks h.1)
  where
    go : (b : Bool) → AllByRecursion P (filter f ks) → AllByRecursion P (cond b (k ∷ filter f ks) (filter f ks))
    go true rest = (h.0, rest)
    go false rest = rest

sorted-filter : (f : Key → Bool) (ks : List Key) → AreSorted ks → AreSorted (filter f ks)
sorted-filter f [] h = tt
sorted-filter f (k ∷ ks) h = go (f k) (sorted-filter f ks h.1)
  where
    go : (b : Bool) → AreSorted (filter f ks) → AreSorted (cond b (k ∷ filter f ks) (filter f ks))
    go true rest = (all-filtered (λ j. is_before k j ≡ true) f ks h.0, rest)
    go false rest = rest

-- all keys rise
from-low : (kind : Kind) (a m n : ℕ) → a < m → AllByRecursion (λ j. is_before (key_of kind a) j ≡ true) (map (key_of kind) (range_with_len m n))
from-low kind a m zero h = tt
from-low kind a m (suc n) h = (one kind, from-low kind a (m + 1) n (omega (arith, h)))
  where
    one : (k : Kind) → is_before (key_of k a) (key_of k m) ≡ true
    one Housekeeping = is-less a m h
    one Diagnostic = is-less a m h

sorted-range : (kind : Kind) (m n : ℕ) → AreSorted (map (key_of kind) (range_with_len m n))
sorted-range kind m zero = tt
sorted-range kind m (suc n) = (from-low kind m (m + 1) n (omega arith), sorted-range kind (m + 1) n)

before-diagnostics : (a m n : ℕ) → AllByRecursion (λ j. is_before (key_of Housekeeping a) j ≡ true) (map (key_of Diagnostic) (range_with_len m n))
before-diagnostics a m zero = tt
before-diagnostics a m (suc n) = (refl, before-diagnostics a (m + 1) n)

all-appended : (P : Key → Type 0) (xs ys : List Key) → AllByRecursion P xs → AllByRecursion P ys → AllByRecursion P (xs ++ ys)
all-appended P [] ys h g = g
all-appended P (x ∷ xs) ys h g = (h.0, all-appended P xs ys h.1 g)

sorted-both : (m n k : ℕ) → AreSorted (map (key_of Housekeeping) (range_with_len m n) ++ map (key_of Diagnostic) (range_with_len 0 k))
sorted-both m zero k = sorted-range Diagnostic 0 k
sorted-both m (suc n) k = (
  all-appended (λ j. is_before (key_of Housekeeping m) j ≡ true) (map (key_of Housekeeping) (range_with_len (m + 1) n)) (map (key_of Diagnostic) (range_with_len 0 k))
      (from-low Housekeeping m (m + 1) n (omega arith)) (before-diagnostics m 0 k),
  sorted-both (m + 1) n k,
)

pub every-sorted : (t : TailoringParts) → AreSorted (every_key t)
every-sorted t = sorted-both 0 (256 ^ t.widths.structure_octets) (256 ^ t.widths.structure_octets)

in-range : (kind : Kind) (m n k : ℕ) → m ≤ k → k < m + n → IsIn (key_of kind k) (map (key_of kind) (range_with_len m n))
in-range kind m zero k low high = absurd (omega (arith, low, high))
in-range kind m (suc n) k low high = go (m == k) refl (λ above. in-range kind (m + 1) n k above (omega (arith, high)))
  where
    go : (b : Bool) → (m == k) ≡ b → (m + 1 ≤ k → IsIn (key_of kind k) (map (key_of kind) (range_with_len (m + 1) n))) → IsIn (key_of kind k) (map (key_of kind) (range_with_len m (suc n)))
    go true e rest = inl (ap (key_of kind) (sym ((Decides-eqb m k).0 e)))
    go false e rest = inr (rest (above (λ same. true_is_not_false (sym (eq-eqb m k same) ∙ e))))
      where
        above : (m ≡ k → ⊥) → m + 1 ≤ k
        above other = grind (arith, other, low)

-- a key whose ID fits its field is among all keys
pub every-has : (t : TailoringParts) (key : Key) → key.id < 256 ^ t.widths.structure_octets → IsIn key (every_key t)
every-has t key small = go key.kind key.id small
  where
    n : ℕ
    n = 256 ^ t.widths.structure_octets

    go : (kind : Kind) (id : ℕ) → id < 256 ^ t.widths.structure_octets → IsIn (key_of kind id) (every_key t)
    go Housekeeping id h =
        IsIn-left (key_of Housekeeping id) (map (key_of Housekeeping) (range_with_len 0 n)) (map (key_of Diagnostic) (range_with_len 0 n))
        (in-range Housekeeping 0 n id (omega arith) (omega (arith, h)))
    go Diagnostic id h =
        IsIn-right (key_of Diagnostic id) (map (key_of Housekeeping) (range_with_len 0 n)) (map (key_of Diagnostic) (range_with_len 0 n))
        (in-range Diagnostic 0 n id (omega arith) (omega (arith, h)))

-- the keys that are due rise
all-due-keys : (P : Key → Type 0) (slot : ℕ) (held : List (Key × Held)) → AllByRecursion (λ x. P x.0) held → AllByRecursion P (due_keys slot held)
all-due-keys P slot [] h = tt
all-due-keys P slot (x ∷ xs) h = go (is_due_in slot x.1) (all-due-keys P slot xs h.1)
  where
    go : (b : Bool) → AllByRecursion P (due_keys slot xs) → AllByRecursion P (map (λ (y : Key × Held). y.0) (cond b (x ∷ filter (λ (y : Key × Held). is_due_in slot y.1) xs) (filter (λ (y : Key × Held). is_due_in slot y.1) xs)))
    go true rest = (h.0, rest)
    go false rest = rest

pub due-sorted : (slot : ℕ) (held : List (Key × Held)) → AreRisingKeys held → AreSorted (due_keys slot held)
due-sorted slot [] h = tt
due-sorted slot (x ∷ xs) h = go (is_due_in slot x.1) (due-sorted slot xs h.1)
  where
    go : (b : Bool) → AreSorted (due_keys slot xs) → AreSorted (map (λ (y : Key × Held). y.0) (cond b (x ∷ filter (λ (y : Key × Held). is_due_in slot y.1) xs) (filter (λ (y : Key × Held). is_due_in slot y.1) xs)))
    go true rest = (all-due-keys (λ j. is_before x.0 j ≡ true) slot xs h.0, rest)
    go false rest = rest

pub key-self : (key : Key) → key_eq key key ≡ true
key-self key = go key.kind key.id
  where
    go : (k : Kind) (n : ℕ) → (kind_eq k k && n == n) ≡ true
    go Housekeeping n = eq-eqb n n refl
    go Diagnostic n = eq-eqb n n refl

-- a key that is due is held, and what is held is due
pub due-held : (slot : ℕ) (held : List (Key × Held)) (key : Key) → AreRisingKeys held → IsIn key (due_keys slot held) → (h : Held) × (held_at held key ≡ Some h) × (is_due_in slot h ≡ true)
due-held slot [] key rising i = absurd i
due-held slot (x ∷ xs) key rising i = go (is_due_in slot x.1) refl i (λ j. due-held slot xs key rising.1 j)
  where
    later : IsIn key (due_keys slot xs) → (h : Held) × (held_at xs key ≡ Some h) × (is_due_in slot h ≡ true) → (h : Held) × (held_at (x ∷ xs) key ≡ Some h) × (is_due_in slot h ≡ true)
    later j rest =
        let after : is_before x.0 key ≡ true = all-in (λ k. is_before x.0 k ≡ true) (due_keys slot xs) key (all-due-keys (λ k. is_before x.0 k ≡ true) slot xs rising.0) j in
        let other : key_eq key x.0 ≡ false = apart (key_eq key x.0) refl after in
        (rest.0, ap (λ b. cond b (Some x.1) (held_at xs key)) other ∙ rest.1, rest.2)
      where
        apart : (b : Bool) → key_eq key x.0 ≡ b → is_before x.0 key ≡ true → key_eq key x.0 ≡ false
        apart false q a = q
        apart true q a =
            let same : key ≡ x.0 = keys-one key x.0 q in
            let own : is_before x.0 x.0 ≡ true = subst (λ k. is_before x.0 k ≡ true) same a in
            absurd (before-once x.0 x.0 own own)

    go : (b : Bool) → is_due_in slot x.1 ≡ b → IsIn key (map (λ (y : Key × Held). y.0) (cond b (x ∷ filter (λ (y : Key × Held). is_due_in slot y.1) xs) (filter (λ (y : Key × Held). is_due_in slot y.1) xs)))
        → (IsIn key (due_keys slot xs) → (h : Held) × (held_at xs key ≡ Some h) × (is_due_in slot h ≡ true))
        → (h : Held) × (held_at (x ∷ xs) key ≡ Some h) × (is_due_in slot h ≡ true)
    go true q (inl e) ih = (x.1, ap (λ b. cond b (Some x.1) (held_at xs key)) (ap (λ k. key_eq key k) (sym e) ∙ key-self key), q)
    go true q (inr j) ih = later j (ih j)
    go false q j ih = later j (ih j)

-- what is held and due is among the keys that are due
held-due : (slot : ℕ) (held : List (Key × Held)) (key : Key) (h : Held) → held_at held key ≡ Some h → is_due_in slot h ≡ true → IsIn key (due_keys slot held)
held-due slot [] key h e d = absurd (none-some h e)
held-due slot (x ∷ xs) key h e d = go (key_eq key x.0) refl e (λ f. held-due slot xs key h f d)
  where
    further : (b : Bool) → IsIn key (due_keys slot xs) → IsIn key (map (λ (y : Key × Held). y.0) (cond b (x ∷ filter (λ (y : Key × Held). is_due_in slot y.1) xs) (filter (λ (y : Key × Held). is_due_in slot y.1) xs)))
    further true i = inr i
    further false i = i

    go : (b : Bool) → key_eq key x.0 ≡ b → cond b (Some x.1) (held_at xs key) ≡ Some h → (held_at xs key ≡ Some h → IsIn key (due_keys slot xs)) → IsIn key (due_keys slot (x ∷ xs))
    go true q f rest =
        let same : x.1 ≡ h = same_Some x.1 h f in
        let due : is_due_in slot x.1 ≡ true = ap (is_due_in slot) same ∙ d in
        subst (λ b. IsIn key (map (λ (y : Key × Held). y.0) (cond b (x ∷ filter (λ (y : Key × Held). is_due_in slot y.1) xs) (filter (λ (y : Key × Held). is_due_in slot y.1) xs)))) (sym due)
        (inl (keys-one key x.0 q))
    go false q f rest = further (is_due_in slot x.1) (rest f)

module _ (c : Core) (held : List (Key × Held)) (pend : c.one_shots ≡ one_shots_of held) (h : AreStructures c.tailoring (done_instructions (session c) c.moments) held) where
  -- whether a structure is due is told by what is held of it
  pub due-is : (key : Key) (x : Held) → held_at held key ≡ Some x → is_due c key x.structure ≡ is_due_in c.slot_now x
  due-is key x e =
      let own = subst (λ o. IfSome o (IsHeld c.tailoring (done_instructions (session c) c.moments) key)) e (h.each key) in
      let shot : pending c key ≡ x.one_shot = ap (lookup (key_eq key)) pend ∙ pending-is held h.rising key ∙ ap (option_and_then (λ (y : Held). y.one_shot)) e in
      ap₂ (λ first o. (x.structure.enabled && ends_interval first x.structure.def.interval c.slot_now) || option_map_or (λ n. n + x.structure.def.interval == c.slot_now + 1) o false)
      (sym own.first) shot

  pub structure-is : (key : Key) (x : Held) → held_at held key ≡ Some x → (state_of c).structure key ≡ Some x.structure
  structure-is key x e = sym (h.same key) ∙ ap (option_map (λ (y : Held). y.structure)) e

  reported-of : (key : Key) (x : Held) → held_at held key ≡ Some x → is_reported c key ≡ (is_due_in c.slot_now x && is_complete c x.structure.def)
  reported-of key x e =
      ap (λ o. option_map_or (λ y. is_due c key y && is_complete c y.def) o false) (structure-is key x e)
      ∙ ap (λ b. b && is_complete c x.structure.def) (due-is key x e)

  whole-of : (key : Key) (x : Held) → held_at held key ≡ Some x → is_whole c key ≡ is_complete c x.structure.def
  whole-of key x e = ap (λ o. option_map_or (λ y. is_complete c y.def) o false) (structure-is key x e)

  both-true : (a b : Bool) → a ≡ true → b ≡ true → (a && b) ≡ true
  both-true a b p q = ap₂ (λ x y. x && y) p q

  parts : (a b : Bool) → (a && b) ≡ true → (a ≡ true) × (b ≡ true)
  parts true b e = (refl, e)
  parts false b e = absurd (true_is_not_false (sym e))

  -- the keys that are reported are those of all keys that are
  pub reported-keys : filter (is_whole c) (due_keys c.slot_now held) ≡ filter (is_reported c) (every_key c.tailoring)
  reported-keys =
      same-sorted (filter (is_whole c) (due_keys c.slot_now held)) (filter (is_reported c) (every_key c.tailoring))
      (sorted-filter (is_whole c) (due_keys c.slot_now held) (due-sorted c.slot_now held h.rising)) (sorted-filter (is_reported c) (every_key c.tailoring) (every-sorted c.tailoring))
      onward back
    where
      onward : (key : Key) → IsIn key (filter (is_whole c) (due_keys c.slot_now held)) → IsIn key (filter (is_reported c) (every_key c.tailoring))
      onward key i =
          let j = IsIn-filter (is_whole c) key (due_keys c.slot_now held) i in
          let d = due-held c.slot_now held key h.rising j.0 in
          let own = subst (λ o. IfSome o (IsHeld c.tailoring (done_instructions (session c) c.moments) key)) d.1 (h.each key) in
          filter-IsIn (is_reported c) key (every_key c.tailoring) (every-has c.tailoring key own.id)
          (reported-of key d.0 d.1 ∙ both-true (is_due_in c.slot_now d.0) (is_complete c d.0.structure.def) d.2 (sym (whole-of key d.0 d.1) ∙ j.1))

      back_by : (key : Key) (o : Option Held) → held_at held key ≡ o → is_reported c key ≡ true → IsIn key (filter (is_whole c) (due_keys c.slot_now held))
      back_by key None e r =
          let none : (state_of c).structure key ≡ None = sym (h.same key) ∙ ap (option_map (λ (y : Held). y.structure)) e in
          absurd (true_is_not_false (sym r ∙ ap (λ o. option_map_or (λ y. is_due c key y && is_complete c y.def) o false) none))
      back_by key (Some x) e r =
          let p = parts (is_due_in c.slot_now x) (is_complete c x.structure.def) (sym (reported-of key x e) ∙ r) in
          filter-IsIn (is_whole c) key (due_keys c.slot_now held) (held-due c.slot_now held key x e p.0) (whole-of key x e ∙ p.1)

      back : (key : Key) → IsIn key (filter (is_reported c) (every_key c.tailoring)) → IsIn key (filter (is_whole c) (due_keys c.slot_now held))
      back key i =
          let j = IsIn-filter (is_reported c) key (every_key c.tailoring) i in
          back_by key (held_at held key) refl j.1
