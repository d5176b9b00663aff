-- Structures that are held in the order of their keys: one is held under a key, and at most one.
use Rattle.std.proofs.Common.{◌≡◌, ℕ, refl, sym, ◌∙◌, ap, ap₂, subst, List, [], ◌∷◌, map, filter_map, ◌<◌, Bool, true, false, ◌&&◌, ◌==◌, Option, Some, None, ◌⊎◌, inl, inr, arith}
use Rattle.std.specs.Prelude.{cond, nat_lt, IfSome, option_map, option_and_then, if◌then◌else◌}
use Rattle.std.specs.List.{AllByRecursion, cons_option}
use Rattle.std.specs.List.Sorted.{IsStrictlySortedBy}
use Rattle.std.specs.Map.{lookup, keys_of, remove_entry, set_value}
use Rattle.std.specs.BTreeMap.{is_at, insert_entry}
use Rattle.std.specs.Ordering.{is_eq, nat_cmp, match_ordering}
use Rattle.std.specs.Cmp.{nat_cmp_is}
use Rattle.std.specs.declared.cmp.Ordering.{Ordering}
use Rattle.std.specs.declared.cmp.Ordering.TheVariants.{Less, Equal, Greater}
use Rattle.std.proofs.lemmas.Bool.{cases_order, eq-eqb}
use Rattle.std.proofs.lemmas.Bool.Decides.{nat_tests}
use Rattle.std.proofs.lemmas.Option.{none-some}
use Rattle.hk_base.specs.Parameters.{key_eq, kind_eq}
use Rattle.hk_base.specs.Payload.{IsValid}
use Rattle.hk_base.specs.TailoringParts.{TailoringParts}
use Rattle.hk_base.specs.declared.types.Key.{Key}
use Rattle.hk_base.specs.declared.types.Kind.{Kind}
use Rattle.hk_base.specs.declared.types.Kind.TheVariants.{Housekeeping, Diagnostic}
use Rattle.hk_world.specs.Timelines.{Done}
use Rattle.hk_world.proofs.OrderLemmas.{true_is_not_false}
use Rattle.board_state.specs.Holdings.{held_at, held_structure, SetsAt, is_before, AreRisingKeys, one_shot_of, one_shots_of, ends_one_shot, after_slot, all_after_slot, IsHeld, AreStructures}
use Rattle.board_state.specs.declared.structures.Held.{Held}
use Rattle.board_state.proofs.HoldingLemmas.{keys-one}
use Rattle.board_state.proofs.KeyLemmas.{lookup-same}

-- numbers that compare as less are less
less-is : (m n : ℕ) → nat_cmp m n ≡ Less → nat_lt m n ≡ true
less-is m n e = go (cases_order m n)
  where
    go : (m ≡ n) ⊎ ((m < n) ⊎ (n < m)) → nat_lt m n ≡ true
    go (inl same) = absurd (let q : Equal ≡ Less = nat_cmp_is m n Equal same ∙ e in cc)
    go (inr (inl lt)) = grind (arith, nat_tests)
    go (inr (inr gt)) = absurd (let q : Greater ≡ Less = nat_cmp_is m n Greater gt ∙ e in cc)

-- entries in an order by kind and then by ID have keys that rise
pub rising-sorted : (cmp : Key → Key → Ordering) → ((m n : ℕ) → cmp (record { kind = Housekeeping; id = m }) (record { kind = Housekeeping; id = n }) ≡ nat_cmp m n)
    → ((m n : ℕ) → cmp (record { kind = Diagnostic; id = m }) (record { kind = Diagnostic; id = n }) ≡ nat_cmp m n)
    → ((m n : ℕ) → cmp (record { kind = Diagnostic; id = m }) (record { kind = Housekeeping; id = n }) ≡ Greater)
    → (held : List (Key × Held)) → IsStrictlySortedBy cmp (keys_of held) → AreRisingKeys held
unfolding IsStrictlySortedBy
rising-sorted cmp hh dd dh [] h = tt
rising-sorted cmp hh dd dh (x ∷ xs) h = (all xs h.0, rising-sorted cmp hh dd dh xs h.1)
  where
    before : (k l : Kind) (m n : ℕ) → cmp (record { kind = k; id = m }) (record { kind = l; id = n }) ≡ Less
        → is_before (record { kind = k; id = m }) (record { kind = l; id = n }) ≡ true
    before Housekeeping Housekeeping m n e = less-is m n (sym (hh m n) ∙ e)
    before Diagnostic Diagnostic m n e = less-is m n (sym (dd m n) ∙ e)
    before Housekeeping Diagnostic m n e = refl
    before Diagnostic Housekeeping m n e = absurd (let q : Greater ≡ Less = sym (dh m n) ∙ e in cc)

    all : (ys : List (Key × Held)) → AllByRecursion (λ k. cmp x.0 k ≡ Less) (keys_of ys) → AllByRecursion (λ y. is_before x.0 y.0 ≡ true) ys
    all [] k = tt
    all (y ∷ ys) k = (before x.0.kind y.0.kind x.0.id y.0.id k.0, all ys k.1)

-- a key doesn't come before itself
not-before : (a b : Key) → is_before a b ≡ true → key_eq a b ≡ false
not-before a b e = go a.kind b.kind a.id b.id e
  where
    go : (k l : Kind) (m n : ℕ) → is_before (record { kind = k; id = m }) (record { kind = l; id = n }) ≡ true → (kind_eq k l && m == n) ≡ false
    go Housekeeping Housekeeping m n q = grind (arith, nat_tests)
    go Diagnostic Diagnostic m n q = grind (arith, nat_tests)
    go Housekeeping Diagnostic m n q = refl
    go Diagnostic Housekeeping m n q = refl

-- nothing is held under a key that comes before all
none-held : (key : Key) (held : List (Key × Held)) → AllByRecursion (λ y. is_before key y.0 ≡ true) held → held_at held key ≡ None
none-held key [] h = refl
none-held key (y ∷ ys) h = ap (λ b. cond b (Some y.1) (held_at ys key)) (not-before key y.0 h.0) ∙ none-held key ys h.1

-- the pending one-shot of a structure is that of what is held under its key
pub pending-is : (held : List (Key × Held)) → AreRisingKeys held → (key : Key) → lookup (key_eq key) (one_shots_of held) ≡ option_and_then (λ h. h.one_shot) (held_at held key)
pending-is [] h key = refl
pending-is (x ∷ xs) h key = first (key_eq key x.0) refl (pending-is xs h.1 key)
  where
    first : (b : Bool) → key_eq key x.0 ≡ b → lookup (key_eq key) (one_shots_of xs) ≡ option_and_then (λ h. h.one_shot) (held_at xs key)
        → lookup (key_eq key) (one_shots_of (x ∷ xs)) ≡ option_and_then (λ h. h.one_shot) (cond (key_eq key x.0) (Some x.1) (held_at xs key))
    first true q ih =
        let same : key ≡ x.0 = keys-one key x.0 q in
        let none : held_at xs key ≡ None = ap (held_at xs) same ∙ none-held x.0 xs h.0 in
        go x.1.one_shot refl (ih ∙ ap (option_and_then (λ h. h.one_shot)) none) ∙ sym (ap (λ b. option_and_then (λ h. h.one_shot) (cond b (Some x.1) (held_at xs key))) q)
      where
        go : (o : Option ℕ) → x.1.one_shot ≡ o → lookup (key_eq key) (one_shots_of xs) ≡ None → lookup (key_eq key) (one_shots_of (x ∷ xs)) ≡ x.1.one_shot
        go None e none = ap (λ o. lookup (key_eq key) (cons_option (option_map (λ n. (x.0, n)) o) (one_shots_of xs))) e ∙ none ∙ sym e
        go (Some n) e none =
            ap (λ o. lookup (key_eq key) (cons_option (option_map (λ n. (x.0, n)) o) (one_shots_of xs))) e
            ∙ ap (λ b. cond b (Some n) (lookup (key_eq key) (one_shots_of xs))) q ∙ sym e
    first false q ih = go x.1.one_shot refl ∙ ih ∙ sym (ap (λ b. option_and_then (λ h. h.one_shot) (cond b (Some x.1) (held_at xs key))) q)
      where
        go : (o : Option ℕ) → x.1.one_shot ≡ o → lookup (key_eq key) (one_shots_of (x ∷ xs)) ≡ lookup (key_eq key) (one_shots_of xs)
        go None e = ap (λ o. lookup (key_eq key) (cons_option (option_map (λ n. (x.0, n)) o) (one_shots_of xs))) e
        go (Some n) e =
            ap (λ o. lookup (key_eq key) (cons_option (option_map (λ n. (x.0, n)) o) (one_shots_of xs))) e
            ∙ ap (λ b. cond b (Some n) (lookup (key_eq key) (one_shots_of xs))) q

-- what is held under a key once a slot has ended
pub held-ended : (slot : ℕ) (held : List (Key × Held)) (key : Key) → held_at (all_after_slot slot held) key ≡ option_map (after_slot slot) (held_at held key)
held-ended slot [] key = refl
held-ended slot (x ∷ xs) key = go (key_eq key x.0) (held-ended slot xs key)
  where
    go : (b : Bool) → held_at (all_after_slot slot xs) key ≡ option_map (after_slot slot) (held_at xs key)
        → cond b (Some (after_slot slot x.1)) (held_at (all_after_slot slot xs) key) ≡ option_map (after_slot slot) (cond b (Some x.1) (held_at xs key))
    go true ih = refl
    go false ih = ih

-- the end of a slot leaves each structure
ended-structure : (slot : ℕ) (h : Held) → (after_slot slot h).structure ≡ h.structure
ended-structure slot h = go (ends_one_shot slot h)
  where
    go : (b : Bool) → (if b then record h { one_shot = None } else h).structure ≡ h.structure
    go true = refl
    go false = refl

ended-slot : (slot : ℕ) (h : Held) → (after_slot slot h).first_slot ≡ h.first_slot
ended-slot slot h = go (ends_one_shot slot h)
  where
    go : (b : Bool) → (if b then record h { one_shot = None } else h).first_slot ≡ h.first_slot
    go true = refl
    go false = refl

-- and what is held of it
pub structures-ended : (t : TailoringParts) (done : List Done) (slot : ℕ) (held : List (Key × Held)) → AreRisingKeys (all_after_slot slot held) → AreStructures t done held
    → AreStructures t done (all_after_slot slot held)
structures-ended t done slot held rising h =
    record {
      each = λ key. subst (λ o. IfSome o (IsHeld t done key)) (sym (held-ended slot held key)) (each key (held_at held key) (h.each key));
      same = λ key. ap (option_map (λ x. x.structure)) (held-ended slot held key) ∙ same (held_at held key) ∙ h.same key;
      rising = rising;
    }
  where
    each : (key : Key) (o : Option Held) → IfSome o (IsHeld t done key) → IfSome (option_map (after_slot slot) o) (IsHeld t done key)
    each key None k = tt
    each key (Some x) k =
        record { valid = subst (λ s. IsValid t s.def) (sym (ended-structure slot x)) k.valid; id = k.id; first = ended-slot slot x ∙ k.first }

    same : (o : Option Held) → option_map (λ x. x.structure) (option_map (after_slot slot) o) ≡ option_map (λ x. x.structure) o
    same None = refl
    same (Some x) = ap Some (ended-structure slot x)

-- a new entry without a one-shot leaves those that are pending
pub inserted-one-shots : (cmp : Key → Key → Ordering) → ((a b : Key) → is_at (cmp a) b ≡ key_eq a b) → (key : Key) (to : Held) (held : List (Key × Held))
    → to.one_shot ≡ None → held_at held key ≡ None → one_shots_of (insert_entry cmp held key to) ≡ one_shots_of held
inserted-one-shots cmp same key to [] e none = ap (λ o. cons_option (option_map (λ n. (key, n)) o) []) e
inserted-one-shots cmp same key to (x ∷ xs) e none = go (cmp key x.0) refl (inserted-one-shots cmp same key to xs e)
  where
    apart : key_eq key x.0 ≡ false
    apart = by (key_eq key x.0) refl
      where
        by : (b : Bool) → key_eq key x.0 ≡ b → b ≡ false
        by false q = refl
        by true q = absurd (none-some x.1 (sym (sym (ap (λ b. cond b (Some x.1) (held_at xs key)) q) ∙ none)))

    behind : held_at xs key ≡ None
    behind = sym (ap (λ b. cond b (Some x.1) (held_at xs key)) apart) ∙ none

    go : (o : Ordering) → cmp key x.0 ≡ o → (held_at xs key ≡ None → one_shots_of (insert_entry cmp xs key to) ≡ one_shots_of xs)
        → one_shots_of (match_ordering o ((key, to) ∷ x ∷ xs) ((x.0, to) ∷ xs) (x ∷ insert_entry cmp xs key to)) ≡ one_shots_of (x ∷ xs)
    go Less q ih = ap (λ o. cons_option (option_map (λ n. (key, n)) o) (one_shots_of (x ∷ xs))) e
    go Equal q ih = absurd (true_is_not_false (sym (ap is_eq q) ∙ same key x.0 ∙ apart))
    go Greater q ih = ap (λ l. cons_option (one_shot_of x) l) (ih behind)

-- an entry without a one-shot that is taken away leaves those that are pending
pub removed-one-shots : (test : Key → Bool) (held : List (Key × Held)) → IfSome (lookup test held) (λ h. h.one_shot ≡ None) → one_shots_of (remove_entry test held) ≡ one_shots_of held
removed-one-shots test [] h = refl
removed-one-shots test (x ∷ xs) h = go (test x.0) h (removed-one-shots test xs)
  where
    go : (b : Bool) → IfSome (cond b (Some x.1) (lookup test xs)) (λ h. h.one_shot ≡ None)
        → (IfSome (lookup test xs) (λ h. h.one_shot ≡ None) → one_shots_of (remove_entry test xs) ≡ one_shots_of xs)
        → one_shots_of (cond b xs (x ∷ remove_entry test xs)) ≡ one_shots_of (x ∷ xs)
    go true k ih = sym (ap (λ o. cons_option (option_map (λ n. (x.0, n)) o) (one_shots_of xs)) k)
    go false k ih = ap (λ l. cons_option (one_shot_of x) l) (ih k)

-- what is changed in its place leaves the order of keys
set-rising : (test : Key → Bool) (held : List (Key × Held)) (to : Held) → AreRisingKeys held → AreRisingKeys (set_value test held to)
set-rising test [] to h = tt
set-rising test (x ∷ xs) to h = go (test x.0) (set-rising test xs to h.1)
  where
    all : (ys : List (Key × Held)) → AllByRecursion (λ y. is_before x.0 y.0 ≡ true) ys → AllByRecursion (λ y. is_before x.0 y.0 ≡ true) (set_value test ys to)
    all [] k = tt
    all (y ∷ ys) k = here (test y.0) (all ys k.1)
      where
        here : (b : Bool) → AllByRecursion (λ z. is_before x.0 z.0 ≡ true) (set_value test ys to) → AllByRecursion (λ z. is_before x.0 z.0 ≡ true) (cond b ((y.0, to) ∷ ys) (y ∷ set_value test ys to))
        here true more = (k.0, k.1)
        here false more = (k.0, more)

    go : (b : Bool) → AreRisingKeys (set_value test xs to) → AreRisingKeys (cond b ((x.0, to) ∷ xs) (x ∷ set_value test xs to))
    go true more = (h.0, h.1)
    go false more = (all xs h.0, more)

pub sets-rising : (key : Key) (f : Held → Held) (old new : List (Key × Held)) (was : Held) → held_at old key ≡ Some was → SetsAt key f old new → AreRisingKeys old → AreRisingKeys new
sets-rising key f old new was e h rising = go (held_at old key) e h
  where
    go : (o : Option Held) → o ≡ Some was → IfSome o (λ x. new ≡ set_value (key_eq key) old (f x)) → AreRisingKeys new
    go None q k = absurd (none-some was q)
    go (Some x) q k = subst AreRisingKeys (sym k) (set-rising (key_eq key) old (f x) rising)

-- the same by an order, which the look-ups before and after tell
pub removed-at : (cmp : Key → Key → Ordering) (key : Key) (old new : List (Key × Held)) → ((q : Key) → lookup (is_at (cmp q)) new ≡ cond (is_at (cmp key) q) None (lookup (is_at (cmp q)) old))
    → ((a b : Key) → is_at (cmp a) b ≡ key_eq a b) → new ≡ remove_entry (is_at (cmp key)) old → IfSome (held_at old key) (λ h. h.one_shot ≡ None) → one_shots_of new ≡ one_shots_of old
removed-at cmp key old new updates same is h =
    ap one_shots_of is
    ∙ removed-one-shots (is_at (cmp key)) old (subst (λ (o : Option Held). IfSome o (λ x. x.one_shot ≡ None)) (sym (lookup-same (is_at (cmp key)) (key_eq key) (same key) old)) h)
