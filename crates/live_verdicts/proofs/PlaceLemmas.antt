-- Marks at a place among those that are held.
use Rattle.std.proofs.Common.{arith, None, ◌≡◌, ℕ, zero, suc, ◌+◌, ◌<◌, refl, sym, ◌∙◌, ap, subst, List, [], ◌∷◌, ◌++◌, length, take, drop, get_or, slice_set, ◌⊎◌, true, Option, Result, Ok, Err}
use Rattle.std.specs.Prelude.{IfOk}
use Rattle.std.specs.List.{All}
use Rattle.std.proofs.lemmas.List.Elements.{All-push, All-set, All-drop}
use Rattle.hk_base.specs.Parameters.{key_eq}
use Rattle.hk_base.specs.declared.types.Key.{Key}
use Rattle.hk_base.specs.declared.types.Memory.{Memory}
use Rattle.ground_history.specs.Histories.{History}
use Rattle.ground_history.specs.Ground.{Ground}
use Rattle.definition_intervals.proofs.StateLemmas.{key_eq-same}
use Rattle.opening_sweeps.specs.Requests.{Start}
use Rattle.entry_changes.specs.Changes.{AreSameBelow, AreUnsureSame, told_below}
use Rattle.live_verdicts.specs.Marks.{starts_below, HavePassed, ArePending, IsMarkOf, IsMark, IsKept, ComesTo, IsGrown, IsPlaceOf, StandsFor, narrowed_to, with_calm, calm_at}
use Rattle.live_verdicts.specs.declared.mark.Mark.{Mark}
use Rattle.live_verdicts.specs.declared.mark.StructureMark.{StructureMark}
use Rattle.live_verdicts.proofs.HeldLemmas.{mark-later}

-- ---- lists with another element at a place, or without it

pub get-same : {X : Type 0} (xs : List X) (i : ℕ) (d e : X) → i < length xs → get_or xs i d ≡ get_or xs i e
get-same [] i d e l = absurd (omega (arith, l))
get-same (x ∷ xs) zero d e l = refl
get-same (x ∷ xs) (suc i) d e l = get-same xs i d e (omega (arith, l))

set-front : {X : Type 0} (xs : List X) (i : ℕ) (a : X) → i < length xs → take (suc i) (slice_set xs i a) ≡ take i xs ++ a ∷ []
set-front [] i a l = absurd (omega (arith, l))
set-front (x ∷ xs) zero a l = refl
set-front (x ∷ xs) (suc i) a l = ap (λ ys. x ∷ ys) (set-front xs i a (omega (arith, l)))

set-behind : {X : Type 0} (xs : List X) (i : ℕ) (a : X) → drop (suc i) (slice_set xs i a) ≡ drop 1 (drop i xs)
set-behind [] zero a = refl
set-behind [] (suc i) a = refl
set-behind (x ∷ xs) zero a = refl
set-behind (x ∷ xs) (suc i) a = set-behind xs i a

pub set-length : {X : Type 0} (xs : List X) (i : ℕ) (a : X) → length (slice_set xs i a) ≡ length xs
set-length [] i a = refl
set-length (x ∷ xs) zero a = refl
set-length (x ∷ xs) (suc i) a = ap suc (set-length xs i a)

set-at : {X : Type 0} (xs : List X) (i : ℕ) (a d : X) → i < length xs → get_or (slice_set xs i a) i d ≡ a
set-at [] i a d l = absurd (omega (arith, l))
set-at (x ∷ xs) zero a d l = refl
set-at (x ∷ xs) (suc i) a d l = set-at xs i a d (omega (arith, l))

remove-front : {X : Type 0} (xs : List X) (i : ℕ) → take i (take i xs ++ drop (suc i) xs) ≡ take i xs
remove-front xs zero = refl
remove-front [] (suc i) = refl
remove-front (x ∷ xs) (suc i) = ap (λ ys. x ∷ ys) (remove-front xs i)

remove-behind : {X : Type 0} (xs : List X) (i : ℕ) → drop i (take i xs ++ drop (suc i) xs) ≡ drop 1 (drop i xs)
remove-behind [] zero = refl
remove-behind (x ∷ xs) zero = refl
remove-behind [] (suc i) = refl
remove-behind (x ∷ xs) (suc i) = remove-behind xs i

next : (n : ℕ) → n + 1 ≡ suc n
next n = omega arith

-- ---- forgetting

abbrev pub IsMarked : Ground → StructureMark → Type 0
IsMarked g x = IsMark g x.key x.mark

abbrev pub changed_calm : StructureMark → ℕ → StructureMark
changed_calm x calm = record { key = x.key; mark = with_calm x.mark calm }

first-ahead : (P : StructureMark → Type 0) (xs : List StructureMark) (i : ℕ) (x : StructureMark) → i < length xs → x ≡ get_or xs i x → All P (drop i xs) → P x
first-ahead P xs i x l is all = subst P (at xs i l ∙ sym is) (all 0 x (some xs i l))
  where
    at : (xs : List StructureMark) (i : ℕ) → i < length xs → get_or (drop i xs) 0 x ≡ get_or xs i x
    at [] i l = absurd (omega (arith, l))
    at (y ∷ ys) zero l = refl
    at (y ∷ ys) (suc i) l = at ys i (omega (arith, l))

    some : (xs : List StructureMark) (i : ℕ) → i < length xs → 0 < length (drop i xs)
    some [] i l = absurd (omega (arith, l))
    some (y ∷ ys) zero l = omega arith
    some (y ∷ ys) (suc i) l = some ys i (omega (arith, l))

pub kept-done : (from touched : Option ℕ) (g later : Ground) (held : List StructureMark) (place calm : ℕ) (x : StructureMark) → place < length held → x ≡ get_or held place x → IsKept x.mark from touched
    → calm ≡ narrowed_to x.mark.calm touched → AreSameBelow from g later → AreUnsureSame touched g later → All (IsMarked later) (take place held) → All (IsMarked g) (drop place held)
    → All (IsMarked later) (take (place + 1) (slice_set held place (changed_calm x calm)))
kept-done from touched g later held place calm x l is kept narrow same unsure done ahead =
    subst (λ xs. All (IsMarked later) xs) (sym (ap (λ n. take n (slice_set held place (changed_calm x calm))) (next place) ∙ set-front held place (changed_calm x calm) l))
    (All-push (IsMarked later) (take place held) (changed_calm x calm) done
    (subst (λ n. IsMarked later (changed_calm x n)) (sym narrow) (mark-later from touched g later x.key x.mark same unsure kept (first-ahead (IsMarked g) held place x l is ahead))))

pub kept-ahead : (g : Ground) (held : List StructureMark) (place : ℕ) (x : StructureMark) → All (IsMarked g) (drop place held) → All (IsMarked g) (drop (place + 1) (slice_set held place x))
kept-ahead g held place x all = subst (λ xs. All (IsMarked g) xs) (sym (ap (λ n. drop n (slice_set held place x)) (next place) ∙ set-behind held place x)) (All-drop (IsMarked g) 1 (drop place held) all)

pub left-done : (later : Ground) (held left : List StructureMark) (place : ℕ) → left ≡ take place held ++ drop (suc place) held → All (IsMarked later) (take place held) → All (IsMarked later) (take place left)
left-done later held left place is all = subst (λ xs. All (IsMarked later) xs) (sym (ap (λ xs. take place xs) is ∙ remove-front held place)) all

pub left-ahead : (g : Ground) (held left : List StructureMark) (place : ℕ) → left ≡ take place held ++ drop (suc place) held → All (IsMarked g) (drop place held) → All (IsMarked g) (drop place left)
left-ahead g held left place is all = subst (λ xs. All (IsMarked g) xs) (sym (ap (λ xs. drop place xs) is ∙ remove-behind held place)) (All-drop (IsMarked g) 1 (drop place held) all)

pub left-length : {X : Type 0} (xs left : List X) (i : ℕ) → i < length xs → left ≡ take i xs ++ drop (suc i) xs → length left + 1 ≡ length xs
left-length xs left i l is = ap (λ ys. length ys + 1) is ∙ count xs i l
  where
    count : {X : Type 0} (xs : List X) (i : ℕ) → i < length xs → length (take i xs ++ drop (suc i) xs) + 1 ≡ length xs
    count [] i l = absurd (omega (arith, l))
    count (x ∷ xs) zero l = omega arith
    count (x ∷ xs) (suc i) l = let rest = count xs i (omega (arith, l)) in omega (arith, rest)

pub stands-same : (from touched : Option ℕ) (g later : Ground) (held : List StructureMark) → from ≡ None → touched ≡ None → AreSameBelow from g later → AreUnsureSame touched g later → StandsFor held g → StandsFor held later
stands-same from touched g later held none untouched same unsure stands =
    record {
      marks = λ k d l.
          let x = get_or held k d in
          same-calm later x
          (mark-later None None g later x.key x.mark (subst (λ o. AreSameBelow o g later) none same) (subst (λ o. AreUnsureSame o g later) untouched unsure) (tt, tt) (stands.marks k d l));
    }
  where
    same-calm : (later : Ground) (x : StructureMark) → IsMark later x.key (with_calm x.mark x.mark.calm) → IsMarked later x
    same-calm later x mark = mark

-- ---- reaching

pub calm-mark : (g : Ground) (key : Key) (m : Mark) (calm : ℕ) → IsMark g key m → ((starts : List Start) → IsMarkOf g key starts m → IsMarkOf g key starts (with_calm m calm)) → IsMark g key (with_calm m calm)
calm-mark g key m calm mark more = record { mark = more (starts_below g.tailoring g.history key m.tag) mark.mark; opened = mark.opened; told = mark.told }

pub next-mark : (g : Ground) (key : Key) (m now : Mark) → IsMark g key m → IsGrown m now → ((starts : List Start) → IsMarkOf g key starts m → IsMarkOf g key starts now) → IsMark g key now
next-mark g key m now mark grown more =
    record {
      mark = subst (λ tag. IsMarkOf g key (starts_below g.tailoring g.history key tag) now) (sym grown.tag) (more (starts_below g.tailoring g.history key m.tag) mark.mark);
      opened = let o = mark.opened in let a = grown.tag in let b = grown.opened in omega (arith, o, a, b);
      told = ap (λ n. told_below g.history key n) grown.tag ∙ (mark.told ∙ sym (ap (λ n. told_below g.history key n) grown.opened));
    }

pub stands-changed : (g : Ground) (held : List StructureMark) (place : ℕ) (x : StructureMark) → IsMarked g x → StandsFor held g → StandsFor (slice_set held place x) g
stands-changed g held place x mark stands = record { marks = All-set (IsMarked g) held place x mark stands.marks }

pub comes-next : (h : History) (m now : Mark) (listed tag : ℕ) → IsGrown m now → m.calm < listed → ComesTo h m listed tag → ComesTo h now listed tag
comes-next h m now listed tag grown short comes =
    record {
      from = let a = grown.listed in omega (arith, a, short);
      holds =
          record {
            later = let a = grown.tag in let b = comes.holds.later in omega (arith, a, b);
            order = let a = grown.past in let b = comes.holds.order in omega (arith, a, b);
            within = comes.holds.within;
            passed = subst (λ past. HavePassed h past now.tag) (sym grown.past) (subst (λ n. HavePassed h m.past n) (sym grown.tag) comes.holds.passed);
            pending = subst (λ past. (past ≡ listed) ⊎ ArePending h past tag) (sym grown.past) comes.holds.pending;
            begun = comes.holds.begun;
          };
    }

pub calm-is : (held : List StructureMark) (place : ℕ) (x : StructureMark) → place < length held → x ≡ get_or held place x → calm_at held place ≡ x.mark.calm
calm-is [] place x l is = absurd (omega (arith, l))
calm-is (y ∷ ys) zero x l is = ap (λ (z : StructureMark). z.mark.calm) (sym is)
calm-is (y ∷ ys) (suc i) x l is = calm-is ys i x (omega (arith, l)) is

pub calm-set : (held : List StructureMark) (place : ℕ) (x : StructureMark) → place < length held → calm_at (slice_set held place x) place ≡ x.mark.calm
calm-set [] place x l = absurd (omega (arith, l))
calm-set (y ∷ ys) zero x l = refl
calm-set (y ∷ ys) (suc i) x l = calm-set ys i x (omega (arith, l))

-- a mark with its structure's key
pub own-key : (g : Ground) (key : Key) (x : StructureMark) → key_eq x.key key ≡ true → IsMark g key x.mark → IsMarked g x
own-key g key x same mark = subst (λ k. IsMark g k x.mark) (sym (key_eq-same x.key key same)) mark

-- what is so of a mark is so of the place where it is held
place-of : (Wanted : Mark → Type 0) (key : Key) (held : List StructureMark) (m : Mark) (place : ℕ) → Wanted m → IsPlaceOf (λ (n : Mark). n ≡ m) key held place → IsPlaceOf Wanted key held place
place-of Wanted key held m place w is = (is.0, λ d. ((is.1 d).0, subst Wanted (sym (is.1 d).1) w))

pub if-place : (Wanted : Mark → Type 0) (key : Key) (held : List StructureMark) (m : Mark) → Wanted m → (result : Result ℕ Memory) → IfOk result (IsPlaceOf (λ (n : Mark). n ≡ m) key held)
    → IfOk result (IsPlaceOf Wanted key held)
if-place Wanted key held m w (Ok place) is = place-of Wanted key held m place w is
if-place Wanted key held m w (Err e) is = tt

calm-of : (key : Key) (held : List StructureMark) (m : Mark) (place : ℕ) → IsPlaceOf (λ (n : Mark). n ≡ m) key held place → calm_at held place ≡ m.calm
calm-of key [] m place is = absurd (let l = is.0 in omega (arith, l))
calm-of key (x ∷ xs) m zero is = ap (λ (n : Mark). n.calm) (is.1 x).1
calm-of key (x ∷ xs) m (suc i) is = let l = is.0 in calm-of key xs m i (omega (arith, l), λ d. is.1 d)

pub if-calm : (key : Key) (held : List StructureMark) (m : Mark) (before : ℕ) → before < m.calm → (result : Result ℕ Memory) → IfOk result (IsPlaceOf (λ (n : Mark). n ≡ m) key held)
    → IfOk result (λ place. before < calm_at held place)
if-calm key held m before more (Ok place) is = let at = calm-of key held m place is in omega (arith, at, more)
if-calm key held m before more (Err e) is = tt
