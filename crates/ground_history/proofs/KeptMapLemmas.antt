-- Kept packets in a map by their tags.
use Rattle.std.proofs.Common.{arith, ◌≡◌, ℕ, ◌<◌, refl, sym, ◌∙◌, ap, subst, List, [], ◌∷◌, map, max, Bool, true, false, nat_lt, cond, Some, None}
use Rattle.std.proofs.lemmas.Bool.{lt-ltb, le-ltb, eq-eqb}
use Rattle.std.proofs.lemmas.Bool.Decides.{nat_tests}
use Rattle.std.proofs.lemmas.Cmp.{ranked}
use Rattle.std.specs.Prelude.{filter, find, nat_le, not, ◌&&◌, ◌==◌, if◌then◌else◌}
use Rattle.std.specs.Map.{lookup}
use Rattle.std.specs.BTreeMap.{is_at, insert_entry}
use Rattle.std.specs.Ordering.{nat_cmp, match_ordering, MatchOrdering, is_eq, is_le}
use Rattle.std.specs.declared.cmp.Ordering.{Ordering}
use Rattle.std.specs.declared.cmp.Ordering.TheVariants.{Less, Equal, Greater}
use Rattle.ground_history.specs.Histories.{Kept, tag_of, greatest, insert_kept}
use Rattle.ground_history.specs.Ground.{IsByTag, packets_of, newest_told, tells_structure}
use Rattle.ground_history.proofs.KeptLemmas.{greatest-insert_kept}

key-is : (a b : ℕ) → is_at (nat_cmp a) b ≡ (b == a)
key-is a b = go (nat_cmp a b) (ranked a b (nat_cmp a b) refl)
  where
    go : (o : Ordering) → MatchOrdering o (a < b) (a ≡ b) (b < a) → is_eq o ≡ (b == a)
    go Less h = grind (arith, nat_tests)
    go Equal h = grind (arith, nat_tests)
    go Greater h = grind (arith, nat_tests)

-- a look-up by a tag finds the packet with it
pub found-by-tag : (tag : ℕ) (entries : List (ℕ × Kept)) → IsByTag entries → lookup (is_at (nat_cmp tag)) entries ≡ find (λ k. tag_of k == tag) (packets_of entries)
found-by-tag tag [] h = refl
found-by-tag tag (e ∷ entries) h =
    let same : is_at (nat_cmp tag) e.0 ≡ (tag_of e.1 == tag) = key-is tag e.0 ∙ ap (λ n. n == tag) h.0 in
    ap (λ b. cond b (Some e.1) (lookup (is_at (nat_cmp tag)) entries)) same ∙ ap (λ o. cond (tag_of e.1 == tag) (Some e.1) o) (found-by-tag tag entries h.1)

pub by-tag-insert : (tag : ℕ) (kept : Kept) (entries : List (ℕ × Kept)) → tag ≡ tag_of kept → IsByTag entries → IsByTag (insert_entry nat_cmp entries tag kept)
by-tag-insert tag kept [] is h = (is, tt)
by-tag-insert tag kept (e ∷ entries) is h = go (nat_cmp tag e.0) (ranked tag e.0 (nat_cmp tag e.0) refl) (by-tag-insert tag kept entries is h.1)
  where
    go : (o : Ordering) → MatchOrdering o (tag < e.0) (tag ≡ e.0) (e.0 < tag) → IsByTag (insert_entry nat_cmp entries tag kept)
        → IsByTag (match_ordering o ((tag, kept) ∷ e ∷ entries) ((e.0, kept) ∷ entries) (e ∷ insert_entry nat_cmp entries tag kept))
    go Less m rest = (is, h)
    go Equal m rest = (sym m ∙ is, h.1)
    go Greater m rest = (h.0, rest)

-- a packet whose tag none has is put in its place
pub packets-insert : (tag : ℕ) (kept : Kept) (entries : List (ℕ × Kept)) → tag ≡ tag_of kept → IsByTag entries → find (λ k. tag_of k == tag_of kept) (packets_of entries) ≡ None
    → packets_of (insert_entry nat_cmp entries tag kept) ≡ insert_kept kept (packets_of entries)
packets-insert tag kept [] is h none = refl
packets-insert tag kept (e ∷ entries) is h none =
    go (nat_cmp tag e.0) (ranked tag e.0 (nat_cmp tag e.0) refl) (tag_of e.1 == tag_of kept) refl none (λ f. packets-insert tag kept entries is h.1 f)
  where
    go : (o : Ordering) → MatchOrdering o (tag < e.0) (tag ≡ e.0) (e.0 < tag) → (b : Bool) → (tag_of e.1 == tag_of kept) ≡ b
        → cond b (Some e.1) (find (λ k. tag_of k == tag_of kept) (packets_of entries)) ≡ None
        → (find (λ k. tag_of k == tag_of kept) (packets_of entries) ≡ None → packets_of (insert_entry nat_cmp entries tag kept) ≡ insert_kept kept (packets_of entries))
        → packets_of (match_ordering o ((tag, kept) ∷ e ∷ entries) ((e.0, kept) ∷ entries) (e ∷ insert_entry nat_cmp entries tag kept))
        ≡ (if nat_lt (tag_of kept) (tag_of e.1) then kept ∷ e.1 ∷ packets_of entries else e.1 ∷ insert_kept kept (packets_of entries))
    go o m true f g ih = cc
    go Less m false f g ih = let below : nat_lt (tag_of kept) (tag_of e.1) ≡ true = lt-ltb (tag_of kept) (tag_of e.1) (omega (arith, m, is, h.0)) in rw below refl
    go Equal m false f g ih =
        let same : (tag_of e.1 == tag_of kept) ≡ true = eq-eqb (tag_of e.1) (tag_of kept) (omega (arith, m, is, h.0)) in
        cc
    go Greater m false f g ih =
        let above : nat_lt (tag_of kept) (tag_of e.1) ≡ false = le-ltb (tag_of kept) (tag_of e.1) (omega (arith, m, is, h.0)) in
        rw above (ap (λ ks. e.1 ∷ ks) (ih g))

pub newest-insert : (kept : Kept) (ks : List Kept) → greatest (map tag_of (insert_kept kept ks)) ≡ max (greatest (map tag_of ks)) (tag_of kept)
newest-insert kept [] = omega arith
newest-insert kept (k ∷ ks) = go (nat_lt (tag_of kept) (tag_of k)) (newest-insert kept ks)
  where
    go : (b : Bool) → greatest (map tag_of (insert_kept kept ks)) ≡ max (greatest (map tag_of ks)) (tag_of kept)
        → greatest (map tag_of (if b then kept ∷ k ∷ ks else k ∷ insert_kept kept ks)) ≡ max (max (tag_of k) (greatest (map tag_of ks))) (tag_of kept)
    go true e = omega arith
    go false e = omega (arith, e)

-- what was put in is found
pub found-kept : (kept : Kept) (ks : List Kept) → find (λ k. tag_of k == tag_of kept) ks ≡ None → find (λ k. tag_of k == tag_of kept) (insert_kept kept ks) ≡ Some kept
found-kept kept [] none = let same : (tag_of kept == tag_of kept) ≡ true = eq-eqb (tag_of kept) (tag_of kept) refl in rw same refl
found-kept kept (k ∷ ks) none = go (nat_lt (tag_of kept) (tag_of k)) (tag_of k == tag_of kept) refl none (found-kept kept ks)
  where
    go : (b c : Bool) → (tag_of k == tag_of kept) ≡ c → cond c (Some k) (find (λ k. tag_of k == tag_of kept) ks) ≡ None
        → (find (λ k. tag_of k == tag_of kept) ks ≡ None → find (λ k. tag_of k == tag_of kept) (insert_kept kept ks) ≡ Some kept)
        → find (λ k. tag_of k == tag_of kept) (if b then kept ∷ k ∷ ks else k ∷ insert_kept kept ks) ≡ Some kept
    go b true e f ih = cc
    go true false e f ih = let same : (tag_of kept == tag_of kept) ≡ true = eq-eqb (tag_of kept) (tag_of kept) refl in rw same refl
    go false false e f ih = ap (λ b. cond b (Some k) (find (λ k. tag_of k == tag_of kept) (insert_kept kept ks))) e ∙ ih f

pub newest-is : (tag : ℕ) (kept : Kept) (entries next : List (ℕ × Kept)) (newest now : ℕ) → tag ≡ tag_of kept → IsByTag entries → find (λ k. tag_of k == tag_of kept) (packets_of entries) ≡ None
    → next ≡ insert_entry nat_cmp entries tag kept → newest ≡ greatest (map tag_of (packets_of entries)) → now ≡ max newest tag
    → now ≡ greatest (map tag_of (packets_of next))
newest-is tag kept entries next newest now is h none e was max_is =
    let list : packets_of next ≡ insert_kept kept (packets_of entries) = ap packets_of e ∙ packets-insert tag kept entries is h none in
    let here = newest-insert kept (packets_of entries) in
    let all : greatest (map tag_of (packets_of next)) ≡ greatest (map tag_of (insert_kept kept (packets_of entries))) = ap (λ ks. greatest (map tag_of ks)) list in
    omega (arith, here, all, was, max_is, is)

pub told-is : (tag : ℕ) (kept : Kept) (entries next : List (ℕ × Kept)) (told now : ℕ) (tells : Bool) → tag ≡ tag_of kept → IsByTag entries
    → find (λ k. tag_of k == tag_of kept) (packets_of entries) ≡ None → next ≡ insert_entry nat_cmp entries tag kept → told ≡ newest_told (packets_of entries)
    → tells ≡ tells_structure kept.report.body → now ≡ (if tells then max told tag else told) → now ≡ newest_told (packets_of next)
told-is tag kept entries next told now tells is h none e was does now_is =
    let list : packets_of next ≡ insert_kept kept (packets_of entries) = ap packets_of e ∙ packets-insert tag kept entries is h none in
    now_is
    ∙ (ap (λ b. if b then max told tag else told) does
    ∙ (go (tells_structure kept.report.body)
    ∙ sym (ap (λ ks. newest_told ks) list ∙ greatest-insert_kept (λ k. tells_structure k.report.body) kept (packets_of entries))))
  where
    others : List Kept
    others = filter (λ k. tells_structure k.report.body) (packets_of entries)

    go : (b : Bool) → (if b then max told tag else told) ≡ greatest (map tag_of (cond b (kept ∷ others) others))
    go true = omega (arith, was, is)
    go false = was

pub kept-found : (tag : ℕ) (kept next : List Kept) (x : Kept) → tag ≡ tag_of x → find (λ k. tag_of k == tag) kept ≡ None → next ≡ insert_kept x kept → find (λ k. tag_of k == tag) next ≡ Some x
kept-found tag kept next x is none e =
    let absent : find (λ k. tag_of k == tag_of x) kept ≡ None = subst (λ n. find (λ k. tag_of k == n) kept ≡ None) is none in
    ap (λ ks. find (λ k. tag_of k == tag) ks) e ∙ (ap (λ n. find (λ k. tag_of k == n) (insert_kept x kept)) is ∙ found-kept x kept absent)

-- ---- the first packet from a tag on

pub from-is : (tag : ℕ) (s : ℕ × Kept) → (is_le (nat_cmp tag s.0) && not false) ≡ nat_le tag s.0
from-is tag s = grind (arith, nat_tests)

pub from-first : (p : ℕ × Kept → Bool) (tag : ℕ) (entries rest : List (ℕ × Kept)) (first : ℕ × Kept) → ((s : ℕ × Kept) → p s ≡ nat_le tag s.0) → IsByTag entries
    → filter p entries ≡ first ∷ rest → find (λ k. nat_le tag (tag_of k)) (packets_of entries) ≡ Some first.1
from-first p tag [] rest first same h e = cc
from-first p tag (s ∷ entries) rest first same h e = go (p s) (same s) e (λ f. from-first p tag entries rest first same h.1 f)
  where
    go : (b : Bool) → b ≡ nat_le tag s.0 → cond b (s ∷ filter p entries) (filter p entries) ≡ first ∷ rest
        → (filter p entries ≡ first ∷ rest → find (λ k. nat_le tag (tag_of k)) (packets_of entries) ≡ Some first.1)
        → cond (nat_le tag (tag_of s.1)) (Some s.1) (find (λ k. nat_le tag (tag_of k)) (packets_of entries)) ≡ Some first.1
    go true t f ih =
        let here : nat_le tag (tag_of s.1) ≡ true = ap (λ n. nat_le tag n) (sym h.0) ∙ sym t in
        let is : s ≡ first = cc in
        rw here (ap (λ (x : ℕ × Kept). Some x.1) is)
    go false t f ih = let here : nat_le tag (tag_of s.1) ≡ false = ap (λ n. nat_le tag n) (sym h.0) ∙ sym t in rw here (ih f)

pub from-none : (p : ℕ × Kept → Bool) (tag : ℕ) (entries : List (ℕ × Kept)) → ((s : ℕ × Kept) → p s ≡ nat_le tag s.0) → IsByTag entries
    → filter p entries ≡ [] → find (λ k. nat_le tag (tag_of k)) (packets_of entries) ≡ None
from-none p tag [] same h e = refl
from-none p tag (s ∷ entries) same h e = go (p s) (same s) e (from-none p tag entries same h.1)
  where
    go : (b : Bool) → b ≡ nat_le tag s.0 → cond b (s ∷ filter p entries) (filter p entries) ≡ []
        → (filter p entries ≡ [] → find (λ k. nat_le tag (tag_of k)) (packets_of entries) ≡ None)
        → cond (nat_le tag (tag_of s.1)) (Some s.1) (find (λ k. nat_le tag (tag_of k)) (packets_of entries)) ≡ None
    go true t f ih = cc
    go false t f ih = let here : nat_le tag (tag_of s.1) ≡ false = ap (λ n. nat_le tag n) (sym h.0) ∙ sym t in rw here (ih f)
