-- Requests by their numbers, with counts of 14 bits.
use Rattle.std.proofs.Common.{arith, ◌≡◌, ℕ, zero, suc, ◌+◌, ◌-◌, ◌*◌, ◌%◌, ◌<◌, ◌≤◌, sym, ◌∙◌, ap, subst, List, [], ◌∷◌, ◌++◌, length, Bool, true, false, nat_lt, Some, None, inl, inr, ◌⊎◌}
use Rattle.std.proofs.lemmas.Bool.{cases_lt, cases_eq, and_left, ne_eqb}
use Rattle.std.proofs.lemmas.Option.{same_Some}
use Rattle.std.specs.Prelude.{◌||◌, not, ◌==◌, take, slice_get}
use Rattle.hk_base.specs.Fields.{number_of}
use Rattle.hk_base.specs.declared.types.RequestId.{RequestId}
use Rattle.ground_history.specs.Histories.{Sent, last_number}
use Rattle.ground_history.specs.Ground.{IsCounted, AreCounted, is_verified_by}
use Rattle.ground_history.proofs.AttributionLemmas.{last_number-none, last_number-is}

-- one more request has the next count
pub counted-more : (n : ℕ) (requests : List Sent) (request : Sent) → AreCounted n requests → IsCounted (n + length requests) request → AreCounted n (requests ++ request ∷ [])
counted-more n [] request h is = (subst (λ k. IsCounted k request) (omega arith) is, tt)
counted-more n (r ∷ requests) request h is = (h.0, counted-more (n + 1) requests request h.1 (subst (λ k. IsCounted k request) (omega arith) is))

pub counted-at : (n : ℕ) (requests : List Sent) (k : ℕ) (request : Sent) → AreCounted n requests → slice_get requests k ≡ Some request → IsCounted (n + k) request
counted-at n [] k request h e = cc
counted-at n (r ∷ requests) zero request h e = let same : r ≡ request = same_Some r request e in subst (λ (q : Sent). IsCounted (n + 0) q) same (subst (λ k. IsCounted k r) (omega arith) h.0)
counted-at n (r ∷ requests) (suc k) request h e = subst (λ j. IsCounted j request) (omega arith) (counted-at (n + 1) requests k request h.1 e)

pub place-within : (requests : List Sent) (k : ℕ) (request : Sent) → slice_get requests k ≡ Some request → k < length requests
place-within [] k request e = cc
place-within (r ∷ requests) zero request e = omega arith
place-within (r ∷ requests) (suc k) request e = let lt = place-within requests k request e in omega (arith, lt)

-- no request from a number on is verified
abbrev pub NoneFrom : Bool → RequestId → ℕ → List Sent → ℕ → Type 0
NoneFrom long id tag requests from = (k : ℕ) (r : Sent) → slice_get requests k ≡ Some r → from ≤ k → is_verified_by long id tag r ≡ false

pub none-behind : (long : Bool) (id : RequestId) (tag : ℕ) (requests : List Sent) (from : ℕ) → length requests ≤ from → NoneFrom long id tag requests from
none-behind long id tag requests from past k r e le = let lt = place-within requests k r e in absurd (omega (arith, lt, past, le))

-- a number with another count
other-count : (count rounds k : ℕ) → count < 16384 → count + 16384 * rounds < k → k < count + 16384 * (rounds + 1) → k % 16384 ≡ count → ⊥
other-count count rounds k small above below e = omega (arith, small, above, below, e)

pub none-before : (long : Bool) (id : RequestId) (tag : ℕ) (requests : List Sent) (rounds : ℕ) (r : Sent) → AreCounted 0 requests
    → slice_get requests (id.word % 16384 + 16384 * rounds) ≡ Some r → is_verified_by long id tag r ≡ false
    → NoneFrom long id tag requests (id.word % 16384 + 16384 * (rounds + 1)) → NoneFrom long id tag requests (id.word % 16384 + 16384 * rounds)
none-before long id tag requests rounds r counted at fails none k q e le =
    by (cases_lt k (id.word % 16384 + 16384 * (rounds + 1))) (cases_eq k (id.word % 16384 + 16384 * rounds))
  where
    by : (k < id.word % 16384 + 16384 * (rounds + 1)) ⊎ (id.word % 16384 + 16384 * (rounds + 1) ≤ k)
        → (k ≡ id.word % 16384 + 16384 * rounds) ⊎ (k ≡ id.word % 16384 + 16384 * rounds → ⊥) → is_verified_by long id tag q ≡ false
    by (inr past) _ = none k q e past
    by (inl lt) (inl is) =
        let same : r ≡ q = same_Some r q (sym at ∙ (ap (λ n. slice_get requests n) (sym is) ∙ e)) in
        subst (λ (x : Sent). is_verified_by long id tag x ≡ false) same fails
    by (inl lt) (inr apart) =
        let is : number_of (take 4 q.packet) % 16384 ≡ (0 + k) % 16384 = counted-at 0 requests k q counted e in
        let ne : number_of (take 4 q.packet) ≡ id.word → ⊥ = λ same.
        other-count (id.word % 16384) rounds k (omega arith) (omega (arith, le, apart)) lt (sym (is ∙ ap (λ n. n % 16384) (omega arith)) ∙ ap (λ n. n % 16384) same) in
        and_left (number_of (take 4 q.packet) == id.word) (not long || nat_lt q.floor tag) (ne_eqb _ _ ne)

pub last-verified : (long : Bool) (id : RequestId) (tag : ℕ) (requests : List Sent) (number : ℕ) (r : Sent) → slice_get requests number ≡ Some r → is_verified_by long id tag r ≡ true
    → NoneFrom long id tag requests (number + 1) → Some number ≡ last_number (is_verified_by long id tag) 0 requests
last-verified long id tag requests number r e t none =
    let is : number ≡ 0 + number = omega arith in
    ap (λ n. Some n) is ∙ sym (last_number-is (is_verified_by long id tag) 0 number requests r e t (λ j y lt f. none j y f (omega (arith, lt))))

pub none-verified : (long : Bool) (id : RequestId) (tag : ℕ) (requests : List Sent) → NoneFrom long id tag requests (id.word % 16384) → AreCounted 0 requests → None ≡ last_number (is_verified_by long id tag) 0 requests
none-verified long id tag requests none counted = sym (last_number-none (is_verified_by long id tag) 0 requests (λ j y e. by j y e (cases_lt j (id.word % 16384))))
  where
    by : (j : ℕ) (y : Sent) → slice_get requests j ≡ Some y → (j < id.word % 16384) ⊎ (id.word % 16384 ≤ j) → is_verified_by long id tag y ≡ false
    by j y e (inr le) = none j y e le
    by j y e (inl lt) =
        let is : number_of (take 4 y.packet) % 16384 ≡ (0 + j) % 16384 = counted-at 0 requests j y counted e in
        let ne : number_of (take 4 y.packet) ≡ id.word → ⊥ = λ same. let f : id.word % 16384 ≡ (0 + j) % 16384 = sym (ap (λ n. n % 16384) same) ∙ is in omega (arith, f, lt) in
        and_left (number_of (take 4 y.packet) == id.word) (not long || nat_lt y.floor tag) (ne_eqb _ _ ne)

-- ---- a turn of the search, which goes down by 16,384

pub none-turn : (long : Bool) (id : RequestId) (tag : ℕ) (requests : List Sent) (word rounds : ℕ) (r : Sent) → word ≡ id.word → AreCounted 0 requests → 0 < rounds
    → slice_get requests (word % 16384 + 16384 * (rounds - 1)) ≡ Some r → is_verified_by long id tag r ≡ false
    → NoneFrom long id tag requests (word % 16384 + 16384 * rounds) → NoneFrom long id tag requests (word % 16384 + 16384 * (rounds - 1))
none-turn long id tag requests word rounds r is counted some at fails none =
    let next : rounds ≡ rounds - 1 + 1 = omega (arith, some) in
    let wide : NoneFrom long id tag requests (id.word % 16384 + 16384 * (rounds - 1 + 1)) = subst (λ n. NoneFrom long id tag requests (id.word % 16384 + 16384 * n)) next (subst (λ w. NoneFrom long id tag requests (w % 16384 + 16384 * rounds)) is none) in
    subst (λ w. NoneFrom long id tag requests (w % 16384 + 16384 * (rounds - 1))) (sym is)
    (none-before long id tag requests (rounds - 1) r counted (subst (λ w. slice_get requests (w % 16384 + 16384 * (rounds - 1)) ≡ Some r) is at) fails wide)

-- between a place with the count and the next one no request has the ID
between-fails : (long : Bool) (id : RequestId) (tag : ℕ) (requests : List Sent) (rounds k : ℕ) (r : Sent) → AreCounted 0 requests → slice_get requests k ≡ Some r
    → id.word % 16384 + 16384 * rounds < k → k < id.word % 16384 + 16384 * (rounds + 1) → is_verified_by long id tag r ≡ false
between-fails long id tag requests rounds k r counted e above below =
    let is : number_of (take 4 r.packet) % 16384 ≡ (0 + k) % 16384 = counted-at 0 requests k r counted e in
    let ne : number_of (take 4 r.packet) ≡ id.word → ⊥ = λ same.
    other-count (id.word % 16384) rounds k (omega arith) above below (sym (is ∙ ap (λ n. n % 16384) (omega arith)) ∙ ap (λ n. n % 16384) same) in
    and_left (number_of (take 4 r.packet) == id.word) (not long || nat_lt r.floor tag) (ne_eqb _ _ ne)

pub none-next : (long : Bool) (id : RequestId) (tag : ℕ) (requests : List Sent) (word rounds : ℕ) → word ≡ id.word → AreCounted 0 requests → 0 < rounds
    → NoneFrom long id tag requests (word % 16384 + 16384 * rounds) → NoneFrom long id tag requests (word % 16384 + 16384 * (rounds - 1) + 1)
none-next long id tag requests word rounds is counted some none k r e le = by (cases_lt k (word % 16384 + 16384 * rounds))
  where
    by : (k < word % 16384 + 16384 * rounds) ⊎ (word % 16384 + 16384 * rounds ≤ k) → is_verified_by long id tag r ≡ false
    by (inr past) = none k r e past
    by (inl lt) =
        let same : word % 16384 ≡ id.word % 16384 = ap (λ n. n % 16384) is in
        between-fails long id tag requests (rounds - 1) k r counted e (omega (arith, same, le)) (omega (arith, same, lt, some))

pub none-left : (long : Bool) (id : RequestId) (tag : ℕ) (requests : List Sent) (word rounds : ℕ) → word ≡ id.word → AreCounted 0 requests → rounds ≤ 0
    → NoneFrom long id tag requests (word % 16384 + 16384 * rounds) → None ≡ last_number (is_verified_by long id tag) 0 requests
none-left long id tag requests word rounds is counted ended none =
    let same : word % 16384 + 16384 * rounds ≡ id.word % 16384 = omega (arith, ended, ap (λ n. n % 16384) is) in
    none-verified long id tag requests (subst (λ n. NoneFrom long id tag requests n) same none) counted
