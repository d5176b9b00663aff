-- A list that is read member by member.
use Rattle.std.proofs.Common.{arith, ◌≡◌, ◌∙◌, sym, ap, refl, ℕ, suc, ◌+◌, ◌-◌, ◌<◌, ◌≤◌, List, [], ◌∷◌, ◌++◌, append_assoc, Ok, Err}
use Rattle.std.specs.Prelude.{reverse, Bool}
use Rattle.std.specs.List.{list_any}
use Rattle.std.proofs.lemmas.List.Sorted.{list_any-IsPermutation, IsPermutation-reverse}
use Rattle.std.proofs.lemmas.List.{append-nil, reverse-append}
use Rattle.body_fields.specs.Reading.{Read, then_read, list_of}
use Rattle.body_fields.specs.Outcomes.{Fails}
use Rattle.body_fields.specs.declared.fault.BodyFault.{BodyFault}

-- members that are read behind others
abbrev pub behind : {A : Type 0} → List A → Read (List A) → Read (List A)
behind front read = then_read read (λ xs rest. Ok (front ++ xs, rest))

one_more : {A : Type 0} (front : List A) (x : A) (read : Read (List A)) → behind front (then_read read (λ xs rest. Ok (x ∷ xs, rest))) ≡ behind (front ++ x ∷ []) read
one_more front x (Ok found) = ap (λ xs. Ok (xs, found.1)) (sym (append_assoc front (x ∷ []) found.0))
one_more front x (Err fault) = refl

-- the first of what is left was read
pub goes_on : {A : Type 0} (reader : List A → List ℕ → Read A) (front : List A) (count i : ℕ) (octets after : List ℕ) (x : A) (whole : Read (List A)) → i < count
    → reader (reverse front) octets ≡ Ok (x, after)
    → behind front (list_of reader (count - i) (reverse front) octets) ≡ whole
    → behind (front ++ x ∷ []) (list_of reader (count - (i + 1)) (reverse (front ++ x ∷ [])) after) ≡ whole
goes_on reader front count i octets after x whole lt found so_far =
    let k : count - i ≡ suc (count - (i + 1)) = omega arith in
    let seen : reverse (front ++ x ∷ []) ≡ x ∷ reverse front = reverse-append front (x ∷ []) in
    let next : behind front (list_of reader (count - i) (reverse front) octets) ≡ behind (front ++ x ∷ []) (list_of reader (count - (i + 1)) (x ∷ reverse front) after) =
    rw (k, found) (one_more front x (list_of reader (count - (i + 1)) (x ∷ reverse front) after)) in
    ap (λ earlier. behind (front ++ x ∷ []) (list_of reader (count - (i + 1)) earlier after)) seen ∙ (sym next ∙ so_far)

-- the first of what is left has a fault
pub stops : {A : Type 0} (reader : List A → List ℕ → Read A) (front : List A) (count i : ℕ) (octets : List ℕ) (fault : BodyFault) (whole : Read (List A)) → i < count
    → Fails fault (reader (reverse front) octets)
    → behind front (list_of reader (count - i) (reverse front) octets) ≡ whole
    → Fails fault whole
stops reader front count i octets fault whole lt fails so_far real =
    let k : count - i ≡ suc (count - (i + 1)) = omega arith in
    let found : reader (reverse front) octets ≡ Err fault = fails real in
    let next : behind front (list_of reader (count - i) (reverse front) octets) ≡ Err fault = rw (k, found) refl in
    sym so_far ∙ next

-- nothing is left
pub is_done : {A : Type 0} (reader : List A → List ℕ → Read A) (front : List A) (count i : ℕ) (octets : List ℕ) (whole : Read (List A)) → count ≤ i
    → behind front (list_of reader (count - i) (reverse front) octets) ≡ whole
    → whole ≡ Ok (front, octets)
is_done reader front count i octets whole le so_far =
    let k : count - i ≡ 0 = omega arith in
    let next : behind front (list_of reader (count - i) (reverse front) octets) ≡ Ok (front, octets) = rw k (ap (λ xs. Ok (xs, octets)) (append-nil front)) in
    sym so_far ∙ next

-- a list has a member that passes a test, in whatever order
pub list_any-reverse : {A : Type 0} (test : A → Bool) (xs : List A) → list_any test xs ≡ list_any test (reverse xs)
list_any-reverse test xs = list_any-IsPermutation test xs (reverse xs) (IsPermutation-reverse xs)
