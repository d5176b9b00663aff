-- What is known of what a reader gives.
use Rattle.std.proofs.Common.{◌≡◌, ℕ, zero, suc, refl, subst, List, [], ◌∷◌, map, Bool, true, false, ◌==◌, inl, inr, Option, Some, None, Result, Ok, Err}
use Rattle.std.specs.Prelude.{⊤, find, option_map, if◌then◌else◌}
use Rattle.std.specs.List.{list_any, AllByRecursion}
use Rattle.std.proofs.lemmas.Bool.{both_ways, eq-eqb}
use Rattle.hk_base.specs.TailoringParts.{TailoringParts}
use Rattle.body_fields.specs.Reading.{Read, then_read, with_check, whole_body, list_of, count_field, counted_list, repeat_fault, body_of}
use Rattle.body_fields.specs.declared.fault.BodyFault.{BodyFault}
use Rattle.body_fields.specs.declared.fault.BodyFault.TheVariants.{RepeatedKey}
use Rattle.hk_base.proofs.Membership.{IsIn, AreApart, AreDisjoint, list_any-IsIn}

-- what is read, if there is no fault, is so
abbrev pub Reads : {A : Type 0} → (A → Type 0) → Read A → Type 0
Reads P (Ok x) = P x.0
Reads P (Err fault) = ⊤

-- a result, if there is no fault, is so
abbrev pub IsOkSo : {A E : Type 0} → (A → Type 0) → Result A E → Type 0
IsOkSo P (Ok x) = P x
IsOkSo P (Err fault) = ⊤

-- a result, if there is one and no fault, is so
abbrev pub IsSomeSo : {A E : Type 0} → (A → Type 0) → Option (Result A E) → Type 0
IsSomeSo P None = ⊤
IsSomeSo P (Some r) = IsOkSo P r

pub reads-any : {A : Type 0} (r : Read A) → Reads (λ x. ⊤) r
reads-any (Ok x) = tt
reads-any (Err fault) = tt

pub reads-then : {A B : Type 0} (P : A → Type 0) (Q : B → Type 0) (r : Read A) (next : A → List ℕ → Read B) → Reads P r → ((x : A) (rest : List ℕ) → P x → Reads Q (next x rest)) → Reads Q (then_read r next)
reads-then P Q (Ok x) next h f = f x.0 x.1 h
reads-then P Q (Err fault) next h f = tt

pub reads-check : {A : Type 0} (fault : A → Option BodyFault) (r : Read A) → Reads (λ x. fault x ≡ None) (with_check fault r)
reads-check fault (Ok x) = go (fault x.0) refl
  where
    go : (o : Option BodyFault) → fault x.0 ≡ o → Reads (λ y. fault y ≡ None) (with_check (λ y. o) (Ok x))
    go None e = e
    go (Some f) e = tt
reads-check fault (Err f) = tt

pub reads-weaken : {A : Type 0} (P Q : A → Type 0) (r : Read A) → ((x : A) → P x → Q x) → Reads P r → Reads Q r
reads-weaken P Q (Ok x) f h = f x.0 h
reads-weaken P Q (Err fault) f h = tt

-- an ID with no fault isn't among the earlier ones
pub unrepeated : (earlier : List ℕ) (id : ℕ) → repeat_fault earlier id ≡ None → IsIn id earlier → ⊥
unrepeated earlier id e i = go (list_any (λ x. x == id) earlier) (list_any-IsIn (λ x. x == id) id earlier i (eq-eqb id id refl)) e
  where
    go : (b : Bool) → b ≡ true → (if b then Some (RepeatedKey id) else None) ≡ None → ⊥
    go true p h = let no : Some (RepeatedKey id) ≡ None → ⊥ = λ e. cc in no h
    go false p h = both_ways false refl p

-- members whose keys aren't among those of earlier ones have no key twice
abbrev pub HasOwnKeys : {A : Type 0} → (A → ℕ) → List A → List A → Type 0
HasOwnKeys key earlier xs = AreApart (map key xs) × AreDisjoint (map key xs) (map key earlier)

pub reads-list_of : {A : Type 0} (key : A → ℕ) (member : List A → List ℕ → Read A)
    → ((earlier : List A) (octets : List ℕ) → Reads (λ x. IsIn (key x) (map key earlier) → ⊥) (member earlier octets))
    → (n : ℕ) (earlier : List A) (octets : List ℕ) → Reads (HasOwnKeys key earlier) (list_of member n earlier octets)
reads-list_of key member each zero earlier octets = (tt, λ x i j. i)
reads-list_of {A} key member each (suc n) earlier octets =
    reads-then (λ x. IsIn (key x) (map key earlier) → ⊥) (HasOwnKeys key earlier) (member earlier octets)
    (λ x rest. then_read (list_of member n (x ∷ earlier) rest) (λ xs end. Ok (x ∷ xs, end))) (each earlier octets)
    (λ x rest new.
    reads-then (HasOwnKeys key (x ∷ earlier)) (HasOwnKeys key earlier) (list_of member n (x ∷ earlier) rest) (λ xs end. Ok (x ∷ xs, end))
    (reads-list_of key member each n (x ∷ earlier) rest) (λ xs end own. add x xs new own))
  where
    add : (x : A) (xs : List A) → (IsIn (key x) (map key earlier) → ⊥) → HasOwnKeys key (x ∷ earlier) xs → HasOwnKeys key earlier (x ∷ xs)
    add x xs new own = ((λ i. own.1 (key x) i (inl refl), own.0), disjoint)
      where
        disjoint : AreDisjoint (key x ∷ map key xs) (map key earlier)
        disjoint y (inl e) j = new (subst (λ z. IsIn z (map key earlier)) e j)
        disjoint y (inr i) j = own.1 y i (inr j)

pub reads-counted : {A : Type 0} (t : TailoringParts) (least : ℕ) (key : A → ℕ) (member : List A → List ℕ → Read A)
    → ((earlier : List A) (octets : List ℕ) → Reads (λ x. IsIn (key x) (map key earlier) → ⊥) (member earlier octets))
    → (octets : List ℕ) → Reads (λ xs. AreApart (map key xs)) (counted_list t least member octets)
reads-counted t least key member each octets =
    reads-then (λ n. ⊤) (λ xs. AreApart (map key xs)) (count_field t least octets) (λ n rest. list_of member n [] rest) (reads-any (count_field t least octets))
    (λ n rest h. reads-weaken (HasOwnKeys key []) (λ xs. AreApart (map key xs)) (list_of member n [] rest) (λ xs own. own.0) (reads-list_of key member each n [] rest))

-- a whole body is what was read
pub whole-reads : {A : Type 0} (P : A → Type 0) (r : Read A) → Reads P r → IsOkSo P (whole_body r)
whole-reads P (Err fault) h = tt
whole-reads P (Ok x) h = go x.1
  where
    go : (rest : List ℕ) → IsOkSo P (whole_body (Ok (x.0, rest)))
    go [] = h
    go (octet ∷ octets) = tt

-- what holds of each reader of a table holds of what its body is read as
pub body-reads : {A : Type 0} (P : A → Type 0) (table : List (ℕ × (List ℕ → Read A))) (subtype : ℕ) (octets : List ℕ)
    → AllByRecursion (λ row. (os : List ℕ) → Reads P (row.1 os)) table → IsSomeSo P (body_of table subtype octets)
body-reads {A} P [] subtype octets h = tt
body-reads {A} P (row ∷ table) subtype octets h = go (row.0 == subtype) (body-reads P table subtype octets h.1)
  where
    go : (b : Bool) → IsSomeSo P (body_of table subtype octets)
        → IsSomeSo P (option_map (λ read. whole_body (read octets)) (option_map (λ (r : ℕ × (List ℕ → Read A)). r.1) (if b then Some row else find (λ r. r.0 == subtype) table)))
    go true rest = whole-reads P (row.1 octets) (h.0 octets)
    go false rest = rest
