-- What is collected for a structure are its places.
use Rattle.std.proofs.Common.{◌≡◌, ℕ, ◌+◌, refl, sym, subst, List, [], ◌∷◌, ◌++◌, Bool, true, false, ◌&&◌, inl, inr, ◌⊎◌, Option, Some, None, flat_map}
use Rattle.std.specs.Prelude.{filter_map, option_map, is_some, if◌then◌else◌}
use Rattle.std.specs.List.{cons_option, enumerate_from}
use Rattle.hk_base.specs.Parameters.{key_eq}
use Rattle.hk_base.specs.declared.types.Key.{Key}
use Rattle.hk_base.proofs.Membership.{IsIn, IsIn-left, IsIn-right, IsIn-append, IsIn-flat_map, flat_map-IsIn}
use Rattle.st03_grammar.specs.Instructions.{StructureChange, changes}
use Rattle.pus_messages.specs.Instructions.{Instruction, on_structure, on_statistics, report_values, set_values, instructions}
use Rattle.pus_messages.specs.Changes.{numbered_change, first_of_list}
use Rattle.pus_messages.specs.declared.message.Request.{Request}
use Rattle.ground_history.specs.Histories.{History}
use Rattle.verdict_tables.specs.Places.{changed_key, report_places, bound_places, request_places, places}
use Rattle.verdict_tables.specs.Collecting.{named_places, sent_places, collected_places}

-- some tags, if some of these instructions can change the structure
abbrev pub changed_by : List ℕ → Key → ℕ → List Instruction → List ℕ
changed_by bounds key m xs = if is_some (first_of_list (filter_map (numbered_change key) (enumerate_from m xs))) then bounds else []

pub forth : (bounds : List ℕ) (key : Key) (n m : ℕ) (xs : List Instruction) → IsIn n (named_places bounds (filter_map changed_key xs) key) → IsIn n (changed_by bounds key m xs)
forth bounds key n m [] i = i
forth bounds key n m (on_structure named change ∷ xs) i = outer (changes change) i (λ j. forth bounds key n (m + 1) xs j)
  where
    some : (b : Bool) → IsIn n (if b then bounds else []) → IsIn n bounds
    some true j = j
    some false j = absurd j

    inner : (b : Bool) → IsIn n ((if b then bounds else []) ++ named_places bounds (filter_map changed_key xs) key)
        → (IsIn n (named_places bounds (filter_map changed_key xs) key) → IsIn n (changed_by bounds key (m + 1) xs))
        → IsIn n (if is_some (first_of_list (cons_option (option_map (λ (c : StructureChange). (m, c)) (if b && true then Some change else None)) (filter_map (numbered_change key) (enumerate_from (m + 1) xs)))) then bounds else [])
    inner false j later = later j
    inner true j later = both (IsIn-append n bounds (named_places bounds (filter_map changed_key xs) key) j)
      where
        both : IsIn n bounds ⊎ IsIn n (named_places bounds (filter_map changed_key xs) key) → IsIn n bounds
        both (inl k) = k
        both (inr k) = some (is_some (first_of_list (filter_map (numbered_change key) (enumerate_from (m + 1) xs)))) (later k)

    skipped : (b : Bool) → (if b && false then Some change else None) ≡ None
    skipped true = refl
    skipped false = refl

    outer : (b : Bool) → IsIn n (named_places bounds (cons_option (if b then Some named else None) (filter_map changed_key xs)) key)
        → (IsIn n (named_places bounds (filter_map changed_key xs) key) → IsIn n (changed_by bounds key (m + 1) xs))
        → IsIn n (if is_some (first_of_list (cons_option (option_map (λ (c : StructureChange). (m, c)) (if key_eq named key && b then Some change else None)) (filter_map (numbered_change key) (enumerate_from (m + 1) xs)))) then bounds else [])
    outer true j later = inner (key_eq named key) j later
    outer false j later =
        subst (λ (o : Option StructureChange). IsIn n (if is_some (first_of_list (cons_option (option_map (λ (c : StructureChange). (m, c)) o) (filter_map (numbered_change key) (enumerate_from (m + 1) xs)))) then bounds else []))
        (sym (skipped (key_eq named key))) (later j)
forth bounds key n m (on_statistics change ∷ xs) i = forth bounds key n (m + 1) xs i
forth bounds key n m (report_values ids ∷ xs) i = forth bounds key n (m + 1) xs i
forth bounds key n m (set_values settings ∷ xs) i = forth bounds key n (m + 1) xs i

pub back : (bounds : List ℕ) (key : Key) (n m : ℕ) (xs : List Instruction) → IsIn n (changed_by bounds key m xs) → IsIn n (named_places bounds (filter_map changed_key xs) key)
back bounds key n m [] i = i
back bounds key n m (on_structure named change ∷ xs) i = outer (changes change) i (λ j. back bounds key n (m + 1) xs j)
  where
    inner : (b : Bool)
        → IsIn n (if is_some (first_of_list (cons_option (option_map (λ (c : StructureChange). (m, c)) (if b && true then Some change else None)) (filter_map (numbered_change key) (enumerate_from (m + 1) xs)))) then bounds else [])
        → (IsIn n (changed_by bounds key (m + 1) xs) → IsIn n (named_places bounds (filter_map changed_key xs) key))
        → IsIn n ((if b then bounds else []) ++ named_places bounds (filter_map changed_key xs) key)
    inner false j later = later j
    inner true j later = IsIn-left n bounds (named_places bounds (filter_map changed_key xs) key) j

    skipped : (b : Bool) → (if b && false then Some change else None) ≡ None
    skipped true = refl
    skipped false = refl

    outer : (b : Bool)
        → IsIn n (if is_some (first_of_list (cons_option (option_map (λ (c : StructureChange). (m, c)) (if key_eq named key && b then Some change else None)) (filter_map (numbered_change key) (enumerate_from (m + 1) xs)))) then bounds else [])
        → (IsIn n (changed_by bounds key (m + 1) xs) → IsIn n (named_places bounds (filter_map changed_key xs) key))
        → IsIn n (named_places bounds (cons_option (if b then Some named else None) (filter_map changed_key xs)) key)
    outer true j later = inner (key_eq named key) j later
    outer false j later =
        later (subst (λ (o : Option StructureChange). IsIn n (if is_some (first_of_list (cons_option (option_map (λ (c : StructureChange). (m, c)) o) (filter_map (numbered_change key) (enumerate_from (m + 1) xs)))) then bounds else []))
        (skipped (key_eq named key)) j)
back bounds key n m (on_statistics change ∷ xs) i = back bounds key n (m + 1) xs i
back bounds key n m (report_values ids ∷ xs) i = back bounds key n (m + 1) xs i
back bounds key n m (set_values settings ∷ xs) i = back bounds key n (m + 1) xs i

-- those of a request
sent-forth : (h : History) (key : Key) (n k : ℕ) (packet : List ℕ) (request : Option Request) (floor : ℕ)
    → IsIn n (sent_places h key (k, record { packet = packet; request = request; floor = floor })) → IsIn n (request_places h key (k, record { packet = packet; request = request; floor = floor }))
sent-forth h key n k packet None floor i = i
sent-forth h key n k packet (Some r) floor i = forth (bound_places h k) key n 1 (instructions r) i

sent-back : (h : History) (key : Key) (n k : ℕ) (packet : List ℕ) (request : Option Request) (floor : ℕ)
    → IsIn n (request_places h key (k, record { packet = packet; request = request; floor = floor })) → IsIn n (sent_places h key (k, record { packet = packet; request = request; floor = floor }))
sent-back h key n k packet None floor i = i
sent-back h key n k packet (Some r) floor i = back (bound_places h k) key n 1 (instructions r) i

parts-map : {X : Type 0} (f g : X → List ℕ) (n : ℕ) (xs : List X) → ((x : X) → IsIn n (f x) → IsIn n (g x)) → IsIn n (flat_map f xs) → IsIn n (flat_map g xs)
parts-map f g n xs h i =
    let p = IsIn-flat_map f n xs i in
    flat_map-IsIn g p.0 n xs p.1 (h p.0 p.2)

-- what is collected for a structure are its places
pub collected-IsIn : (h : History) (key : Key) (n : ℕ) → IsIn n (collected_places h key) → IsIn n (places h key)
collected-IsIn h key n i = go (IsIn-append n (flat_map (report_places key) h.kept) (flat_map (sent_places h key) (enumerate_from 0 h.requests)) i)
  where
    go : IsIn n (flat_map (report_places key) h.kept) ⊎ IsIn n (flat_map (sent_places h key) (enumerate_from 0 h.requests)) → IsIn n (places h key)
    go (inl j) = IsIn-left n (flat_map (report_places key) h.kept) (flat_map (request_places h key) (enumerate_from 0 h.requests)) j
    go (inr j) =
        IsIn-right n (flat_map (report_places key) h.kept) (flat_map (request_places h key) (enumerate_from 0 h.requests))
        (parts-map (sent_places h key) (request_places h key) n (enumerate_from 0 h.requests) (λ x k. sent-forth h key n x.0 x.1.packet x.1.request x.1.floor k) j)

pub places-IsIn : (h : History) (key : Key) (n : ℕ) → IsIn n (places h key) → IsIn n (collected_places h key)
places-IsIn h key n i = go (IsIn-append n (flat_map (report_places key) h.kept) (flat_map (request_places h key) (enumerate_from 0 h.requests)) i)
  where
    go : IsIn n (flat_map (report_places key) h.kept) ⊎ IsIn n (flat_map (request_places h key) (enumerate_from 0 h.requests)) → IsIn n (collected_places h key)
    go (inl j) = IsIn-left n (flat_map (report_places key) h.kept) (flat_map (sent_places h key) (enumerate_from 0 h.requests)) j
    go (inr j) =
        IsIn-right n (flat_map (report_places key) h.kept) (flat_map (sent_places h key) (enumerate_from 0 h.requests))
        (parts-map (request_places h key) (sent_places h key) n (enumerate_from 0 h.requests) (λ x k. sent-back h key n x.0 x.1.packet x.1.request x.1.floor k) j)
