-- The openings of a structure don't change with the tag between two places.
use Rattle.std.proofs.Common.{arith, ◌≡◌, ℕ, ◌+◌, ◌<◌, ◌≤◌, refl, sym, ◌∙◌, ap, subst, List, [], ◌∷◌, ◌++◌, Bool, true, false, ◌&&◌, ◌||◌, inl, inr, ◌⊎◌, Option, Some, None, flat_map}
use Rattle.std.specs.Prelude.{filter_map, nat_lt, nat_le, not, option_map, option_and_then, option_to_list, is_some, if◌then◌else◌}
use Rattle.std.specs.List.{cons_option, enumerate_from}
use Rattle.std.specs.Option.{option_map_or}
use Rattle.std.proofs.lemmas.Bool.{le-leb, lt-leb, lt-ltb, le-ltb}
use Rattle.hk_base.specs.TailoringParts.{TailoringParts}
use Rattle.hk_base.specs.Parameters.{boot_structure}
use Rattle.hk_base.specs.declared.types.Key.{Key}
use Rattle.hk_base.specs.declared.types.Structure.{Structure}
use Rattle.hk_base.proofs.Membership.{IsIn, IsIn-left, IsIn-right, flat_map-IsIn}
use Rattle.st03_grammar.specs.Instructions.{StructureChange}
use Rattle.pus_messages.specs.Changes.{change_by}
use Rattle.ground_history.specs.Histories.{Sent, Kept, History, tag_of}
use Rattle.ground_history.specs.Evidence.{low, high, is_accepted, is_barred, outcome}
use Rattle.definition_intervals.specs.Openings.{Candidate, Opening, is_at_most, is_certain, is_possible, candidate, candidates, from_creation, opening, openings, boot_openings, report_opening, reported_structure}
use Rattle.verdict_tables.specs.Places.{can_change, report_places, bound_places, request_places, places}

-- a function that is the same at each member
pub filter_map-same : {X Y : Type 0} (f g : X → Option Y) (xs : List X) → ((x : X) → IsIn x xs → f x ≡ g x) → filter_map f xs ≡ filter_map g xs
filter_map-same f g [] h = refl
filter_map-same {Y = Y} f g (x ∷ xs) h =
    ap (λ (o : Option Y). cons_option o (filter_map f xs)) (h x (inl refl)) ∙ ap (λ l. cons_option (g x) l) (filter_map-same f g xs (λ y i. h y (inr i)))

-- whether a number is at most either of two, where it isn't between them
same-le : (n first tag : ℕ) → first ≤ tag → (n ≤ first) ⊎ (tag < n) → nat_le n first ≡ nat_le n tag
same-le n first tag l (inl low) = le-leb n first low ∙ sym (le-leb n tag (omega (arith, low, l)))
same-le n first tag l (inr up) = lt-leb n first (omega (arith, up, l)) ∙ sym (lt-leb n tag up)

-- whether it is below either of two, where one above it isn't between them
same-lt : (n first tag : ℕ) → first ≤ tag → (n + 1 ≤ first) ⊎ (tag < n + 1) → nat_lt n first ≡ nat_lt n tag
same-lt n first tag l (inl low) = lt-ltb n first (omega (arith, low)) ∙ sym (lt-ltb n tag (omega (arith, low, l)))
same-lt n first tag l (inr up) = le-ltb n first (omega (arith, up, l)) ∙ sym (le-ltb n tag (omega (arith, up)))

-- whether either of two is at most it, in the same way
same-ge : (n first tag : ℕ) → first ≤ tag → (n + 1 ≤ first) ⊎ (tag < n + 1) → nat_le first n ≡ nat_le tag n
same-ge n first tag l (inl low) = lt-leb first n (omega (arith, low)) ∙ sym (lt-leb tag n (omega (arith, low, l)))
same-ge n first tag l (inr up) = le-leb first n (omega (arith, up, l)) ∙ sym (le-leb tag n (omega (arith, up)))

same-at_most : (top : Option ℕ) (first tag : ℕ) → first ≤ tag → ((n : ℕ) → IsIn n (option_to_list top) → (n ≤ first) ⊎ (tag < n)) → is_at_most top first ≡ is_at_most top tag
same-at_most None first tag l h = refl
same-at_most (Some n) first tag l h = same-le n first tag l (h n (inl refl))

-- no place of a structure is above one tag and not above another
abbrev pub IsApart : History → Key → ℕ → ℕ → Type 0
IsApart h key first tag = (n : ℕ) → IsIn n (places h key) → (n ≤ first) ⊎ (tag < n)

-- a request that can change a structure has its bounds among the places
pub bounds-there : (h : History) (key : Key) (k : ℕ) (sent : Sent) → IsIn (k, sent) (enumerate_from 0 h.requests) → can_change key sent ≡ true
    → (n : ℕ) → IsIn n (bound_places h k) → IsIn n (places h key)
bounds-there h key k sent i e n j =
    IsIn-right n (flat_map (report_places key) h.kept) (flat_map (request_places h key) (enumerate_from 0 h.requests))
    (flat_map-IsIn (request_places h key) (k, sent) n (enumerate_from 0 h.requests) i (subst (λ b. IsIn n (if b then bound_places h k else [])) (sym e) j))

-- a report that tells of a structure has its place among the places
pub report-there : (h : History) (key : Key) (k : Kept) (s : Structure) → IsIn k h.kept → reported_structure key k.report.body ≡ Some s → IsIn (tag_of k + 1) (places h key)
report-there h key k s i e =
    IsIn-left (tag_of k + 1) (flat_map (report_places key) h.kept) (flat_map (request_places h key) (enumerate_from 0 h.requests))
    (flat_map-IsIn (report_places key) k (tag_of k + 1) h.kept i
    (subst (λ (o : Option Structure). IsIn (tag_of k + 1) (if is_some o then (tag_of k + 1) ∷ [] else [])) (sym e) (inl refl)))

none_either : {X : Type 0} (b : Bool) → if◌then◌else◌ {A = Option X} b None None ≡ None
none_either true = refl
none_either false = refl

-- a request that can't change the structure is no candidate, and a report that tells nothing of it is no opening
pub unchanged : (h : History) (key : Key) (from tag k : ℕ) (sent : Sent) → option_and_then (change_by key) sent.request ≡ None → candidate h key from tag (k, sent) ≡ None
unchanged h key from tag k sent e =
    ap (λ (o : Option (ℕ × StructureChange)). if is_possible h from tag k then option_map (λ (c : ℕ × StructureChange). record { number = k; change = c.1; certain = is_certain h from tag k; outcome = outcome h k c.0 }) o else None) e
    ∙ none_either (is_possible h from tag k)

pub untold : (h : History) (key : Key) (tag : ℕ) (k : Kept) → reported_structure key k.report.body ≡ None → report_opening h key tag k ≡ None
untold h key tag k e =
    ap (λ (o : Option Structure). if nat_lt (tag_of k) tag then option_map (λ s. opening h key tag (tag_of k) (Some s)) o else None) e ∙ none_either (nat_lt (tag_of k) tag)

same-candidate : (h : History) (key : Key) (from first tag k : ℕ) (sent : Sent) → first ≤ tag → IsApart h key first tag → IsIn (k, sent) (enumerate_from 0 h.requests)
    → candidate h key from first (k, sent) ≡ candidate h key from tag (k, sent)
same-candidate h key from first tag k sent l apart i = go (option_and_then (change_by key) sent.request) refl
  where
    made : (o : Option (ℕ × StructureChange)) (possible certain : Bool) → Option Candidate
    made o possible certain =
        if possible then option_map (λ (c : ℕ × StructureChange). record { number = k; change = c.1; certain = certain; outcome = outcome h k c.0 }) o else None

    go : (o : Option (ℕ × StructureChange)) → option_and_then (change_by key) sent.request ≡ o
        → made (option_and_then (change_by key) sent.request) (is_possible h from first k) (is_certain h from first k)
        ≡ made (option_and_then (change_by key) sent.request) (is_possible h from tag k) (is_certain h from tag k)
    go None e = unchanged h key from first k sent e ∙ sym (unchanged h key from tag k sent e)
    go (Some c) e =
        let there = bounds-there h key k sent i (ap (λ (o : Option (ℕ × StructureChange)). is_some o) e) in
        let above = same-ge (low h k) first tag l (apart (low h k + 1) (there (low h k + 1) (inl refl))) in
        let below = same-at_most (high h k) first tag l (λ n j. apart n (there n (inr j))) in
        ap (λ b. made (option_and_then (change_by key) sent.request) (not (b || is_barred h k) && not (is_at_most (high h k) from)) (is_certain h from first k)) above
        ∙ ap (λ b. made (option_and_then (change_by key) sent.request) (is_possible h from tag k) (nat_le from (low h k) && is_accepted h k && b)) below

same-candidates : (h : History) (key : Key) (from first tag : ℕ) → first ≤ tag → IsApart h key first tag → candidates h key from first ≡ candidates h key from tag
same-candidates h key from first tag l apart =
    filter_map-same (candidate h key from first) (candidate h key from tag) (enumerate_from 0 h.requests)
    (λ x i. same-candidate h key from first tag x.0 x.1 l apart i)

same-opening : (h : History) (key : Key) (from first tag : ℕ) (state : Option Structure) → first ≤ tag → IsApart h key first tag
    → opening h key first from state ≡ opening h key tag from state
same-opening h key from first tag state l apart =
    ap (λ (cs : List Candidate). option_map_or (λ rest. record { tag = from; state = None; requests = rest }) (from_creation cs) (record { tag = from; state = state; requests = cs }))
    (same-candidates h key from first tag l apart)

same-report : (h : History) (key : Key) (first tag : ℕ) (k : Kept) → first ≤ tag → IsApart h key first tag → IsIn k h.kept
    → report_opening h key first k ≡ report_opening h key tag k
same-report h key first tag k l apart i = go (reported_structure key k.report.body) refl
  where
    made : ℕ → Bool → Option Structure → Option Opening
    made t b o = if b then option_map (λ s. opening h key t (tag_of k) (Some s)) o else None

    go : (o : Option Structure) → reported_structure key k.report.body ≡ o
        → made first (nat_lt (tag_of k) first) (reported_structure key k.report.body) ≡ made tag (nat_lt (tag_of k) tag) (reported_structure key k.report.body)
    go None e = untold h key first k e ∙ sym (untold h key tag k e)
    go (Some s) e =
        ap (λ (o : Option Structure). made first (nat_lt (tag_of k) first) o) e
        ∙ (ap (λ b. made first b (Some s)) (same-lt (tag_of k) first tag l (apart (tag_of k + 1) (report-there h key k s i e)))
        ∙ (ap (λ (o : Opening). if nat_lt (tag_of k) tag then Some o else None) (same-opening h key (tag_of k) first tag (Some s) l apart)
        ∙ sym (ap (λ (o : Option Structure). made tag (nat_lt (tag_of k) tag) o) e)))

-- The openings at two tags with no place between them are the same.
pub same-openings : (t : TailoringParts) (h : History) (key : Key) (first tag : ℕ) → first ≤ tag → IsApart h key first tag → openings t h key first ≡ openings t h key tag
same-openings t h key first tag l apart =
    ap (λ (o : Opening). (if h.known then o ∷ [] else []) ++ filter_map (report_opening h key first) h.kept) (same-opening h key 0 first tag (boot_structure t key) l apart)
    ∙ ap (λ os. boot_openings t h key tag ++ os) (filter_map-same (report_opening h key first) (report_opening h key tag) h.kept (λ k i. same-report h key first tag k l apart i))
