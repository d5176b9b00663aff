-- Openings by what is known, one request or one report after the other.
use Rattle.std.proofs.Common.{arith, ◌≡◌, ℕ, zero, suc, ◌+◌, ◌<◌, ◌≤◌, refl, sym, ◌∙◌, ap, subst, List, [], ◌∷◌, ◌++◌, Bool, true, false, length, map, take, add-one, Option, Some, None, IfSome, option_to_list, nat_lt, append-nil, append_assoc, inl, inr}
use Rattle.std.specs.Prelude.{filter_map, slice_get, option_map, option_and_then, ◌&&◌, if◌then◌else◌}
use Rattle.std.specs.List.{enumerate_from, cons_option, All, AllByRecursion}
use Rattle.std.specs.Option.{option_or, option_map_or}
use Rattle.std.proofs.lemmas.List.{take_all}
use Rattle.std.proofs.lemmas.List.Elements.{filter_map-append, All-from_recursion}
use Rattle.hk_base.specs.TailoringParts.{TailoringParts}
use Rattle.hk_base.specs.Parameters.{key_eq, boot_structure}
use Rattle.hk_base.specs.declared.types.Key.{Key}
use Rattle.hk_base.specs.declared.types.Structure.{Structure}
use Rattle.hk_base.proofs.Membership.{some_value, IsIn, IsIn-filter_map, IsIn-AllByRecursion, AllByRecursion-IsIn, AllByRecursion-append}
use Rattle.st03_grammar.specs.Instructions.{StructureChange, changes, structure_changes}
use Rattle.st04_grammar.specs.Instructions.{StatisticsChange}
use Rattle.st20_grammar.specs.declared.bodies.Request20.{Request20}
use Rattle.st20_grammar.specs.declared.bodies.Request20.TheVariants as values
use Rattle.pus_messages.specs.Instructions.{Instruction, on_statistics, on_structures, instructions, body_instructions, value_instruction}
use Rattle.pus_messages.specs.Spelling.{IsRequestBody, IsReportBody, IsRequest, IsReport}
use Rattle.pus_messages.specs.Changes.{change_on, change_by}
use Rattle.pus_messages.specs.declared.message.Request.{Request}
use Rattle.pus_messages.specs.declared.message.ReportBody.{ReportBody}
use Rattle.pus_messages.specs.declared.message.ReportBody.TheVariants as tell
use Rattle.st03_grammar.specs.declared.bodies.Report03.TheVariants as hk
use Rattle.pus_messages.specs.declared.message.RequestBody.{RequestBody}
use Rattle.pus_messages.specs.declared.message.RequestBody.TheVariants.{Hk, Stat, Par}
use Rattle.report_structures.specs.Changes.{IsGrammarChange, IsFormedState}
use Rattle.report_structures.proofs.GrammarLemmas.{instruction_of_grammar}
use Rattle.report_structures.proofs.ReportedLemmas.{reported-formed}
use Rattle.ground_history.specs.Histories.{Sent, Kept, History, tag_of}
use Rattle.ground_history.specs.Evidence.{outcome}
use Rattle.ground_history.specs.Ground.{Ground, IsGrammarKept, IsGrounded, tells_structure}
use Rattle.definition_intervals.specs.Openings.{Candidate, Opening, is_possible, is_certain, candidate, candidates, surely_creates, from_creation, opening, reported_structure, report_opening, boot_openings, openings}
use Rattle.definition_intervals.specs.Findings.{IsFormedCandidate, IsFormedOpening, with_request}
use Rattle.definition_intervals.specs.Founds.{ChangesAreFormed, ReportedStatesAreFormed}
use Rattle.definition_intervals.proofs.CandidateLemmas.{change_found}

-- one more member with its number
pub enumerate-more : {X : Type 0} (n : ℕ) (xs : List X) (x : X) → enumerate_from n (xs ++ x ∷ []) ≡ enumerate_from n xs ++ (n + length xs, x) ∷ []
enumerate-more n [] x = ap (λ k. (k, x) ∷ []) (omega arith)
enumerate-more n (y ∷ xs) x =
    let numbers : n + 1 + length xs ≡ n + length (y ∷ xs) = omega arith in
    ap (λ l. (n, y) ∷ l) (enumerate-more (n + 1) xs x ∙ ap (λ k. enumerate_from (n + 1) xs ++ (k, x) ∷ []) numbers)

-- what the first so many requests and one more give
abbrev pub first_candidates : History → Key → ℕ → ℕ → ℕ → List Candidate
first_candidates h key from tag n = filter_map (candidate h key from tag) (enumerate_from 0 (take n h.requests))

length-take_within : {X : Type 0} (n : ℕ) (xs : List X) → n ≤ length xs → length (take n xs) ≡ n
length-take_within zero xs h = refl
length-take_within (suc k) [] h = absurd (omega arith)
length-take_within (suc k) (x ∷ xs) h = ap suc (length-take_within k xs (omega arith))

-- the member at a place, and one more member
pub member-at : {X : Type 0} (xs : List X) (n : ℕ) → n < length xs → (x : X) × (slice_get xs n ≡ Some x)
member-at [] n l = absurd (omega arith)
member-at (x ∷ xs) zero l = (x, refl)
member-at (x ∷ xs) (suc n) l = member-at xs n (omega arith)

pub take-suc_at : {X : Type 0} (xs : List X) (n : ℕ) (x : X) → slice_get xs n ≡ Some x → take (suc n) xs ≡ take n xs ++ x ∷ []
take-suc_at [] n x e = absurd (let no : None ≡ Some x → ⊥ = λ e. cc in no e)
take-suc_at (y ∷ xs) zero x e = ap (λ z. z ∷ []) (some_value y x e)
take-suc_at (y ∷ xs) (suc n) x e = ap (λ l. y ∷ l) (take-suc_at xs n x e)

pub take-more_at : {X : Type 0} (xs : List X) (n : ℕ) (x : X) → slice_get xs n ≡ Some x → take (n + 1) xs ≡ take n xs ++ x ∷ []
take-more_at xs n x e = ap (λ k. take k xs) (add-one n) ∙ take-suc_at xs n x e

candidates-more : (h : History) (key : Key) (from tag n : ℕ) (s : Sent) (o : Option Candidate) → n < length h.requests → slice_get h.requests n ≡ Some s
    → o ≡ candidate h key from tag (n, s) → first_candidates h key from tag (n + 1) ≡ first_candidates h key from tag n ++ option_to_list o
candidates-more h key from tag n s o l e is =
    let within : length (take n h.requests) ≡ n = length-take_within n h.requests (omega arith) in
    let number : 0 + length (take n h.requests) ≡ n = omega arith in
    ap (λ xs. filter_map (candidate h key from tag) (enumerate_from 0 xs)) (take-more_at h.requests n s e)
    ∙ (ap (λ xs. filter_map (candidate h key from tag) xs) (enumerate-more 0 (take n h.requests) s ∙ ap (λ k. enumerate_from 0 (take n h.requests) ++ (k, s) ∷ []) number)
    ∙ (filter_map-append (candidate h key from tag) (enumerate_from 0 (take n h.requests)) ((n, s) ∷ [])
    ∙ (ap (λ (r : Option Candidate). first_candidates h key from tag n ++ cons_option r []) (sym is) ∙ ap (λ l. first_candidates h key from tag n ++ l) (one o))))
  where
    one : (r : Option Candidate) → cons_option r [] ≡ option_to_list r
    one None = refl
    one (Some c) = refl

-- an opening from some requests, by those from its last sure creation on
abbrev pub opened_by : ℕ → Option Structure → List Candidate → Option (List Candidate) → Opening
opened_by from state cs created = option_map_or (λ rest. record { tag = from; state = None; requests = rest }) created (record { tag = from; state = state; requests = cs })

-- an opening from some requests
abbrev pub opened : ℕ → Option Structure → List Candidate → Opening
opened from state cs = opened_by from state cs (from_creation cs)

-- an opening with one more request, by whether that is a sure creation
abbrev grown : Bool → Opening → Candidate → Opening
grown b o c = if b then record { tag = o.tag; state = None; requests = c ∷ [] } else record { tag = o.tag; state = o.state; requests = o.requests ++ c ∷ [] }

creation-more : (cs : List Candidate) (c : Candidate)
    → from_creation (cs ++ c ∷ []) ≡ (if surely_creates c then Some (c ∷ []) else option_map (λ rest. rest ++ c ∷ []) (from_creation cs))
creation-more [] c = go (surely_creates c)
  where
    go : (b : Bool) → option_or None (if b then Some (c ∷ []) else None) ≡ (if b then Some (c ∷ []) else None)
    go true = refl
    go false = refl
creation-more (x ∷ cs) c =
    ap (λ o. option_or o (if surely_creates x then Some (x ∷ (cs ++ c ∷ [])) else None)) (creation-more cs c) ∙ go (surely_creates c) (surely_creates x) (from_creation cs)
  where
    go : (b d : Bool) (o : Option (List Candidate))
        → option_or (if b then Some (c ∷ []) else option_map (λ rest. rest ++ c ∷ []) o) (if d then Some (x ∷ (cs ++ c ∷ [])) else None)
        ≡ (if b then Some (c ∷ []) else option_map (λ rest. rest ++ c ∷ []) (option_or o (if d then Some (x ∷ cs) else None)))
    go true d o = refl
    go false d (Some r) = refl
    go false true None = refl
    go false false None = refl

opened-more : (from : ℕ) (state : Option Structure) (cs : List Candidate) (c : Candidate) → opened from state (cs ++ c ∷ []) ≡ with_request (opened from state cs) c
opened-more from state cs c = ap (λ o. opened_by from state (cs ++ c ∷ []) o) (creation-more cs c) ∙ go (surely_creates c) (from_creation cs)
  where
    go : (b : Bool) (o : Option (List Candidate))
        → opened_by from state (cs ++ c ∷ []) (if b then Some (c ∷ []) else option_map (λ rest. rest ++ c ∷ []) o) ≡ grown b (opened_by from state cs o) c
    go true None = refl
    go true (Some r) = refl
    go false None = refl
    go false (Some r) = refl

-- what is said of the request at a place
abbrev pub IsCandidateAt : History → Key → ℕ → ℕ → ℕ → Option Candidate → Type 0
IsCandidateAt h key from tag n o = (s : Sent) → slice_get h.requests n ≡ Some s → o ≡ candidate h key from tag (n, s)

-- a step of the loop over requests
pub opened-step : (h : History) (key : Key) (from tag n : ℕ) (state : Option Structure) (c : Candidate) → n < length h.requests → IsCandidateAt h key from tag n (Some c)
    → opened from state (first_candidates h key from tag (n + 1)) ≡ with_request (opened from state (first_candidates h key from tag n)) c
opened-step h key from tag n state c l told =
    let s = member-at h.requests n l in
    ap (λ cs. opened from state cs) (candidates-more h key from tag n s.0 (Some c) l s.1 (told s.0 s.1)) ∙ opened-more from state (first_candidates h key from tag n) c

pub unchanged-step : (h : History) (key : Key) (from tag n : ℕ) (state : Option Structure) → n < length h.requests → IsCandidateAt h key from tag n None
    → opened from state (first_candidates h key from tag (n + 1)) ≡ opened from state (first_candidates h key from tag n)
unchanged-step h key from tag n state l told =
    let s = member-at h.requests n l in
    ap (λ cs. opened from state cs) (candidates-more h key from tag n s.0 None l s.1 (told s.0 s.1) ∙ append-nil (first_candidates h key from tag n))

pub opened-all : (h : History) (key : Key) (from tag n : ℕ) (state : Option Structure) → length h.requests ≤ n
    → opened from state (first_candidates h key from tag n) ≡ opening h key tag from state
opened-all h key from tag n state l = ap (λ xs. opened from state (filter_map (candidate h key from tag) (enumerate_from 0 xs))) (take_all n h.requests l)

-- each change of a request of the grammar is one of the grammar
on_structure-found : (key : Key) (cs : List (Key × StructureChange)) (j : ℕ) (x : Instruction) (c : StructureChange) → slice_get (on_structures cs) j ≡ Some x → change_on key x ≡ Some c
    → (named : Key) × (slice_get cs j ≡ Some (named, c))
on_structure-found key [] j x c e h = absurd (let no : None ≡ Some x → ⊥ = λ e. cc in no e)
on_structure-found key (y ∷ cs) zero x c e h = go (key_eq y.0 key && changes y.1) (ap (λ z. change_on key z) (some_value _ x e) ∙ h)
  where
    go : (b : Bool) → (if b then Some y.1 else None) ≡ Some c → (named : Key) × (Some y ≡ Some (named, c))
    go true p = (y.0, ap (λ z. Some (y.0, z)) (some_value y.1 c p))
    go false p = absurd (let no : None ≡ Some c → ⊥ = λ e. cc in no p)
on_structure-found key (y ∷ cs) (suc j) x c e h = on_structure-found key cs j x c e h

on_statistics-none : (key : Key) (cs : List StatisticsChange) (j : ℕ) (x : Instruction) → slice_get (map on_statistics cs) j ≡ Some x → change_on key x ≡ None
on_statistics-none key [] j x e = absurd (let no : None ≡ Some x → ⊥ = λ e. cc in no e)
on_statistics-none key (y ∷ cs) zero x e = ap (λ z. change_on key z) (sym (some_value (on_statistics y) x e))
on_statistics-none key (y ∷ cs) (suc j) x e = on_statistics-none key cs j x e

value-none : (key : Key) (r : Request20) → change_on key (value_instruction r) ≡ None
value-none key (values.Report ids) = refl
value-none key (values.Set settings) = refl

values-none : (key : Key) (r : Request20) (j : ℕ) (x : Instruction) → slice_get (value_instruction r ∷ []) j ≡ Some x → change_on key x ≡ None
values-none key r zero x e = ap (λ z. change_on key z) (sym (some_value (value_instruction r) x e)) ∙ value-none key r
values-none key r (suc j) x e = absurd (let no : None ≡ Some x → ⊥ = λ e. cc in no e)

change-formed : (t : TailoringParts) (key : Key) (b : RequestBody) (j : ℕ) (x : Instruction) (c : StructureChange) → IsRequestBody t b → slice_get (body_instructions b) j ≡ Some x
    → change_on key x ≡ Some c → IsGrammarChange t c
change-formed t key (Hk r) j x c is e h =
    let found = on_structure-found key (structure_changes r) j x c e h in
    instruction_of_grammar t r (suc j) found.0 c is found.1
change-formed t key (Stat r) j x c is e h = absurd (let no : None ≡ Some c → ⊥ = λ e. cc in no (sym (on_statistics-none key _ j x e) ∙ h))
change-formed t key (Par r) j x c is e h = absurd (let no : None ≡ Some c → ⊥ = λ e. cc in no (sym (values-none key r j x e) ∙ h))

-- the change that a request of the grammar makes of a structure
pub changes-formed : ChangesAreFormed
changes-formed t key r number change is e =
    let f = change_found key (instructions r) 1 number change e in
    change-formed t key r.body f.0 f.1 change is.body f.3 f.4

-- a request of the grammar with few instructions
abbrev pub IsGroundedRequest : TailoringParts → Request → Type 0
IsGroundedRequest t r = IsRequest t r × (length (instructions r) ≤ 255)

pub candidate-formed : (t : TailoringParts) (h : History) (key : Key) (from tag n : ℕ) (s : Sent) (c : Candidate) → IfSome s.request (IsGroundedRequest t)
    → candidate h key from tag (n, s) ≡ Some c → IsFormedCandidate t c
candidate-formed t h key from tag n s c grounded e = go (is_possible h from tag n) s.request grounded e
  where
    found : (r : Request) (o : Option (ℕ × StructureChange)) → IsGroundedRequest t r → change_by key r ≡ o
        → option_map (λ (d : ℕ × StructureChange). record { number = n; change = d.1; certain = is_certain h from tag n; outcome = outcome h n d.0 }) o ≡ Some c → IsFormedCandidate t c
    found r None g p q = absurd (let no : None ≡ Some c → ⊥ = λ e. cc in no q)
    found r (Some d) g p q =
        let f = change_found key (instructions r) 1 d.0 d.1 p in
        let own : IsGrammarChange t d.1 = change-formed t key r.body f.0 f.1 d.1 g.0.body f.3 f.4 in
        subst (λ (x : Candidate). IsFormedCandidate t x) (some_value _ c q) own

    go : (b : Bool) (o : Option Request) → IfSome o (IsGroundedRequest t)
        → (if b then option_map (λ (d : ℕ × StructureChange). record { number = n; change = d.1; certain = is_certain h from tag n; outcome = outcome h n d.0 })
        (option_and_then (change_by key) o) else None) ≡ Some c → IsFormedCandidate t c
    go false o g p = absurd (let no : None ≡ Some c → ⊥ = λ e. cc in no p)
    go true None g p = absurd (let no : None ≡ Some c → ⊥ = λ e. cc in no p)
    go true (Some r) g p = found r (change_by key r) g refl p

pub numbered-IsIn : (n : ℕ) (p : ℕ × Sent) (xs : List Sent) → IsIn p (enumerate_from n xs) → IsIn p.1 xs
numbered-IsIn n p [] i = absurd i
numbered-IsIn n p (x ∷ xs) (inl e) = inl (ap (λ (z : ℕ × Sent). z.1) e)
numbered-IsIn n p (x ∷ xs) (inr i) = inr (numbered-IsIn (n + 1) p xs i)

candidates-formed : (t : TailoringParts) (h : History) (key : Key) (from tag : ℕ) → AllByRecursion (λ s. IfSome s.request (IsGroundedRequest t)) h.requests
    → AllByRecursion (IsFormedCandidate t) (candidates h key from tag)
candidates-formed t h key from tag grounded = IsIn-AllByRecursion (IsFormedCandidate t) (candidates h key from tag) each
  where
    each : (c : Candidate) → IsIn c (candidates h key from tag) → IsFormedCandidate t c
    each c i =
        let r = IsIn-filter_map (candidate h key from tag) c (enumerate_from 0 h.requests) i in
        candidate-formed t h key from tag r.0.0 r.0.1 c
        (AllByRecursion-IsIn (λ s. IfSome s.request (IsGroundedRequest t)) r.0.1 h.requests grounded (numbered-IsIn 0 r.0 h.requests r.1)) r.2

creation-formed : (t : TailoringParts) (cs rest : List Candidate) → AllByRecursion (IsFormedCandidate t) cs → from_creation cs ≡ Some rest → AllByRecursion (IsFormedCandidate t) rest
creation-formed t [] rest all e = absurd (let no : None ≡ Some rest → ⊥ = λ e. cc in no e)
creation-formed t (c ∷ cs) rest all e = go (from_creation cs) (surely_creates c) (λ r h. creation-formed t cs r all.1 h) refl e
  where
    go : (o : Option (List Candidate)) (b : Bool) → ((r : List Candidate) → from_creation cs ≡ Some r → AllByRecursion (IsFormedCandidate t) r) → from_creation cs ≡ o
        → option_or o (if b then Some (c ∷ cs) else None) ≡ Some rest → AllByRecursion (IsFormedCandidate t) rest
    go (Some r) b later p h = later rest (p ∙ h)
    go None true later p h = subst (λ l. AllByRecursion (IsFormedCandidate t) l) (some_value (c ∷ cs) rest h) all
    go None false later p h = absurd (let no : None ≡ Some rest → ⊥ = λ e. cc in no h)

opening-formed : (g : Ground) (key : Key) (tag from : ℕ) (state : Option Structure) → IsGrounded g → IsFormedState g.tailoring state
    → IsFormedOpening g.tailoring (opening g.history key tag from state)
opening-formed g key tag from state grounded formed =
    go (from_creation (candidates g.history key from tag)) (λ r e. creation-formed g.tailoring (candidates g.history key from tag) r all e)
  where
    all : AllByRecursion (IsFormedCandidate g.tailoring) (candidates g.history key from tag)
    all = candidates-formed g.tailoring g.history key from tag grounded.requests

    go : (o : Option (List Candidate)) → ((r : List Candidate) → o ≡ Some r → AllByRecursion (IsFormedCandidate g.tailoring) r)
        → IsFormedOpening g.tailoring (opened_by from state (candidates g.history key from tag) o)
    go None later = record { state = formed; requests = All-from_recursion (IsFormedCandidate g.tailoring) (candidates g.history key from tag) all }
    go (Some r) later = record { state = tt; requests = All-from_recursion (IsFormedCandidate g.tailoring) r (later r refl) }

-- the structure of a report of the grammar is valid, the size of its payload aside
reported-state : (t : TailoringParts) (key : Key) (body : ReportBody) → IsReportBody t body → IsFormedState t (reported_structure key body)
reported-state t key (tell.Hk (hk.Structure named s)) is = go (key_eq named key)
  where
    go : (b : Bool) → IsFormedState t (if b then Some s else None)
    go true = reported-formed t named s is
    go false = tt
reported-state t key (tell.Hk (hk.Values named payload)) is = tt
reported-state t key (tell.Hk (hk.Periodic kind rows)) is = tt
reported-state t key (tell.Verify v) is = tt
reported-state t key (tell.Stat r) is = tt
reported-state t key (tell.Par r) is = tt

pub reported-states-formed : ReportedStatesAreFormed
reported-states-formed t key r is = reported-state t key r.body is.body

report-formed : (g : Ground) (key : Key) (tag : ℕ) (k : Kept) (o : Opening) → IsGrounded g → IsReport g.tailoring k.report → report_opening g.history key tag k ≡ Some o
    → IsFormedOpening g.tailoring o
report-formed g key tag k o grounded formed e = go (nat_lt (tag_of k) tag) (reported_structure key k.report.body) (reported-state g.tailoring key k.report.body formed.body) e
  where
    go : (b : Bool) (s : Option Structure) → IsFormedState g.tailoring s
        → (if b then option_map (λ x. opening g.history key tag (tag_of k) (Some x)) s else None) ≡ Some o → IsFormedOpening g.tailoring o
    go false s f h = absurd (let no : None ≡ Some o → ⊥ = λ e. cc in no h)
    go true None f h = absurd (let no : None ≡ Some o → ⊥ = λ e. cc in no h)
    go true (Some x) f h =
        subst (λ p. IsFormedOpening g.tailoring p) (some_value (opening g.history key tag (tag_of k) (Some x)) o h) (opening-formed g key tag (tag_of k) (Some x) grounded f)

boot-formed : (g : Ground) (key : Key) (tag : ℕ) → IsGrounded g → IsFormedState g.tailoring (boot_structure g.tailoring key)
    → AllByRecursion (IsFormedOpening g.tailoring) (boot_openings g.tailoring g.history key tag)
boot-formed g key tag grounded boot = go g.history.known
  where
    go : (b : Bool) → AllByRecursion (IsFormedOpening g.tailoring) (if b then opening g.history key tag 0 (boot_structure g.tailoring key) ∷ [] else [])
    go true = (opening-formed g key tag 0 (boot_structure g.tailoring key) grounded boot, tt)
    go false = tt

pub openings-formed : (g : Ground) (key : Key) (tag : ℕ) → IsGrounded g → IsFormedState g.tailoring (boot_structure g.tailoring key)
    → All (IsFormedOpening g.tailoring) (openings g.tailoring g.history key tag)
openings-formed g key tag grounded boot =
    All-from_recursion (IsFormedOpening g.tailoring) (openings g.tailoring g.history key tag)
    (AllByRecursion-append (IsFormedOpening g.tailoring) (boot_openings g.tailoring g.history key tag) (filter_map (report_opening g.history key tag) g.history.kept)
    (boot-formed g key tag grounded boot)
    (IsIn-AllByRecursion (IsFormedOpening g.tailoring) (filter_map (report_opening g.history key tag) g.history.kept) each))
  where
    each : (o : Opening) → IsIn o (filter_map (report_opening g.history key tag) g.history.kept) → IsFormedOpening g.tailoring o
    each o i =
        let r = IsIn-filter_map (report_opening g.history key tag) o g.history.kept i in
        report-formed g key tag r.0 o grounded (AllByRecursion-IsIn (IsGrammarKept g.tailoring) r.0 g.history.kept grounded.reports r.1) r.2

-- a packet that tells of no structure opens nothing
pub no-opening : (h : History) (key : Key) (tag : ℕ) (k : Kept) → tells_structure k.report.body ≡ false → report_opening h key tag k ≡ None
no-opening h key tag k e =
    ap (λ s. if nat_lt (tag_of k) tag then option_map (λ x. opening h key tag (tag_of k) (Some x)) s else None) (silent k.report.body e) ∙ neither (nat_lt (tag_of k) tag)
  where
    neither : (b : Bool) → ◌≡◌ {A = Option Opening} (if b then None else None) None
    neither true = refl
    neither false = refl

    silent : (body : ReportBody) → tells_structure body ≡ false → reported_structure key body ≡ None
    silent (tell.Verify v) e = refl
    silent (tell.Stat r) e = refl
    silent (tell.Par r) e = refl
    silent (tell.Hk (hk.Structure named s)) e = absurd (let no : true ≡ false → ⊥ = λ p. cc in no e)
    silent (tell.Hk (hk.Values named payload)) e = refl
    silent (tell.Hk (hk.Periodic kind rows)) e = refl
