-- What more is known changes nothing for reports below a tag.
use Rattle.std.proofs.Common.{arith, ◌≡◌, ℕ, ◌+◌, ◌<◌, ◌≤◌, refl, sym, ◌∙◌, ap, subst, List, [], ◌∷◌, ◌++◌, Bool, true, false, length, inl, inr, ◌⊎◌, Option, Some, None, append-nil}
use Rattle.std.specs.Prelude.{filter_map, nat_lt, nat_le, not, ◌&&◌, ◌||◌, option_map, option_and_then, if◌then◌else◌}
use Rattle.std.specs.List.{cons_option, enumerate_from}
use Rattle.std.specs.Option.{option_map_or}
use Rattle.std.proofs.lemmas.Bool.{le-leb, le-ltb}
use Rattle.std.proofs.lemmas.List.Elements.{filter_map-append}
use Rattle.hk_base.specs.Parameters.{boot_structure}
use Rattle.hk_base.specs.declared.types.Key.{Key}
use Rattle.hk_base.specs.declared.types.Structure.{Structure}
use Rattle.hk_base.proofs.Membership.{IsIn}
use Rattle.st03_grammar.specs.Instructions.{StructureChange}
use Rattle.pus_messages.specs.Changes.{change_by}
use Rattle.ground_history.specs.Histories.{Sent, Kept, History, tag_of, insert_kept}
use Rattle.ground_history.specs.Evidence.{low, high, is_accepted, is_barred, outcome}
use Rattle.ground_history.specs.Ground.{Ground, with_history}
use Rattle.ground_history.specs.declared.answer.Outcome.{Outcome}
use Rattle.definition_intervals.specs.Openings.{Candidate, Opening, is_at_most, candidate, candidates, from_creation, opening, boot_openings, report_opening, reported_structure}
use Rattle.opening_sweeps.specs.Requests.{told_start}
use Rattle.entry_changes.specs.Changes.{with_packet, IsBelow, told_start_below, AreSameBelow}

-- what is known with one more request
abbrev pub with_request : History → Sent → History
with_request h r = record h { requests = h.requests ++ r ∷ [] }

-- the same is known of a request
pub record IsSame (h later : History) (k : ℕ) : Type 0 where
  pub low : low later k ≡ low h k
  pub high : high later k ≡ high h k
  pub accepted : is_accepted later k ≡ is_accepted h k
  pub barred : is_barred later k ≡ is_barred h k
  pub outcome : (number : ℕ) → outcome later k number ≡ outcome h k number

-- the same is known of a request, or no report below a tag comes after it
abbrev pub IsSameTo : Option ℕ → History → History → ℕ → Type 0
IsSameTo from h later k = IsSame h later k ⊎ ((tag : ℕ) → IsBelow tag from → (tag ≤ low h k) × (tag ≤ low later k))

-- a candidate by what is known of its request
abbrev made : ℕ → ℕ → ℕ → Option (ℕ × StructureChange) → ℕ → Option ℕ → Bool → Bool → (ℕ → Outcome) → Option Candidate
made k start tag o l u accepted barred told =
    if not (nat_le tag l || barred) && not (is_at_most u start)
    then option_map (λ (c : ℕ × StructureChange). record { number = k; change = c.1; certain = nat_le start l && accepted && is_at_most u tag; outcome = told c.0 }) o
    else None

none_either : {X : Type 0} (b : Bool) → if◌then◌else◌ {A = Option X} b None None ≡ None
none_either true = refl
none_either false = refl

made-none : (k start tag l : ℕ) (u : Option ℕ) (a b : Bool) (f : ℕ → Outcome) → made k start tag None l u a b f ≡ None
made-none k start tag l u a b f = none_either (not (nat_le tag l || b) && not (is_at_most u start))

made-same : (k start tag : ℕ) (o : Option (ℕ × StructureChange)) (l l2 : ℕ) (u u2 : Option ℕ) (a a2 b b2 : Bool) (f f2 : ℕ → Outcome)
    → l ≡ l2 → u ≡ u2 → a ≡ a2 → b ≡ b2 → ((n : ℕ) → f n ≡ f2 n) → made k start tag o l u a b f ≡ made k start tag o l2 u2 a2 b2 f2
made-same k start tag None l l2 u u2 a a2 b b2 f f2 el eu ea eb ef = made-none k start tag l u a b f ∙ sym (made-none k start tag l2 u2 a2 b2 f2)
made-same k start tag (Some c) l l2 u u2 a a2 b b2 f f2 el eu ea eb ef =
    ap (λ x. made k start tag (Some c) x u a b f) el
    ∙ (ap (λ x. made k start tag (Some c) l2 x a b f) eu
    ∙ (ap (λ x. made k start tag (Some c) l2 u2 x b f) ea
    ∙ (ap (λ x. made k start tag (Some c) l2 u2 a2 x f) eb ∙ ap (λ (x : Outcome). made k start tag (Some c) l2 u2 a2 b2 (λ n. x)) (ef c.0))))

made-hidden : (k start tag : ℕ) (o : Option (ℕ × StructureChange)) (l : ℕ) (u : Option ℕ) (a b : Bool) (f : ℕ → Outcome) → tag ≤ l → made k start tag o l u a b f ≡ None
made-hidden k start tag o l u a b f le =
    ap (λ (x : Bool).
    if not (x || b) && not (is_at_most u start)
    then option_map (λ (c : ℕ × StructureChange). record { number = k; change = c.1; certain = nat_le start l && a && is_at_most u tag; outcome = f c.0 }) o
    else None) (le-leb tag l le)

same-candidate : (from : Option ℕ) (h later : History) (key : Key) (start tag k : ℕ) (s : Sent) → IsBelow tag from → IsSameTo from h later k
    → candidate later key start tag (k, s) ≡ candidate h key start tag (k, s)
same-candidate from h later key start tag k s below (inl same) =
    made-same k start tag (option_and_then (change_by key) s.request) (low later k) (low h k) (high later k) (high h k) (is_accepted later k) (is_accepted h k)
    (is_barred later k) (is_barred h k) (outcome later k) (outcome h k) same.low same.high same.accepted same.barred same.outcome
same-candidate from h later key start tag k s below (inr hidden) =
    let le = hidden tag below in
    made-hidden k start tag (option_and_then (change_by key) s.request) (low later k) (high later k) (is_accepted later k) (is_barred later k) (outcome later k) le.1
    ∙ sym (made-hidden k start tag (option_and_then (change_by key) s.request) (low h k) (high h k) (is_accepted h k) (is_barred h k) (outcome h k) le.0)

pub filter_map-same : {X Y : Type 0} (f g : X → Option Y) (xs : List X) → ((x : X) → IsIn x xs → f x ≡ g x) → filter_map f xs ≡ filter_map g xs
filter_map-same f g [] h = refl
filter_map-same {Y = Y} f g (x ∷ xs) h =
    ap (λ (o : Option Y). cons_option o (filter_map f xs)) (h x (inl refl)) ∙ ap (λ l. cons_option (g x) l) (filter_map-same f g xs (λ y i. h y (inr i)))

pub filter_map-none : {X Y : Type 0} (f : X → Option Y) (xs : List X) → ((x : X) → IsIn x xs → f x ≡ None) → filter_map f xs ≡ []
filter_map-none f [] h = refl
filter_map-none {Y = Y} f (x ∷ xs) h = ap (λ (o : Option Y). cons_option o (filter_map f xs)) (h x (inl refl)) ∙ filter_map-none f xs (λ y i. h y (inr i))

pub enumerate-within : {X : Type 0} (n : ℕ) (xs : List X) (x : ℕ × X) → IsIn x (enumerate_from n xs) → (n ≤ x.0) × (x.0 < n + length xs)
enumerate-within n [] x i = absurd i
enumerate-within n (y ∷ ys) x (inl e) = let number : x.0 ≡ n = ap (λ (p : ℕ × _). p.0) e in (omega (arith, number), omega (arith, number))
enumerate-within n (y ∷ ys) x (inr i) = let rest = enumerate-within (n + 1) ys x i in (omega (arith, rest.0), omega (arith, rest.1))

pub enumerate-append : {X : Type 0} (n : ℕ) (xs ys : List X) → enumerate_from n (xs ++ ys) ≡ enumerate_from n xs ++ enumerate_from (n + length xs) ys
enumerate-append n [] ys = ap (λ k. enumerate_from k ys) (omega arith)
enumerate-append n (x ∷ xs) ys =
    let numbers : n + 1 + length xs ≡ n + length (x ∷ xs) = omega arith in
    ap (λ l. (n, x) ∷ l) (enumerate-append (n + 1) xs ys ∙ ap (λ k. enumerate_from (n + 1) xs ++ enumerate_from k ys) numbers)

-- the same requests may have changed a structure, where requests are added that no report below the tag comes after
pub same-candidates : (from : Option ℕ) (h later : History) (more : List Sent) → later.requests ≡ h.requests ++ more
    → ((k : ℕ) → k < length h.requests → IsSameTo from h later k) → ((k : ℕ) → length h.requests ≤ k → k < length h.requests + length more → (tag : ℕ) → IsBelow tag from → tag ≤ low later k)
    → (key : Key) (start tag : ℕ) → IsBelow tag from → candidates later key start tag ≡ candidates h key start tag
same-candidates from h later more e old new key start tag below =
    ap (λ (rs : List Sent). filter_map (candidate later key start tag) (enumerate_from 0 rs)) e
    ∙ (ap (λ xs. filter_map (candidate later key start tag) xs) (enumerate-append 0 h.requests more)
    ∙ (filter_map-append (candidate later key start tag) (enumerate_from 0 h.requests) (enumerate_from (0 + length h.requests) more)
    ∙ (ap (λ cs. cs ++ filter_map (candidate later key start tag) (enumerate_from (0 + length h.requests) more)) first
    ∙ (ap (λ cs. candidates h key start tag ++ cs) second ∙ append-nil (candidates h key start tag)))))
  where
    first : filter_map (candidate later key start tag) (enumerate_from 0 h.requests) ≡ candidates h key start tag
    first =
        filter_map-same (candidate later key start tag) (candidate h key start tag) (enumerate_from 0 h.requests)
        (λ x i. let within = enumerate-within 0 h.requests x i in same-candidate from h later key start tag x.0 x.1 below (old x.0 (omega (arith, within.1))))

    second : filter_map (candidate later key start tag) (enumerate_from (0 + length h.requests) more) ≡ []
    second =
        filter_map-none (candidate later key start tag) (enumerate_from (0 + length h.requests) more)
        (λ x i.
        let within = enumerate-within (0 + length h.requests) more x i in
        made-hidden x.0 start tag (option_and_then (change_by key) x.1.request) (low later x.0) (high later x.0) (is_accepted later x.0) (is_barred later x.0) (outcome later x.0)
        (new x.0 (omega (arith, within.0)) (omega (arith, within.1)) tag below))

-- openings by the same requests are the same
opening-same : (h later : History) (key : Key) (tag start : ℕ) (state : Option Structure) → candidates later key start tag ≡ candidates h key start tag
    → opening later key tag start state ≡ opening h key tag start state
opening-same h later key tag start state e =
    ap (λ (cs : List Candidate). option_map_or (λ rest. record { tag = start; state = None; requests = rest }) (from_creation cs) (record { tag = start; state = state; requests = cs })) e

report-same : (h later : History) (key : Key) (tag : ℕ) (k : Kept) → ((start : ℕ) → candidates later key start tag ≡ candidates h key start tag)
    → report_opening later key tag k ≡ report_opening h key tag k
report-same h later key tag k e = go (reported_structure key k.report.body)
  where
    go : (o : Option Structure)
        → (if nat_lt (tag_of k) tag then option_map (λ s. opening later key tag (tag_of k) (Some s)) o else None) ≡ (if nat_lt (tag_of k) tag then option_map (λ s. opening h key tag (tag_of k) (Some s)) o else None)
    go None = refl
    go (Some s) = ap (λ (o : Opening). if nat_lt (tag_of k) tag then Some o else None) (opening-same h later key tag (tag_of k) (Some s) (e (tag_of k)))

-- a packet tells no state of a structure to reports with a tag
abbrev pub IsUnseen : Key → ℕ → Kept → Type 0
IsUnseen key tag n = (reported_structure key n.report.body ≡ None) ⊎ (tag ≤ tag_of n)

unseen-report : (h : History) (key : Key) (tag : ℕ) (n : Kept) → IsUnseen key tag n → report_opening h key tag n ≡ None
unseen-report h key tag n (inl e) =
    ap (λ (o : Option Structure). if nat_lt (tag_of n) tag then option_map (λ s. opening h key tag (tag_of n) (Some s)) o else None) e ∙ none_either (nat_lt (tag_of n) tag)
unseen-report h key tag n (inr le) =
    ap (λ (b : Bool). if b then option_map (λ s. opening h key tag (tag_of n) (Some s)) (reported_structure key n.report.body) else None) (le-ltb (tag_of n) tag le)

unseen-start : (key : Key) (tag : ℕ) (n : Kept) → IsUnseen key tag n → told_start_below key tag n ≡ None
unseen-start key tag n (inl e) =
    ap (λ (o : Option Structure). if nat_lt (tag_of n) tag then option_map (λ s. record { tag = tag_of n; state = Some s }) o else None) e ∙ none_either (nat_lt (tag_of n) tag)
unseen-start key tag n (inr le) = ap (λ (b : Bool). if b then told_start key n else None) (le-ltb (tag_of n) tag le)

-- a packet of which nothing is made, wherever it is put
inserted-none : {X : Type 0} (f : Kept → Option X) (n : Kept) (ks : List Kept) → f n ≡ None → filter_map f (insert_kept n ks) ≡ filter_map f ks
inserted-none {X = X} f n [] e = ap (λ (o : Option X). cons_option o []) e
inserted-none {X = X} f n (j ∷ js) e = go (nat_lt (tag_of n) (tag_of j)) (inserted-none f n js e)
  where
    go : (b : Bool) → filter_map f (insert_kept n js) ≡ filter_map f js → filter_map f (if b then n ∷ j ∷ js else j ∷ insert_kept n js) ≡ filter_map f (j ∷ js)
    go true h = ap (λ (o : Option X). cons_option o (filter_map f (j ∷ js))) e
    go false h = ap (λ l. cons_option (f j) l) h

-- A packet was kept of which nothing is known otherwise for reports below a tag.
pub same-kept : (from : Option ℕ) (g : Ground) (n : Kept) → ((k : ℕ) → k < length g.history.requests → IsSameTo from g.history (with_packet g.history n) k)
    → ((key : Key) (tag : ℕ) → IsBelow tag from → IsUnseen key tag n) → AreSameBelow from g (with_history g (with_packet g.history n))
same-kept from g n same unseen =
    record {
      tailoring = refl;
      known = refl;
      candidates = cs;
      told = λ key tag below. inserted-none (told_start_below key tag) n h.kept (unseen-start key tag n (unseen key tag below));
      openings = λ key tag below.
          ap (λ (o : Opening). (if h.known then o ∷ [] else []) ++ filter_map (report_opening later key tag) later.kept)
          (opening-same h later key tag 0 (boot_structure g.tailoring key) (cs key 0 tag below))
          ∙ ap (λ os. boot_openings g.tailoring h key tag ++ os)
          (inserted-none (report_opening later key tag) n h.kept (unseen-report later key tag n (unseen key tag below))
          ∙ filter_map-same (report_opening later key tag) (report_opening h key tag) h.kept (λ k i. report-same h later key tag k (λ start. cs key start tag below)));
    }
  where
    h : History
    h = g.history

    later : History
    later = with_packet h n

    cs : (key : Key) (start tag : ℕ) → IsBelow tag from → candidates later key start tag ≡ candidates h key start tag
    cs key start tag below = same-candidates from h later [] (sym (append-nil h.requests)) same (λ k l u tag below. absurd (omega (arith, l, u))) key start tag below

-- A request was sent of which nothing is executed before reports below a tag.
pub same-sent : (from : Option ℕ) (g : Ground) (r : Sent) → ((k : ℕ) → k < length g.history.requests → IsSameTo from g.history (with_request g.history r) k)
    → ((tag : ℕ) → IsBelow tag from → tag ≤ low (with_request g.history r) (length g.history.requests)) → AreSameBelow from g (with_history g (with_request g.history r))
same-sent from g r same new =
    record {
      tailoring = refl;
      known = refl;
      candidates = cs;
      told = λ key tag below. refl;
      openings = λ key tag below.
          ap (λ (o : Opening). (if h.known then o ∷ [] else []) ++ filter_map (report_opening later key tag) later.kept)
          (opening-same h later key tag 0 (boot_structure g.tailoring key) (cs key 0 tag below))
          ∙ ap (λ os. boot_openings g.tailoring h key tag ++ os)
          (filter_map-same (report_opening later key tag) (report_opening h key tag) h.kept (λ k i. report-same h later key tag k (λ start. cs key start tag below)));
    }
  where
    h : History
    h = g.history

    later : History
    later = with_request h r

    cs : (key : Key) (start tag : ℕ) → IsBelow tag from → candidates later key start tag ≡ candidates h key start tag
    cs key start tag below =
        same-candidates from h later (r ∷ []) refl same
        (λ k l u tag below. let only : length h.requests ≡ k = omega (arith, l, u) in subst (λ j. tag ≤ low later j) only (new tag below)) key start tag below

-- Nothing has changed.
pub same-all : (g : Ground) → AreSameBelow None g g
same-all g = record { tailoring = refl; known = refl; candidates = λ key start tag below. refl; told = λ key tag below. refl; openings = λ key tag below. refl }
