-- How many reports a slot can end with: one for each structure that was there from the start or was created since, and one of the statistics.
use Rattle.std.proofs.Common.{arith, ◌≡◌, ℕ, zero, suc, ◌+◌, ◌*◌, ◌<◌, ◌≤◌, refl, sym, ap, ap₂, subst, ◌∙◌, List, [], ◌∷◌, ◌++◌, length, length-append, map, filter, take, Bool, true, false, Option, Some, None, Ok, Err, ◌⊎◌, inl, inr}
use Rattle.std.specs.Prelude.{⊤, IfSome, slice_get, find, filter_map, not, ◌-◌, ◌^◌, ◌==◌, ◌&&◌, option_map, option_and_then, if◌then◌else◌}
use Rattle.std.specs.List.{AllByRecursion, range_with_len, cons_option}
use Rattle.std.specs.Option.{option_map_or}
use Rattle.std.specs.Result.{result_ok}
use Rattle.std.proofs.lemmas.List.{length-map}
use Rattle.std.proofs.lemmas.Bool.{eqb-true, and_parts, both_ways}
use Rattle.std.proofs.lemmas.Option.{none-some}
use Rattle.hk_base.specs.TailoringParts.{TailoringParts}
use Rattle.hk_base.specs.Parameters.{boot_structure, kind_eq, key_eq, is_settable}
use Rattle.hk_base.specs.declared.types.Boot.{Boot}
use Rattle.hk_base.specs.declared.types.Key.{Key}
use Rattle.hk_base.specs.declared.types.Kind.{Kind}
use Rattle.hk_base.specs.declared.types.Kind.TheVariants.{Housekeeping, Diagnostic}
use Rattle.hk_base.specs.declared.types.Param.{Param}
use Rattle.hk_base.specs.declared.types.Structure.{Structure}
use Rattle.hk_base.proofs.Membership.{IsIn, IsIn-append, IsIn-left, IsIn-right, IsIn-filter, IsIn-filter_map, filter_map-IsIn, slice_get-IsIn, AllByRecursion-IsIn, some_value}
use Rattle.st03_grammar.specs.Instructions.{StructureChange, create, append, set_interval, plain, structure_changes, key_of}
use Rattle.st03_grammar.specs.declared.bodies.Each.{Each}
use Rattle.st03_grammar.specs.declared.bodies.Pair.{Pair}
use Rattle.st03_grammar.specs.declared.bodies.Request03.{Request03}
use Rattle.st03_grammar.specs.declared.bodies.Request03.TheVariants.{Create, Append, OnEach, Intervals}
use Rattle.st04_grammar.specs.Instructions.{StatisticsChange, statistics_changes}
use Rattle.pus_messages.specs.Messages.{protocol}
use Rattle.pus_messages.specs.Instructions.{Instruction, on_structure, on_statistics, report_values, set_values, on_structures, value_instruction, body_instructions, instructions, instruction}
use Rattle.st20_grammar.specs.declared.bodies.Request20.{Request20}
use Rattle.st20_grammar.specs.declared.bodies.Request20.TheVariants as values
use Rattle.pus_messages.specs.declared.message.Request.{Request}
use Rattle.pus_messages.specs.declared.message.RequestBody.{RequestBody}
use Rattle.pus_messages.specs.declared.message.RequestBody.TheVariants.{Hk, Stat, Par}
use Rattle.report_structures.specs.Effects.{left_by}
use Rattle.hk_world.specs.States.{BoardState, boot_state, structure_left}
use Rattle.hk_world.specs.Timelines.{Session, Done, tailoring, request_number, request_at, instruction_at, done_by, done_at, done_instructions, structure_after}
use Rattle.hk_world.specs.declared.moment.Moment.{Moment}
use Rattle.hk_world.specs.declared.moment.Act.{Act}
use Rattle.hk_world.specs.declared.moment.Act.TheVariants.{Accepted, TurnedAway, Started, NotStarted, Executed, Completed, Emitted, Filed}
use Rattle.hk_world.proofs.OrderLemmas.{true_is_not_false}
use Rattle.board_steps.specs.Cores.{Core, session, state_of}
use Rattle.board_steps.specs.Slots.{is_due, is_complete, is_statistics_due}
use Rattle.board_steps.specs.Plans.{Topic, samples_of, statistics, Plan, does, tells, settables, own_filing, every_key, is_reported, due_topics, tags_left, closing}
use Rattle.board_runs.proofs.ListLemmas.{IsIn-map}
use Rattle.board_runs.proofs.NameLemmas.{AreNamed, IsNamed}
use Rattle.board_runs.proofs.SumLemmas.{AreSingle, single-few}

-- the structure that an instruction creates
abbrev pub create_key : Instruction → Option Key
create_key (on_structure key (create d)) = Some key
create_key _ = None

-- the structure that a body creates
abbrev pub created_by : RequestBody → Option Key
created_by (Hk (Create key d)) = Some key
created_by _ = None

-- the structure that a request packet creates
abbrev pub created_in : TailoringParts → List ℕ → Option Key
created_in t packet = option_and_then (λ (r : Request). created_by r.body) (result_ok ((protocol t).request packet))

-- an instruction that creates is the one of a request that creates
creates-in : (r : Request) (x : Instruction) (key : Key) → IsIn x (instructions r) → create_key x ≡ Some key → created_by r.body ≡ Some key
creates-in r x key k e = by r.body k
  where
    on-each : (each : Each) (kind : Kind) (ids : List ℕ) → IsIn x (on_structures (map (λ id. (key_of kind id, plain each)) ids)) → created_by (Hk (OnEach each kind ids)) ≡ Some key
    on-each each kind ids m =
        let a = IsIn-map (λ (c : Key × StructureChange). on_structure c.0 c.1) x (map (λ id. (key_of kind id, plain each)) ids) m in
        let b = IsIn-map (λ id. (key_of kind id, plain each)) a.0 ids a.1 in
        let none : create_key x ≡ None = ap create_key (sym a.2) ∙ ap (λ (c : Key × StructureChange). create_key (on_structure c.0 c.1)) (sym b.2) in
        absurd (none-some key (sym none ∙ e))

    intervals : (kind : Kind) (pairs : List Pair) → IsIn x (on_structures (map (λ p. (key_of kind p.id, set_interval p.interval)) pairs)) → created_by (Hk (Intervals kind pairs)) ≡ Some key
    intervals kind pairs m =
        let a = IsIn-map (λ (c : Key × StructureChange). on_structure c.0 c.1) x (map (λ (p : Pair). (key_of kind p.id, set_interval p.interval)) pairs) m in
        let b = IsIn-map (λ (p : Pair). (key_of kind p.id, set_interval p.interval)) a.0 pairs a.1 in
        let none : create_key x ≡ None = ap create_key (sym a.2) ∙ ap (λ (c : Key × StructureChange). create_key (on_structure c.0 c.1)) (sym b.2) in
        absurd (none-some key (sym none ∙ e))

    statistic : (changes : List StatisticsChange) (b : RequestBody) → IsIn x (map on_statistics changes) → created_by b ≡ Some key
    statistic changes b m =
        let a = IsIn-map (λ c. on_statistics c) x changes m in
        absurd (none-some key (ap create_key a.2 ∙ e))

    value : (q : Request20) → IsIn x (value_instruction q ∷ []) → created_by (Par q) ≡ Some key
    value (values.Report ids) (inl f) = absurd (none-some key (ap create_key (sym f) ∙ e))
    value (values.Set settings) (inl f) = absurd (none-some key (ap create_key (sym f) ∙ e))
    value q (inr f) = absurd f

    by : (b : RequestBody) → IsIn x (body_instructions b) → created_by b ≡ Some key
    by (Hk (Create named d)) (inl f) = ap create_key (sym f) ∙ e
    by (Hk (Create named d)) (inr f) = absurd f
    by (Hk (Append named a)) (inl f) = absurd (none-some key (ap create_key (sym f) ∙ e))
    by (Hk (Append named a)) (inr f) = absurd f
    by (Hk (OnEach each kind ids)) m = on-each each kind ids m
    by (Hk (Intervals kind pairs)) m = intervals kind pairs m
    by (Stat q) m = statistic (statistics_changes q) (Stat q) m
    by (Par q) m = value q m

same-kind : (x y : Kind) → kind_eq x y ≡ true → x ≡ y
same-kind Housekeeping Housekeeping h = refl
same-kind Diagnostic Diagnostic h = refl
same-kind Housekeeping Diagnostic h = absurd (both_ways false refl h)
same-kind Diagnostic Housekeeping h = absurd (both_ways false refl h)

same-key : (a b : Key) → key_eq a b ≡ true → a ≡ b
same-key a b e =
    let parts = and_parts (kind_eq a.kind b.kind) (a.id == b.id) e in
    ap (λ k. record { kind = k; id = a.id }) (same-kind a.kind b.kind parts.0) ∙ ap (λ i. record { kind = b.kind; id = i }) (eqb-true a.id b.id parts.1)

-- a structure that an instruction leaves where there was none is one that it creates
created-left : (t : TailoringParts) (x : Instruction) (key : Key) (s : Structure) → structure_left t x key None ≡ Some s → create_key x ≡ Some key
created-left t (on_structure named change) key s e = by change (key_eq named key) refl e
  where
    by : (y : StructureChange) (b : Bool) → key_eq named key ≡ b → (if b then left_by t y None else None) ≡ Some s → create_key (on_structure named y) ≡ Some key
    by (create d) true f g = ap Some (same-key named key f)
    by (append a) true f g = absurd (none-some s g)
    by (set_interval n) true f g = absurd (none-some s g)
    by (plain each) true f g = absurd (none-some s g)
    by y false f g = absurd (none-some s g)
created-left t (on_statistics change) key s e = absurd (none-some s e)
created-left t (report_values ids) key s e = absurd (none-some s e)
created-left t (set_values settings) key s e = absurd (none-some s e)

-- a structure that is there was there from the start, or was created
there-since : (t : TailoringParts) (boot : BoardState) (done : List Done) (key : Key) (s : Structure) → structure_after t boot done key ≡ Some s
    → ((x : Structure) × (boot.structure key ≡ Some x)) ⊎ ((d : Done) × IsIn d done × (create_key d.instruction ≡ Some key))
there-since t boot [] key s e = inl (s, e)
there-since t boot (d ∷ done) key s e = by (structure_after t boot done key) refl e (there-since t boot done key)
  where
    later : ((x : Structure) × (boot.structure key ≡ Some x)) ⊎ ((d' : Done) × IsIn d' done × (create_key d'.instruction ≡ Some key))
        → ((x : Structure) × (boot.structure key ≡ Some x)) ⊎ ((d' : Done) × IsIn d' (d ∷ done) × (create_key d'.instruction ≡ Some key))
    later (inl x) = inl x
    later (inr x) = inr (x.0, inr x.1, x.2)

    by : (o : Option Structure) → structure_after t boot done key ≡ o → structure_left t d.instruction key o ≡ Some s
        → ((x : Structure) → structure_after t boot done key ≡ Some x
        → ((y : Structure) × (boot.structure key ≡ Some y)) ⊎ ((d' : Done) × IsIn d' done × (create_key d'.instruction ≡ Some key)))
        → ((x : Structure) × (boot.structure key ≡ Some x)) ⊎ ((d' : Done) × IsIn d' (d ∷ done) × (create_key d'.instruction ≡ Some key))
    by None f g rest = inr (d, inl refl, created-left t d.instruction key s g)
    by (Some x) f g rest = later (rest x f)

boot-key : (key : Key) (boots : List Boot) (x : Structure) → option_map (λ (b : Boot). b.structure) (find (λ b. key_eq b.key key) boots) ≡ Some x → IsIn key (map (λ (b : Boot). b.key) boots)
boot-key key [] x e = absurd (none-some x e)
boot-key key (b ∷ boots) x e = by (key_eq b.key key) refl e (boot-key key boots x)
  where
    by : (c : Bool) → key_eq b.key key ≡ c → option_map (λ (y : Boot). y.structure) (if c then Some b else find (λ y. key_eq y.key key) boots) ≡ Some x
        → (option_map (λ (y : Boot). y.structure) (find (λ y. key_eq y.key key) boots) ≡ Some x → IsIn key (map (λ (y : Boot). y.key) boots)) → IsIn key (b.key ∷ map (λ (y : Boot). y.key) boots)
    by true f g rest = inl (sym (same-key b.key key f))
    by false f g rest = inr (rest g)

-- the packet of a done instruction's request
done-packet : (s : Session) (m : Moment) (d : Done) → done_at s m ≡ Some d
    → (k : ℕ) × (r : Request) × (request_number m.act ≡ Some k) × (request_at s k ≡ Some r) × IsIn d.instruction (instructions r)
done-packet s m d e = by m.act e
  where
    by_instruction : (k number : ℕ) (r : Request) (o : Option Instruction) → request_at s k ≡ Some r → instruction r number ≡ o
        → option_map (λ x. record { tag = m.tag; request = k; instruction = x }) o ≡ Some d → IsIn d.instruction (instructions r)
    by_instruction k number r None f g h = absurd (none-some d h)
    by_instruction k number r (Some x) f g h =
        let same : x ≡ d.instruction = ap (λ (y : Done). y.instruction) (some_value (record { tag = m.tag; request = k; instruction = x }) d h) in
        subst (λ y. IsIn y (instructions r)) same (slice_get-IsIn x (instructions r) (number - 1) g)

    by_request : (k number : ℕ) (o : Option Request) → request_at s k ≡ o → option_map (λ x. record { tag = m.tag; request = k; instruction = x }) (option_and_then (λ r. instruction r number) o) ≡ Some d
        → (j : ℕ) × (r : Request) × (Some k ≡ Some j) × (request_at s j ≡ Some r) × IsIn d.instruction (instructions r)
    by_request k number None f g = absurd (none-some d g)
    by_request k number (Some r) f g = (k, r, refl, f, by_instruction k number r (instruction r number) f refl g)

    by : (act : Act) → done_by s m.tag act ≡ Some d → (k : ℕ) × (r : Request) × (request_number act ≡ Some k) × (request_at s k ≡ Some r) × IsIn d.instruction (instructions r)
    by (Executed k number true) g = by_request k number (request_at s k) refl g
    by (Executed k number false) g = absurd (none-some d g)
    by (Accepted k) g = absurd (none-some d g)
    by (TurnedAway k) g = absurd (none-some d g)
    by (Started k) g = absurd (none-some d g)
    by (NotStarted k) g = absurd (none-some d g)
    by (Completed k refused) g = absurd (none-some d g)
    by Emitted g = absurd (none-some d g)
    by (Filed param slot value) g = absurd (none-some d g)

-- the keys of structures that can be there
abbrev pub known_keys : TailoringParts → List (List ℕ) → List Key
known_keys t requests = map (λ (b : Boot). b.key) t.boots ++ filter_map (created_in t) requests

-- a structure that is there is one of them
there-known : (t : TailoringParts) (requests : List (List ℕ)) (n : ℕ) (c : Core) (key : Key) (s : Structure) → c.tailoring ≡ t → AreNamed c.requests requests n c.moments
    → (state_of c).structure key ≡ Some s → IsIn key (known_keys t requests)
there-known t requests n c key s same named e = by (there-since c.tailoring (boot_state c.tailoring) (done_instructions (session c) c.moments) key s e)
  where
    packet-in : (k : ℕ) (r : Request) (o : Option (List ℕ)) → slice_get c.requests k ≡ o → slice_get requests k ≡ o → option_and_then (λ packet. result_ok ((protocol c.tailoring).request packet)) o ≡ Some r
        → (packet : List ℕ) × IsIn packet requests × (result_ok ((protocol c.tailoring).request packet) ≡ Some r)
    packet-in k r None f g h = absurd (none-some r h)
    packet-in k r (Some packet) f g h = (packet, slice_get-IsIn packet requests k g, h)

    created : (d : Done) → IsIn d (done_instructions (session c) c.moments) → create_key d.instruction ≡ Some key → IsIn key (known_keys t requests)
    created d k f =
        let found = IsIn-filter_map (done_at (session c)) d c.moments k in
        let m : Moment = found.0 in
        let p = done-packet (session c) m d found.2 in
        let names = AllByRecursion-IsIn (λ x. IsNamed c.requests requests n x.act) m c.moments named found.1 in
        let listed = subst (λ o. IfSome o (λ j. slice_get c.requests j ≡ slice_get requests j)) p.2 names.0 in
        let q = packet-in p.0 p.1 (slice_get c.requests p.0) refl (sym listed) p.3 in
        let made = creates-in p.1 d.instruction key p.4 f in
        let here : created_in c.tailoring q.0 ≡ Some key = ap (option_and_then (λ (r : Request). created_by r.body)) q.2 ∙ made in
        IsIn-right key (map (λ (b : Boot). b.key) t.boots) (filter_map (created_in t) requests)
        (filter_map-IsIn (created_in t) q.0 key requests q.1 (subst (λ x. created_in x q.0 ≡ Some key) same here))

    by : ((x : Structure) × (boot_structure c.tailoring key ≡ Some x)) ⊎ ((d : Done) × IsIn d (done_instructions (session c) c.moments) × (create_key d.instruction ≡ Some key))
        → IsIn key (known_keys t requests)
    by (inl x) =
        let there : IsIn key (map (λ (b : Boot). b.key) c.tailoring.boots) = boot-key key c.tailoring.boots x.0 x.1 in
        IsIn-left key (map (λ (b : Boot). b.key) t.boots) (filter_map (created_in t) requests) (subst (λ (y : TailoringParts). IsIn key (map (λ (b : Boot). b.key) y.boots)) same there)
    by (inr x) = created x.0 x.1 x.2

filter_map-few : {X Y : Type 0} (f : X → Option Y) (xs : List X) → length (filter_map f xs) ≤ length xs
filter_map-few f [] = omega arith
filter_map-few f (x ∷ xs) = by (f x) (filter_map-few f xs)
  where
    by : (o : Option _) → length (filter_map f xs) ≤ length xs → length (cons_option o (filter_map f xs)) ≤ suc (length xs)
    by None l = omega (arith, l)
    by (Some y) l = omega (arith, l)

-- keys are apart
in-range : (x a n : ℕ) → IsIn x (range_with_len a n) → a ≤ x
in-range x a zero h = absurd h
in-range x a (suc n) (inl e) = omega (arith, e)
in-range x a (suc n) (inr h) = let l = in-range x (a + 1) n h in omega (arith, l)

range-single : (a n : ℕ) → AreSingle (range_with_len a n)
range-single a zero = tt
range-single a (suc n) = (λ h. let l = in-range a (a + 1) n h in omega (arith, l), range-single (a + 1) n)

map-single : {X Y : Type 0} (f : X → Y) (xs : List X) → ((x y : X) → f x ≡ f y → x ≡ y) → AreSingle xs → AreSingle (map f xs)
map-single f [] inj s = tt
map-single {X} f (x ∷ xs) inj s = (λ h. let r = IsIn-map f (f x) xs h in s.0 (subst (λ z. IsIn z xs) (inj r.0 x r.2) r.1), map-single f xs inj s.1)

append-single : {X : Type 0} (xs ys : List X) → AreSingle xs → AreSingle ys → ((x : X) → IsIn x xs → IsIn x ys → ⊥) → AreSingle (xs ++ ys)
append-single [] ys a b apart = b
append-single {X} (x ∷ xs) ys a b apart = (λ h. by (IsIn-append x xs ys h), append-single xs ys a.1 b (λ y k m. apart y (inr k) m))
  where
    by : IsIn x xs ⊎ IsIn x ys → ⊥
    by (inl k) = a.0 k
    by (inr k) = apart x (inl refl) k

filter-single : {X : Type 0} (test : X → Bool) (xs : List X) → AreSingle xs → AreSingle (filter test xs)
filter-single test [] s = tt
filter-single {X} test (x ∷ xs) s = by (test x) (filter-single test xs s.1)
  where
    by : (b : Bool) → AreSingle (filter test xs) → AreSingle (if b then x ∷ filter test xs else filter test xs)
    by true r = (λ h. s.0 (IsIn-filter test x xs h).0, r)
    by false r = r

abbrev pub is_housekeeping : Kind → Bool
is_housekeeping Housekeeping = true
is_housekeeping Diagnostic = false

keys-single : (t : TailoringParts) → AreSingle (every_key t)
keys-single t =
    let n : ℕ = 256 ^ t.widths.structure_octets in
    append-single (map (key_of Housekeeping) (range_with_len 0 n)) (map (key_of Diagnostic) (range_with_len 0 n))
    (map-single (key_of Housekeeping) (range_with_len 0 n) (λ x y e. ap (λ (k : Key). k.id) e) (range-single 0 n))
    (map-single (key_of Diagnostic) (range_with_len 0 n) (λ x y e. ap (λ (k : Key). k.id) e) (range-single 0 n))
    (λ key a b.
    let x = IsIn-map (key_of Housekeeping) key (range_with_len 0 n) a in
    let y = IsIn-map (key_of Diagnostic) key (range_with_len 0 n) b in
    true_is_not_false (ap (λ (k : Key). is_housekeeping k.kind) (x.2 ∙ sym y.2)))

-- the structures that are reported are few
reported-few : (t : TailoringParts) (requests : List (List ℕ)) (n : ℕ) (c : Core) → c.tailoring ≡ t → AreNamed c.requests requests n c.moments
    → length (filter (is_reported c) (every_key c.tailoring)) ≤ length t.boots + length requests
reported-few t requests n c same named =
    let few = single-few (filter (is_reported c) (every_key c.tailoring)) (known_keys t requests) (filter-single (is_reported c) (every_key c.tailoring) (keys-single c.tailoring)) each in
    let size = length-append (map (λ (b : Boot). b.key) t.boots) (filter_map (created_in t) requests) in
    let boots = length-map t.boots (λ (b : Boot). b.key) in
    let made = filter_map-few (created_in t) requests in
    omega (arith, few, size, boots, made)
  where
    there : (key : Key) (o : Option Structure) → (state_of c).structure key ≡ o → option_map_or (λ x. is_due c key x && is_complete c x.def) o false ≡ true → IsIn key (known_keys t requests)
    there key None e f = absurd (true_is_not_false (sym f))
    there key (Some s) e f = there-known t requests n c key s same named e

    each : (key : Key) → IsIn key (filter (is_reported c) (every_key c.tailoring)) → IsIn key (known_keys t requests)
    each key k = let f = IsIn-filter (is_reported c) key (every_key c.tailoring) k in there key ((state_of c).structure key) refl f.1

take-none : (X : Type 0) (n : ℕ) → length (take {A = X} n []) ≤ 0
take-none X zero = omega arith
take-none X (suc n) = omega arith

take-few : {X : Type 0} (n : ℕ) (xs : List X) → length (take n xs) ≤ length xs
take-few {X} n [] = take-none X n
take-few zero (x ∷ xs) = omega arith
take-few (suc n) (x ∷ xs) = let l = take-few n xs in omega (arith, l)

-- the moments at the end of a slot are few
pub closing-few : (t : TailoringParts) (requests : List (List ℕ)) (n : ℕ) (c : Core) → c.tailoring ≡ t → AreNamed c.requests requests n c.moments
    → length (closing c) ≤ length (settables t) + (length t.boots + length requests + 1)
closing-few t requests n c same named =
    let own : List Plan = map (λ p. does (own_filing c p)) (settables c.tailoring) in
    let size = length-append own (map (λ x. tells x) (take (tags_left c) (due_topics c))) in
    let a = length-map (settables c.tailoring) (λ (p : Param). does (own_filing c p)) in
    let b = length-map (take (tags_left c) (due_topics c)) (λ x. tells x) in
    let d = take-few (tags_left c) (due_topics c) in
    let reported = reported-few t requests n c same named in
    let topics : List Topic = map (λ k. samples_of k) (filter (is_reported c) (every_key c.tailoring)) in
    let e = length-append topics (if is_statistics_due c then statistics ∷ [] else []) in
    let f = length-map (filter (is_reported c) (every_key c.tailoring)) (λ k. samples_of k) in
    let g = one (is_statistics_due c) in
    let h : length (settables c.tailoring) ≡ length (settables t) = ap (λ (x : TailoringParts). length (settables x)) same in
    omega (arith, size, a, b, d, reported, e, f, g, h)
  where
    one : (b : Bool) → length (if b then statistics ∷ [] else []) ≤ 1
    one true = omega arith
    one false = omega arith

-- parameters are settable or sensed
pub params-parted : (params : List Param) → length (filter is_settable params) + length (filter (λ p. not (is_settable p)) params) ≡ length params
params-parted [] = refl
params-parted (p ∷ params) = by (is_settable p) (params-parted params)
  where
    by : (b : Bool) → length (filter is_settable params) + length (filter (λ q. not (is_settable q)) params) ≡ length params
        → length (if b then p ∷ filter is_settable params else filter is_settable params) + length (if not b then p ∷ filter (λ q. not (is_settable q)) params else filter (λ q. not (is_settable q)) params) ≡ suc (length params)
    by true e = omega (arith, e)
    by false e = omega (arith, e)
