-- What the link brings to the board are requests that were sent in slots up to this one.
use Rattle.std.proofs.Common.{arith, ◌≡◌, ℕ, zero, suc, ◌+◌, ◌<◌, ◌≤◌, refl, sym, ap, ap₂, subst, ◌∙◌, List, [], ◌∷◌, ◌++◌, length, map, filter, Bool, true, false, Option, Some, None, ◌⊎◌, inl, inr}
use Rattle.std.specs.Prelude.{⊤, slice_get, ◌==◌, nat_lt, nat_le, reverse, is_ok, if◌then◌else◌}
use Rattle.std.specs.List.{AllByRecursion}
use Rattle.std.proofs.lemmas.Bool.{eqb-true}
use Rattle.std.proofs.lemmas.Bool.Decides.{nat_tests}
use Rattle.hk_base.specs.TailoringParts.{TailoringParts}
use Rattle.hk_base.proofs.Membership.{IsIn, IsIn-append, IsIn-filter, filter-IsIn, IsIn-AllByRecursion}
use Rattle.pus_messages.specs.Messages.{protocol}
use Rattle.hk_world.specs.declared.moment.Moment.{Moment}
use Rattle.hk_world.proofs.OrderLemmas.{true_is_not_false}
use Rattle.ground_history.specs.Histories.{sent_answer}
use Rattle.simulated_link.specs.Links.{Given, is_direction}
use Rattle.simulated_link.specs.declared.settings.Direction.TheVariants.{Request, Report}
use Rattle.board_scripts.specs.Scripts.{history_behind, may_follow, latest_slot}
use Rattle.board_scripts.specs.Spelling.{AreSent}
use Rattle.board_scripts.specs.declared.script.Script.{Script}
use Rattle.board_scripts.specs.declared.script.Sending.{Sending}
use Rattle.board_runs.specs.Requests.{number_in, requests_behind}
use Rattle.board_runs.specs.Slots.{sent_in, request_given, report_given, requests_given, reports_given, given_in, uplinks, has_packet}
use Rattle.board_runs.proofs.ListLemmas.{onto, IsIn-map, slice_get-front, slice_get-within}
use Rattle.board_runs.proofs.SendLemmas.{left-true, line-numbered, requests-grow, number-is}
use Rattle.board_runs.proofs.NameLemmas.{IsRequestOf}
use Rattle.board_runs.proofs.DeliverLemmas.{arrivals-in}

-- the lines of slots below this one, and of this one
abbrev pub sent_below : ℕ → List Sending → List Sending
sent_below n xs = filter (λ x. nat_lt x.slot n) xs

abbrev pub sent_at : ℕ → List Sending → List Sending
sent_at n xs = filter (λ x. x.slot == n) xs

abbrev pub sent_from : ℕ → List Sending → List Sending
sent_from n xs = filter (λ x. nat_le n x.slot) xs

-- the slots of lines don't fall, and none is below this one
abbrev pub AreRising : ℕ → List Sending → Type 0
AreRising least [] = ⊤
AreRising least (x ∷ later) = (least ≤ x.slot) × AreRising x.slot later

pub sent-rising : (t : TailoringParts) (earlier xs : List Sending) → AreSent t earlier xs → AreRising (latest_slot earlier) xs
sent-rising t earlier [] h = tt
sent-rising t earlier (x ∷ xs) h =
    let test : nat_le (latest_slot earlier) x.slot ≡ true = left-true (nat_le (latest_slot earlier) x.slot) (is_ok (sent_answer (protocol t) (history_behind t earlier) x.packet)) h.1 in
    (grind (arith, nat_tests), sent-rising t (x ∷ earlier) xs h.2)

-- no line is below a slot that none is below
none-below : (n least : ℕ) (xs : List Sending) → n ≤ least → AreRising least xs → sent_below n xs ≡ []
none-below n least [] le h = refl
none-below n least (x ∷ xs) le h =
    let test : nat_lt x.slot n ≡ false = grind (arith, nat_tests) in
    ap (λ b. if b then x ∷ sent_below n xs else sent_below n xs) test ∙ none-below n x.slot xs (omega (arith, le, h.0)) h.1

none-at : (n least : ℕ) (xs : List Sending) → n < least → AreRising least xs → sent_at n xs ≡ []
none-at n least [] lt h = refl
none-at n least (x ∷ xs) lt h =
    let test : (x.slot == n) ≡ false = grind (arith, nat_tests) in
    ap (λ b. if b then x ∷ sent_at n xs else sent_at n xs) test ∙ none-at n x.slot xs (omega (arith, lt, h.0)) h.1

-- the lines of slots below the next one are those below this one, and behind them those of this one
pub sent-next : (n least : ℕ) (xs : List Sending) → AreRising least xs → sent_below (suc n) xs ≡ sent_below n xs ++ sent_at n xs
sent-next n least [] h = refl
sent-next n least (x ∷ xs) h = by (sent-next n x.slot xs h.1) (nat_lt x.slot n) refl (x.slot == n) refl (nat_lt x.slot (suc n)) refl
  where
    by : sent_below (suc n) xs ≡ sent_below n xs ++ sent_at n xs → (a : Bool) → nat_lt x.slot n ≡ a → (b : Bool) → (x.slot == n) ≡ b → (c : Bool) → nat_lt x.slot (suc n) ≡ c
        → (if c then x ∷ sent_below (suc n) xs else sent_below (suc n) xs) ≡ (if a then x ∷ sent_below n xs else sent_below n xs) ++ (if b then x ∷ sent_at n xs else sent_at n xs)
    by later true e false f true g = ap (λ ys. x ∷ ys) later
    by later false e true f true g =
        let none : sent_below n xs ≡ [] = none-below n x.slot xs (grind (arith, nat_tests)) h.1 in
        ap (λ ys. x ∷ ys) (later ∙ ap (λ ys. ys ++ sent_at n xs) none) ∙ ap (λ ys. ys ++ (x ∷ sent_at n xs)) (sym none)
    by later false e false f false g = later
    by later true e true f c g = absurd (grind (arith, nat_tests))
    by later true e false f false g = absurd (grind (arith, nat_tests))
    by later false e true f false g = absurd (grind (arith, nat_tests))
    by later false e false f true g = absurd (grind (arith, nat_tests))

-- all lines are those below a slot and those from it on
pub sent-split : (n least : ℕ) (xs : List Sending) → AreRising least xs → xs ≡ sent_below n xs ++ sent_from n xs
sent-split n least [] h = refl
sent-split n least (x ∷ xs) h = by (sent-split n x.slot xs h.1) (nat_lt x.slot n) refl (nat_le n x.slot) refl
  where
    by : xs ≡ sent_below n xs ++ sent_from n xs → (a : Bool) → nat_lt x.slot n ≡ a → (b : Bool) → nat_le n x.slot ≡ b
        → x ∷ xs ≡ (if a then x ∷ sent_below n xs else sent_below n xs) ++ (if b then x ∷ sent_from n xs else sent_from n xs)
    by later true e false f = ap (λ ys. x ∷ ys) later
    by later false e true f =
        let none : sent_below n xs ≡ [] = none-below n x.slot xs (grind (arith, nat_tests)) h.1 in
        ap (λ ys. x ∷ ys) (later ∙ ap (λ ys. ys ++ sent_from n xs) none) ∙ ap (λ ys. ys ++ (x ∷ sent_from n xs)) (sym none)
    by later true e true f = absurd (grind (arith, nat_tests))
    by later false e false f = absurd (grind (arith, nat_tests))

-- a first part of lines that may be sent may be sent, and the rest behind it
pub sent-parts : (t : TailoringParts) (earlier xs ys : List Sending) → AreSent t earlier (xs ++ ys) → AreSent t earlier xs × AreSent t (onto xs earlier) ys
sent-parts t earlier [] ys h = (tt, h)
sent-parts t earlier (x ∷ xs) ys h = let r = sent-parts t (x ∷ earlier) xs ys h.2 in ((h.0, h.1, r.0), r.1)

-- each line that was sent is that of a request
pub lines-requests : (t : TailoringParts) (xs earlier : List Sending) → AreSent t earlier xs → (x : Sending) → IsIn x xs
    → IsRequestOf t (requests_behind t (onto xs earlier)) (length (requests_behind t (onto xs earlier))) x.packet
lines-requests t [] earlier h x k = absurd k
lines-requests t (y ∷ xs) earlier h x (inr k) = lines-requests t xs (y ∷ earlier) h.2 x k
lines-requests t (y ∷ xs) earlier h x (inl e) =
    let n = line-numbered t earlier y h.1 in
    let later = requests-grow t xs (y ∷ earlier) h.2 in
    let number = number-is t y.packet n.header n.command in
    let there : slice_get (requests_behind t (onto (y ∷ xs) earlier)) n.header.count ≡ Some y.packet =
    ap (λ rs. slice_get rs n.header.count) later.1 ∙ slice_get-front (requests_behind t (y ∷ earlier)) later.0 n.header.count y.packet n.listed in
    let within = slice_get-within (requests_behind t (onto (y ∷ xs) earlier)) n.header.count y.packet there in
    let P : Sending → Type 0 = λ z. IsRequestOf t (requests_behind t (onto (y ∷ xs) earlier)) (length (requests_behind t (onto (y ∷ xs) earlier))) z.packet in
    subst P (sym e)
    (subst (λ k. (k < length (requests_behind t (onto (y ∷ xs) earlier))) × (slice_get (requests_behind t (onto (y ∷ xs) earlier)) k ≡ Some y.packet)) (sym number) (within, there))

-- a packet of a request is so among more
pub request-more : (t : TailoringParts) (requests more : List (List ℕ)) (n : ℕ) (packet : List ℕ) → IsRequestOf t requests n packet → IsRequestOf t (requests ++ more) n packet
request-more t requests more n packet h = (h.0, slice_get-front requests more (number_in t packet) packet h.1)

-- a packet that was sent in some slot below this one
abbrev pub IsSentBelow : Script → ℕ → List ℕ → Type 0
IsSentBelow s n packet = (x : Sending) × IsIn x s.sendings × (x.slot < n) × (x.packet ≡ packet)

sent-in-below : (s : Script) (slot n : ℕ) (packet : List ℕ) → slot < n → IsIn packet (sent_in s slot) → IsSentBelow s n packet
sent-in-below s slot n packet lt h =
    let r = IsIn-map (λ (x : Sending). x.packet) packet (filter (λ x. x.slot == slot) s.sendings) h in
    let f = IsIn-filter (λ x. x.slot == slot) r.0 s.sendings r.1 in
    let e = eqb-true r.0.slot slot f.1 in
    (r.0, f.0, omega (arith, e, lt), r.2)

sent-later : (s : Script) (n m : ℕ) (packet : List ℕ) → n ≤ m → IsSentBelow s n packet → IsSentBelow s m packet
sent-later s n m packet le h = (h.0, h.1, omega (arith, h.2, le), h.3)

requests-in : (s : Script) (slot n : ℕ) (g : Given (List ℕ)) → slot < n → IsIn g (requests_given s slot) → IsSentBelow s n g.packet
requests-in s slot n g lt h =
    let r = IsIn-map (request_given slot) g (sent_in s slot) h in
    let same : r.0 ≡ g.packet = ap (λ (x : Given (List ℕ)). x.packet) r.2 in
    subst (IsSentBelow s n) same (sent-in-below s slot n r.0 lt r.1)

-- the requests that were given to the link were sent
given-sent : (t : TailoringParts) (s : Script) (slots : List (List Moment)) (g : Given (List ℕ)) → IsIn g (given_in t s slots) → is_direction g.direction Request ≡ true
    → IsSentBelow s (length slots) g.packet
given-sent t s [] g h d = absurd h
given-sent t s (moments ∷ earlier) g h d =
    by (IsIn-append g (given_in t s earlier) (requests_given s (length earlier) ++ reports_given t (length earlier) moments) h) (λ k. given-sent t s earlier g k d)
  where
    n : ℕ
    n = length earlier

    reported : IsIn g (reports_given t n moments) → IsSentBelow s (suc n) g.packet
    reported k =
        let r = IsIn-map (report_given t n) g (filter has_packet moments) k in
        absurd (true_is_not_false (sym d ∙ ap (λ (x : Given (List ℕ)). is_direction x.direction Request) (sym r.2)))

    new : IsIn g (requests_given s n) ⊎ IsIn g (reports_given t n moments) → IsSentBelow s (suc n) g.packet
    new (inl k) = requests-in s n (suc n) g (omega arith) k
    new (inr k) = reported k

    by : IsIn g (given_in t s earlier) ⊎ IsIn g (requests_given s n ++ reports_given t n moments) → (IsIn g (given_in t s earlier) → IsSentBelow s n g.packet) → IsSentBelow s (suc n) g.packet
    by (inl k) later = sent-later s n (suc n) g.packet (omega arith) (later k)
    by (inr k) later = new (IsIn-append g (requests_given s n) (reports_given t n moments) k)

-- each uplink was sent in this slot or before
pub uplink-sent : (t : TailoringParts) (s : Script) (slots : List (List Moment)) (packet : List ℕ) → IsIn packet (uplinks t s slots) → IsSentBelow s (suc (length slots)) packet
uplink-sent t s slots packet h =
    let n : ℕ = length slots in
    let r = arrivals-in s.link Request n (given_in t s slots ++ requests_given s n) packet h in
    subst (IsSentBelow s (suc n)) r.3 (by r.0 r.2 (IsIn-append r.0 (given_in t s slots) (requests_given s n) r.1))
  where
    by : (g : Given (List ℕ)) → is_direction g.direction Request ≡ true → IsIn g (given_in t s slots) ⊎ IsIn g (requests_given s (length slots)) → IsSentBelow s (suc (length slots)) g.packet
    by g d (inl k) = sent-later s (length slots) (suc (length slots)) g.packet (omega arith) (given-sent t s slots g k d)
    by g d (inr k) = requests-in s (length slots) (suc (length slots)) g (omega arith) k

-- so each is that of a request that was sent by then
pub uplinks-requests : (t : TailoringParts) (s : Script) (slots : List (List Moment)) (requests : List (List ℕ)) (more : List (List ℕ))
    → AreSent t [] (sent_below (suc (length slots)) s.sendings) → requests ≡ requests_behind t (onto (sent_below (suc (length slots)) s.sendings) []) ++ more
    → AllByRecursion (IsRequestOf t requests (length (requests_behind t (onto (sent_below (suc (length slots)) s.sendings) [])))) (uplinks t s slots)
uplinks-requests t s slots requests more sent all =
    IsIn-AllByRecursion (IsRequestOf t requests (length (requests_behind t (onto xs [])))) (uplinks t s slots) each
  where
    xs : List Sending
    xs = sent_below (suc (length slots)) s.sendings

    each : (packet : List ℕ) → IsIn packet (uplinks t s slots) → IsRequestOf t requests (length (requests_behind t (onto xs []))) packet
    each packet h =
        let r = uplink-sent t s slots packet h in
        let test : nat_lt r.0.slot (suc (length slots)) ≡ true = grind (arith, nat_tests) in
        let there = filter-IsIn (λ x. nat_lt x.slot (suc (length slots))) r.0 s.sendings r.1 test in
        let of = lines-requests t xs [] sent r.0 there in
        let more_of = request-more t (requests_behind t (onto xs [])) more (length (requests_behind t (onto xs []))) r.0.packet of in
        subst (λ rs. IsRequestOf t rs (length (requests_behind t (onto xs []))) packet) (sym all)
        (subst (IsRequestOf t (requests_behind t (onto xs []) ++ more) (length (requests_behind t (onto xs [])))) r.3 more_of)
