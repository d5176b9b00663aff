-- What the link delivers to the ground are packets of moments of earlier slots.
use Rattle.std.proofs.Common.{arith, ◌≡◌, ℕ, zero, suc, ◌+◌, refl, sym, ap, ap₂, subst, ◌∙◌, List, [], ◌∷◌, ◌++◌, length, map, Bool, true, false, Option, Some, None, ◌⊎◌, inl, inr}
use Rattle.std.specs.Prelude.{◌≢◌, not, filter, ◌==◌, slice_get, if◌then◌else◌}
use Rattle.std.specs.List.{AllByRecursion}
use Rattle.std.proofs.lemmas.List.{map-append}
use Rattle.hk_base.specs.TailoringParts.{TailoringParts}
use Rattle.hk_base.specs.Fit.{slot_of}
use Rattle.hk_base.proofs.Membership.{IsIn, IsIn-append, IsIn-filter, IsIn-index}
use Rattle.hk_world.specs.Timelines.{EachAfter, Session}
use Rattle.hk_world.specs.Worlds.{Step, deliver, MayStep, sent_count, moments_of}
use Rattle.hk_world.specs.declared.moment.Moment.{Moment}
use Rattle.hk_world.specs.declared.moment.Act.TheVariants.{Emitted}
use Rattle.hk_world.proofs.OrderLemmas.{true_is_not_false}
use Rattle.simulated_link.specs.Links.{Given, Copy, arrivals, copies, copies_from, is_direction, is_lost, is_repeated, late, delay, second_delay, renamed}
use Rattle.simulated_link.specs.declared.settings.Settings.{Settings}
use Rattle.simulated_link.specs.declared.settings.Direction.{Direction}
use Rattle.simulated_link.specs.declared.settings.Direction.TheVariants.{Request, Report}
use Rattle.simulated_link.proofs.NaturalLemmas.{arrivals-renamed}
use Rattle.board_scripts.specs.declared.script.Script.{Script}
use Rattle.board_runs.specs.Slots.{sent_in, has_packet, request_given, report_given, requests_given, reports_given, given_in, deliveries}
use Rattle.board_runs.proofs.ListLemmas.{onto, IsIn-map, IsIn-onto, onto-IsIn, map-same, map-twice}

-- a copy is of a packet that was given in its direction
copies-in : {X : Type 0} (s : Settings) (n : ℕ) (g : Given X) (c : Copy X) → IsIn c (copies s n g) → c.packet ≡ g.packet
copies-in {X} s n g c h = by (is_lost s n g.direction) (is_repeated s n g.direction) h
  where
    by : (a b : Bool) → IsIn c (if a then [] else if b then late g (delay s n) ∷ late g (second_delay s n) ∷ [] else late g (delay s n) ∷ []) → c.packet ≡ g.packet
    by true b h = absurd h
    by false true (inl e) = ap (λ (x : Copy X). x.packet) e
    by false true (inr (inl e)) = ap (λ (x : Copy X). x.packet) e
    by false true (inr (inr h)) = absurd h
    by false false (inl e) = ap (λ (x : Copy X). x.packet) e
    by false false (inr h) = absurd h

from-in : {X : Type 0} (s : Settings) (d : Direction) (n : ℕ) (given : List (Given X)) (c : Copy X) → IsIn c (copies_from s d n given)
    → (g : Given X) × IsIn g given × (is_direction g.direction d ≡ true) × (c.packet ≡ g.packet)
from-in s d n [] c h = absurd h
from-in {X} s d n (g ∷ given) c h =
    by (IsIn-append c (if is_direction g.direction d then copies s n g else []) (copies_from s d (suc n) given) h) (from-in s d (suc n) given c)
  where
    here : (b : Bool) → is_direction g.direction d ≡ b → IsIn c (if b then copies s n g else [])
        → (g' : Given X) × IsIn g' (g ∷ given) × (is_direction g'.direction d ≡ true) × (c.packet ≡ g'.packet)
    here true e k = (g, inl refl, e, copies-in s n g c k)
    here false e k = absurd k

    by : IsIn c (if is_direction g.direction d then copies s n g else []) ⊎ IsIn c (copies_from s d (suc n) given)
        → (IsIn c (copies_from s d (suc n) given) → (g' : Given X) × IsIn g' given × (is_direction g'.direction d ≡ true) × (c.packet ≡ g'.packet))
        → (g' : Given X) × IsIn g' (g ∷ given) × (is_direction g'.direction d ≡ true) × (c.packet ≡ g'.packet)
    by (inl k) later = here (is_direction g.direction d) refl k
    by (inr k) later = let r = later k in (r.0, inr r.1, r.2, r.3)

-- what arrives was given in that direction
pub arrivals-in : {X : Type 0} (s : Settings) (d : Direction) (slot : ℕ) (given : List (Given X)) (x : X) → IsIn x (arrivals s d slot given)
    → (g : Given X) × IsIn g given × (is_direction g.direction d ≡ true) × (g.packet ≡ x)
unfolding arrivals
arrivals-in s d slot given x h =
    let c = IsIn-map (λ c. c.packet) x (filter (λ c. c.arrival == slot) (copies_from s d 0 given)) h in
    let k = IsIn-filter (λ c. c.arrival == slot) c.0 (copies_from s d 0 given) c.1 in
    let r = from-in s d 0 given c.0 k.0 in
    (r.0, r.1, r.2, sym r.3 ∙ c.2)

-- a request stands as a moment without an act of its own
abbrev pub as_moment : List ℕ → Moment
as_moment packet = record { tag = 0; act = Emitted; packet = packet }

abbrev pub request_moment : ℕ → List ℕ → Given Moment
request_moment slot packet = record { direction = Request; slot = slot; earliest = slot; packet = as_moment packet }

abbrev pub report_moment : TailoringParts → ℕ → Moment → Given Moment
report_moment t slot m = record { direction = Report; slot = slot_of t m.tag; earliest = suc slot; packet = m }

-- what was given to the link, by moments
abbrev pub moments_given : TailoringParts → Script → List (List Moment) → List (Given Moment)
moments_given t s [] = []
moments_given t s (moments ∷ earlier) =
    moments_given t s earlier ++ (map (request_moment (length earlier)) (sent_in s (length earlier)) ++ map (report_moment t (length earlier)) (filter has_packet moments))

abbrev pub packet_named : Direction → Moment → List ℕ
packet_named d m = m.packet

given-named : (t : TailoringParts) (s : Script) (slots : List (List Moment)) → map (renamed packet_named) (moments_given t s slots) ≡ given_in t s slots
given-named t s [] = refl
given-named t s (moments ∷ earlier) =
    let n = length earlier in
    let xs = sent_in s n in
    let ms = filter has_packet moments in
    let f : Given Moment → Given (List ℕ) = renamed packet_named in
    map-append f (moments_given t s earlier) (map (request_moment n) xs ++ map (report_moment t n) ms)
    ∙ ap₂ (λ a b. a ++ b) (given-named t s earlier)
    (map-append f (map (request_moment n) xs) (map (report_moment t n) ms)
    ∙ ap₂ (λ a b. a ++ b) (map-twice f (request_moment n) xs ∙ map-same (λ x. f (request_moment n x)) (request_given n) xs (λ x. refl))
    (map-twice f (report_moment t n) ms ∙ map-same (λ m. f (report_moment t n m)) (report_given t n) ms (λ m. refl)))

-- the moments that are delivered in the slot after some
pub moments_delivered : TailoringParts → Script → List (List Moment) → List Moment
moments_delivered t s slots = arrivals s.link Report (length slots) (moments_given t s slots)

pub deliveries-are : (t : TailoringParts) (s : Script) (slots : List (List Moment)) → map (λ m. m.packet) (moments_delivered t s slots) ≡ deliveries t s slots
unfolding moments_delivered
deliveries-are t s slots =
    sym (arrivals-renamed packet_named s.link Report (length slots) (moments_given t s slots))
    ∙ ap (arrivals s.link Report (length slots)) (given-named t s slots)

-- the moments of some slots, the newest first
abbrev pub moments_in : List (List Moment) → List Moment
moments_in [] = []
moments_in (moments ∷ earlier) = onto moments (moments_in earlier)

some-packet : (m : Moment) → has_packet m ≡ true → m.packet ≢ []
some-packet m e none = true_is_not_false (sym e ∙ ap (λ (p : List ℕ). not (length p == 0)) none)

-- each report that was given is a moment with a packet
given-in : (t : TailoringParts) (s : Script) (slots : List (List Moment)) (g : Given Moment) → IsIn g (moments_given t s slots) → is_direction g.direction Report ≡ true
    → IsIn g.packet (moments_in slots) × (g.packet.packet ≢ [])
given-in t s [] g h d = absurd h
given-in t s (moments ∷ earlier) g h d =
    by (IsIn-append g (moments_given t s earlier) (map (request_moment n) (sent_in s n) ++ map (report_moment t n) (filter has_packet moments)) h) (λ k. given-in t s earlier g k d)
  where
    n : ℕ
    n = length earlier

    reported : IsIn g (map (report_moment t n) (filter has_packet moments)) → IsIn g.packet (onto moments (moments_in earlier)) × (g.packet.packet ≢ [])
    reported k =
        let r = IsIn-map (report_moment t n) g (filter has_packet moments) k in
        let f = IsIn-filter has_packet r.0 moments r.1 in
        let same : r.0 ≡ g.packet = ap (λ (x : Given Moment). x.packet) r.2 in
        let P : Moment → Type 0 = λ m. IsIn m (onto moments (moments_in earlier)) × (m.packet ≢ []) in
        subst P same (onto-IsIn r.0 moments (moments_in earlier) f.0, some-packet r.0 f.1)

    requested : IsIn g (map (request_moment n) (sent_in s n)) → IsIn g.packet (onto moments (moments_in earlier)) × (g.packet.packet ≢ [])
    requested k =
        let r = IsIn-map (request_moment n) g (sent_in s n) k in
        absurd (true_is_not_false (sym d ∙ ap (λ (x : Given Moment). is_direction x.direction Report) (sym r.2)))

    new : IsIn g (map (request_moment n) (sent_in s n)) ⊎ IsIn g (map (report_moment t n) (filter has_packet moments)) → IsIn g.packet (onto moments (moments_in earlier)) × (g.packet.packet ≢ [])
    new (inl k) = requested k
    new (inr k) = reported k

    by : IsIn g (moments_given t s earlier) ⊎ IsIn g (map (request_moment n) (sent_in s n) ++ map (report_moment t n) (filter has_packet moments))
        → (IsIn g (moments_given t s earlier) → IsIn g.packet (moments_in earlier) × (g.packet.packet ≢ []))
        → IsIn g.packet (onto moments (moments_in earlier)) × (g.packet.packet ≢ [])
    by (inl k) later = let r = later k in (IsIn-onto g.packet moments (moments_in earlier) r.0, r.1)
    by (inr k) later = new (IsIn-append g (map (request_moment n) (sent_in s n)) (map (report_moment t n) (filter has_packet moments)) k)

-- each moment that is delivered was done, and has a packet
pub delivered-in : (t : TailoringParts) (s : Script) (slots : List (List Moment)) (m : Moment) → IsIn m (moments_delivered t s slots) → IsIn m (moments_in slots) × (m.packet ≢ [])
unfolding moments_delivered
delivered-in t s slots m h =
    let r = arrivals-in s.link Report (length slots) (moments_given t s slots) m h in
    let P : Moment → Type 0 = λ m. IsIn m (moments_in slots) × (m.packet ≢ []) in
    subst P r.3 (given-in t s slots r.0 r.1 r.2)

-- the steps of what is delivered
abbrev pub delivers_of : List Moment → List Step
delivers_of ms = map (λ m. deliver m) ms

pub delivers-moments : (ms : List Moment) (steps : List Step) → moments_of (onto (delivers_of ms) steps) ≡ moments_of steps
delivers-moments [] steps = refl
delivers-moments (m ∷ ms) steps = delivers-moments ms (deliver m ∷ steps)

pub delivers-count : (ms : List Moment) (steps : List Step) → sent_count (onto (delivers_of ms) steps) ≡ sent_count steps
delivers-count [] steps = refl
delivers-count (m ∷ ms) steps = delivers-count ms (deliver m ∷ steps)

-- moments with a packet are delivered one after the other
pub deliver-moments : (s : Session) (ms : List Moment) (steps : List Step) → ((m : Moment) → IsIn m ms → IsIn m (moments_of steps) × (m.packet ≢ []))
    → EachAfter (MayStep s) steps → EachAfter (MayStep s) (onto (delivers_of ms) steps)
deliver-moments s [] steps all each = each
deliver-moments s (m ∷ ms) steps all each =
    let here = all m (inl refl) in
    let i = IsIn-index m (moments_of steps) here.0 in
    deliver-moments s ms (deliver m ∷ steps) (λ x k. all x (inr k)) (((i.0, i.1), here.1), each)
