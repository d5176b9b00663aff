-- What a link holds by numbers, as packets.
use Rattle.std.proofs.Common.{arith, zero, suc, ◌≡◌, ◌+◌, ◌<◌, ℕ, Bool, true, false, List, [], ◌∷◌, ◌++◌, length, length-append, drop, map, Result, Ok, Err, refl, sym, ap, ap₂, subst, ◌∙◌, append_assoc}
use Rattle.std.specs.Prelude.{slice_get, flat_map, OnOk, if◌then◌else◌}
use Rattle.std.specs.Option.{option_map_or}
use Rattle.std.specs.List.{AllByRecursion}
use Rattle.std.proofs.Math.Seq.{drop-append_seam}
use Rattle.std.proofs.lemmas.Grind.{flat_map-append}
use Rattle.std.proofs.lemmas.List.{map-append}
use Rattle.std.proofs.lemmas.List.Folds.{flat_map-map}
use Rattle.hk_base.specs.TailoringParts.{TailoringParts}
use Rattle.hk_base.specs.declared.types.Memory.{Memory}
use Rattle.hk_base.proofs.Membership.{AllByRecursion-append}
use Rattle.hk_world.specs.declared.moment.Moment.{Moment}
use Rattle.session_record.specs.Records.{entry_octets}
use Rattle.session_record.specs.declared.entry.Entry.TheVariants.{Sent, Got}
use Rattle.simulated_link.specs.Links.{Given, arrivals, renamed}
use Rattle.simulated_link.specs.Holding.{IsHeld}
use Rattle.simulated_link.specs.declared.link.Link.{Link}
use Rattle.simulated_link.specs.declared.settings.Settings.{Settings}
use Rattle.simulated_link.specs.declared.settings.Direction.{Direction}
use Rattle.simulated_link.specs.declared.settings.Direction.TheVariants.{Request, Report}
use Rattle.board_scripts.specs.Spelling.{AreSent}
use Rattle.board_scripts.specs.declared.script.Script.{Script}
use Rattle.board_scripts.specs.declared.script.Sending.{Sending}
use Rattle.board_runs.specs.Slots.{has_packet, sent_in, request_given, requests_given, reports_given, given_in, deliveries, uplinks}
use Rattle.board_runs.proofs.ListLemmas.{map-twice, slice_get-within}
use Rattle.board_runs.proofs.UplinkLemmas.{sent-rising}
use Rattle.run_slots.specs.Arrivals.{got_entries, reported, requested}
use Rattle.run_slots.specs.Fronts.{front, numbers, sent_entries, IsGiven}
use Rattle.run_slots.specs.Reporting.{report_numbered, reports_numbered}
use Rattle.run_slots.specs.Standing.{packet_of, HasMoment, HoldsPackets, IsBeforeSlot, IsInSlot, opening_octets}
use Rattle.run_slots.proofs.NumberLemmas.{front-named}
use Rattle.run_slots.proofs.ReportNumbers.{reports-named, moment-at, moments-behind}
use Rattle.run_slots.proofs.RisingLemmas.{front-of, next-of, none-first, of_slot}

-- what arrives doesn't depend on how packets are known
abbrev pub Renames : Type 0
Renames =
    (f : Direction → ℕ → List ℕ) → (s : Settings) → (d : Direction) → (slot : ℕ) → (given : List (Given ℕ)) → arrivals s d slot (map (renamed f) given) ≡ map (f d) (arrivals s d slot given)

-- a moment that is there is there behind more moments
get-front : (journal more : List Moment) (n : ℕ) → n < length journal → slice_get (journal ++ more) n ≡ slice_get journal n
get-front [] more n below = absurd (omega (arith, below))
get-front (m ∷ journal) more zero below = refl
get-front (m ∷ journal) more (suc n) below = get-front journal more n (omega (arith, below))

same-packet : (sendings : List Sending) (journal more : List Moment) (d : Direction) (n : ℕ) → (d ≡ Report → n < length journal)
    → packet_of sendings (journal ++ more) d n ≡ packet_of sendings journal d n
same-packet sendings journal more Request n known = refl
same-packet sendings journal more Report n known = ap (λ o. option_map_or (λ m. m.packet) o []) (get-front journal more n (known refl))

-- numbers stand for the same packets once the journal has more moments
pub same-packets : (sendings : List Sending) (journal more : List Moment) (ns : List (Given ℕ)) → AllByRecursion (HasMoment journal) ns
    → map (renamed (packet_of sendings (journal ++ more))) ns ≡ map (renamed (packet_of sendings journal)) ns
same-packets sendings journal more [] known = refl
same-packets sendings journal more (g ∷ ns) known =
    ap₂ (λ p gs. record { direction = g.direction; slot = g.slot; earliest = g.earliest; packet = p } ∷ gs)
    (same-packet sendings journal more g.direction g.packet known.0) (same-packets sendings journal more ns known.1)

known-more : (journal more : List Moment) (ns : List (Given ℕ)) → AllByRecursion (HasMoment journal) ns → AllByRecursion (HasMoment (journal ++ more)) ns
known-more journal more [] known = tt
known-more journal more (g ∷ ns) known = (λ e. within g.packet (known.0 e), known-more journal more ns known.1)
  where
    within : (n : ℕ) → n < length journal → n < length (journal ++ more)
    within n below = let size = length-append journal more in omega (arith, below, size)

-- requests need no moment
requests-known : (journal : List Moment) (slot n : ℕ) (xs : List Sending) → AllByRecursion (HasMoment journal) (numbers slot n xs)
requests-known journal slot n [] = tt
requests-known journal slot n (x ∷ xs) = (λ e. apart e, requests-known journal slot (n + 1) xs)
  where
    apart : Request ≡ Report → n < length journal
    apart e = cc

-- reports of moments have them
reports-known : (journal : List Moment) (t : TailoringParts) (slot n : ℕ) (ms : List Moment) → drop n journal ≡ ms → AllByRecursion (HasMoment journal) (reports_numbered t slot n ms)
reports-known journal t slot n [] e = tt
reports-known journal t slot n (m ∷ ms) e = by (has_packet m) (reports-known journal t slot (n + 1) ms (moments-behind journal n m ms e))
  where
    by : (b : Bool) → AllByRecursion (HasMoment journal) (reports_numbered t slot (n + 1) ms)
        → AllByRecursion (HasMoment journal) (if b then report_numbered t slot n m ∷ reports_numbered t slot (n + 1) ms else reports_numbered t slot (n + 1) ms)
    by true later = (λ d. slice_get-within journal n m (moment-at journal n m ms e), later)
    by false later = later

-- what is sent in a slot, by numbers and as packets
requests-are : (s : Script) (journal : List Moment) (slot next : ℕ) → front slot (drop next s.sendings) ≡ of_slot slot s.sendings
    → map (renamed (packet_of s.sendings journal)) (numbers slot next (front slot (drop next s.sendings))) ≡ requests_given s slot
requests-are s journal slot next same =
    front-named (packet_of s.sendings journal) s.sendings (λ n. refl) slot next
    ∙ (ap (map (λ (x : Sending). request_given slot x.packet)) same ∙ sym (map-twice (request_given slot) (λ (x : Sending). x.packet) (of_slot slot s.sendings)))

-- what the board reports in a slot, by numbers and as packets
reports-are : (sendings : List Sending) (journal before moments : List Moment) (t : TailoringParts) (slot from : ℕ) → journal ≡ before ++ moments → from ≡ length before
    → map (renamed (packet_of sendings journal)) (reports_numbered t slot from (drop from journal)) ≡ reports_given t slot moments
reports-are sendings journal before moments t slot from is e =
    let rest : drop from journal ≡ moments = ap₂ drop e is ∙ drop-append_seam before moments in
    reports-named (packet_of sendings journal) journal (λ n. refl) t slot from ∙ ap (reports_given t slot) rest

-- a link that was given more holds more
module _ (sendings : List Sending) (journal : List Moment) (from after_from : ℕ) (given more_given : List (Given (List ℕ))) (before after : Link) (more : List (Given ℕ)) where
  pub holds-more : (was : HoldsPackets sendings journal from given before) → map (renamed (packet_of sendings journal)) more ≡ more_given → AllByRecursion (HasMoment journal) more
      → ((d : Direction) → IsHeld d from was.numbers before → IsHeld d after_from (was.numbers ++ more) after) → HoldsPackets sendings journal after_from (given ++ more_given) after
  holds-more was packets known held = record {
    numbers = was.numbers ++ more;
    packets = map-append (renamed (packet_of sendings journal)) was.numbers more ∙ ap₂ (λ a b. a ++ b) was.packets packets;
    known = AllByRecursion-append (HasMoment journal) was.numbers more was.known known;
    held = λ d. held d (was.held d);
  }

-- the same packets, once the journal has more moments
pub holds-longer : (sendings : List Sending) (journal more : List Moment) (from : ℕ) (given : List (Given (List ℕ))) (link : Link) → HoldsPackets sendings journal from given link
    → HoldsPackets sendings (journal ++ more) from given link
holds-longer sendings journal more from given link was = record {
  numbers = was.numbers;
  packets = same-packets sendings journal more was.numbers was.known ∙ was.packets;
  known = known-more journal more was.numbers was.known;
  held = was.held;
}

-- a new link, before the first slot
pub begins : (t : TailoringParts) (s : Script) (link : Link) → link.settings ≡ s.link → ((d : Direction) → IsHeld d 0 [] link) → IsBeforeSlot t s [] [] 0 0 link
begins t s link settings held = record {
  number = refl;
  lines = none-first s.sendings;
  settings = settings;
  held = record { numbers = []; packets = refl; known = tt; held = held };
}

-- a run before a slot, of a script whose slots don't fall
module _ (t : TailoringParts) (s : Script) (slots : List (List Moment)) (journal : List Moment) (slot next : ℕ) (link : Link) where
  fronts : AreSent t [] s.sendings → IsBeforeSlot t s slots journal slot next link → front slot (drop next s.sendings) ≡ of_slot slot s.sendings
  fronts sent was = front-of slot next s.sendings (sent-rising t [] s.sendings sent) was.lines

  -- what arrives there, as packets
  arrived : Renames → (d : Direction) (given : List (Given ℕ))
      → map (packet_of s.sendings journal d) (arrivals link.settings d slot given) ≡ arrivals link.settings d slot (map (renamed (packet_of s.sendings journal)) given)
  arrived law d given = sym (law (packet_of s.sendings journal) link.settings d slot given)

  at-slot : (d : Direction) (given : List (Given (List ℕ))) → IsBeforeSlot t s slots journal slot next link → arrivals link.settings d slot given ≡ arrivals s.link d (length slots) given
  at-slot d given was = ap₂ (λ (x : Settings) n. arrivals x d n given) was.settings was.number

  -- what the ground gets and what it sends are the first entries of the slot
  pub opening-text : Renames → AreSent t [] s.sendings → (was : IsBeforeSlot t s slots journal slot next link)
      → got_entries journal (arrivals link.settings Report slot was.held.numbers) ++ sent_entries (front slot (drop next s.sendings)) ≡ opening_octets t s slots
  opening-text law sent was =
      let ns : List ℕ = arrivals link.settings Report slot was.held.numbers in
      let got : map (reported journal) ns ≡ deliveries t s slots =
      arrived law Report was.held.numbers ∙ (ap (arrivals link.settings Report slot) was.held.packets ∙ at-slot Report (given_in t s slots) was) in
      let first : got_entries journal ns ≡ flat_map entry_octets (map Got (deliveries t s slots)) =
      sym (flat_map-map (λ p. entry_octets (Got p)) (reported journal) ns)
      ∙ (ap (flat_map (λ p. entry_octets (Got p))) got ∙ sym (flat_map-map entry_octets Got (deliveries t s slots))) in
      let lines : map (λ (x : Sending). x.packet) (front slot (drop next s.sendings)) ≡ sent_in s (length slots) =
      ap (map (λ (x : Sending). x.packet)) (fronts sent was) ∙ ap (sent_in s) was.number in
      let second : sent_entries (front slot (drop next s.sendings)) ≡ flat_map entry_octets (map Sent (sent_in s (length slots))) =
      sym (flat_map-map (λ p. entry_octets (Sent p)) (λ (x : Sending). x.packet) (front slot (drop next s.sendings)))
      ∙ (ap (flat_map (λ p. entry_octets (Sent p))) lines ∙ sym (flat_map-map entry_octets Sent (sent_in s (length slots)))) in
      ap₂ (λ a b. a ++ b) first second ∙ sym (flat_map-append entry_octets (map Got (deliveries t s slots)) (map Sent (sent_in s (length slots))))

  -- what the board gets
  pub uplinks-are : Renames → AreSent t [] s.sendings → (was : IsBeforeSlot t s slots journal slot next link)
      → map (requested s.sendings) (arrivals link.settings Request slot (was.held.numbers ++ numbers slot next (front slot (drop next s.sendings)))) ≡ uplinks t s slots
  uplinks-are law sent was =
      let more : List (Given ℕ) = numbers slot next (front slot (drop next s.sendings)) in
      let packets : map (renamed (packet_of s.sendings journal)) (was.held.numbers ++ more) ≡ given_in t s slots ++ requests_given s (length slots) =
      map-append (renamed (packet_of s.sendings journal)) was.held.numbers more
      ∙ ap₂ (λ a b. a ++ b) was.held.packets (requests-are s journal slot next (fronts sent was) ∙ ap (requests_given s) was.number) in
      arrived law Request (was.held.numbers ++ more) ∙ (ap (arrivals link.settings Request slot) packets ∙ at-slot Request (given_in t s slots ++ requests_given s (length slots)) was)

  -- the slot is opened
  pub opens : (last : ℕ) (after : Link) → AreSent t [] s.sendings → (was : IsBeforeSlot t s slots journal slot next link) → after.settings ≡ link.settings
      → last ≡ next + length (front slot (drop next s.sendings))
      → ((d : Direction) → IsHeld d slot was.held.numbers link → IsHeld d (slot + 1) (was.held.numbers ++ numbers slot next (front slot (drop next s.sendings))) after)
      → IsInSlot t s slots journal slot last after
  opens last after sent was same is held = record {
    number = was.number;
    lines = next-of slot next last s.sendings (sent-rising t [] s.sendings sent) was.lines is;
    settings = same ∙ was.settings;
    held = holds-more s.sendings journal slot (slot + 1) (given_in t s slots) (requests_given s slot) link after (numbers slot next (front slot (drop next s.sendings))) was.held
        (requests-are s journal slot next (fronts sent was)) (requests-known journal slot next (front slot (drop next s.sendings))) held;
  }

-- by direction
pub both : (P : Direction → Type 0) → P Request → P Report → (d : Direction) → P d
both P request report Request = request
both P request report Report = report

-- the slot is closed: what was done in it is reported
pub closes : (t : TailoringParts) (s : Script) (slots : List (List Moment)) (journal before moments : List Moment) (slot next from : ℕ) (link after : Link)
    → journal ≡ before ++ moments → from ≡ length before → after.settings ≡ link.settings → IsGiven (reports_numbered t slot from (drop from journal)) link after
    → IsInSlot t s slots before slot next link → IsBeforeSlot t s (moments ∷ slots) journal (slot + 1) next after
closes t s slots journal before moments slot next from link after is e same given was = record {
  number = ap (λ n. n + 1) was.number ∙ one (length slots);
  lines = was.lines;
  settings = same ∙ was.settings;
  held = subst (λ gs. HoldsPackets s.sendings journal (slot + 1) gs after) all held;
}
  where
    one : (n : ℕ) → n + 1 ≡ suc n
    one n = omega arith

    more : List (Given ℕ)
    more = reports_numbered t slot from (drop from journal)

    longer : HoldsPackets s.sendings journal (slot + 1) (given_in t s slots ++ requests_given s slot) link
    longer =
        subst (λ j. HoldsPackets s.sendings j (slot + 1) (given_in t s slots ++ requests_given s slot) link) (sym is)
        (holds-longer s.sendings before moments (slot + 1) (given_in t s slots ++ requests_given s slot) link was.held)

    held : HoldsPackets s.sendings journal (slot + 1) ((given_in t s slots ++ requests_given s slot) ++ reports_given t slot moments) after
    held =
        holds-more s.sendings journal (slot + 1) (slot + 1) (given_in t s slots ++ requests_given s slot) (reports_given t slot moments) link after more longer
        (reports-are s.sendings journal before moments t slot from is e) (reports-known journal t slot from (drop from journal) refl)
        (λ d h. given d (slot + 1) longer.numbers h)

    all : (given_in t s slots ++ requests_given s slot) ++ reports_given t slot moments ≡ given_in t s (moments ∷ slots)
    all =
        append_assoc (given_in t s slots) (requests_given s slot) (reports_given t slot moments)
        ∙ ap (λ n. given_in t s slots ++ (requests_given s n ++ reports_given t n moments)) was.number

pub closes-ok : (t : TailoringParts) (s : Script) (slots : List (List Moment)) (journal before moments : List Moment) (slot next from : ℕ) (link after : Link) (result : Result Unit Memory)
    → journal ≡ before ++ moments → from ≡ length before → after.settings ≡ link.settings → OnOk result (IsGiven (reports_numbered t slot from (drop from journal)) link after)
    → IsInSlot t s slots before slot next link → OnOk result (IsBeforeSlot t s (moments ∷ slots) journal (slot + 1) next after)
closes-ok t s slots journal before moments slot next from link after (Ok done) is e same given was = closes t s slots journal before moments slot next from link after is e same given was
closes-ok t s slots journal before moments slot next from link after (Err f) is e same given was = tt
