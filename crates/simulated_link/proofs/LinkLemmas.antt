-- What a link holds behind one more packet.
use Rattle.std.proofs.Common.{◌≡◌, ℕ, suc, ◌+◌, ◌*◌, refl, sym, ap, ◌∙◌, subst, arith, List, [], ◌∷◌, ◌++◌, length, map, Bool, true, false}
use Rattle.std.proofs.lemmas.List.{map-append, length-append, append_assoc, append-nil}
use Rattle.std.proofs.lemmas.List.Elements.{filter-append}
use Rattle.std.specs.Prelude.{filter, ◌&&◌, ◌==◌, if◌then◌else◌}
use Rattle.simulated_link.specs.Words.{generator_at}
use Rattle.simulated_link.specs.Links.{Given, Copy, arrivals, copies, copies_from, is_direction, is_lost, is_repeated, late, delay, second_delay}
use Rattle.simulated_link.specs.Holding.{IsDrawn, IsHeld, Puts, holding}
use Rattle.simulated_link.specs.Waiting.{waiting}
use Rattle.simulated_link.specs.declared.link.Link.{Link}
use Rattle.simulated_link.specs.declared.arriving.Arriving.{Arriving}
use Rattle.simulated_link.specs.declared.words.Words.{Words}
use Rattle.simulated_link.specs.declared.settings.Settings.{Settings}
use Rattle.simulated_link.specs.declared.settings.Direction.{Direction}
use Rattle.simulated_link.specs.declared.settings.Direction.TheVariants.{Request, Report}

-- the packets among copies that arrive in a slot
abbrev pub arriving : ℕ → List (Copy ℕ) → List ℕ
arriving slot cs = map (λ c. c.packet) (filter (λ c. c.arrival == slot) cs)

-- the same of a direction, by whether the copies are of it
abbrev pub arriving_if : Bool → ℕ → List (Copy ℕ) → List ℕ
arriving_if b slot cs = arriving slot (if b then cs else [])

arriving-append : (slot : ℕ) (xs ys : List (Copy ℕ)) → arriving slot (xs ++ ys) ≡ arriving slot xs ++ arriving slot ys
arriving-append slot xs ys =
    ap (map (λ c. c.packet)) (filter-append (λ c. c.arrival == slot) xs ys) ∙ map-append (λ c. c.packet) (filter (λ c. c.arrival == slot) xs) (filter (λ c. c.arrival == slot) ys)

append-if : (b : Bool) (slot : ℕ) (xs ys : List (Copy ℕ)) → arriving_if b slot (xs ++ ys) ≡ arriving_if b slot xs ++ arriving_if b slot ys
append-if true slot xs ys = arriving-append slot xs ys
append-if false slot xs ys = refl

copies-more : (s : Settings) (d : Direction) (number : ℕ) (given : List (Given ℕ)) (g : Given ℕ)
    → copies_from s d number (given ++ g ∷ []) ≡ copies_from s d number given ++ (if is_direction g.direction d then copies s (number + length given) g else [])
copies-more s d number [] g =
    let same : number ≡ number + 0 = omega arith in
    append-nil (if is_direction g.direction d then copies s number g else []) ∙ ap (λ n. if is_direction g.direction d then copies s n g else []) same
copies-more s d number (x ∷ given) g =
    let here : List (Copy ℕ) = if is_direction x.direction d then copies s number x else [] in
    let moved : suc number + length given ≡ number + length (x ∷ given) = omega arith in
    ap (λ cs. here ++ cs) (copies-more s d (suc number) given g ∙ ap (λ n. copies_from s d (suc number) given ++ (if is_direction g.direction d then copies s n g else [])) moved)
    ∙ sym (append_assoc here (copies_from s d (suc number) given) (if is_direction g.direction d then copies s (number + length (x ∷ given)) g else []))

pub arrivals-more : (s : Settings) (d : Direction) (slot : ℕ) (given : List (Given ℕ)) (g : Given ℕ)
    → arrivals s d slot (given ++ g ∷ []) ≡ arrivals s d slot given ++ arriving_if (is_direction g.direction d) slot (copies s (length given) g)
unfolding arrivals
arrivals-more s d slot given g =
    let same : 0 + length given ≡ length given = omega arith in
    ap (arriving slot) (copies-more s d 0 given g ∙ ap (λ n. copies_from s d 0 given ++ (if is_direction g.direction d then copies s n g else [])) same)
    ∙ arriving-append slot (copies_from s d 0 given) (if is_direction g.direction d then copies s (length given) g else [])

-- a copy that was put arrives
put-if : (b : Bool) (slot : ℕ) (c : Copy ℕ) (before : List ℕ) → (if b && (c.arrival == slot) then before ++ c.packet ∷ [] else before) ≡ before ++ arriving_if b slot (c ∷ [])
put-if false slot c before = sym (append-nil before)
put-if true slot c before = go (c.arrival == slot)
  where
    go : (b : Bool) → (if b then before ++ c.packet ∷ [] else before) ≡ before ++ map (λ c. c.packet) (if b then c ∷ [] else [])
    go true = refl
    go false = sym (append-nil before)

-- some copies of a direction were put behind those that were held
abbrev pub PutsAll : Direction → List (Copy ℕ) → Link → Link → Type 0
PutsAll direction cs before after = (d : Direction) → (slot : ℕ) → holding after d slot ≡ holding before d slot ++ arriving_if (is_direction direction d) slot cs

puts-one : (e : Direction) (c : Copy ℕ) (before after : Link) → Puts e c before after → PutsAll e (c ∷ []) before after
puts-one e c before after put d slot = put d slot ∙ put-if (is_direction e d) slot c (holding before d slot)

puts-none : (e : Direction) (before after : Link) → after.requests ≡ before.requests → after.reports ≡ before.reports → PutsAll e [] before after
puts-none e before after requests reports d slot = go d ∙ (sym (append-nil (holding before d slot)) ∙ ap (λ xs. holding before d slot ++ xs) (none (is_direction e d)))
  where
    go : (d : Direction) → holding after d slot ≡ holding before d slot
    go Request = ap (λ (a : Arriving). waiting a.slots slot) requests
    go Report = ap (λ (a : Arriving). waiting a.slots slot) reports

    none : (b : Bool) → [] ≡ arriving_if b slot []
    none true = refl
    none false = refl

puts-then : (e : Direction) (xs ys : List (Copy ℕ)) (before middle after : Link) → PutsAll e xs before middle → PutsAll e ys middle after → PutsAll e (xs ++ ys) before after
puts-then e xs ys before middle after first second d slot =
    let b = is_direction e d in
    second d slot
    ∙ (ap (λ zs. zs ++ arriving_if b slot ys) (first d slot)
    ∙ (append_assoc (holding before d slot) (arriving_if b slot xs) (arriving_if b slot ys)
    ∙ ap (λ zs. holding before d slot ++ zs) (sym (append-if b slot xs ys))))

-- the copies of a packet were put, and its words were drawn
held-more : (d : Direction) (from : ℕ) (given : List (Given ℕ)) (g : Given ℕ) (before after : Link) → IsHeld d from given before
    → after.settings ≡ before.settings → IsDrawn (length given + 1) after → PutsAll g.direction (copies before.settings (length given) g) before after
    → IsHeld d from (given ++ g ∷ []) after
held-more d from given g before after held settings drawn put =
    let longer : length given + 1 ≡ length (given ++ g ∷ []) = sym (length-append given (g ∷ [])) in
    record {
      drawn = subst (λ n. IsDrawn n after) longer drawn;
      held = λ slot h. put d slot
          ∙ (ap (λ xs. xs ++ arriving_if (is_direction g.direction d) slot (copies before.settings (length given) g)) (held.held slot h)
          ∙ (sym (arrivals-more before.settings d slot given g) ∙ ap (λ s. arrivals s d slot (given ++ g ∷ [])) (sym settings)));
    }

-- a packet was given, and it is lost
pub lost-held : (d : Direction) (from : ℕ) (given : List (Given ℕ)) (g : Given ℕ) (before after : Link) → IsHeld d from given before
    → after.settings ≡ before.settings → after.requests ≡ before.requests → after.reports ≡ before.reports → IsDrawn (length given + 1) after
    → is_lost before.settings (length given) g.direction ≡ true → IsHeld d from (given ++ g ∷ []) after
lost-held d from given g before after held settings requests reports drawn lost =
    let none : [] ≡ copies before.settings (length given) g = rw lost refl in
    held-more d from given g before after held settings drawn (subst (λ cs. PutsAll g.direction cs before after) none (puts-none g.direction before after requests reports))

-- it arrives once
pub once-held : (d : Direction) (from : ℕ) (given : List (Given ℕ)) (g : Given ℕ) (before middle after : Link) (arrival : ℕ) → IsHeld d from given before
    → middle.settings ≡ before.settings → middle.requests ≡ before.requests → middle.reports ≡ before.reports → IsDrawn (length given + 1) after
    → after.settings ≡ middle.settings → Puts g.direction (record { arrival = arrival; packet = g.packet }) middle after
    → is_lost before.settings (length given) g.direction ≡ false → is_repeated before.settings (length given) g.direction ≡ false
    → record { arrival = arrival; packet = g.packet } ≡ late g (delay before.settings (length given))
    → IsHeld d from (given ++ g ∷ []) after
once-held d from given g before middle after arrival held settings requests reports drawn later put lost repeated first =
    let one : late g (delay before.settings (length given)) ∷ [] ≡ copies before.settings (length given) g = rw (lost, repeated) refl in
    let puts = puts-then g.direction [] (record { arrival = arrival; packet = g.packet } ∷ []) before middle after
    (puts-none g.direction before middle requests reports) (puts-one g.direction (record { arrival = arrival; packet = g.packet }) middle after put) in
    held-more d from given g before after held (later ∙ settings) drawn
    (subst (λ cs. PutsAll g.direction cs before after) (ap (λ c. c ∷ []) first ∙ one) puts)

-- it arrives twice
pub twice-held : (d : Direction) (from : ℕ) (given : List (Given ℕ)) (g : Given ℕ) (before middle next after : Link) (arrival second : ℕ) → IsHeld d from given before
    → middle.settings ≡ before.settings → middle.requests ≡ before.requests → middle.reports ≡ before.reports → IsDrawn (length given + 1) after
    → next.settings ≡ middle.settings → after.settings ≡ next.settings
    → Puts g.direction (record { arrival = arrival; packet = g.packet }) middle next → Puts g.direction (record { arrival = second; packet = g.packet }) next after
    → is_lost before.settings (length given) g.direction ≡ false → is_repeated before.settings (length given) g.direction ≡ true
    → record { arrival = arrival; packet = g.packet } ≡ late g (delay before.settings (length given))
    → record { arrival = second; packet = g.packet } ≡ late g (second_delay before.settings (length given))
    → IsHeld d from (given ++ g ∷ []) after
twice-held d from given g before middle next after arrival second held settings requests reports drawn near later put again lost repeated first behind =
    let both : late g (delay before.settings (length given)) ∷ late g (second_delay before.settings (length given)) ∷ [] ≡ copies before.settings (length given) g = rw (lost, repeated) refl in
    let one : Copy ℕ = record { arrival = arrival; packet = g.packet } in
    let two : Copy ℕ = record { arrival = second; packet = g.packet } in
    let puts = puts-then g.direction (one ∷ []) (two ∷ []) before next after
    (puts-then g.direction [] (one ∷ []) before middle next (puts-none g.direction before middle requests reports) (puts-one g.direction one middle next put))
    (puts-one g.direction two next after again) in
    held-more d from given g before after held (later ∙ (near ∙ settings)) drawn
    (subst (λ cs. PutsAll g.direction cs before after) (ap (λ c. c ∷ late g (second_delay before.settings (length given)) ∷ []) first ∙ both)
    (subst (λ c. PutsAll g.direction (one ∷ c ∷ []) before after) behind puts))

-- nothing was given
pub nothing-held : (d : Direction) (link : Link) → link.words.generator ≡ generator_at link.settings.seed 0
    → ((slot : ℕ) → waiting link.requests.slots slot ≡ []) → ((slot : ℕ) → waiting link.reports.slots slot ≡ []) → IsHeld d 0 [] link
unfolding arrivals
nothing-held Request link drawn requests reports = record { drawn = drawn; held = λ slot h. requests slot }
nothing-held Report link drawn requests reports = record { drawn = drawn; held = λ slot h. reports slot }

-- the words that were drawn are the same
pub drawn-same : (number : ℕ) (before after : Link) → after.settings ≡ before.settings → after.words ≡ before.words → IsDrawn number before → IsDrawn number after
drawn-same number before after settings words drawn =
    ap (λ (w : Words). w.generator) words ∙ (drawn ∙ ap (λ (s : Settings). generator_at s.seed (4 * number)) (sym settings))
