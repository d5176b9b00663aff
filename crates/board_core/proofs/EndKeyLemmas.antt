-- The structures that are reported at the end of a slot, by what is held of them, and their payloads.
use Rattle.std.proofs.Common.{arith, ◌≡◌, ℕ, ◌+◌, ◌^◌, ◌<◌, ◌≤◌, ℤ, refl, sym, ◌∙◌, ap, subst, List, [], ◌∷◌, length, cond, Bool, true, false, ◌==◌, ◌&&◌, Option, Some, None, Result, Ok, Err, inl, inr}
use Rattle.std.specs.Prelude.{IfSome, IfOk, filter_map, is_some, option_map, if◌then◌else◌}
use Rattle.std.specs.List.{All, AllByRecursion, list_all}
use Rattle.std.specs.Option.{option_map_or}
use Rattle.std.proofs.lemmas.Bool.Decides.{Decides-eqb}
use Rattle.std.proofs.lemmas.Option.{none-some, same_Some}
use Rattle.std.proofs.lemmas.List.Elements.{All-from_recursion}
use Rattle.hk_base.specs.Fit.{IsFit}
use Rattle.hk_base.specs.Definitions.{IsWellFormed}
use Rattle.hk_base.specs.Parameters.{key_eq}
use Rattle.hk_base.specs.Payload.{places, IsValid, IsPayload, AllFit, payload_read, payload_fault, payload_size, payload_values, groups, bits_of, groups_fault, unless_fault}
use Rattle.hk_base.specs.declared.types.PayloadFault.{PayloadFault}
use Rattle.hk_base.specs.declared.types.PayloadFault.TheVariants.{WrongSize}
use Rattle.hk_base.specs.TailoringParts.{TailoringParts}
use Rattle.hk_base.specs.declared.types.Definition.{Definition}
use Rattle.hk_base.specs.declared.types.Key.{Key}
use Rattle.hk_base.specs.declared.types.Structure.{Structure}
use Rattle.hk_base.proofs.Membership.{IsIn}
use Rattle.sample_slots.specs.Slots.{IsSampled}
use Rattle.sample_slots.proofs.Sampled.{is-sampled}
use Rattle.hk_world.specs.Timelines.{done_instructions}
use Rattle.hk_world.proofs.OrderLemmas.{true_is_not_false}
use Rattle.board_steps.specs.Cores.{Core, session, state_of}
use Rattle.board_steps.specs.Plans.{is_reported}
use Rattle.board_steps.specs.Slots.{is_due, is_complete}
use Rattle.board_steps.proofs.ClosingLemmas.{interval-due}
use Rattle.board_steps.proofs.GrammarLemmas.{RequestsOnly}
use Rattle.board_state.specs.Holdings.{held_at, held_structure, is_before, due_keys, one_shots_of, AreRisingKeys, AreStructures, IsHeld}
use Rattle.board_state.specs.Statistics.{StatisticsHeld}
use Rattle.board_state.specs.declared.channels.Channel.{Channel}
use Rattle.board_state.specs.declared.running.Running.{Running}
use Rattle.board_state.specs.declared.structures.Held.{Held}
use Rattle.board_state.proofs.HoldingLemmas.{keys-one}
use Rattle.board_core.specs.Boards.{IsWhole}
use Rattle.board_core.specs.Closing.{held_sample, is_whole, IsEndPayload}
use Rattle.board_core.proofs.EndSampleLemmas.{complete-held, complete-samples, complete-fit}
use Rattle.board_core.proofs.ReportedLemmas.{before-once, due-held, due-is, key-self, structure-is}

-- no key that comes later is this one
none-under : (key : Key) (held : List (Key × Held)) → AllByRecursion (λ (y : Key × Held). is_before key y.0 ≡ true) held → held_at held key ≡ None
none-under key [] h = refl
none-under key (x ∷ xs) h = go (key_eq key x.0) refl (none-under key xs h.1)
  where
    go : (b : Bool) → key_eq key x.0 ≡ b → held_at xs key ≡ None → cond (key_eq key x.0) (Some x.1) (held_at xs key) ≡ None
    go true e rest =
        let own : is_before key key ≡ true = subst (λ k. is_before key k ≡ true) (sym (keys-one key x.0 e)) h.0 in
        absurd (before-once key key own own)
    go false e rest = ap (λ b. cond b (Some x.1) (held_at xs key)) e ∙ rest

-- what holds under each key holds of each that is held
under-each : (P : Held → Type 0) (held : List (Key × Held)) → AreRisingKeys held → ((key : Key) → IfSome (held_at held key) P) → AllByRecursion (λ (x : Key × Held). P x.1) held
under-each P [] rising h = tt
under-each P (x ∷ xs) rising h = (
  subst (λ b. IfSome (cond b (Some x.1) (held_at xs x.0)) P) (key-self x.0) (h x.0),
  under-each P xs rising.1 (λ key. go key (key_eq key x.0) refl (h key)),
)
  where
    go : (key : Key) (b : Bool) → key_eq key x.0 ≡ b → IfSome (cond (key_eq key x.0) (Some x.1) (held_at xs key)) P → IfSome (held_at xs key) P
    go key true e k =
        let none : held_at xs key ≡ None = ap (held_at xs) (keys-one key x.0 e) ∙ none-under x.0 xs rising.0 in
        subst (λ o. IfSome o P) (sym none) tt
    go key false e k = subst (λ b. IfSome (cond b (Some x.1) (held_at xs key)) P) e k

if-some : {X : Type 0} (P Q : X → Type 0) (o : Option X) → ((x : X) → P x → Q x) → IfSome o P → IfSome o Q
if-some P Q None f h = tt
if-some P Q (Some x) f h = f x h

-- each interval has a slot
pub intervals-some : (c : Core) (held : List (Key × Held)) → AreStructures c.tailoring (done_instructions (session c) c.moments) held
    → AllByRecursion (λ (x : Key × Held). 1 ≤ x.1.structure.def.interval) held
intervals-some c held h =
    under-each (λ x. 1 ≤ x.structure.def.interval) held h.rising
    (λ key. if-some (IsHeld c.tailoring (done_instructions (session c) c.moments) key) (λ x. 1 ≤ x.structure.def.interval) (held_at held key) (λ x k. k.valid.formed.interval.0) (h.each key))

all-of : (P : Key → Type 0) (keys : List Key) → ((key : Key) → IsIn key keys → P key) → AllByRecursion P keys
all-of P [] f = tt
all-of P (key ∷ keys) f = (f key (inl refl), all-of P keys (λ k i. f k (inr i)))

-- the structures that are due have had an interval
pub due-intervals : (c : Core) (held : List (Key × Held)) → c.one_shots ≡ one_shots_of held → AreStructures c.tailoring (done_instructions (session c) c.moments) held
    → All (λ (key : Key). IfSome ((state_of c).structure key) (λ x. x.def.interval ≤ c.slot_now + 1)) (due_keys c.slot_now held)
due-intervals c held shots h =
    All-from_recursion (λ (key : Key). IfSome ((state_of c).structure key) (λ x. x.def.interval ≤ c.slot_now + 1)) (due_keys c.slot_now held)
    (all-of (λ (key : Key). IfSome ((state_of c).structure key) (λ x. x.def.interval ≤ c.slot_now + 1)) (due_keys c.slot_now held) each)
  where
    each : (key : Key) → IsIn key (due_keys c.slot_now held) → IfSome ((state_of c).structure key) (λ x. x.def.interval ≤ c.slot_now + 1)
    each key i =
        let d = due-held c.slot_now held key h.rising i in
        let due : is_due c key d.0.structure ≡ true = due-is c held shots h key d.0 d.1 ∙ d.2 in
        subst (λ o. IfSome o (λ x. x.def.interval ≤ c.slot_now + 1)) (sym (structure-is c held shots h key d.0 d.1)) (interval-due c key d.0.structure due)

both-parts : (a b : Bool) → (a && b) ≡ true → (a ≡ true) × (b ≡ true)
both-parts true b e = (refl, e)
both-parts false b e = absurd (true_is_not_false (sym e))

-- a structure that is reported is there, due and complete
reported-due : (c : Core) (key : Key) (x : Structure) → is_reported c key ≡ true → (state_of c).structure key ≡ Some x → (is_due c key x ≡ true) × (is_complete c x.def ≡ true)
reported-due c key x e there =
    both-parts (is_due c key x) (is_complete c x.def) (sym (ap (λ o. option_map_or (λ y. is_due c key y && is_complete c y.def) o false) there) ∙ e)

pub reported-there : (c : Core) (key : Key) → is_reported c key ≡ true → (state_of c).structure key ≡ None → ⊥
reported-there c key e none = true_is_not_false (sym e ∙ ap (λ o. option_map_or (λ y. is_due c key y && is_complete c y.def) o false) none)

pub reported-interval : (c : Core) (key : Key) (x : Structure) → is_reported c key ≡ true → (state_of c).structure key ≡ Some x → x.def.interval ≤ c.slot_now + 1
reported-interval c key x e there = interval-due c key x (reported-due c key x e there).0

-- what is known of a structure that is held
held-valid : (c : Core) (held : List (Key × Held)) → AreStructures c.tailoring (done_instructions (session c) c.moments) held → (key : Key) (x : Structure) → held_structure held key ≡ Some x
    → IsValid c.tailoring x.def × (key.id < 256 ^ c.tailoring.widths.structure_octets)
held-valid c held h key x e = go (held_at held key) e (h.each key)
  where
    go : (o : Option Held) → option_map (λ (y : Held). y.structure) o ≡ Some x → IfSome o (IsHeld c.tailoring (done_instructions (session c) c.moments) key)
        → IsValid c.tailoring x.def × (key.id < 256 ^ c.tailoring.widths.structure_octets)
    go None f k = absurd (none-some x f)
    go (Some y) f k = (subst (λ (s : Structure). IsValid c.tailoring s.def) (same_Some y.structure x f) k.valid, k.id)

fault-none : (f : Option PayloadFault) (values read : List ℤ) → unless_fault f values ≡ Ok read → f ≡ None
fault-none None values read e = refl
fault-none (Some f) values read e = absurd (let no-way : Err f ≡ Ok read → ⊥ = λ g. cc in no-way e)

-- octets that are read have the size of a payload
read-size : (t : TailoringParts) (d : Definition) (octets : List ℕ) (values : List ℤ) → payload_read t d octets ≡ Ok values → payload_size t d ≡ length octets
read-size t d octets values e =
    go (payload_size t d == length octets) refl (fault-none (payload_fault t d octets) (payload_values t (groups d) (bits_of octets)) values e)
  where
    go : (b : Bool) → (payload_size t d == length octets) ≡ b
        → (if b then groups_fault t (groups d) 0 0 (bits_of octets) else Some (WrongSize (payload_size t d) (length octets))) ≡ None → payload_size t d ≡ length octets
    go true f g = (Decides-eqb (payload_size t d) (length octets)).0 f
    go false f g = absurd (none-some (WrongSize (payload_size t d) (length octets)) (sym g))

module _ (c : Core) (waiting : List Running) (held : List (Key × Held)) (channels : List (ℕ × Channel)) (members : StatisticsHeld) (fit : IsFit c.tailoring) (only : RequestsOnly c.tailoring)
    (h : IsWhole c waiting held channels members) (key : Key) (x : Structure) (there : held_structure held key ≡ Some x) where
  pub is-there : (state_of c).structure key ≡ Some x
  is-there = sym (h.structures.same key) ∙ there

  pub is-formed : IsWellFormed c.tailoring x.def
  is-formed = (held-valid c held h.structures key x there).0.formed

  pub has-places : IsSampled x.def
  has-places = is-sampled c.tailoring x.def fit.widths is-formed

  -- whether it is complete
  pub whole-held : x.def.interval ≤ c.slot_now + 1 → list_all (λ p. is_some (held_sample channels c.slot_now p)) (places x.def c.slot_now) ≡ is_whole c key
  whole-held le =
      complete-held c fit only h.board.stands.octets channels h.board.stands.good h.values x.def is-formed le
      ∙ sym (ap (λ o. option_map_or (λ y. is_complete c y.def) o false) is-there)

  module _ (reported : is_reported c key ≡ true) where
    pub reported-fit : AllFit c.tailoring (places x.def x.def.interval) (filter_map (held_sample channels c.slot_now) (places x.def c.slot_now))
    reported-fit =
        complete-fit c fit only h.board.stands.octets channels h.board.stands.good h.values x.def is-formed (reported-interval c key x reported is-there) (reported-due c key x reported is-there).1

    -- its payload
    pub end-payload : (octets : List ℕ) → IsPayload c.tailoring x.def (filter_map (held_sample channels c.slot_now) (places x.def c.slot_now)) octets
        → payload_read c.tailoring x.def octets ≡ Ok (filter_map (held_sample channels c.slot_now) (places x.def c.slot_now)) → IsEndPayload c key octets
    end-payload octets is again =
        let valid = held-valid c held h.structures key x there in
        record {
          structure = x;
          values = filter_map (held_sample channels c.slot_now) (places x.def c.slot_now);
          id = valid.1;
          is_there = is-there;
          samples = complete-samples c fit only h.board.stands.octets channels h.board.stands.good h.values x.def is-formed (reported-interval c key x reported is-there)
              (reported-due c key x reported is-there).1;
          payload_is = is;
          short = let size = read-size c.tailoring x.def octets (filter_map (held_sample channels c.slot_now) (places x.def c.slot_now)) again in
              let narrow = valid.0.narrow in
              let most = fit.widths.max_payload.1 in
              omega (arith, size, narrow, most);
        }

-- what follows from two facts on an Ok
pub both-ok : {X E : Type 0} (P Q R : X → Type 0) → ((x : X) → P x → Q x → R x) → (r : Result X E) → IfOk r P → IfOk r Q → IfOk r R
both-ok P Q R f (Ok x) p q = f x p q
both-ok P Q R f (Err fault) p q = tt
