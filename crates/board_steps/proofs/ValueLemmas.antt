-- The value of a settable parameter: there is one, and it fits. Samples change neither it nor the structures.
use Rattle.std.proofs.Common.{◌≡◌, ℕ, zero, suc, ◌-◌, ◌≤◌, refl, sym, ◌∙◌, ap, ap₂, subst, List, [], ◌∷◌, length, Bool, true, false, ◌==◌, Option, Some, None, Ok, Err, Result}
use Rattle.std.specs.Prelude.{ℤ, IfSome, IsTrue, is_some, slice_get, option_and_then, option_map, if◌then◌else◌}
use Rattle.std.specs.List.{AllByRecursion, cons_option}
use Rattle.std.specs.Option.{option_or, option_map_or}
use Rattle.std.specs.Result.{result_ok}
use Rattle.std.proofs.lemmas.Option.{same_Some, none-some}
use Rattle.std.proofs.lemmas.Bool.Decides.{Decides-eqb}
use Rattle.hk_base.specs.Fit.{IsFit}
use Rattle.hk_base.specs.TailoringParts.{TailoringParts}
use Rattle.hk_base.specs.Parameters.{parameter, is_settable, fits}
use Rattle.hk_base.specs.declared.types.Key.{Key}
use Rattle.hk_base.specs.declared.types.Param.{Param}
use Rattle.body_fields.specs.Spelling.{AreOctets, IsValueOf}
use Rattle.body_fields.proofs.FitLemmas.{parameter-fit}
use Rattle.st20_grammar.specs.declared.bodies.Setting.{Setting}
use Rattle.pus_messages.specs.Instructions.{Instruction, on_structure, on_statistics, report_values, set_values, instructions, instruction}
use Rattle.pus_messages.specs.Messages.{protocol, request_of}
use Rattle.pus_messages.specs.declared.message.Request.{Request}
use Rattle.pus_messages.specs.declared.message.MessageFault.{MessageFault}
use Rattle.pus_messages.proofs.FoundLemmas.{request-few}
use Rattle.hk_world.specs.Timelines.{Session, tailoring, Done, request_at, done_by, done_at, done_instructions, set_value, filed_value, first_some, structure_after, state_after}
use Rattle.hk_world.specs.declared.moment.Moment.{Moment}
use Rattle.hk_world.specs.declared.moment.Act.{Act}
use Rattle.hk_world.specs.declared.moment.Act.TheVariants.{Accepted, TurnedAway, Started, NotStarted, Executed, Completed, Emitted, Filed}
use Rattle.hk_world.proofs.OrderLemmas.{true_is_not_false}
use Rattle.board_steps.specs.Cores.{Core, session}
use Rattle.board_steps.proofs.GrammarLemmas.{RequestsOnly, SettingsFit, body-some, body-fit}

-- each member, by its place
pub all-at : {X : Type 0} (P : X → Type 0) (xs : List X) (k : ℕ) (x : X) → AllByRecursion P xs → slice_get xs k ≡ Some x → P x
all-at P [] k x h e = cc
all-at P (y ∷ xs) zero x h e = subst P (same_Some y x e) h.0
all-at P (y ∷ xs) (suc k) x h e = all-at P xs k x h.1 e

-- a request of a core is one of the grammar
pub record IsGrammatical (t : TailoringParts) (r : Request) : Type 0 where
  pub some : 1 ≤ length (instructions r)
  pub few : length (instructions r) ≤ 255
  pub fit : AllByRecursion (SettingsFit t) (instructions r)

-- the request in a packet
abbrev pub in_packet : TailoringParts → Option (List ℕ) → Option Request
in_packet t o = option_and_then (λ packet. result_ok ((protocol t).request packet)) o

request-ok : (t : TailoringParts) (packet : List ℕ) (r : Request) → in_packet t (Some packet) ≡ Some r → request_of t packet ≡ Ok r
request-ok t packet r e = go (request_of t packet) refl e
  where
    go : (o : Result Request MessageFault) → request_of t packet ≡ o → in_packet t (Some packet) ≡ Some r → request_of t packet ≡ Ok r
    go (Ok x) f h = let g : Some x ≡ Some r = rw f at h in f ∙ ap Ok (same_Some x r g)
    go (Err fault) f h = absurd (let g : None ≡ Some r = rw f at h in cc)

pub request-grammatical : (c : Core) → RequestsOnly c.tailoring → AllByRecursion AreOctets c.requests → (k : ℕ) (r : Request) → request_at (session c) k ≡ Some r
    → IsGrammatical c.tailoring r
request-grammatical c only octets k r e = go (slice_get c.requests k) refl
  where
    go : (o : Option (List ℕ)) → slice_get c.requests k ≡ o → IsGrammatical c.tailoring r
    go None f = absurd (let g : None ≡ Some r = sym (ap (in_packet c.tailoring) f) ∙ e in cc)
    go (Some packet) f =
        let read : request_of c.tailoring packet ≡ Ok r = request-ok c.tailoring packet r (sym (ap (in_packet c.tailoring) f) ∙ e) in
        let is = only r packet (all-at AreOctets c.requests k packet octets f) read in
        record {
          some = body-some c.tailoring r.body is.message.body;
          few = request-few c.tailoring packet (Ok r) (all-at AreOctets c.requests k packet octets f) only read;
          fit = body-fit c.tailoring r.body is.message.body;
        }

-- what an instruction sets a parameter to fits it
set-fits : (t : TailoringParts) (q : Param) (id : ℕ) (v : ℤ) → parameter t id ≡ Some q → (settings : List Setting) → AllByRecursion (λ x. IsValueOf t x.param x.value) settings
    → set_value id (set_values settings) ≡ Some v → fits q v ≡ true
set-fits t q id v known [] h e = cc
set-fits t q id v known (x ∷ settings) h e = go (x.param == id) refl (set-fits t q id v known settings h.1)
  where
    go : (b : Bool) → (x.param == id) ≡ b → (set_value id (set_values settings) ≡ Some v → fits q v ≡ true) → fits q v ≡ true
    go true f ih =
        let own : Some x.value ≡ Some v = sym (ap (λ b. option_or (if b then Some x.value else None) (set_value id (set_values settings))) f) ∙ e in
        let same : x.param ≡ id = (Decides-eqb x.param id).0 f in
        let there : parameter t x.param ≡ Some q = ap (parameter t) same ∙ known in
        let fit : IfSome (Some q) (λ p. IsTrue (fits p x.value)) = subst (λ (o : Option Param). IfSome o (λ p. IsTrue (fits p x.value))) there h.0 in
        subst (λ w. fits q w ≡ true) (same_Some x.value v own) fit
    go false f ih = ih (sym (ap (λ b. option_or (if b then Some x.value else None) (set_value id (set_values settings))) f) ∙ e)

instruction-fits : (t : TailoringParts) (q : Param) (id : ℕ) (v : ℤ) → parameter t id ≡ Some q → (x : Instruction) → SettingsFit t x → set_value id x ≡ Some v → fits q v ≡ true
instruction-fits t q id v known (set_values settings) h e = set-fits t q id v known settings h e
instruction-fits t q id v known (on_structure key change) h e = cc
instruction-fits t q id v known (on_statistics change) h e = cc
instruction-fits t q id v known (report_values ids) h e = cc

module _ (c : Core) (only : RequestsOnly c.tailoring) (octets : AllByRecursion AreOctets c.requests) where
  -- an instruction that was done is of the grammar
  done-fits : (tag : ℕ) (act : Act) (d : Done) → done_by (session c) tag act ≡ Some d → SettingsFit c.tailoring d.instruction
  done-fits tag (Executed k number true) d e = by_request (request_at (session c) k) refl
    where
      by_instruction : (r : Request) → request_at (session c) k ≡ Some r → (o : Option Instruction) → instruction r number ≡ o → SettingsFit c.tailoring d.instruction
      by_instruction r f None g =
          let none : None ≡ Some d = sym (ap (λ o. option_map (λ x. record { tag = tag; request = k; instruction = x }) (option_and_then (λ r. instruction r number) o)) f ∙ ap (λ o. option_map (λ x. record { tag = tag; request = k; instruction = x }) o) g) ∙ e in
          absurd (none-some d none)
      by_instruction r f (Some x) g =
          let some : Some (record { tag = tag; request = k; instruction = x }) ≡ Some d = sym (ap (λ o. option_map (λ x. record { tag = tag; request = k; instruction = x }) (option_and_then (λ r. instruction r number) o)) f ∙ ap (λ o. option_map (λ x. record { tag = tag; request = k; instruction = x }) o) g) ∙ e in
          let same : x ≡ d.instruction = ap (λ (y : Done). y.instruction) (same_Some (record { tag = tag; request = k; instruction = x }) d some) in
          subst (SettingsFit c.tailoring) same (all-at (SettingsFit c.tailoring) (instructions r) (number - 1) x (request-grammatical c only octets k r f).fit g)

      by_request : (o : Option Request) → request_at (session c) k ≡ o → SettingsFit c.tailoring d.instruction
      by_request None f =
          let none : None ≡ Some d = sym (ap (λ o. option_map (λ x. record { tag = tag; request = k; instruction = x }) (option_and_then (λ r. instruction r number) o)) f) ∙ e in
          absurd (none-some d none)
      by_request (Some r) f = by_instruction r f (instruction r number) refl
  done-fits tag (Executed k number false) d e = absurd (none-some d e)
  done-fits tag (Accepted k) d e = absurd (none-some d e)
  done-fits tag (TurnedAway k) d e = absurd (none-some d e)
  done-fits tag (Started k) d e = absurd (none-some d e)
  done-fits tag (NotStarted k) d e = absurd (none-some d e)
  done-fits tag (Completed k refused) d e = absurd (none-some d e)
  done-fits tag Emitted d e = absurd (none-some d e)
  done-fits tag (Filed param slot value) d e = absurd (none-some d e)

  -- the last value that a parameter was set to fits it
  last-set-fits : (q : Param) (id : ℕ) (v : ℤ) → parameter c.tailoring id ≡ Some q → (moments : List Moment)
      → first_some (λ d. set_value id d.instruction) (done_instructions (session c) moments) ≡ Some v → fits q v ≡ true
  last-set-fits q id v known [] e = absurd (none-some v e)
  last-set-fits q id v known (m ∷ earlier) e = by_done (done_at (session c) m) refl (last-set-fits q id v known earlier)
    where
      older : Option ℤ
      older = first_some (λ d. set_value id d.instruction) (done_instructions (session c) earlier)

      by_value : (d : Done) → done_at (session c) m ≡ Some d → (o : Option ℤ) → set_value id d.instruction ≡ o → option_or o older ≡ Some v
          → (older ≡ Some v → fits q v ≡ true) → fits q v ≡ true
      by_value d f (Some w) g h ih = instruction-fits c.tailoring q id v known d.instruction (done-fits m.tag m.act d f) (g ∙ h)
      by_value d f None g h ih = ih h

      by_done : (o : Option Done) → done_at (session c) m ≡ o → (older ≡ Some v → fits q v ≡ true) → fits q v ≡ true
      by_done None f ih = ih (sym (ap (λ o. first_some (λ d. set_value id d.instruction) (cons_option o (done_instructions (session c) earlier))) f) ∙ e)
      by_done (Some d) f ih =
          by_value d f (set_value id d.instruction) refl
          (sym (ap (λ o. first_some (λ d. set_value id d.instruction) (cons_option o (done_instructions (session c) earlier))) f) ∙ e) ih

  -- the value of a settable parameter: the one that was set last, or the initial one
  value-by : (q : Param) (id : ℕ) → parameter c.tailoring id ≡ Some q → is_settable q ≡ true → (moments : List Moment)
      → (state_after (session c) moments).value id ≡ option_or (first_some (λ d. set_value id d.instruction) (done_instructions (session c) moments)) q.initial
  value-by q id known set moments =
      let last : Option ℤ = first_some (λ d. set_value id d.instruction) (done_instructions (session c) moments) in
      let filed : Option ℤ = first_some (λ m. filed_value id m.act) moments in
      ap (λ o. option_or (if option_map_or is_settable o false then last else filed) (option_and_then (λ p. p.initial) o)) known
      ∙ ap (λ b. option_or (if b then last else filed) q.initial) set

  pub settable-value : (fit : IsFit c.tailoring) (q : Param) (id : ℕ) → parameter c.tailoring id ≡ Some q → is_settable q ≡ true → (moments : List Moment)
      → (v : ℤ) × ((state_after (session c) moments).value id ≡ Some v) × (fits q v ≡ true)
  settable-value fit q id known set moments = by_last (first_some (λ d. set_value id d.instruction) (done_instructions (session c) moments)) refl
    where
      by_initial : (o : Option ℤ) → q.initial ≡ o → first_some (λ d. set_value id d.instruction) (done_instructions (session c) moments) ≡ None
          → (v : ℤ) × ((state_after (session c) moments).value id ≡ Some v) × (fits q v ≡ true)
      by_initial None e f = absurd (true_is_not_false (sym set ∙ ap is_some e))
      by_initial (Some v) e f =
          let is : IfSome (Some v) (λ w. IsTrue (fits q w)) = subst (λ (o : Option ℤ). IfSome o (λ w. IsTrue (fits q w))) e (parameter-fit c.tailoring id q fit known).0.initial in
          (v, value-by q id known set moments ∙ ap₂ option_or f e, is)

      by_last : (o : Option ℤ) → first_some (λ d. set_value id d.instruction) (done_instructions (session c) moments) ≡ o
          → (v : ℤ) × ((state_after (session c) moments).value id ≡ Some v) × (fits q v ≡ true)
      by_last None f = by_initial q.initial refl f
      by_last (Some v) f = (v, value-by q id known set moments ∙ ap (λ o. option_or o q.initial) f, last-set-fits q id v known moments f)

  -- a moment that does nothing leaves the value of a settable parameter
  pub still-set : (q : Param) (id : ℕ) → parameter c.tailoring id ≡ Some q → is_settable q ≡ true → (m : Moment) (earlier : List Moment) → done_at (session c) m ≡ None
      → (state_after (session c) (m ∷ earlier)).value id ≡ (state_after (session c) earlier).value id
  still-set q id known set m earlier e =
      value-by q id known set (m ∷ earlier)
      ∙ ap (λ o. option_or (first_some (λ d. set_value id d.instruction) (cons_option o (done_instructions (session c) earlier))) q.initial) e
      ∙ sym (value-by q id known set earlier)

-- a moment that does nothing leaves the structures
pub still-structure : (s : Session) (m : Moment) (earlier : List Moment) (key : Key) → done_at s m ≡ None
    → (state_after s (m ∷ earlier)).structure key ≡ (state_after s earlier).structure key
still-structure s m earlier key e = ap (λ o. structure_after (tailoring s) s.initial (cons_option o (done_instructions s earlier)) key) e
