-- A board that has done nothing: what it holds is what no moments say.
use Rattle.std.proofs.Common.{arith, ◌≡◌, ℕ, zero, suc, ◌≤◌, ◌-◌, refl, sym, ◌∙◌, ap, subst, ℤ, List, [], ◌∷◌, map, drop, cond, Bool, true, false, ◌==◌, Option, Some, None}
use Rattle.std.specs.Prelude.{nat_eq, find, if◌then◌else◌}
use Rattle.std.specs.List.{AllByRecursion, IsDistinct}
use Rattle.std.specs.Option.{option_map_or, option_or, option_and_then}
use Rattle.std.proofs.lemmas.Bool.Decides.{Decides-eqb}
use Rattle.hk_base.specs.Fit.{IsFit}
use Rattle.hk_base.specs.Parameters.{parameter, is_settable}
use Rattle.hk_base.specs.TailoringParts.{TailoringParts}
use Rattle.hk_base.specs.declared.types.Key.{Key}
use Rattle.hk_base.specs.declared.types.Param.{Param}
use Rattle.body_fields.proofs.FitLemmas.{count_in_octets}
use Rattle.hk_world.proofs.OrderLemmas.{true_is_not_false}
use Rattle.board_steps.specs.Cores.{Core, session, new_core}
use Rattle.board_steps.specs.Timeline.{Stands}
use Rattle.board_steps.proofs.RunLemmas.{new-stands}
use Rattle.sample_slots.specs.declared.window.Window.{Window}
use Rattle.board_state.specs.Holdings.{AreStructures, one_shots_of}
use Rattle.board_state.specs.Statistics.{StatisticsHeld}
use Rattle.board_state.specs.Values.{IsChannel, new_channel, new_channels}
use Rattle.board_state.specs.Waiting.{AreWaiting}
use Rattle.board_state.specs.declared.channels.Channel.{Channel}
use Rattle.board_state.specs.declared.structures.Held.{Held}
use Rattle.board_core.specs.Boards.{core_of, IsWhole}

-- what no moments leave of the statistics
abbrev pub new_statistics : StatisticsHeld
new_statistics = record { members = []; enabled = false; interval = 1; first_slot = 0; start = 0 }

-- a board of some structures that has done nothing
abbrev pub at_boot : TailoringParts → List (Key × Held) → Core
at_boot t held = core_of 0 0 (record { packets = []; waiting = [] }) held (record { tailoring = t; moments = [] })

-- a window with some samples
abbrev window_of : ℕ → List (ℕ × ℤ) → Window
window_of n samples = record { items = samples; capacity = n }

none-kept : (n : ℕ) → ◌≡◌ {A = List (ℕ × ℤ)} (drop n []) []
none-kept zero = refl
none-kept (suc n) = refl

-- the values and windows of parameters that stand behind others
behind : (t : TailoringParts) (held : List (Key × Held)) (ps : List Param) → AllByRecursion (λ (p : Param). parameter t p.id ≡ Some p) ps
    → AllByRecursion (λ e. IsChannel (session (at_boot t held)) [] e.0 e.1) (map (new_channel t) ps)
behind t held [] h = tt
behind t held (p ∷ ps) h = (
  record {
    settable = sym (ap (λ o. option_map_or is_settable o false) h.0);
    value = sym (none-last (option_map_or is_settable (parameter t p.id) false) (option_and_then (λ (q : Param). q.initial) (parameter t p.id)) ∙ ap (option_and_then (λ (q : Param). q.initial)) h.0);
    window = ap (window_of t.widths.max_interval) (sym (none-kept (0 - t.widths.max_interval)));
    rises = tt;
  },
  behind t held ps h.1,
)
  where
    none-last : (b : Bool) (o : Option ℤ) → option_or (if b then None else None) o ≡ o
    none-last true o = refl
    none-last false o = refl

-- each parameter is found under its ID
found-all : (ps : List Param) → IsDistinct nat_eq (map (λ (q : Param). q.id) ps) → AllByRecursion (λ (p : Param). find (λ (q : Param). q.id == p.id) ps ≡ Some p) ps
unfolding IsDistinct
found-all [] d = tt
found-all (p ∷ ps) d = (ap (λ b. cond b (Some p) (find (λ (q : Param). q.id == p.id) ps)) (own p.id), later ps d.0 (found-all ps d.1))
  where
    own : (n : ℕ) → (n == n) ≡ true
    own n = (Decides-eqb n n).1 refl

    step : (q : Param) → nat_eq p.id q.id ≡ false → find (λ (x : Param). x.id == q.id) ps ≡ Some q → find (λ (x : Param). x.id == q.id) (p ∷ ps) ≡ Some q
    step q apart found = ap (λ b. cond b (Some p) (find (λ (x : Param). x.id == q.id) ps)) apart ∙ found

    later : (qs : List Param) → AllByRecursion (λ k. nat_eq p.id k ≡ false) (map (λ (q : Param). q.id) qs)
        → AllByRecursion (λ (q : Param). find (λ (x : Param). x.id == q.id) ps ≡ Some q) qs → AllByRecursion (λ (q : Param). find (λ (x : Param). x.id == q.id) (p ∷ ps) ≡ Some q) qs
    later [] apart found = tt
    later (q ∷ qs) apart found = (step q apart.0 found.0, later qs apart.1 found.1)

ids-same : (t : TailoringParts) (ps : List Param) → map (λ (e : ℕ × Channel). e.0) (map (new_channel t) ps) ≡ map (λ (p : Param). p.id) ps
ids-same t [] = refl
ids-same t (p ∷ ps) = ap (λ ids. p.id ∷ ids) (ids-same t ps)

-- no request waits
none-waiting : (t : TailoringParts) (held : List (Key × Held)) → AreWaiting (session (at_boot t held)) [] []
none-waiting t held = record { each = tt; order = tt; all = λ k pending. absurd (true_is_not_false (sym pending)) }

-- what is known of a core at boot, of the core that was made
pub at-boot-is : (t : TailoringParts) (held : List (Key × Held)) → one_shots_of held ≡ [] → at_boot t held ≡ new_core t
at-boot-is t held none = ap (λ shots. record { tailoring = t; clock = 0; slot_now = 0; one_shots = shots; requests = []; moments = [] }) none

pub new-whole : (t : TailoringParts) (held : List (Key × Held)) → IsFit t → AreStructures t [] held → one_shots_of held ≡ []
    → IsWhole (at_boot t held) [] held (new_channels t) new_statistics
new-whole t held fit structures none =
    let least : 1 ≤ t.widths.max_interval = fit.widths.max_interval.0.0 in
    let most = fit.widths.max_interval.1 in
    record {
      board = record {
        stands = subst Stands (sym (at-boot-is t held none)) (new-stands t);
        waits = none-waiting t held;
        room = omega arith;
      };
      structures = structures;
      values = record { ids = ids-same t t.params; each = behind t held t.params (found-all t.params fit.ids) };
      statistics = record {
        members = tt;
        enabled = refl;
        interval = refl;
        start = refl;
        first_slot = refl;
        ids = record { count = (omega arith, omega arith, count_in_octets t 0 fit (omega arith)); stand = tt };
        span = ((omega arith, least), omega (arith, least, most));
      };
      settled = refl;
    }
