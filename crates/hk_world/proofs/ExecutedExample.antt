-- A world in which a request changes the interval of a structure, and the value that is true under the new one.
use Rattle.std.proofs.Common.{arith, ◌≡◌, ◌≢◌, ℕ, ◌<◌, refl, List, [], ◌∷◌, true, pos, lit<, lit≤, subst, inr}
use Rattle.std.specs.Prelude.{IsNone}
use Rattle.hk_base.specs.declared.types.Kind.TheVariants.{Housekeeping}
use Rattle.hk_base.specs.declared.types.Definition.{Definition}
use Rattle.st03_grammar.specs.Instructions.{key_of, set_interval}
use Rattle.pus_messages.specs.Instructions.{Instruction, on_structure}
use Rattle.hk_world.specs.States.{refusal}
use Rattle.hk_world.specs.Timelines.{Session, state_after, instructions_at}
use Rattle.hk_world.specs.Worlds.{IsWorld, IsRequest, MayHappen, IsTrueValue}
use Rattle.hk_world.specs.Examples.{setpoint, small, session_with, filed, every_second_slot, accepted, started, executed, completed, second_report, commanded_world}
use Rattle.hk_world.specs.declared.moment.Moment.{Moment}
use Rattle.hk_world.proofs.Example.{header, body, is_session}

abbrev session : Session
session = session_with (every_second_slot ∷ [])

abbrev every_other : Definition
every_other = record { interval = 2; simple = 7 ∷ []; arrays = [] }

none_below : {A : Type 0} (j : ℕ) → j < 0 → A
none_below j lt = absurd (omega (arith, lt))

is_request : IsRequest session 0
is_request =
    record {
      packet = every_second_slot;
      header = record { apid = 100; count = 0; flags = 8; service = 3; subtype = 31; source = 1 };
      listed = refl;
      command = refl;
      apid = refl;
      source = refl;
      count = refl;
    }

accepted_may : MayHappen session [] accepted
accepted_may =
    record {
      tag = record { low = lit≤ tt; high = lit≤ tt; above = tt };
      handling = (tt, refl);
      order = record { order = tt; turn = λ b j lt. none_below j lt };
      outcome = tt;
      sample = tt;
      packet = refl;
    }

started_may : MayHappen session (accepted ∷ []) started
started_may =
    record {
      tag = record { low = lit≤ tt; high = lit≤ tt; above = (lit< tt, tt) };
      handling = tt;
      order = record { order = tt; turn = λ b j lt. none_below j lt };
      outcome = stands;
      sample = tt;
      packet = refl;
    }
  where
    stands : (x : Instruction) → instructions_at session 0 ≡ x ∷ [] → IsNone (refusal small (state_after session (accepted ∷ [])) x)
    stands x e =
        let same : on_structure (key_of Housekeeping 1) (set_interval 2) ≡ x = cc in
        subst (λ y. IsNone (refusal small (state_after session (accepted ∷ [])) y)) same refl

executed_may : MayHappen session (started ∷ accepted ∷ []) executed
executed_may =
    record {
      tag = record { low = lit≤ tt; high = lit≤ tt; above = (lit< tt, (lit< tt, tt)) };
      handling = tt;
      order = record { order = (refl, lit≤ tt); turn = λ b j lt. none_below j lt };
      outcome = (on_structure (key_of Housekeeping 1) (set_interval 2), refl, refl);
      sample = tt;
      packet = refl;
    }

abbrev until_executed : List Moment
until_executed = executed ∷ started ∷ accepted ∷ []

completed_may : MayHappen session until_executed completed
completed_may =
    record {
      tag = record { low = lit≤ tt; high = lit≤ tt; above = (lit< tt, (lit< tt, (lit< tt, tt))) };
      handling = tt;
      order = record { order = refl; turn = λ b j lt. none_below j lt };
      outcome = refl;
      sample = tt;
      packet = (header 1 7 4099, refl, refl);
    }

sample_may : MayHappen session (completed ∷ until_executed) (filed 8192 1)
sample_may =
    record {
      tag = record { low = lit≤ tt; high = lit≤ tt; above = (lit< tt, (lit< tt, (lit< tt, (lit< tt, tt)))) };
      handling = tt;
      order = tt;
      outcome = tt;
      sample = (setpoint, record { known = refl; fit = refl; once = (refl, (refl, (refl, (refl, tt)))); settable = λ _ _. refl });
      packet = refl;
    }

report_may : MayHappen session (filed 8192 1 ∷ completed ∷ until_executed) second_report
report_may =
    record {
      tag = record { low = lit≤ tt; high = lit≤ tt; above = (lit< tt, (lit< tt, (lit< tt, (lit< tt, (lit< tt, tt))))) };
      handling = tt;
      order = tt;
      outcome = tt;
      sample = tt;
      packet = (
        body,
        (header 3 25 8193, refl, refl),
        record {
          structure = record { def = every_other; enabled = true };
          values = pos 100 ∷ [];
          is_there = refl;
          interval = lit≤ tt;
          samples = ((0, filed 8192 1, refl, refl), tt);
          payload_is = record { fit = (refl, tt); bits = refl };
        },
      );
    }

completion_told : completed.packet ≢ []
completion_told e = cc

report_told : second_report.packet ≢ []
report_told e = cc

pub commanded : IsWorld commanded_world
commanded =
    record {
      session = is_session (every_second_slot ∷ []);
      steps = (
        ((0, refl), report_told),
        (
          (tt, report_may),
          (
            (tt, sample_may),
            (((0, refl), completion_told), ((tt, completed_may), ((tt, executed_may), ((tt, started_may), ((lit< tt, accepted_may), ((is_request, inr (refl, tt)), tt)))))),
          ),
        ),
      );
    }

-- the value 100 is the sample of parameter 7 at slot 1, under the interval that was set
pub commanded_value : IsTrueValue commanded_world (key_of Housekeeping 1) 8193 2 0 7 1 (pos 100)
commanded_value =
    record {
      payload = 0 ∷ 100 ∷ [];
      structure = record { def = every_other; enabled = true };
      reported = (0, second_report, refl, refl, (header 3 25 8193, refl, refl));
      in_force = refl;
      interval_is = refl;
      place = refl;
      sample = (1, filed 8192 1, refl, refl);
    }
