-- A world in which the board reports a sample, and the value that is true in it.
use Rattle.std.proofs.Common.{◌≢◌, refl, [], ◌∷◌, Bool, true, false, Some, None, pos, ℕ, List, lit<, lit≤, cond}
use Rattle.std.specs.Prelude.{IfSome, option_map}
use Rattle.std.specs.List.{IsDistinct}
use Rattle.hk_base.specs.Builtin.{builtin_widths, boot}
use Rattle.hk_base.specs.Parameters.{key_eq}
use Rattle.hk_base.specs.Fit.{IsFit, IsFitWidths}
use Rattle.hk_base.specs.Payload.{IsValid}
use Rattle.hk_base.specs.declared.types.Kind.TheVariants.{Housekeeping}
use Rattle.hk_base.specs.declared.types.Key.{Key}
use Rattle.hk_base.specs.declared.types.Definition.{Definition}
use Rattle.pus_packet.specs.declared.header.TmHeader.{TmHeader}
use Rattle.st03_grammar.specs.Instructions.{key_of}
use Rattle.st03_grammar.specs.declared.bodies.Report03.TheVariants as hk
use Rattle.pus_messages.specs.declared.message.ReportBody.{ReportBody}
use Rattle.pus_messages.specs.declared.message.ReportBody.TheVariants.{Hk}
use Rattle.hk_world.specs.Worlds.{IsWorld, IsSession, MayHappen, IsTrueValue}
use Rattle.hk_world.specs.Undisturbed.{IsUndisturbed}
use Rattle.hk_world.specs.Examples.{setpoint, small, session_with, filed, first_report, reporting_world}

abbrev every_slot : Definition
every_slot = record { interval = 1; simple = 7 ∷ []; arrays = [] }

valid : IsValid small every_slot
valid =
    record {
      formed = record { interval = (lit≤ tt, lit≤ tt); some = lit≤ tt; known = (refl, tt); once = refl; simple = lit≤ tt; few_arrays = lit≤ tt; arrays = tt };
      narrow = lit≤ tt;
    }

sample_may : MayHappen (session_with []) [] (filed 4096 0)
sample_may =
    record {
      tag = record { low = lit≤ tt; high = lit≤ tt; above = tt };
      handling = tt;
      order = tt;
      outcome = tt;
      sample = (setpoint, record { known = refl; fit = refl; once = tt; settable = λ _ _. refl });
      packet = refl;
    }

-- the headers of a report
abbrev pub header : ℕ → ℕ → ℕ → TmHeader
header service subtype tag = record { apid = 100; count = 0; status = 0; service = service; subtype = subtype; counter = 0; destination = 1; tag = tag }

-- the body of a report of the one value
abbrev pub body : ReportBody
body = Hk (hk.Values (key_of Housekeeping 1) (0 ∷ 100 ∷ []))

report_may : MayHappen (session_with []) (filed 4096 0 ∷ []) first_report
report_may =
    record {
      tag = record { low = lit≤ tt; high = lit≤ tt; above = (lit< tt, tt) };
      handling = tt;
      order = tt;
      outcome = tt;
      sample = tt;
      packet = (
        body,
        (header 3 25 4097, refl, refl),
        record {
          structure = record { def = every_slot; enabled = true };
          values = pos 100 ∷ [];
          is_there = refl;
          interval = lit≤ tt;
          samples = ((0, filed 4096 0, refl, refl), tt);
          payload_is = record { fit = (refl, tt); bits = refl };
        },
      );
    }

fit_widths : IsFitWidths builtin_widths
fit_widths =
    record {
      apid = lit≤ tt;
      address = lit< tt;
      coarse = (lit≤ tt, lit≤ tt);
      fine = lit≤ tt;
      slot = (lit≤ tt, lit≤ tt);
      structure_octets = (lit≤ tt, lit≤ tt);
      parameter_octets = (lit≤ tt, lit≤ tt);
      interval_octets = (lit≤ tt, lit≤ tt);
      count_octets = (lit≤ tt, lit≤ tt);
      repetition_octets = (lit≤ tt, lit≤ tt);
      step_octets = (lit≤ tt, lit≤ tt);
      mean_fraction = lit≤ tt;
      max_interval = ((lit≤ tt, lit≤ tt), lit< tt);
      max_payload = (lit≤ tt, lit≤ tt);
    }

fit : IsFit small
unfolding IsDistinct
fit =
    record {
      widths = fit_widths;
      count = (lit≤ tt, lit≤ tt);
      params = (record { id = lit< tt; shape = record { bits = (lit≤ tt, lit≤ tt); octets = refl; form = tt }; whole = refl; initial = refl }, tt);
      ids = (tt, tt);
      boot_count = lit≤ tt;
      boots = (record { id = lit< tt; valid = valid }, tt);
      keys = (tt, tt);
    }

-- a session may begin so, whatever is sent in it
pub is_session : (requests : List (List ℕ)) → IsSession (session_with requests)
is_session requests = record { fit = fit; valid = valid_at; booted = λ _. refl }
  where
    go : (b : Bool) → IfSome (option_map (λ x. x.structure) (cond b (Some (boot Housekeeping 1 1 true (7 ∷ []) [])) None)) (λ s. IsValid small s.def)
    go true = valid
    go false = tt

    valid_at : (key : Key) → IfSome ((session_with requests).initial.structure key) (λ s. IsValid small s.def)
    valid_at key = go (key_eq (key_of Housekeeping 1) key)

has_packet : first_report.packet ≢ []
has_packet e = cc

pub reporting : IsWorld reporting_world
reporting =
    record {
      session = is_session [];
      steps = (((0, refl), has_packet), ((tt, report_may), ((tt, sample_may), tt)));
    }

-- nothing is sent in it, and the report comes once
pub reporting_alone : IsUndisturbed reporting_world
reporting_alone =
    record {
      known = refl;
      short = refl;
      steps = (tt, ((1, 0 ∷ 100 ∷ [], (header 3 25 4097, refl, refl)), (tt, tt)));
      order = (tt, tt);
    }

-- the value 100 is the sample of parameter 7 at slot 0
pub reported_value : IsTrueValue reporting_world (key_of Housekeeping 1) 4097 1 0 7 0 (pos 100)
reported_value =
    record {
      payload = 0 ∷ 100 ∷ [];
      structure = record { def = every_slot; enabled = true };
      reported = (0, first_report, refl, refl, (header 3 25 4097, refl, refl));
      in_force = refl;
      interval_is = refl;
      place = refl;
      sample = (1, filed 4096 0, refl, refl);
    }
