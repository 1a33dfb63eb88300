-- What is seen of the machines, as the printed lines say.
use Rattle.std.specs.Prelude.{◌≡◌, ◌≢◌, ℕ, ◌<◌, Bool, true, false, not, ◌==◌, ◌&&◌, ◌||◌, nat_lt, if◌then◌else◌, length}
use Rattle.std.specs.Option.{option_map_or}
use Rattle.std.specs.declared.option.Option.TheVariants.{None, Some}
use Rattle.dm_link.specs.declared.Pid.{Pid}
use Rattle.dm_onekernel.specs.PlainProcess.{PlainProcess, PlainStatus}
use Rattle.dm_onekernel.specs.PlainProcess as plain
use Rattle.dm_onekernel.specs.Step.{alive}
use Rattle.dm_law_rule.specs.Point.{Point}
use Rattle.dm_law_rule.specs.Quiet.{has_mail}
use Rattle.dm_law_rule.specs.Rest.{serves_some}
use Rattle.dm_law_rule.specs.View.{View, has_seat, is_here}
use Rattle.dm_explore.specs.Sights.{Sight, any_below}

abbrev pub waits_or_moves : PlainStatus → Bool
waits_or_moves plain.Ready = false
waits_or_moves (plain.Waiting mask base cap) = true
waits_or_moves (plain.Moving dir owner base own left pending) = true

abbrev pub is_lingering : PlainProcess → Bool
is_lingering x = waits_or_moves x.status && not x.stopped

abbrev pub rule_acts : Point → ℕ → Bool
rule_acts pt m = has_mail pt.view m || serves_some pt m

abbrev pub rule_waits : View → ℕ → ℕ → Bool
rule_waits v a c = nat_lt (v.pair a c).gone (length (v.pair a c).ids)

abbrev pub is_out : View → ℕ → ℕ → Bool
is_out v m c = not (m == c) && nat_lt (v.pair m c).acked (v.pair m c).gone

-- the process is here, waits or moves data, and isn't stopped
abbrev pub lingers_on : Point → Pid → ℕ → Bool
lingers_on pt p m = is_here (pt.view.known m p) && option_map_or is_lingering (alive (pt.kernel.processes p)) false

abbrev pub rule_sight : ℕ → Point → Sight
rule_sight n pt = record {
  acts = rule_acts pt;
  waits = rule_waits pt.view;
  resends = λ m. any_below n (is_out pt.view m);
  seat = if has_seat pt.view then Some pt.view.seat else None;
  lingers = λ p. any_below n (lingers_on pt p);
}

-- two sights of so many machines are the same, wherever choices and rest go by them; of the stream of a machine to itself they ask nothing
pub record SeesSame (n : ℕ) (s t : Sight) : Type 0 where
  pub acts : (m : ℕ) → m < n → s.acts m ≡ t.acts m
  pub waits : (a c : ℕ) → a < n → c < n → a ≢ c → s.waits a c ≡ t.waits a c
  pub resends : (m : ℕ) → m < n → s.resends m ≡ t.resends m
  pub seat : s.seat ≡ t.seat
  pub lingers : (p : Pid) → s.lingers p ≡ t.lingers p
