-- What is seen of the machines is what the printed lines say.
use Rattle.dm_law_mirror.proofs.Names.{◌≡◌, ◌≢◌, ◌<◌, ◌≤◌, ◌==◌, ◌&&◌, ◌||◌, ℕ, zero, suc, Bool, not, nat_lt, length, refl, ap, ◌∙◌, sym, inl, inr, arith, eqb_tells, Boot, Point, run_always, WorldState, Placed, History, StandsWith}
use Rattle.dm_law_rule.specs.Quiet.{has_mail}
use Rattle.dm_law_rule.specs.View.{has_seat}
use Rattle.dm_world.specs.Next.{world_serves}
use Rattle.dm_law_mirror.proofs.Giving.{count_given}
use Rattle.dm_law_mirror.proofs.Next.{machines_stay, seen_same}
use Rattle.dm_law_mirror.proofs.Seats.{seat_always, seat_said}
use Rattle.dm_explore.specs.Sights.{any_below}
use Rattle.dm_explore.specs.Sights as world
use Rattle.dm_law_runs.specs.Choices.Laws.{SightsAreSaid}
use Rattle.dm_law_runs.specs.Choices.RuleSight as rule
use Rattle.dm_law_runs.proofs.Choices.ByRule.Lingers.{lingers_said}

any_same : (k n : ℕ) (f g : ℕ → Bool) → k ≤ n → ((c : ℕ) → c < n → f c ≡ g c) → any_below k f ≡ any_below k g
any_same zero n f g within same = refl
any_same (suc k) n f g within same =
    ap (λ (b : Bool). b || f k) (any_same k n f g (omega (arith, within)) same) ∙ ap (λ (b : Bool). any_below k g || b) (same k (omega (arith, within)))

-- a stream to another machine has something out
out_by : (m c : ℕ) (x y : Bool) → (m ≢ c → x ≡ y) → (not (m == c) && x) ≡ (not (m == c) && y)
out_by m c x y same = elim (eqb_tells m c) [
  | inl here ↦ ap (λ (t : Bool). not t && x) here.0 ∙ sym (ap (λ (t : Bool). not t && y) here.0)
  | inr apart ↦ ap (λ (t : Bool). not (m == c) && t) (same apart.1)
]

pair_out : (b : Boot) (w : WorldState) (pt : Point) (l : Placed) (h : History) (m c : ℕ) → StandsWith b w pt l h → m < pt.kernel.machines → c < pt.kernel.machines → world.is_out w m c ≡ rule.is_out pt.view m c
pair_out b w pt l h m c s m_in c_in = out_by m c (nat_lt ((w.nodes m).senders c).acked ((w.nodes m).senders c).gone) (nat_lt (pt.view.pair m c).acked (pt.view.pair m c).gone) (λ apart.
    (let p = s.pairs m c m_in c_in apart in λ i. nat_lt (p.acked i) (p.gone i)))

pub sights_are_said : SightsAreSaid
sights_are_said b es w pt valid leads stands =
    let ((l, h, s), counts) = stands in
    let n = length b.machines in
    let machines = machines_stay b es pt valid leads in
    let seen = seen_same b es w pt valid leads stands in
    record {
      acts = λ m less. ap (λ (t : Bool). t || world_serves w m) (seen.mail m less) ∙ ap (λ (t : Bool). has_mail pt.view m || t) (seen.serves m less);
      waits = λ a c a_in c_in apart.
          (let p = s.pairs a c (omega (arith, a_in, machines)) (omega (arith, c_in, machines)) apart in
          let given = count_given b pt l w h a c p in
          λ i. nat_lt (p.gone i) (given i));
      resends = λ m less. any_same n n (world.is_out w m) (rule.is_out pt.view m) (omega arith) (λ c c_in. pair_out b w pt l h m c s (omega (arith, less, machines)) (omega (arith, c_in, machines)));
      lingers = lingers_said b es w pt valid leads stands;
      seat = seat_said b w pt l h (run_always b es pt valid leads).run (seat_always b es pt valid leads) s (has_seat pt.view) refl;
    }
