-- Whether anything is on its way, and whether a machine has mail, is what the printed lines say.
use Rattle.dm_law_mirror.proofs.Names.{◌≡◌, ◌≢◌, ℕ, suc, ◌<◌, ◌==◌, ◌&&◌, Bool, true, false, not, List, length, refl, ap, ◌∙◌, sym, subst, arith, ◌||◌, nat_tests, length-map, Boot, IsValid, Step, all_below, all_same, Leads, HomeStands, Point}
use Rattle.dm_law_mirror.proofs.Names.{first_point, has_mail, is_quiet, pair_is_quiet, Pair, pairs_stand_always, passes_quiet, quiet_passes, Placed, WorldState, MailIsSaid, QuietIsSaid, History, PairStands, Stands, StandsWith, is_some}
use Rattle.dm_law_mirror.proofs.Names.{serves_some, based_always}
use Rattle.dm_world.specs.Next as world
use Rattle.dm_law_mirror.proofs.Machines.{machines_are}
use Rattle.dm_law_mirror.proofs.Serve.Runs.{first_runs}

pub mail_same : (b : Boot) (w : WorldState) (pt : Point) (l : Placed) (h : History) (m : ℕ) → m < pt.kernel.machines → StandsWith b w pt l h → world.world_has_mail w m ≡ has_mail pt.view m
mail_same b w pt l h m small s = grind (arith, nat_tests, length-map)

pub serves_same : (b : Boot) (es : List Step) (w : WorldState) (pt : Point) (l : Placed) (h : History) (m : ℕ) → IsValid b → Leads b (first_point b) es pt → m < pt.kernel.machines → StandsWith b w pt l h → world.world_serves w m ≡ serves_some pt m
serves_same b es w pt l h m valid leads small s =
    ap is_some (sym (first_runs b pt l m (w.nodes m).kernel (s.nodes m small).kernel s.mirrors.plain (λ i n there. (s.mirrors.places.message i n there).id) (based_always b es pt valid leads).known))

heard_same : (b : Boot) (w : WorldState) (pt : Point) (l : Placed) (h : History) (a c : ℕ) (same : Bool) → (a == c) ≡ same → (same ≡ true → HomeStands (pt.view.pair a c)) → (same ≡ false → PairStands b pt l w h a c)
    → (same || (length ((w.nodes a).senders c).unacked == 0)) ≡ pair_is_quiet same (pt.view.pair a c)
heard_same b w pt l h a c same e home apart = grind (arith, nat_tests, length-map)

pub not_same : (a c : ℕ) → (a == c) ≡ false → a ≢ c
not_same a c e = grind (arith, nat_tests)

pub quiet_same : (b : Boot) (es : List Step) (w : WorldState) (pt : Point) → IsValid b → Leads b (first_point b) es pt → Stands b w pt → world.world_is_quiet (length b.machines) w ≡ is_quiet (length b.machines) pt.view
quiet_same b es w pt valid leads ((l, h, s), counts) =
    let is_home : (v : ℕ → ℕ → Pair) (a c : ℕ) → (a == c) ≡ true → HomeStands (v a a) → HomeStands (v a c) = λ v a c e h. let same : a ≡ c = grind (arith, nat_tests) in subst (λ (k : ℕ). HomeStands (v a k)) same h in
    let n = length b.machines in
    let machines = machines_are b es pt leads in
    let home = λ (a : ℕ). (pairs_stand_always b es pt a (suc a) leads (λ same. absurd (let f : a < a = omega (arith, same) in omega (arith, f)))).1 in
    all_same n (λ a. not (world.world_has_mail w a) && all_below n (world.all_heard w a)) (λ a. not (has_mail pt.view a) && all_below n (λ c. pair_is_quiet (a == c) (pt.view.pair a c)))
    (λ a small.
    ap (λ (t : Bool). not t && all_below n (world.all_heard w a)) (mail_same b w pt l h a (omega (arith, small, machines)) s)
    ∙ ap (λ (t : Bool). not (has_mail pt.view a) && t) (all_same n (world.all_heard w a) (λ c. pair_is_quiet (a == c) (pt.view.pair a c))
    (λ c also. heard_same b w pt l h a c (a == c) refl (λ same. is_home pt.view.pair a c same (home a))
    (λ apart. s.pairs a c (omega (arith, small, machines)) (omega (arith, also, machines)) (not_same a c apart)))))

pub quiet_is_said : QuietIsSaid
quiet_is_said b es w pt valid leads stands =
    let n = length b.machines in
    let same = quiet_same b es w pt valid leads stands ∙ ap (λ (m : ℕ). is_quiet m pt.view) (sym (machines_are b es pt leads)) in
    (λ e. passes_quiet pt.kernel.machines pt.view (sym same ∙ e), λ q. same ∙ quiet_passes pt.kernel.machines pt.view q)

pub mail_is_said : MailIsSaid
mail_is_said b es w pt m valid leads ((l, h, s), counts) small = mail_same b w pt l h m (let machines = machines_are b es pt leads in omega (arith, small, machines)) s
