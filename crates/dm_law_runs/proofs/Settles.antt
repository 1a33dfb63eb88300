-- From wherever a run stands a settle comes to its end, and what is behind it follows.
use Rattle.dm_law_runs.proofs.Names.{◌≡◌, ℕ, Bool, true, false, List, [], ◌∷◌, length, refl, ap, ◌∙◌, sym, subst, inl, inr, if◌then◌else◌, All, Option, None, Some, cases_Bool, false≢true, All-nil, Boot, IsValid, Directive, Settle, Next}
use Rattle.dm_law_runs.proofs.Names.{Todo, next_pass, or, IsKept, next_step, undelivered, IsStep, Spelled, Point, has_mail, is_quiet, group_of, stands_once_always, passes_quiet, quiet_passes, IsDirective, IsTodo, IsTwo, IsBelow, next_fits}
use Rattle.dm_law_runs.proofs.Names.{IsLess, Left, left, IsSettleStep, left_falls, Falls, by_left, settles_always}
use Rattle.dm_law_rule.specs.Good.{seen_at}
use Rattle.dm_law_runs.proofs.Runs.{From, Stood, between, follows, goes, same, same_by}
pub use Rattle.dm_law_moves.proofs.Settles.RestHas.{none_if}

-- a settle, wherever it stands, with these directives behind it
record IsSettle (b : Boot) (ds : List Directive) (t : Todo) : Type 0 where
  fits : IsTodo (length b.machines) t
  pass : t.pass ≡ Settle
  behind : t.directives ≡ ds

-- from there a run comes to its end, whatever is left to do
abbrev Comes : Boot → List Directive → Left → Type 0
Comes b ds x = (pt : Point) (t : Todo) → Stood b pt → IsSettle b ds t → left b.numbers pt.kernel.machines pt.view ≡ x → From b pt t

abbrev pub Rest : Boot → List Directive → Type 0
Rest b ds = (q : Point) → Stood b q → From b q (between 0 ds)

-- where all is quiet, what is behind it follows
pub goes_behind : (b : Boot) (ds : List Directive) (pt : Point) (t : Todo) → Rest b ds → Stood b pt → t.directives ≡ ds → next_step pt.kernel.machines pt t ≡ next_step pt.kernel.machines pt (between 0 t.directives) → From b pt t
goes_behind b ds pt t rest s behind e =
    let f = rest pt s in
    same_by b pt f.end t (between 0 ds) f.left f.groups (e ∙ ap (λ (xs : List Directive). next_step pt.kernel.machines pt (between 0 xs)) behind) f.run f.ended

-- where something is on its way, the group that follows leaves less
group_less : (b : Boot) (pt : Point) (n : Next) (w : Spelled) → IsValid b → Stood b pt → Stood b w.point → IsStep (length b.machines) n.step → IsSettleStep pt.view n.step → group_of b pt n.step ≡ Some w
    → IsLess (left b.numbers w.point.kernel.machines w.point.view) (left b.numbers pt.kernel.machines pt.view)
group_less b pt n w valid s next fit is group =
    let kept : IsKept b w.point = record { once = λ id. stands_once_always b next.steps w.point id valid next.leads; counts = next.counts } in
    let step_ : IsStep pt.kernel.machines n.step = subst (λ (k : ℕ). IsStep k n.step) (sym s.machines) fit in
    subst (λ (k : ℕ). IsLess (left b.numbers k w.point.view) (left b.numbers pt.kernel.machines pt.view)) (s.machines ∙ sym next.machines)
    (left_falls b s.steps pt n.step w valid s.leads step_ is group kept)

settle_on : (b : Boot) (ds : List Directive) → IsValid b → Rest b ds → Falls (Comes b ds)
settle_on b ds valid rest x smaller pt t s is e =
    let h = settles_always b s.steps pt t valid s.leads is.pass in
    let n = length b.machines in
    elim (cases_Bool (is_quiet pt.kernel.machines pt.view)) [
      | inl quiet ↦ goes_behind b ds pt t rest s is.behind (h.over (passes_quiet pt.kernel.machines pt.view quiet))
      | inr not_quiet ↦
          let g = h.goes (λ q. false≢true (sym not_quiet ∙ quiet_passes pt.kernel.machines pt.view q)) in
          let due : follows b pt t ≡ Some g.next = ap (λ (k : ℕ). next_step k pt t) (sym s.machines) ∙ g.is in
          let fits = next_fits n (seen_at n pt) t g.next is.fits due in
          goes b pt t g.next valid s due fits.step
          (λ w group next.
          smaller (left b.numbers w.point.kernel.machines w.point.view) (subst (IsLess (left b.numbers w.point.kernel.machines w.point.view)) e (group_less b pt g.next w valid s next fits.step g.step group)) w.point g.next.left next
          (record { fits = fits.left; pass = g.pass; behind = g.behind ∙ is.behind }) refl)
    ]

pub settle_out : (b : Boot) (ds : List Directive) → IsValid b → All (IsDirective (length b.machines)) ds → Rest b ds → (pt : Point) → Stood b pt → From b pt (between 0 (Directive.Settle ∷ ds))
settle_out b ds valid fit rest pt s =
    let n = length b.machines in
    let begun : Todo = record { pairs = []; machines = []; pass = Settle; directives = ds } in
    let fits : IsTodo n begun = record { pairs = All-nil (IsTwo n); machines_ = All-nil (IsBelow n); directives = fit } in
    let later = next_pass n (seen_at n pt) Settle ds in
    let e : follows b pt (between 0 (Directive.Settle ∷ ds)) ≡ follows b pt begun = sym (ap (λ (o : Option Next). or o later) (none_if (is_quiet n pt.view))) in
    same b pt (between 0 (Directive.Settle ∷ ds)) begun s e
    (by_left (Comes b ds) (settle_on b ds valid rest) (left b.numbers pt.kernel.machines pt.view) pt begun s (record { fits = fits; pass = refl; behind = refl }) refl)
