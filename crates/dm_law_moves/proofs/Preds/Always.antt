-- Wherever the rule leads, each forwarding address is held back.
use Rattle.dm_law_moves.proofs.Names.{◌≡◌, ℕ, ◌<◌, ◌≤◌, ◌==◌, Bool, true, false, List, refl, ap, ◌∙◌, sym, subst, arith, nat_tests, Option, None, Some, is_some, false≢true, Boot, BootProcess, Step, IsValid, Leads, Pid, pid_of, MsgId}
use Rattle.dm_law_moves.proofs.Names.{MessageKind, PlainMessage, Told, Of, Known, Unknown, Here, Incoming, Forward, first_view, first_point, Point, Spot, Queue, Held, Inbox, Untaken, standing, times, is_between, sort_of, pulls_piece}
use Rattle.dm_law_moves.proofs.Names.{brings_piece, Phase, Moves, IsIn, receiver_in, sender_in, told_between, IsToken, IsLeft, Asks, Comes, Token, LeftOver, token_is, about_same, Run, run_always, length, eq_self, machine_of, is_server}
use Rattle.dm_law_moves.proofs.Names.{start_known, ◌⊎◌, inl, inr, agrees, has_nothing_held, Life, stands_right, is_kernels, kernels_fresh, own_by, known_at, IsHeldBack, ByPreds, ByBury, ByCallOff, PredecessorsAlways, is_way_to}
use Rattle.dm_law_moves.proofs.After.{keeps_always}
use Rattle.dm_law_moves.proofs.Ends.Parts.{told_one}
use Rattle.dm_law_moves.proofs.Preds.Kept.{Clears, Buries, CallsOff, IsKept, ByPred, ByWord, Preds, is_word, clears_word}
use Rattle.dm_law_moves.proofs.Preds.Lines.{bag_spared}
use Rattle.dm_law_moves.proofs.Preds.Groups.{group_preds}

-- at the start nothing forwards, and nothing comes
starts_apart : (ps : List BootProcess) (m : ℕ) (q : Pid) → (known_at ps m q ≡ Here) ⊎ (known_at ps m q ≡ Unknown)
starts_apart ps m q = grind (arith, nat_tests, start_known)

preds_start : (n : ℕ) (b : Boot) → Preds n (first_view b)
preds_start n b = record {
  back = λ m k c p e. elim (starts_apart b.processes m p) [ inl is ↦ (let f : Here ≡ Forward k c = sym is ∙ e in cc) | inr is ↦ (let f : Unknown ≡ Forward k c = sym is ∙ e in cc) ];
  others = λ m p. refl;
  none = λ m r p e. refl;
  within = λ m r p e. absurd (false≢true e);
  comes = λ k s p e. elim (starts_apart b.processes k p) [ inl is ↦ (let f : Here ≡ Incoming s = sym is ∙ e in cc) | inr is ↦ (let f : Unknown ≡ Incoming s = sym is ∙ e in cc) ];
}

pub preds_always : (b : Boot) (es : List Step) (pt : Point) → IsValid b → Leads b (first_point b) es pt → Preds (length b.machines) pt.view
preds_always b es pt valid leads = keeps_always b (λ (q : Point). Preds (length b.machines) q.view) (λ q d w fit is run h. group_preds (length b.machines) b q d w is run run.based.machines h) valid (preds_start (length b.machines) b) es pt leads

-- a burial stands on its way: in no queue, which has messages of the bag, and in no held list, which is of a process
listed : (b : Boot) (pt : Point) (i : MsgId) (t : Told) (m k : ℕ) (q : Pid) → Run b pt → pt.view.told i ≡ Some t → t.receiver ≡ pid_of m 0 → 1 ≤ times i (pt.view.held k q) → ⊥
listed b pt i t m k q run told to least =
    let (u, is, for) = run.based.held k q i least in
    let same : u ≡ t = told_one (pt.view.told i) u t is told in
    let zero_ : q.num ≡ 0 = ap (λ (x : Pid). x.num) (sym for ∙ ap (λ (y : Told). y.receiver) same ∙ to) in
    let server : is_server q ≡ false = grind (arith, nat_tests) in
    let some : has_nothing_held (pt.view.known k q) ≡ false = by_held (has_nothing_held (pt.view.known k q)) refl in
    let made : is_some (pt.kernel.processes q) ≡ true = is_made (pt.view.known k q) (pt.kernel.processes q) some (run.based.known.agree k q server) in
    let least_ = run.based.phased.state.sound.made.least q made in
    grind (arith, nat_tests)
  where
    by_held : (c : Bool) → has_nothing_held (pt.view.known k q) ≡ c → c ≡ false
    by_held true none = (let f : times i (pt.view.held k q) ≡ 0 = ap (times i) (run.based.lists.held k q none) in absurd (omega (arith, least, f)))
    by_held false some = refl

    is_made : (x : Known) (o : Option Life) → has_nothing_held x ≡ false → agrees x o ≡ true → is_some o ≡ true
    is_made x o some e = grind (arith, nat_tests)

waits_not : (b : Boot) (pt : Point) (i : MsgId) (t : Told) (k : ℕ) (q : Pid) → Run b pt → pt.view.told i ≡ Some t → is_word t ≡ true → 1 ≤ times i (pt.view.queue k q) → ⊥
waits_not b pt i t k q run told word least = by_bag (pt.kernel.bag i) refl
  where
    by_bag : (o : Option PlainMessage) → pt.kernel.bag i ≡ o → ⊥
    by_bag (Some x) there = false≢true (sym (bag_spared pt run.based.phased.sane i x there t told) ∙ word)
    by_bag None there =
        let own : is_kernels i ≡ true = own_by (is_kernels i) (standing pt.view i) (Queue k q) least (stands_right pt i run.based.phased.state None there) in
        let fresh = kernels_fresh run.based.phased.sane.r run.based.phased.sane.e pt.kernel i run.based.phased.sane.sound own in
        let entered = (run.based.queued k q i least).entered in
        grind (arith, nat_tests)

on_way : (b : Boot) (pt : Point) (i : MsgId) (t : Told) (m : ℕ) (z : Spot) → Run b pt → pt.view.told i ≡ Some t → is_word t ≡ true → t.receiver ≡ pid_of m 0 → 1 ≤ standing pt.view i z → is_way_to m z ≡ true
on_way b pt i t m z run told word to st = by_spot z st (run.found.fixed i z t st told (ap (λ (x : Pid). x.num == 0) to) ∙ ap (λ (x : Pid). x.home) to)
  where
    by_spot : (z : Spot) → 1 ≤ standing pt.view i z → machine_of z ≡ m → is_way_to m z ≡ true
    by_spot (Queue k q) st at = absurd (waits_not b pt i t k q run told word st)
    by_spot (Held k q) st at = absurd (listed b pt i t m k q run told to st)
    by_spot (Inbox k) st at = ap (λ (x : ℕ). m == x) at ∙ eq_self m
    by_spot (Untaken a k) st at = ap (λ (x : ℕ). m == x) at ∙ eq_self m

-- the word of a calling off is the one message about its process
called_phase : (b : Boot) (pt : Point) (p : Pid) (m k : ℕ) (i : MsgId) (t : Told) (z : Spot) → Run b pt → pt.view.told i ≡ Some t → t.about ≡ Of p → t.kind ≡ MessageKind.CallOff → t.receiver ≡ pid_of k 0 → i.from ≡ pid_of m 0 → 1 ≤ standing pt.view i z → IsHeldBack pt p m k
called_phase b pt p m k i t z run told about kind to from st =
    let v = pt.view in
    let h = run.based.phased.phases in
    let (q, of, which) = token_is v h i t z told (ap is_between kind) st in
    let same : q ≡ p = about_same q p (sym of ∙ about) in
    elim which [
      | Token c s d phase ↦
          let now : IsIn v q (Moves c s d (Some i)) = subst (λ (x : Phase). IsIn v q x) phase (h.each q) in
          let token : IsToken v q c s d i = now.token in
          let is : told_between q c s d ≡ t = told_one (v.told i) (told_between q c s d) t token.told told in
          let ck : c ≡ MessageKind.CallOff = ap (λ (y : Told). y.kind) is ∙ kind in
          let source : s ≡ k = ap (λ (x : MessageKind). receiver_in x s d) (sym ck) ∙ ap (λ (y : Told). y.receiver.home) is ∙ ap (λ (x : Pid). x.home) to in
          let target : d ≡ m = ap (λ (x : MessageKind). sender_in x s d) (sym ck) ∙ ap (λ (x : Pid). x.home) (sym token.from ∙ from) in
          let one : IsIn v p (Moves MessageKind.CallOff s d (Some i)) = subst (λ (x : MessageKind). IsIn v p (Moves x s d (Some i))) ck (subst (λ (r : Pid). IsIn v r (Moves c s d (Some i))) same now) in
          ByCallOff (Some i) (subst (λ (x : ℕ). IsIn v p (Moves MessageKind.CallOff k x (Some i))) target (subst (λ (x : ℕ). IsIn v p (Moves MessageKind.CallOff x d (Some i))) source one))
      | LeftOver left ↦ absurd (no_left q left)
    ]
  where
    no_left : (q : Pid) → IsLeft pt.view q (run.based.phased.phases.of q) i t → ⊥
    no_left q (Asks s d j pulls say way is first) = false≢true (sym (ap (λ (x : MessageKind). pulls_piece (sort_of x)) kind) ∙ pulls)
    no_left q (Comes s d brings say way off first) = false≢true (sym (ap (λ (x : MessageKind). brings_piece (sort_of x)) kind) ∙ brings)

held_back : (b : Boot) (pt : Point) (n m k : ℕ) (p : Pid) → Run b pt → Preds n pt.view → IsKept pt.view p m k → IsHeldBack pt p m k
held_back b pt n m k p run h (ByPred e) = ByPreds e (λ is. false≢true (sym (h.none k m p is) ∙ e))
held_back b pt n m k p run h (ByWord x) = by_word x.clears
  where
    by_word : Clears m k x.message x.told → IsHeldBack pt p m k
    by_word (Buries kind to) = ByBury x.message x.told x.stands.0 x.is kind to x.about (on_way b pt x.message x.told m x.stands.0 run x.is (clears_word m k x.message x.told x.clears) to x.stands.1) x.stands.1
    by_word (CallsOff kind to from) = called_phase b pt p m k x.message x.told x.stands.0 run x.is x.about kind to from x.stands.1

pub predecessors_always : PredecessorsAlways
predecessors_always b es pt valid leads =
    let run = (run_always b es pt valid leads).run in
    let n = length b.machines in
    let h = preds_always b es pt valid leads in
    record {
      back = λ m k c p e. held_back b pt n m k p run h (h.back m k c p e);
      others = h.others;
      none = λ m r p e. h.none m r p e;
      within = λ m r p e. subst (λ (x : ℕ). r < x) (sym run.based.machines) (h.within m r p e);
      comes = λ k s p e. h.comes k s p e;
    }
