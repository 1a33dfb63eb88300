-- How far a text has been checked, group by group.
use Rattle.dm_check.proofs.Names.{◌≡◌, ◌<◌, ℕ, ◌+◌, true, List, [], ◌∷◌, ◌++◌, length, refl, ap, sym, ◌∙◌, subst, append_assoc, append-nil, length-append, arith, Some, All, All-nil, All-cons}
use Rattle.dm_check.proofs.Names.{All-append, Boot, Step, Line, LineFits, pieces, text_of_lines, WorldState, joined, Went, goes, Does, suc, HasChecked, JudgedBy, JudgedThere, LacksGroup, IsStray, JudgeError, NoneDue, told_of_none, Wearing, due_behind, ComesTo, SaysAs}
use Rattle.dm_check.proofs.Names.{first_line, head_of_line, AllHeld, AreHeads, Course, Verdict, behind_line, can_hold, judged_from, verdict_by}
use Rattle.dm_line.specs.declared.line.Line.TheVariants as line
use Rattle.dm_check.specs.Judge as judge
use Rattle.dm_check.proofs.Heads.{IsHeaded, headed}
use Rattle.dm_check.proofs.Dues.{front_due, head_due}
use Rattle.dm_check.proofs.Judging.{due_group, group_stands, lines_append}
use Rattle.dm_check.proofs.Straying.{judged_on, none_judged, stray_judged}
use Rattle.dm_run.proofs.Printing.{joined_last}

pub heads_last : (es : List Step) (gs : List (List Line)) (e : Step) (g rest : List Line) → AreHeads es gs → g ≡ line.Head e ∷ rest → AreHeads (es ++ e ∷ []) (gs ++ g ∷ [])
heads_last [] [] e g rest h is = ((rest, is), tt)
heads_last [] (k ∷ gs) e g rest h is = absurd h
heads_last (d ∷ es) [] e g rest h is = absurd h
heads_last (d ∷ es) (k ∷ gs) e g rest h is = (h.0, heads_last es gs e g rest h.1 is)

held_last : (machines : ℕ) (es : List Step) (e : Step) → AllHeld machines es → can_hold machines e ≡ true → AllHeld machines (es ++ e ∷ [])
held_last machines es e h is = All-append (λ d. can_hold machines d ≡ true) es (e ∷ []) h (All-cons (λ d. can_hold machines d ≡ true) e [] is (All-nil (λ d. can_hold machines d ≡ true)))

-- before the first line
pub checks_begin : (b : Boot) (bytes : List ℕ) (w : WorldState) → Went b [] [] w → HasChecked b bytes bytes 1 0 w
unfolding verdict_by text_of_lines
checks_begin b bytes w went = record {
  steps = [];
  lines = [];
  went = went;
  held = All-nil (λ e. can_hold (length b.machines) e ≡ true);
  heads = tt;
  fits = All-nil LineFits;
  count = refl;
  done = refl;
  read = refl;
  goes = λ k s. refl;
  before = 0;
  counted = refl;
  due = λ k wears n s. let same : 0 + n ≡ n = omega arith in ap (λ (j : ℕ). due_behind k wears (judge.Head []) 1 j (pieces 10 bytes)) same;
}

-- the lines of a group begin with its head
pub does_head : (b : Boot) (w v : WorldState) (e : Step) (lines : List Line) → Does b w e lines v → IsHeaded e lines
does_head b w v e lines d = headed b w e (record { state = v; lines = lines }) d.happens

-- so its lines are due
group_due : (k : Course) (b : Boot) (es : List Step) (gs : List (List Line)) (w v : WorldState) (e : Step) (lines : List Line) (number : ℕ) (ps : List (List ℕ)) → SaysAs b k → Went b es gs w → head_of_line (first_line ps) ≡ Some e
    → can_hold (length b.machines) e ≡ true → Does b w e lines v → judged_from k (judge.Head es) number ps ≡ judged_from k (behind_line lines (es ++ e ∷ [])) number ps
group_due k b es gs w v e lines number ps s went head held d =
    let (rest, begins) = does_head b w v e lines d in
    let can : can_hold k.machines e ≡ true = ap (λ (n : ℕ). can_hold n e) s.machines ∙ held in
    due_group k es number ps e (line.Head e) rest head can (s.goes es gs w e lines v went d ∙ ap (λ (ls : List Line). Some ls) begins)
    ∙ ap (λ ls. judged_from k (behind_line ls (es ++ e ∷ [])) number ps) (sym begins)

-- so is what was due behind them
due_over : (k : Course) (b : Boot) (wears : Wearing) (es : List Step) (gs : List (List Line)) (w v : WorldState) (e : Step) (lines behind : List Line) (number n : ℕ) (rest others : List ℕ) → SaysAs b k → Went b es gs w → head_of_line (first_line (pieces 10 rest)) ≡ Some e
    → can_hold (length b.machines) e ≡ true → Does b w e lines v → lines ≡ line.Head e ∷ behind → All LineFits lines → rest ≡ text_of_lines lines ++ others
    → due_behind k wears (judge.Head es) number (length lines + n) (pieces 10 rest) ≡ due_behind k wears (judge.Head (es ++ e ∷ [])) (number + length lines) n (pieces 10 others)
due_over k b wears es gs w v e lines behind number n rest others s went head held d begins fits read =
    let can : can_hold k.machines e ≡ true = ap (λ (m : ℕ). can_hold m e) s.machines ∙ held in
    let group : k.group es e ≡ Some (line.Head e ∷ behind) = s.goes es gs w e lines v went d ∙ ap (λ (ls : List Line). Some ls) begins in
    let size : length lines ≡ suc (length behind) = ap (λ (ls : List Line). length ls) begins in
    let count : length lines + n ≡ suc (length behind + n) = omega (arith, size) in
    ap (λ (j : ℕ). due_behind k wears (judge.Head es) number j (pieces 10 rest)) count
    ∙ head_due k wears es number (length behind + n) (pieces 10 rest) e behind head can group
    ∙ ap (λ (j : ℕ). due_behind k wears (judge.InGroup (line.Head e) behind (es ++ e ∷ [])) number j (pieces 10 rest)) (sym count)
    ∙ ap (λ (ls : List Line). due_behind k wears (behind_line ls (es ++ e ∷ [])) number (length lines + n) (pieces 10 rest)) (sym begins ∙ sym (append-nil lines))
    ∙ ap (λ (t : List ℕ). due_behind k wears (behind_line (lines ++ []) (es ++ e ∷ [])) number (length lines + n) (pieces 10 t)) read
    ∙ front_due k wears lines [] (es ++ e ∷ []) number n others fits

-- the group of a head is due, and its lines stand
pub checks_on : (b : Boot) (bytes rest others : List ℕ) (number groups : ℕ) (w v : WorldState) (e : Step) (lines : List Line) → HasChecked b bytes rest number groups w
    → head_of_line (first_line (pieces 10 rest)) ≡ Some e → can_hold (length b.machines) e ≡ true → Does b w e lines v → All LineFits lines → rest ≡ text_of_lines lines ++ others
    → HasChecked b bytes others (number + length lines) (groups + 1) v
checks_on b bytes rest others number groups w v e lines h head held d fits read =
    let stand : (k : Course) (es : List Step) → judged_from k (behind_line lines es) number (pieces 10 rest) ≡ judged_from k (judge.Head es) (number + length lines) (pieces 10 others) =
    λ k es. ap (λ (t : List ℕ). judged_from k (behind_line lines es) number (pieces 10 t)) read ∙ group_stands k lines es number others fits in
    let (behind, begins) = does_head b w v e lines d in
    let counts : length h.lines ≡ groups = h.count in
    let dones : length h.steps ≡ groups = h.done in
    record {
      steps = h.steps ++ e ∷ [];
      lines = h.lines ++ lines ∷ [];
      went = goes h.steps h.lines w e lines v h.went d;
      held = held_last (length b.machines) h.steps e h.held held;
      heads = heads_last h.steps h.lines e lines behind h.heads begins;
      fits = subst (All LineFits) (sym (joined_last h.lines lines)) (All-append LineFits (joined h.lines) lines h.fits fits);
      count = omega (arith, counts, length-append h.lines (lines ∷ []));
      done = omega (arith, dones, length-append h.steps (e ∷ []));
      read =
          h.read ∙ ap (λ t. text_of_lines (joined h.lines) ++ t) read ∙ sym (append_assoc (text_of_lines (joined h.lines)) (text_of_lines lines) others)
          ∙ ap (λ t. t ++ others) (sym (lines_append (joined h.lines) lines)) ∙ ap (λ ls. text_of_lines ls ++ others) (sym (joined_last h.lines lines));
      goes = λ k s. h.goes k s ∙ group_due k b h.steps h.lines w v e lines number (pieces 10 rest) s h.went head held d ∙ stand k (h.steps ++ e ∷ []);
      before = h.before + length lines;
      counted = omega (arith, h.counted);
      due = λ k wears n s.
          let more : h.before + length lines + n ≡ h.before + (length lines + n) = omega arith in
          ap (λ (j : ℕ). due_behind k wears (judge.Head []) 1 j (pieces 10 bytes)) more ∙ h.due k wears (length lines + n) s
          ∙ due_over k b wears h.steps h.lines w v e lines behind number n rest others s h.went head held d begins fits read;
    }

-- its lines don't stand
pub checks_fall : (b : Boot) (bytes rest : List ℕ) (number groups : ℕ) (w v : WorldState) (e : Step) (lines : List Line) (x : JudgeError) → HasChecked b bytes rest number groups w
    → head_of_line (first_line (pieces 10 rest)) ≡ Some e → can_hold (length b.machines) e ≡ true → Does b w e lines v → All LineFits lines → IsStray b.quantum e lines rest number x → JudgedBy b bytes x
checks_fall b bytes rest number groups w v e lines x h head held d fits strays =
    judged_on b bytes rest number groups w x h (λ k es gs s went.
    let (more, begins) = does_head b w v e lines d in
    stray_judged b k es e lines more rest number x begins fits head (ap (λ (n : ℕ). can_hold n e) s.machines ∙ held) (s.goes es gs w e lines v went d)
    (subst (λ (q : ℕ). IsStray q e lines rest number x) (sym s.quantum) strays))

-- no group is due behind it
pub checks_stop : (b c : Boot) (bytes rest : List ℕ) (number groups : ℕ) (w : WorldState) (e : Step) (why : NoneDue) (x : JudgeError) → c ≡ b → HasChecked b bytes rest number groups w
    → head_of_line (first_line (pieces 10 rest)) ≡ Some e → LacksGroup c w e why → x ≡ told_of_none why e number → JudgedBy b bytes x
checks_stop b c bytes rest number groups w e why x same h head lacks is =
    judged_on b bytes rest number groups w x h (none_judged b w e number why x (subst (λ (d : Boot). LacksGroup d w e why) same lacks) is (pieces 10 rest) head)

-- the same of a world of this boot file, and of the lines as a slice
pub checks_more : (b c : Boot) (bytes rest others : List ℕ) (number groups : ℕ) (w v : WorldState) (e : Step) (lines slice : List Line) → c ≡ b → slice ≡ lines → HasChecked b bytes rest number groups w
    → head_of_line (first_line (pieces 10 rest)) ≡ Some e → can_hold (length c.machines) e ≡ true → Does c w e lines v → All LineFits lines → rest ≡ text_of_lines slice ++ others
    → HasChecked b bytes others (number + length lines) (groups + 1) v
checks_more b c bytes rest others number groups w v e lines slice same is h head held d fits read =
    checks_on b bytes rest others number groups w v e lines h head (subst (λ (x : Boot). can_hold (length x.machines) e ≡ true) same held) (subst (λ (x : Boot). Does x w e lines v) same d) fits
    (subst (λ (ls : List Line). rest ≡ text_of_lines ls ++ others) is read)

pub checks_less : (b c : Boot) (quantum : ℕ) (bytes rest : List ℕ) (number groups : ℕ) (w v : WorldState) (e : Step) (lines slice : List Line) (x : JudgeError) → c ≡ b → b.quantum ≡ quantum → slice ≡ lines → HasChecked b bytes rest number groups w
    → head_of_line (first_line (pieces 10 rest)) ≡ Some e → can_hold (length c.machines) e ≡ true → Does c w e lines v → All LineFits lines → IsStray quantum e slice rest number x → JudgedBy b bytes x
checks_less b c quantum bytes rest number groups w v e lines slice x same equal is h head held d fits strays =
    checks_fall b bytes rest number groups w v e lines x h head (subst (λ (y : Boot). can_hold (length y.machines) e ≡ true) same held) (subst (λ (y : Boot). Does y w e lines v) same d) fits
    (subst (λ (ls : List Line). IsStray b.quantum e ls rest number x) is (subst (λ (q : ℕ). IsStray q e slice rest number x) (sym equal) strays))

-- a group has a line
pub some_lines : (b : Boot) (w v : WorldState) (e : Step) (lines : List Line) → Does b w e lines v → 0 < length lines
some_lines b w v e lines d =
    let (behind, begins) = does_head b w v e lines d in
    let size : length lines ≡ length (line.Head e ∷ behind) = ap (λ (ls : List Line). length ls) begins in
    omega (arith, size)

-- what stands behind whole groups, for whatever says what the machines say
abbrev pub StandsBehind : Boot → WorldState → ℕ → List ℕ → (ℕ → Verdict → Type 0) → Type 0
StandsBehind b w number rest P = (k : Course) (es : List Step) (gs : List (List Line)) → SaysAs b k → Went b es gs w → P (length es) (judged_from k (judge.Head es) number (pieces 10 rest))

-- no head is left, and what is left is refused
pub checks_refused : (b c : Boot) (bytes rest : List ℕ) (number groups : ℕ) (w : WorldState) (x : JudgeError) → c ≡ b → HasChecked b bytes rest number groups w → JudgedThere c w number (pieces 10 rest) x → JudgedBy b bytes x
checks_refused b c bytes rest number groups w x same h refused = judged_on b bytes rest number groups w x h (subst (λ (d : Boot). JudgedThere d w number (pieces 10 rest) x) same refused)

-- or it is good
pub checks_good : (b c : Boot) (bytes rest : List ℕ) (number groups : ℕ) (w : WorldState) (good : ℕ → Verdict) → c ≡ b → HasChecked b bytes rest number groups w
    → StandsBehind c w number rest (λ n v. v ≡ good n) → ComesTo b bytes (good groups)
checks_good b c bytes rest number groups w good same h stands k s =
    let here : StandsBehind b w number rest (λ n v. v ≡ good n) = subst (λ (d : Boot). StandsBehind d w number rest (λ n v. v ≡ good n)) same stands in
    h.goes k s ∙ here k h.steps h.lines s h.went ∙ ap good h.done
