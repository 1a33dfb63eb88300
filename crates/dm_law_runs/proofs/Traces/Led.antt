-- Where directives lead by the rule, one by one.
use Rattle.dm_law_runs.proofs.Names.{◌≡◌, List, [], ◌∷◌, ◌++◌, ap, ◌∙◌, bind, bind-is, Boot, Step, Two, Leads, Spelled, Point, first_point, group_of, worn_in, end_lines, by_rule, led, rule_group, rule_ends, unless_worn}
use Rattle.std.proofs.Common.{Some, None}

-- they lead there
pub led_of : (b : Boot) (es : List Step) (pt end : Point) → Leads b pt es end → led b pt es ≡ Some end
led_of b [] pt end h = ap (λ (q : Point). Some q) h
led_of b (e ∷ es) pt end (w, fits, due, more) = ap (λ o. bind o (λ (w : Spelled). led b w.point es)) due ∙ led_of b es w.point end more

-- and one more
pub led_last : (b : Boot) (es : List Step) (pt q : Point) (e : Step) (w : Spelled) → led b pt es ≡ Some q → group_of b q e ≡ Some w → led b pt (es ++ e ∷ []) ≡ Some w.point
led_last b [] pt q e w h due =
    let f : pt ≡ q = cc in
    ap (λ (p : Point). bind (group_of b p e) (λ (w : Spelled). Some w.point)) f ∙ ap (λ o. bind o (λ (w : Spelled). Some w.point)) due
led_last b (d ∷ es) pt q e w h due =
    let (v, is, more) = bind-is (group_of b pt d) (λ (v : Spelled). led b v.point es) q h in
    ap (λ o. bind o (λ (v : Spelled). led b v.point (es ++ e ∷ []))) is ∙ led_last b es v.point q e w more due

-- the group of one more
pub group_there : (b : Boot) (es : List Step) (pt : Point) (e : Step) (w : Spelled) → led b (first_point b) es ≡ Some pt → group_of b pt e ≡ Some w → worn_in b.numbers pt.view w.lines ≡ None → (by_rule b).group es e ≡ Some w.lines
group_there b es pt e w there due fresh =
    ap (λ o. bind o (rule_group b e)) there ∙ ap (λ o. bind o (λ (v : Spelled). unless_worn (worn_in b.numbers pt.view v.lines) v.lines)) due ∙ ap (λ o. unless_worn o w.lines) fresh

-- it would route a message between two machines that count as many as they may
pub worn_there : (b : Boot) (es : List Step) (pt : Point) (e : Step) (w : Spelled) (two : Two) → led b (first_point b) es ≡ Some pt → group_of b pt e ≡ Some w → worn_in b.numbers pt.view w.lines ≡ Some two → (by_rule b).group es e ≡ None
worn_there b es pt e w two there due worn =
    ap (λ o. bind o (rule_group b e)) there ∙ ap (λ o. bind o (λ (v : Spelled). unless_worn (worn_in b.numbers pt.view v.lines) v.lines)) due ∙ ap (λ o. unless_worn o w.lines) worn

-- the lines at the end
pub ends_there : (b : Boot) (es : List Step) (pt : Point) → led b (first_point b) es ≡ Some pt → (by_rule b).ends es ≡ end_lines pt
ends_there b es pt there = ap rule_ends there
